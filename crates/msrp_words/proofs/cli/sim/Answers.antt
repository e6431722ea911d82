use Rattle.msrp_words.proofs.cli.sim.Goals as goal

pub returns : goal.returns
returns c =
    let told = c.command_with-made.ensures _ _ (c.order_arg.ensures.rule, c.order_arg.ensures.own) (c.ahead_arg.ensures.rule, c.ahead_arg.ensures.own) in
    c.with_arg.ensures _ _ told c.plan_path.ensures.rule c.plan_path.ensures.own
