use Rattle.msrp_words.proofs.cli.run.Goals as goal

pub returns : goal.returns
returns c = c.command_with.ensures _ _ (c.ahead_arg.ensures.rule, c.ahead_arg.ensures.own) (c.plan_path.ensures.rule, c.plan_path.ensures.own)
