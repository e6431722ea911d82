use Rattle.msrp_words.proofs.cli.check.Goals as goal

pub returns : goal.returns
returns c = c.command_with.ensures _ _ (c.flag.ensures.rule, c.flag.ensures.own) (c.plan_path.ensures.rule, c.plan_path.ensures.own)
