use Rattle.msrp_words.proofs.cli.judge.Goals as goal

pub returns : goal.returns
returns c = c.command_with.ensures _ _ (c.path.ensures.rule, c.path.ensures.own) (c.path-2.ensures.rule, c.path-2.ensures.own)
