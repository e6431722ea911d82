use Rattle.msrp_words.proofs.cli.audit.Goals as goal

pub returns : goal.returns
returns c = c.with_arg.ensures _ _ c.judge-made.ensures c.flag.ensures.rule c.flag.ensures.own
