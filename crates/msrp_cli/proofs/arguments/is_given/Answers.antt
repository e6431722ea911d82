use Rattle.std.proofs.Common.{◌∙◌}
use Rattle.msrp_plan.proofs.Common.{rules, ap}
use Rattle.clap.specs.Words.{found_of}
use Rattle.msrp_cli.specs.Arguments.{is_from_words}
use Rattle.msrp_cli.proofs.Found.{equals_words, source_is}
use Rattle.msrp_cli.proofs.arguments.is_given.Goals as goal

pub returns : goal.returns
returns c = equals_words c.value_source.result c.eq.result (search rules) ∙ ap is_from_words (c.value_source.ensures ∙ source_is (found_of c.args.matches.now) c.args.name.now)
