use Rattle.std.proofs.Common.{◌∙◌}
use Rattle.clap.specs.Words.{found_of}
use Rattle.msrp_cli.proofs.Found.{first_is}
use Rattle.msrp_cli.proofs.arguments.value_of.Goals as goal

pub returns : goal.returns
returns c = c.get_str.ensures ∙ first_is (found_of c.args.matches.now) c.args.name.now
