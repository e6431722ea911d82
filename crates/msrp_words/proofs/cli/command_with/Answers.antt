use Rattle.std.proofs.Common.{◌≡◌}
use Rattle.msrp_plan.proofs.Common.{rules}
use Rattle.clap.specs.Words.{app_of, new_app}
use Rattle.msrp_words.proofs.cli.command_with.Goals as goal

pub returns : goal.returns
returns c = λ one two is also.
    let top : app_of c.about-command.result ≡ new_app c.args.name.now = search rules in
    c.with_arg-2.ensures _ two (c.with_arg.ensures _ one top is.0 is.1) also.0 also.1
