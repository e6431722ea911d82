use Rattle.std.proofs.Common.{◌≡◌}
use Rattle.msrp_plan.proofs.Common.{rules, refl, codes}
use Rattle.clap.specs.Words.{app_of, new_app}
use Rattle.msrp_words.specs.CommandLine.{grammar}
use Rattle.msrp_words.proofs.cli.grammar.Goals as goal

pub returns : goal.returns
unfolding grammar
returns c =
    let top : app_of c.about-program.result ≡ new_app (codes "msrp") = search rules in
    let sim = c.with_command-program.ensures _ _ top c.sim.ensures refl in
    let run = c.with_command-program-2.ensures _ _ sim c.run.ensures refl in
    let audit = c.with_command-program-3.ensures _ _ run c.audit.ensures refl in
    let report = c.with_command-program-4.ensures _ _ audit c.report.ensures refl in
    c.with_command.ensures _ _ report c.check.ensures refl
