use Rattle.std.proofs.Common.{◌≡◌}
use Rattle.msrp_plan.proofs.Common.{rules, Ok, Err, ok_or, refl}
use Rattle.clap.specs.Words.{found_of, rows_of}
use Rattle.msrp_cli.specs.Arguments.{paths_of}
use Rattle.msrp_faults.specs.declared.faults.CliFault.TheVariants.{Usage}
use Rattle.msrp_words.proofs.Found.{a_value, report_refused}
use Rattle.msrp_words.proofs.cli.report_of.Goals as goal

pub returns-in_err-plan : goal.returns-in_err-plan
returns-in_err-plan c =
    let rows = rows_of (found_of c.args.matches.now) in
    let fault = c.in_err-plan.field-0.0 in
    let out : c.from_residual.result ≡ Err fault = search rules in
    let none : Err fault ≡ ok_or (paths_of rows) Usage = search rules in
    report_refused rows fault c.from_residual.result none out

pub returns : goal.returns
returns c =
    let both : Ok (c.in_ok-plan.plan.now, c.in_ok-plan.trace.now) ≡ ok_or (paths_of (rows_of (found_of c.args.matches.now))) Usage = search rules in
    let paths = a_value _ (c.in_ok-plan.plan.now, c.in_ok-plan.trace.now) both in
    (refl, paths)
