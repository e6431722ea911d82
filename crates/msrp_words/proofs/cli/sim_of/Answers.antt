use Rattle.std.proofs.Common.{◌≡◌}
use Rattle.msrp_plan.proofs.Common.{rules, Ok, Err, codes, ok_or, refl}
use Rattle.clap.specs.Words.{first_of, found_of, rows_of}
use Rattle.msrp_faults.specs.declared.faults.CliFault.TheVariants.{Usage}
use Rattle.msrp_words.specs.Words.{order_of}
use Rattle.msrp_words.proofs.Found.{a_value, sim_refused}
use Rattle.msrp_words.proofs.cli.sim_of.Goals as goal

pub returns-in_err-order_of : goal.returns-in_err-order_of
returns-in_err-order_of c =
    let rows = rows_of (found_of c.args.matches.now) in
    let fault = c.in_err-order_of.field-0.0 in
    let out : c.from_residual.result ≡ Err fault = search rules in
    let none : Err fault ≡ ok_or (order_of (first_of (codes "order") rows)) Usage = search rules in
    sim_refused rows fault c.from_residual.result none out

pub returns : goal.returns
returns c =
    let order : Ok c.in_ok-order_of.field-0 ≡ ok_or (order_of (first_of (codes "order") (rows_of (found_of c.args.matches.now)))) Usage = search rules in
    (refl, (a_value _ c.in_ok-order_of.field-0 order, c.version_of.ensures, c.plan_of.ensures))
