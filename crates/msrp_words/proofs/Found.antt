-- No command is asked for.
use Rattle.std.proofs.Common.{◌≡◌, ◌∙◌}
use Rattle.msrp_plan.proofs.Common.{false, true, List, Option, Some, None, Result, Ok, Err, codes, ok_or, refl, sym, bytes_eq}
use Rattle.std.proofs.lemmas.Slice.Eq.{bytes_eq-Decides}
use Rattle.clap.specs.Words.{Row, Text, first_of}
use Rattle.msrp_words.specs.Words.{IsAsked, IsCommand, order_of}
use Rattle.msrp_words.specs.declared.cli.Cmd.{Cmd}
use Rattle.msrp_words.specs.declared.cli.Cmd.TheVariants.{Sim, Run, Audit, Report, Check, CheckText, Help}
use Rattle.msrp_cli.specs.Arguments.{paths_of}
use Rattle.msrp_faults.specs.declared.faults.CliFault.{CliFault}
use Rattle.msrp_faults.specs.declared.faults.CliFault.TheVariants.{Usage}

pub a_value : {A : Type 0} (found : Option A) (a : A) → Ok a ≡ ok_or found Usage → found ≡ Some a
a_value None a e = absurd (cc)
a_value (Some b) a e = cc

no_value : {A : Type 0} (found : Option A) (fault : CliFault) → Err fault ≡ ok_or found Usage → (fault ≡ Usage) × (found ≡ None)
no_value None fault e = (cc, refl)
no_value (Some b) fault e = absurd (cc)

none_some : {A : Type 0} (found : Option A) (a : A) → found ≡ None → found ≡ Some a → ⊥
none_some found a none some = let bad : None ≡ Some a = sym none ∙ some in absurd (cc)

differ : (one other : Text) → bytes_eq one other ≡ false → one ≡ other → ⊥
differ one other apart same = let bad : true ≡ false = sym ((bytes_eq-Decides one other).1 same) ∙ apart in absurd (cc)

-- other words ask for other commands
no_sim : (rows : List Row) → order_of (first_of (codes "order") rows) ≡ None → (command : Cmd) → IsCommand (codes "sim") rows command → ⊥
no_sim rows none (Sim order version plan) h = none_some _ order none h.1.0
no_sim rows none (Run version plan) h = differ (codes "run") (codes "sim") refl h.0
no_sim rows none (Audit parallel plan trace) h = differ (codes "audit") (codes "sim") refl h.0
no_sim rows none (Report plan trace) h = differ (codes "report") (codes "sim") refl h.0
no_sim rows none (Check plan) h = differ (codes "check") (codes "sim") refl h.0
no_sim rows none (CheckText plan) h = differ (codes "check") (codes "sim") refl h.0
no_sim rows none Help h = h.1

no_audit : (rows : List Row) → paths_of rows ≡ None → (command : Cmd) → IsCommand (codes "audit") rows command → ⊥
no_audit rows none (Sim order version plan) h = differ (codes "sim") (codes "audit") refl h.0
no_audit rows none (Run version plan) h = differ (codes "run") (codes "audit") refl h.0
no_audit rows none (Audit parallel plan trace) h = none_some _ (plan.now, trace.now) none h.1.1
no_audit rows none (Report plan trace) h = differ (codes "report") (codes "audit") refl h.0
no_audit rows none (Check plan) h = differ (codes "check") (codes "audit") refl h.0
no_audit rows none (CheckText plan) h = differ (codes "check") (codes "audit") refl h.0
no_audit rows none Help h = h.1

no_report : (rows : List Row) → paths_of rows ≡ None → (command : Cmd) → IsCommand (codes "report") rows command → ⊥
no_report rows none (Sim order version plan) h = differ (codes "sim") (codes "report") refl h.0
no_report rows none (Run version plan) h = differ (codes "run") (codes "report") refl h.0
no_report rows none (Audit parallel plan trace) h = differ (codes "audit") (codes "report") refl h.0
no_report rows none (Report plan trace) h = none_some _ (plan.now, trace.now) none h.1
no_report rows none (Check plan) h = differ (codes "check") (codes "report") refl h.0
no_report rows none (CheckText plan) h = differ (codes "check") (codes "report") refl h.0
no_report rows none Help h = h.1

-- no command is asked for, so it is usage
pub sim_refused : (rows : List Row) (fault : CliFault) (result : Result Cmd CliFault) → Err fault ≡ ok_or (order_of (first_of (codes "order") rows)) Usage → result ≡ Err fault → IsAsked (codes "sim") rows result
sim_refused rows fault result e is = let none = no_value _ fault e in rw is (none.0, no_sim rows none.1)

pub audit_refused : (rows : List Row) (fault : CliFault) (result : Result Cmd CliFault) → Err fault ≡ ok_or (paths_of rows) Usage → result ≡ Err fault → IsAsked (codes "audit") rows result
audit_refused rows fault result e is = let none = no_value _ fault e in rw is (none.0, no_audit rows none.1)

pub report_refused : (rows : List Row) (fault : CliFault) (result : Result Cmd CliFault) → Err fault ≡ ok_or (paths_of rows) Usage → result ≡ Err fault → IsAsked (codes "report") rows result
report_refused rows fault result e is = let none = no_value _ fault e in rw is (none.0, no_report rows none.1)
