-- What an audit finds good is a legal run.
use Rattle.std.proofs.Common.{◌≡◌}
use Rattle.msrp_plan.proofs.Common.{ℕ, List, Option, None, Some, refl, PlanModel, fault_in, verdict, good_is_run}
use Rattle.msrp_plan.specs.declared.faults.Fault.{Fault}
use Rattle.std.specs.declared.result.Result.{Result}
use Rattle.std.specs.declared.result.Result.TheVariants.{Ok, Err}
use Rattle.msrp_text.specs.Reading.{csv_records, plan_of}
use Rattle.msrp_text.specs.declared.reading.TextError.{TextError}
use Rattle.msrp_trace.specs.Reading.{rows_of}
use Rattle.msrp_trace.specs.declared.faults.TraceError.{TraceError}
use Rattle.msrp_engine.specs.Findings.{finding_of, found_first}
use Rattle.msrp_examples.specs.Legal.{TellsRun}

-- nothing is refused, and the verdict is none
found_good : (fault whole : Option Fault) (refusal : Option TraceError) → found_first fault refusal whole ≡ Ok (Ok tt) → (refusal ≡ None) × (whole ≡ None)
found_good None None None h = (refl, refl)
found_good None (Some fault) None h = absurd (cc)
found_good None whole (Some error) h = absurd (cc)
found_good (Some fault) whole refusal h = absurd (cc)

tells : (plan_bytes trace_bytes : List ℕ) (answer : Result PlanModel TextError) → plan_of (csv_records plan_bytes) ≡ answer → finding_of answer (csv_records trace_bytes) ≡ Ok (Ok tt) → TellsRun plan_bytes trace_bytes
tells plan_bytes trace_bytes (Ok plan) is h =
    let told = rows_of plan (csv_records trace_bytes) in
    let good = found_good (fault_in plan told.rows) (verdict plan told.rows) told.refusal h in
    record { plan = plan; accepted = is; whole = good.0; run = good_is_run plan told.rows good.1 }
tells plan_bytes trace_bytes (Err error) is h = absurd (cc)

pub good_tells : (plan_bytes trace_bytes : List ℕ) → finding_of (plan_of (csv_records plan_bytes)) (csv_records trace_bytes) ≡ Ok (Ok tt) → TellsRun plan_bytes trace_bytes
good_tells plan_bytes trace_bytes h = tells plan_bytes trace_bytes (plan_of (csv_records plan_bytes)) refl h
