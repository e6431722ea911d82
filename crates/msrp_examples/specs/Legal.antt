-- A trace's text with a legal run of another text's plan.
use Rattle.std.specs.Prelude.{◌≡◌}
use Rattle.msrp_plan.specs.Common.{ℕ, List, None, Ok, PlanModel, IsRun}
use Rattle.msrp_text.specs.Reading.{csv_records, plan_of}
use Rattle.msrp_trace.specs.Reading.{rows_of}

-- the plan is accepted, no record of the trace is refused, and its rows are a legal run of the plan
pub record TellsRun (plan_bytes trace_bytes : List ℕ) : Type 0 where
  pub plan : PlanModel
  pub accepted : plan_of (csv_records plan_bytes) ≡ Ok plan
  pub whole : (rows_of plan (csv_records trace_bytes)).refusal ≡ None
  pub run : IsRun plan (rows_of plan (csv_records trace_bytes)).rows
