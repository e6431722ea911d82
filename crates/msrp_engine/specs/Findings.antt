-- What an audit of a trace's text finds: a verdict on its rows, or a refusal.
use Rattle.msrp_plan.specs.Common.{ℕ, List, Option, Some, None, ⊤, Result, PlanModel, fault_in, verdict, Ok, Err}
use Rattle.msrp_plan.specs.declared.faults.Fault.{Fault}
use Rattle.msrp_audit.specs.Audits.{answer_of}
use Rattle.msrp_text.specs.declared.reading.TextError.{TextError}
use Rattle.msrp_trace.specs.Reading.{Told, rows_of}
use Rattle.msrp_trace.specs.declared.faults.TraceError.{TraceError}
use Rattle.msrp_faults.specs.Outcomes.{fault_of, trace_fault_of}
use Rattle.msrp_faults.specs.declared.faults.CliFault.{CliFault}

-- a fault of the rows comes first, then the refusal that ends them, otherwise the verdict
abbrev pub found_first : Option Fault → Option TraceError → Option Fault → Result (Result ⊤ Fault) CliFault
found_first (Some fault) refusal whole = Ok (Err fault)
found_first None (Some refusal) whole = Err (trace_fault_of refusal)
found_first None None whole = Ok (answer_of whole)

-- the finding on the rows before the first refused record, and on that refusal
abbrev pub finding : PlanModel → Told → Result (Result ⊤ Fault) CliFault
finding plan told = found_first (fault_in plan told.rows) told.refusal (verdict plan told.rows)

-- the finding of an audit, if the plan's text had this answer and the trace's text has these
-- records: a refused plan is reported whatever the trace is
abbrev pub finding_of : Result PlanModel TextError → List (List (List ℕ)) → Result (Result ⊤ Fault) CliFault
finding_of (Ok plan) records = finding plan (rows_of plan records)
finding_of (Err error) records = Err (fault_of error)
