-- What an engine answers, and the exit status.
use Rattle.std.specs.Prelude.{◌||◌, if◌then◌else◌}
use Rattle.msrp_plan.specs.Common.{ℕ, Bool, true, false, Ok, Err, Result, is_within, sink_failed, code_of}
use Rattle.msrp_plan.specs.declared.bytes.Sink.{Sink}
use Rattle.msrp_run.specs.declared.hire.RunError.{RunError}
use Rattle.msrp_run.specs.declared.hire.RunError.TheVariants.{U1, U2}
use Rattle.msrp_text.specs.declared.reading.TextError.{TextError}
use Rattle.msrp_text.specs.declared.reading.TextError.TheVariants as text
use Rattle.msrp_trace.specs.Codes.{code_of as trace_code_of}
use Rattle.msrp_trace.specs.declared.faults.TraceError.{TraceError}
use Rattle.msrp_trace.specs.declared.faults.TraceError.TheVariants as trace
use Rattle.msrp_faults.specs.declared.faults.CliFault.{CliFault}
use Rattle.msrp_faults.specs.declared.faults.CliFault.TheVariants.{Plan, Trace, Usage, Memory, Threads, Read, Write}

-- a plan's text that gave no plan, as a fault of the program
abbrev pub fault_of : TextError → CliFault
fault_of (text.At fault number) = Plan (code_of fault) number
fault_of text.Read = Read
fault_of text.Memory = Memory

-- why a plan was not run, as a fault of the program
abbrev pub run_fault : RunError → CliFault
run_fault U1 = Memory
run_fault U2 = Threads

-- a trace's text that gave no row, as a fault of the program; a refused reader isn't asked again
abbrev pub trace_fault_of : TraceError → CliFault
trace_fault_of (trace.At fault number) = Trace (trace_code_of fault) number
trace_fault_of trace.Read = Read
trace_fault_of trace.Memory = Memory
trace_fault_of trace.Failed = Read

-- the exit status of an outcome
abbrev pub status_of : Result ℕ CliFault → ℕ
status_of (Ok status) = status
status_of (Err (Plan code number)) = 2
status_of (Err (Trace code number)) = 2
status_of (Err Usage) = 3
status_of (Err Memory) = 4
status_of (Err Threads) = 4
status_of (Err Read) = 5
status_of (Err Write) = 5

-- the numbers in the codes of a plan's faults, P1 to P16, and of a trace's, R1 to R8
abbrev pub is_plan_code : ℕ → Bool
is_plan_code code = is_within 1 16 code

abbrev pub is_trace_code : ℕ → Bool
is_trace_code code = is_within 1 8 code

-- the faults of reading a plan's text
abbrev pub is_plan_fault : CliFault → Bool
is_plan_fault (Plan code number) = is_plan_code code
is_plan_fault Memory = true
is_plan_fault Read = true
is_plan_fault _ = false

-- the faults of reading a trace's text
abbrev pub is_trace_fault : CliFault → Bool
is_trace_fault (Trace code number) = is_trace_code code
is_trace_fault Memory = true
is_trace_fault Read = true
is_trace_fault _ = false

-- the faults of simulating a plan's text
abbrev pub is_sim_fault : CliFault → Bool
is_sim_fault Write = true
is_sim_fault fault = is_plan_fault fault

-- the faults of auditing texts
abbrev pub is_audit_fault : CliFault → Bool
is_audit_fault fault = is_sim_fault fault || is_trace_fault fault

-- the faults of making a picture from texts
abbrev pub is_view_fault : CliFault → Bool
is_view_fault Usage = true
is_view_fault Write = true
is_view_fault fault = is_plan_fault fault || is_trace_fault fault

-- this answer to a written text, or a write fault if the sink failed
abbrev pub answered : {W : Type 0} → Result ℕ CliFault → Sink W → Result ℕ CliFault
answered answer new = if sink_failed new then Err Write else answer

-- status 0 as the answer
abbrev pub written_status : {W : Type 0} → Sink W → Result ℕ CliFault
written_status new = answered (Ok 0) new
