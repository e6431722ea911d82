-- What a run of a plan on threads writes and answers.
use Rattle.std.specs.Prelude.{◌≡◌}
use Rattle.msrp_plan.specs.Common.{ℕ, List, Option, Ok, Err, Result, Wrote, PlanModel, IsPlan}
use Rattle.msrp_plan.specs.declared.bytes.Sink.{Sink}
use Rattle.msrp_plan.specs.declared.rows.Row.{Row}
use Rattle.msrp_plan.specs.declared.rows.TextVersion.{TextVersion}
use Rattle.msrp_text.specs.declared.reading.TextError.{TextError}
use Rattle.msrp_trace.specs.TraceText.{trace_text}
use Rattle.msrp_run.specs.Threads.{IsThreadedRun}
use Rattle.msrp_faults.specs.Outcomes.{fault_of, written_status}
use Rattle.msrp_faults.specs.declared.faults.CliFault.{CliFault}

-- the sink took the text, in this version, of the trace that the cores of a plan made on threads
pub record WritesThreadedRun {W : Type 0} (contents : W → Option (List ℕ)) (version : TextVersion) (plan : PlanModel) (old new : Sink W) : Type 0 where
  pub rows : List Row
  pub run : IsThreadedRun plan rows
  pub text : Wrote contents old new (trace_text version plan rows)

-- the sink took such a text of some well-formed plan
pub record WritesSomeThreadedRun {W : Type 0} (contents : W → Option (List ℕ)) (version : TextVersion) (old new : Sink W) : Type 0 where
  pub plan : PlanModel
  pub well_formed : IsPlan plan
  pub writes : WritesThreadedRun contents version plan old new

-- the answer to a plan, or to the refusal of its text: then nothing is written
abbrev pub RunAnswers : {W : Type 0} → (W → Option (List ℕ)) → TextVersion → Result PlanModel TextError → Sink W → Sink W → Result ℕ CliFault → Type 0
RunAnswers contents version (Ok plan) old new result = WritesThreadedRun contents version plan old new × (result ≡ written_status new)
RunAnswers contents version (Err error) old new result = (result ≡ Err (fault_of error)) × (new ≡ old)
