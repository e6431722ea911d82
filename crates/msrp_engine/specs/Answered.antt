-- What an engine answers if its readers' bytes are known, and what it answers for any readers.
use Rattle.std.specs.Prelude.{◌≡◌, ◌⊎◌, ◌↔◌}
use Rattle.msrp_plan.specs.Common.{ℕ, List, true, false, Option, Some, Err, IfOk, IfErr, Result, sink_failed, source_failed, source_remaining, PlanModel}
use Rattle.msrp_plan.specs.declared.bytes.Sink.{Sink}
use Rattle.msrp_plan.specs.declared.bytes.Source.{Source}
use Rattle.msrp_text.specs.Reading.{csv_records, plan_of}
use Rattle.msrp_text.specs.declared.reading.TextError.{TextError}
use Rattle.msrp_faults.specs.Outcomes.{fault_of}
use Rattle.msrp_faults.specs.declared.faults.CliFault.{CliFault}
use Rattle.msrp_faults.specs.declared.faults.CliFault.TheVariants.{Memory, Read, Write}

-- ---- with known bytes
-- a read failed or memory ran out; otherwise this holds
abbrev pub OrUnread : {A : Type 0} → Result A CliFault → Type 0 → Type 0
OrUnread answer Holds = (answer ≡ Err Read) ⊎ (answer ≡ Err Memory) ⊎ Holds

-- if the reader's bytes are known, no read failed and memory sufficed, this holds of their records
abbrev pub OfText : {R A : Type 0} → (R → Option (List ℕ)) → Source R → Result A CliFault → (List (List (List ℕ)) → Type 0) → Type 0
OfText remaining text answer Holds = (bytes : List ℕ) → source_remaining remaining text ≡ Some bytes → OrUnread answer (Holds (csv_records bytes))

-- with known bytes of both, this holds of the plan or refusal in them, and of the trace's records
abbrev pub OfTexts : {P T A : Type 0} → (P → Option (List ℕ)) → (T → Option (List ℕ)) → Source P → Source T → Result A CliFault → (Result PlanModel TextError → List (List (List ℕ)) → Type 0) → Type 0
OfTexts plan_remaining trace_remaining plan trace answer Holds =
    (plan_bytes trace_bytes : List ℕ) → source_remaining plan_remaining plan ≡ Some plan_bytes → source_remaining trace_remaining trace ≡ Some trace_bytes
    → OrUnread answer (Holds (plan_of (csv_records plan_bytes)) (csv_records trace_bytes))

-- ---- for any readers
-- how the reading of a plan and a trace may fail; a refused plan is reported whatever the trace is
pub record ReadsBoth {P T A : Type 0} (remaining : P → Option (List ℕ)) (plan plan_after : Source P) (trace trace_after : Source T) (answer : Result A CliFault) : Type 0 where
  pub refused : (bytes : List ℕ) (error : TextError) → source_remaining remaining plan ≡ Some bytes → plan_of (csv_records bytes) ≡ Err error → OrUnread answer (answer ≡ Err (fault_of error))
  pub read : answer ≡ Err Read → (source_failed plan_after ≡ true) ⊎ (source_failed trace_after ≡ true)
  pub memory : answer ≡ Err Memory → (source_failed plan_after ≡ false) × ((source_failed trace_after ≡ false) ⊎ (trace_after ≡ trace))

-- the answer is a status if the sink took all that was written, and a failed write if it didn't
pub record Ends {W : Type 0} (IsStatus : ℕ → Type 0) (IsFault : CliFault → Type 0) (new : Sink W) (result : Result ℕ CliFault) : Type 0 where
  pub good : IfOk result (λ status. IsStatus status × (sink_failed new ≡ false))
  pub faults : IfErr result IsFault
  pub write : result ≡ Err Write → sink_failed new ≡ true

-- the statuses of an engine's own answer, and of a verdict
abbrev pub IsDone : ℕ → Type 0
IsDone status = status ≡ 0

abbrev pub IsVerdict : ℕ → Type 0
IsVerdict status = (status ≡ 0) ⊎ (status ≡ 1)

-- on any fault but a failed write, nothing is written
abbrev pub IsSilent : {W : Type 0} → Sink W → Sink W → Result ℕ CliFault → Type 0
IsSilent old new result = IfErr result (λ fault. (fault ≡ Write) ⊎ (new ≡ old))

-- what an engine that reads a plan answers
pub record AnsweredPlan {P W : Type 0} (IsFault : CliFault → Type 0) (plan_after : Source P) (old new : Sink W) (result : Result ℕ CliFault) : Type 0 where
  pub read : (result ≡ Err Read) ↔ (source_failed plan_after ≡ true)
  pub ends : Ends IsDone IsFault new result
  pub silent : IsSilent old new result

-- what an engine that reads a plan and a trace of it answers
pub record Answered {P T W : Type 0} (remaining : P → Option (List ℕ)) (IsFault : CliFault → Type 0) (plan plan_after : Source P) (trace trace_after : Source T) (old new : Sink W) (result : Result ℕ CliFault) : Type 0 where
  pub reads : ReadsBoth remaining plan plan_after trace trace_after result
  pub ends : Ends IsVerdict IsFault new result
  pub silent : IsSilent old new result
