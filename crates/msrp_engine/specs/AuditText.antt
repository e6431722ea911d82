-- What an audit writes and answers.
use Rattle.std.specs.Prelude.{◌≡◌, if◌then◌else◌}
use Rattle.msrp_plan.specs.Common.{ℕ, List, Option, Ok, Err, ⊤, Result, Wrote, sink_failed, verdict_text}
use Rattle.msrp_plan.specs.declared.bytes.Sink.{Sink}
use Rattle.msrp_plan.specs.declared.faults.Fault.{Fault}
use Rattle.msrp_faults.specs.declared.faults.CliFault.{CliFault}
use Rattle.msrp_faults.specs.declared.faults.CliFault.TheVariants.{Write}

-- the exit status of a verdict
abbrev pub verdict_status : Result ⊤ Fault → ℕ
verdict_status (Ok good) = 0
verdict_status (Err fault) = 1

-- the verdict is written, and the answer is its status if the sink took it all
pub record TellsVerdict {W : Type 0} (contents : W → Option (List ℕ)) (found : Result ⊤ Fault) (old new : Sink W) (result : Result ℕ CliFault) : Type 0 where
  pub text : Wrote contents old new (verdict_text found)
  pub status : result ≡ if sink_failed new then Err Write else Ok (verdict_status found)

-- the answer with this finding: a verdict is written; for a refusal nothing is
abbrev pub AuditAnswers : {W : Type 0} → (W → Option (List ℕ)) → Result (Result ⊤ Fault) CliFault → Sink W → Sink W → Result ℕ CliFault → Type 0
AuditAnswers contents (Ok found) old new result = TellsVerdict contents found old new result
AuditAnswers contents (Err fault) old new result = (result ≡ Err fault) × (new ≡ old)
