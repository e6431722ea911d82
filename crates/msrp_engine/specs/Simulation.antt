-- What a simulation of a plan, and a text of a plan, write and answer.
use Rattle.std.specs.Prelude.{◌≡◌}
use Rattle.msrp_plan.specs.Common.{ℕ, List, Option, Ok, Err, Result, PlanModel, IsOrder, Wrote, IsPlan}
use Rattle.msrp_plan.specs.declared.rows.Row.{Row}
use Rattle.msrp_plan.specs.declared.bytes.Sink.{Sink}
use Rattle.msrp_plan.specs.declared.rows.TextVersion.{TextVersion}
use Rattle.msrp_text.specs.declared.reading.TextError.{TextError}
use Rattle.msrp_sim.specs.Orders.{cores_of}
use Rattle.msrp_sim.specs.Simulated.{IsRunIn}
use Rattle.msrp_sim.specs.declared.orders.Order.{Order}
use Rattle.msrp_trace.specs.TraceText.{trace_text}
use Rattle.msrp_faults.specs.Outcomes.{fault_of, written_status}
use Rattle.msrp_faults.specs.declared.faults.CliFault.{CliFault}
use Rattle.msrp_faults.specs.declared.faults.CliFault.TheVariants.{Usage}

-- the sink took the text, in this version, of the trace of a whole run of the plan in this order
pub record WritesRun {W : Type 0} (contents : W → Option (List ℕ)) (version : TextVersion) (plan : PlanModel) (order : List ℕ) (old new : Sink W) : Type 0 where
  pub rows : List Row
  pub run : IsRunIn plan order rows
  pub text : Wrote contents old new (trace_text version plan rows)

-- the sink took the text of the run of some well-formed plan in this order of it
pub record WritesSomeRun {W : Type 0} (contents : W → Option (List ℕ)) (version : TextVersion) (order : Order) (old new : Sink W) : Type 0 where
  pub plan : PlanModel
  pub well_formed : IsPlan plan
  pub is_order : IsOrder plan (cores_of order plan)
  pub writes : WritesRun contents version plan (cores_of order plan) old new

-- the text of a plan; a refused one has none
abbrev pub IsTextOf : (PlanModel → List ℕ) → Result PlanModel TextError → List ℕ → Type 0
IsTextOf text_of (Ok plan) text = text ≡ text_of plan
IsTextOf text_of (Err error) text = ⊥

-- why there is none
abbrev pub WhyNoText : Result PlanModel TextError → CliFault → Type 0
WhyNoText (Ok plan) fault = ⊥
WhyNoText (Err error) fault = fault ≡ fault_of error

-- the sink took such a text of some well-formed plan
pub record WritesSomeText {W : Type 0} (contents : W → Option (List ℕ)) (text_of : PlanModel → List ℕ) (old new : Sink W) : Type 0 where
  pub plan : PlanModel
  pub well_formed : IsPlan plan
  pub text : Wrote contents old new (text_of plan)

-- the answer to a plan in an order of it, and in a list that isn't one: then nothing is written
pub data SimAnswersPlan {W : Type 0} (contents : W → Option (List ℕ)) (version : TextVersion) (plan : PlanModel) (order : List ℕ) (old new : Sink W) (result : Result ℕ CliFault) : Type 0 where
  Simulated : (is : IsOrder plan order) (writes : WritesRun contents version plan order old new) (status : result ≡ written_status new) → SimAnswersPlan contents version plan order old new result
  NoOrder : (isnt : ¬ IsOrder plan order) (usage : result ≡ Err Usage) (silent : new ≡ old) → SimAnswersPlan contents version plan order old new result

-- the answer to a plan, or to the refusal of its text: then nothing is written
abbrev pub SimAnswers : {W : Type 0} → (W → Option (List ℕ)) → TextVersion → Order → Result PlanModel TextError → Sink W → Sink W → Result ℕ CliFault → Type 0
SimAnswers contents version order (Ok plan) old new result = SimAnswersPlan contents version plan (cores_of order plan) old new result
SimAnswers contents version order (Err error) old new result = (result ≡ Err (fault_of error)) × (new ≡ old)

-- the text of an accepted plan is written; a refusal is answered
abbrev pub TextAnswers : {W : Type 0} → (W → Option (List ℕ)) → (PlanModel → List ℕ) → Result PlanModel TextError → Sink W → Sink W → Result ℕ CliFault → Type 0
TextAnswers contents text_of (Ok plan) old new result = Wrote contents old new (text_of plan) × (result ≡ written_status new)
TextAnswers contents text_of (Err error) old new result = (result ≡ Err (fault_of error)) × (new ≡ old)
