-- Records judged: what a builder refuses, a reader refuses.
use Rattle.std.proofs.Common.{◌≡◌}
use Rattle.msrp_plan.proofs.Common.{ℕ, Bool, true, false, List, [], Option, Some, None, Result, Ok, Err, length, cond, refl, inl, inr, IsJudged, PlanModel, Every, Listed}
use Rattle.msrp_plan.specs.declared.faults.PlanFault.{PlanFault}
use Rattle.std.proofs.lemmas.Bool.{false≢true}
use Rattle.msrp_plan.specs.Building.{new_task, task_fault, with_task}
use Rattle.msrp_plan.specs.declared.faults.PlanFault.TheVariants.{Memory}
use Rattle.msrp_text.specs.Fields.{name_at, number_at}
use Rattle.msrp_text.specs.Reading.{lacks_number, listed_record_fault, task_record_fault, task_told}
use Rattle.msrp_text.specs.Positions.{task_numbers}
use Rattle.msrp_text.specs.declared.positions.TaskNumbers.{TaskNumbers}

-- a call that is judged, and an answer that is handed on
pub judged-err : {A : Type 0} (B : Type 0) (f : Option PlanFault) (r : Result A PlanFault) (e : PlanFault) → IsJudged f r → r ≡ Err e → IsJudged {A = B} f (Err e)
judged-err B (Some fault) r e h k = let same : e ≡ fault = cc in rw same refl
judged-err B None r e (inl ok) k = absurd (false≢true (rw k at ok))
judged-err B None r e (inr memory) k = let same : e ≡ Memory = cc in inr (rw same refl)

pub judged-ok : {A B : Type 0} (f : Option PlanFault) (r : Result A PlanFault) (x : A) (y : B) → IsJudged f r → r ≡ Ok x → IsJudged f (Ok y)
judged-ok (Some fault) r x y h k = cc
judged-ok None r x y h k = inl refl

told-some : {A : Type 0} (b : Bool) (x n : A) → cond b None (Some x) ≡ Some n → (b ≡ false) × (n ≡ x)
told-some true x n e = cc
told-some false x n e = (refl, cc)

-- the task that a record of four numbers tells, taken or refused by the builder
pub task-judged : {A : Type 0} (plan : PlanModel) (fields : List (List ℕ)) (name : List ℕ) (n : TaskNumbers) (r : Result A PlanFault) → length fields ≡ 6 → task_numbers fields ≡ Some n → name ≡ name_at fields 1
    → IsJudged (task_fault plan (new_task name n.core (Every n.period n.offset) n.deadline)) r → IsJudged (task_record_fault plan fields) r
task-judged plan fields name n r six numbers named h = let told = told-some (lacks_number fields) _ n numbers in rw (six, told.0) (rw (told.1, named) at h)

pub task-added : (plan new : PlanModel) (fields : List (List ℕ)) (name : List ℕ) (n : TaskNumbers) → task_numbers fields ≡ Some n → name ≡ name_at fields 1
    → new ≡ with_task plan (new_task name n.core (Every n.period n.offset) n.deadline) → new ≡ with_task plan (task_told fields)
task-added plan new fields name n numbers named h = let told = told-some (lacks_number fields) _ n numbers in rw (told.1, named) at h

-- a listed task, taken or refused by the builder
pub listed-judged : {A : Type 0} (plan : PlanModel) (fields : List (List ℕ)) (name : List ℕ) (core deadline : ℕ) (r : Result A PlanFault) → length fields ≡ 4 → number_at fields 2 ≡ Some core → number_at fields 3 ≡ Some deadline → name ≡ name_at fields 1
    → IsJudged (task_fault plan (new_task name core (Listed []) deadline)) r → IsJudged (listed_record_fault plan fields) r
listed-judged plan fields name core deadline r four first second named h = rw (four, first, second) (rw named at h)
