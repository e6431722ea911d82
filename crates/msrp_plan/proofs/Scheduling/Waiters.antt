-- Who waits for a global resource stands in its queue.
use Rattle.msrp_plan.specs.Common.{ℕ, Bool, true, false, List, [], Some, drop, list_any, PlanModel, is_row_of, is_job, is_global, fifo, is_first, IsLegal, EachAfter, IsPlan}
use Rattle.msrp_plan.specs.declared.ids.JobId.{JobId}
use Rattle.msrp_plan.specs.declared.rows.Kind.TheVariants.{Take, Queue, Spin, Grant, Release}
use Rattle.msrp_plan.specs.declared.rows.Row.{Row}
use Rattle.std.proofs.Common.{◌≡◌, ◌||◌, ◌∷◌, ◌++◌, refl, ap, sym, ◌∙◌, subst}
use Rattle.std.proofs.Math.Bool.{true≢false, or-true}
use Rattle.msrp_plan.proofs.Lists.AnyAll.{any_push}
use Rattle.msrp_plan.proofs.Jobs.JobTests.{same_self, row_of_job}
use Rattle.msrp_plan.proofs.Lists.Prefixes.{along}
use Rattle.msrp_plan.proofs.TaskUnits.Stands.{Out, Waits, Holds, stand, holds_waits}
use Rattle.msrp_plan.proofs.Queues.Effects.{Effect, Quiet, Took, Joined, Got, Spun, Left, effect}
use Rattle.msrp_plan.proofs.Holding.Holders.{IsOrderly, orderly_by, orderly_none, stood}
use Rattle.msrp_plan.proofs.Queues.Fifos.{first_same}

-- the job stands in the queue
abbrev pub stands_in : List JobId → JobId → Bool
stands_in queue j = list_any (is_job (Some j)) queue

abbrev pub AreQueued : PlanModel → ℕ → List Row → Type 0
AreQueued plan g pre = (j : JobId) → stand plan g pre j ≡ Waits → stands_in (fifo g pre) j ≡ true

-- in a queue that is the same, or longer at the end
still_in : (queue now : List JobId) (j : JobId) → now ≡ queue → stands_in queue j ≡ true → stands_in now j ≡ true
still_in queue now j e h = ap (λ q. stands_in q j) e ∙ h

pushed_in : (queue now : List JobId) (x j : JobId) → now ≡ queue ++ x ∷ [] → stands_in queue j ≡ true → stands_in now j ≡ true
pushed_in queue now x j e h = ap (λ q. stands_in q j) e ∙ (any_push (is_job (Some j)) queue x ∙ ap (λ b. b || is_job (Some j) x) h)

newest_in : (queue now : List JobId) (x : JobId) → now ≡ queue ++ x ∷ [] → stands_in now x ≡ true
newest_in queue now x e = ap (λ q. stands_in q x) e ∙ (any_push (is_job (Some x)) queue x ∙ (ap (λ b. stands_in queue x || b) (same_self x) ∙ or-true (stands_in queue x)))

-- whoever isn't first is in the rest
rest_go : (b c : Bool) → b ≡ false → (b || c) ≡ true → c ≡ true
rest_go true c e h = absurd (cc)
rest_go false c e h = h

rest_in : (queue : List JobId) (j : JobId) → is_first queue (Some j) ≡ false → stands_in queue j ≡ true → stands_in (drop 1 queue) j ≡ true
rest_in [] j first h = absurd (cc)
rest_in (i ∷ queue) j first h = rest_go (is_job (Some j) i) (stands_in queue j) first h

-- so whoever isn't the first isn't first
not_first : (queue : List JobId) (x j : JobId) (b : Bool) → is_first queue (Some j) ≡ b → is_first queue (Some x) ≡ true → (j ≡ x → ⊥) → is_first queue (Some j) ≡ false
not_first queue x j true e first other = absurd (other (first_same queue j x e first))
not_first queue x j false e first other = e

-- ---- each effect keeps it
pub queued_by : (plan : PlanModel) (g : ℕ) (pre : List Row) (r : Row) → IsOrderly plan g pre → AreQueued plan g pre → Effect plan g pre r → AreQueued plan g (pre ++ r ∷ [])
queued_by plan g pre r orderly old e =
    let In : JobId → Type 0 = λ i. stands_in (fifo g (pre ++ r ∷ [])) i ≡ true in
    elim e [
      | Quiet off fs st ↦ λ j h. still_in (fifo g pre) (fifo g (pre ++ r ∷ [])) j fs (old j (sym (st j) ∙ h))
      | Took x m empty fs ↦ λ j. stood plan g pre r x Take Out Holds Waits In m (λ h. absurd (holds_waits h)) (λ i d h. pushed_in (fifo g pre) (fifo g (pre ++ r ∷ [])) x i fs (old i h)) j (is_row_of j r) refl
      | Joined x m some fs ↦ λ j. stood plan g pre r x Queue Out Waits Waits In m (λ h. newest_in (fifo g pre) (fifo g (pre ++ r ∷ [])) x fs) (λ i d h. pushed_in (fifo g pre) (fifo g (pre ++ r ∷ [])) x i fs (old i h)) j (is_row_of j r) refl
      | Got x m first fs ↦ λ j. stood plan g pre r x Grant Waits Holds Waits In m (λ h. absurd (holds_waits h)) (λ i d h. still_in (fifo g pre) (fifo g (pre ++ r ∷ [])) i fs (old i h)) j (is_row_of j r) refl
      | Spun x m back fs ↦ λ j. stood plan g pre r x Spin Waits Waits Waits In m (λ h. still_in (fifo g pre) (fifo g (pre ++ r ∷ [])) x fs (old x m.before)) (λ i d h. still_in (fifo g pre) (fifo g (pre ++ r ∷ [])) i fs (old i h)) j (is_row_of j r) refl
      | Left x m fs ↦ λ j. stood plan g pre r x Release Holds Out Waits In m (λ h. absurd (let k : Out ≡ Waits = h in cc))
          (λ i d h. still_in (drop 1 (fifo g pre)) (fifo g (pre ++ r ∷ [])) i fs
          (rest_in (fifo g pre) i (not_first (fifo g pre) x i (is_first (fifo g pre) (Some i)) refl (orderly.first x m.before) (λ s. true≢false (sym (row_of_job r x m.job) ∙ subst (λ z. is_row_of z r ≡ false) s d))) (old i h))) j (is_row_of j r) refl
    ]

-- so it holds at each place
record IsListed (plan : PlanModel) (g : ℕ) (pre : List Row) : Type 0 where
  orderly : IsOrderly plan g pre
  queued : AreQueued plan g pre

listed_push : (plan : PlanModel) (g : ℕ) → IsPlan plan → is_global plan g ≡ true → (pre : List Row) (r : Row) → IsListed plan g pre → IsLegal plan pre r → IsListed plan g (pre ++ r ∷ [])
listed_push plan g ok glob pre r old legal =
    let e = effect plan g pre r ok glob old.orderly.fed legal in
    record { orderly = orderly_by plan g pre r old.orderly e; queued = queued_by plan g pre r old.orderly old.queued e }

pub queued_at : (plan : PlanModel) (g : ℕ) (pre : List Row) → IsPlan plan → is_global plan g ≡ true → EachAfter (IsLegal plan) [] pre → AreQueued plan g pre
queued_at plan g pre ok glob all = (along (IsListed plan g) (IsLegal plan) (listed_push plan g ok glob) [] pre (record { orderly = orderly_none plan g; queued = λ j h. absurd (let k : Out ≡ Waits = h in cc) }) all).queued
