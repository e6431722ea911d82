-- Whoever holds a global resource stands first in its queue: so one job at most holds it.
use Rattle.msrp_plan.specs.Common.{ℕ, Bool, true, false, List, [], Some, PlanModel, is_row_of, is_global, fifo, is_first, is_release_of, is_release, IsLegal, EachAfter, IsPlan}
use Rattle.msrp_plan.specs.declared.ids.JobId.{JobId}
use Rattle.msrp_plan.specs.declared.rows.Kind.{Kind}
use Rattle.msrp_plan.specs.declared.rows.Kind.TheVariants.{Take, Queue, Spin, Grant, Release}
use Rattle.msrp_plan.specs.declared.rows.Row.{Row}
use Rattle.std.proofs.Common.{◌≡◌, ◌&&◌, ◌∷◌, ◌++◌, refl, ap, sym, ◌∙◌, subst, arith}
use Rattle.std.proofs.Math.Bool.{true≢false}
use Rattle.msrp_plan.specs.Laws.{IsHeldByOne}
use Rattle.msrp_plan.proofs.Jobs.JobTests.{row_of_job}
use Rattle.msrp_plan.proofs.Lists.Prefixes.{along}
use Rattle.msrp_plan.proofs.TaskUnits.Stands.{Stand, Out, Waits, Holds, stand, holder_stands}
use Rattle.msrp_plan.proofs.Queues.Fifos.{IsFed, not_releasing, fed_push, first_same, first_push, first_none, first_some, first_alone}
use Rattle.msrp_plan.proofs.Queues.Effects.{IsMove, Effect, Quiet, Took, Joined, Got, Spun, Left, mover_is, effect}

-- the invariant
pub record IsOrderly (plan : PlanModel) (g : ℕ) (pre : List Row) : Type 0 where
  pub fed : IsFed g pre
  pub first : (j : JobId) → stand plan g pre j ≡ Holds → is_first (fifo g pre) (Some j) ≡ true

-- how a job stands after a row is how the row's job stands then, or how the job stood before it
pub stood : (plan : PlanModel) (g : ℕ) (pre : List Row) (r : Row) (x : JobId) (k : Kind) (a b s : Stand) (P : JobId → Type 0) → IsMove plan g pre r x k a b → (b ≡ s → P x) → ((j : JobId) → is_row_of j r ≡ false → stand plan g pre j ≡ s → P j)
    → (j : JobId) (c : Bool) → is_row_of j r ≡ c → stand plan g (pre ++ r ∷ []) j ≡ s → P j
stood plan g pre r x k a b s P m mine rest j true e h =
    let z = mover_is plan g pre r x j k a b m e in
    subst P (sym z) (mine (sym m.after ∙ subst (λ i. stand plan g (pre ++ r ∷ []) i ≡ s) z h))
stood plan g pre r x k a b s P m mine rest j false e h = rest j e (sym (m.others j e) ∙ h)

-- the front of an equal queue
front : {f h : List JobId} → h ≡ f → (j : JobId) → is_first f (Some j) ≡ true → is_first h (Some j) ≡ true
front e j h = ap (λ z. is_first z (Some j)) e ∙ h

-- a row that is no release
fed_kept : (g : ℕ) (pre : List Row) (r : Row) → IsFed g pre → is_release_of g r ≡ false → IsFed g (pre ++ r ∷ [])
fed_kept g pre r fed e = fed_push g pre r fed (λ h. absurd (true≢false (sym h ∙ e)))

-- each effect keeps it
pub orderly_by : (plan : PlanModel) (g : ℕ) (pre : List Row) (r : Row) → IsOrderly plan g pre → Effect plan g pre r → IsOrderly plan g (pre ++ r ∷ [])
orderly_by plan g pre r old e =
    let First : JobId → Type 0 = λ i. is_first (fifo g (pre ++ r ∷ [])) (Some i) ≡ true in
    elim e [
      | Quiet off fs st ↦ record { fed = fed_kept g pre r old.fed (ap (λ c. c && is_release r.kind) off); first = λ j h. front fs j (old.first j (sym (st j) ∙ h)) }
      | Took x m empty fs ↦ record {
        fed = fed_kept g pre r old.fed (not_releasing g r Take m.kind refl);
        first = λ j. stood plan g pre r x Take Out Holds Holds First m
            (λ h. front fs x (first_alone (fifo g pre) x empty))
            (λ i d h. absurd (first_none (fifo g pre) (Some i) empty (old.first i h))) j (is_row_of j r) refl;
      }
      | Joined x m some fs ↦ record {
        fed = fed_kept g pre r old.fed (not_releasing g r Queue m.kind refl);
        first = λ j. stood plan g pre r x Queue Out Waits Holds First m
            (λ h. absurd (cc))
            (λ i d h. front fs i (first_push (fifo g pre) x (Some i) (old.first i h))) j (is_row_of j r) refl;
      }
      | Got x m first fs ↦ record {
        fed = fed_kept g pre r old.fed (not_releasing g r Grant m.kind refl);
        first = λ j. stood plan g pre r x Grant Waits Holds Holds First m
            (λ h. front fs x first)
            (λ i d h. front fs i (old.first i h)) j (is_row_of j r) refl;
      }
      | Spun x m back fs ↦ record {
        fed = fed_kept g pre r old.fed (not_releasing g r Spin m.kind refl);
        first = λ j. stood plan g pre r x Spin Waits Waits Holds First m
            (λ h. absurd (cc))
            (λ i d h. front fs i (old.first i h)) j (is_row_of j r) refl;
      }
      | Left x m fs ↦ record {
        fed = fed_push g pre r old.fed (λ h. first_some (fifo g pre) (Some x) (old.first x m.before));
        first = λ j. stood plan g pre r x Release Holds Out Holds First m
            (λ h. absurd (cc))
            (λ i d h. absurd (true≢false (sym (row_of_job r x m.job) ∙ subst (λ z. is_row_of z r ≡ false) (first_same (fifo g pre) i x (old.first i h) (old.first x m.before)) d))) j (is_row_of j r) refl;
      }
    ]

-- so each legal row keeps it
pub orderly_push : (plan : PlanModel) (g : ℕ) → IsPlan plan → is_global plan g ≡ true → (pre : List Row) (r : Row) → IsOrderly plan g pre → IsLegal plan pre r → IsOrderly plan g (pre ++ r ∷ [])
orderly_push plan g ok glob pre r old h = orderly_by plan g pre r old (effect plan g pre r ok glob old.fed h)

-- it holds before the first row
pub orderly_none : (plan : PlanModel) (g : ℕ) → IsOrderly plan g []
orderly_none plan g = record { fed = omega arith; first = λ j h. absurd (none_holds j h) }
  where
    none_holds : (j : JobId) → stand plan g [] j ≡ Holds → ⊥
    none_holds j h = cc

-- so it holds at each place
pub orderly_at : (plan : PlanModel) (g : ℕ) (pre : List Row) → IsPlan plan → is_global plan g ≡ true → EachAfter (IsLegal plan) [] pre → IsOrderly plan g pre
orderly_at plan g pre ok glob all = along (IsOrderly plan g) (IsLegal plan) (orderly_push plan g ok glob) [] pre (orderly_none plan g) all

-- so at most one job holds it
pub global_holder : (plan : PlanModel) (g : ℕ) (pre : List Row) → IsPlan plan → is_global plan g ≡ true → EachAfter (IsLegal plan) [] pre → IsHeldByOne plan pre g
global_holder plan g pre ok glob all = λ i j hi hj.
    let o = orderly_at plan g pre ok glob all in
    first_same (fifo g pre) i j (o.first i (holder_stands plan g pre i hi)) (o.first j (holder_stands plan g pre j hj))
