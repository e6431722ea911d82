-- Started and unfinished jobs: whoever holds a resource or waits for one is such a job.
use Rattle.msrp_plan.specs.Common.{ℕ, Bool, true, false, not, List, [], Option, Some, None, length, take, slice_get, PlanModel, units, locks, unlocks, holds_after, is_row_of, is_waiting, is_started, is_finished, is_queued, done, holds, JobState, IsPlan}
use Rattle.msrp_plan.specs.declared.ids.JobId.{JobId}
use Rattle.msrp_plan.specs.declared.units.Op.{Op}
use Rattle.msrp_plan.specs.declared.rows.Row.{Row}
use Rattle.std.proofs.Common.{◌≡◌, ◌&&◌, ◌==◌, ◌∷◌, ◌++◌, refl, ap, sym, ◌∙◌, arith, inl, inr}
use Rattle.std.specs.List.{fold}
use Rattle.std.proofs.Math.Bool.{true≢false}
use Rattle.std.proofs.lemmas.Bool.{eqb-true, le-ltb, true_from_ne_false, false_from_ne_true}
use Rattle.std.proofs.lemmas.List.{take_all}
use Rattle.std.proofs.lemmas.List.Sums.{length-filter}
use Rattle.std.proofs.lemmas.Option.{slice_get_within}
use Rattle.msrp_plan.proofs.Lists.AnyAll.{none_kept}
use Rattle.msrp_plan.proofs.Jobs.States.{state_kept}
use Rattle.msrp_plan.proofs.TaskUnits.PlanUnits.{units_balance}
use Rattle.msrp_plan.proofs.TaskUnits.Stands.{locks_at, IsUp, up_cases}

-- started and unfinished
abbrev pub is_live : PlanModel → List Row → JobId → Bool
is_live plan pre j = is_started pre j && not (is_finished plan pre j)

-- by its two parts
pub live : (plan : PlanModel) (pre : List Row) (j : JobId) → is_started pre j ≡ true → is_finished plan pre j ≡ false → is_live plan pre j ≡ true
live plan pre j s f = ap (λ b. b && not (is_finished plan pre j)) s ∙ ap not f

-- a row of another job, or of none, leaves it, and what the job holds
pub live_kept : (plan : PlanModel) (pre : List Row) (r : Row) (j : JobId) → is_row_of j r ≡ false → is_live plan (pre ++ r ∷ []) j ≡ is_live plan pre j
live_kept plan pre r j e = ap (λ (s : JobState). s.started && not (s.done == length (units plan j))) (state_kept pre r j e)

-- and so does what it holds stay
pub holds_kept : (plan : PlanModel) (pre : List Row) (r : Row) (g : ℕ) (j : JobId) → is_row_of j r ≡ false → holds plan (pre ++ r ∷ []) g j ≡ holds plan pre g j
holds_kept plan pre r g j e = ap (λ (s : JobState). holds_after (take s.done (units plan j)) g) (state_kept pre r j e)

-- ---- a job with no row has done nothing, and doesn't wait
pub nothing_done : (pre : List Row) (j : JobId) → is_started pre j ≡ false → done j pre ≡ 0
nothing_done pre j e = sym (length-filter (λ r. is_row_of j r && not (is_waiting r.kind)) pre) ∙ ap length (none_kept (is_row_of j) (λ r. is_row_of j r && not (is_waiting r.kind)) (λ r h. ap (λ b. b && not (is_waiting r.kind)) h) pre e)

-- ---- so whoever holds a resource is started, and unfinished, since whoever is finished has
-- unlocked it
pub holder_started : (plan : PlanModel) (pre : List Row) (g : ℕ) (j : JobId) → holds plan pre g j ≡ true → is_started pre j ≡ true
holder_started plan pre g j h =
    true_from_ne_false (is_started pre j) (λ e. true≢false (sym h ∙ ap (λ n. holds_after (take n (units plan j)) g) (nothing_done pre j e)))

-- whoever has done all units has unlocked what it locked
pub holder_unfinished : (plan : PlanModel) (pre : List Row) (g : ℕ) (j : JobId) → IsPlan plan → holds plan pre g j ≡ true → is_finished plan pre j ≡ false
holder_unfinished plan pre g j ok h = false_from_ne_true (is_finished plan pre j) (λ e. true≢false (sym h ∙ all_unlocked e))
  where
    all_unlocked : is_finished plan pre j ≡ true → holds plan pre g j ≡ false
    all_unlocked e =
        let d : done j pre ≡ length (units plan j) = eqb-true (done j pre) (length (units plan j)) e in
        let t : take (done j pre) (units plan j) ≡ units plan j = take_all (done j pre) (units plan j) (omega (arith, d)) in
        let b = units_balance plan ok j.task.0 g in
        ap (λ us. holds_after us g) t ∙ le-ltb (unlocks g (units plan j)) (locks g (units plan j)) (omega (arith, b))

-- both
pub holder_live : (plan : PlanModel) (pre : List Row) (g : ℕ) (j : JobId) → IsPlan plan → holds plan pre g j ≡ true → is_live plan pre j ≡ true
holder_live plan pre g j ok h = live plan pre j (holder_started plan pre g j h) (holder_unfinished plan pre g j ok h)

-- ---- and whoever is queued before a lock
pub queued_started : (pre : List Row) (j : JobId) → is_queued pre j ≡ true → is_started pre j ≡ true
queued_started pre j q = true_from_ne_false (is_started pre j) (λ e. true≢false (sym q ∙ ap (fold (λ _ r. is_waiting r.kind) false) (none_kept (is_row_of j) (is_row_of j) (λ r h. h) pre e)))

-- a lock is a unit
some_unit : (g : ℕ) (o : Option Op) → locks_at g o ≡ true → (op : Op) × (o ≡ Some op)
some_unit g None h = absurd (cc)
some_unit g (Some op) h = (op, refl)

-- whoever holds a resource or waits for one is live
pub up_live : (plan : PlanModel) (g : ℕ) (pre : List Row) (j : JobId) → IsPlan plan → IsUp plan g pre j → is_live plan pre j ≡ true
up_live plan g pre j ok up =
    elim (up_cases plan g pre j up) [
      | inl h ↦ holder_live plan pre g j ok h
      | inr q ↦
          let op = some_unit g (slice_get (units plan j) (done j pre)) q.1 in
          let l = slice_get_within (units plan j) (done j pre) op.0 op.1 in
          live plan pre j (queued_started pre j q.0) (false_from_ne_true (is_finished plan pre j) (λ e. let d = eqb-true (done j pre) (length (units plan j)) e in absurd (omega (arith, d, l))))
    ]
