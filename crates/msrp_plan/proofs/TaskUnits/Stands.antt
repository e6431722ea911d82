-- How a job stands to a resource: it holds it, waits for it in its queue, or neither.
use Rattle.msrp_plan.specs.Common.{ℕ, Bool, true, false, cond, List, [], Option, Some, None, slice_get, PlanModel, units, is_lock_of, is_row_of, is_queued, done, holds, JobState}
use Rattle.msrp_plan.specs.declared.ids.JobId.{JobId}
use Rattle.msrp_plan.specs.declared.units.Op.{Op}
use Rattle.msrp_plan.specs.declared.rows.Row.{Row}
use Rattle.std.proofs.Common.{◌≡◌, ◌&&◌, ◌∷◌, ◌++◌, ◌⊎◌, refl, ap, ◌∙◌, inl, inr}
use Rattle.std.proofs.lemmas.Bool.{and_parts}
use Rattle.msrp_plan.proofs.Jobs.States.{state_kept}
use Rattle.msrp_plan.proofs.TaskUnits.UnitCounts.{held_in}

-- the three stands
pub data Stand : Type 0 where
  Out : Stand
  Waits : Stand
  Holds : Stand

-- the next unit is a lock of it
abbrev pub locks_at : ℕ → Option Op → Bool
locks_at g None = false
locks_at g (Some op) = is_lock_of g op

-- by the units, whether the job is queued, and how many units it has done
abbrev pub stand_in : List Op → ℕ → Bool → ℕ → Stand
stand_in us g queued n = cond (held_in us g n) Holds (cond (queued && locks_at g (slice_get us n)) Waits Out)

-- after some rows
abbrev pub stand : PlanModel → ℕ → List Row → JobId → Stand
stand plan g pre j = stand_in (units plan j) g (is_queued pre j) (done j pre)

-- ---- who holds it stands so, and who is queued at a lock of it waits
pub stand_held : (us : List Op) (g : ℕ) (q : Bool) (n : ℕ) → held_in us g n ≡ true → stand_in us g q n ≡ Holds
stand_held us g q n e = ap (λ b. cond b Holds (cond (q && locks_at g (slice_get us n)) Waits Out)) e

-- who neither holds it nor is queued is out
pub stand_free : (us : List Op) (g : ℕ) (n : ℕ) → held_in us g n ≡ false → stand_in us g false n ≡ Out
stand_free us g n e = ap (λ b. cond b Holds Out) e

-- who is queued at a lock of it waits
pub stand_waits : (us : List Op) (g : ℕ) (n : ℕ) (op : Op) → held_in us g n ≡ false → slice_get us n ≡ Some op → is_lock_of g op ≡ true → stand_in us g true n ≡ Waits
stand_waits us g n op e h l = ap (λ b. cond b Holds (cond (locks_at g (slice_get us n)) Waits Out)) e ∙ ap (λ b. cond b Waits Out) (ap (locks_at g) h ∙ l)

-- who isn't at a lock of it doesn't wait for it
pub stand_past : (us : List Op) (g : ℕ) (q : Bool) (n : ℕ) (op : Op) → slice_get us n ≡ Some op → is_lock_of g op ≡ false → stand_in us g q n ≡ cond (held_in us g n) Holds Out
stand_past us g true n op h l = ap (λ b. cond (held_in us g n) Holds (cond b Waits Out)) (ap (locks_at g) h ∙ l)
stand_past us g false n op h l = refl

-- whoever holds it stands so
pub holder_stands : (plan : PlanModel) (g : ℕ) (pre : List Row) (j : JobId) → holds plan pre g j ≡ true → stand plan g pre j ≡ Holds
holder_stands plan g pre j h = stand_held (units plan j) g (is_queued pre j) (done j pre) h

-- ---- the other way round
-- a job that holds it or waits for it
abbrev pub IsUp : PlanModel → ℕ → List Row → JobId → Type 0
IsUp plan g pre j = stand plan g pre j ≡ Out → ⊥

-- by the two tests of a stand
out_cases : (a b : Bool) → (cond a Holds (cond b Waits Out) ≡ Out → ⊥) → (a ≡ true) ⊎ (b ≡ true)
out_cases true b h = inl refl
out_cases false true h = inr refl
out_cases false false h = absurd (h refl)

-- it holds it, or is queued before a lock of it
pub up_cases : (plan : PlanModel) (g : ℕ) (pre : List Row) (j : JobId) → IsUp plan g pre j → (holds plan pre g j ≡ true) ⊎ ((is_queued pre j ≡ true) × (locks_at g (slice_get (units plan j) (done j pre)) ≡ true))
up_cases plan g pre j up =
    elim (out_cases (held_in (units plan j) g (done j pre)) (is_queued pre j && locks_at g (slice_get (units plan j) (done j pre))) up) [
      | inl h ↦ inl h
      | inr q ↦ inr (and_parts (is_queued pre j) (locks_at g (slice_get (units plan j) (done j pre))) q)
    ]

-- ---- a row of another job, or of none, leaves it
pub stand_kept : (plan : PlanModel) (g : ℕ) (pre : List Row) (r : Row) (j : JobId) → is_row_of j r ≡ false → stand plan g (pre ++ r ∷ []) j ≡ stand plan g pre j
stand_kept plan g pre r j e = ap (λ (s : JobState). stand_in (units plan j) g s.queued s.done) (state_kept pre r j e)

-- the three stands differ
pub waits_out : Waits ≡ Out → ⊥
waits_out h = cc

-- holding is not being out
pub holds_out : Holds ≡ Out → ⊥
holds_out h = cc

-- nor waiting
pub holds_waits : Holds ≡ Waits → ⊥
holds_waits h = cc
