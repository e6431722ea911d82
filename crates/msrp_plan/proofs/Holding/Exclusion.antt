-- Mutual exclusion: whoever holds a global resource stands first in its queue, and a local resource
-- is free where it is locked.
use Rattle.msrp_plan.specs.Common.{ℕ, Bool, true, false, cond, not, List, [], Some, take, slice_get, PlanModel, units, is_lock_of, is_unlock_of, holds_after, is_row_of, is_waiting, is_queued, done, holds, is_global, is_global_unit, res_of_unit, IsLegal, IsRunStart, EachAfter, JobState, IsLocking, IsPlan, MutualExclusion}
use Rattle.msrp_plan.specs.declared.ids.JobId.{JobId}
use Rattle.msrp_plan.specs.declared.ids.ResId.{ResId}
use Rattle.msrp_plan.specs.declared.units.Op.{Op}
use Rattle.msrp_plan.specs.declared.rows.Kind.TheVariants.{Lock}
use Rattle.msrp_plan.specs.declared.rows.Row.{Row}
use Rattle.std.proofs.Common.{◌≡◌, ◌≢◌, ◌+◌, ◌==◌, ◌∷◌, ◌++◌, ◌⊎◌, refl, ap, sym, ◌∙◌, subst, arith, inl, inr}
use Rattle.std.proofs.Math.Bool.{true≢false}
use Rattle.std.proofs.lemmas.Bool.{eqb-true, false_from_ne_true}
use Rattle.msrp_plan.specs.Laws.{LocksFree, IsHeldByOne}
use Rattle.msrp_plan.specs.declared.units.Op.TheVariants.{Lock as LockUnit}
use Rattle.msrp_plan.proofs.Jobs.JobTests.{some_is, is_job_is, row_of_job}
use Rattle.msrp_plan.proofs.Lists.Prefixes.{along, each_before, each_both}
use Rattle.msrp_plan.proofs.Jobs.States.{state_moved}
use Rattle.msrp_plan.proofs.TaskUnits.PlanUnits.{units_lock}
use Rattle.msrp_plan.proofs.TaskUnits.UnitCounts.{held_in, held_unlock, held_other}
use Rattle.msrp_plan.proofs.TaskUnits.UnitKinds.{Runs, Locks, Unlocks, Takes, Queues, Grants, Spins, Releases, step_of}
use Rattle.msrp_plan.proofs.Legality.LegalRows.{DoesUnit, legal_turn}
use Rattle.msrp_plan.proofs.Choosing.Live.{holds_kept}
use Rattle.msrp_plan.proofs.Holding.Holders.{global_holder}
use Rattle.msrp_plan.proofs.Holding.LocalLocks.{no_local_blocking}

-- ---- who comes to hold a local resource
-- the row locks it
record LocksIt (r : Row) (g : ℕ) : Type 0 where
  res : ResId
  at : r.res ≡ Some res
  same : res.0 ≡ g
  kind : r.kind ≡ Lock

-- what the row's job holds after it
holds_moved : (plan : PlanModel) (pre : List Row) (r : Row) (g : ℕ) (x : JobId) → r.job ≡ Some x → holds plan (pre ++ r ∷ []) g x ≡ held_in (units plan x) g (done x pre + cond (not (is_waiting r.kind)) 1 0)
holds_moved plan pre r g x e = ap (λ (s : JobState). holds_after (take s.done (units plan x)) g) (state_moved pre r x e)

-- over a unit that doesn't lock it a resource doesn't become held
not_locked : (plan : PlanModel) (us : List Op) (g n : ℕ) (op : Op) (b : Bool) → IsLocking plan us → slice_get us n ≡ Some op → is_lock_of g op ≡ false → is_unlock_of g op ≡ b → held_in us g (n + 1) ≡ true → held_in us g n ≡ true
not_locked plan us g n op true ok u l e h = absurd (true≢false (sym h ∙ (held_unlock plan us g n op ok u e).1))
not_locked plan us g n op false ok u l e h = sym (held_other us g n op u l e) ∙ h

-- by whether the row's job waits in it
after_unit : (plan : PlanModel) (us : List Op) (g n : ℕ) (op : Op) (w : Bool) → IsLocking plan us → slice_get us n ≡ Some op → is_lock_of g op ≡ false → held_in us g (n + cond (not w) 1 0) ≡ true → held_in us g n ≡ true
after_unit plan us g n op true ok u l h = let z : n ≡ n + 0 = omega arith in ap (held_in us g) z ∙ h
after_unit plan us g n op false ok u l h = not_locked plan us g n op (is_unlock_of g op) ok u l refl h

-- where the job waits nothing is done
after_wait : (us : List Op) (g n : ℕ) (w : Bool) → w ≡ true → held_in us g (n + cond (not w) 1 0) ≡ true → held_in us g n ≡ true
after_wait us g n true e h = let z : n ≡ n + 0 = omega arith in ap (held_in us g) z ∙ h
after_wait us g n false e h = absurd (true≢false (sym e))

-- a global resource is another than a local one
global_off : (plan : PlanModel) (h g : ℕ) → is_global plan h ≡ true → is_global plan g ≡ false → (h == g) ≡ false
global_off plan h g e l = false_from_ne_true (h == g) (λ s. true≢false (sym e ∙ (ap (is_global plan) (eqb-true h g s) ∙ l)))

-- a lock is of this resource, or of another
lock_cases : (plan : PlanModel) (pre : List Row) (r : Row) (g : ℕ) (x : JobId) (h : ResId) (b : Bool) → (h.0 == g) ≡ b → r.res ≡ Some h → r.kind ≡ Lock → (is_lock_of g (LockUnit h) ≡ false → holds plan pre g x ≡ true) → (holds plan pre g x ≡ true) ⊎ LocksIt r g
lock_cases plan pre r g x h true e er ek f = inr (record { res = h; at = er; same = eqb-true h.0 g e; kind = ek })
lock_cases plan pre r g x h false e er ek f = inl (f e)

-- whoever holds it after its row held it before, or has locked it
comes_to_hold : (plan : PlanModel) (pre : List Row) (r : Row) (g : ℕ) (x : JobId) → IsPlan plan → is_global plan g ≡ false → DoesUnit plan pre x r → r.job ≡ Some x → holds plan (pre ++ r ∷ []) g x ≡ true → (holds plan pre g x ≡ true) ⊎ LocksIt r g
comes_to_hold plan pre r g x ok local d job after =
    let us = units plan x in
    let n = done x pre in
    let moved : held_in us g (n + cond (not (is_waiting r.kind)) 1 0) ≡ true = sym (holds_moved plan pre r g x job) ∙ after in
    let other : is_lock_of g d.op ≡ false → holds plan pre g x ≡ true = λ l. after_unit plan us g n d.op (is_waiting r.kind) (units_lock plan ok x.task.0) d.unit l moved in
    elim (step_of (is_global_unit plan d.op) (is_queued pre x) d.op r.kind d.kind) [
      | Runs eo ek ↦ inl (other (ap (is_lock_of g) eo))
      | Locks h eo ek eg ↦ lock_cases plan pre r g x h (h.0 == g) refl (d.res ∙ ap res_of_unit eo) ek (λ l. other (ap (is_lock_of g) eo ∙ l))
      | Unlocks h eo ek eg ↦ inl (other (ap (is_lock_of g) eo))
      | Takes h eo ek eg eq ↦ inl (other (ap (is_lock_of g) eo ∙ global_off plan h.0 g (sym (ap (is_global_unit plan) eo) ∙ eg) local))
      | Queues h eo ek eg eq ↦ inl (after_wait us g n (is_waiting r.kind) (ap is_waiting ek) moved)
      | Grants h eo ek eg eq ↦ inl (other (ap (is_lock_of g) eo ∙ global_off plan h.0 g (sym (ap (is_global_unit plan) eo) ∙ eg) local))
      | Spins h eo ek eg eq ↦ inl (after_wait us g n (is_waiting r.kind) (ap is_waiting ek) moved)
      | Releases h eo ek eg ↦ inl (other (ap (is_lock_of g) eo))
    ]

-- ---- a legal row that locks what is free
record LocksLegally (plan : PlanModel) (pre : List Row) (r : Row) : Type 0 where
  legal : IsLegal plan pre r
  free : LocksFree plan pre r

-- the row's job holds it afterwards, and so does another
mover_and : (plan : PlanModel) (g : ℕ) (pre : List Row) (r : Row) (i j : JobId) → IsPlan plan → is_global plan g ≡ false → IsHeldByOne plan pre g → LocksLegally plan pre r → is_row_of i r ≡ true → is_row_of j r ≡ false
    → holds plan (pre ++ r ∷ []) g i ≡ true → holds plan (pre ++ r ∷ []) g j ≡ true → i ≡ j
mover_and plan g pre r i j ok local one w mi mj hi hj =
    let job = is_job_is r.job i mi in
    let held : holds plan pre g j ≡ true = sym (holds_kept plan pre r g j mj) ∙ hj in
    elim (comes_to_hold plan pre r g i ok local ((legal_turn plan pre r w.legal).does i job) job hi) [
      | inl before ↦ one i j before held
      | inr new ↦
          let not_j : r.job ≢ Some j = λ e. true≢false (sym (row_of_job r j e) ∙ mj) in
          let free = w.free new.res j new.kind new.at not_j in
          absurd (true≢false (sym held ∙ (ap (λ n. holds plan pre n j) (sym new.same) ∙ free)))
    ]

-- by whose row it is
one_cases : (plan : PlanModel) (g : ℕ) (pre : List Row) (r : Row) (i j : JobId) (mi mj : Bool) → is_row_of i r ≡ mi → is_row_of j r ≡ mj → IsPlan plan → is_global plan g ≡ false → IsHeldByOne plan pre g → LocksLegally plan pre r
    → holds plan (pre ++ r ∷ []) g i ≡ true → holds plan (pre ++ r ∷ []) g j ≡ true → i ≡ j
one_cases plan g pre r i j true true ei ej ok local one w hi hj = some_is i j (sym (is_job_is r.job i ei) ∙ is_job_is r.job j ej)
one_cases plan g pre r i j true false ei ej ok local one w hi hj = mover_and plan g pre r i j ok local one w ei ej hi hj
one_cases plan g pre r i j false true ei ej ok local one w hi hj = sym (mover_and plan g pre r j i ok local one w ej ei hj hi)
one_cases plan g pre r i j false false ei ej ok local one w hi hj = one i j (sym (holds_kept plan pre r g i ei) ∙ hi) (sym (holds_kept plan pre r g j ej) ∙ hj)

-- so such a row keeps that one job at most holds it
one_push : (plan : PlanModel) (g : ℕ) → IsPlan plan → is_global plan g ≡ false → (pre : List Row) (r : Row) → IsHeldByOne plan pre g → LocksLegally plan pre r → IsHeldByOne plan (pre ++ r ∷ []) g
one_push plan g ok local pre r one w = λ i j. one_cases plan g pre r i j (is_row_of i r) (is_row_of j r) refl refl ok local one w

-- nobody holds anything before the first row
none_holds : (plan : PlanModel) (g : ℕ) → IsHeldByOne plan [] g
none_holds plan g = λ i j h. absurd (true≢false (sym h))

-- so at most one job holds it
local_holder : (plan : PlanModel) (g : ℕ) (pre : List Row) → IsPlan plan → is_global plan g ≡ false → EachAfter (LocksLegally plan) [] pre → IsHeldByOne plan pre g
local_holder plan g pre ok local all = along (λ rows. IsHeldByOne plan rows g) (LocksLegally plan) (one_push plan g ok local) [] pre (none_holds plan g) all

-- ---- both
holder_cases : (plan : PlanModel) (g : ℕ) (pre : List Row) (b : Bool) → is_global plan g ≡ b → IsPlan plan → EachAfter (IsLegal plan) [] pre → EachAfter (LocksLegally plan) [] pre → IsHeldByOne plan pre g
holder_cases plan g pre true e ok legal free = global_holder plan g pre ok e legal
holder_cases plan g pre false e ok legal free = local_holder plan g pre ok e free

-- at each place of a run at most one job holds a resource
pub mutual_exclusion : (plan : PlanModel) (rows : List Row) → IsPlan plan → IsRunStart plan rows → MutualExclusion plan rows
mutual_exclusion plan rows ok run = λ pre post g e.
    let both : EachAfter (LocksLegally plan) [] rows = each_both (IsLegal plan) (LocksFree plan) (LocksLegally plan) (λ l x a b. record { legal = a; free = b }) [] rows run.each (no_local_blocking plan rows ok run) in
    holder_cases plan g pre (is_global plan g) refl ok (each_before (IsLegal plan) [] pre post (subst (EachAfter (IsLegal plan) []) e run.each)) (each_before (LocksLegally plan) [] pre post (subst (EachAfter (LocksLegally plan) []) e both))
