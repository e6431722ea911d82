-- The rows that a job still has to make until it lets go of a resource.
use Rattle.msrp_plan.specs.Common.{zero, suc, ℕ, Bool, true, false, cond, not, List, [], Some, max, length, slice_get, drop, take, is_global_unit, res_of_unit, section, done, is_queued, is_row_of, is_waiting, is_global, uses, PlanModel, TaskModel, core_of, task_of, units, is_on, JobState, holds_after, is_lock_of, is_unlock_of, locks, unlocks, IsPlan}
use Rattle.msrp_plan.specs.declared.ids.JobId.{JobId}
use Rattle.msrp_plan.specs.declared.ids.ResId.{ResId}
use Rattle.msrp_plan.specs.declared.rows.Kind.{Kind}
use Rattle.msrp_plan.specs.declared.rows.Kind.TheVariants.{Grant, Queue, Spin, Take}
use Rattle.msrp_plan.specs.declared.rows.Row.{Row}
use Rattle.msrp_plan.specs.declared.units.Op.{Op}
use Rattle.std.proofs.Common.{◌≡◌, ◌+◌, ◌≤◌, ◌&&◌, ◌==◌, ◌∷◌, ◌++◌, refl, ap, sym, ◌∙◌, arith, eq-eqb, length-drop, inl, inr}
use Rattle.std.proofs.Math.Bool.{true≢false}
use Rattle.std.proofs.lemmas.Bool.{le-ltb}
use Rattle.std.proofs.lemmas.Option.{get_or_from_slice_get, slice_get_within}
use Rattle.std.proofs.lemmas.List.{drop_more, take_all}
use Rattle.msrp_plan.specs.Bounds.{is_used_on, longest_section, to_unlock}
use Rattle.msrp_plan.specs.declared.units.Op.TheVariants.{Lock as LockUnit, Run as RunUnit, Unlock as UnlockUnit}
use Rattle.msrp_plan.proofs.Lists.LeastKept.{greatest_above}
use Rattle.msrp_plan.proofs.Legality.LegalRows.{DoesUnit}
use Rattle.msrp_plan.proofs.Lists.AnyAll.{any_in}
use Rattle.msrp_plan.proofs.TaskUnits.PlanUnits.{task_in, unit_in, units_balance, units_flat}
use Rattle.msrp_plan.proofs.TaskUnits.Stands.{Holds, IsUp, Out, Stand, Waits, locks_at, stand, stand_held, stand_in, up_cases}
use Rattle.msrp_plan.proofs.Jobs.States.{state_kept, state_moved}
use Rattle.msrp_plan.proofs.TaskUnits.UnitCounts.{held_in}
use Rattle.msrp_plan.proofs.TaskUnits.UnitKinds.{Grants, Locks, Queues, Releases, Runs, Spins, Takes, Unlocks, step_of}

-- what is left at a place begins with its unit
drop_at : (us : List Op) (n : ℕ) (op : Op) → slice_get us n ≡ Some op → drop n us ≡ op ∷ drop (n + 1) us
drop_at us n op h = drop_more us n op (slice_get_within us n op h) ∙ ap (λ o. o ∷ drop (n + 1) us) (get_or_from_slice_get us n op op h)

-- the longest section of what is left is no longer
longest_drop : (g : ℕ) (us : List Op) (n : ℕ) → longest_section g (drop n us) ≤ longest_section g us
longest_drop g us zero = omega arith
longest_drop g [] (suc n) = omega arith
longest_drop g (u ∷ us) (suc n) = let ih = longest_drop g us n in omega (arith, ih)

-- what follows a lock is within the longest section
pub longest_at : (g : ℕ) (us : List Op) (n : ℕ) (op : Op) → slice_get us n ≡ Some op → is_lock_of g op ≡ true → to_unlock g (drop (n + 1) us) ≤ longest_section g us
longest_at g us n op h l =
    let a = longest_drop g us n in
    let b : longest_section g (drop n us) ≡ max (cond (is_lock_of g op) (to_unlock g (drop (n + 1) us)) 0) (longest_section g (drop (n + 1) us)) = ap (longest_section g) (drop_at us n op h) in
    let c : cond (is_lock_of g op) (to_unlock g (drop (n + 1) us)) 0 ≡ to_unlock g (drop (n + 1) us) = ap (λ v. cond v (to_unlock g (drop (n + 1) us)) 0) l in
    omega (arith, a, b, c)

-- so what follows a lock is within the longest section of the core
pub section_at : (plan : PlanModel) (g : ℕ) (x : JobId) (n : ℕ) (op : Op) → slice_get (units plan x) n ≡ Some op → is_lock_of g op ≡ true → to_unlock g (drop (n + 1) (units plan x)) ≤ section plan g (core_of plan x)
section_at plan g x n op h l =
    let a = longest_at g (units plan x) n op h l in
    let b = greatest_above (λ (w : TaskModel). longest_section g w.units) (λ w. w.core == core_of plan x) plan.tasks (task_of plan x) (task_in plan x.task.0 n op h) (eq-eqb (core_of plan x) (core_of plan x) refl) in
    omega (arith, a, b)

-- and the resource is used there
pub used_at : (plan : PlanModel) (g : ℕ) (x : JobId) (n : ℕ) (op : Op) → slice_get (units plan x) n ≡ Some op → is_lock_of g op ≡ true → is_used_on plan g (core_of plan x) ≡ true
used_at plan g x n op h l =
    let used : uses g (task_of plan x) ≡ true = any_in (is_lock_of g) (units plan x) op (unit_in (units plan x) n op h) l in
    any_in (λ a. (a.core == core_of plan x) && uses g a) plan.tasks (task_of plan x) (task_in plan x.task.0 n op h) (ap (λ b. b && uses g (task_of plan x)) (eq-eqb (core_of plan x) (core_of plan x) refl) ∙ used)

-- one unit on
pub unlock_next : (g : ℕ) (us : List Op) (n : ℕ) (op : Op) → slice_get us n ≡ Some op → to_unlock g (drop n us) ≡ cond (is_unlock_of g op) 1 (1 + to_unlock g (drop (n + 1) us))
unlock_next g us n op h = ap (to_unlock g) (drop_at us n op h)

-- ---- the rows that a job still has to make until it lets go of g
abbrev pub work_as : PlanModel → ℕ → JobId → ℕ → Stand → ℕ
work_as plan g y n Out = 0
work_as plan g y n Waits = 1 + section plan g (core_of plan y)
work_as plan g y n Holds = to_unlock g (drop n (units plan y))

-- after some rows
abbrev pub work : PlanModel → ℕ → List Row → JobId → ℕ
work plan g pre y = work_as plan g y (done y pre) (stand plan g pre y)

-- a row of another job leaves it
pub work_kept : (plan : PlanModel) (g : ℕ) (pre : List Row) (r : Row) (y : JobId) → is_row_of y r ≡ false → work plan g (pre ++ r ∷ []) y ≡ work plan g pre y
work_kept plan g pre r y e = ap (λ (s : JobState). work_as plan g y s.done (stand_in (units plan y) g s.queued s.done)) (state_kept pre r y e)

-- the units done after the job's own row
done_mine : (pre : List Row) (r : Row) (x : JobId) (k : Kind) → r.job ≡ Some x → r.kind ≡ k → done x (pre ++ r ∷ []) ≡ done x pre + cond (not (is_waiting k)) 1 0
done_mine pre r x k e h = ap (λ (s : JobState). s.done) (state_moved pre r x e) ∙ ap (λ w. done x pre + cond (not (is_waiting w)) 1 0) h

-- by the stand
pub work_is : (plan : PlanModel) (g : ℕ) (pre : List Row) (y : JobId) (s : Stand) → stand plan g pre y ≡ s → work plan g pre y ≡ work_as plan g y (done y pre) s
work_is plan g pre y s e = ap (work_as plan g y (done y pre)) e

-- a row that asks for g stands at a lock of g
abbrev pub is_ask : Kind → Bool
is_ask Take = true
is_ask Queue = true
is_ask Spin = true
is_ask Grant = true
is_ask _ = false

pub asks_at : (plan : PlanModel) (g : ℕ) (pre : List Row) (r : Row) (x : JobId) (k : Kind) → (a : DoesUnit plan pre x r) → is_on g r.res ≡ true → r.kind ≡ k → is_ask k ≡ true → is_lock_of g a.op ≡ true
asks_at plan g pre r x k a on kind ask =
    elim (step_of (is_global_unit plan a.op) (is_queued pre x) a.op r.kind a.kind) [
      | Runs eo ek ↦ absurd (true≢false (sym ask ∙ ap is_ask (sym kind ∙ ek)))
      | Locks h eo ek eg ↦ ap (is_lock_of g) eo ∙ (sym (ap (is_on g) (a.res ∙ ap res_of_unit eo)) ∙ on)
      | Unlocks h eo ek eg ↦ absurd (true≢false (sym ask ∙ ap is_ask (sym kind ∙ ek)))
      | Takes h eo ek eg eq ↦ ap (is_lock_of g) eo ∙ (sym (ap (is_on g) (a.res ∙ ap res_of_unit eo)) ∙ on)
      | Queues h eo ek eg eq ↦ ap (is_lock_of g) eo ∙ (sym (ap (is_on g) (a.res ∙ ap res_of_unit eo)) ∙ on)
      | Grants h eo ek eg eq ↦ ap (is_lock_of g) eo ∙ (sym (ap (is_on g) (a.res ∙ ap res_of_unit eo)) ∙ on)
      | Spins h eo ek eg eq ↦ ap (is_lock_of g) eo ∙ (sym (ap (is_on g) (a.res ∙ ap res_of_unit eo)) ∙ on)
      | Releases h eo ek eg ↦ absurd (true≢false (sym ask ∙ ap is_ask (sym kind ∙ ek)))
    ]

-- who has got it has at most the longest section to do
pub got_work : (plan : PlanModel) (g : ℕ) (pre : List Row) (r : Row) (x : JobId) (k : Kind) → DoesUnit plan pre x r → is_on g r.res ≡ true → r.job ≡ Some x → r.kind ≡ k → is_ask k ≡ true → is_waiting k ≡ false → stand plan g (pre ++ r ∷ []) x ≡ Holds → work plan g (pre ++ r ∷ []) x ≤ section plan g (core_of plan x)
got_work plan g pre r x k a on job kind ask w after =
    let d : done x (pre ++ r ∷ []) ≡ done x pre + 1 = done_mine pre r x k job kind ∙ ap (λ b. done x pre + cond (not b) 1 0) w in
    let e : work plan g (pre ++ r ∷ []) x ≡ to_unlock g (drop (done x pre + 1) (units plan x)) = work_is plan g (pre ++ r ∷ []) x Holds after ∙ ap (λ n. to_unlock g (drop n (units plan x))) d in
    let s = section_at plan g x (done x pre) a.op a.unit (asks_at plan g pre r x k a on kind ask) in
    omega (arith, e, s)

-- ---- a holder's row on something else takes a unit off
off_unlock : (g : ℕ) (op : Op) (b : Bool) → is_unlock_of g op ≡ b → is_on g (res_of_unit op) ≡ false → is_unlock_of g op ≡ false
off_unlock g op false e off = e
off_unlock g RunUnit true e off = refl
off_unlock g (LockUnit h) true e off = refl
off_unlock g (UnlockUnit h) true e off = off

-- who holds a global resource waits for none
waits_not : (plan : PlanModel) (g : ℕ) (pre : List Row) (r : Row) (x : JobId) → IsPlan plan → is_global plan g ≡ true → DoesUnit plan pre x r → held_in (units plan x) g (done x pre) ≡ true → is_waiting r.kind ≡ false
waits_not plan g pre r x ok glob a held =
    let bad : (h : ResId) → a.op ≡ LockUnit h → is_global_unit plan a.op ≡ true → ⊥ = λ h eo eg. true≢false (sym held ∙ le-ltb _ _ ((units_flat plan ok x.task.0).alone (done x pre) g h (a.unit ∙ ap (λ o. Some o) eo) (sym (ap (is_global_unit plan) eo) ∙ eg) glob)) in
    elim (step_of (is_global_unit plan a.op) (is_queued pre x) a.op r.kind a.kind) [
      | Runs eo ek ↦ ap is_waiting ek
      | Locks h eo ek eg ↦ ap is_waiting ek
      | Unlocks h eo ek eg ↦ ap is_waiting ek
      | Takes h eo ek eg eq ↦ ap is_waiting ek
      | Queues h eo ek eg eq ↦ absurd (bad h eo eg)
      | Grants h eo ek eg eq ↦ ap is_waiting ek
      | Spins h eo ek eg eq ↦ absurd (bad h eo eg)
      | Releases h eo ek eg ↦ ap is_waiting ek
    ]

-- a unit on something else doesn't lock it
off_locks : (g : ℕ) (op : Op) → is_on g (res_of_unit op) ≡ false → is_lock_of g op ≡ true → ⊥
off_locks g RunUnit off l = cc
off_locks g (LockUnit h) off l = true≢false (sym l ∙ off)
off_locks g (UnlockUnit h) off l = cc

-- so its row takes one off
pub quiet_work : (plan : PlanModel) (g : ℕ) (pre : List Row) (r : Row) (x : JobId) → IsPlan plan → is_global plan g ≡ true → DoesUnit plan pre x r → r.job ≡ Some x → is_on g r.res ≡ false → stand plan g (pre ++ r ∷ []) x ≡ stand plan g pre x → IsUp plan g pre x → work plan g (pre ++ r ∷ []) x + 1 ≤ work plan g pre x
quiet_work plan g pre r x ok glob a job off st up =
    let o : is_on g (res_of_unit a.op) ≡ false = sym (ap (is_on g) a.res) ∙ off in
    elim (up_cases plan g pre x up) [
      | inl h ↦
          let now : stand plan g pre x ≡ Holds = stand_held (units plan x) g (is_queued pre x) (done x pre) h in
          let w = waits_not plan g pre r x ok glob a h in
          let d : done x (pre ++ r ∷ []) ≡ done x pre + 1 = done_mine pre r x r.kind job refl ∙ ap (λ b. done x pre + cond (not b) 1 0) w in
          let e : work plan g (pre ++ r ∷ []) x ≡ to_unlock g (drop (done x pre + 1) (units plan x)) = work_is plan g (pre ++ r ∷ []) x Holds (st ∙ now) ∙ ap (λ n. to_unlock g (drop n (units plan x))) d in
          let f : work plan g pre x ≡ 1 + to_unlock g (drop (done x pre + 1) (units plan x)) = work_is plan g pre x Holds now ∙ (unlock_next g (units plan x) (done x pre) a.op a.unit ∙ ap (λ b. cond b 1 (1 + to_unlock g (drop (done x pre + 1) (units plan x)))) (off_unlock g a.op (is_unlock_of g a.op) refl o)) in
          omega (arith, e, f)
      | inr q ↦ absurd (off_locks g a.op o (sym (ap (locks_at g) a.unit) ∙ q.1))
    ]

-- whoever waits or holds has a row to make
cond_left : (b : Bool) (n : ℕ) → 1 ≤ cond b 1 (1 + n)
cond_left true n = omega arith
cond_left false n = omega arith

-- units that are left need a row
some_left : (g : ℕ) (us : List Op) → (us ≡ [] → ⊥) → 1 ≤ to_unlock g us
some_left g [] h = absurd (h refl)
some_left g (u ∷ us) h = cond_left (is_unlock_of g u) (to_unlock g us)

-- who holds it has units left
held_left : (plan : PlanModel) (g : ℕ) (y : JobId) (n : ℕ) → IsPlan plan → held_in (units plan y) g n ≡ true → drop n (units plan y) ≡ [] → ⊥
held_left plan g y n ok held e =
    let us = units plan y in
    let l : length us ≤ n = let k = ap length e in let d = length-drop n us in omega (arith, k, d) in
    let t : take n us ≡ us = take_all n us l in
    let b = units_balance plan ok y.task.0 g in
    true≢false (sym held ∙ (ap (λ vs. holds_after vs g) t ∙ le-ltb (unlocks g us) (locks g us) (omega (arith, b))))

-- the stand of a holder
holds_held : (a b : Bool) → cond a Holds (cond b Waits Out) ≡ Holds → a ≡ true
holds_held true b h = refl
holds_held false true h = absurd (cc)
holds_held false false h = absurd (cc)

-- by the stand
work_go : (plan : PlanModel) (g : ℕ) (pre : List Row) (y : JobId) → IsPlan plan → (s : Stand) → stand plan g pre y ≡ s → IsUp plan g pre y → 1 ≤ work_as plan g y (done y pre) s
work_go plan g pre y ok Out e up = absurd (up e)
work_go plan g pre y ok Waits e up = omega arith
work_go plan g pre y ok Holds e up =
    let h : held_in (units plan y) g (done y pre) ≡ true = holds_held (held_in (units plan y) g (done y pre)) (is_queued pre y && locks_at g (slice_get (units plan y) (done y pre))) e in
    some_left g (drop (done y pre) (units plan y)) (held_left plan g y (done y pre) ok h)

-- and so has one row at least to make
pub work_some : (plan : PlanModel) (g : ℕ) (pre : List Row) (y : JobId) → IsPlan plan → IsUp plan g pre y → 1 ≤ work plan g pre y
work_some plan g pre y ok up =
    work_go plan g pre y ok (stand plan g pre y) refl up
