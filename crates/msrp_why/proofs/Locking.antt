-- A local resource's last change is its holder's lock.
use Rattle.std.proofs.Common.{◌≡◌, ◌+◌, ◌||◌, ◌∷◌, ◌++◌, ◌∙◌}
use Rattle.msrp_plan.proofs.Common.{ℕ, Bool, true, false, cond, not, List, [], Option, Some, None, refl, ap, sym, subst, arith, take, slice_get, append_assoc, or-false, IsSomeAnd, true≢false, PlanModel, units, is_lock_of, is_unlock_of, holds_after, done, holds, is_queued, is_row_of, is_waiting, is_global, is_global_unit, allows, res_of_unit, is_on, EachAfter, IsLegal, IsRunStart, JobState, IsPlan, is_job, is_job_is, row_of_job, some_is, DoesUnit, IsTurn, idle_res, legal_turn, along, each_at, units_lock, held_unlock}
use Rattle.msrp_why.proofs.Common.{IsHeldByOne, IsLockBy, JobId, Kind, Lock, LockUnit, Op, Release, ResId, Row, RunUnit, Unlock, UnlockUnit, eqb-true, holds_kept, last_change}
use Rattle.msrp_plan.proofs.Holding.Exclusion.{mutual_exclusion}
use Rattle.msrp_plan.proofs.Jobs.States.{state_moved}
use Rattle.msrp_plan.proofs.Lists.Prefixes.{each_from}
use Rattle.msrp_plan.proofs.TaskUnits.UnitCounts.{held_in, held_lock, held_other}
use Rattle.msrp_why.proofs.Noting.{last_off, last_on}

-- a unit is on a resource if it locks or unlocks it
on_unit : (g : ℕ) (op : Op) → is_on g (res_of_unit op) ≡ (is_lock_of g op || is_unlock_of g op)
on_unit g RunUnit = refl
on_unit g (LockUnit h) = sym (or-false (is_lock_of g (LockUnit h)))
on_unit g (UnlockUnit h) = refl

-- a lock of a local resource is a row of the kind for it
local_lock : (b q : Bool) (h : ResId) (k : Kind) → b ≡ false → allows b q (LockUnit h) k ≡ true → k ≡ Lock
local_lock false q h Lock e a = refl
local_lock _ q h _ e a = absurd (cc)

lock_row : (plan : PlanModel) (g : ℕ) (op : Op) (q : Bool) (k : Kind) → is_global plan g ≡ false → is_lock_of g op ≡ true → allows (is_global_unit plan op) q op k ≡ true → k ≡ Lock
lock_row plan g RunUnit q k local locks a = absurd (true≢false (sym locks))
lock_row plan g (UnlockUnit h) q k local locks a = absurd (true≢false (sym locks))
lock_row plan g (LockUnit h) q k local locks a = local_lock (is_global plan h.0) q h k (ap (is_global plan) (eqb-true h.0 g locks) ∙ local) a

-- an unlock is done in one row
unlock_row : (b q : Bool) (g : ℕ) (op : Op) (k : Kind) → is_unlock_of g op ≡ true → allows b q op k ≡ true → is_waiting k ≡ false
unlock_row false q g (UnlockUnit h) Unlock u a = refl
unlock_row true q g (UnlockUnit h) Release u a = refl
unlock_row _ _ g _ _ u a = absurd (cc)

-- who holds it behind a unit on another held it before
held_before : (us : List Op) (g n : ℕ) (op : Op) (w : Bool) → slice_get us n ≡ Some op → is_lock_of g op ≡ false → is_unlock_of g op ≡ false → held_in us g (n + cond (not w) 1 0) ≡ true → held_in us g n ≡ true
held_before us g n op true u l k h = let z : n ≡ n + 0 = omega arith in ap (held_in us g) z ∙ h
held_before us g n op false u l k h = sym (held_other us g n op u l k) ∙ h

-- the invariant
abbrev pub AreLocked : PlanModel → ℕ → List Row → Type 0
AreLocked plan g rows = (j : JobId) → holds plan rows g j ≡ true → IsSomeAnd (last_change g rows) (IsLockBy j)

-- a legal row, before and after which one job at most holds the resource
pub record HasOneHolder (plan : PlanModel) (g : ℕ) (pre : List Row) (r : Row) : Type 0 where
  pub legal : IsLegal plan pre r
  pub before : IsHeldByOne plan pre g
  pub after : IsHeldByOne plan (pre ++ r ∷ []) g

module _ (plan : PlanModel) (g : ℕ) (ok : IsPlan plan) (local : is_global plan g ≡ false) (pre : List Row) (r : Row) (old : AreLocked plan g pre) (w : HasOneHolder plan g pre r) (j : JobId) (held : holds plan (pre ++ r ∷ []) g j ≡ true) where
  turn : IsTurn plan pre r
  turn = legal_turn plan pre r w.legal

  moved : (x : JobId) → r.job ≡ Some x → holds plan (pre ++ r ∷ []) g x ≡ held_in (units plan x) g (done x pre + cond (not (is_waiting r.kind)) 1 0)
  moved x e = ap (λ (s : JobState). holds_after (take s.done (units plan x)) g) (state_moved pre r x e)

  kept : is_on g r.res ≡ false → holds plan pre g j ≡ true → IsSomeAnd (last_change g (pre ++ r ∷ [])) (IsLockBy j)
  kept off before = subst (λ o. IsSomeAnd o (IsLockBy j)) (last_off g pre r off) (old j before)

  module _ (x : JobId) (job : r.job ≡ Some x) (d : DoesUnit plan pre x r) where
    -- a lock: who holds it is the one that locks it
    locks : is_lock_of g d.op ≡ true → IsSomeAnd (last_change g (pre ++ r ∷ [])) (IsLockBy j)
    locks l =
        let kind = lock_row plan g d.op (is_queued pre x) r.kind local l d.kind in
        let behind = (held_lock plan (units plan x) g (done x pre) d.op (units_lock plan ok x.task.0) d.unit l).1 in
        let holder = moved x job ∙ (ap (λ k. held_in (units plan x) g (done x pre + cond (not (is_waiting k)) 1 0)) kind ∙ behind) in
        let on : is_on g r.res ≡ true = ap (is_on g) d.res ∙ (on_unit g d.op ∙ ap (λ b. b || is_unlock_of g d.op) l) in
        subst (λ o. IsSomeAnd o (IsLockBy j)) (sym (last_on g pre r Lock on kind)) (kind, job ∙ ap (λ i. Some i) (w.after x j holder held))

    -- the job, where the row is its own, holds it after the row
    same : is_row_of j r ≡ true → x ≡ j
    same mine = some_is x j (sym job ∙ is_job_is r.job j mine)

    own : is_row_of j r ≡ true → held_in (units plan x) g (done x pre + cond (not (is_waiting r.kind)) 1 0) ≡ true
    own mine = sym (moved x job) ∙ subst (λ i. holds plan (pre ++ r ∷ []) g i ≡ true) (sym (same mine)) held

    -- an unlock: who held it was the one that unlocks it
    unlocks : (m : Bool) → is_row_of j r ≡ m → is_unlock_of g d.op ≡ true → ⊥
    unlocks true mine u =
        let behind = (held_unlock plan (units plan x) g (done x pre) d.op (units_lock plan ok x.task.0) d.unit u).1 in
        let waits = unlock_row (is_global_unit plan d.op) (is_queued pre x) g d.op r.kind u d.kind in
        true≢false (sym (own mine) ∙ (ap (λ b. held_in (units plan x) g (done x pre + cond (not b) 1 0)) waits ∙ behind))
    unlocks false other u =
        let holder = (held_unlock plan (units plan x) g (done x pre) d.op (units_lock plan ok x.task.0) d.unit u).0 in
        let one = w.before x j holder (sym (holds_kept plan pre r g j other) ∙ held) in
        true≢false (sym (row_of_job r j (job ∙ ap (λ i. Some i) one)) ∙ other)

    -- neither: who holds it held it
    stays : (m : Bool) → is_row_of j r ≡ m → is_lock_of g d.op ≡ false → is_unlock_of g d.op ≡ false → holds plan pre g j ≡ true
    stays true mine l u = subst (λ i. holds plan pre g i ≡ true) (same mine) (held_before (units plan x) g (done x pre) d.op (is_waiting r.kind) d.unit l u (own mine))
    stays false other l u = sym (holds_kept plan pre r g j other) ∙ held

    by_unit : (a b : Bool) → is_lock_of g d.op ≡ a → is_unlock_of g d.op ≡ b → IsSomeAnd (last_change g (pre ++ r ∷ [])) (IsLockBy j)
    by_unit true b l u = locks l
    by_unit false true l u = absurd (unlocks (is_row_of j r) refl u)
    by_unit false false l u = kept (ap (is_on g) d.res ∙ (on_unit g d.op ∙ (ap (λ b. b || is_unlock_of g d.op) l ∙ u))) (stays (is_row_of j r) refl l u)

  pub locked_push : (o : Option JobId) → r.job ≡ o → IsSomeAnd (last_change g (pre ++ r ∷ [])) (IsLockBy j)
  locked_push None e = kept (ap (is_on g) (idle_res r (turn.idle e))) (sym (holds_kept plan pre r g j (ap (λ o. is_job o j) e)) ∙ held)
  locked_push (Some x) e = let d = turn.does x e in by_unit x e d (is_lock_of g d.op) (is_unlock_of g d.op) refl refl

pub locked_last : (plan : PlanModel) (rows : List Row) (g : ℕ) (j : JobId) → IsPlan plan → is_global plan g ≡ false → IsRunStart plan rows → holds plan rows g j ≡ true → IsSomeAnd (last_change g rows) (IsLockBy j)
locked_last plan rows g j ok local start held =
    let one = mutual_exclusion plan rows ok start in
    let all = each_from (HasOneHolder plan g) [] rows (λ pre r post same. record {
      legal = each_at (IsLegal plan) [] pre r post (subst (EachAfter (IsLegal plan) []) same start.each);
      before = one pre (r ∷ post) g same;
      after = one (pre ++ r ∷ []) post g (same ∙ sym (append_assoc pre (r ∷ []) post));
    }) in
    along (AreLocked plan g) (HasOneHolder plan g) (λ pre r old w i h. locked_push plan g ok local pre r old w i h r.job refl) [] rows (λ i h. absurd (true≢false (sym h))) all j held
