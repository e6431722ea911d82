-- No wait of a run has more spins than the bound of its task.
use Rattle.std.proofs.Common.{◌≡◌, ◌≤◌, ◌+◌, ◌&&◌, ◌||◌, ◌∷◌, ◌++◌, ◌∙◌}
use Rattle.msrp_plan.proofs.Common.{ℕ, Bool, true, false, cond, List, [], Some, refl, ap, sym, subst, arith, count_by, append_assoc, slice_get, eq-eqb, length, list_any, Contains, and_parts, and_from, sum_by-cons, PlanModel, task_of, core_of, units, is_queue, is_lock_of, is_row_of, is_queued, done, uses, is_global, resources, is_global_unit, res_of_unit, allows, is_on, spin_bound, EachAfter, IsLegal, IsRunStart, IsPlan, any_in, DoesUnit, legal_turn, greatest_above, each_before, each_at, units_lock, is_job_is}
use Rattle.msrp_report.proofs.Common.{JobId, Kind, Queue, Row, in_range, is_grant, is_grant_of, is_granted, is_queue_of, is_spin_of, longest_wait, spins_to_grant, task_spin_bound}
use Rattle.msrp_plan.specs.declared.ids.ResId.{ResId}
use Rattle.msrp_plan.specs.declared.units.Op.{Op}
use Rattle.msrp_plan.specs.declared.units.Op.TheVariants.{Run as RunUnit, Lock as LockUnit, Unlock as UnlockUnit}
use Rattle.msrp_plan.proofs.TaskUnits.PlanUnits.{unit_in}
use Rattle.msrp_plan.proofs.Spinning.SpinBound.{spins_within}

-- ---- the rows up to the next grant
record UpToGrant (j : JobId) (rows : List Row) : Type 0 where
  since : List Row
  post : List Row
  split : rows ≡ since ++ post
  waits : (g : ℕ) → list_any (is_grant_of j g) since ≡ false
  spun : count_by (is_spin_of j) since ≡ spins_to_grant j rows

-- a row that grants nothing grants no resource
grants_none : (own on grant : Bool) → (own && grant) ≡ false → (own && (on && grant)) ≡ false
grants_none true true true h = h
grants_none true true false h = refl
grants_none true false g h = refl
grants_none false on g h = refl

up_to_grant : (j : JobId) (rows : List Row) → UpToGrant j rows
up_to_grant j [] = record { since = []; post = []; split = refl; waits = λ g. refl; spun = refl }
up_to_grant j (r ∷ rows) = by_test (up_to_grant j rows) (is_granted j r) refl
  where
    by_test : UpToGrant j rows → (b : Bool) → is_granted j r ≡ b → UpToGrant j (r ∷ rows)
    by_test more true e = record { since = []; post = r ∷ rows; split = refl; waits = λ g. refl; spun = sym (ap (λ b. cond b 0 (cond (is_spin_of j r) 1 0 + spins_to_grant j rows)) e) }
    by_test more false e =
        record {
          since = r ∷ more.since;
          post = more.post;
          split = ap (λ l. r ∷ l) more.split;
          waits = λ g. ap (λ b. b || list_any (is_grant_of j g) more.since) (grants_none (is_row_of j r) (is_on g r.res) (is_grant r.kind) e) ∙ more.waits g;
          spun = sum_by-cons (λ x. cond (is_spin_of j x) 1 0) r more.since ∙ (ap (λ n. cond (is_spin_of j r) 1 0 + n) more.spun ∙ sym (ap (λ b. cond b 0 (cond (is_spin_of j r) 1 0 + spins_to_grant j rows)) e));
        }

-- ---- a wait
queue_is : (k : Kind) → is_queue k ≡ true → k ≡ Queue
queue_is Queue h = refl
queue_is _ h = absurd (cc)

-- what a job that joins a queue requests: a global resource
record Requests (plan : PlanModel) (j : JobId) (r : Row) : Type 0 where
  res : ResId
  named : r.res ≡ Some res
  used : uses res.0 (task_of plan j) ≡ true
  global : is_global plan res.0 ≡ true
  known : Contains (resources plan) res.0

on_own : (g : ResId) → is_lock_of g.0 (LockUnit g) ≡ true
on_own g = eq-eqb g.0 g.0 refl

request_by : (plan : PlanModel) (pre : List Row) (j : JobId) (r : Row) → IsPlan plan → (op : Op) → slice_get (units plan j) (done j pre) ≡ Some op → r.res ≡ res_of_unit op → allows (is_global_unit plan op) (is_queued pre j) op Queue ≡ true → Requests plan j r
request_by plan pre j r ok RunUnit unit res kind = absurd (cc)
request_by plan pre j r ok (UnlockUnit g) unit res kind = absurd (no (is_global plan g.0) kind)
  where
    no : (b : Bool) → allows b (is_queued pre j) (UnlockUnit g) Queue ≡ true → ⊥
    no true h = cc
    no false h = cc
request_by plan pre j r ok (LockUnit g) unit res kind = record {
  res = g;
  named = res;
  used = any_in (is_lock_of g.0) (units plan j) (LockUnit g) (unit_in (units plan j) (done j pre) (LockUnit g) unit) (on_own g);
  global = global (is_global plan g.0) (is_queued pre j) kind;
  known = in_range g.0 (length plan.resources) ((units_lock plan ok j.task.0).declared (done j pre) g unit);
}
  where
    global : (b q : Bool) → allows b q (LockUnit g) Queue ≡ true → b ≡ true
    global true q h = refl
    global false q h = absurd (cc)

request : (plan : PlanModel) (pre : List Row) (j : JobId) (r : Row) → IsPlan plan → DoesUnit plan pre j r → r.kind ≡ Queue → Requests plan j r
request plan pre j r ok does kind = request_by plan pre j r ok does.op does.unit does.res (subst (λ k. allows (is_global_unit plan does.op) (is_queued pre j) does.op k ≡ true) kind does.kind)

-- so many spins up to the next grant are within the bound
one_wait : (plan : PlanModel) (pre : List Row) (r : Row) (rows : List Row) (j : JobId) → IsPlan plan → EachAfter (IsLegal plan) [] (pre ++ r ∷ rows) → is_queue_of j r ≡ true → spins_to_grant j rows ≤ task_spin_bound plan (task_of plan j)
one_wait plan pre r rows j ok legal h =
    let both = and_parts (is_row_of j r) (is_queue r.kind) h in
    let job : r.job ≡ Some j = is_job_is r.job j both.0 in
    let joins = queue_is r.kind both.1 in
    let own = legal_turn plan pre r (each_at (IsLegal plan) [] pre r rows legal) in
    let q = request plan pre j r ok (own.does j job) joins in
    let up = up_to_grant j rows in
    let g = q.res.0 in
    let on : is_on g r.res ≡ true = subst (λ o. is_on g o ≡ true) (sym q.named) (eq-eqb g g refl) in
    let whole : pre ++ r ∷ rows ≡ (pre ++ r ∷ up.since) ++ up.post = ap (λ l. pre ++ r ∷ l) up.split ∙ sym (append_assoc pre (r ∷ up.since) up.post) in
    let first = each_before (IsLegal plan) [] (pre ++ r ∷ up.since) up.post (subst (EachAfter (IsLegal plan) []) whole legal) in
    let few = spins_within plan pre r up.since j g ok first (record { job = job; resource = on; joins = joins; waits = up.waits g }) in
    let top = greatest_above (λ k. spin_bound plan k (core_of plan j)) (λ k. uses k (task_of plan j) && is_global plan k) (resources plan) g q.known (and_from (uses g (task_of plan j)) (is_global plan g) q.used q.global) in
    let spun = up.spun in
    omega (arith, few, top, spun)

-- ---- all waits
from : (plan : PlanModel) (pre rows : List Row) (j : JobId) → IsPlan plan → EachAfter (IsLegal plan) [] (pre ++ rows) → longest_wait j rows ≤ task_spin_bound plan (task_of plan j)
from plan pre [] j ok legal = omega arith
from plan pre (r ∷ rows) j ok legal =
    let more = from plan (pre ++ r ∷ []) rows j ok (subst (EachAfter (IsLegal plan) []) (sym (append_assoc pre (r ∷ []) rows)) legal) in
    let here = by_test (is_queue_of j r) refl in
    omega (arith, more, here)
  where
    by_test : (b : Bool) → is_queue_of j r ≡ b → cond b (spins_to_grant j rows) 0 ≤ task_spin_bound plan (task_of plan j)
    by_test true e = one_wait plan pre r rows j ok legal e
    by_test false e = omega arith

pub longest_within : (plan : PlanModel) (rows : List Row) (j : JobId) → IsPlan plan → IsRunStart plan rows → longest_wait j rows ≤ task_spin_bound plan (task_of plan j)
longest_within plan rows j ok start = from plan [] rows j ok start.each
