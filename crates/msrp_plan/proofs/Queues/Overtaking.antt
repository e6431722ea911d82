-- Bounded overtaking: while a job waits for a global resource, those ahead of it in the queue come
-- to hold it, each once, and nobody else does.
use Rattle.msrp_plan.specs.Common.{ℕ, Bool, true, false, cond, List, [], Some, length, drop, Contains, list_any, PlanModel, is_row_of, is_queued, done, is_global, resources, is_global_unit, res_of_unit, fifo, is_first, is_on, is_free, IsLegal, IsRunStart, EachAfter, IsPlan, is_grant_of, is_grant}
use Rattle.msrp_plan.specs.declared.ids.JobId.{JobId}
use Rattle.msrp_plan.specs.declared.rows.Kind.{Kind}
use Rattle.msrp_plan.specs.declared.rows.Kind.TheVariants.{Run, Lock, Unlock, Take, Queue, Spin, Grant, Release}
use Rattle.msrp_plan.specs.declared.rows.Row.{Row}
use Rattle.std.proofs.Common.{◌≡◌, ◌+◌, ◌<◌, ◌≤◌, ◌&&◌, ◌∷◌, ◌++◌, refl, ap, sym, ◌∙◌, subst, arith, append_assoc, append-nil, length-append}
use Rattle.std.specs.List.{count_by}
use Rattle.std.proofs.Math.Bool.{true≢false}
use Rattle.std.proofs.lemmas.Bool.{eqb-true, or_parts, false_from_ne_true}
use Rattle.std.proofs.lemmas.List.Sums.{sum_by-cons}
use Rattle.msrp_plan.specs.Laws.{is_acquisition, is_acquiring, BoundedOvertaking}
use Rattle.msrp_plan.proofs.Jobs.JobTests.{same_is, some_is, row_of_job}
use Rattle.msrp_plan.proofs.Lists.Prefixes.{each_before, each_rest}
use Rattle.msrp_plan.proofs.TaskUnits.PlanUnits.{units_lock}
use Rattle.msrp_plan.proofs.Levels.Ceilings.{in_resources}
use Rattle.msrp_plan.proofs.TaskUnits.UnitKinds.{Runs, Locks, Unlocks, Takes, Queues, Grants, Spins, Releases, step_of}
use Rattle.msrp_plan.proofs.TaskUnits.Stands.{Stand, Out, Waits, Holds, stand, holds_waits}
use Rattle.msrp_plan.proofs.Legality.LegalRows.{DoesUnit, legal_turn}
use Rattle.msrp_plan.proofs.Queues.Effects.{IsMove, Effect, Quiet, Took, Joined, Got, Spun, Left, mover_is, effect}
use Rattle.msrp_plan.proofs.Holding.Holders.{IsOrderly, orderly_push}
use Rattle.msrp_plan.proofs.Queues.QueueMembers.{IsQueueOf, queue_at, queue_push, queue_short}

-- the stand is that of a holder
abbrev pub is_holds : Stand → Bool
is_holds Holds = true
is_holds _ = false

-- the first of these holds it
abbrev pub is_busy : PlanModel → ℕ → List Row → List JobId → Bool
is_busy plan g pre [] = false
is_busy plan g pre (y ∷ ys) = is_holds (stand plan g pre y)

-- ---- the invariant: x waits behind others, and n acquisitions came since it queued
pub record IsBehind (plan : PlanModel) (g : ℕ) (x : JobId) (pre : List Row) (n : ℕ) : Type 0 where
  pub ahead : List JobId
  pub behind : List JobId
  pub queue : fifo g pre ≡ ahead ++ x ∷ behind
  pub waits : stand plan g pre x ≡ Waits
  pub few : n + length ahead + 1 ≤ plan.cores + cond (is_busy plan g pre ahead) 1 0

-- a row that changes no holder leaves whether the first holds it
busy_same : (plan : PlanModel) (g : ℕ) (pre : List Row) (r : Row) (ys : List JobId) → ((j : JobId) → is_holds (stand plan g (pre ++ r ∷ []) j) ≡ is_holds (stand plan g pre j)) → is_busy plan g (pre ++ r ∷ []) ys ≡ is_busy plan g pre ys
busy_same plan g pre r [] h = refl
busy_same plan g pre r (y ∷ ys) h = h y

-- a move between stands that hold alike changes no holder
pub moved_same : (plan : PlanModel) (g : ℕ) (pre : List Row) (r : Row) (x : JobId) (k : Kind) (a b : Stand) → IsMove plan g pre r x k a b → is_holds b ≡ is_holds a → (j : JobId) (c : Bool) → is_row_of j r ≡ c → is_holds (stand plan g (pre ++ r ∷ []) j) ≡ is_holds (stand plan g pre j)
moved_same plan g pre r x k a b m e j true mine =
    let s = mover_is plan g pre r x j k a b m mine in
    subst (λ z. is_holds (stand plan g (pre ++ r ∷ []) z) ≡ is_holds (stand plan g pre z)) (sym s) (ap is_holds m.after ∙ (e ∙ sym (ap is_holds m.before)))
moved_same plan g pre r x k a b m e j false mine = ap is_holds (m.others j mine)

-- who waits still waits after a row that takes nobody else from the queue's front to the resource
pub still_waits : (plan : PlanModel) (g : ℕ) (pre : List Row) (r : Row) (x z : JobId) (k : Kind) (a b : Stand) → IsMove plan g pre r z k a b → (a ≡ Waits → b ≡ Waits) → (c : Bool) → is_row_of x r ≡ c → stand plan g pre x ≡ Waits → stand plan g (pre ++ r ∷ []) x ≡ Waits
still_waits plan g pre r x z k a b m non true e w =
    let s = mover_is plan g pre r z x k a b m e in
    subst (λ v. stand plan g (pre ++ r ∷ []) v ≡ Waits) (sym s) (m.after ∙ non (sym m.before ∙ subst (λ v. stand plan g pre v ≡ Waits) s w))
still_waits plan g pre r x z k a b m non false e w = m.others x e ∙ w

-- a queue in which somebody stands is not empty
not_free : (ys zs : List JobId) (x : JobId) (f : List JobId) → f ≡ ys ++ x ∷ zs → is_free f ≡ true → ⊥
not_free [] zs x f e h = true≢false (sym h ∙ ap is_free e)
not_free (y ∷ ys) zs x f e h = true≢false (sym h ∙ ap is_free e)

-- ---- which rows count
not_counted : (g : ℕ) (r : Row) → is_on g r.res ≡ false → is_acquisition g r ≡ false
not_counted g r e = ap (λ b. b && is_acquiring r.kind) e

-- a row on it counts by its kind
counted : (g : ℕ) (r : Row) (k : Kind) (b : Bool) → is_on g r.res ≡ true → r.kind ≡ k → is_acquiring k ≡ b → is_acquisition g r ≡ b
counted g r k b on ek e = ap (λ c. c && is_acquiring r.kind) on ∙ (ap is_acquiring ek ∙ e)

-- a row that doesn't count, and after which as many hold it
behind_same : (plan : PlanModel) (g : ℕ) (x : JobId) (pre : List Row) (r : Row) (n : ℕ) (more : List JobId) → (old : IsBehind plan g x pre n) → is_acquisition g r ≡ false → fifo g (pre ++ r ∷ []) ≡ fifo g pre ++ more → stand plan g (pre ++ r ∷ []) x ≡ Waits
    → ((j : JobId) → is_holds (stand plan g (pre ++ r ∷ []) j) ≡ is_holds (stand plan g pre j)) → IsBehind plan g x (pre ++ r ∷ []) (n + cond (is_acquisition g r) 1 0)
behind_same plan g x pre r n more old off fs w st =
    let b = busy_same plan g pre r old.ahead st in
    let c : cond {A = ℕ} (is_acquisition g r) 1 0 ≡ 0 = ap (λ v. cond v 1 0) off in
    let few : n + length old.ahead + 1 ≤ plan.cores + cond (is_busy plan g (pre ++ r ∷ []) old.ahead) 1 0 = subst (λ v. n + length old.ahead + 1 ≤ plan.cores + cond v 1 0) (sym b) old.few in
    record {
      ahead = old.ahead;
      behind = old.behind ++ more;
      queue = fs ∙ (ap (λ f. f ++ more) old.queue ∙ append_assoc old.ahead (x ∷ old.behind) more);
      waits = w;
      few = omega (arith, few, c);
    }

-- a queue that stays has nobody more
pub same_queue : (f h : List JobId) → h ≡ f → h ≡ f ++ []
same_queue f h e = e ∙ sym (append-nil f)

-- one counts at most one
one_at_most : (b : Bool) → cond b 1 0 ≤ 1
one_at_most true = omega arith
one_at_most false = omega arith

-- a grant that is not x's is a row of another job
pub not_mine : (x : JobId) (g : ℕ) (r : Row) → is_on g r.res ≡ true → is_grant r.kind ≡ true → is_grant_of x g r ≡ false → is_row_of x r ≡ false
not_mine x g r on k non =
    false_from_ne_true (is_row_of x r) (λ e.
    true≢false (sym (ap (λ c. c && (is_on g r.res && is_grant r.kind)) e ∙ (ap (λ c. c && is_grant r.kind) on ∙ k)) ∙ non))

-- the first of those ahead is granted it
got_at : (plan : PlanModel) (g : ℕ) (x : JobId) (pre : List Row) (r : Row) (n : ℕ) (z : JobId) (ahead behind : List JobId) → fifo g pre ≡ ahead ++ x ∷ behind → stand plan g pre x ≡ Waits → n + length ahead + 1 ≤ plan.cores + cond (is_busy plan g pre ahead) 1 0
    → IsMove plan g pre r z Grant Waits Holds → is_first (fifo g pre) (Some z) ≡ true → fifo g (pre ++ r ∷ []) ≡ fifo g pre → is_row_of x r ≡ false → IsBehind plan g x (pre ++ r ∷ []) (n + cond (is_acquisition g r) 1 0)
got_at plan g x pre r n z [] behind q w few m first fs other =
    let s : z ≡ x = same_is z x (sym (ap (λ f. is_first f (Some z)) q) ∙ first) in
    absurd (true≢false (sym (row_of_job r z m.job) ∙ subst (λ v. is_row_of v r ≡ false) (sym s) other))
got_at plan g x pre r n z (y ∷ ahead) behind q w few m first fs other =
    let s : z ≡ y = same_is z y (sym (ap (λ f. is_first f (Some z)) q) ∙ first) in
    let before : is_holds (stand plan g pre y) ≡ false = ap is_holds (subst (λ v. stand plan g pre v ≡ Waits) s m.before) in
    let after : is_holds (stand plan g (pre ++ r ∷ []) y) ≡ true = ap is_holds (subst (λ v. stand plan g (pre ++ r ∷ []) v ≡ Holds) s m.after) in
    let few0 : n + length (y ∷ ahead) + 1 ≤ plan.cores + 0 = subst (λ v. n + length (y ∷ ahead) + 1 ≤ plan.cores + cond v 1 0) before few in
    let c : cond {A = ℕ} (is_acquisition g r) 1 0 ≡ 1 = ap (λ v. cond v 1 0) (counted g r Grant true m.on m.kind refl) in
    let few1 : (n + cond (is_acquisition g r) 1 0) + length (y ∷ ahead) + 1 ≤ plan.cores + 1 = omega (arith, few0, c) in
    record {
      ahead = y ∷ ahead;
      behind = behind;
      queue = fs ∙ q;
      waits = m.others x other ∙ w;
      few = subst (λ v. (n + cond (is_acquisition g r) 1 0) + length (y ∷ ahead) + 1 ≤ plan.cores + cond v 1 0) (sym after) few1;
    }

-- it releases it, and there is one less ahead
left_at : (plan : PlanModel) (g : ℕ) (x : JobId) (pre : List Row) (r : Row) (n : ℕ) (z : JobId) (ahead behind : List JobId) → fifo g pre ≡ ahead ++ x ∷ behind → stand plan g pre x ≡ Waits → n + length ahead + 1 ≤ plan.cores + cond (is_busy plan g pre ahead) 1 0
    → IsMove plan g pre r z Release Holds Out → is_first (fifo g pre) (Some z) ≡ true → fifo g (pre ++ r ∷ []) ≡ drop 1 (fifo g pre) → IsBehind plan g x (pre ++ r ∷ []) (n + cond (is_acquisition g r) 1 0)
left_at plan g x pre r n z [] behind q w few m first fs =
    let s : z ≡ x = same_is z x (sym (ap (λ f. is_first f (Some z)) q) ∙ first) in
    absurd (holds_waits (sym (subst (λ v. stand plan g pre v ≡ Holds) s m.before) ∙ w))
left_at plan g x pre r n z (y ∷ ahead) behind q w few m first fs =
    let c : cond {A = ℕ} (is_acquisition g r) 1 0 ≡ 0 = ap (λ v. cond v 1 0) (counted g r Release false m.on m.kind refl) in
    let b = one_at_most (is_busy plan g pre (y ∷ ahead)) in
    record {
      ahead = ahead;
      behind = behind;
      queue = fs ∙ ap (drop 1) q;
      waits = still_waits plan g pre r x z Release Holds Out m (λ e. absurd (holds_waits e)) (is_row_of x r) refl w;
      few = omega (arith, few, c, b);
    }

-- each effect but a grant to x keeps it
behind_by : (plan : PlanModel) (g : ℕ) (x : JobId) (pre : List Row) (r : Row) (n : ℕ) → IsOrderly plan g pre → IsBehind plan g x pre n → is_grant_of x g r ≡ false → Effect plan g pre r → IsBehind plan g x (pre ++ r ∷ []) (n + cond (is_acquisition g r) 1 0)
behind_by plan g x pre r n ord old non e =
    elim e [
      | Quiet off fs st ↦ behind_same plan g x pre r n [] old (not_counted g r off) (same_queue (fifo g pre) (fifo g (pre ++ r ∷ [])) fs) (st x ∙ old.waits) (λ j. ap is_holds (st j))
      | Took z m empty fs ↦ absurd (not_free old.ahead old.behind x (fifo g pre) old.queue empty)
      | Joined z m some fs ↦ behind_same plan g x pre r n (z ∷ []) old (counted g r Queue false m.on m.kind refl) fs (still_waits plan g pre r x z Queue Out Waits m (λ _. refl) (is_row_of x r) refl old.waits) (λ j. moved_same plan g pre r z Queue Out Waits m refl j (is_row_of j r) refl)
      | Got z m first fs ↦ got_at plan g x pre r n z old.ahead old.behind old.queue old.waits old.few m first fs (not_mine x g r m.on (ap is_grant m.kind) non)
      | Spun z m back fs ↦ behind_same plan g x pre r n [] old (counted g r Spin false m.on m.kind refl) (same_queue (fifo g pre) (fifo g (pre ++ r ∷ [])) fs) (still_waits plan g pre r x z Spin Waits Waits m (λ _. refl) (is_row_of x r) refl old.waits) (λ j. moved_same plan g pre r z Spin Waits Waits m refl j (is_row_of j r) refl)
      | Left z m fs ↦ left_at plan g x pre r n z old.ahead old.behind old.queue old.waits old.few m (ord.first z m.before) fs
    ]

-- ---- along the wait
few_now : (plan : PlanModel) (g : ℕ) (pre : List Row) (n : ℕ) (ahead : List JobId) → n + length ahead + 1 ≤ plan.cores + cond (is_busy plan g pre ahead) 1 0 → n < plan.cores
few_now plan g pre n [] few = omega (arith, few)
few_now plan g pre n (y ∷ ahead) few = let b = one_at_most (is_busy plan g pre (y ∷ ahead)) in omega (arith, few, b)

-- along the wait
few_from : (plan : PlanModel) (g : ℕ) (x : JobId) (pre mid : List Row) (n : ℕ) → IsPlan plan → is_global plan g ≡ true → IsOrderly plan g pre → IsBehind plan g x pre n → EachAfter (IsLegal plan) pre mid → list_any (is_grant_of x g) mid ≡ false → n + count_by (is_acquisition g) mid < plan.cores
few_from plan g x pre [] n ok glob ord old all non = let k = few_now plan g pre n old.ahead old.few in omega (arith, k)
few_from plan g x pre (w ∷ mid) n ok glob ord old all non =
    let both = or_parts (is_grant_of x g w) (list_any (is_grant_of x g) mid) non in
    let e = effect plan g pre w ok glob ord.fed all.0 in
    let ih = few_from plan g x (pre ++ w ∷ []) mid (n + cond (is_acquisition g w) 1 0) ok glob (orderly_push plan g ok glob pre w ord all.0) (behind_by plan g x pre w n ord old both.0 e) all.1 both.1 in
    let k = sum_by-cons (λ v. cond (is_acquisition g v) 1 0) w mid in
    omega (arith, ih, k)

-- ---- the row in which the job joins the queue
begin : (plan : PlanModel) (g : ℕ) (x : JobId) (pre : List Row) (r : Row) → IsQueueOf plan g (pre ++ r ∷ []) → r.job ≡ Some x → is_on g r.res ≡ true → r.kind ≡ Queue → Effect plan g pre r → IsBehind plan g x (pre ++ r ∷ []) 0
begin plan g x pre r q job on kind e =
    elim e [
      | Quiet off fs st ↦ absurd (true≢false (sym on ∙ off))
      | Took z m empty fs ↦ absurd (let k : Take ≡ Queue = sym m.kind ∙ kind in cc)
      | Joined z m some fs ↦
          let i : z ≡ x = some_is z x (sym m.job ∙ job) in
          let f : fifo g (pre ++ r ∷ []) ≡ fifo g pre ++ x ∷ [] = fs ∙ ap (λ v. fifo g pre ++ v ∷ []) i in
          let l = queue_short plan g (pre ++ r ∷ []) q in
          let k : length (fifo g (pre ++ r ∷ [])) ≡ length (fifo g pre) + 1 = ap length f ∙ length-append (fifo g pre) (x ∷ []) in
          record {
            ahead = fifo g pre;
            behind = [];
            queue = f;
            waits = subst (λ v. stand plan g (pre ++ r ∷ []) v ≡ Waits) i m.after;
            few = omega (arith, l, k);
          }
      | Got z m first fs ↦ absurd (let k : Grant ≡ Queue = sym m.kind ∙ kind in cc)
      | Spun z m back fs ↦ absurd (let k : Spin ≡ Queue = sym m.kind ∙ kind in cc)
      | Left z m fs ↦ absurd (let k : Release ≡ Queue = sym m.kind ∙ kind in cc)
    ]

-- what is queued for is a global resource of the plan
pub queued_for : (plan : PlanModel) (pre : List Row) (r : Row) (x : JobId) (g : ℕ) → IsPlan plan → DoesUnit plan pre x r → is_on g r.res ≡ true → r.kind ≡ Queue → (is_global plan g ≡ true) × Contains (resources plan) g
queued_for plan pre r x g ok d on kind =
    elim (step_of (is_global_unit plan d.op) (is_queued pre x) d.op r.kind d.kind) [
      | Runs eo ek ↦ absurd (let k : Run ≡ Queue = sym ek ∙ kind in cc)
      | Locks h eo ek eg ↦ absurd (let k : Lock ≡ Queue = sym ek ∙ kind in cc)
      | Unlocks h eo ek eg ↦ absurd (let k : Unlock ≡ Queue = sym ek ∙ kind in cc)
      | Takes h eo ek eg eq ↦ absurd (let k : Take ≡ Queue = sym ek ∙ kind in cc)
      | Queues h eo ek eg eq ↦
          let s : h.0 ≡ g = eqb-true h.0 g (sym (ap (is_on g) (d.res ∙ ap res_of_unit eo)) ∙ on) in (
            subst (λ n. is_global plan n ≡ true) s (sym (ap (is_global_unit plan) eo) ∙ eg),
            subst (λ n. Contains (resources plan) n) s (in_resources plan h.0 ((units_lock plan ok x.task.0).declared (done x pre) h (d.unit ∙ ap (λ o. Some o) eo))),
          )
      | Grants h eo ek eg eq ↦ absurd (let k : Grant ≡ Queue = sym ek ∙ kind in cc)
      | Spins h eo ek eg eq ↦ absurd (let k : Spin ≡ Queue = sym ek ∙ kind in cc)
      | Releases h eo ek eg ↦ absurd (let k : Release ≡ Queue = sym ek ∙ kind in cc)
    ]

-- at most m - 1 acquisitions by others while a job waits
pub bounded_overtaking : (plan : PlanModel) (rows : List Row) → IsPlan plan → IsRunStart plan rows → BoundedOvertaking plan rows
bounded_overtaking plan rows ok run = λ pre r since post j g e w.
    let all : EachAfter (IsLegal plan) [] (pre ++ r ∷ (since ++ post)) = subst (EachAfter (IsLegal plan) []) e run.each in
    let rest : EachAfter (IsLegal plan) pre (r ∷ (since ++ post)) = each_rest (IsLegal plan) [] pre (r ∷ (since ++ post)) all in
    let q = queued_for plan pre r j g ok ((legal_turn plan pre r rest.0).does j w.job) w.resource w.joins in
    let before = queue_at plan g pre ok q.0 q.1 (each_before (IsLegal plan) [] pre (r ∷ (since ++ post)) all) in
    let after = queue_push plan g ok q.0 q.1 pre r before rest.0 in
    let b = begin plan g j pre r after w.job w.resource w.joins (effect plan g pre r ok q.0 before.orderly.fed rest.0) in
    let k = few_from plan g j (pre ++ r ∷ []) since 0 ok q.0 after.orderly b (each_before (IsLegal plan) (pre ++ r ∷ []) since post rest.1) w.waits in
    omega (arith, k)
