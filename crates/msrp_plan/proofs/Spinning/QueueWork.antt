-- The work of the jobs in a queue: each legal row leaves it or takes some off, and the first's own
-- rows take one off.
use Rattle.msrp_plan.specs.Common.{ℕ, Bool, true, false, cond, List, [], Option, Some, None, nat_lt, drop, AllByRecursion, Contains, sum_by, section, ceiling, resources, choice, chosen, head, is_before, running, is_row_of, jobs_on, is_global, level, PlanModel, core_of, fifo, is_first, is_on, EachAfter, IsLegal, IsPlan}
use Rattle.msrp_plan.specs.declared.ids.JobId.{JobId}
use Rattle.msrp_plan.specs.declared.rows.Kind.{Kind}
use Rattle.msrp_plan.specs.declared.rows.Kind.TheVariants.{Grant, Queue, Release, Spin, Take}
use Rattle.msrp_plan.specs.declared.rows.Row.{Row}
use Rattle.std.proofs.Common.{◌≡◌, ◌+◌, ◌≤◌, ◌&&◌, ◌∷◌, ◌++◌, refl, ap, sym, ◌∙◌, subst, arith}
use Rattle.std.proofs.Math.Bool.{true≢false}
use Rattle.std.proofs.lemmas.List.Sums.{sum_by-cons}
use Rattle.msrp_plan.specs.Bounds.{is_used_on}
use Rattle.msrp_plan.proofs.Queues.Effects.{Effect, Got, IsMove, Joined, Left, Quiet, Spun, Took, effect}
use Rattle.msrp_plan.proofs.Jobs.JobTests.{is_job_is}
use Rattle.msrp_plan.proofs.Lists.LeastKept.{least_some}
use Rattle.msrp_plan.proofs.Legality.LegalRows.{DoesUnit, legal_turn}
use Rattle.msrp_plan.proofs.Lists.AnyAll.{all_both, all_push}
use Rattle.msrp_plan.proofs.Choosing.Live.{is_live, up_live}
use Rattle.msrp_plan.proofs.Lists.Prefixes.{along}
use Rattle.msrp_plan.proofs.Queues.QueueMembers.{IsMember, IsQueueOf, members_turn, queue_none, queue_push}
use Rattle.msrp_plan.proofs.Spinning.SectionWork.{asks_at, got_work, is_ask, quiet_work, used_at, work, work_is, work_kept, work_some}
use Rattle.msrp_plan.proofs.TaskUnits.Stands.{Holds, IsUp, Out, Stand, Waits, stand}

-- ---- a member's own row
mover_same : (plan : PlanModel) (g : ℕ) (pre : List Row) (r : Row) (x y : JobId) (k : Kind) (a b : Stand) → IsMove plan g pre r x k a b → r.job ≡ Some y → x ≡ y
mover_same plan g pre r x y k a b m e = let o : Some x ≡ Some y = sym m.job ∙ e in cc

-- its own row leaves its work, and takes one off where it stands first
pub work_own : (plan : PlanModel) (g : ℕ) (pre : List Row) (r : Row) (y : JobId) → IsPlan plan → is_global plan g ≡ true → IsUp plan g pre y → r.job ≡ Some y → DoesUnit plan pre y r → Effect plan g pre r
    → (is_first (fifo g pre) (Some y) ≡ true → work plan g (pre ++ r ∷ []) y + 1 ≤ work plan g pre y) × (work plan g (pre ++ r ∷ []) y ≤ work plan g pre y)
work_own plan g pre r y ok glob up job a e =
    elim e [
      | Quiet off fs st ↦ let k = quiet_work plan g pre r y ok glob a job off (st y) up in (λ f. k, omega (arith, k))
      | Took x m empty fs ↦ absurd (up (subst (λ z. stand plan g pre z ≡ Out) (mover_same plan g pre r x y Take Out Holds m job) m.before))
      | Joined x m some fs ↦ absurd (up (subst (λ z. stand plan g pre z ≡ Out) (mover_same plan g pre r x y Queue Out Waits m job) m.before))
      | Got x m first fs ↦
          let s = mover_same plan g pre r x y Grant Waits Holds m job in
          let after : stand plan g (pre ++ r ∷ []) y ≡ Holds = subst (λ z. stand plan g (pre ++ r ∷ []) z ≡ Holds) s m.after in
          let before : work plan g pre y ≡ 1 + section plan g (core_of plan y) = work_is plan g pre y Waits (subst (λ z. stand plan g pre z ≡ Waits) s m.before) in
          let k = got_work plan g pre r y Grant a m.on job m.kind refl refl after in
          (λ f. omega (arith, before, k), omega (arith, before, k))
      | Spun x m back fs ↦
          let s = mover_same plan g pre r x y Spin Waits Waits m job in
          let after : work plan g (pre ++ r ∷ []) y ≡ 1 + section plan g (core_of plan y) = work_is plan g (pre ++ r ∷ []) y Waits (subst (λ z. stand plan g (pre ++ r ∷ []) z ≡ Waits) s m.after) in
          let before : work plan g pre y ≡ 1 + section plan g (core_of plan y) = work_is plan g pre y Waits (subst (λ z. stand plan g pre z ≡ Waits) s m.before) in
          (λ f. absurd (true≢false (sym f ∙ subst (λ z. is_first (fifo g pre) (Some z) ≡ false) s back)), omega (arith, before, after))
      | Left x m fs ↦
          let s = mover_same plan g pre r x y Release Holds Out m job in
          let after : work plan g (pre ++ r ∷ []) y ≡ 0 = work_is plan g (pre ++ r ∷ []) y Out (subst (λ z. stand plan g (pre ++ r ∷ []) z ≡ Out) s m.after) in
          let some = work_some plan g pre y ok up in
          (λ f. omega (arith, after, some), omega (arith, after, some))
    ]

-- so does every legal row
pub work_le : (plan : PlanModel) (g : ℕ) (pre : List Row) (r : Row) (y : JobId) → IsPlan plan → is_global plan g ≡ true → IsUp plan g pre y → IsLegal plan pre r → Effect plan g pre r → (b : Bool) → is_row_of y r ≡ b → work plan g (pre ++ r ∷ []) y ≤ work plan g pre y
work_le plan g pre r y ok glob up h e true mine =
    let job = is_job_is r.job y mine in
    (work_own plan g pre r y ok glob up job ((legal_turn plan pre r h).does y job) e).1
work_le plan g pre r y ok glob up h e false mine = let k = work_kept plan g pre r y mine in omega (arith, k)

-- ---- the core of a live job doesn't idle
kept_some : (b : Bool) (x y : JobId) → cond b (Some x) (Some y) ≡ None → ⊥
kept_some true x y h = cc
kept_some false x y h = cc

-- where nobody is chosen nobody runs
pub chosen_none : (plan : PlanModel) (n : ℕ) (h s : Option JobId) → chosen plan n h s ≡ None → s ≡ None
chosen_none plan n None s e = e
chosen_none plan n (Some h) None e = refl
chosen_none plan n (Some h) (Some s) e = absurd (kept_some (nat_lt n (level plan h.task.0) && is_before plan h s) h s e)

-- so the core of a live job has a turn to give
not_idle : (plan : PlanModel) (c t : ℕ) (pre : List Row) (y : JobId) → Contains (jobs_on plan c) y → is_live plan pre y ≡ true → choice plan c t pre ≡ None → ⊥
not_idle plan c t pre y iny l e = least_some (is_before plan) (is_live plan pre) (jobs_on plan c) y (chosen_none plan (ceiling plan c pre) (head plan c t pre) (running plan c pre) e) iny l

-- and while it is in the queue the turn is its own
turn_job : (plan : PlanModel) (g : ℕ) (pre : List Row) (r : Row) (y : JobId) (o : Option JobId) → IsPlan plan → is_global plan g ≡ true → Contains (resources plan) g → IsQueueOf plan g pre → IsLegal plan pre r → IsMember plan g pre y → core_of plan y ≡ r.core.0 → r.job ≡ o → r.job ≡ Some y
turn_job plan g pre r y None ok glob there q h m at e =
    absurd (not_idle plan r.core.0 r.tick pre y (subst (λ n. Contains (jobs_on plan n) y) at m.known) (up_live plan g pre y ok m.up) (sym (legal_turn plan pre r h).job ∙ e))
turn_job plan g pre r y (Some z) ok glob there q h m at e = e ∙ ap (λ v. Some v) (members_turn plan g pre r z y ok glob there q.firm h e m at)

-- the row of the first's core takes a unit off
pub work_first : (plan : PlanModel) (g : ℕ) (pre : List Row) (r : Row) (y : JobId) → IsPlan plan → is_global plan g ≡ true → Contains (resources plan) g → IsQueueOf plan g pre → IsLegal plan pre r → Effect plan g pre r → IsMember plan g pre y → is_first (fifo g pre) (Some y) ≡ true → core_of plan y ≡ r.core.0 → work plan g (pre ++ r ∷ []) y + 1 ≤ work plan g pre y
work_first plan g pre r y ok glob there q h e m first at =
    let job = turn_job plan g pre r y r.job ok glob there q h m at refl in
    (work_own plan g pre r y ok glob m.up job ((legal_turn plan pre r h).does y job) e).0 first

-- ---- each member's work is within its core's share
pub record IsLight (plan : PlanModel) (g : ℕ) (pre : List Row) (y : JobId) : Type 0 where
  pub light : work plan g pre y ≤ 1 + section plan g (core_of plan y)
  pub used : is_used_on plan g (core_of plan y) ≡ true

-- each legal row keeps it
lighter : (plan : PlanModel) (g : ℕ) (pre : List Row) (r : Row) → IsPlan plan → is_global plan g ≡ true → IsLegal plan pre r → Effect plan g pre r → (y : JobId) → IsMember plan g pre y → IsLight plan g pre y → IsLight plan g (pre ++ r ∷ []) y
lighter plan g pre r p glob h e y m old =
    let k = work_le plan g pre r y p glob m.up h e (is_row_of y r) refl in
    let l = old.light in
    record { light = omega (arith, k, l); used = old.used }

-- without the first
all_drop : {X : Type 0} (P : X → Type 0) (xs : List X) → AllByRecursion P xs → AllByRecursion P (drop 1 xs)
all_drop P [] all = tt
all_drop P (x ∷ xs) all = all.1

-- who asks for it is of a core that uses it
new_used : (plan : PlanModel) (g : ℕ) (pre : List Row) (r : Row) (x : JobId) (k : Kind) → DoesUnit plan pre x r → is_on g r.res ≡ true → r.kind ≡ k → is_ask k ≡ true → is_used_on plan g (core_of plan x) ≡ true
new_used plan g pre r x k a on kind ask = used_at plan g x _ a.op a.unit (asks_at plan g pre r x k a on kind ask)

-- each effect keeps it
light_by : (plan : PlanModel) (g : ℕ) (pre : List Row) (r : Row) → IsPlan plan → is_global plan g ≡ true → IsQueueOf plan g pre → AllByRecursion (IsLight plan g pre) (fifo g pre) → IsLegal plan pre r → Effect plan g pre r → AllByRecursion (IsLight plan g (pre ++ r ∷ [])) (fifo g (pre ++ r ∷ []))
light_by plan g pre r p glob q old h e =
    let Goal : List JobId → Type 0 = AllByRecursion (IsLight plan g (pre ++ r ∷ [])) in
    let base : AllByRecursion (IsLight plan g (pre ++ r ∷ [])) (fifo g pre) = all_both (IsMember plan g pre) (IsLight plan g pre) (IsLight plan g (pre ++ r ∷ [])) (lighter plan g pre r p glob h e) (fifo g pre) q.each old in
    elim e [
      | Quiet off fs st ↦ subst Goal (sym fs) base
      | Took x m empty fs ↦
          let a = (legal_turn plan pre r h).does x m.job in
          let k = got_work plan g pre r x Take a m.on m.job m.kind refl refl m.after in
          subst Goal (sym fs) (all_push (IsLight plan g (pre ++ r ∷ [])) (fifo g pre) x base (record { light = omega (arith, k); used = new_used plan g pre r x Take a m.on m.kind refl }))
      | Joined x m some fs ↦
          let a = (legal_turn plan pre r h).does x m.job in
          let k = work_is plan g (pre ++ r ∷ []) x Waits m.after in
          let k2 : work plan g (pre ++ r ∷ []) x ≡ 1 + section plan g (core_of plan x) = k in
          subst Goal (sym fs) (all_push (IsLight plan g (pre ++ r ∷ [])) (fifo g pre) x base (record { light = omega (arith, k2); used = new_used plan g pre r x Queue a m.on m.kind refl }))
      | Got x m first fs ↦ subst Goal (sym fs) base
      | Spun x m back fs ↦ subst Goal (sym fs) base
      | Left x m fs ↦ subst Goal (sym fs) (all_drop (IsLight plan g (pre ++ r ∷ [])) (fifo g pre) base)
    ]

-- ---- the queue, with that
pub record IsFair (plan : PlanModel) (g : ℕ) (pre : List Row) : Type 0 where
  pub queue : IsQueueOf plan g pre
  pub each : AllByRecursion (IsLight plan g pre) (fifo g pre)

-- each legal row keeps both
pub fair_push : (plan : PlanModel) (g : ℕ) → IsPlan plan → is_global plan g ≡ true → Contains (resources plan) g → (pre : List Row) (r : Row) → IsFair plan g pre → IsLegal plan pre r → IsFair plan g (pre ++ r ∷ [])
fair_push plan g p glob there pre r old h =
    record {
      queue = queue_push plan g p glob there pre r old.queue h;
      each = light_by plan g pre r p glob old.queue old.each h (effect plan g pre r p glob old.queue.orderly.fed h);
    }

-- so they hold at each place
pub fair_at : (plan : PlanModel) (g : ℕ) (pre : List Row) → IsPlan plan → is_global plan g ≡ true → Contains (resources plan) g → EachAfter (IsLegal plan) [] pre → IsFair plan g pre
fair_at plan g pre p glob there all = along (IsFair plan g) (IsLegal plan) (fair_push plan g p glob there) [] pre (record { queue = queue_none plan g; each = tt }) all

-- ---- the work of those ahead
abbrev pub works : PlanModel → ℕ → List Row → List JobId → ℕ
works plan g pre ys = sum_by (work plan g pre) ys

-- a legal row leaves it or takes some off
pub works_le : (plan : PlanModel) (g : ℕ) (pre : List Row) (r : Row) → IsPlan plan → is_global plan g ≡ true → IsLegal plan pre r → Effect plan g pre r → (ys : List JobId) → AllByRecursion (IsMember plan g pre) ys → works plan g (pre ++ r ∷ []) ys ≤ works plan g pre ys
works_le plan g pre r p glob h e [] all = omega arith
works_le plan g pre r p glob h e (y ∷ ys) all =
    let ih = works_le plan g pre r p glob h e ys all.1 in
    let k = work_le plan g pre r y p glob all.0.up h e (is_row_of y r) refl in
    let a = sum_by-cons (work plan g (pre ++ r ∷ [])) y ys in
    let b = sum_by-cons (work plan g pre) y ys in
    omega (arith, ih, k, a, b)
