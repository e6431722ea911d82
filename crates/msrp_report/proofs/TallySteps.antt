-- What is kept of the rows stays told by them, release by release and row by row.
use Rattle.std.proofs.Common.{◌≡◌, ◌≢◌, ◌<◌, ◌≤◌, ◌+◌, ◌==◌, ◌∙◌, ◌⊎◌}
use Rattle.msrp_plan.proofs.Common.{ℕ, Bool, true, false, cond, List, Option, Some, None, IsSome, refl, ap, sym, subst, arith, inl, inr, length, slice_get, slice_set, get_or, nat_lt, unwrap_or, eqb-true, AllByRecursion, IsNonDecreasingBy, IsPermutation, true≢false, cases_Bool, cases_lt, eqb-false, le-ltb, lt-ltb, length-set, slice_get_within, slice_get_read, same_Some, PlanModel, task_at, release, jobs_of, job_at, first_later, IsPlan}
use Rattle.msrp_report.proofs.Common.{AreActive, AreReleases, AreTallies, Blocking, By, HasReleased, HasTallied, IsBlocking, IsJobTally, IsNextRelease, IsOver, IsTaskTally, JobId, JobTally, NextRelease, Over, Row, Tallies, TaskTally, blocking_by, get_set_other, get_set_same, is_due, job_in, release_or_end}
use Rattle.msrp_plan.specs.Plan.{release_tick}
use Rattle.msrp_plan.proofs.Jobs.Releases.{releases_rise, task_times}
use Rattle.msrp_report.proofs.JobTallies.{job_known}
use Rattle.msrp_report.proofs.Releases.{due_come, due_some, none_due, releases_next, task_known, tick_of}
use Rattle.msrp_report.proofs.Waiting.{released_by}

-- ---- the releases of a task
tick_is : (plan : PlanModel) (t k : ℕ) → IsSome (release_tick plan (job_at t k)) → release_tick plan (job_at t k) ≡ Some (release plan (job_at t k))
tick_is plan t k some = by_tick (release_tick plan (job_at t k)) some
  where
    by_tick : (o : Option ℕ) → IsSome o → o ≡ Some (unwrap_or o plan.ticks)
    by_tick None h = absurd (true≢false (sym h))
    by_tick (Some x) h = refl

pub release_rises : (plan : PlanModel) (t a b : ℕ) → IsPlan plan → t < length plan.tasks → a < b → b < length (jobs_of plan t) → release plan (job_at t a) < release plan (job_at t b)
release_rises plan t a b ok task l h =
    let at_a = tick_is plan t a (job_known plan (job_at t a) (job_in plan t a ok task (omega (arith, l, h)))).released in
    let at_b = tick_is plan t b (job_known plan (job_at t b) (job_in plan t b ok task h)).released in
    releases_rise (task_at plan t).times (task_times plan ok.draft t) a b (release plan (job_at t a)) (release plan (job_at t b)) l at_a at_b

-- the first job that isn't released is due
due_first : (plan : PlanModel) (t k : ℕ) → k < length (jobs_of plan t) → release_or_end plan t k ≡ release plan (job_at t k)
due_first plan t k l = ap (λ b. cond b (release plan (job_at t k)) plan.ticks) (lt-ltb k (length (jobs_of plan t)) l)

due_none : (plan : PlanModel) (t k : ℕ) → length (jobs_of plan t) ≤ k → release_or_end plan t k ≡ plan.ticks
due_none plan t k l = ap (λ b. cond b (release plan (job_at t k)) plan.ticks) (le-ltb k (length (jobs_of plan t)) l)

-- so none of the others is released before
due_least : (plan : PlanModel) (t n k : ℕ) → IsPlan plan → t < length plan.tasks → n ≤ k → k < length (jobs_of plan t) → release_or_end plan t n ≤ release plan (job_at t k)
due_least plan t n k ok task from l =
    let first = due_first plan t n (omega (arith, from, l)) in
    elim (cases_lt n k) [
      | inl less ↦ let rise = release_rises plan t n k ok task less l in omega (arith, first, rise)
      | inr past ↦
          let same : release plan (job_at t n) ≡ release plan (job_at t k) = ap (λ m. release plan (job_at t m)) (omega (arith, from, past)) in
          omega (arith, first, same)
    ]

pub due_before : (plan : PlanModel) (rows : List Row) (begun t k : ℕ) (x : TaskTally) → IsPlan plan → t < length plan.tasks → IsTaskTally plan rows begun t x → x.released ≤ k → k < length (jobs_of plan t) → begun ≤ release plan (job_at t k)
due_before plan rows begun t k x ok task is from l = let least = due_least plan t x.released k ok task from l in let later = is.later in omega (arith, least, later)

-- ---- a release
-- the task's next job is released in the tick that begins
pub record IsReleased (old new : TaskTally) (k : ℕ) (s : JobTally) (b : Blocking) : Type 0 where
  pub was : slice_get old.jobs.items k ≡ Some s
  pub number : k ≡ old.released
  pub jobs_set : new.jobs.items ≡ slice_set old.jobs.items k (record s { blocking = b })
  pub units : new.units ≡ old.units
  pub next : new.released ≡ k + 1

-- there is such a job
due_job : (plan : PlanModel) (t n begun : ℕ) → release_or_end plan t n ≤ begun → begun < plan.ticks → n < length (jobs_of plan t)
due_job plan t n begun due left = elim (cases_lt n (length (jobs_of plan t))) [
  | inl l ↦ l
  | inr past ↦ let none = due_none plan t n past in absurd (omega (arith, none, due, left))
]

-- a job that isn't released is blocked by no row
fresh_over : (plan : PlanModel) (rows : List Row) (j : JobId) (b : Blocking) → IsBlocking plan rows false j b → IsOver plan rows false j 0
fresh_over plan rows j (Over n) over = subst (IsOver plan rows false j) (over.ahead refl).0 over
fresh_over plan rows j (By k n) w = absurd (true≢false (sym w.come))

lt_next : (k n : ℕ) → k ≢ n → nat_lt k (n + 1) ≡ nat_lt k n
lt_next k n ne = elim (cases_lt k n) [
  | inl l ↦ lt-ltb k (n + 1) (omega (arith, l)) ∙ sym (lt-ltb k n l)
  | inr past ↦ le-ltb k (n + 1) (omega (arith, past, ne)) ∙ sym (le-ltb k n past)
]

pub task_released : (plan : PlanModel) (rows : List Row) (begun t : ℕ) (old new : TaskTally) (k : ℕ) (s : JobTally) (o : Option JobId) → IsPlan plan → t < length plan.tasks → IsTaskTally plan rows begun t old → release_or_end plan t old.released ≤ begun → begun < plan.ticks
    → AllByRecursion (λ r. r.tick < begun) rows → first_later plan rows (job_at t k) ≡ o → IsReleased old new k s (blocking_by rows o) → IsTaskTally plan rows (begun + 1) t new
task_released plan rows begun t old new k s o ok task is due left early first set =
    let within = due_job plan t old.released begun due left in
    let number = set.number in
    let next = set.next in
    let l : k < length (jobs_of plan t) = omega (arith, within, number) in
    let now : release plan (job_at t k) ≡ begun =
    (let a = due_before plan rows begun t k old ok task is (omega (arith, number)) l in let e = due_first plan t old.released within in let same : release plan (job_at t old.released) ≡ release plan (job_at t k) = ap (λ n. release plan (job_at t n)) (sym number) in omega (arith, a, e, due, same)) in
    let size = is.size in
    let length_set : length new.jobs.items ≡ length old.jobs.items = ap length set.jobs_set ∙ length-set old.jobs.items k (record s { blocking = blocking_by rows o }) in
    record {
      size = length_set ∙ size;
      units = set.units ∙ is.units;
      fits = omega (arith, next, l);
      past = λ m h. past m h now;
      later = subst (λ n. begun + 1 ≤ release_or_end plan t n) (sym next) (later now);
      each = λ m x has. by_place m x has now (cases_Bool (m == k));
    }
  where
    past : (m : ℕ) → m < new.released → release plan (job_at t k) ≡ begun → release plan (job_at t m) < begun + 1
    past m h now = elim (cases_lt m k) [
      | inl less ↦ let p = is.past m (let n = set.number in omega (arith, less, n)) in omega (arith, p)
      | inr same ↦
          let next = set.next in
          let e : release plan (job_at t m) ≡ release plan (job_at t k) = ap (λ n. release plan (job_at t n)) (omega (arith, h, next, same)) in
          omega (arith, e, now)
    ]

    later : release plan (job_at t k) ≡ begun → begun + 1 ≤ release_or_end plan t (k + 1)
    later now = elim (cases_lt (k + 1) (length (jobs_of plan t))) [
      | inl l ↦ let e = due_first plan t (k + 1) l in let rise = release_rises plan t k (k + 1) ok task (omega arith) l in omega (arith, e, rise, now)
      | inr past_all ↦ let e = due_none plan t (k + 1) past_all in omega (arith, e, left)
    ]

    by_place : (m : ℕ) (x : JobTally) → slice_get new.jobs.items m ≡ Some x → release plan (job_at t k) ≡ begun → ((m == k) ≡ true) ⊎ ((m == k) ≡ false) → IsJobTally plan rows (nat_lt m new.released) (job_at t m) x
    by_place m x has now (inl e) =
        let same : k ≡ m = sym (eqb-true m k e) in
        let here : record s { blocking = blocking_by rows o } ≡ x = same_Some _ x (sym (get_set_same old.jobs.items k s (record s { blocking = blocking_by rows o }) set.was) ∙ (ap (λ l. slice_get l k) (sym set.jobs_set) ∙ (ap (slice_get new.jobs.items) same ∙ has))) in
        let was = is.each k s set.was in
        let unreleased : nat_lt k old.released ≡ false = le-ltb k old.released (let n = set.number in omega (arith, n)) in
        let released : nat_lt k new.released ≡ true = lt-ltb k new.released (let n = set.next in omega (arith, n)) in
        let over = fresh_over plan rows (job_at t k) s.blocking (subst (λ b. IsBlocking plan rows b (job_at t k) s.blocking) unreleased was.blocking) in
        let early_j = subst (λ n. AllByRecursion (λ r. r.tick < n) rows) (sym now) early in
        let told : IsJobTally plan rows true (job_at t k) (record s { blocking = blocking_by rows o }) = record { count = was.count; blocking = released_by plan rows (job_at t k) over early_j o first } in
        subst (λ n. IsJobTally plan rows (nat_lt n new.released) (job_at t n) x) same (subst (λ b. IsJobTally plan rows b (job_at t k) x) (sym released) (subst (IsJobTally plan rows true (job_at t k)) here told))
    by_place m x has now (inr e) =
        let ne = eqb-false m k e in
        let old_has : slice_get old.jobs.items m ≡ Some x = sym (get_set_other old.jobs.items k m (record s { blocking = blocking_by rows o }) ne) ∙ (ap (λ l. slice_get l m) (sym set.jobs_set) ∙ has) in
        let bit : nat_lt m old.released ≡ nat_lt m new.released = ap (nat_lt m) (sym set.number) ∙ (sym (lt_next m k ne) ∙ ap (nat_lt m) (sym set.next)) in
        subst (λ b. IsJobTally plan rows b (job_at t m) x) bit (is.each m x old_has)

-- a task whose next job isn't due
task_waits : (plan : PlanModel) (rows : List Row) (before begun t : ℕ) (x : TaskTally) → IsTaskTally plan rows before t x → before ≤ begun + 1 → begun < release_or_end plan t x.released → IsTaskTally plan rows (begun + 1) t x
task_waits plan rows before begun t x is up ahead = record {
  size = is.size;
  units = is.units;
  fits = is.fits;
  past = λ k h. let p = is.past k h in omega (arith, p, up);
  later = omega (arith, ahead);
  each = is.each;
}

-- ---- all tasks
-- the tick has begun for one task more
abbrev pub begun_with : (ℕ → ℕ) → ℕ → ℕ → ℕ → ℕ
begun_with before begun t u = cond (u == t) (begun + 1) (before u)

next_task : (plan : PlanModel) (rows : List Row) (before : ℕ → ℕ) (begun t : ℕ) (tasks : List TaskTally) (x y : TaskTally) → AreTallies plan rows before tasks → slice_get tasks t ≡ Some x → IsTaskTally plan rows (begun + 1) t y → AreTallies plan rows (begun_with before begun t) (slice_set tasks t y)
next_task plan rows before begun t tasks x y are at is = record {
  start = are.start;
  size = length-set tasks t y ∙ are.size;
  each = λ u z has. by_place u z has (cases_Bool (u == t));
}
  where
    by_place : (u : ℕ) (z : TaskTally) → slice_get (slice_set tasks t y) u ≡ Some z → ((u == t) ≡ true) ⊎ ((u == t) ≡ false) → IsTaskTally plan rows (begun_with before begun t u) u z
    by_place u z has (inl e) =
        let same : t ≡ u = sym (eqb-true u t e) in
        let here : y ≡ z = same_Some y z (sym (get_set_same tasks t x y at) ∙ (ap (slice_get (slice_set tasks t y)) same ∙ has)) in
        subst (λ b. IsTaskTally plan rows (cond b (begun + 1) (before u)) u z) (sym e) (subst (λ m. IsTaskTally plan rows (begun + 1) m z) same (subst (IsTaskTally plan rows (begun + 1) t) here is))
    by_place u z has (inr e) = subst (λ b. IsTaskTally plan rows (cond b (begun + 1) (before u)) u z) (sym e) (are.each u z (sym (get_set_other tasks t u y (eqb-false u t e)) ∙ has))

-- at first it has begun for none
pub none_begun : (plan : PlanModel) (rows : List Row) (t : Tallies) → HasTallied plan rows t → HasReleased plan rows t
none_begun plan rows t told = record { early = told.begun.early; begun = λ _. t.begun; low = λ u. omega arith; high = λ u. omega arith; tallies = told.tallies; releases = told.releases; active = told.active }

-- where no release is due any more, for all
pub all_begun : (plan : PlanModel) (rows : List Row) (t : Tallies) → HasReleased plan rows t → is_due t.begun t.releases.items ≡ false → AreTallies plan rows (λ _. t.begun + 1) t.tasks.items
all_begun plan rows t h none = record {
  start = h.tallies.start;
  size = h.tallies.size;
  each = λ u x has. task_waits plan rows (h.begun u) t.begun u x (h.tallies.each u x has) (h.high u) (none_due plan t.begun t.tasks.items t.releases.items h.releases none u x has (let l = slice_get_within t.tasks.items u x has in let size = h.tallies.size in omega (arith, l, size)));
}

-- ---- the task whose release comes first, where that is due
pub record IsFirst (plan : PlanModel) (rows : List Row) (t : Tallies) (r : NextRelease) : Type 0 where
  pub task : r.task.0 < length plan.tasks
  pub within : r.task.0 < length t.tasks.items
  pub at : (x : TaskTally) → x ≡ get_or t.tasks.items r.task.0 x → slice_get t.tasks.items r.task.0 ≡ Some x
  pub due : (x : TaskTally) → x ≡ get_or t.tasks.items r.task.0 x → release_or_end plan r.task.0 x.released ≤ t.begun
  pub told : (x : TaskTally) → x ≡ get_or t.tasks.items r.task.0 x → IsTaskTally plan rows t.begun r.task.0 x

pub first_is : (plan : PlanModel) (rows : List Row) (t : Tallies) (r : NextRelease) → HasReleased plan rows t → is_due t.begun t.releases.items ≡ true → r ≡ get_or t.releases.items 0 r → IsFirst plan rows t r
first_is plan rows t r h is_due read = record {
  task = task;
  within = within;
  at = at;
  due = due;
  told = λ x is.
      let told = h.tallies.each r.task.0 x (at x is) in
      let later = told.later in
      let low = h.low r.task.0 in
      let come = due x is in
      subst (λ n. IsTaskTally plan rows n r.task.0 x) (omega (arith, later, low, come)) told;
}
  where
    some : 0 < length t.releases.items
    some = due_some t.begun t.releases.items is_due

    task : r.task.0 < length plan.tasks
    task = task_known plan t.tasks.items t.releases.items r h.releases some read

    within : r.task.0 < length t.tasks.items
    within = let l = task in let size = h.tallies.size in omega (arith, l, size)

    at : (x : TaskTally) → x ≡ get_or t.tasks.items r.task.0 x → slice_get t.tasks.items r.task.0 ≡ Some x
    at x is = slice_get_read t.tasks.items (length t.tasks.items) r.task.0 x refl within is

    due : (x : TaskTally) → x ≡ get_or t.tasks.items r.task.0 x → release_or_end plan r.task.0 x.released ≤ t.begun
    due x is =
        let own = subst (IsNextRelease plan t.tasks.items) (sym read) (h.releases.own 0 r some) x (at x is) in
        let come = due_come t.begun t.releases.items r is_due read in
        omega (arith, own, come)

pub first_job : (plan : PlanModel) (rows : List Row) (t : Tallies) (r : NextRelease) (x : TaskTally) → IsFirst plan rows t r → x ≡ get_or t.tasks.items r.task.0 x → t.begun < plan.ticks → x.released < length (jobs_of plan r.task.0)
first_job plan rows t r x first is left = due_job plan r.task.0 x.released t.begun (first.due x is) left

-- its next job is released
pub first_released : (plan : PlanModel) (rows : List Row) (t new : Tallies) (r : NextRelease) (x y : TaskTally) (tick : ℕ) → HasReleased plan rows t → is_due t.begun t.releases.items ≡ true → r ≡ get_or t.releases.items 0 r → slice_get t.tasks.items r.task.0 ≡ Some x → IsTaskTally plan rows (t.begun + 1) r.task.0 y → tick ≡ release_or_end plan r.task.0 y.released
    → IsPermutation (slice_set t.releases.items 0 (record { tick = tick; task = r.task })) new.releases.items → IsNonDecreasingBy tick_of new.releases.items → new.begun ≡ t.begun → new.tasks.items ≡ slice_set t.tasks.items r.task.0 y → new.active.items ≡ t.active.items → HasReleased plan rows new
first_released plan rows t new r x y tick h due read at told next same up begun set active = record {
  early = subst (λ n. AllByRecursion (λ row. row.tick < n) rows) (sym begun) h.early;
  begun = begun_with h.begun t.begun r.task.0;
  low = λ u. let l = near u (u == r.task.0) in omega (arith, l, begun);
  high = λ u. let l = near u (u == r.task.0) in omega (arith, l, begun);
  tallies = subst (AreTallies plan rows (begun_with h.begun t.begun r.task.0)) (sym set) (next_task plan rows h.begun t.begun r.task.0 t.tasks.items x y h.tallies at told);
  releases = subst (λ l. AreReleases plan l new.releases.items) (sym set) (releases_next plan t.tasks.items t.releases.items r x y tick new.releases.items h.releases (due_some t.begun t.releases.items due) read at next same up);
  active = subst (AreActive plan rows) (sym active) h.active;
}
  where
    near : (u : ℕ) (b : Bool) → (t.begun ≤ cond b (t.begun + 1) (h.begun u)) × (cond b (t.begun + 1) (h.begun u) ≤ t.begun + 1)
    near u true = (omega arith, omega arith)
    near u false = (h.low u, h.high u)
