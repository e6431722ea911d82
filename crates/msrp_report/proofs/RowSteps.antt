-- What is kept of the rows stays told by them, with one row more.
use Rattle.std.proofs.Common.{◌≡◌, ◌≢◌, ◌<◌, ◌≤◌, ◌+◌, ◌*◌, ◌/◌, ◌==◌, ◌∷◌, ◌++◌, ◌∙◌, ◌⊎◌}
use Rattle.msrp_plan.proofs.Common.{ℕ, Bool, true, false, cond, List, [], Some, None, refl, ap, sym, subst, arith, inl, inr, length, length-append, slice_get, slice_set, nat_lt, eqb-true, AllByRecursion, Contains, cases_Bool, cases_lt, eqb-false, false_from_ne_true, ltb-true, ltb-false, true_from_ne_false, length-set, div_below, slice_get_within, same_Some, PlanModel, core_of, units, done, jobs, jobs_of, jobs_on, job_at, is_job, is_row_of, same_job, is_started, is_finished, blocked, IsLegal, IsRunStart, IsPlan, job_on, row_of_job, same_is, legal_due, legal_turn, all_push, all_weaker, kept_by, each_at, start_last}
use Rattle.msrp_report.proofs.Common.{AreTallies, Counts, HaveBegun, IsJobTally, IsNextOf, IsTaskTally, JobCount, JobId, JobTally, Over, Row, Tallies, TaskTally, ToldOf, count_of, counted, get_set_other, get_set_same, job_in, release_or_end}
use Rattle.std.proofs.lemmas.Nat.{le-div}
use Rattle.msrp_plan.specs.Scheduling.{IsOfReleased}
use Rattle.msrp_plan.proofs.Blocking.OneSection.{tick_grows}
use Rattle.msrp_plan.proofs.Scheduling.Released.{runs_released}
use Rattle.msrp_report.proofs.JobCounts.{count_push, done_is}
use Rattle.msrp_report.proofs.JobTallies.{of_task}
use Rattle.msrp_report.proofs.TallySteps.{due_before}
use Rattle.msrp_report.proofs.Waiting.{IsTimely, blocking_more, own_over, started_over}

-- ---- ticks
-- its job is one of the plan
pub row_in : (plan : PlanModel) (rows : List Row) (r : Row) (j : JobId) → IsRunStart plan (rows ++ r ∷ []) → r.job ≡ Some j → Contains (jobs plan) j
row_in plan rows r j start job = (kept_by (λ i. core_of plan i == r.core.0) (jobs plan) j ((legal_turn plan rows r (start_last plan rows r start)).known j job)).0

-- and of the row's core
pub job_on_core : (plan : PlanModel) (rows : List Row) (r : Row) (j : JobId) → IsRunStart plan (rows ++ r ∷ []) → r.job ≡ Some j → Contains (jobs_on plan (core_of plan j)) j
job_on_core plan rows r j start job = job_on plan (core_of plan j) j (row_in plan rows r j start job) refl

pub row_told : (plan : PlanModel) (r : Row) (j : JobId) (t : Tallies) → IsPlan plan → Counts plan r t → r.job ≡ Some j → ToldOf t.tasks.items j
row_told plan r j t ok counts job = record { plan = plan; rows = counts.0; begun = λ _. t.begun; accepted = ok; tallies = counts.1; known = row_in plan counts.0 r j counts.2.start job }

-- the next row stands in a tick that has begun, or in the next
pub tick_begun : (plan : PlanModel) (rows : List Row) (r : Row) (begun : ℕ) → HaveBegun plan rows begun → IsRunStart plan (rows ++ r ∷ []) → r.tick ≢ begun → begun ≡ r.tick + 1
tick_begun plan rows r begun have start ne =
    let tick = (legal_due plan rows r (start_last plan rows r start)).tick in
    let least = have.least in
    let most = have.most in
    omega (arith, tick, least, most, ne)

-- with it so many ticks have begun
pub begun_push : (plan : PlanModel) (rows : List Row) (r : Row) (before begun : ℕ) → IsPlan plan → AllByRecursion (λ x. x.tick < before) rows → before ≤ begun → IsNextOf plan rows r begun → HaveBegun plan (rows ++ r ∷ []) begun
begun_push plan rows r before begun ok early low next =
    let legal = start_last plan rows r next.start in
    let due = (legal_due plan rows r legal).tick in
    let tick = next.tick in
    let cores = ok.draft.cores in
    let q = length rows / plan.cores in
    let under : length rows < (q + 1) * plan.cores = elim (cases_lt (length rows) ((q + 1) * plan.cores)) [
      | inl l ↦ l
      | inr past ↦ let k = le-div (q + 1) (length rows) plan.cores (omega (arith, cores)) past in absurd (omega (arith, k))
    ] in
    let step : (q + 2) * plan.cores ≡ (q + 1) * plan.cores + plan.cores = omega arith in
    let more = length-append rows (r ∷ []) in
    let few = div_below (length (rows ++ r ∷ [])) plan.cores (q + 2) (omega (arith, cores)) (omega (arith, under, step, more, cores)) in
    let grows = tick_grows plan rows r legal in
    record {
      early = all_push (λ x. x.tick < begun) rows r (all_weaker (λ (x : Row). x.tick < before) (λ x. x.tick < begun) (λ x h. omega (arith, h, low)) rows early) (omega (arith, tick));
      least = omega (arith, few, due, tick);
      most = omega (arith, grows, due, tick);
    }

-- ---- a row of another job, or of none
timely : (plan : PlanModel) (rows : List Row) (r : Row) (begun t k : ℕ) (x : TaskTally) → IsPlan plan → t < length plan.tasks → IsTaskTally plan rows begun t x → IsNextOf plan rows r begun → k < length (jobs_of plan t) → IsTimely plan rows r (nat_lt k x.released) (job_at t k)
timely plan rows r begun t k x ok task is next l = record {
  ok = ok;
  start = next.start;
  there = job_in plan t k ok task l;
  come = λ e. let p = is.past k (ltb-true k x.released e) in let tick = next.tick in omega (arith, p, tick);
  ahead = λ e. let p = due_before plan rows begun t k x ok task is (ltb-false k x.released e) l in let tick = next.tick in omega (arith, p, tick);
}

job_other : (plan : PlanModel) (rows : List Row) (r : Row) (released : Bool) (j : JobId) (s : JobTally) → IsTimely plan rows r released j → is_row_of j r ≡ false → IsJobTally plan rows released j s → IsJobTally plan (rows ++ r ∷ []) released j s
job_other plan rows r released j s time other is = record {
  count = is.count ∙ sym (count_push j rows r ∙ ap (λ b. cond b (counted r (count_of rows j)) (count_of rows j)) other);
  blocking = blocking_more plan rows r released j s.blocking time other is.blocking;
}

task_other : (plan : PlanModel) (rows : List Row) (r : Row) (begun t : ℕ) (x : TaskTally) → IsPlan plan → t < length plan.tasks → IsNextOf plan rows r begun → ((j : JobId) → j.task.0 ≡ t → is_row_of j r ≡ false) → IsTaskTally plan rows begun t x → IsTaskTally plan (rows ++ r ∷ []) begun t x
task_other plan rows r begun t x ok task next none is = record {
  size = is.size;
  units = is.units;
  fits = is.fits;
  past = is.past;
  later = is.later;
  each = λ k s has.
      let l : k < length (jobs_of plan t) = (let w = slice_get_within x.jobs.items k s has in let size = is.size in omega (arith, w, size)) in
      job_other plan rows r (nat_lt k x.released) (job_at t k) s (timely plan rows r begun t k x ok task is next l) (none (job_at t k) refl) (is.each k s has);
}

-- ---- a row of a job of the task
pub record IsCounted (old new : TaskTally) (r : Row) (i : JobId) (s : JobTally) (n : ℕ) : Type 0 where
  pub was : slice_get old.jobs.items i.k ≡ Some s
  pub jobs_set : new.jobs.items ≡ slice_set old.jobs.items i.k (record { count = counted r s.count; blocking = Over n })
  pub units : new.units ≡ old.units
  pub released : new.released ≡ old.released

task_counted : (plan : PlanModel) (rows : List Row) (r : Row) (begun : ℕ) (i : JobId) (old new : TaskTally) (s : JobTally) (n : ℕ) → IsPlan plan → i.task.0 < length plan.tasks → IsNextOf plan rows r begun → r.job ≡ Some i → IsTaskTally plan rows begun i.task.0 old → IsCounted old new r i s n → n ≡ blocked plan rows i
    → IsTaskTally plan (rows ++ r ∷ []) begun i.task.0 new
task_counted plan rows r begun i old new s n ok task next job is set told = record {
  size = ap length set.jobs_set ∙ (length-set old.jobs.items i.k (record { count = counted r s.count; blocking = Over n }) ∙ is.size);
  units = set.units ∙ is.units;
  fits = subst (λ m. m ≤ length (jobs_of plan i.task.0)) (sym set.released) is.fits;
  past = λ k h. is.past k (subst (λ m. k < m) set.released h);
  later = subst (λ n. begun ≤ release_or_end plan i.task.0 n) (sym set.released) is.later;
  each = λ k y has. by_place k y has (cases_Bool (k == i.k));
}
  where
    here : i.k < length (jobs_of plan i.task.0)
    here = let w = slice_get_within old.jobs.items i.k s set.was in let size = is.size in omega (arith, w, size)

    mine : is_row_of i r ≡ true
    mine = row_of_job r i job

    legal : IsLegal plan rows r
    legal = start_last plan rows r next.start

    released : nat_lt i.k old.released ≡ true
    released = true_from_ne_false (nat_lt i.k old.released) (λ e.
        let before = (timely plan rows r begun i.task.0 i.k old ok task is next here).ahead e in
        let come = each_at (IsOfReleased plan) [] rows r [] (runs_released plan (rows ++ r ∷ []) next.start) i job in
        omega (arith, before, come))

    now : count_of (rows ++ r ∷ []) i ≡ counted r (count_of rows i)
    now = count_push i rows r ∙ ap (λ b. cond b (counted r (count_of rows i)) (count_of rows i)) mine

    was : s.count ≡ count_of rows i
    was = (is.each i.k s set.was).count

    by_place : (k : ℕ) (y : JobTally) → slice_get new.jobs.items k ≡ Some y → ((k == i.k) ≡ true) ⊎ ((k == i.k) ≡ false) → IsJobTally plan (rows ++ r ∷ []) (nat_lt k new.released) (job_at i.task.0 k) y
    by_place k y has (inl e) =
        let same : i.k ≡ k = sym (eqb-true k i.k e) in
        let set_now : record { count = counted r s.count; blocking = Over n } ≡ y = same_Some _ y (sym (get_set_same old.jobs.items i.k s (record { count = counted r s.count; blocking = Over n }) set.was) ∙ (ap (λ l. slice_get l i.k) (sym set.jobs_set) ∙ (ap (slice_get new.jobs.items) same ∙ has))) in
        let told_now : IsJobTally plan (rows ++ r ∷ []) (nat_lt i.k old.released) i (record { count = counted r s.count; blocking = Over n }) = record { count = ap (counted r) was ∙ sym now; blocking = own_over plan rows r (nat_lt i.k old.released) i n job mine released (sym told) } in
        subst (λ m. IsJobTally plan (rows ++ r ∷ []) (nat_lt m new.released) (job_at i.task.0 m) y) same
        (subst (λ m. IsJobTally plan (rows ++ r ∷ []) (nat_lt i.k m) i y) (sym set.released) (subst (IsJobTally plan (rows ++ r ∷ []) (nat_lt i.k old.released) i) set_now told_now))
    by_place k y has (inr e) =
        let ne = eqb-false k i.k e in
        let old_has : slice_get old.jobs.items k ≡ Some y = sym (get_set_other old.jobs.items i.k k (record { count = counted r s.count; blocking = Over n }) ne) ∙ (ap (λ l. slice_get l k) (sym set.jobs_set) ∙ has) in
        let l : k < length (jobs_of plan i.task.0) = (let w = slice_get_within old.jobs.items k y old_has in let size = is.size in omega (arith, w, size)) in
        let other : is_row_of (job_at i.task.0 k) r ≡ false = ap (λ o. is_job o (job_at i.task.0 k)) job ∙ false_from_ne_true (same_job i (job_at i.task.0 k)) (λ h. ne (ap (λ (x : JobId). x.k) (sym (same_is i (job_at i.task.0 k) h)))) in
        subst (λ m. IsJobTally plan (rows ++ r ∷ []) (nat_lt k m) (job_at i.task.0 k) y) (sym set.released)
        (job_other plan rows r (nat_lt k old.released) (job_at i.task.0 k) y (timely plan rows r begun i.task.0 k old ok task is next l) other (is.each k y old_has))

-- whether it was the job's last one
was_last : (plan : PlanModel) (rows : List Row) (r : Row) (i : JobId) (old new : JobCount) (u : ℕ) (b : Bool) → r.job ≡ Some i → old ≡ count_of rows i → new ≡ counted r old → u ≡ length (units plan i) → (new.done == u) ≡ b → is_finished plan (rows ++ r ∷ []) i ≡ b
was_last plan rows r i old new u b job is made whole test =
    let now : count_of (rows ++ r ∷ []) i ≡ counted r (count_of rows i) = count_push i rows r ∙ ap (λ b. cond b (counted r (count_of rows i)) (count_of rows i)) (row_of_job r i job) in
    let did : new.done ≡ done i (rows ++ r ∷ []) = ap (λ (c : JobCount). c.done) (made ∙ (ap (counted r) is ∙ sym now)) ∙ done_is (rows ++ r ∷ []) i in
    sym (ap (λ d. d == length (units plan i)) did) ∙ (ap (λ n. new.done == n) (sym whole) ∙ test)

pub row_last : (plan : PlanModel) (rows : List Row) (r : Row) (i : JobId) (begun : ℕ → ℕ) (tasks : List TaskTally) (x : TaskTally) (s : JobTally) (new : JobCount) (b : Bool) → AreTallies plan rows begun tasks → slice_get tasks i.task.0 ≡ Some x → slice_get x.jobs.items i.k ≡ Some s → r.job ≡ Some i → new ≡ counted r s.count → (new.done == x.units) ≡ b → is_finished plan (rows ++ r ∷ []) i ≡ b
row_last plan rows r i begun tasks x s new b are of_task of_job job made test = let is = are.each i.task.0 x of_task in was_last plan rows r i s.count new x.units b job (is.each i.k s of_job).count made is.units test

-- ---- a row of a job of the task that is started
pub record IsGrown (old new : TaskTally) (r : Row) (i : JobId) (s : JobTally) : Type 0 where
  pub was : slice_get old.jobs.items i.k ≡ Some s
  pub jobs_set : new.jobs.items ≡ slice_set old.jobs.items i.k (record s { count = counted r s.count })
  pub units : new.units ≡ old.units
  pub released : new.released ≡ old.released

grown_is_counted : (plan : PlanModel) (rows : List Row) (r : Row) (begun : ℕ) (i : JobId) (old new : TaskTally) (s : JobTally) → IsPlan plan → IsNextOf plan rows r begun → r.job ≡ Some i → IsTaskTally plan rows begun i.task.0 old → is_started rows i ≡ true → IsGrown old new r i s → IsCounted old new r i s (blocked plan rows i)
grown_is_counted plan rows r begun i old new s ok next job is started set =
    let over = started_over plan rows (nat_lt i.k old.released) i s.blocking started (is.each i.k s set.was).blocking in
    record {
      was = set.was;
      jobs_set = set.jobs_set ∙ ap (λ b. slice_set old.jobs.items i.k (record { count = counted r s.count; blocking = b })) over;
      units = set.units;
      released = set.released;
    }

-- ---- all tasks
pub tallies_idle : (plan : PlanModel) (rows : List Row) (r : Row) (begun : ℕ) (tasks : List TaskTally) → IsPlan plan → r.job ≡ None → IsNextOf plan rows r begun → AreTallies plan rows (λ _. begun) tasks → AreTallies plan (rows ++ r ∷ []) (λ _. begun) tasks
tallies_idle plan rows r begun tasks ok job next are = record {
  start = next.start;
  size = are.size;
  each = λ t x has. task_other plan rows r begun t x ok (let l = slice_get_within tasks t x has in let size = are.size in omega (arith, l, size)) next (λ j _. ap (λ o. is_job o j) job) (are.each t x has);
}

pub tallies_counted : (plan : PlanModel) (rows : List Row) (r : Row) (begun : ℕ) (tasks after : List TaskTally) (i : JobId) (old new : TaskTally) (s : JobTally) (n : ℕ) → IsPlan plan → r.job ≡ Some i → IsNextOf plan rows r begun → AreTallies plan rows (λ _. begun) tasks
    → slice_get tasks i.task.0 ≡ Some old → after ≡ slice_set tasks i.task.0 new → IsCounted old new r i s n → n ≡ blocked plan rows i → AreTallies plan (rows ++ r ∷ []) (λ _. begun) after
tallies_counted plan rows r begun tasks after i old new s n ok job next are was set counts told = record {
  start = next.start;
  size = ap length set ∙ (length-set tasks i.task.0 new ∙ are.size);
  each = λ t x has. by_place t x has (cases_Bool (t == i.task.0));
}
  where
    by_place : (t : ℕ) (x : TaskTally) → slice_get after t ≡ Some x → ((t == i.task.0) ≡ true) ⊎ ((t == i.task.0) ≡ false) → IsTaskTally plan (rows ++ r ∷ []) begun t x
    by_place t x has (inl e) =
        let same : i.task.0 ≡ t = sym (eqb-true t i.task.0 e) in
        let here : new ≡ x = same_Some new x (sym (get_set_same tasks i.task.0 old new was) ∙ (ap (λ l. slice_get l i.task.0) (sym set) ∙ (ap (slice_get after) same ∙ has))) in
        let task : i.task.0 < length plan.tasks = (let l = slice_get_within tasks i.task.0 old was in let size = are.size in omega (arith, l, size)) in
        subst (λ m. IsTaskTally plan (rows ++ r ∷ []) begun m x) same (subst (IsTaskTally plan (rows ++ r ∷ []) begun i.task.0) here (task_counted plan rows r begun i old new s n ok task next job (are.each i.task.0 old was) counts told))
    by_place t x has (inr e) =
        let ne = eqb-false t i.task.0 e in
        let old_has : slice_get tasks t ≡ Some x = sym (get_set_other tasks i.task.0 t new ne) ∙ (ap (λ l. slice_get l t) (sym set) ∙ has) in
        let none : (j : JobId) → j.task.0 ≡ t → is_row_of j r ≡ false = λ j at. ap (λ o. is_job o j) job ∙ false_from_ne_true (same_job i j) (λ h. ne (sym at ∙ ap (λ (y : JobId). y.task.0) (sym (same_is i j h)))) in
        task_other plan rows r begun t x ok (let l = slice_get_within tasks t x old_has in let size = are.size in omega (arith, l, size)) next none (are.each t x old_has)

pub tallies_grown : (plan : PlanModel) (rows : List Row) (r : Row) (begun : ℕ) (tasks after : List TaskTally) (i : JobId) (old new : TaskTally) (s : JobTally) → IsPlan plan → r.job ≡ Some i → IsNextOf plan rows r begun → AreTallies plan rows (λ _. begun) tasks
    → slice_get tasks i.task.0 ≡ Some old → after ≡ slice_set tasks i.task.0 new → is_started rows i ≡ true → IsGrown old new r i s → AreTallies plan (rows ++ r ∷ []) (λ _. begun) after
tallies_grown plan rows r begun tasks after i old new s ok job next are was set started grown =
    tallies_counted plan rows r begun tasks after i old new s (blocked plan rows i) ok job next are was set (grown_is_counted plan rows r begun i old new s ok next job (are.each i.task.0 old was) started grown) refl
