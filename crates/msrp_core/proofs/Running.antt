-- What is stored of the jobs of a core: who runs, who is chosen, and a job that starts.
use Rattle.std.proofs.Common.{◌≡◌, ◌≢◌, ◌+◌, ◌<◌, ◌≤◌, ◌==◌, ◌⊎◌, ◌&&◌, ◌||◌, ◌∷◌, ◌++◌, ◌∙◌, ◌-◌}
use Rattle.msrp_plan.proofs.Common.{ℕ, Bool, true, false, cond, not, nat_eq, nat_lt, max, List, [], Option, Some, None, refl, ap, sym, subst, arith, length, length-append, map, reverse, inl, inr, Vec, Global, vec_capacity, list_any, filter, AllByRecursion, Contains, ForSome, true≢false, and-true, and-false, or-true, or-false, cases_Bool, ltb-true, and_from, and_parts, false_from_ne_true, not-true, or_parts, length-map, none-some, same_Some, PlanModel, units, no_task, jobs_on, same_job, is_job, is_released, level, is_global, local_ceiling, greatest, resources, raised_with, ceiling_with, is_before, first_ready, first_unfinished, choice, comes_first, JobState, state_after, IsPlan, all_weaker, any_in, least_in, least_of_those, least_passes, before_order, same_is, same_self, same_symm, on_its_core, known_task}
use Rattle.std.specs.List.{IsDistinct}
use Rattle.msrp_core.proofs.Common.{ActiveJob, AreActive, AreDistinct, AreJobs, AreOfCore, AreToldBy, CanStart, ComesFirst, Contains-get_or, Free, HoldSo, Holding, IsActiveJob, IsCoreState, IsCurrent, IsRunning, JobId, Jobs, Op, Phase, Queued, ReadyModel, Row, StackModel, StartedJob, active_in, active_of, advanced, chosen, current_ceiling, done_in, eq-eqb, eqb-true, is_active, is_among, is_kept, is_newest, is_preferred, is_waiting_phase, newest, rising_of, started_job, started_with, state_in, state_of, units_done, without_newest}
use Rattle.std.specs.Cmp.{IsEquivalence}
use Rattle.std.proofs.lemmas.Map.Made.{length-le_from_is_member}
use Rattle.std.proofs.lemmas.List.{length-reverse}
use Rattle.msrp_plan.specs.Levels as levels
use Rattle.msrp_plan.proofs.Jobs.JobTests.{same_congr}
use Rattle.msrp_plan.proofs.Levels.Ceilings.{top_above}
use Rattle.msrp_ready.specs.Ready as ready
use Rattle.msrp_stack.specs.Stack as stack
use Rattle.msrp_core.specs.declared.states.CoreState.{CoreState}
use Rattle.msrp_core.proofs.Choices.{at_in, ceiling_is, choice_is, current_is, active_left, head_is, kept_raised, running_is, started_jobs, top_is}
use Rattle.msrp_stack.proofs.Changes.{reverse_push}
use Rattle.msrp_core.proofs.Steps.{clash}
use Rattle.msrp_ready.proofs.Releases.{head_stays}

-- ---- who runs
pub same_size : (jobs : Jobs) → length jobs.stack.started ≡ length jobs.below.items → length jobs.stack.started ≤ length (units_done jobs)
same_size jobs e = let n = length-reverse jobs.below.items in omega (arith, e, n)

newest_of : (active : List ActiveJob) (j : JobId) → newest (map started_job active) ≡ Some j → (s : ActiveJob) × (below : List ActiveJob) × (active ≡ s ∷ below) × (s.job ≡ j)
newest_of [] j e = absurd (none-some j e)
newest_of (s ∷ below) j e = (s, below, refl, same_Some s.job j e)

pub running_of : (jobs : Jobs) (j : JobId) → length jobs.stack.started ≡ length jobs.below.items → newest jobs.stack.started ≡ Some j → IsRunning jobs j
running_of jobs j size e =
    let x = newest_of (active_in jobs) j (ap newest (started_jobs jobs.stack.started (units_done jobs) (same_size jobs size)) ∙ e) in
    record { newest = x.0; below = x.1; active = x.2; same = x.3 }

pub newest_running : (jobs : Jobs) (j : JobId) → length jobs.stack.started ≡ length jobs.below.items → IsRunning jobs j → newest jobs.stack.started ≡ Some j
newest_running jobs j size run =
    sym (ap newest (started_jobs jobs.stack.started (units_done jobs) (same_size jobs size))) ∙ (ap (λ l. newest (map started_job l)) run.active ∙ ap (λ k. Some k) run.same)

-- its units are those that are kept
pub running_units : (jobs : Jobs) (j : JobId) → length jobs.stack.started ≡ length jobs.below.items → IsCurrent jobs → IsRunning jobs j → jobs.units ≡ units jobs.plan.now j
running_units jobs j size current run = current.units j (newest_running jobs j size run)

pub running_known : (jobs : Jobs) (j : JobId) → AreJobs jobs → IsRunning jobs j → Contains (jobs_on jobs.plan.now jobs.core.0) j × (is_among jobs.ready.taken j ≡ true)
running_known jobs j fit run =
    let all = subst (AllByRecursion (IsActiveJob jobs.plan.now jobs.core.0 jobs.ready.taken)) run.active fit.are.each in
    (subst (Contains (jobs_on jobs.plan.now jobs.core.0)) run.same all.0.known, ap (is_among jobs.ready.taken) (sym run.same) ∙ all.0.started)

-- it waits where the core does, and has done what it has as the newest
pub running_queued : (jobs : Jobs) (j : JobId) → IsRunning jobs j → (state_of jobs j).queued ≡ is_waiting_phase jobs.phase
running_queued jobs j run =
    ap (λ l. is_waiting_phase jobs.phase && is_newest l j) run.active ∙ (ap (λ b. is_waiting_phase jobs.phase && b) (ap (λ k. same_job j k) run.same ∙ same_self j) ∙ and-true (is_waiting_phase jobs.phase))

pub running_done : (jobs : Jobs) (j : JobId) → AreJobs jobs → (run : IsRunning jobs j) → (state_of jobs j).done ≡ run.newest.done
running_done jobs j fit run =
    ap (λ b. cond b (done_in jobs.plan.now (active_in jobs) j) 0) (running_known jobs j fit run).1
    ∙ (ap (λ l. done_in jobs.plan.now l j) run.active ∙ ap (λ b. cond b run.newest.done (done_in jobs.plan.now run.below j)) (ap (λ k. same_job j k) run.same ∙ same_self j))

-- ---- the choice
pub chosen_by : (plan : PlanModel) (above : ℕ) (h : JobId) (s : Option JobId) (b : Bool) → is_preferred plan above h s ≡ b → chosen plan above (Some h) s ≡ cond b (Some h) s
chosen_by plan above h None b e = ap (λ c. cond c (Some h) None) (sym (test (nat_lt above (level plan h.task.0))) ∙ e)
  where
    test : (c : Bool) → (c && true) ≡ c
    test true = refl
    test false = refl
chosen_by plan above h (Some s) b e = ap (λ c. cond c (Some h) (Some s)) e

pub head_known : (plan : PlanModel) (c t : ℕ) (taken : List JobId) (j : JobId) → first_ready plan c t (is_among taken) ≡ Some j → Contains (jobs_on plan c) j × (is_among taken j ≡ false)
head_known plan c t taken j e = (
  least_in (is_before plan) (λ j. is_released plan t j && not (is_among taken j)) (jobs_on plan c) j e,
  not-true (is_among taken j) ((and_parts (is_released plan t j) (not (is_among taken j)) (least_passes (is_before plan) (λ j. is_released plan t j && not (is_among taken j)) (jobs_on plan c) j e)).1),
)

pub first_known : (jobs : Jobs) (n : ℕ) (j : JobId) → AreJobs jobs → first_ready jobs.ready.plan jobs.ready.core n (is_among jobs.ready.taken) ≡ Some j → Contains (jobs_on jobs.plan.now jobs.core.0) j × (is_among jobs.ready.taken j ≡ false)
first_known jobs n j fit h =
    head_known jobs.plan.now jobs.core.0 n jobs.ready.taken j (ap (λ p. first_ready p jobs.core.0 n (is_among jobs.ready.taken)) (sym fit.ready_plan) ∙ (ap (λ k. first_ready jobs.ready.plan k n (is_among jobs.ready.taken)) (sym fit.ready_core) ∙ h))

-- the head of the ready jobs, of whatever tick
pub ready_known : (jobs : Jobs) (j : JobId) → AreJobs jobs → ready.head jobs.ready ≡ Some j → Contains (jobs_on jobs.plan.now jobs.core.0) j × (is_among jobs.ready.taken j ≡ false)
ready_known jobs j fit e = by_tick jobs.ready.tick refl
  where
    by_tick : (o : Option ℕ) → jobs.ready.tick ≡ o → Contains (jobs_on jobs.plan.now jobs.core.0) j × (is_among jobs.ready.taken j ≡ false)
    by_tick None t = absurd (none-some j (sym (ap (λ o. ready.head (record jobs.ready { tick = o })) t) ∙ e))
    by_tick (Some n) t = first_known jobs n j fit (sym (ap (λ o. ready.head (record jobs.ready { tick = o })) t) ∙ e)

-- the head and the started jobs are jobs of the core
all_started : (P : JobId → Type 0) (started : List StartedJob) (done : List ℕ) → length started ≤ length done → AllByRecursion (λ (s : ActiveJob). P s.job) (active_of started done) → AllByRecursion (λ (s : StartedJob). P s.job) started
all_started P [] done e all = tt
all_started P (s ∷ started) [] e all = absurd (omega (arith, e))
all_started P (s ∷ started) (n ∷ done) e all = (all.0, all_started P started done (omega (arith, e)) all.1)

pub of_core : (jobs : Jobs) → AreJobs jobs → AreOfCore jobs
of_core jobs fit = record {
  first = λ j e. (ready_known jobs j fit e).0;
  started = all_started (Contains (jobs_on jobs.plan.now jobs.core.0)) jobs.stack.started (units_done jobs) (same_size jobs fit.size)
      (all_weaker (IsActiveJob jobs.plan.now jobs.core.0 jobs.ready.taken) (λ (s : ActiveJob). Contains (jobs_on jobs.plan.now jobs.core.0) s.job) (λ s g. g.known) (active_in jobs) fit.are.each);
}

newest_in : (P : JobId → Type 0) (started : List StartedJob) (j : JobId) → AllByRecursion (λ (s : StartedJob). P s.job) started → newest started ≡ Some j → P j
newest_in P [] j all e = absurd (none-some j e)
newest_in P (s ∷ below) j all e = subst P (same_Some s.job j e) all.0

pub newest_of_core : (jobs : Jobs) (j : JobId) → AreOfCore jobs → newest jobs.stack.started ≡ Some j → Contains (jobs_on jobs.plan.now jobs.core.0) j
newest_of_core jobs j core = newest_in (Contains (jobs_on jobs.plan.now jobs.core.0)) jobs.stack.started j core.started

all_below : (P : JobId → Type 0) (started : List StartedJob) → AllByRecursion (λ (s : StartedJob). P s.job) started → AllByRecursion (λ (s : StartedJob). P s.job) (without_newest started)
all_below P [] all = tt
all_below P (s ∷ below) all = all.1

pub finished_core : (jobs : Jobs) (m : StackModel) (progress : ℕ) (below : Vec ℕ Global) → AreOfCore jobs → m ≡ record jobs.stack { started = without_newest jobs.stack.started } → AreOfCore (record jobs { stack = m; progress = progress; below = below })
finished_core jobs m progress below core e = record {
  first = core.first;
  started = subst (λ (n : StackModel). AllByRecursion (λ (s : StartedJob). Contains (jobs_on jobs.plan.now jobs.core.0) s.job) n.started) (sym e) (all_below (Contains (jobs_on jobs.plan.now jobs.core.0)) jobs.stack.started core.started);
}

-- whoever rises then
pub core_before : (jobs : Jobs) (rising : Option JobId) → AreJobs (record jobs { rising = rising }) → AreOfCore jobs
core_before jobs rising fit = let core = of_core (record jobs { rising = rising }) fit in record { first = core.first; started = core.started }

-- who rises is the head, and comes before who runs
pub risen : (plan : PlanModel) (h running : Option JobId) (j : JobId) → rising_of plan h running ≡ Some j → (h ≡ Some j) × (comes_first plan j running ≡ true)
risen plan None running j e = absurd (none-some j e)
risen plan (Some h) running j e = elim (cases_Bool (comes_first plan h running)) [
  | inl first ↦
      let same : h ≡ j = same_Some h j (sym (ap (λ b. cond b (Some h) None) first) ∙ e) in
      (ap (λ k. Some k) same, ap (λ k. comes_first plan k running) (sym same) ∙ first)
  | inr last ↦ absurd (none-some j (sym (ap (λ b. cond b (Some h) None) last) ∙ e))
]

-- where none does, the head doesn't
pub none_risen : (plan : PlanModel) (h : JobId) (running : Option JobId) → rising_of plan (Some h) running ≡ None → comes_first plan h running ≡ false
none_risen plan h running e = false_from_ne_true (comes_first plan h running) (λ first. none-some h (sym e ∙ ap (λ b. cond b (Some h) None) first))

-- who rises is a job of the core
pub risen_known : (jobs : Jobs) (j : JobId) → AreJobs jobs → jobs.rising ≡ Some j → j.task.0 < length jobs.levels.now.tasks
risen_known jobs j fit rises =
    let is = risen jobs.plan.now (ready.head jobs.ready) (newest jobs.stack.started) j (sym fit.current.rising ∙ rises) in
    subst (λ (p : PlanModel). j.task.0 < length p.tasks) (sym fit.levels) (known_task jobs.plan.now jobs.core.0 j (ready_known jobs j fit is.0).0)

-- what is said of the ready jobs after a release to a tick
pub ready_head : (jobs : Jobs) (tick : ℕ) (m : ReadyModel) → m ≡ record jobs.ready { tick = Some tick; compared = m.compared } → ready.head m ≡ first_ready jobs.ready.plan jobs.ready.core tick (is_among jobs.ready.taken)
ready_head jobs tick m e = ap ready.head e

pub released_told : (jobs : Jobs) (tick : ℕ) (m : ReadyModel) (log : List Row) → m ≡ record jobs.ready { tick = Some tick; compared = m.compared } → AreToldBy jobs log → AreToldBy (record jobs { ready = m }) log
released_told jobs tick m log e told =
    subst (λ taken. AllByRecursion (λ j. state_after log j ≡ state_in jobs.plan.now taken jobs.phase (active_in jobs) j) (jobs_on jobs.plan.now jobs.core.0)) (sym (ap (λ (n : ReadyModel). n.taken) e)) told

-- what is stored then fits together
pub released_fits : (jobs : Jobs) (tick : ℕ) (m : ReadyModel) (rising : Option JobId) → AreJobs jobs → m ≡ record jobs.ready { tick = Some tick; compared = m.compared } → rising ≡ rising_of jobs.plan.now (ready.head m) (newest jobs.stack.started) → AreJobs (record jobs { ready = m; rising = rising })
released_fits jobs tick m rising fit e is = record {
  accepted = fit.accepted;
  levels = fit.levels;
  ready_plan = ap (λ (n : ReadyModel). n.plan) e ∙ fit.ready_plan;
  ready_core = ap (λ (n : ReadyModel). n.core) e ∙ fit.ready_core;
  stack_plan = fit.stack_plan;
  stack_core = fit.stack_core;
  size = fit.size;
  room = fit.room;
  are = subst (λ taken. AreActive jobs.plan.now jobs.core.0 taken jobs.phase (active_in jobs)) (sym (ap (λ (n : ReadyModel). n.taken) e)) fit.are;
  current = record { rising = is; units = fit.current.units };
}

-- where nothing is due, the same job rises
pub rising_stays : (jobs : Jobs) (tick : ℕ) (m : ReadyModel) → AreJobs jobs → ForSome jobs.ready.tick (λ before. before ≤ tick) → ready.has_release_by jobs.ready tick ≡ false → m ≡ record jobs.ready { tick = Some tick; compared = m.compared } → jobs.rising ≡ rising_of jobs.plan.now (ready.head m) (newest jobs.stack.started)
rising_stays jobs tick m fit past none e = fit.current.rising ∙ ap (λ h. rising_of jobs.plan.now h (newest jobs.stack.started)) (sym (ready_head jobs tick m e ∙ head_stays jobs.ready tick past none))

-- the ceiling and who runs, as the stack says them
ceiling_of : (jobs : Jobs) → AreJobs jobs → ceiling_with jobs.plan.now jobs.core.0 false (is_kept (active_in jobs)) ≡ current_ceiling jobs.stack
ceiling_of jobs fit =
    ap (λ p. ceiling_with p jobs.core.0 false (is_kept (active_in jobs))) (sym fit.stack_plan)
    ∙ (ap (λ k. ceiling_with jobs.stack.plan k false (is_kept (active_in jobs))) (sym fit.stack_core) ∙ current_is jobs.stack (units_done jobs) (same_size jobs fit.size))

top_of : (jobs : Jobs) → AreJobs jobs → first_unfinished jobs.plan.now jobs.core.0 (is_active (active_in jobs)) (λ j. false) ≡ stack.top jobs.stack
top_of jobs fit =
    ap (λ p. first_unfinished p jobs.core.0 (is_active (active_in jobs)) (λ j. false)) (sym fit.stack_plan)
    ∙ (ap (λ k. first_unfinished jobs.stack.plan k (is_active (active_in jobs)) (λ j. false)) (sym fit.stack_core) ∙ top_is jobs.stack (units_done jobs) (same_size jobs fit.size))

-- so the choice, after whatever log leaves the jobs so, is told by ready jobs and stack
pub choice_of : (jobs : Jobs) (log : List Row) (t : ℕ) → AreJobs jobs → AreToldBy jobs log → choice jobs.plan.now jobs.core.0 t log ≡ chosen jobs.plan.now (current_ceiling jobs.stack) (first_ready jobs.ready.plan jobs.ready.core t (is_among jobs.ready.taken)) (stack.top jobs.stack)
choice_of jobs log t fit told =
    choice_is jobs.plan.now jobs.core.0 log jobs.ready.taken jobs.phase (active_in jobs) fit.accepted fit.are told t
    ∙ (ap (λ n. chosen jobs.plan.now n (first_ready jobs.plan.now jobs.core.0 t (is_among jobs.ready.taken)) (first_unfinished jobs.plan.now jobs.core.0 (is_active (active_in jobs)) (λ j. false))) (ceiling_of jobs fit)
    ∙ (ap (λ s. chosen jobs.plan.now (current_ceiling jobs.stack) (first_ready jobs.plan.now jobs.core.0 t (is_among jobs.ready.taken)) s) (top_of jobs fit)
    ∙ (ap (λ p. chosen jobs.plan.now (current_ceiling jobs.stack) (first_ready p jobs.core.0 t (is_among jobs.ready.taken)) (stack.top jobs.stack)) (sym fit.ready_plan)
    ∙ ap (λ k. chosen jobs.plan.now (current_ceiling jobs.stack) (first_ready jobs.ready.plan k t (is_among jobs.ready.taken)) (stack.top jobs.stack)) (sym fit.ready_core))))

-- ---- who is preferred starts where the core holds and awaits nothing
-- a global resource that is kept raises the ceiling to the core's highest level
raised_top : (plan : PlanModel) (c : ℕ) (held : ℕ → Bool) → raised_with plan false held ≡ true → levels.top plan c ≤ ceiling_with plan c false held
raised_top plan c held e =
    let m : ceiling_with plan c false held ≡ max (greatest (map (local_ceiling plan) (filter (λ g. not (is_global plan g) && held g) (resources plan)))) (levels.top plan c) =
    ap (λ b. max (greatest (map (local_ceiling plan) (filter (λ g. not (is_global plan g) && held g) (resources plan)))) (cond b (levels.top plan c) 0)) e in
    omega (arith, m)

-- no job of the core is above that
level_below : (plan : PlanModel) (c : ℕ) (j : JobId) → IsPlan plan → Contains (jobs_on plan c) j → level plan j.task.0 ≤ levels.top plan c
level_below plan c j ok there = top_above plan c j (Contains-get_or plan.tasks j.task.0 no_task (known_task plan c j there)) (on_its_core plan c j there)

kept_by : (plan : PlanModel) (p : Phase) (active : List ActiveJob) → HoldSo plan p active → (p ≡ Free) ⊎ ((g : ℕ) × (is_global plan g ≡ true) × (is_kept active g ≡ true))
kept_by plan Free active h = inl refl
kept_by plan (Queued g) [] h = absurd h
kept_by plan (Queued g) (s ∷ below) h = inr (g.0, h.0.global, ap (λ b. b || is_kept below g.0) (ap (list_any (nat_eq g.0)) h.0.held ∙ ap (λ b. b || list_any (nat_eq g.0) h.0.rest) (eq-eqb g.0 g.0 refl)))
kept_by plan (Holding g) [] h = absurd h
kept_by plan (Holding g) (s ∷ below) h = inr (g.0, h.0.global, ap (λ b. b || is_kept below g.0) h.0.has)

pub free_for : (jobs : Jobs) (j : JobId) → AreJobs jobs → Contains (jobs_on jobs.plan.now jobs.core.0) j → nat_lt (current_ceiling jobs.stack) (level jobs.plan.now j.task.0) ≡ true → jobs.phase ≡ Free
free_for jobs j fit there above = elim (kept_by jobs.plan.now jobs.phase (active_in jobs) fit.are.holds) [
  | inl free ↦ free
  | inr x ↦
      let raised = raised_top jobs.plan.now jobs.core.0 (is_kept (active_in jobs)) (kept_raised jobs.plan.now (active_in jobs) x.0 fit.accepted x.1 x.2) in
      let c = ceiling_of jobs fit in
      let l = level_below jobs.plan.now jobs.core.0 j fit.accepted there in
      let a = ltb-true _ _ above in
      absurd (omega (arith, raised, c, l, a))
]

-- ---- a job that starts
-- active jobs are no more than the jobs of the core
apart_from : (j : JobId) (active : List ActiveJob) → is_active active j ≡ false → AllByRecursion (λ k. same_job j k ≡ false) (map (λ (s : ActiveJob). s.job) active)
apart_from j [] e = tt
apart_from j (s ∷ active) e = let parts = or_parts (same_job j s.job) (is_active active j) e in (parts.0, apart_from j active parts.1)

all_apart : (active : List ActiveJob) → AreDistinct active → IsDistinct same_job (map (λ (s : ActiveJob). s.job) active)
unfolding IsDistinct
all_apart [] apart = tt
all_apart (s ∷ active) apart = (apart_from s.job active apart.0, all_apart active apart.1)

same_equivalence : IsEquivalence same_job
same_equivalence = record { refl = same_self; symm = same_symm; congr = same_congr }

found_in : (jobs : List JobId) (active : List ActiveJob) (q : JobId) → AllByRecursion (λ (s : ActiveJob). Contains jobs s.job) active → list_any (same_job q) (map (λ (s : ActiveJob). s.job) active) ≡ true → list_any (same_job q) jobs ≡ true
found_in jobs [] q known h = absurd (cc)
found_in jobs (s ∷ active) q known h = elim (cases_Bool (same_job q s.job)) [
  | inl t ↦ any_in (same_job q) jobs s.job known.0 t
  | inr f ↦ found_in jobs active q known.1 (sym (ap (λ b. b || list_any (same_job q) (map (λ (s : ActiveJob). s.job) active)) f) ∙ h)
]

pub few_active : (jobs : List JobId) (active : List ActiveJob) → AllByRecursion (λ (s : ActiveJob). Contains jobs s.job) active → AreDistinct active → length active ≤ length jobs
few_active jobs active known apart =
    let k = length-le_from_is_member same_equivalence (map (λ (s : ActiveJob). s.job) active) jobs (all_apart active apart) (λ q h. found_in jobs active q known h) in
    let n = length-map active (λ (s : ActiveJob). s.job) in
    omega (arith, k, n)

-- what a stack wants of a job that starts
pub can_start : (jobs : Jobs) (j : JobId) → AreJobs jobs → Contains (jobs_on jobs.plan.now jobs.core.0) j → comes_first jobs.plan.now j (newest jobs.stack.started) ≡ true → CanStart jobs.stack j
can_start jobs j fit there first = record {
  known = subst (λ (p : PlanModel). Contains (jobs_on p jobs.stack.core) j) (sym fit.stack_plan) (subst (λ k. Contains (jobs_on jobs.plan.now k) j) (sym fit.stack_core) there);
  first = subst (λ (p : PlanModel). ComesFirst p jobs.stack.started j) (sym fit.stack_plan) (comes jobs.stack.started first);
}
  where
    comes : (started : List StartedJob) → comes_first jobs.plan.now j (newest started) ≡ true → ComesFirst jobs.plan.now started j
    comes [] e = tt
    comes (s ∷ below) e = e

-- a job that is new among those that are active
abbrev pub begun : JobId → ActiveJob
begun j = record { job = j; held = []; done = 0 }

pub begun_holds : (jobs : Jobs) (j : JobId) → AreJobs jobs → jobs.phase ≡ Free → HoldSo jobs.plan.now jobs.phase (begun j ∷ active_in jobs)
begun_holds jobs j fit free = subst (λ p. HoldSo jobs.plan.now p (begun j ∷ active_in jobs)) (sym free) (record { now = refl; locals = λ g h. absurd (true≢false (sym h)) }, subst (λ p. HoldSo jobs.plan.now p (active_in jobs)) free fit.are.holds)

module _ (jobs : Jobs) (j : JobId) (taken : List JobId) (fit : AreJobs jobs) (there : Contains (jobs_on jobs.plan.now jobs.core.0) j) (fresh : is_among jobs.ready.taken j ≡ false) (free : jobs.phase ≡ Free)
    (more : (k : JobId) → is_among taken k ≡ is_among jobs.ready.taken k || is_job (Some j) k) where
  not_active : is_active (active_in jobs) j ≡ false
  not_active = false_from_ne_true (is_active (active_in jobs) j) (λ e. clash (is_among jobs.ready.taken j) ((active_left jobs.plan.now jobs.core.0 jobs.ready.taken (active_in jobs) j fit.are.each e).0) fresh)

  new_taken : is_among taken j ≡ true
  new_taken = more j ∙ (ap (λ b. is_among jobs.ready.taken j || b) (same_self j) ∙ or-true (is_among jobs.ready.taken j))

  pub begun_active : AreActive jobs.plan.now jobs.core.0 taken jobs.phase (begun j ∷ active_in jobs)
  begun_active = record {
    each = (
      record { known = there; started = new_taken; left = (fit.accepted.whole j.task.0 (known_task jobs.plan.now jobs.core.0 j there)).work },
      all_weaker (IsActiveJob jobs.plan.now jobs.core.0 jobs.ready.taken) (IsActiveJob jobs.plan.now jobs.core.0 taken) (λ s g. record { known = g.known; started = more s.job ∙ ap (λ b. b || is_job (Some j) s.job) g.started; left = g.left }) (active_in jobs) fit.are.each,
    );
    apart = (not_active, fit.are.apart);
    holds = begun_holds jobs j fit free;
  }

  pub begun_states : (k : JobId) → state_in jobs.plan.now taken jobs.phase (begun j ∷ active_in jobs) k ≡ started_with (Some j) (state_of jobs k)
  begun_states k =
      let q : (is_waiting_phase jobs.phase && same_job k j) ≡ (is_waiting_phase jobs.phase && is_newest (active_in jobs) k) = ap (λ p. is_waiting_phase p && same_job k j) free ∙ sym (ap (λ p. is_waiting_phase p && is_newest (active_in jobs) k) free) in
      let t = more k in
      let d : cond (is_among taken k) (done_in jobs.plan.now (begun j ∷ active_in jobs) k) 0 ≡ cond (is_among jobs.ready.taken k) (done_in jobs.plan.now (active_in jobs) k) 0 = elim (cases_Bool (same_job k j)) [
        | inl hit ↦
            ap (λ n. cond (is_among taken k) n 0) (ap (λ b. cond b 0 (done_in jobs.plan.now (active_in jobs) k)) hit) ∙ (zero_both (is_among taken k) ∙ sym (ap (λ b. cond b (done_in jobs.plan.now (active_in jobs) k) 0) (ap (is_among jobs.ready.taken) (same_is k j hit) ∙ fresh)))
        | inr miss ↦
            ap (λ n. cond (is_among taken k) n 0) (ap (λ b. cond b 0 (done_in jobs.plan.now (active_in jobs) k)) miss)
            ∙ ap (λ b. cond b (done_in jobs.plan.now (active_in jobs) k) 0) (more k ∙ (ap (λ b. is_among jobs.ready.taken k || b) (same_symm j k ∙ miss) ∙ or-false (is_among jobs.ready.taken k)))
      ] in
      cc
    where
      zero_both : (b : Bool) → cond {A = ℕ} b 0 0 ≡ 0
      zero_both true = refl
      zero_both false = refl

-- who is the head then doesn't come before it, since it was the head
pub none_behind : (jobs : Jobs) (j : JobId) (r : ReadyModel) → AreJobs jobs → ready.head jobs.ready ≡ Some j → r ≡ record jobs.ready { taken = r.taken; compared = r.compared } → ((k : JobId) → is_among r.taken k ≡ is_among jobs.ready.taken k || is_job (Some j) k) → rising_of jobs.plan.now (ready.head r) (Some j) ≡ None
none_behind jobs j r fit first rest more = by_head (ready.head r) refl
  where
    now : ReadyModel
    now = jobs.ready

    waits : List JobId → ℕ → JobId → Bool
    waits taken n k = is_released now.plan n k && not (is_among taken k)

    behind : (h : JobId) (o : Option ℕ) → now.tick ≡ o → ready.head r ≡ Some h → is_before now.plan h j ≡ false
    behind h None t e = absurd (none-some h (sym (ap (λ o. ready.head (record now { tick = o; taken = r.taken })) t) ∙ (sym (ap ready.head rest) ∙ e)))
    behind h (Some n) t e =
        let old : first_ready now.plan now.core n (is_among now.taken) ≡ Some j = sym (ap (λ o. ready.head (record now { tick = o })) t) ∙ first in
        let new : first_ready now.plan now.core n (is_among r.taken) ≡ Some h = sym (ap (λ o. ready.head (record now { tick = o; taken = r.taken })) t) ∙ (sym (ap ready.head rest) ∙ e) in
        let parts = and_parts (is_released now.plan n h) (not (is_among r.taken h)) (least_passes (is_before now.plan) (waits r.taken n) (jobs_on now.plan now.core) h new) in
        let fresh = (or_parts (is_among now.taken h) (same_job j h) (sym (more h) ∙ not-true (is_among r.taken h) parts.1)).0 in
        least_of_those (is_before now.plan) (before_order now.plan) (waits now.taken n) (jobs_on now.plan now.core) j h old (least_in (is_before now.plan) (waits r.taken n) (jobs_on now.plan now.core) h new)
        (and_from (is_released now.plan n h) (not (is_among now.taken h)) parts.0 (ap not fresh))

    by_head : (o : Option JobId) → ready.head r ≡ o → rising_of jobs.plan.now (ready.head r) (Some j) ≡ None
    by_head None e = ap (λ o. rising_of jobs.plan.now o (Some j)) e
    by_head (Some h) e = ap (λ o. rising_of jobs.plan.now o (Some j)) e ∙ ap (λ b. cond b (Some h) None) (ap (λ p. is_before p h j) (sym fit.ready_plan) ∙ behind h now.tick refl e)

-- the active jobs with it
pub begun_in : (jobs : Jobs) (j : JobId) (m : StackModel) (below : List ℕ) → m ≡ record jobs.stack { started = record { job = j; held = [] } ∷ jobs.stack.started } → below ≡ jobs.below.items ++ jobs.progress ∷ [] → active_of m.started (0 ∷ reverse below) ≡ begun j ∷ active_in jobs
begun_in jobs j m below e d = ap (λ (s : StackModel). active_of s.started (0 ∷ reverse below)) e ∙ ap (λ l. active_of (record { job = j; held = [] } ∷ jobs.stack.started) (0 ∷ l)) (ap reverse d ∙ reverse_push jobs.below.items jobs.progress)

-- all that is stored with it
pub begun_fits : (jobs : Jobs) (j : JobId) (r : ReadyModel) (m : StackModel) (below : Vec ℕ Global) → AreJobs jobs → Contains (jobs_on jobs.plan.now jobs.core.0) j → is_among jobs.ready.taken j ≡ false → jobs.phase ≡ Free
    → r ≡ record jobs.ready { taken = r.taken; compared = r.compared } → ((k : JobId) → is_among r.taken k ≡ is_among jobs.ready.taken k || is_job (Some j) k)
    → m ≡ record jobs.stack { started = record { job = j; held = [] } ∷ jobs.stack.started } → below.items ≡ jobs.below.items ++ jobs.progress ∷ [] → vec_capacity below ≡ vec_capacity jobs.below
    → ready.head jobs.ready ≡ Some j → (us : List Op) → us ≡ units jobs.plan.now j → AreJobs (record jobs { ready = r; stack = m; progress = 0; below = below; rising = None; units = us })
begun_fits jobs j r m below fit there fresh free rest more pushed items room first us lent = record {
  accepted = fit.accepted;
  levels = fit.levels;
  ready_plan = ap (λ (x : ReadyModel). x.plan) rest ∙ fit.ready_plan;
  ready_core = ap (λ (x : ReadyModel). x.core) rest ∙ fit.ready_core;
  stack_plan = ap (λ (x : StackModel). x.plan) pushed ∙ fit.stack_plan;
  stack_core = ap (λ (x : StackModel). x.core) pushed ∙ fit.stack_core;
  size = let a = ap (λ (x : StackModel). length x.started) pushed in let b = ap length items in let l = length-append jobs.below.items (jobs.progress ∷ []) in let s = fit.size in omega (arith, a, b, l, s);
  room = let q = fit.room in omega (arith, room, q);
  are = subst (AreActive jobs.plan.now jobs.core.0 r.taken jobs.phase) (sym (begun_in jobs j m below.items pushed items)) (begun_active jobs j r.taken fit there fresh free more);
  current = record {
    rising = sym (ap (λ (x : StackModel). rising_of jobs.plan.now (ready.head r) (newest x.started)) pushed ∙ none_behind jobs j r fit first rest more);
    units = λ k e. lent ∙ ap (units jobs.plan.now) (same_Some j k (sym (ap (λ (x : StackModel). newest x.started) pushed) ∙ e));
  };
}

-- there is room for it
pub begun_room : (jobs : Jobs) (j : JobId) → AreJobs jobs → Contains (jobs_on jobs.plan.now jobs.core.0) j → is_among jobs.ready.taken j ≡ false → length jobs.below.items < vec_capacity jobs.below
begun_room jobs j fit there fresh =
    let known = all_weaker (IsActiveJob jobs.plan.now jobs.core.0 jobs.ready.taken) (λ (s : ActiveJob). Contains (jobs_on jobs.plan.now jobs.core.0) s.job) (λ s g. g.known) (active_in jobs) fit.are.each in
    let apart = false_from_ne_true (is_active (active_in jobs) j) (λ e. clash (is_among jobs.ready.taken j) ((active_left jobs.plan.now jobs.core.0 jobs.ready.taken (active_in jobs) j fit.are.each e).0) fresh) in
    let few = few_active (jobs_on jobs.plan.now jobs.core.0) (begun j ∷ active_in jobs) (there, known) (apart, fit.are.apart) in
    let all = ap length (started_jobs jobs.stack.started (units_done jobs) (same_size jobs fit.size)) in
    let n = length-map (active_in jobs) started_job in
    let s = fit.size in
    let q = fit.room in
    omega (arith, few, all, n, s, q)

-- ---- the newest
-- the units that it has done are the first number
pub newest_done : (started : List StartedJob) (rest : List ℕ) (n : ℕ) (s : ActiveJob) (below : List ActiveJob) → active_of started (n ∷ rest) ≡ s ∷ below → n ≡ s.done
newest_done [] rest n s below e = absurd (cc)
newest_done (x ∷ started) rest n s below e = cc

-- with the last of the numbers below in its place the others are those of the jobs below
pub popped : (started : List StartedJob) (rest : List ℕ) (n : ℕ) (s : ActiveJob) (below : List ActiveJob) → active_of started (n ∷ rest) ≡ s ∷ below → (x : StartedJob) × (others : List StartedJob) × (started ≡ x ∷ others) × (s.job ≡ x.job) × (s.held ≡ x.held) × (active_of others rest ≡ below)
popped [] rest n s below e = absurd (let k : [] ≡ s ∷ below = e in cc)
popped (x ∷ others) rest n s below e =
    let j : s.job ≡ x.job = cc in
    let h : s.held ≡ x.held = cc in
    let b : active_of others rest ≡ below = cc in
    (x, others, refl, j, h, b)

-- ---- what a choice answers
pub choose_head : (jobs : Jobs) (tick : ℕ) (running : Option JobId) (j : JobId) (b : Bool) (log : List Row) → AreJobs jobs → running ≡ stack.top jobs.stack → Some j ≡ first_ready jobs.ready.plan jobs.ready.core tick (is_among jobs.ready.taken) → is_preferred jobs.plan.now (current_ceiling jobs.stack) j running ≡ b → AreToldBy jobs log
    → cond b (Some j) running ≡ choice jobs.plan.now jobs.core.0 tick log
choose_head jobs tick running j b log fit top head next told =
    sym (choice_of jobs log tick fit told
    ∙ (ap (λ h. chosen jobs.plan.now (current_ceiling jobs.stack) h (stack.top jobs.stack)) (sym head) ∙ (ap (chosen jobs.plan.now (current_ceiling jobs.stack) (Some j)) (sym top) ∙ chosen_by jobs.plan.now (current_ceiling jobs.stack) j running b next)))

pub choose_none : (jobs : Jobs) (tick : ℕ) (running : Option JobId) (log : List Row) → AreJobs jobs → running ≡ stack.top jobs.stack → None ≡ first_ready jobs.ready.plan jobs.ready.core tick (is_among jobs.ready.taken) → AreToldBy jobs log → running ≡ choice jobs.plan.now jobs.core.0 tick log
choose_none jobs tick running log fit top head told =
    sym (choice_of jobs log tick fit told ∙ (ap (λ h. chosen jobs.plan.now (current_ceiling jobs.stack) h (stack.top jobs.stack)) (sym head) ∙ sym top))

-- by who rises, of which is asked only whether its level is above the ceiling
module _ (jobs : Jobs) (tick : ℕ) (running : Option JobId) (log : List Row) (fit : AreJobs jobs) (top : running ≡ stack.top jobs.stack) (last : running ≡ newest jobs.stack.started) (at : jobs.ready.tick ≡ Some tick) (told : AreToldBy jobs log) where
  head_now : ready.head jobs.ready ≡ first_ready jobs.ready.plan jobs.ready.core tick (is_among jobs.ready.taken)
  head_now = ap (λ o. ready.head (record jobs.ready { tick = o })) at

  preferred_by : (j : JobId) (b : Bool) → comes_first jobs.plan.now j (newest jobs.stack.started) ≡ b → is_preferred jobs.plan.now (current_ceiling jobs.stack) j running ≡ nat_lt (current_ceiling jobs.stack) (level jobs.plan.now j.task.0) && b
  preferred_by j b e = ap (λ c. nat_lt (current_ceiling jobs.stack) (level jobs.plan.now j.task.0) && c) (ap (comes_first jobs.plan.now j) last ∙ e)

  pub choose_risen : (j : JobId) (b : Bool) → jobs.rising ≡ Some j → nat_lt (current_ceiling jobs.stack) (level jobs.plan.now j.task.0) ≡ b → cond b (Some j) running ≡ choice jobs.plan.now jobs.core.0 tick log
  choose_risen j b rises above =
      let is = risen jobs.plan.now (ready.head jobs.ready) (newest jobs.stack.started) j (sym fit.current.rising ∙ rises) in
      choose_head jobs tick running j b log fit top (sym is.0 ∙ head_now) (preferred_by j true is.1 ∙ (and-true _ ∙ above)) told

  pub choose_unrisen : jobs.rising ≡ None → running ≡ choice jobs.plan.now jobs.core.0 tick log
  choose_unrisen nobody = by_head (ready.head jobs.ready) refl
    where
      by_head : (h : Option JobId) → ready.head jobs.ready ≡ h → running ≡ choice jobs.plan.now jobs.core.0 tick log
      by_head None e = choose_none jobs tick running log fit top (sym e ∙ head_now) told
      by_head (Some h) e =
          let late = none_risen jobs.plan.now h (newest jobs.stack.started) (ap (λ o. rising_of jobs.plan.now o (newest jobs.stack.started)) (sym e) ∙ (sym fit.current.rising ∙ nobody)) in
          choose_head jobs tick running h false log fit top (sym e ∙ head_now) (preferred_by h false late ∙ and-false _) told

-- who runs is started already
runs_started : (plan : PlanModel) (taken : List JobId) (running : Option JobId) (j : JobId) → ((x : JobId) → running ≡ Some x → is_among taken x ≡ true) → is_among taken j ≡ is_among taken j || is_job running j
runs_started plan taken None j h = sym (or-false (is_among taken j))
runs_started plan taken (Some x) j h = elim (cases_Bool (same_job x j)) [
  | inl hit ↦ let t : is_among taken j ≡ true = ap (is_among taken) (sym (same_is x j hit)) ∙ h x refl in t ∙ sym (ap (λ b. b || same_job x j) t)
  | inr miss ↦ sym (ap (λ b. is_among taken j || b) miss ∙ or-false (is_among taken j))
]

pub running_states : (jobs : Jobs) (m : ReadyModel) (running : Option JobId) → m.taken ≡ jobs.ready.taken → ((x : JobId) → running ≡ Some x → is_among jobs.ready.taken x ≡ true) → (j : JobId) → state_of (record jobs { ready = m }) j ≡ started_with running (state_of jobs j)
running_states jobs m running same h j =
    ap (λ l. state_in jobs.plan.now l jobs.phase (active_in jobs) j) same
    ∙ (let t = runs_started jobs.plan.now jobs.ready.taken running j h in let mk : Bool → JobState = λ b. record (state_of jobs j) { started = b } in ap mk t)

-- after a release the choice is the same, and so are the states, but for who runs, which is started
module _ (old mid : Jobs) (tick : ℕ) (others : mid ≡ record old { ready = mid.ready; rising = mid.rising }) (released : mid.ready ≡ record old.ready { tick = Some tick; compared = mid.ready.compared }) where
  pub choice_before : (o : Option JobId) → ((log : List Row) → AreToldBy mid log → o ≡ choice mid.plan.now mid.core.0 tick log) → (log : List Row) → AreToldBy old log → o ≡ choice old.plan.now old.core.0 tick log
  choice_before o is log told = is log (subst (λ (j : Jobs). AreToldBy j log) (sym others) (released_told old tick mid.ready log released told)) ∙ ap (λ (j : Jobs). choice j.plan.now j.core.0 tick log) others

  pub states_before : (running : Option JobId) → AreJobs mid → running ≡ newest mid.stack.started → (j : JobId) → state_of mid j ≡ started_with running (state_of old j)
  states_before running fit last j =
      ap (λ (x : Jobs). state_of x j) others
      ∙ running_states old mid.ready running (ap (λ (m : ReadyModel). m.taken) released)
      (λ x e. sym (ap (λ (m : ReadyModel). is_among m.taken x) released) ∙ (running_known mid x fit (running_of mid x fit.size (sym last ∙ e))).1) j

-- before the first turn
pub none_fits : (jobs : Jobs) → IsPlan jobs.plan.now → jobs.levels.now ≡ jobs.plan.now → jobs.ready ≡ record { plan = jobs.plan.now; core = jobs.core.0; tick = None; taken = []; compared = 0 } → jobs.stack ≡ record { plan = jobs.plan.now; core = jobs.core.0; started = [] } → jobs.below.items ≡ []
    → length (jobs_on jobs.plan.now jobs.core.0) ≤ vec_capacity jobs.below → jobs.phase ≡ Free → jobs.rising ≡ None → AreJobs jobs
none_fits jobs ok levels r m none room free nobody = record {
  accepted = ok;
  levels = levels;
  ready_plan = ap (λ (x : ReadyModel). x.plan) r;
  ready_core = ap (λ (x : ReadyModel). x.core) r;
  stack_plan = ap (λ (x : StackModel). x.plan) m;
  stack_core = ap (λ (x : StackModel). x.core) m;
  size = ap (λ (x : StackModel). length x.started) m ∙ sym (ap length none);
  room = room;
  are = subst (AreActive jobs.plan.now jobs.core.0 jobs.ready.taken jobs.phase) (sym (ap (λ (x : StackModel). active_of x.started (units_done jobs)) m)) (record { each = tt; apart = tt; holds = subst (λ p. HoldSo jobs.plan.now p []) (sym free) tt });
  current = record {
    rising = nobody ∙ sym (ap (λ (x : ReadyModel). rising_of jobs.plan.now (ready.head x) (newest jobs.stack.started)) r);
    units = λ j e. absurd (none-some j (sym (ap (λ (x : StackModel). newest x.started) m) ∙ e));
  };
}

pub running_left : (jobs : Jobs) (s : ActiveJob) (below : List ActiveJob) → AreJobs jobs → active_in jobs ≡ s ∷ below → s.done < length (units jobs.plan.now s.job)
running_left jobs s below fit e = (subst (AllByRecursion (IsActiveJob jobs.plan.now jobs.core.0 jobs.ready.taken)) e fit.are.each).0.left

-- one unit more of the newest that isn't its last
pub advanced_on : (jobs : Jobs) (n : ℕ) (s : ActiveJob) (below : List ActiveJob) → active_in jobs ≡ s ∷ below → s.done + 1 ≢ length (units jobs.plan.now s.job) → n ≡ s.done + 1 → active_of jobs.stack.started (n ∷ reverse jobs.below.items) ≡ advanced jobs.plan.now (active_in jobs)
advanced_on jobs n s below e more next =
    let p = popped jobs.stack.started (reverse jobs.below.items) jobs.progress s below e in
    let off : (s.done + 1 == length (units jobs.plan.now s.job)) ≡ false = false_from_ne_true _ (λ t. more (eqb-true _ _ t)) in
    let mk : JobId → List ℕ → ℕ → List ActiveJob → List ActiveJob = λ j h k l. record { job = j; held = h; done = k } ∷ l in
    let rest = reverse jobs.below.items in
    ap (λ l. active_of l (n ∷ rest)) p.2
    ∙ (ap (λ j. mk j p.0.held n (active_of p.1 rest)) (sym p.3)
    ∙ (ap (λ h. mk s.job h n (active_of p.1 rest)) (sym p.4)
    ∙ (ap (λ k. mk s.job s.held k (active_of p.1 rest)) next
    ∙ (ap (mk s.job s.held (s.done + 1)) p.5 ∙ sym (ap (advanced jobs.plan.now) e ∙ ap (λ b. cond b below (record s { done = s.done + 1 } ∷ below)) off)))))

-- what decides the choice, as it is stored
pub state_told : (jobs : Jobs) (tick : ℕ) (log : List Row) (s : CoreState) → AreJobs jobs → s.running ≡ stack.top jobs.stack → s.head ≡ first_ready jobs.ready.plan jobs.ready.core tick (is_among jobs.ready.taken) → s.ceiling ≡ current_ceiling jobs.stack
    → (s.running ≡ None → s.done ≡ 0) → ((j : JobId) → s.running ≡ Some j → (state_of jobs j).done ≡ s.done × Contains (jobs_on jobs.plan.now jobs.core.0) j)
    → AreToldBy jobs log → IsCoreState jobs.plan.now jobs.core.0 tick log s
state_told jobs tick log s fit running head above none count told =
    let plan = jobs.plan.now in
    let c = jobs.core.0 in
    let taken = jobs.ready.taken in
    record {
      running = running ∙ sym (running_is plan c log taken jobs.phase (active_in jobs) fit.accepted fit.are told ∙ top_of jobs fit);
      head = head ∙ (ap (λ p. first_ready p jobs.ready.core tick (is_among taken)) fit.ready_plan ∙ (ap (λ k. first_ready plan k tick (is_among taken)) fit.ready_core ∙ sym (head_is plan c log taken jobs.phase (active_in jobs) fit.accepted fit.are told tick)));
      ceiling = above ∙ sym (ceiling_is plan c log taken jobs.phase (active_in jobs) fit.accepted fit.are told ∙ ceiling_of jobs fit);
      none = none;
      done = λ j e. let own = count j e in sym (ap (λ (k : JobState). k.done) (at_in (λ j. state_after log j ≡ state_of jobs j) (jobs_on plan c) j told own.1) ∙ own.0);
    }
