-- Where the jobs of a plan stand among what is kept of them.
use Rattle.msrp_plan.proofs.Common.{ℕ, zero, suc, not, Bool, true, false, List, [], Option, Some, None, refl, ap, sym, subst, arith, length, map, slice_get, get_or, nat_lt, cond, fold, unwrap_or, mul_comm, AllByRecursion, Contains, range_with_len, All-contains, All-from_recursion, mul-le-mul_right, mul-le-mul_left, div_below, slice_get_read, PlanModel, core_of, jobs, jobs_of, jobs_on, job_at, is_row_of, is_started, is_finished, is_before, blocked, count_after, IsRunStart, IsPlan, job_on, jobs_of_are, all_weaker, least_in, kept_by, known_task}
use Rattle.msrp_report.proofs.Common.{AreTallies, By, CanCount, HasRoom, HasTallied, IsBlocking, IsJobTally, IsKnown, IsTallyOf, JobCount, JobId, JobTally, Over, Row, Tallies, TaskTally, ToldOf, WaitsFor, all_flat, blocks, count_of, last_tick}
use Rattle.std.proofs.Common.{◌≡◌, ◌<◌, ◌≤◌, ◌+◌, ◌==◌, ◌&&◌, ◌∷◌, ◌++◌, ◌∙◌, ◌*◌, filter}
use Rattle.msrp_plan.proofs.Jobs.CoreJobs.{known_released}
use Rattle.msrp_report.proofs.JobCounts.{AreFew, counts_few, last_is, wait_within}
use Rattle.msrp_report.specs.declared.numbers.JobNumbers.{JobNumbers}
use Rattle.msrp_report.proofs.Waiting.{waits_told}

-- ---- a job of the plan
numbered : (plan : PlanModel) (t a n : ℕ) → a + n ≤ length (jobs_of plan t) → AllByRecursion (λ x. x.k < length (jobs_of plan x.task.0)) (map (job_at t) (range_with_len a n))
numbered plan t a zero h = tt
numbered plan t a (suc n) h = (omega (arith, h), numbered plan t (a + 1) n (omega (arith, h)))

-- its number is below that of the task's jobs
pub number_within : (plan : PlanModel) (j : JobId) → IsPlan plan → Contains (jobs plan) j → j.k < length (jobs_of plan j.task.0)
number_within plan j ok there =
    let P : JobId → Type 0 = λ x. x.k < length (jobs_of plan x.task.0) in
    let each : (t : ℕ) → AllByRecursion P (jobs_of plan t) = λ t. subst (AllByRecursion P) (sym (jobs_of_are plan ok t)) (numbered plan t 0 (length (jobs_of plan t)) (omega arith)) in
    All-contains P (jobs plan) j (All-from_recursion P (jobs plan) (all_flat P (jobs_of plan) each (range_with_len 0 (length plan.tasks)))) there

pub job_known : (plan : PlanModel) (j : JobId) → Contains (jobs plan) j → IsKnown plan j
job_known plan j there = let on = job_on plan (core_of plan j) j there refl in record { task = known_task plan (core_of plan j) j on; released = known_released plan (core_of plan j) j on }

-- a job of a task is of that task, and its number is below theirs
numbered_of : (plan : PlanModel) (t a n : ℕ) → a + n ≤ length (jobs_of plan t) → AllByRecursion (λ x. (x.task.0 ≡ t) × (x.k < length (jobs_of plan t))) (map (job_at t) (range_with_len a n))
numbered_of plan t a zero h = tt
numbered_of plan t a (suc n) h = ((refl, omega (arith, h)), numbered_of plan t (a + 1) n (omega (arith, h)))

pub of_task : (plan : PlanModel) (t : ℕ) (j : JobId) → IsPlan plan → Contains (jobs_of plan t) j → (j.task.0 ≡ t) × (j.k < length (jobs_of plan t))
of_task plan t j ok there =
    let P : JobId → Type 0 = λ x. (x.task.0 ≡ t) × (x.k < length (jobs_of plan t)) in
    All-contains P (jobs_of plan t) j (All-from_recursion P (jobs_of plan t) (subst (AllByRecursion P) (sym (jobs_of_are plan ok t)) (numbered_of plan t 0 (length (jobs_of plan t)) (omega arith)))) there

-- ---- what is kept of it
pub told_task : (tasks : List TaskTally) (j : JobId) → ToldOf tasks j → j.task.0 < length tasks
told_task tasks j told = let size = told.tallies.size in let l = (job_known told.plan j told.known).task in omega (arith, size, l)

pub told_number : (tasks : List TaskTally) (j : JobId) (x : TaskTally) → ToldOf tasks j → slice_get tasks j.task.0 ≡ Some x → j.k < length x.jobs.items
told_number tasks j x told has = let size = (told.tallies.each j.task.0 x has).size in let l = number_within told.plan j told.accepted told.known in omega (arith, size, l)

pub tally_told : (plan : PlanModel) (rows : List Row) (begun : ℕ → ℕ) (tasks : List TaskTally) (j : JobId) (s : JobTally) → AreTallies plan rows begun tasks → (of : IsTallyOf tasks j s) → IsJobTally plan rows (nat_lt j.k of.task.released) j s
tally_told plan rows begun tasks j s are of = (are.each j.task.0 of.task of.of_task).each j.k s of.of_job

pub task_read : (tasks : List TaskTally) (j : JobId) (x : TaskTally) → ToldOf tasks j → x ≡ get_or tasks j.task.0 x → slice_get tasks j.task.0 ≡ Some x
task_read tasks j x told is = slice_get_read tasks (length tasks) j.task.0 x refl (told_task tasks j told) is

-- ---- how it is blocked
-- who blocks a job is a job of the plan
blocker_known : (plan : PlanModel) (rows : List Row) (released : Bool) (j k : JobId) (n : ℕ) → WaitsFor plan rows released j k n → Contains (jobs plan) k
blocker_known plan rows released j k n w =
    (kept_by (λ i. core_of plan i == core_of plan j) (jobs plan) k
    (least_in (is_before plan) (λ i. (is_started w.since.before i && not (is_finished plan w.since.before i)) && is_before plan j i) (jobs_on plan (core_of plan j)) k w.since.first)).0

pub over_told : (plan : PlanModel) (rows : List Row) (begun : ℕ → ℕ) (tasks : List TaskTally) (j : JobId) (s : JobTally) (n : ℕ) → AreTallies plan rows begun tasks → IsTallyOf tasks j s → s.blocking ≡ Over n → n ≡ blocked plan rows j
over_told plan rows begun tasks j s n are of e =
    let over = subst (IsBlocking plan rows (nat_lt j.k of.task.released) j) e (tally_told plan rows begun tasks j s are of).blocking in
    sym over.count

pub blocker_told : (plan : PlanModel) (rows : List Row) (begun : ℕ → ℕ) (tasks : List TaskTally) (j k : JobId) (s : JobTally) (n : ℕ) → IsPlan plan → AreTallies plan rows begun tasks → Contains (jobs plan) j → IsTallyOf tasks j s → s.blocking ≡ By k n
    → Contains (jobs plan) k × ((count_of rows k).rows ≡ n + blocked plan rows j)
blocker_told plan rows begun tasks j k s n ok are there of e =
    let w = subst (IsBlocking plan rows (nat_lt j.k of.task.released) j) e (tally_told plan rows begun tasks j s are of).blocking in
    (blocker_known plan rows (nat_lt j.k of.task.released) j k n w, waits_told plan rows (nat_lt j.k of.task.released) j k n ok are.start there w)

-- ---- how great the counts are
pub few_rows : (plan : PlanModel) (rows : List Row) → IsPlan plan → IsRunStart plan rows → length rows ≤ 160000
few_rows plan rows ok start =
    let cores = ok.draft.cores in
    let ticks = ok.draft.ticks in
    let size = start.size in
    let x = mul-le-mul_right plan.ticks cores.1 in
    let y = mul-le-mul_left 8 ticks.1 in
    omega (arith, size, x, y)

-- one row more can be counted
pub can_count : (plan : PlanModel) (rows : List Row) (j : JobId) (c : JobCount) → IsPlan plan → IsRunStart plan rows → c ≡ count_of rows j → CanCount c
can_count plan rows j c ok start is =
    let few = subst (AreFew (length rows)) (sym is) (counts_few rows j) in
    let all = few_rows plan rows ok start in
    let r = few.rows in
    let d = few.done in
    let s = few.spins in
    let w = few.wait in
    record { rows = omega (arith, r, all); done = omega (arith, d, all); spins = omega (arith, s, all); wait = room c.wait (omega (arith, w, all)); longest = subst (λ (x : JobCount). unwrap_or x.wait 0 ≤ x.longest_wait) (sym is) (wait_within rows j) }
  where
    room : (w : Option ℕ) → unwrap_or w 0 ≤ 160000 → HasRoom w
    room None h = tt
    room (Some x) h = omega (arith, h)

-- so where the tally of a job is read
pub tally_read : (tasks : List TaskTally) (j : JobId) (x : TaskTally) (s : JobTally) → ToldOf tasks j → x ≡ get_or tasks j.task.0 x → s ≡ get_or x.jobs.items j.k s → IsTallyOf tasks j s
tally_read tasks j x s told at is =
    let has = task_read tasks j x told at in
    record { task = x; of_task = has; of_job = slice_get_read x.jobs.items (length x.jobs.items) j.k s refl (told_number tasks j x told has) is }

pub job_read : (tasks : List TaskTally) (j : JobId) (x : TaskTally) (s : JobTally) → ToldOf tasks j → x ≡ get_or tasks j.task.0 x → s ≡ get_or x.jobs.items j.k s → slice_get x.jobs.items j.k ≡ Some s
job_read tasks j x s told at is = slice_get_read x.jobs.items (length x.jobs.items) j.k s refl (told_number tasks j x told (task_read tasks j x told at)) is

pub room_read : (tasks : List TaskTally) (j : JobId) (x : TaskTally) (s : JobTally) → ToldOf tasks j → x ≡ get_or tasks j.task.0 x → s ≡ get_or x.jobs.items j.k s → CanCount s.count
room_read tasks j x s told at is = can_count told.plan told.rows j s.count told.accepted told.tallies.start (tally_told told.plan told.rows told.begun tasks j s told.tallies (tally_read tasks j x s told at is)).count

-- no more pass than stand there
count_few : {X : Type 0} (p : List X → X → Bool) (pre xs : List X) → count_after p pre xs ≤ length xs
count_few p pre [] = omega arith
count_few p pre (x ∷ xs) = let rest = count_few p (pre ++ x ∷ []) xs in let one = bit (p pre x) in omega (arith, rest, one)
  where
    bit : (b : Bool) → cond {A = ℕ} b 1 0 ≤ 1
    bit true = omega arith
    bit false = omega arith

pub blocked_few : (plan : PlanModel) (rows : List Row) (j : JobId) → IsPlan plan → IsRunStart plan rows → blocked plan rows j ≤ 160000
blocked_few plan rows j ok start = let few = count_few (blocks plan j) [] rows in let size = few_rows plan rows ok start in omega (arith, few, size)

pub spins_few : (plan : PlanModel) (rows : List Row) (j : JobId) (c : JobCount) → IsPlan plan → IsRunStart plan rows → c ≡ count_of rows j → c.spins ≤ 160000
spins_few plan rows j c ok start is =
    let few = subst (AreFew (length rows)) (sym is) (counts_few rows j) in
    let size = few_rows plan rows ok start in
    let s = few.spins in
    omega (arith, s, size)

-- the last tick of a job has begun
last_within : (j : JobId) (m a : ℕ) (rows : List Row) → a ≤ m → AllByRecursion (λ r. r.tick < m + 1) rows → fold (λ _ r. r.tick) a (filter (is_row_of j) rows) ≤ m
last_within j m a [] h all = h
last_within j m a (r ∷ rows) h all = by_test (is_row_of j r) (last_within j m r.tick rows (let t = all.0 in omega (arith, t)) all.1) (last_within j m a rows h all.1)
  where
    by_test : (b : Bool) → fold (λ _ x. x.tick) r.tick (filter (is_row_of j) rows) ≤ m → fold (λ _ x. x.tick) a (filter (is_row_of j) rows) ≤ m → fold (λ _ x. x.tick) a (cond b (r ∷ filter (is_row_of j) rows) (filter (is_row_of j) rows)) ≤ m
    by_test true mine other = mine
    by_test false mine other = other

pub last_few : (plan : PlanModel) (rows : List Row) (j : JobId) (t : Tallies) (c : JobCount) → IsPlan plan → HasTallied plan rows t → c ≡ count_of rows j → c.last_tick ≤ 20000
last_few plan rows j t c ok told is =
    let size = told.tallies.start.size in
    let most = told.begun.most in
    let cores = ok.draft.cores in
    let ticks = ok.draft.ticks in
    let comm : plan.cores * plan.ticks ≡ plan.ticks * plan.cores = mul_comm plan.cores plan.ticks in
    let step : (plan.ticks + 1) * plan.cores ≡ plan.ticks * plan.cores + plan.cores = omega arith in
    let below = div_below (length rows) plan.cores (plan.ticks + 1) (omega (arith, cores)) (omega (arith, size, comm, step, cores)) in
    let early = all_weaker (λ (r : Row). r.tick < t.begun) (λ r. r.tick < 20000 + 1) (λ r h. omega (arith, h, most, below, ticks)) rows told.begun.early in
    let last : c.last_tick ≡ last_tick j rows = ap (λ (x : JobCount). x.last_tick) is ∙ last_is rows j in
    let within : last_tick j rows ≤ 20000 = last_within j 20000 0 rows (omega arith) early in
    omega (arith, last, within)

-- ---- the numbers
made : (finished late : Bool) (response spins longest_wait blocked : ℕ) → JobNumbers
made f l r s w b = record { finished = f; late = l; response = r; spins = s; longest_wait = w; blocked = b }

pub same_numbers : (n m : JobNumbers) → n.finished ≡ m.finished → n.late ≡ m.late → n.response ≡ m.response → n.spins ≡ m.spins → n.longest_wait ≡ m.longest_wait → n.blocked ≡ m.blocked → n ≡ m
unfolding made
same_numbers n m f l r s w b =
    ap (λ x. made x n.late n.response n.spins n.longest_wait n.blocked) f
    ∙ (ap (λ x. made m.finished x n.response n.spins n.longest_wait n.blocked) l
    ∙ (ap (λ x. made m.finished m.late x n.spins n.longest_wait n.blocked) r
    ∙ (ap (λ x. made m.finished m.late m.response x n.longest_wait n.blocked) s
    ∙ (ap (λ x. made m.finished m.late m.response m.spins x n.blocked) w
    ∙ ap (λ x. made m.finished m.late m.response m.spins m.longest_wait x) b))))
