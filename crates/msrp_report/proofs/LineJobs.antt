-- The line of a task, job by job.
use Rattle.std.proofs.Common.{◌≡◌, ◌<◌, ◌≤◌, ◌+◌, ◌∷◌, ◌++◌, ◌∙◌, ◌==◌}
use Rattle.msrp_plan.proofs.Common.{ℕ, zero, suc, Bool, true, false, cond, List, [], refl, ap, sym, subst, arith, length, map, max, append-nil, eqb-true, eq-eqb, nat_lt, list_any, filter, range_with_len, AllByRecursion, true≢false, false_from_ne_true, map-append, filter-append, length-map-range_with_len, sum_by_push, length-filter, count_by-le-length, PlanModel, task_at, release, job_at, jobs_of, is_finished, greatest, uses, blocked, IsRunStart, IsPlan, greatest_push, jobs_of_are, any_map, any_in, any_from, kept_by, range_more}
use Rattle.msrp_report.proofs.Common.{JobId, Line, Row, blocked_bound, in_range, is_late, job_in, line_of, line_over, line_with, longest_wait, numbers_of, response, spins, task_spin_bound}
use Rattle.msrp_plan.specs.declared.ids.TaskId.{TaskId}
use Rattle.msrp_plan.proofs.Blocking.Sections.{greatest_within}
use Rattle.msrp_plan.proofs.Blocking.Bound.{bounded_blocking}
use Rattle.msrp_plan.proofs.Lists.Members.{in_filter}
use Rattle.msrp_levels.specs.Users.{users}
use Rattle.msrp_report.proofs.Waits.{longest_within}

-- ---- the greatest so far
pub greatest_more : {X : Type 0} (f : X → ℕ) (p : X → Bool) (xs : List X) (x : X) → greatest (map f (filter p (xs ++ x ∷ []))) ≡ max (greatest (map f (filter p xs))) (cond (p x) (f x) 0)
greatest_more f p xs x = ap (λ l. greatest (map f l)) (filter-append p xs (x ∷ [])) ∙ last (p x)
  where
    last : (b : Bool) → greatest (map f (filter p xs ++ cond b (x ∷ []) [])) ≡ max (greatest (map f (filter p xs))) (cond b (f x) 0)
    last true = ap greatest (map-append f (filter p xs) (x ∷ [])) ∙ greatest_push (map f (filter p xs)) (f x)
    last false = let e : greatest (map f (filter p xs ++ [])) ≡ greatest (map f (filter p xs)) = ap (λ l. greatest (map f l)) (append-nil (filter p xs)) in omega (arith, e)

pub range_next : (n : ℕ) → range_with_len 0 (n + 1) ≡ range_with_len 0 n ++ n ∷ []
range_next n = range_more 0 n ∙ ap (λ k. range_with_len 0 n ++ k ∷ []) (omega arith)

-- ---- one job more
made : Line → (finished late worst_response spin worst_spin blocked worst_blocked : ℕ) → Line
made l a b d e f g h = record l { finished = a; late = b; worst_response = d; spin = e; worst_spin = f; blocked = g; worst_blocked = h }

pub over_push : (plan : PlanModel) (rows : List Row) (t : ℕ) (js : List JobId) (j : JobId) → line_over plan rows t (js ++ j ∷ []) ≡ line_with (numbers_of plan rows j) (line_over plan rows t js)
unfolding made
over_push plan rows t js j =
    let old = line_over plan rows t js in
    let new = line_over plan rows t (js ++ j ∷ []) in
    let more = line_with (numbers_of plan rows j) old in
    let top : (f : JobId → ℕ) → greatest (map f (js ++ j ∷ [])) ≡ max (greatest (map f js)) (f j) = λ f. ap greatest (map-append f js (j ∷ [])) ∙ greatest_push (map f js) (f j) in
    ap (λ x. made new x new.late new.worst_response new.spin new.worst_spin new.blocked new.worst_blocked) (sum_by_push (λ i. cond (is_finished plan rows i) 1 0) js j)
    ∙ (ap (λ x. made new more.finished x new.worst_response new.spin new.worst_spin new.blocked new.worst_blocked) (sum_by_push (λ i. cond (is_late plan rows i) 1 0) js j)
    ∙ (ap (λ x. made new more.finished more.late x new.spin new.worst_spin new.blocked new.worst_blocked) (top (response plan rows))
    ∙ (ap (λ x. made new more.finished more.late more.worst_response x new.worst_spin new.blocked new.worst_blocked) (sum_by_push (spins rows) js j)
    ∙ (ap (λ x. made new more.finished more.late more.worst_response more.spin x new.blocked new.worst_blocked) (top (λ i. longest_wait i rows))
    ∙ (ap (λ x. made new more.finished more.late more.worst_response more.spin more.worst_spin x new.worst_blocked) (sum_by_push (blocked plan rows) js j)
    ∙ ap (λ x. made new more.finished more.late more.worst_response more.spin more.worst_spin more.blocked x) (top (blocked plan rows)))))))

-- one more of the task's jobs, by their numbers
pub over_more : (plan : PlanModel) (rows : List Row) (t k : ℕ) → line_over plan rows t (map (job_at t) (range_with_len 0 (k + 1))) ≡ line_with (numbers_of plan rows (job_at t k)) (line_over plan rows t (map (job_at t) (range_with_len 0 k)))
over_more plan rows t k =
    ap (λ l. line_over plan rows t (map (job_at t) l)) (range_next k)
    ∙ (ap (line_over plan rows t) (map-append (job_at t) (range_with_len 0 k) (k ∷ [])) ∙ over_push plan rows t (map (job_at t) (range_with_len 0 k)) (job_at t k))

-- ---- the jobs of a task
pub jobs_few : (plan : PlanModel) (t : ℕ) → length (jobs_of plan t) ≤ plan.ticks
jobs_few plan t =
    let p : JobId → Bool = λ j. nat_lt (release plan j) plan.ticks in
    let all = map (job_at t) (range_with_len 0 plan.ticks) in
    let a = length-filter p all in
    let b = count_by-le-length p all in
    let d = length-map-range_with_len (job_at t) 0 plan.ticks in
    omega (arith, a, b, d)

-- ---- the bounds
-- what holds of each of the first numbers holds of the jobs so numbered
each_job : (f : JobId → ℕ) (m t a n k : ℕ) → ((i : ℕ) → i < k → f (job_at t i) ≤ m) → a + n ≤ k → AllByRecursion (λ x. x ≤ m) (map f (map (job_at t) (range_with_len a n)))
each_job f m t a zero k all l = tt
each_job f m t a (suc n) k all l = (all a (omega (arith, l)), each_job f m t (a + 1) n k all (omega (arith, l)))

greatest_job : (plan : PlanModel) (f : JobId → ℕ) (m t : ℕ) → IsPlan plan → ((i : ℕ) → i < length (jobs_of plan t) → f (job_at t i) ≤ m) → greatest (map f (jobs_of plan t)) ≤ m
greatest_job plan f m t ok all =
    subst (λ js. greatest (map f js) ≤ m) (sym (jobs_of_are plan ok t)) (greatest_within m (map f (map (job_at t) (range_with_len 0 (length (jobs_of plan t))))) (each_job f m t 0 (length (jobs_of plan t)) (length (jobs_of plan t)) all (omega arith)))

pub spin_kept : (plan : PlanModel) (rows : List Row) (t : ℕ) → IsPlan plan → IsRunStart plan rows → (line_of plan rows t).worst_spin ≤ (line_of plan rows t).spin_bound
spin_kept plan rows t ok start = greatest_job plan (λ j. longest_wait j rows) (task_spin_bound plan (task_at plan t)) t ok (λ i l. longest_within plan rows (job_at t i) ok start)

pub blocked_kept : (plan : PlanModel) (rows : List Row) (t : ℕ) → IsPlan plan → IsRunStart plan rows → t < length plan.tasks → (line_of plan rows t).worst_blocked ≤ (line_of plan rows t).blocked_bound
blocked_kept plan rows t ok start task = greatest_job plan (blocked plan rows) (blocked_bound plan (task_at plan t)) t ok (λ i l. bounded_blocking plan rows ok start (job_at t i) (job_in plan t i ok task l))

-- of each line
each_line : (Q : Line → Type 0) (f : ℕ → Line) (a n m : ℕ) → ((t : ℕ) → t < m → Q (f t)) → a + n ≤ m → AllByRecursion Q (map f (range_with_len a n))
each_line Q f a zero m all l = tt
each_line Q f a (suc n) m all l = (all a (omega (arith, l)), each_line Q f (a + 1) n m all (omega (arith, l)))

pub spins_kept : (plan : PlanModel) (rows : List Row) → IsPlan plan → IsRunStart plan rows → AllByRecursion (λ l. l.worst_spin ≤ l.spin_bound) (map (line_of plan rows) (range_with_len 0 (length plan.tasks)))
spins_kept plan rows ok start = each_line (λ l. l.worst_spin ≤ l.spin_bound) (line_of plan rows) 0 (length plan.tasks) (length plan.tasks) (λ t l. spin_kept plan rows t ok start) (omega arith)

pub all_blocked_kept : (plan : PlanModel) (rows : List Row) → IsPlan plan → IsRunStart plan rows → AllByRecursion (λ l. l.worst_blocked ≤ l.blocked_bound) (map (line_of plan rows) (range_with_len 0 (length plan.tasks)))
all_blocked_kept plan rows ok start = each_line (λ l. l.worst_blocked ≤ l.blocked_bound) (line_of plan rows) 0 (length plan.tasks) (length plan.tasks) (λ t l. blocked_kept plan rows t ok start l) (omega arith)

-- ---- the users of a resource
users_by : (p : ℕ → Bool) (t n : ℕ) (b : Bool) → t < n → p t ≡ b → list_any (λ u. u == t) (filter p (range_with_len 0 n)) ≡ b
users_by p t n true l e = any_in (λ u. u == t) (filter p (range_with_len 0 n)) t (in_filter p (range_with_len 0 n) t (in_range t n l) e) (eq-eqb t t refl)
users_by p t n false l e = false_from_ne_true (list_any (λ u. u == t) (filter p (range_with_len 0 n))) (λ h.
    let found = any_from (λ u. u == t) (filter p (range_with_len 0 n)) h in
    let same : found.0 ≡ t = eqb-true found.0 t found.2 in
    true≢false (sym (subst (λ k. p k ≡ true) same (kept_by p (range_with_len 0 n) found.0 found.1).1) ∙ e))

-- a task is a user exactly if it locks the resource
pub user_is : (plan : PlanModel) (g t : ℕ) (us : List TaskId) → t < length plan.tasks → map (λ (u : TaskId). u.0) us ≡ users plan g → list_any (λ (u : TaskId). u.0 == t) us ≡ uses g (task_at plan t)
user_is plan g t us l e =
    sym (any_map (λ (u : TaskId). u.0) (λ n. n == t) us) ∙ (ap (list_any (λ n. n == t)) e ∙ users_by (λ n. uses g (task_at plan n)) t (length plan.tasks) (uses g (task_at plan t)) l refl)

-- ---- in loops
pub map_next : {X : Type 0} (f : ℕ → X) (n : ℕ) → map f (range_with_len 0 (n + 1)) ≡ map f (range_with_len 0 n) ++ f n ∷ []
map_next f n = ap (map f) (range_next n) ∙ map-append f (range_with_len 0 n) (n ∷ [])
