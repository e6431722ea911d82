-- The jobs of each core that are started and unfinished, and which of the later ones comes first.
use Rattle.std.proofs.Common.{◌≡◌, ◌<◌, ◌≤◌, ◌==◌, ◌&&◌, ◌||◌, ◌∷◌, ◌++◌, ◌∙◌, ◌⊎◌}
use Rattle.msrp_plan.proofs.Common.{ℕ, Bool, true, false, not, cond, List, [], Option, Some, None, refl, ap, sym, subst, arith, inl, inr, eqb-true, length, map, length-map, AllByRecursion, Contains, filter, list_any, or-true, true≢false, and_from, and_parts, true_from_ne_false, cases_Bool, All-contains, All-from_recursion, PlanModel, core_of, task_of, jobs, jobs_on, same_job, is_started, is_finished, is_before, comes_first, first_later, EachAfter, IsLegal, IsPlan, known_task, all_weaker, any_map, all_filtered, any_from, kept_by, same_is, same_self, some_is, before_order, tied, legal_turn, turn_chosen, irrefl, least_in, least_of_those, least_passes, least_some}
use Rattle.msrp_report.proofs.Common.{AreActiveOf, CoreJobs, IsDistinct, IsFirstOf, IsKnown, JobId, NotBefore, Row, before_due, eqb, head_ready, is_active, is_later_active, live, same_task, sound_at}
use Rattle.std.proofs.lemmas.Map.Steps.{length-le_from_distinct_below}
use Rattle.msrp_plan.proofs.Choosing.Turns.{has_turn, later_waits, runs_live, none_some}
use Rattle.msrp_report.proofs.JobTallies.{job_known}

-- ---- one job of a task is active at most
-- where a job has the turn that isn't started, no job of its task is active
pub alone : (plan : PlanModel) (pre : List Row) (r : Row) (i j : JobId) → IsPlan plan → EachAfter (IsLegal plan) [] pre → IsLegal plan pre r → r.job ≡ Some i → Contains (jobs_on plan r.core.0) j → i.task.0 ≡ j.task.0 → is_started pre i ≡ false → is_active plan pre j ≡ true → ⊥
alone plan pre r i j ok all legal job there task fresh active =
    let turn = legal_turn plan pre r legal in
    let sound = sound_at plan pre ok all in
    let has = turn_chosen plan pre r i turn job in
    let started = (and_parts (is_started pre j) (not (is_finished plan pre j)) active).0 in
    elim (has_turn plan r.core.0 r.tick pre i has) [
      | inl new ↦
          let before : is_before plan i j ≡ true = true_from_ne_false (is_before plan i j) (λ e. later_waits plan r.core.0 r.tick pre j i there active e (λ s. true≢false (sym started ∙ (ap (is_started pre) s ∙ fresh))) has) in
          let late = sound.late r.core.0 j i there (turn.known i job) started (head_ready plan r.core.0 r.tick pre i new.first).1 before in
          let due = before_due plan i j before in
          let same : (task_of plan i).deadline ≡ (task_of plan j).deadline = ap (λ t. (task_of plan (record j { task = record { 0 = t } })).deadline) task in
          omega (arith, late, due, same)
      | inr runs ↦ true≢false (sym (runs_live plan r.core.0 pre i runs).0 ∙ fresh)
    ]

-- whoever has the turn and is started is active
pub turn_active : (plan : PlanModel) (pre : List Row) (r : Row) (i : JobId) → IsLegal plan pre r → r.job ≡ Some i → is_started pre i ≡ true → is_active plan pre i ≡ true
turn_active plan pre r i legal job started = elim (has_turn plan r.core.0 r.tick pre i (turn_chosen plan pre r i (legal_turn plan pre r legal) job)) [
  | inl new ↦ absurd (true≢false (sym started ∙ (head_ready plan r.core.0 r.tick pre i new.first).1))
  | inr runs ↦ let l = runs_live plan r.core.0 pre i runs in live plan pre i l.0 l.1
]

-- ---- jobs of different tasks
pub apart_filter : (p : JobId → Bool) (xs : List JobId) → IsDistinct same_task xs → IsDistinct same_task (filter p xs)
unfolding IsDistinct
apart_filter p [] h = tt
apart_filter p (x ∷ xs) h = by_test (p x) (apart_filter p xs h.1)
  where
    by_test : (b : Bool) → IsDistinct same_task (filter p xs) → IsDistinct same_task (cond b (x ∷ filter p xs) (filter p xs))
    by_test true rest = (all_filtered (λ y. same_task x y ≡ false) p xs h.0, rest)
    by_test false rest = rest

pub apart_push : (xs : List JobId) (x : JobId) → IsDistinct same_task xs → AllByRecursion (λ y. same_task y x ≡ false) xs → IsDistinct same_task (xs ++ x ∷ [])
unfolding IsDistinct
apart_push [] x h others = (tt, tt)
apart_push (y ∷ xs) x h others = (all_more xs h.0, apart_push xs x h.1 others.1)
  where
    all_more : (ys : List JobId) → AllByRecursion (λ z. same_task y z ≡ false) ys → AllByRecursion (λ z. same_task y z ≡ false) (ys ++ x ∷ [])
    all_more [] all = (others.0, tt)
    all_more (z ∷ ys) all = (all.0, all_more ys all.1)

-- their tasks' numbers differ
apart_tasks : (xs : List JobId) → IsDistinct same_task xs → IsDistinct eqb (map (λ (x : JobId). x.task.0) xs)
unfolding IsDistinct
apart_tasks [] h = tt
apart_tasks (x ∷ xs) h = (all_tasks xs h.0, apart_tasks xs h.1)
  where
    all_tasks : (ys : List JobId) → AllByRecursion (λ y. same_task x y ≡ false) ys → AllByRecursion (λ n. eqb x.task.0 n ≡ false) (map (λ (y : JobId). y.task.0) ys)
    all_tasks [] all = tt
    all_tasks (y ∷ ys) all = (all.0, all_tasks ys all.1)

-- ---- jobs of a core
pub on_plan : (plan : PlanModel) (c : ℕ) (i : JobId) → Contains (jobs_on plan c) i → Contains (jobs plan) i
on_plan plan c i there = (kept_by (λ k. core_of plan k == c) (jobs plan) i there).0

pub all_known : (plan : PlanModel) (c : ℕ) (xs : List JobId) → AllByRecursion (Contains (jobs_on plan c)) xs → AllByRecursion (IsKnown plan) xs
all_known plan c xs known = all_weaker (Contains (jobs_on plan c)) (IsKnown plan) (λ j there. job_known plan j (on_plan plan c j there)) xs known

-- one that is found among some is one of them
among : (plan : PlanModel) (c : ℕ) (xs : List JobId) (j : JobId) → AllByRecursion (Contains (jobs_on plan c)) xs → list_any (same_job j) xs ≡ true → Contains (jobs_on plan c) j
among plan c xs j known found =
    let z = any_from (same_job j) xs found in
    subst (Contains (jobs_on plan c)) (sym (same_is j z.0 z.2)) (All-contains (Contains (jobs_on plan c)) xs z.0 (All-from_recursion (Contains (jobs_on plan c)) xs known) z.1)

-- there are no more of different tasks than the plan has tasks
pub few_apart : (plan : PlanModel) (c : ℕ) (xs : List JobId) → AllByRecursion (Contains (jobs_on plan c)) xs → IsDistinct same_task xs → length xs ≤ length plan.tasks
few_apart plan c xs known apart =
    let task : JobId → ℕ = λ x. x.task.0 in
    let few = length-le_from_distinct_below (map task xs) (length plan.tasks) (apart_tasks xs apart) below in
    let size = length-map xs task in
    omega (arith, few, size)
  where
    below : (q : ℕ) → list_any (eqb q) (map (λ (x : JobId). x.task.0) xs) ≡ true → q < length plan.tasks
    below q found =
        let z = any_from (λ (x : JobId). eqb q x.task.0) xs (sym (any_map (λ (x : JobId). x.task.0) (eqb q) xs) ∙ found) in
        let there = All-contains (Contains (jobs_on plan c)) xs z.0 (All-from_recursion (Contains (jobs_on plan c)) xs known) z.1 in
        let task = known_task plan c z.0 there in
        let same = eqb-true q z.0.task.0 z.2 in
        omega (arith, task, same)

-- ---- the first of the later ones
-- one job more
pub first_step : (plan : PlanModel) (j x : JobId) (xs ys : List JobId) (o : Option JobId) → ((i : JobId) → list_any (same_job i) ys ≡ (list_any (same_job i) xs || same_job i x)) → IsFirstOf plan j xs o → IsFirstOf plan j ys (cond (is_before plan j x && comes_first plan x o) (Some x) o)
first_step plan j x xs ys o more old = by_test (is_before plan j x) (comes_first plan x o) refl refl
  where
    splits : (i : JobId) → list_any (same_job i) ys ≡ true → (list_any (same_job i) xs ≡ true) ⊎ (i ≡ x)
    splits i found = elim (cases_Bool (list_any (same_job i) xs)) [
      | inl e ↦ inl e
      | inr e ↦ inr (same_is i x (sym (ap (λ b. b || same_job i x) e) ∙ (sym (more i) ∙ found)))
    ]

    kept : ((i : JobId) → i ≡ x → is_before plan j i ≡ true → NotBefore plan i o) → IsFirstOf plan j ys o
    kept here = record {
      known = λ f e. let k = old.known f e in (more f ∙ ap (λ b. b || same_job f x) k.0, k.1);
      least = λ i found before. elim (splits i found) [ inl e ↦ old.least i e before | inr same ↦ here i same before ];
    }

    behind : (q : Option JobId) → comes_first plan x q ≡ false → NotBefore plan x q
    behind None e = absurd (true≢false e)
    behind (Some f) e = e

    above : (i : JobId) (q : Option JobId) → NotBefore plan i q → comes_first plan x q ≡ true → is_before plan i x ≡ false
    above i None h e = absurd h
    above i (Some f) h e = (before_order plan).chain i f x h ((before_order plan).one_way x f e)

    by_test : (b c : Bool) → is_before plan j x ≡ b → comes_first plan x o ≡ c → IsFirstOf plan j ys (cond (b && c) (Some x) o)
    by_test false c early first = kept (λ i same before. absurd (true≢false (sym before ∙ (ap (is_before plan j) same ∙ early))))
    by_test true false later last = kept (λ i same before. subst (λ y. NotBefore plan y o) (sym same) (behind o last))
    by_test true true later first = record {
      known = λ f e.
          let s : x ≡ f = some_is x f e in
          (more f ∙ (ap (λ b. list_any (same_job f) xs || b) (ap (same_job f) s ∙ same_self f) ∙ or-true (list_any (same_job f) xs)), subst (λ y. is_before plan j y ≡ true) s later);
      least = λ i found before. elim (splits i found) [ inl e ↦ above i o (old.least i e before) first | inr same ↦ subst (λ y. is_before plan y x ≡ false) (sym same) (irrefl (is_before plan) (before_order plan) x) ];
    }

-- of no job there is none
pub first_none : (plan : PlanModel) (j : JobId) → IsFirstOf plan j [] None
first_none plan j = record { known = λ f e. absurd (none_some f e); least = λ i found. absurd (true≢false (sym found)) }

-- of all that are active
pub first_is : (plan : PlanModel) (rows : List Row) (j : JobId) (x : CoreJobs) (o : Option JobId) → AreActiveOf plan rows (core_of plan j) x → IsFirstOf plan j x.jobs.items o → o ≡ first_later plan rows j
first_is plan rows j x o active first = by_cases o (first_later plan rows j) refl first
  where
    on : (f : JobId) → list_any (same_job f) x.jobs.items ≡ true → Contains (jobs_on plan (core_of plan j)) f
    on f found = among plan (core_of plan j) x.jobs.items f active.known found

    later : (f : JobId) → list_any (same_job f) x.jobs.items ≡ true → is_before plan j f ≡ true → is_later_active plan rows j f ≡ true
    later f found before = and_from (is_active plan rows f) (is_before plan j f) (sym (active.active f (on f found)) ∙ found) before

    by_cases : (o v : Option JobId) → first_later plan rows j ≡ v → IsFirstOf plan j x.jobs.items o → o ≡ first_later plan rows j
    by_cases None None e is = sym e
    by_cases (Some f) None e is = let k = is.known f refl in absurd (least_some (is_before plan) (is_later_active plan rows j) (jobs_on plan (core_of plan j)) f e (on f k.0) (later f k.0 k.1))
    by_cases None (Some y) e is =
        let ini = least_in (is_before plan) (is_later_active plan rows j) (jobs_on plan (core_of plan j)) y e in
        let both = and_parts (is_active plan rows y) (is_before plan j y) (least_passes (is_before plan) (is_later_active plan rows j) (jobs_on plan (core_of plan j)) y e) in
        absurd (is.least y (active.active y ini ∙ both.0) both.1)
    by_cases (Some f) (Some y) e is =
        let ini = least_in (is_before plan) (is_later_active plan rows j) (jobs_on plan (core_of plan j)) y e in
        let both = and_parts (is_active plan rows y) (is_before plan j y) (least_passes (is_before plan) (is_later_active plan rows j) (jobs_on plan (core_of plan j)) y e) in
        let k = is.known f refl in
        let above = least_of_those (is_before plan) (before_order plan) (is_later_active plan rows j) (jobs_on plan (core_of plan j)) y f e (on f k.0) (later f k.0 k.1) in
        let below = is.least y (active.active y ini ∙ both.0) both.1 in
        ap (λ z. Some z) (tied plan f y above below) ∙ sym e

-- it is a job of the plan
pub later_known : (plan : PlanModel) (rows : List Row) (j k : JobId) → first_later plan rows j ≡ Some k → Contains (jobs plan) k
later_known plan rows j k e = on_plan plan (core_of plan j) k (least_in (is_before plan) (is_later_active plan rows j) (jobs_on plan (core_of plan j)) k e)
