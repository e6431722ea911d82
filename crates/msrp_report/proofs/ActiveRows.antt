-- One row more: which jobs are started and unfinished.
use Rattle.std.proofs.Common.{◌≡◌, ◌≢◌, ◌<◌, ◌≤◌, ◌==◌, ◌&&◌, ◌||◌, ◌∷◌, ◌++◌, ◌∙◌, ◌⊎◌}
use Rattle.msrp_plan.proofs.Common.{ℕ, Bool, true, false, not, List, [], Some, None, refl, ap, sym, subst, arith, inl, inr, eqb-true, length, length-append, slice_get, slice_set, get_or, vec_capacity, AllByRecursion, Contains, filter, list_any, or-false, or-true, cases_Bool, eqb-false, false_from_ne_true, length-set, All-contains_itself, recursion_from_All, same_Some, slice_get_read, PlanModel, core_of, jobs, jobs_on, is_job, is_row_of, same_job, is_started, is_finished, IsLegal, IsRunStart, IsPlan, on_its_core, row_of_job, same_is, same_self, same_symm, legal_turn, turn_core, all_both, all_push, any_in, any_push, all_filtered, each_before, start_last}
use Rattle.msrp_report.proofs.Common.{AreActive, AreActiveOf, CoreJobs, IsDistinct, JobId, Row, get_set_other, get_set_same, is_active, live_kept, same_task}
use Rattle.std.proofs.lemmas.Map.Views.{any-filter_same}
use Rattle.msrp_report.proofs.Active.{alone, apart_filter, apart_push, few_apart, turn_active}
use Rattle.msrp_report.proofs.JobTallies.{job_known}
use Rattle.msrp_report.proofs.Waiting.{started_push}

-- ---- of one core
-- before the first row
pub none_begun : (plan : PlanModel) (c : ℕ) (x : CoreJobs) → x.jobs.items ≡ [] → length plan.tasks ≤ vec_capacity x.jobs → AreActiveOf plan [] c x
unfolding IsDistinct
none_begun plan c x none room = record {
  known = subst (AllByRecursion (Contains (jobs_on plan c))) (sym none) tt;
  active = λ j there. ap (list_any (same_job j)) none;
  apart = subst (IsDistinct same_task) (sym none) tt;
  room = room;
}

-- whose jobs have no such row
of_others : (plan : PlanModel) (rows : List Row) (r : Row) (c : ℕ) (x : CoreJobs) → ((j : JobId) → Contains (jobs_on plan c) j → is_row_of j r ≡ false) → AreActiveOf plan rows c x → AreActiveOf plan (rows ++ r ∷ []) c x
of_others plan rows r c x none is = record { known = is.known; active = λ j there. is.active j there ∙ sym (live_kept plan rows r j (none j there)); apart = is.apart; room = is.room }

-- whose job i has the row
of_row : (plan : PlanModel) (rows : List Row) (r : Row) (c : ℕ) (i : JobId) (x y : CoreJobs) → r.job ≡ Some i → AreActiveOf plan rows c x → AllByRecursion (Contains (jobs_on plan c)) y.jobs.items → ((j : JobId) → same_job j i ≡ false → list_any (same_job j) y.jobs.items ≡ list_any (same_job j) x.jobs.items)
    → list_any (same_job i) y.jobs.items ≡ not (is_finished plan (rows ++ r ∷ []) i) → IsDistinct same_task y.jobs.items → length plan.tasks ≤ vec_capacity y.jobs → AreActiveOf plan (rows ++ r ∷ []) c y
of_row plan rows r c i x y job is known others own apart room = record { known = known; active = λ j there. by_job j there (cases_Bool (same_job j i)); apart = apart; room = room }
  where
    by_job : (j : JobId) → Contains (jobs_on plan c) j → ((same_job j i) ≡ true) ⊎ ((same_job j i) ≡ false) → list_any (same_job j) y.jobs.items ≡ is_active plan (rows ++ r ∷ []) j
    by_job j there (inl e) = subst (λ k. list_any (same_job k) y.jobs.items ≡ is_active plan (rows ++ r ∷ []) k) (sym (same_is j i e)) (own ∙ ap (λ b. b && not (is_finished plan (rows ++ r ∷ []) i)) (sym (started_push rows r i (row_of_job r i job))))
    by_job j there (inr e) = others j e ∙ (is.active j there ∙ sym (live_kept plan rows r j (ap (λ o. is_job o j) job ∙ (same_symm i j ∙ e))))

-- the job goes on
pub goes_on : (plan : PlanModel) (rows : List Row) (r : Row) (c : ℕ) (i : JobId) (x : CoreJobs) → IsRunStart plan (rows ++ r ∷ []) → r.job ≡ Some i → Contains (jobs_on plan c) i → AreActiveOf plan rows c x → is_started rows i ≡ true → is_finished plan (rows ++ r ∷ []) i ≡ false → AreActiveOf plan (rows ++ r ∷ []) c x
goes_on plan rows r c i x start job there is started left =
    of_row plan rows r c i x x job is is.known (λ j e. refl) (is.active i there ∙ (turn_active plan rows r i (start_last plan rows r start) job started ∙ sym (ap not left))) is.apart is.room

-- its one row is its first and its last
pub passes_by : (plan : PlanModel) (rows : List Row) (r : Row) (c : ℕ) (i : JobId) (x : CoreJobs) → r.job ≡ Some i → Contains (jobs_on plan c) i → AreActiveOf plan rows c x → is_started rows i ≡ false → is_finished plan (rows ++ r ∷ []) i ≡ true → AreActiveOf plan (rows ++ r ∷ []) c x
passes_by plan rows r c i x job there is fresh finished =
    of_row plan rows r c i x x job is is.known (λ j e. refl) (is.active i there ∙ (ap (λ b. b && not (is_finished plan rows i)) fresh ∙ sym (ap not finished))) is.apart is.room

-- it ends
pub ends : (plan : PlanModel) (rows : List Row) (r : Row) (c : ℕ) (i : JobId) (x y : CoreJobs) → r.job ≡ Some i → AreActiveOf plan rows c x → is_finished plan (rows ++ r ∷ []) i ≡ true → y.jobs.items ≡ filter (λ k. not (same_job k i)) x.jobs.items → vec_capacity y.jobs ≡ vec_capacity x.jobs → AreActiveOf plan (rows ++ r ∷ []) c y
ends plan rows r c i x y job is finished items capacity =
    of_row plan rows r c i x y job is (subst (AllByRecursion (Contains (jobs_on plan c))) (sym items) (all_filtered (Contains (jobs_on plan c)) other x.jobs.items is.known))
    (λ j e. ap (list_any (same_job j)) items ∙ any-filter_same (same_job j) other true (λ k h. ap not (subst (λ m. same_job m i ≡ false) (same_is j k h) e)) x.jobs.items)
    (ap (list_any (same_job i)) items ∙ (any-filter_same (same_job i) other false (λ k h. ap not (same_symm k i ∙ h)) x.jobs.items ∙ sym (ap not finished)))
    (subst (IsDistinct same_task) (sym items) (apart_filter other x.jobs.items is.apart))
    (subst (λ n. length plan.tasks ≤ n) (sym capacity) is.room)
  where
    other : JobId → Bool
    other k = not (same_job k i)

-- it begins: no other job of its task is active
begun_apart : (plan : PlanModel) (rows : List Row) (r : Row) (i : JobId) (x : CoreJobs) → IsPlan plan → IsRunStart plan (rows ++ r ∷ []) → r.job ≡ Some i → AreActiveOf plan rows (core_of plan i) x → is_started rows i ≡ false → IsDistinct same_task (x.jobs.items ++ i ∷ [])
begun_apart plan rows r i x ok start job is fresh = apart_push x.jobs.items i is.apart (all_both (Contains (jobs_on plan (core_of plan i))) (Contains x.jobs.items) (λ y. same_task y i ≡ false) different x.jobs.items is.known (recursion_from_All (Contains x.jobs.items) x.jobs.items (All-contains_itself x.jobs.items)))
  where
    legal : IsLegal plan rows r
    legal = start_last plan rows r start

    different : (y : JobId) → Contains (jobs_on plan (core_of plan i)) y → Contains x.jobs.items y → same_task y i ≡ false
    different y there among = false_from_ne_true (same_task y i) (λ same.
        let on = subst (λ c. Contains (jobs_on plan c) y) (turn_core plan rows r i (legal_turn plan rows r legal) job) there in
        alone plan rows r i y ok (each_before (IsLegal plan) [] rows (r ∷ []) start.each) legal job on (sym (eqb-true y.task.0 i.task.0 same)) fresh (sym (is.active y there) ∙ any_in (same_job y) x.jobs.items y among (same_self y)))

-- so there is room for it
pub may_begin : (plan : PlanModel) (rows : List Row) (r : Row) (i : JobId) (x : CoreJobs) → IsPlan plan → IsRunStart plan (rows ++ r ∷ []) → r.job ≡ Some i → Contains (jobs_on plan (core_of plan i)) i → AreActiveOf plan rows (core_of plan i) x → is_started rows i ≡ false → length x.jobs.items < vec_capacity x.jobs
may_begin plan rows r i x ok start job there is fresh =
    let few = few_apart plan (core_of plan i) (x.jobs.items ++ i ∷ []) (all_push (Contains (jobs_on plan (core_of plan i))) x.jobs.items i is.known there) (begun_apart plan rows r i x ok start job is fresh) in
    let more = length-append x.jobs.items (i ∷ []) in
    let room = is.room in
    omega (arith, few, more, room)

pub begins : (plan : PlanModel) (rows : List Row) (r : Row) (i : JobId) (x y : CoreJobs) → IsPlan plan → IsRunStart plan (rows ++ r ∷ []) → r.job ≡ Some i → Contains (jobs_on plan (core_of plan i)) i → AreActiveOf plan rows (core_of plan i) x → is_started rows i ≡ false → is_finished plan (rows ++ r ∷ []) i ≡ false → y.jobs.items ≡ x.jobs.items ++ i ∷ [] → vec_capacity y.jobs ≡ vec_capacity x.jobs
    → AreActiveOf plan (rows ++ r ∷ []) (core_of plan i) y
begins plan rows r i x y ok start job there is fresh left items capacity =
    of_row plan rows r (core_of plan i) i x y job is (subst (AllByRecursion (Contains (jobs_on plan (core_of plan i)))) (sym items) (all_push (Contains (jobs_on plan (core_of plan i))) x.jobs.items i is.known there))
    (λ j e. ap (list_any (same_job j)) items ∙ (any_push (same_job j) x.jobs.items i ∙ (ap (λ b. list_any (same_job j) x.jobs.items || b) e ∙ or-false (list_any (same_job j) x.jobs.items))))
    (ap (list_any (same_job i)) items ∙ (any_push (same_job i) x.jobs.items i ∙ (ap (λ b. list_any (same_job i) x.jobs.items || b) (same_self i) ∙ (or-true (list_any (same_job i) x.jobs.items) ∙ sym (ap not left)))))
    (subst (IsDistinct same_task) (sym items) (begun_apart plan rows r i x ok start job is fresh))
    (subst (λ n. length plan.tasks ≤ n) (sym capacity) is.room)

-- ---- of all cores
pub core_within : (plan : PlanModel) (rows : List Row) (j : JobId) (cores : List CoreJobs) → IsPlan plan → Contains (jobs plan) j → AreActive plan rows cores → core_of plan j < length cores
core_within plan rows j cores ok there are = let core = (ok.draft.each j.task.0 (job_known plan j there).task).core in let size = are.size in omega (arith, core, size)

-- what is read at a job's core stands there
pub core_read : (plan : PlanModel) (rows : List Row) (j : JobId) (cores : List CoreJobs) (n : ℕ) (x : CoreJobs) → IsPlan plan → Contains (jobs plan) j → AreActive plan rows cores → n ≡ core_of plan j → x ≡ get_or cores n x → slice_get cores (core_of plan j) ≡ Some x
core_read plan rows j cores n x ok there are at is = slice_get_read cores (length cores) (core_of plan j) x refl (core_within plan rows j cores ok there are) (subst (λ m. x ≡ get_or cores m x) at is)

pub cores_idle : (plan : PlanModel) (rows : List Row) (r : Row) (cores : List CoreJobs) → r.job ≡ None → AreActive plan rows cores → AreActive plan (rows ++ r ∷ []) cores
cores_idle plan rows r cores job are = record { size = are.size; each = λ c x has. of_others plan rows r c x (λ j there. ap (λ o. is_job o j) job) (are.each c x has) }

-- a core of other jobs than the row's
other_core : (plan : PlanModel) (rows : List Row) (r : Row) (i : JobId) (c : ℕ) (x : CoreJobs) → r.job ≡ Some i → c ≢ core_of plan i → AreActiveOf plan rows c x → AreActiveOf plan (rows ++ r ∷ []) c x
other_core plan rows r i c x job ne is = of_others plan rows r c x (λ j there. ap (λ o. is_job o j) job ∙ false_from_ne_true (same_job i j) (λ same. ne (sym (on_its_core plan c j there) ∙ ap (core_of plan) (sym (same_is i j same))))) is

-- what is kept of the row's core stays so
pub cores_kept : (plan : PlanModel) (rows : List Row) (r : Row) (i : JobId) (cores : List CoreJobs) → r.job ≡ Some i → AreActive plan rows cores → ((x : CoreJobs) → AreActiveOf plan rows (core_of plan i) x → AreActiveOf plan (rows ++ r ∷ []) (core_of plan i) x) → AreActive plan (rows ++ r ∷ []) cores
cores_kept plan rows r i cores job are own = record { size = are.size; each = λ c x has. by_core c x (are.each c x has) (cases_Bool (c == core_of plan i)) }
  where
    by_core : (c : ℕ) (x : CoreJobs) → AreActiveOf plan rows c x → ((c == core_of plan i) ≡ true) ⊎ ((c == core_of plan i) ≡ false) → AreActiveOf plan (rows ++ r ∷ []) c x
    by_core c x is (inl e) = let same = eqb-true c (core_of plan i) e in subst (λ m. AreActiveOf plan (rows ++ r ∷ []) m x) (sym same) (own x (subst (λ m. AreActiveOf plan rows m x) same is))
    by_core c x is (inr e) = other_core plan rows r i c x job (eqb-false c (core_of plan i) e) is

-- or is something else
pub cores_set : (plan : PlanModel) (rows : List Row) (r : Row) (i : JobId) (cores : List CoreJobs) (n : ℕ) (x y : CoreJobs) → r.job ≡ Some i → AreActive plan rows cores → n ≡ core_of plan i → slice_get cores (core_of plan i) ≡ Some x → AreActiveOf plan (rows ++ r ∷ []) (core_of plan i) y → AreActive plan (rows ++ r ∷ []) (slice_set cores n y)
cores_set plan rows r i cores n x y job are at was is = subst (λ m. AreActive plan (rows ++ r ∷ []) (slice_set cores m y)) (sym at) (record {
  size = length-set cores (core_of plan i) y ∙ are.size;
  each = λ c z has. by_core c z has (cases_Bool (c == core_of plan i));
})
  where
    by_core : (c : ℕ) (z : CoreJobs) → slice_get (slice_set cores (core_of plan i) y) c ≡ Some z → ((c == core_of plan i) ≡ true) ⊎ ((c == core_of plan i) ≡ false) → AreActiveOf plan (rows ++ r ∷ []) c z
    by_core c z has (inl e) =
        let same = eqb-true c (core_of plan i) e in
        let here : y ≡ z = same_Some y z (sym (get_set_same cores (core_of plan i) x y was) ∙ (ap (slice_get (slice_set cores (core_of plan i) y)) (sym same) ∙ has)) in
        subst (λ m. AreActiveOf plan (rows ++ r ∷ []) m z) (sym same) (subst (AreActiveOf plan (rows ++ r ∷ []) (core_of plan i)) here is)
    by_core c z has (inr e) =
        let ne = eqb-false c (core_of plan i) e in
        other_core plan rows r i c z job ne (are.each c z (sym (get_set_other cores (core_of plan i) c y ne) ∙ has))
