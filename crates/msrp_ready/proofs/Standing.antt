-- What the calendar and the heap say of the ready jobs: who stands in the heap is ready, and its
-- first is the head.
use Rattle.std.proofs.Common.{◌≡◌, ◌+◌, ◌<◌, ◌≤◌, ◌&&◌, ◌||◌, ◌∷◌, ◌++◌, ◌∙◌}
use Rattle.msrp_plan.proofs.Common.{ℕ, nat_le, Bool, true, false, not, cond, List, [], map, take, drop, length, get_or, Option, Some, None, refl, ap, sym, subst, inl, inr, arith, All, Contains, filter, list_any, IsNonDecreasingBy, ForSome, is_lt, IsUpperBound, true≢false, cases_Bool, leb-true, le-leb, lt-leb, and_parts, not-true, take-append-drop, get_or-drop, length-map, get_or-map, All-contains, All-contains_itself, All-from_recursion, Contains-append_left, Contains-append_right, Contains-append_cases, IsPermutation-sym, All-permutation, Contains-permutation, PlanModel, release, key, jobs_on, same_job, is_before, least, before_order, tied, same_is, same_self, least_passes, least_in, least_some, least_of_those, any_in}
use Rattle.msrp_ready.proofs.Common.{All-map, AreReady, HeapModel, JobId, JobKey, ReadyModel, and_right, has, has_come, head, is_among, job_of, key_cmp, least_on_top, length-drop, not-false, without}

-- ---- a release that has come by a tick has come by each later one
pub come_later : (tick : Option ℕ) (t r : ℕ) → ForSome tick (λ before. before ≤ t) → has_come tick r ≡ true → has_come (Some t) r ≡ true
come_later None t r no_earlier come = absurd (true≢false (sym come))
come_later (Some before) t r no_earlier come = let later : before ≤ t = no_earlier before refl in le-leb r t (omega (arith, leb-true r before come, later))

-- ---- the calendar from a place on
-- where the first job there comes later than a tick, so does each one after it
pub none_come : (calendar : List JobKey) (from t : ℕ) → IsNonDecreasingBy (λ k. k.release) calendar → ((d : JobKey) → from < length calendar → t < (get_or calendar from d).release) → All (λ k. has_come (Some t) k.release ≡ false) (drop from calendar)
none_come calendar from t sorted later k d l =
    let long = length-drop from calendar in
    let here = later d (omega (arith, long, l)) in
    let rises = sorted from (from + k) d (omega arith) (omega (arith, long, l)) in
    ap (λ z. nat_le z.release t) (get_or-drop from calendar k d) ∙ lt-leb (get_or calendar (from + k) d).release t (omega (arith, here, rises))

-- ---- who stands in a list of keyed jobs
pub has_of : (jobs : List JobKey) (k : JobKey) → Contains jobs k → has jobs (job_of k) ≡ true
has_of jobs k there = any_in (λ z. same_job (job_of k) (job_of z)) jobs k there (same_self (job_of k))

pub found : (jobs : List JobKey) (j : JobId) → has jobs j ≡ true → (k : JobKey) × Contains jobs k × (j ≡ job_of k)
found [] j h = absurd (cc)
found (x ∷ xs) j h = elim (cases_Bool (same_job j (job_of x))) [
  | inl here ↦ (x, (0, omega arith, refl), same_is j (job_of x) here)
  | inr not_here ↦
      let rest = found xs j (ap (λ b. b || has xs j) (sym not_here) ∙ h) in
      (rest.0, Contains-append_right (x ∷ []) xs rest.0 rest.1, rest.2)
]

-- ---- who stands in a list and not in another
among_kept : (p : JobId → Bool) (b : Bool) (x : JobId) (ys : List JobId) → list_any p (cond b (x ∷ ys) ys) ≡ cond b (p x || list_any p ys) (list_any p ys)
among_kept p true x ys = refl
among_kept p false x ys = refl

-- of one job more: whether it is the job asked for, whether it and the job asked for stand in the
-- other list
one_more : (is here there later : Bool) → (is ≡ true → here ≡ there) → cond (not here) (is || (later && not there)) (later && not there) ≡ (is || later) && not there
one_more true true true true e = refl
one_more true true true false e = refl
one_more true true false later e = absurd (true≢false (e refl))
one_more true false true later e = absurd (true≢false (sym (e refl)))
one_more true false false later e = refl
one_more false true there later e = refl
one_more false false there later e = refl

pub among_without : (heap jobs : List JobKey) (j : JobId) → is_among (without heap jobs) j ≡ has jobs j && not (has heap j)
among_without heap [] j = refl
among_without heap (x ∷ xs) j =
    among_kept (same_job j) (not (has heap (job_of x))) (job_of x) (without heap xs)
    ∙ ap (λ b. cond (not (has heap (job_of x))) (same_job j (job_of x) || b) b) (among_without heap xs j)
    ∙ one_more (same_job j (job_of x)) (has heap (job_of x)) (has heap j) (has xs j) (λ same. ap (has heap) (sym (same_is j (job_of x) same)))

-- ---- who passes, with nobody before it who passes, is the least of those who pass
least_is : (plan : PlanModel) (p : JobId → Bool) (js : List JobId) (j : JobId) → Contains js j → p j ≡ true → ((i : JobId) → Contains js i → p i ≡ true → is_before plan i j ≡ false) → least (is_before plan) (filter p js) ≡ Some j
least_is plan p js j there passes first = by_least (least (is_before plan) (filter p js)) refl
  where
    by_least : (o : Option JobId) → least (is_before plan) (filter p js) ≡ o → o ≡ Some j
    by_least None e = absurd (least_some (is_before plan) p js j e there passes)
    by_least (Some i) e =
        let before = first i (least_in (is_before plan) p js i e) (least_passes (is_before plan) p js i e) in
        let after = least_of_those (is_before plan) (before_order plan) p js i j e there passes in
        ap (λ k. Some k) (tied plan i j before after)

-- where nobody passes there is none
least_is_none : (plan : PlanModel) (p : JobId → Bool) (js : List JobId) → ((i : JobId) → Contains js i → p i ≡ true → ⊥) → least (is_before plan) (filter p js) ≡ None
least_is_none plan p js nobody = by_least (least (is_before plan) (filter p js)) refl
  where
    by_least : (o : Option JobId) → least (is_before plan) (filter p js) ≡ o → o ≡ None
    by_least None e = refl
    by_least (Some i) e = absurd (nobody i (least_in (is_before plan) p js i e) (least_passes (is_before plan) p js i e))

-- ---- the jobs of the calendar
contains_image : (f : JobId → JobKey) (js : List JobId) → All (λ j. Contains (map f js) (f j)) js
contains_image f js k d within = (k, omega (arith, length-map js f), get_or-map f js k d (f (get_or js k d)) within)

module _ (plan : PlanModel) (c : ℕ) (tick : Option ℕ) (calendar : List JobKey) (next : ℕ) (heap : HeapModel) (ok : AreReady plan c tick calendar next heap) where
  -- each stands beside its key
  pub all_keyed : All (λ k. k ≡ key plan (job_of k)) calendar
  all_keyed = All-permutation (λ k. k ≡ key plan (job_of k)) (map (key plan) (jobs_on plan c)) calendar ok.jobs (All-map (λ k. k ≡ key plan (job_of k)) (key plan) (jobs_on plan c) (λ k d h. refl))

  -- and is a job of the core
  pub all_on_core : All (λ k. Contains (jobs_on plan c) (job_of k)) calendar
  all_on_core = All-permutation (λ k. Contains (jobs_on plan c) (job_of k)) (map (key plan) (jobs_on plan c)) calendar ok.jobs (All-map (λ k. Contains (jobs_on plan c) (job_of k)) (key plan) (jobs_on plan c) (All-contains_itself (jobs_on plan c)))

  -- each job of the core is there
  pub in_calendar : (j : JobId) → Contains (jobs_on plan c) j → Contains calendar (key plan j)
  in_calendar j there = Contains-permutation (map (key plan) (jobs_on plan c)) calendar (key plan j) ok.jobs (All-contains (λ i. Contains (map (key plan) (jobs_on plan c)) (key plan i)) (jobs_on plan c) j (contains_image (key plan) (jobs_on plan c)) there)

  -- ---- who stands in the heap is one of the released
  pub heap_released : (k : JobKey) → Contains heap.jobs k → Contains (take next calendar) k
  heap_released k there = Contains-permutation (heap.jobs ++ ok.taken) (take next calendar) k (IsPermutation-sym (take next calendar) (heap.jobs ++ ok.taken) ok.each) (Contains-append_left heap.jobs ok.taken k there)

  released_listed : (k : JobKey) → Contains (take next calendar) k → Contains calendar k
  released_listed k there = subst (λ ks. Contains ks k) (take-append-drop next calendar) (Contains-append_left (take next calendar) (drop next calendar) k there)

  -- who is released is one of the released
  come_released : (k : JobKey) → Contains calendar k → has_come tick k.release ≡ true → Contains (take next calendar) k
  come_released k there come =
      elim (Contains-append_cases (take next calendar) (drop next calendar) k (subst (λ ks. Contains ks k) (sym (take-append-drop next calendar)) there)) [
        | inl before ↦ before
        | inr after ↦ absurd (true≢false (sym come ∙ All-contains (λ z. has_come tick z.release ≡ false) (drop next calendar) k ok.to_come after))
      ]

  -- ---- the ready jobs are those of the heap
  abbrev is_ready : JobId → Bool
  is_ready j = has_come tick (release plan j) && not (is_among (without heap.jobs (take next calendar)) j)

  -- a ready job of the core stands in the heap
  ready_in_heap : (j : JobId) → Contains (jobs_on plan c) j → is_ready j ≡ true → (k : JobKey) × Contains heap.jobs k × (j ≡ job_of k)
  ready_in_heap j there ready =
      let parts = and_parts (has_come tick (release plan j)) (not (is_among (without heap.jobs (take next calendar)) j)) ready in
      let among = has_of (take next calendar) (key plan j) (come_released (key plan j) (in_calendar j there) parts.0) in
      let kept = sym (ap not (among_without heap.jobs (take next calendar) j ∙ ap (λ b. b && not (has heap.jobs j)) among)) ∙ parts.1 in
      found heap.jobs j (not-false (has heap.jobs j) (not-true (not (has heap.jobs j)) kept))

  -- and whoever stands there is ready
  heap_ready : (k : JobKey) → Contains heap.jobs k → is_ready (job_of k) ≡ true
  heap_ready k there =
      let among = heap_released k there in
      let come = sym (ap (λ z. has_come tick z.release) (All-contains (λ z. z ≡ key plan (job_of z)) calendar k all_keyed (released_listed k among))) ∙ All-contains (λ z. has_come tick z.release ≡ true) (take next calendar) k ok.come among in
      let untaken = among_without heap.jobs (take next calendar) (job_of k) ∙ ap (λ b. has (take next calendar) (job_of k) && not b) (has_of heap.jobs k there) ∙ and_right (has (take next calendar) (job_of k)) false refl in
      ap (λ b. b && not (is_among (without heap.jobs (take next calendar)) (job_of k))) come ∙ ap not untaken

  -- nobody is ready where the heap is empty
  pub nobody_ready : heap.jobs ≡ [] → least (is_before plan) (filter is_ready (jobs_on plan c)) ≡ None
  nobody_ready empty = least_is_none plan is_ready (jobs_on plan c) (λ i there ready.
      let k = ready_in_heap i there ready in
      absurd (omega (arith, ap length empty, k.1.1)))

  -- the first of the heap is the least of the ready jobs
  pub first_is_least : (k : JobKey) → Contains heap.jobs k → IsUpperBound least_on_top k heap.jobs → least (is_before plan) (filter is_ready (jobs_on plan c)) ≡ Some (job_of k)
  first_is_least k there bound =
      let is_keyed : (z : JobKey) → Contains heap.jobs z → z ≡ key plan (job_of z) = λ z h. All-contains (λ y. y ≡ key plan (job_of y)) calendar z all_keyed (released_listed z (heap_released z h)) in
      least_is plan is_ready (jobs_on plan c) (job_of k) (All-contains (λ z. Contains (jobs_on plan c) (job_of z)) calendar k all_on_core (released_listed k (heap_released k there))) (heap_ready k there) (λ i own ready.
      let z = ready_in_heap i own ready in
      let later : is_lt (key_cmp z.0 k) ≡ false = All-contains (λ y. is_lt (key_cmp y k) ≡ false) heap.jobs z.0 (All-from_recursion (λ y. is_lt (key_cmp y k) ≡ false) heap.jobs bound) z.1 in
      ap (λ j. is_before plan j (job_of k)) z.2
      ∙ ap (λ y. is_lt (key_cmp y (key plan (job_of k)))) (sym (is_keyed z.0 z.1))
      ∙ ap (λ y. is_lt (key_cmp z.0 y)) (sym (is_keyed k there))
      ∙ later)

-- ---- the head of what a clause sees
module _ (plan : PlanModel) (c : ℕ) (calendar : List JobKey) (next : ℕ) (heap : HeapModel) where
  abbrev pub seen : Option ℕ → ReadyModel
  seen tick = record { plan = plan; core = c; tick = tick; taken = without heap.jobs (take next calendar); compared = heap.compared }

  -- nobody's, where the heap is empty
  pub head_none : (tick : Option ℕ) → AreReady plan c tick calendar next heap → heap.jobs ≡ [] → head (seen tick) ≡ None
  head_none None ok empty = refl
  head_none (Some t) ok empty = nobody_ready plan c (Some t) calendar next heap ok empty

  -- else the first of the heap
  pub head_some : (tick : Option ℕ) → AreReady plan c tick calendar next heap → (k : JobKey) → Contains heap.jobs k → IsUpperBound least_on_top k heap.jobs → head (seen tick) ≡ Some (job_of k)
  head_some None ok k there bound = absurd (true≢false (sym (heap_ready plan c None calendar next heap ok k there)))
  head_some (Some t) ok k there bound = first_is_least plan c (Some t) calendar next heap ok k there bound
