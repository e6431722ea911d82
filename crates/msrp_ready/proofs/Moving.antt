-- Jobs are released, and the head is taken: what the calendar and the heap then keep.
use Rattle.std.proofs.Common.{◌≡◌, ◌==◌, ◌+◌, ◌-◌, ◌*◌, ◌<◌, ◌≤◌, ◌&&◌, ◌||◌, ◌∷◌, ◌++◌, ◌∙◌}
use Rattle.msrp_plan.proofs.Common.{ℕ, zero, suc, Bool, true, false, not, cond, List, [], map, take, drop, length, get_or, Option, Some, None, refl, ap, sym, subst, inl, inr, arith, append_assoc, append-nil, length-append, All, AllByRecursion, Contains, filter, ForSome, IsPermutation, IsNonDecreasingBy, true≢false, cases_Bool, cases_lt, le-leb, take-append-drop, length-take-le, length-map, map-append, All-nil, All-weaker, recursion_from_All, All-contains_itself, Contains-append_right, filter-append, list_any-append, sum_by-cons, sum_by-append, sum_by-take-le, length-filter, count_by-le-length, IsPermutation-refl, IsPermutation-trans, IsPermutation-sym, length_permutation, Contains-permutation, PlanModel, core_of, release, key, jobs, jobs_on, same_job, IsPlan, same_is, same_symm}
use Rattle.msrp_ready.proofs.Common.{All-append, AreReady, Entry, HeapModel, IsPermutation-append_comm, IsPermutation-append_left, IsPermutation-append_right, IsPermutation-middle, JobId, JobKey, count_by, count_map, entry, entry_keys, has, has_come, is_among, job_of, list_any-IsPermutation, sum_by-IsPermutation, sum_by-take-drop, without}
use Rattle.msrp_ready.proofs.Once.{once_on}
use Rattle.msrp_ready.proofs.Entries.{keyed_length, keyed_between, keyed_released, keyed_later, keyed_sorted, keyed_all}
use Rattle.msrp_ready.proofs.Standing.{has_of, among_without, heap_released, come_later, none_come}
use Rattle.msrp_plan.proofs.Tests.{or_off}

-- ---- a list up to a place, and from there up to another
take_take : {X : Type 0} (n m : ℕ) (xs : List X) → n ≤ m → take n (take m xs) ≡ take n xs
take_take zero m xs h = refl
take_take (suc n) zero xs h = absurd (omega arith)
take_take (suc n) (suc m) [] h = refl
take_take (suc n) (suc m) (x ∷ xs) h = ap (λ ys. x ∷ ys) (take_take n m xs (omega arith))

take_on : {X : Type 0} (n m : ℕ) (xs : List X) → n ≤ m → take m xs ≡ take n xs ++ drop n (take m xs)
take_on n m xs h = sym (take-append-drop n (take m xs)) ∙ ap (λ ys. ys ++ drop n (take m xs)) (take_take n m xs h)

-- ---- how often a job stands in a list
times : JobId → List JobKey → ℕ
times j jobs = count_by (λ k. same_job j (job_of k)) jobs

stands : (j : JobId) (jobs : List JobKey) → times j jobs ≡ 0 → has jobs j ≡ false
unfolding times
stands j [] e = refl
stands j (x ∷ xs) e =
    let all : count_by (λ k. same_job j (job_of k)) (x ∷ xs) ≡ cond (same_job j (job_of x)) 1 0 + count_by (λ k. same_job j (job_of k)) xs = sum_by-cons (λ k. cond (same_job j (job_of k)) 1 0) x xs in
    elim (cases_Bool (same_job j (job_of x))) [
      | inl is ↦ let one : cond {A = ℕ} (same_job j (job_of x)) 1 0 ≡ 1 = ap (λ b. cond b 1 0) is in absurd (omega (arith, all, one, e))
      | inr other ↦ ap (λ b. b || has xs j) other ∙ stands j xs (omega (arith, all, e))
    ]

-- one that stands there does so at least once
stands_once : (j : JobId) (jobs : List JobKey) → has jobs j ≡ true → 1 ≤ times j jobs
unfolding times
stands_once j jobs there = elim (cases_lt 0 (times j jobs)) [
  | inl some ↦ some
  | inr none ↦ absurd (true≢false (sym there ∙ stands j jobs (omega (arith, none))))
]

-- how many pass where all do, and where none does
all_pass : {X : Type 0} (p : X → Bool) (xs : List X) → AllByRecursion (λ x. p x ≡ true) xs → count_by p xs ≡ length xs
all_pass p [] all = refl
all_pass p (x ∷ xs) all = sum_by-cons (λ y. cond (p y) 1 0) x xs ∙ ap (λ b. cond b 1 0 + count_by p xs) all.0 ∙ ap (λ n. 1 + n) (all_pass p xs all.1) ∙ omega arith

none_pass : {X : Type 0} (p : X → Bool) (xs : List X) → AllByRecursion (λ x. p x ≡ false) xs → count_by p xs ≡ 0
none_pass p [] all = refl
none_pass p (x ∷ xs) all = sum_by-cons (λ y. cond (p y) 1 0) x xs ∙ ap (λ b. cond b 1 0 + count_by p xs) all.0 ∙ ap (λ n. 0 + n) (none_pass p xs all.1)

-- ---- who stands in a list and not in another
without_same : (one other jobs : List JobKey) → AllByRecursion (λ k. has one (job_of k) ≡ has other (job_of k)) jobs → without one jobs ≡ without other jobs
without_same one other [] all = refl
without_same one other (x ∷ xs) all =
    ap (λ b. cond (not b) (job_of x ∷ without one xs) (without one xs)) all.0 ∙ ap (λ js. cond (not (has other (job_of x))) (job_of x ∷ js) js) (without_same one other xs all.1)

without_all : (heap jobs : List JobKey) → AllByRecursion (λ k. has heap (job_of k) ≡ true) jobs → without heap jobs ≡ []
without_all heap [] all = refl
without_all heap (x ∷ xs) all = ap (λ b. cond (not b) (job_of x ∷ without heap xs) (without heap xs)) all.0 ∙ without_all heap xs all.1

without-append : (heap one other : List JobKey) → without heap (one ++ other) ≡ without heap one ++ without heap other
without-append heap one other = ap (filter (λ j. not (has heap j))) (map-append job_of one other) ∙ filter-append (λ j. not (has heap j)) (map job_of one) (map job_of other)

-- one job gone from the list of those that are not taken
one_gone : (among is later : Bool) → (is ≡ true → among ≡ true) → (is ≡ true → later ≡ false) → among && not later ≡ (among && not (is || later)) || is
one_gone true true true here gone = absurd (true≢false (gone refl))
one_gone true true false here gone = refl
one_gone false true later here gone = absurd (true≢false (sym (here refl)))
one_gone true false true here gone = refl
one_gone true false false here gone = refl
one_gone false false later here gone = refl

module _ (plan : PlanModel) (c : ℕ) (tick : Option ℕ) (calendar : List JobKey) (next : ℕ) (heap : HeapModel) (ok : AreReady plan c tick calendar next heap) where
  -- each job once in the calendar
  once : (j : JobId) → times j calendar ≤ 1
  unfolding times
  once j =
      let same = sum_by-IsPermutation (λ k. cond (same_job j (job_of k)) 1 0) (map (key plan) (jobs_on plan c)) calendar ok.jobs in
      let images = count_map (key plan) (λ k. same_job j (job_of k)) (jobs_on plan c) in
      omega (arith, same, images, once_on plan ok.accepted c j)

  once_up_to : (j : JobId) (n : ℕ) → times j (take n calendar) ≤ 1
  unfolding times
  once_up_to j n = let fewer = sum_by-take-le (λ k. cond (same_job j (job_of k)) 1 0) calendar n in let all = once j in omega (arith, fewer, all)

  -- so many are released
  pub released_count : count_by (λ j. has_come tick (release plan j)) (jobs_on plan c) ≡ next
  released_count =
      let come : JobKey → Bool = λ k. has_come tick k.release in
      let images = count_map (key plan) come (jobs_on plan c) in
      let same = sum_by-IsPermutation (λ k. cond (come k) 1 0) (map (key plan) (jobs_on plan c)) calendar ok.jobs in
      let parts = sum_by-take-drop (λ k. cond (come k) 1 0) calendar next in
      let before = all_pass come (take next calendar) (recursion_from_All (λ k. come k ≡ true) (take next calendar) ok.come) in
      let after = none_pass come (drop next calendar) (recursion_from_All (λ k. come k ≡ false) (drop next calendar) ok.to_come) in
      let long = length-take-le next calendar ok.within in
      omega (arith, images, same, parts, before, after, long)

  -- the sizes
  pub sizes : length heap.jobs + length ok.taken ≡ next
  sizes =
      let long = length-take-le next calendar ok.within in
      let moved = length_permutation (take next calendar) (heap.jobs ++ ok.taken) ok.each in
      let both = length-append heap.jobs ok.taken in
      omega (arith, long, moved, both)

  -- ---- jobs are released
  module _ (t after : ℕ) (later : HeapModel) (no_earlier : ForSome tick (λ before. before ≤ t)) (lower : next ≤ after) (within : after ≤ length calendar) (jobs : IsPermutation (heap.jobs ++ drop next (take after calendar)) later.jobs) where
    -- the released jobs stand in the heap, or are taken
    still_each : IsPermutation (take after calendar) (later.jobs ++ ok.taken)
    still_each =
        let more = drop next (take after calendar) in
        let first = IsPermutation-append_left more (take next calendar) (heap.jobs ++ ok.taken) ok.each in
        let turned : IsPermutation ((heap.jobs ++ ok.taken) ++ more) ((heap.jobs ++ more) ++ ok.taken) =
        subst (λ l. IsPermutation l ((heap.jobs ++ more) ++ ok.taken)) (sym (append_assoc heap.jobs ok.taken more))
        (subst (IsPermutation (heap.jobs ++ (ok.taken ++ more))) (sym (append_assoc heap.jobs more ok.taken)) (IsPermutation-append_right heap.jobs (ok.taken ++ more) (more ++ ok.taken) (IsPermutation-append_comm ok.taken more))) in
        let last = IsPermutation-append_left ok.taken (heap.jobs ++ more) later.jobs jobs in
        subst (λ l. IsPermutation l (later.jobs ++ ok.taken)) (sym (take_on next after calendar lower)) (IsPermutation-trans _ _ _ first (IsPermutation-trans _ _ _ turned last))

    -- those up to the new place have come
    still_come : All (λ k. k.release ≤ t) (drop next (take after calendar)) → All (λ k. has_come (Some t) k.release ≡ true) (take after calendar)
    still_come released =
        subst (All (λ k. has_come (Some t) k.release ≡ true)) (sym (take_on next after calendar lower))
        (All-append (λ k. has_come (Some t) k.release ≡ true) (take next calendar) (drop next (take after calendar))
        (All-weaker (λ k. has_come tick k.release ≡ true) (λ k. has_come (Some t) k.release ≡ true) (λ k come. come_later tick t k.release no_earlier come) (take next calendar) ok.come)
        (All-weaker (λ k. k.release ≤ t) (λ k. has_come (Some t) k.release ≡ true) (λ k l. le-leb k.release t l) (drop next (take after calendar)) released))

    -- and those from there on have not
    still_to_come : ((d : JobKey) → after < length calendar → t < (get_or calendar after d).release) → All (λ k. has_come (Some t) k.release ≡ false) (drop after calendar)
    still_to_come = none_come calendar after t ok.sorted

    pub released_on : All (λ k. k.release ≤ t) (drop next (take after calendar)) → ((d : JobKey) → after < length calendar → t < (get_or calendar after d).release) → later.room ≡ heap.room → later.compared ≤ heap.compared + 13 * (after - next)
        → AreReady plan c (Some t) calendar after later
    released_on released next_later room compared = record {
      accepted = ok.accepted;
      jobs = ok.jobs;
      sorted = ok.sorted;
      few = ok.few;
      room = room ∙ ok.room;
      within = within;
      come = still_come released;
      to_come = still_to_come next_later;
      taken = ok.taken;
      each = still_each;
      compared = omega (arith, compared, ok.compared, lower);
    }

    -- who was released before is not released again
    not_among_more : (k : JobKey) → Contains (take next calendar) k → has (drop next (take after calendar)) (job_of k) ≡ false
    unfolding times
    not_among_more k there =
        let before = take next calendar in
        let more = drop next (take after calendar) in
        let all = once_up_to (job_of k) after in
        let parts : times (job_of k) (take after calendar) ≡ times (job_of k) before + times (job_of k) more = ap (times (job_of k)) (take_on next after calendar lower) ∙ sum_by-append (λ z. cond (same_job (job_of k) (job_of z)) 1 0) before more in
        let one = stands_once (job_of k) before (has_of before k there) in
        stands (job_of k) more (omega (arith, all, parts, one))

    -- ---- nobody is taken by that
    pub without_more : without later.jobs (take after calendar) ≡ without heap.jobs (take next calendar)
    without_more =
        let before = take next calendar in
        let more = drop next (take after calendar) in
        let joined : All (λ k. has later.jobs (job_of k) ≡ true) more = All-weaker (Contains more) (λ k. has later.jobs (job_of k) ≡ true) (λ k there. has_of later.jobs k (Contains-permutation (heap.jobs ++ more) later.jobs k jobs (Contains-append_right heap.jobs more k there))) more (All-contains_itself more) in
        let kept : All (λ k. has later.jobs (job_of k) ≡ has heap.jobs (job_of k)) before = All-weaker (Contains before) (λ k. has later.jobs (job_of k) ≡ has heap.jobs (job_of k)) (λ k there.
        sym (list_any-IsPermutation (λ z. same_job (job_of k) (job_of z)) (heap.jobs ++ more) later.jobs jobs)
        ∙ list_any-append (λ z. same_job (job_of k) (job_of z)) heap.jobs more
        ∙ or_off (has heap.jobs (job_of k)) (has more (job_of k)) (not_among_more k there)) before (All-contains_itself before) in
        ap (without later.jobs) (take_on next after calendar lower)
        ∙ without-append later.jobs before more
        ∙ ap (λ js. without later.jobs before ++ js) (without_all later.jobs more (recursion_from_All (λ k. has later.jobs (job_of k) ≡ true) more joined))
        ∙ append-nil (without later.jobs before)
        ∙ without_same later.jobs heap.jobs before (recursion_from_All (λ k. has later.jobs (job_of k) ≡ has heap.jobs (job_of k)) before kept)

  -- ---- the head is taken
  module _ (k : JobKey) (later : HeapModel) (jobs : IsPermutation heap.jobs (k ∷ later.jobs)) where
    pub taken_on : later.room ≡ heap.room → later.compared ≤ heap.compared + 26 → AreReady plan c tick calendar next later
    taken_on room compared =
        let first = IsPermutation-append_left ok.taken heap.jobs (k ∷ later.jobs) jobs in
        let last = IsPermutation-sym (later.jobs ++ k ∷ ok.taken) (k ∷ (later.jobs ++ ok.taken)) (IsPermutation-middle later.jobs k ok.taken) in
        record {
          accepted = ok.accepted;
          jobs = ok.jobs;
          sorted = ok.sorted;
          few = ok.few;
          room = room ∙ ok.room;
          within = ok.within;
          come = ok.come;
          to_come = ok.to_come;
          taken = k ∷ ok.taken;
          each = IsPermutation-trans _ _ _ ok.each (IsPermutation-trans _ _ _ first last);
          compared = omega (arith, compared, ok.compared);
        }

    -- it stood there once
    gone : (j : JobId) → same_job j (job_of k) ≡ true → has later.jobs j ≡ false
    unfolding times
    gone j is =
        let all = once_up_to j next in
        let moved : times j (heap.jobs ++ ok.taken) ≡ times j (take next calendar) = sum_by-IsPermutation (λ z. cond (same_job j (job_of z)) 1 0) (take next calendar) (heap.jobs ++ ok.taken) ok.each in
        let parts : times j (heap.jobs ++ ok.taken) ≡ times j heap.jobs + times j ok.taken = sum_by-append (λ z. cond (same_job j (job_of z)) 1 0) heap.jobs ok.taken in
        let leaves : times j (k ∷ later.jobs) ≡ times j heap.jobs = sum_by-IsPermutation (λ z. cond (same_job j (job_of z)) 1 0) heap.jobs (k ∷ later.jobs) jobs in
        let first : times j (k ∷ later.jobs) ≡ cond (same_job j (job_of k)) 1 0 + times j later.jobs = sum_by-cons (λ z. cond (same_job j (job_of z)) 1 0) k later.jobs in
        let one : cond {A = ℕ} (same_job j (job_of k)) 1 0 ≡ 1 = ap (λ b. cond b 1 0) is in
        stands j later.jobs (omega (arith, all, moved, parts, leaves, first, one))

    -- and was one of the released
    was_there : (j : JobId) → same_job j (job_of k) ≡ true → has (take next calendar) j ≡ true
    was_there j is =
        let among = heap_released plan c tick calendar next heap ok k (Contains-permutation (k ∷ later.jobs) heap.jobs k (IsPermutation-sym heap.jobs (k ∷ later.jobs) jobs) (0, omega arith, refl)) in
        ap (has (take next calendar)) (same_is j (job_of k) is) ∙ has_of (take next calendar) k among

    pub taken_by_one : (j : JobId) → is_among (without later.jobs (take next calendar)) j ≡ is_among (without heap.jobs (take next calendar)) j || same_job (job_of k) j
    taken_by_one j =
        let before = take next calendar in
        among_without later.jobs before j
        ∙ one_gone (has before j) (same_job j (job_of k)) (has later.jobs j) (was_there j) (gone j)
        ∙ ap (λ b. (has before j && not b) || same_job j (job_of k)) (sym (list_any-IsPermutation (λ z. same_job j (job_of z)) heap.jobs (k ∷ later.jobs) jobs))
        ∙ ap (λ b. b || same_job j (job_of k)) (sym (among_without heap.jobs before j))
        ∙ ap (λ b. is_among (without heap.jobs before) j || b) (same_symm j (job_of k))

-- ---- what a release leaves
pub record Releases (plan : PlanModel) (c : ℕ) (tick : Option ℕ) (calendar : List JobKey) (next : ℕ) (heap : HeapModel) (t after : ℕ) (later : HeapModel) : Type 0 where
  pub ready : AreReady plan c (Some t) calendar after later
  pub taken : without later.jobs (take after calendar) ≡ without heap.jobs (take next calendar)
  pub count : count_by (λ j. has_come (Some t) (release plan j)) (jobs_on plan c) ≡ after
  pub before : count_by (λ j. has_come tick (release plan j)) (jobs_on plan c) ≡ next

-- the calendar being seen as a slice of entries
pub releases : (plan : PlanModel) (c : ℕ) (tick : Option ℕ) (calendar slice : List Entry) (next : ℕ) (heap : HeapModel) (t after : ℕ) (later : HeapModel) → slice ≡ calendar → AreReady plan c tick (entry_keys plan calendar) next heap → ForSome tick (λ before. before ≤ t)
    → next ≤ after → after ≤ length slice → IsPermutation (heap.jobs ++ entry_keys plan (drop next (take after slice))) later.jobs → All (λ e. e.release ≤ t) (drop next (take after slice)) → ((d : Entry) → after < length slice → t < (get_or slice after d).release)
    → later.room ≡ heap.room → later.compared ≤ heap.compared + 13 * (after - next) → Releases plan c tick (entry_keys plan calendar) next heap t after later
releases plan c tick calendar slice next heap t after later value ok no_earlier lower within jobs released next_later room compared =
    let ok' = subst (λ l. AreReady plan c tick (entry_keys plan l) next heap) (sym value) ok in
    let keyed = entry_keys plan slice in
    let fits : after ≤ length keyed = omega (arith, within, keyed_length plan slice) in
    let moved = subst (λ l. IsPermutation (heap.jobs ++ l) later.jobs) (keyed_between plan slice next after) jobs in
    let on = released_on plan c tick keyed next heap ok' t after later no_earlier lower fits moved (keyed_released plan slice next after t released) (keyed_later plan slice after t next_later) room compared in
    subst (λ l. Releases plan c tick (entry_keys plan l) next heap t after later) value (record {
      ready = on;
      taken = without_more plan c tick keyed next heap ok' t after later no_earlier lower fits moved;
      count = released_count plan c (Some t) keyed after later on;
      before = released_count plan c tick keyed next heap ok';
    })

-- ---- before the first release
-- a core has no more jobs than its plan
few_on_core : (plan : PlanModel) (c : ℕ) → IsPlan plan → length (jobs_on plan c) ≤ 8192
few_on_core plan c accepted =
    let count = length-filter (λ j. core_of plan j == c) (jobs plan) in
    let fewer = count_by-le-length (λ j. core_of plan j == c) (jobs plan) in
    omega (arith, count, fewer, accepted.jobs)

pub nothing_released : (plan : PlanModel) (c : ℕ) (calendar : List Entry) (heap : HeapModel) → IsPlan plan → IsPermutation (map (entry plan) (jobs_on plan c)) calendar → IsNonDecreasingBy (λ e. e.release) calendar → heap.jobs ≡ [] → heap.room ≡ length calendar → heap.compared ≡ 0
    → AreReady plan c None (entry_keys plan calendar) 0 heap
nothing_released plan c calendar heap accepted jobs sorted empty room compared =
    let images = length-map (jobs_on plan c) (entry plan) in
    let moved = length_permutation (map (entry plan) (jobs_on plan c)) calendar jobs in
    let same = keyed_length plan calendar in
    let few = few_on_core plan c accepted in
    record {
      accepted = accepted;
      jobs = keyed_all plan calendar c jobs;
      sorted = keyed_sorted plan calendar sorted;
      few = omega (arith, images, moved, few, same);
      room = omega (arith, room, same);
      within = omega arith;
      come = All-nil (λ k. has_come None k.release ≡ true);
      to_come = λ k d h. refl;
      taken = [];
      each = subst (λ l. IsPermutation [] (l ++ [])) (sym empty) (IsPermutation-refl []);
      compared = omega (arith, compared);
    }
