-- Each job stands once among the jobs of a core.
use Rattle.std.proofs.Common.{◌≡◌, ◌+◌, ◌<◌, ◌≤◌, ◌==◌, ◌&&◌, ◌∷◌, ◌∙◌}
use Rattle.msrp_plan.proofs.Common.{ℕ, zero, suc, nat_eq, Bool, true, false, cond, List, [], length, refl, ap, sym, inl, inr, arith, sum_by, filter, flat_map, range_with_len, cases_Bool, sum_by-cons, sum_by-append, PlanModel, core_of, IsPlan, jobs_of, jobs, jobs_on, same_job, jobs_of_are}
use Rattle.msrp_ready.proofs.Common.{JobId, count_by, count_map, eqb-true, job_at, sum_by-le-sum_by}

-- ---- counts
count-cons : {X : Type 0} (p : X → Bool) (x : X) (xs : List X) → count_by p (x ∷ xs) ≡ cond (p x) 1 0 + count_by p xs
count-cons p x xs = sum_by-cons (λ y. cond (p y) 1 0) x xs

-- of what a filter keeps no more pass than of all
count-filter : {X : Type 0} (p q : X → Bool) (xs : List X) → count_by p (filter q xs) ≤ count_by p xs
count-filter p q [] = omega arith
count-filter p q (x ∷ xs) =
    let all = count-cons p x xs in
    let rest = count-filter p q xs in
    elim (cases_Bool (q x)) [
      | inl kept ↦
          let e : count_by p (filter q (x ∷ xs)) ≡ count_by p (x ∷ filter q xs) = ap (λ b. count_by p (cond b (x ∷ filter q xs) (filter q xs))) kept in
          let more = count-cons p x (filter q xs) in
          omega (arith, e, more, all, rest)
      | inr dropped ↦
          let e : count_by p (filter q (x ∷ xs)) ≡ count_by p (filter q xs) = ap (λ b. count_by p (cond b (x ∷ filter q xs) (filter q xs))) dropped in
          omega (arith, e, all, rest)
    ]

count-flat_map : {X Y : Type 0} (f : X → List Y) (p : Y → Bool) (xs : List X) → count_by p (flat_map f xs) ≡ sum_by (λ x. count_by p (f x)) xs
count-flat_map f p [] = refl
count-flat_map f p (x ∷ xs) =
    sum_by-append (λ y. cond (p y) 1 0) (f x) (flat_map f xs) ∙ ap (λ n. count_by p (f x) + n) (count-flat_map f p xs) ∙ sym (sum_by-cons (λ y. count_by p (f y)) x xs)

-- ---- a number stands once in a range
not_yet : (d a n : ℕ) → d < a → count_by (nat_eq d) (range_with_len a n) ≡ 0
not_yet d a zero below = refl
not_yet d a (suc n) below =
    let other : nat_eq d a ≡ false = grind arith in
    count-cons (nat_eq d) a (range_with_len (a + 1) n) ∙ ap (λ b. cond b 1 0 + count_by (nat_eq d) (range_with_len (a + 1) n)) other ∙ ap (λ m. 0 + m) (not_yet d (a + 1) n (omega arith))

once_in : (d a n : ℕ) → count_by (nat_eq d) (range_with_len a n) ≤ 1
once_in d a zero = omega arith
once_in d a (suc n) =
    let all = count-cons (nat_eq d) a (range_with_len (a + 1) n) in
    elim (cases_Bool (nat_eq d a)) [
      | inl here ↦
          let one : cond {A = ℕ} (nat_eq d a) 1 0 ≡ 1 = ap (λ b. cond b 1 0) here in
          let same = eqb-true d a here in
          let none = not_yet d (a + 1) n (omega (arith, same)) in
          omega (arith, all, one, none)
      | inr other ↦
          let zero' : cond {A = ℕ} (nat_eq d a) 1 0 ≡ 0 = ap (λ b. cond b 1 0) other in
          let rest = once_in d (a + 1) n in
          omega (arith, all, zero', rest)
    ]

-- ---- a job stands once among the jobs of its task, and not among those of another
none_pass : {X : Type 0} (xs : List X) → count_by (λ (x : X). false) xs ≡ 0
none_pass [] = refl
none_pass (x ∷ xs) = count-cons (λ _. false) x xs ∙ ap (λ n. 0 + n) (none_pass xs)

among_task : (d : ℕ) (ks : List ℕ) (b : Bool) → count_by (nat_eq d) ks ≤ 1 → count_by (λ k. b && nat_eq d k) ks ≤ cond b 1 0
among_task d ks true once = once
among_task d ks false once = omega (arith, none_pass ks)

once_of_task : (plan : PlanModel) → IsPlan plan → (j : JobId) (t : ℕ) → count_by (same_job j) (jobs_of plan t) ≤ cond (nat_eq j.task.0 t) 1 0
once_of_task plan accepted j t =
    let ks = range_with_len 0 (length (jobs_of plan t)) in
    let e : count_by (same_job j) (jobs_of plan t) ≡ count_by (λ k. same_job j (job_at t k)) ks = ap (count_by (same_job j)) (jobs_of_are plan accepted t) ∙ count_map (job_at t) (same_job j) ks in
    let few = among_task j.k ks (nat_eq j.task.0 t) (once_in j.k 0 (length (jobs_of plan t))) in
    omega (arith, e, few)

-- so each stands once among the jobs of a core
pub once_on : (plan : PlanModel) → IsPlan plan → (c : ℕ) (j : JobId) → count_by (same_job j) (jobs_on plan c) ≤ 1
once_on plan accepted c j =
    let ts = range_with_len 0 (length plan.tasks) in
    let all = count-flat_map (jobs_of plan) (same_job j) ts in
    let fewer = sum_by-le-sum_by (λ t. count_by (same_job j) (jobs_of plan t)) (λ t. cond (nat_eq j.task.0 t) 1 0) ts (once_of_task plan accepted j) in
    let one = once_in j.task.0 0 (length plan.tasks) in
    let kept = count-filter (same_job j) (λ i. core_of plan i == c) (jobs plan) in
    omega (arith, all, fewer, one, kept)
