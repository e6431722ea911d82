-- The distinct deadlines of a plan, gathered from its last task back.
use Rattle.std.proofs.Common.{◌≡◌, ◌+◌, ◌<◌, ◌||◌, ◌∷◌, ◌++◌, ◌∙◌}
use Rattle.msrp_plan.proofs.Common.{ℕ, Bool, true, false, cond, nat_eq, nat_lt, List, [], map, drop, refl, ap, sym, subst, inl, inr, arith, length, count_by, eqb-true, filter, list_any, cases_Bool, nat_tests, drop_more, length-map, get_or-map, length-filter, sum_by-append, PlanModel, TaskModel, no_task, task_at, level_of, any_push, all_of}
use Rattle.msrp_plan.specs.Levels.{distinct}
use Rattle.msrp_plan.proofs.Lists.Filters.{any_within}

-- by whether the first number passes, and whether it comes again
filter_cases : (p : ℕ → Bool) (x : ℕ) (xs ys : List ℕ) (passes again : Bool) → p x ≡ passes → list_any (nat_eq x) xs ≡ again → (p x ≡ true → list_any (nat_eq x) (filter p xs) ≡ again) → filter p ys ≡ distinct (filter p xs)
    → filter p (cond again ys (x ∷ ys)) ≡ distinct (cond passes (x ∷ filter p xs) (filter p xs))
filter_cases p x xs ys true true e any kept rest = rest ∙ sym (ap (λ b. cond b (distinct (filter p xs)) (x ∷ distinct (filter p xs))) (kept e))
filter_cases p x xs ys true false e any kept rest =
    ap (λ b. cond b (x ∷ filter p ys) (filter p ys)) e ∙ (ap (λ zs. x ∷ zs) rest ∙ sym (ap (λ b. cond b (distinct (filter p xs)) (x ∷ distinct (filter p xs))) (kept e)))
filter_cases p x xs ys false true e any kept rest = rest
filter_cases p x xs ys false false e any kept rest = ap (λ b. cond b (x ∷ filter p ys) (filter p ys)) e ∙ rest

-- a filter of distinct numbers is the distinct ones of a filter
filter-distinct : (p : ℕ → Bool) (xs : List ℕ) → filter p (distinct xs) ≡ distinct (filter p xs)
filter-distinct p [] = refl
filter-distinct p (x ∷ xs) = filter_cases p x xs (distinct xs) (p x) (list_any (nat_eq x) xs) refl refl
    (λ passes. any_within (nat_eq x) p xs (all_of (λ y. nat_eq x y ≡ true → p y ≡ true) (λ y same. ap p (sym (eqb-true x y same)) ∙ passes) xs))
    (filter-distinct p xs)

abbrev pub deadlines : PlanModel → List ℕ
deadlines plan = map (λ u. u.deadline) plan.tasks

-- the numbers found are the distinct deadlines of the tasks from the n-th on
pub record AreDistinctFrom (plan : PlanModel) (n : ℕ) (found : List ℕ) : Type 0 where
  pub counts : (p : ℕ → Bool) → count_by p found ≡ count_by p (distinct (drop n (deadlines plan)))
  pub members : (x : ℕ) → list_any (λ y. nat_eq y x) found ≡ list_any (nat_eq x) (drop n (deadlines plan))

-- the tasks from the n-th on begin with the n-th
first_deadline : (plan : PlanModel) (n : ℕ) → n < length plan.tasks → drop n (deadlines plan) ≡ (task_at plan n).deadline ∷ drop (n + 1) (deadlines plan)
first_deadline plan n within =
    let size = length-map plan.tasks (λ (u : TaskModel). u.deadline) in
    drop_more (deadlines plan) n 0 (omega (arith, size, within)) ∙ ap (λ d. d ∷ drop (n + 1) (deadlines plan)) (get_or-map (λ (u : TaskModel). u.deadline) plan.tasks n no_task 0 within)

-- equality is tested either way round
nat_eq_sym : (a b : ℕ) → nat_eq a b ≡ nat_eq b a
nat_eq_sym a b = grind (arith, nat_tests)

-- one that comes again adds nothing
pub distinct_again : (plan : PlanModel) (n m d : ℕ) (found : List ℕ) → m ≡ n + 1 → n < length plan.tasks → d ≡ (task_at plan n).deadline → list_any (λ y. nat_eq y d) found ≡ true → AreDistinctFrom plan m found → AreDistinctFrom plan n found
distinct_again plan n m d found next within is again before =
    let h : AreDistinctFrom plan (n + 1) found = subst (λ k. AreDistinctFrom plan k found) next before in
    let rest = drop (n + 1) (deadlines plan) in
    let first : drop n (deadlines plan) ≡ d ∷ rest = first_deadline plan n within ∙ ap (λ e. e ∷ rest) (sym is) in
    let any : list_any (nat_eq d) rest ≡ true = sym (h.members d) ∙ again in
    record {
      counts = λ p. h.counts p ∙ sym (ap (λ ds. count_by p (distinct ds)) first ∙ ap (λ b. count_by p (cond b (distinct rest) (d ∷ distinct rest))) any);
      members = λ x. h.members x ∙ sym (ap (list_any (nat_eq x)) first ∙ again_any x d rest any);
    }
  where
    again_any : (x d : ℕ) (rest : List ℕ) → list_any (nat_eq d) rest ≡ true → (nat_eq x d || list_any (nat_eq x) rest) ≡ list_any (nat_eq x) rest
    again_any x d rest any = elim (cases_Bool (nat_eq x d)) [
      | inl same ↦ let e : x ≡ d = eqb-true x d same in ap (λ b. b || list_any (nat_eq x) rest) same ∙ sym (ap (λ k. list_any (nat_eq k) rest) e ∙ any)
      | inr other ↦ ap (λ b. b || list_any (nat_eq x) rest) other
    ]

-- one that comes for the last time is added
pub distinct_push : (plan : PlanModel) (n m d : ℕ) (found : List ℕ) → m ≡ n + 1 → n < length plan.tasks → d ≡ (task_at plan n).deadline → list_any (λ y. nat_eq y d) found ≡ false → AreDistinctFrom plan m found → AreDistinctFrom plan n (found ++ d ∷ [])
distinct_push plan n m d found next within is new before =
    let h : AreDistinctFrom plan (n + 1) found = subst (λ k. AreDistinctFrom plan k found) next before in
    let rest = drop (n + 1) (deadlines plan) in
    let first : drop n (deadlines plan) ≡ d ∷ rest = first_deadline plan n within ∙ ap (λ e. e ∷ rest) (sym is) in
    let any : list_any (nat_eq d) rest ≡ false = sym (h.members d) ∙ new in
    record {
      counts = λ p.
          let pushed : count_by p (found ++ d ∷ []) ≡ count_by p found + count_by p (d ∷ []) = sum_by-append (λ x. cond (p x) 1 0) found (d ∷ []) in
          let whole : count_by p (distinct (drop n (deadlines plan))) ≡ count_by p (d ∷ distinct rest) = ap (λ ds. count_by p (distinct ds)) first ∙ ap (λ b. count_by p (cond b (distinct rest) (d ∷ distinct rest))) any in
          let split : count_by p (d ∷ distinct rest) ≡ count_by p (d ∷ []) + count_by p (distinct rest) = sum_by-append (λ x. cond (p x) 1 0) (d ∷ []) (distinct rest) in
          omega (arith, pushed, whole, split, h.counts p);
      members = λ x. any_push (λ y. nat_eq y x) found d ∙ (ap (λ b. b || nat_eq d x) (h.members x) ∙ (either x d rest ∙ sym (ap (list_any (nat_eq x)) first)));
    }
  where
    either : (x d : ℕ) (rest : List ℕ) → (list_any (nat_eq x) rest || nat_eq d x) ≡ (nat_eq x d || list_any (nat_eq x) rest)
    either x d rest = ap (λ b. list_any (nat_eq x) rest || b) (nat_eq_sym d x) ∙ swap (list_any (nat_eq x) rest) (nat_eq x d)
      where
        swap : (a b : Bool) → (a || b) ≡ (b || a)
        swap true true = refl
        swap true false = refl
        swap false true = refl
        swap false false = refl

-- with those of all tasks, the level of a task is one more than how many are longer
pub distinct_levels : (plan : PlanModel) (n : ℕ) (found : List ℕ) → n ≡ 0 → AreDistinctFrom plan n found → (task : TaskModel) → count_by (nat_lt task.deadline) found + 1 ≡ level_of plan task
distinct_levels plan n found e h task =
    let p = nat_lt task.deadline in
    let a : count_by p found ≡ count_by p (distinct (deadlines plan)) = h.counts p ∙ ap (λ k. count_by p (distinct (drop k (deadlines plan)))) e in
    ap (λ k. k + 1) (a ∙ (sym (length-filter p (distinct (deadlines plan))) ∙ ap length (filter-distinct p (deadlines plan))))
