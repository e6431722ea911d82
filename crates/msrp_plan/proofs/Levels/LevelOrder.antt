-- Levels fall as relative deadlines grow.
use Rattle.msrp_plan.specs.Common.{ℕ, Bool, true, false, cond, List, [], map, length, nat_lt, nat_eq, filter, list_any, PlanModel, TaskModel, level_of}
use Rattle.std.proofs.Common.{◌≡◌, ◌≤◌, ◌∷◌, refl, sym, ◌∙◌, subst, arith}
use Rattle.std.proofs.lemmas.Bool.{ltb-true, lt-ltb, eqb-true}
use Rattle.msrp_plan.specs.Levels.{distinct}
use Rattle.msrp_plan.proofs.Lists.Filters.{any_within, all_of}

-- whether a number that passes stands in the list tells the filter
any_kept : (p : ℕ → Bool) (x : ℕ) (xs : List ℕ) → p x ≡ true → list_any (nat_eq x) (filter p xs) ≡ list_any (nat_eq x) xs
any_kept p x xs h = any_within (nat_eq x) p xs (all_of (λ y. nat_eq x y ≡ true → p y ≡ true) (λ y e. subst (λ z. p z ≡ true) (eqb-true x y e) h) xs)

-- a number more in both lists, which stands in both already or in neither
one_both : (x : ℕ) (ms ns : List ℕ) (a b : Bool) → a ≡ b → length ms ≤ length ns → length (cond a ms (x ∷ ms)) ≤ length (cond b ns (x ∷ ns))
one_both x ms ns true true e h = h
one_both x ms ns false false e h = omega (arith, h)
one_both x ms ns true false e h = absurd (cc)
one_both x ms ns false true e h = absurd (cc)

-- a number more in the second
one_more : (x : ℕ) (ms ns : List ℕ) (b : Bool) → length ms ≤ length ns → length ms ≤ length (cond b ns (x ∷ ns))
one_more x ms ns true h = h
one_more x ms ns false h = omega (arith, h)

-- by which test the next number passes
more_distinct_go : (p q : ℕ → Bool) (x : ℕ) (xs : List ℕ) (a b : Bool) → p x ≡ a → q x ≡ b → (a ≡ true → b ≡ true) → length (distinct (filter p xs)) ≤ length (distinct (filter q xs))
    → length (distinct (cond a (x ∷ filter p xs) (filter p xs))) ≤ length (distinct (cond b (x ∷ filter q xs) (filter q xs)))
more_distinct_go p q x xs true true ea eb w h = one_both x (distinct (filter p xs)) (distinct (filter q xs)) (list_any (nat_eq x) (filter p xs)) (list_any (nat_eq x) (filter q xs)) (any_kept p x xs ea ∙ sym (any_kept q x xs eb)) h
more_distinct_go p q x xs false true ea eb w h = one_more x (distinct (filter p xs)) (distinct (filter q xs)) (list_any (nat_eq x) (filter q xs)) h
more_distinct_go p q x xs false false ea eb w h = h
more_distinct_go p q x xs true false ea eb w h = let e = w refl in absurd (cc)

-- a weaker test keeps no fewer distinct numbers
more_distinct : (p q : ℕ → Bool) (xs : List ℕ) → ((x : ℕ) → p x ≡ true → q x ≡ true) → length (distinct (filter p xs)) ≤ length (distinct (filter q xs))
more_distinct p q [] w = omega arith
more_distinct p q (x ∷ xs) w = more_distinct_go p q x xs (p x) (q x) refl refl (w x) (more_distinct p q xs w)

-- a task with no longer relative deadline has no lower level
pub level_falls : (plan : PlanModel) (a b : TaskModel) → b.deadline ≤ a.deadline → level_of plan a ≤ level_of plan b
level_falls plan a b h =
    let k = more_distinct (nat_lt a.deadline) (nat_lt b.deadline) (map (λ (u : TaskModel). u.deadline) plan.tasks) (λ x e. let l = ltb-true a.deadline x e in lt-ltb b.deadline x (omega (arith, l, h))) in
    omega (arith, k)
