-- The least of a list, and where it comes from.
use Rattle.msrp_plan.specs.Common.{Bool, true, false, cond, List, [], Some, filter, AllByRecursion, least}
use Rattle.std.proofs.Common.{◌≡◌, ◌∷◌, subst}
use Rattle.std.specs.List.{best_of}
use Rattle.std.proofs.lemmas.List.Elements.{recursion_from_All, All-from_recursion, All-filter}

-- what holds of all elements holds of those that a filter keeps
pub all_filtered : {X : Type 0} (P : X → Type 0) (p : X → Bool) (xs : List X) → AllByRecursion P xs → AllByRecursion P (filter p xs)
all_filtered P p xs all = recursion_from_All P _ (All-filter p P xs (All-from_recursion P xs all))

-- what holds of two holds of either
either_meets : {X : Type 0} (P : X → Type 0) (b : Bool) (x y : X) → P x → P y → P (cond b x y)
either_meets P true x y px py = px
either_meets P false x y px py = py

-- what holds of all elements holds of the best so far
best_meets : {X : Type 0} (lt : X → X → Bool) (P : X → Type 0) (a : X) (xs : List X) → P a → AllByRecursion P xs → P (best_of lt a xs)
best_meets lt P a [] pa all = pa
best_meets lt P a (x ∷ xs) pa all = best_meets lt P (cond (lt x a) x a) xs (either_meets P (lt x a) x a all.0 pa) all.1

-- what holds of all elements holds of the least
pub least_meets : {X : Type 0} (lt : X → X → Bool) (P : X → Type 0) (xs : List X) (y : X) → AllByRecursion P xs → least lt xs ≡ Some y → P y
least_meets lt P [] y all e = absurd (cc)
least_meets lt P (x ∷ xs) y all e = let h : best_of lt x xs ≡ y = cc in subst P h (best_meets lt P x xs all.0 all.1)
