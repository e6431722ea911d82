-- On which cores a resource is used: as the users are noted one by one, and whether it is global
-- then.
use Rattle.msrp_plan.specs.Common.{ℕ, Bool, true, false, not, List, [], length, map, set, take, get_or, replicate, Some, Global, String, list_any, values_of, is_lock_of, is_global, PlanModel}
use Rattle.msrp_plan.specs.declared.ids.ResId.{ResId}
use Rattle.msrp_plan.specs.declared.tasks.Task.{Task}
use Rattle.msrp_plan.specs.declared.units.Op.{Op}
use Rattle.std.proofs.Common.{◌≡◌, ◌+◌, ◌<◌, ◌==◌, ◌&&◌, ◌||◌, ◌∷◌, ◌++◌, refl, ap, sym, ◌∙◌, subst, inl, inr, arith, eq-eqb}
use Rattle.std.specs.List.{slice_get}
use Rattle.std.proofs.Math.Bool.{or-false, or_assoc}
use Rattle.std.proofs.lemmas.Bool.{cases_eq, and_from, and_parts, eqb-true, false_from_ne_true, true≢false}
use Rattle.std.proofs.lemmas.Bool.Decides.{nat_tests}
use Rattle.std.proofs.lemmas.List.{get_or-replicate, get_or-set_same, get_or-set_other}
use Rattle.std.proofs.lemmas.List.Folds.{list_any_more}
use Rattle.msrp_plan.specs.Inside.Tasks.{task_view}
use Rattle.msrp_plan.specs.Inside.Users.{AreOn, EachIsOn, are_on_two, is_used_on, is_user_on}
use Rattle.msrp_plan.specs.declared.units.Op.TheVariants.{Run, Lock, Unlock}
use Rattle.msrp_plan.specs.declared.users.Users.{Users}
use Rattle.msrp_plan.specs.declared.users.Users.TheVariants.{Nobody, OneCore, Cores}
use Rattle.msrp_plan.proofs.Levels.GlobalUse.{apart, global_stored, passes_there, passing_place, uses_stored}

-- the same cores, told in another way
on_same : (on other : ℕ → Bool) → ((c : ℕ) → on c ≡ other c) → (users : Users) → AreOn on users → AreOn other users
on_same on other same Nobody h = λ c. sym (same c) ∙ h c
on_same on other same (OneCore only) h = λ c. sym (same c) ∙ h c
on_same on other same Cores h = (h.0, h.1, sym (same h.0) ∙ h.2, sym (same h.1) ∙ h.3, h.4)

pub each_same : (on other : ℕ → ℕ → Bool) → ((g c : ℕ) → on g c ≡ other g c) → (users : List Users) → EachIsOn on users → EachIsOn other users
each_same on other same users h = λ g within. on_same (on g) (other g) (same g) (get_or users g Nobody) (h g within)

-- a user of the resource r is none of another
of_another : (a : Bool) (r g core c : ℕ) → (g ≡ r → ⊥) → a ≡ (a || ((r == g) && (core == c)))
of_another a r g core c other = grind (arith, nat_tests)

-- one user more of the resource r
pub user_more : (on : ℕ → ℕ → Bool) (users : List Users) (r core : ℕ) (more : Users) → r < length users
    → AreOn (λ c. on r c || (core == c)) more → EachIsOn on users → EachIsOn (λ g c. on g c || ((r == g) && (core == c))) (set users r more)
user_more on users r core more room with h = λ g within. elim (cases_eq g r) [
  | inl here ↦
      let same : (c : ℕ) → (on r c || (core == c)) ≡ (on g c || ((r == g) && (core == c))) =
      λ c. ap (λ k. on k c || (core == c)) (sym here) ∙ ap (λ b. on g c || (b && (core == c))) (sym (eq-eqb r g (sym here))) in
      subst (λ (u : Users). AreOn (λ c. on g c || ((r == g) && (core == c))) u) (sym (ap (λ k. get_or (set users r more) k Nobody) here ∙ get_or-set_same users r more Nobody room))
      (on_same (λ c. on r c || (core == c)) (λ c. on g c || ((r == g) && (core == c))) same more with)
  | inr other ↦
      subst (λ (u : Users). AreOn (λ c. on g c || ((r == g) && (core == c))) u) (sym (get_or-set_other users r g more Nobody other))
      (on_same (on g) (λ c. on g c || ((r == g) && (core == c))) (λ c. of_another (on g c) r g core c other) (get_or users g Nobody) (h g within))
]

-- the units of a task on a core, noted after the others
abbrev pub with_units : (ℕ → ℕ → Bool) → List Op → ℕ → ℕ → ℕ → Bool
with_units on us core g c = on g c || (list_any (is_lock_of g) us && (core == c))

joined : (a p s q : Bool) → ((a || (p && q)) || (s && q)) ≡ (a || ((p || s) && q))
joined a p s q = grind arith

-- one unit more, which locks a resource
pub lock_more : (on : ℕ → ℕ → Bool) (us : List Op) (i core : ℕ) (d : Op) (r : ResId) → i < length us → get_or us i d ≡ Lock r
    → (g c : ℕ) → (with_units on (take i us) core g c || ((r.0 == g) && (core == c))) ≡ with_units on (take (i + 1) us) core g c
lock_more on us i core d r within is g c =
    joined (on g c) (list_any (is_lock_of g) (take i us)) (r.0 == g) (core == c)
    ∙ ap (λ s. on g c || (s && (core == c))) (sym (list_any_more (is_lock_of g) us i d within ∙ ap (λ u. list_any (is_lock_of g) (take i us) || is_lock_of g u) is))

-- and one that doesn't
no_lock : (g : ℕ) (u : Op) → ((r : ResId) → u ≡ Lock r → ⊥) → is_lock_of g u ≡ false
no_lock g Run other = refl
no_lock g (Lock r) other = absurd (other r refl)
no_lock g (Unlock r) other = refl

pub other_more : (on : ℕ → ℕ → Bool) (us : List Op) (i core : ℕ) (d : Op) → i < length us → ((r : ResId) → get_or us i d ≡ Lock r → ⊥)
    → (g c : ℕ) → with_units on (take i us) core g c ≡ with_units on (take (i + 1) us) core g c
other_more on us i core d within other g c =
    ap (λ s. on g c || (s && (core == c)))
    (sym (list_any_more (is_lock_of g) us i d within ∙ ap (λ b. list_any (is_lock_of g) (take i us) || b) (no_lock g (get_or us i d) other) ∙ or-false (list_any (is_lock_of g) (take i us))))

-- nothing is noted before the first task
pub each_none : EachIsOn (is_used_on []) (replicate 32 Nobody)
each_none = λ g within. subst (AreOn (is_used_on [] g)) (sym (get_or-replicate 32 g Nobody Nobody within)) (λ c. refl)

-- one task more
pub task_more : {A : Type 0} (shows : A → Task) (xs : List A) (x : A) (g c : ℕ) → (is_used_on (map shows xs) g c || is_user_on g c (shows x)) ≡ is_used_on (map shows (xs ++ x ∷ [])) g c
task_more shows [] x g c = sym (or-false (is_user_on g c (shows x)))
task_more shows (y ∷ ys) x g c = or_assoc (is_user_on g c (shows y)) (is_used_on (map shows ys) g c) (is_user_on g c (shows x)) ∙ ap (λ b. is_user_on g c (shows y) || b) (task_more shows ys x g c)

-- ---- whether tasks of two cores use it
module _ {X : Type 0} (p : X → Bool) (place : X → ℕ) where
  -- one that passes is at the place
  abbrev at_place : ℕ → X → Bool
  at_place c x = p x && (place x == c)

  -- the place of one that passes has one
  has_place : (xs : List X) (n : ℕ) (x : X) → slice_get xs n ≡ Some x → p x ≡ true → list_any (at_place (place x)) xs ≡ true
  has_place xs n x at hit = passes_there (at_place (place x)) xs n x at (and_from (p x) (place x == place x) hit (eq-eqb (place x) (place x) refl))

  -- two that are apart are at two places
  two_places : (xs : List X) → list_any (λ a. list_any (apart p place a) xs) xs ≡ true
      → (c : ℕ) × (d : ℕ) × (list_any (at_place c) xs ≡ true) × (list_any (at_place d) xs ≡ true) × ((c == d) ≡ false)
  two_places xs e =
      let first = passing_place (λ a. list_any (apart p place a) xs) xs e in
      let other = passing_place (apart p place first.1) xs first.3 in
      let both = and_parts (p first.1) (p other.1 && not (place first.1 == place other.1)) other.3 in
      let rest = and_parts (p other.1) (not (place first.1 == place other.1)) both.1 in
      (place first.1, place other.1, has_place xs first.0 first.1 first.2 both.0, has_place xs other.0 other.1 other.2 rest.0, grind (arith, nat_tests))

  -- and the other way round
  from_places : (xs : List X) (c d : ℕ) → list_any (at_place c) xs ≡ true → list_any (at_place d) xs ≡ true → (c == d) ≡ false → list_any (λ a. list_any (apart p place a) xs) xs ≡ true
  from_places xs c d atc atd ne =
      let first = passing_place (at_place c) xs atc in
      let other = passing_place (at_place d) xs atd in
      let one = and_parts (p first.1) (place first.1 == c) first.3 in
      let two = and_parts (p other.1) (place other.1 == d) other.3 in
      passes_there (λ a. list_any (apart p place a) xs) xs first.0 first.1 first.2
      (passes_there (apart p place first.1) xs other.0 other.1 other.2
      (and_from (p first.1) (p other.1 && not (place first.1 == place other.1)) one.0
      (and_from (p other.1) (not (place first.1 == place other.1)) two.0 (grind (arith, nat_tests)))))

  -- what is noted of the places says whether some are apart
  two_noted : (xs : List X) (users : Users) → AreOn (λ c. list_any (at_place c) xs) users → are_on_two users ≡ list_any (λ a. list_any (apart p place a) xs) xs
  two_noted xs Nobody h = sym (false_from_ne_true (list_any (λ a. list_any (apart p place a) xs) xs) (λ e. let two = two_places xs e in true≢false (sym two.2 ∙ h two.0)))
  two_noted xs (OneCore only) h = sym (false_from_ne_true (list_any (λ a. list_any (apart p place a) xs) xs) (λ e.
      let two = two_places xs e in
      let one : (only.0 == two.0) ≡ true = sym (h two.0) ∙ two.2 in
      let other : (only.0 == two.1) ≡ true = sym (h two.1) ∙ two.3 in
      let ne : (two.0 == two.1) ≡ false = two.4 in
      true≢false (sym (eq-eqb two.0 two.1 (sym (eqb-true only.0 two.0 one) ∙ eqb-true only.0 two.1 other)) ∙ ne)))
  two_noted xs Cores h = sym (from_places xs h.0 h.1 h.2 h.3 h.4)

-- a resource of a plan is global where its users are noted on two cores
pub global_noted : (plan : PlanModel) (es : List (String Global × Task)) (g : ℕ) (users : Users) → plan.tasks ≡ map task_view es → AreOn (is_used_on (values_of es) g) users → are_on_two users ≡ is_global plan g
global_noted plan es g users same h = two_noted (uses_stored g) (λ task. task.core.0) (values_of es) users h ∙ sym (global_stored plan es g same)
