-- Which resources are global: those whose users are apart, and none that isn't declared; and their
-- marks.
use Rattle.msrp_plan.specs.Common.{ℕ, zero, suc, Bool, true, false, not, List, [], length, map, set, replicate, Some, Global, String, list_any, values_of, PlanModel, TaskModel, task_at, no_task, is_lock_of, uses, is_global}
use Rattle.msrp_plan.specs.declared.ids.ResId.{ResId}
use Rattle.msrp_plan.specs.declared.tasks.Task.{Task}
use Rattle.msrp_plan.specs.declared.units.Op.{Op}
use Rattle.std.proofs.Common.{◌≡◌, ◌+◌, ◌<◌, ◌≤◌, ◌==◌, ◌&&◌, ◌||◌, ◌∷◌, refl, ap, sym, ◌∙◌, inl, inr, arith}
use Rattle.std.specs.List.{slice_get}
use Rattle.std.proofs.lemmas.Bool.{cases_Bool, cases_eq, cases_lt, and_parts, eqb-true, true≢false, false_from_ne_true}
use Rattle.std.proofs.lemmas.List.{length-set, length-replicate, get_or-set_same, get_or-set_other}
use Rattle.std.proofs.lemmas.Option.{none-some, same_Some, slice_get_within, get_or_from_slice_get}
use Rattle.msrp_plan.specs.WellFormed.{IsDraft}
use Rattle.msrp_plan.specs.Inside.Marks.{AreGlobals, is_marked}
use Rattle.msrp_plan.specs.Inside.Tasks.{task_view}
use Rattle.msrp_plan.specs.declared.units.Op.TheVariants.{Run, Lock, Unlock}

module _ {X : Type 0} (p : X → Bool) where
  -- the place of an element that passes
  pub passing_place : (xs : List X) → list_any p xs ≡ true → (n : ℕ) × (x : X) × (slice_get xs n ≡ Some x) × (p x ≡ true)
  passing_place [] e = absurd (true≢false (sym e))
  passing_place (x ∷ xs) e = elim (cases_Bool (p x)) [
    | inl hit ↦ (zero, x, refl, hit)
    | inr miss ↦ let rest = passing_place xs (sym (ap (λ b. b || list_any p xs) miss) ∙ e) in (suc rest.0, rest.1, rest.2, rest.3)
  ]

  -- an element at a place that passes
  pub passes_there : (xs : List X) (n : ℕ) (x : X) → slice_get xs n ≡ Some x → p x ≡ true → list_any p xs ≡ true
  passes_there [] n x at hit = absurd (none-some x at)
  passes_there (y ∷ xs) zero x at hit = ap (λ b. b || list_any p xs) (ap p (same_Some y x at) ∙ hit)
  passes_there (y ∷ xs) (suc n) x at hit = let rest = passes_there xs n x at hit in grind arith

-- ---- whether two elements that pass are apart
module _ {X : Type 0} (p : X → Bool) (place : X → ℕ) where
  -- both pass, and they are apart
  abbrev pub apart : X → X → Bool
  apart a b = p a && (p b && not (place a == place b))

-- a test of some task, as it is stored
any_stored : (p : TaskModel → Bool) (q : Task → Bool) → ((e : String Global × Task) → p (task_view e) ≡ q e.1) → (es : List (String Global × Task)) → list_any p (map task_view es) ≡ list_any q (values_of es)
any_stored p q same [] = refl
any_stored p q same (e ∷ es) = ap (λ b. b || list_any p (map task_view es)) (same e) ∙ ap (λ b. q e.1 || b) (any_stored p q same es)

-- the stored task uses the resource
abbrev pub uses_stored : ℕ → Task → Bool
uses_stored g task = list_any (is_lock_of g) task.units.items

-- a resource is global as the stored tasks say
pub global_stored : (plan : PlanModel) (es : List (String Global × Task)) (g : ℕ) → plan.tasks ≡ map task_view es
    → is_global plan g ≡ list_any (λ a. list_any (apart (uses_stored g) (λ task. task.core.0) a) (values_of es)) (values_of es)
global_stored plan es g same =
    ap (λ (tasks : List TaskModel). list_any (λ a. list_any (λ b. uses g a && (uses g b && not (a.core == b.core))) tasks) tasks) same
    ∙ any_stored (λ a. list_any (λ b. uses g a && (uses g b && not (a.core == b.core))) (map task_view es)) (λ a. list_any (apart (uses_stored g) (λ task. task.core.0) a) (values_of es))
    (λ e. any_stored (λ b. uses g (task_view e) && (uses g b && not ((task_view e).core == b.core))) (apart (uses_stored g) (λ task. task.core.0) e.1) (λ f. refl) es) es

-- a unit that locks a resource names it
lock_names : (g : ℕ) (u : Op) → is_lock_of g u ≡ true → (r : ResId) × (u ≡ Lock r) × (r.0 ≡ g)
lock_names g Run e = absurd (true≢false (sym e))
lock_names g (Lock r) e = (r, refl, eqb-true r.0 g e)
lock_names g (Unlock r) e = absurd (true≢false (sym e))

-- a resource that isn't declared is local
pub undeclared_local : (plan : PlanModel) (g : ℕ) → IsDraft plan → length plan.resources ≤ g → is_global plan g ≡ false
undeclared_local plan g h past = false_from_ne_true (is_global plan g) (λ e.
    let user = passing_place (λ a. list_any (λ b. uses g a && (uses g b && not (a.core == b.core))) plan.tasks) plan.tasks e in
    let other = passing_place (λ b. uses g user.1 && (uses g b && not (user.1.core == b.core))) plan.tasks user.3 in
    let used = and_parts (uses g user.1) (uses g other.1 && not (user.1.core == other.1.core)) other.3 in
    let unit = passing_place (is_lock_of g) user.1.units used.0 in
    let named = lock_names g unit.1 unit.3 in
    let within : user.0 < length plan.tasks = slice_get_within plan.tasks user.0 user.1 user.2 in
    let same : task_at plan user.0 ≡ user.1 = get_or_from_slice_get plan.tasks user.0 user.1 no_task user.2 in
    let at : slice_get (task_at plan user.0).units unit.0 ≡ Some (Lock named.0) = ap (λ (t : TaskModel). slice_get t.units unit.0) same ∙ unit.2 ∙ ap Some named.1 in
    let known : named.0.0 < length plan.resources = (h.locking user.0 within).declared unit.0 named.0 at in
    omega (arith, known, named.2, past))

-- the first marks are those of the global resources, and no other is set
pub record IsMarkedTo (plan : PlanModel) (marks : List Bool) (n : ℕ) : Type 0 where
  pub size : length marks ≡ 32
  pub known : (g : ℕ) → g < n → is_marked marks g ≡ is_global plan g
  pub rest : (g : ℕ) → n ≤ g → is_marked marks g ≡ false

-- one mark more
pub marked_more : (plan : PlanModel) (marks : List Bool) (n : ℕ) (b : Bool) → n < 32 → b ≡ is_global plan n → IsMarkedTo plan marks n → IsMarkedTo plan (set marks n b) (n + 1)
marked_more plan marks n b within is h = record {
  size = length-set marks n b ∙ h.size;
  known = λ g past. elim (cases_eq g n) [
    | inl here ↦ ap (λ k. is_marked (set marks n b) k) here ∙ get_or-set_same marks n b false (omega (arith, within, h.size)) ∙ is ∙ ap (is_global plan) (sym here)
    | inr other ↦ get_or-set_other marks n g b false other ∙ h.known g (omega (arith, past, other))
  ];
  rest = λ g past. get_or-set_other marks n g b false (λ e. omega (arith, past, e)) ∙ h.rest g (omega (arith, past));
}

-- all marks of a draft
pub marked_all : (plan : PlanModel) (marks : List Bool) (n : ℕ) → IsDraft plan → length plan.resources ≤ n → IsMarkedTo plan marks n → AreGlobals plan marks
marked_all plan marks n draft all h = λ g. elim (cases_lt g n) [
  | inl within ↦ h.known g within
  | inr past ↦ h.rest g past ∙ sym (undeclared_local plan g draft (omega (arith, all, past)))
]

-- no marks
none_marked : (n g : ℕ) → is_marked (replicate n false) g ≡ false
none_marked zero g = refl
none_marked (suc n) zero = refl
none_marked (suc n) (suc g) = none_marked n g

pub marked_none : (plan : PlanModel) → IsMarkedTo plan (replicate 32 false) 0
marked_none plan = record { size = length-replicate 32 false; known = λ g past. absurd (omega (arith, past)); rest = λ g past. none_marked 32 g }
