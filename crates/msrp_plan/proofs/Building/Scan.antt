-- The scan of a task's units for a global resource that is locked while a global one is held.
use Rattle.msrp_plan.specs.Common.{ℕ, nat_eq, nat_lt, Bool, true, false, cond, not, List, [], length, take, get_or, Option, Some, None, list_any, range_with_len, PlanModel, held_after, held_with, is_global, IsNestedAt, nests_global}
use Rattle.msrp_plan.specs.declared.ids.ResId.{ResId}
use Rattle.msrp_plan.specs.declared.units.Op.{Op}
use Rattle.std.proofs.Common.{◌≡◌, ◌+◌, ◌<◌, ◌≤◌, ◌==◌, ◌++◌, ◌&&◌, ◌||◌, ◌∷◌, refl, ap, sym, ◌∙◌, subst, inl, inr, arith}
use Rattle.std.specs.List.{count_by, slice_get}
use Rattle.std.proofs.lemmas.Bool.{cases_Bool, or_from, eqb-true, true≢false, lt-ltb}
use Rattle.std.proofs.lemmas.List.{take_more}
use Rattle.std.proofs.lemmas.List.Sums.{sum_by-cons}
use Rattle.std.proofs.lemmas.Option.{none-some, same_Some, slice_get_within, get_or_from_slice_get, slice_get-get_or}
use Rattle.msrp_plan.specs.Building.{holds_global, is_global_lock}
use Rattle.msrp_plan.specs.Inside.Marks.{AreGlobals, holds_one_after, is_marked, locks_one}
use Rattle.msrp_plan.specs.declared.units.Op.TheVariants.{Run, Lock, Unlock}
use Rattle.msrp_plan.proofs.TaskUnits.Nesting.{held_push}
use Rattle.msrp_plan.proofs.Lists.AnyAll.{any_in, any_push, in_range}
use Rattle.msrp_plan.proofs.Lists.Ranges.{range_more}

-- how many global resources are held
abbrev pub globals_held : PlanModel → Option (List ℕ) → ℕ
globals_held plan None = 0
globals_held plan (Some held) = count_by (is_global plan) held

-- one is held where some of what is held is global
any_counted : {X : Type 0} (p : X → Bool) (xs : List X) → list_any p xs ≡ nat_lt 0 (count_by p xs)
any_counted p [] = refl
any_counted p (x ∷ xs) =
    let more : count_by p (x ∷ xs) ≡ cond (p x) 1 0 + count_by p xs = sum_by-cons (λ y. cond (p y) 1 0) x xs in
    let rest = any_counted p xs in
    elim (cases_Bool (p x)) [
      | inl hit ↦
          let one : cond {A = ℕ} (p x) 1 0 ≡ 1 = ap (λ b. cond b 1 0) hit in
          ap (λ b. b || list_any p xs) hit ∙ sym (lt-ltb 0 (count_by p (x ∷ xs)) (omega (arith, more, one)))
      | inr miss ↦
          let none : cond {A = ℕ} (p x) 1 0 ≡ 0 = ap (λ b. cond b 1 0) miss in
          let same : count_by p (x ∷ xs) ≡ count_by p xs = omega (arith, more, none) in
          ap (λ b. b || list_any p xs) miss ∙ rest ∙ sym (ap (λ n. nat_lt 0 n) same)
    ]

-- ---- one unit more, where at most one global resource is held at once
abbrev pub one : Bool → ℕ
one b = cond b 1 0

added : (g h : Bool) → g && h ≡ false → one g + one h ≡ one (h || g)
added true true e = absurd (true≢false e)
added true false e = refl
added false true e = refl
added false false e = refl

removed : (g h : Bool) (n : ℕ) → one g + n ≡ one h → n ≡ one (h && not g)
removed true true n e = omega (arith, e)
removed true false n e = absurd (omega (arith, e))
removed false true n e = omega (arith, e)
removed false false n e = omega (arith, e)

locked_count : (p : ℕ → Bool) (r : ResId) (held next : List ℕ) (b : Bool) → list_any (nat_eq r.0) held ≡ b → cond b None (Some (r.0 ∷ held)) ≡ Some next → count_by p next ≡ one (p r.0) + count_by p held
locked_count p r held next true is e = absurd (none-some next e)
locked_count p r held next false is e = ap (count_by p) (sym (same_Some (r.0 ∷ held) next e)) ∙ sum_by-cons (λ g. one (p g)) r.0 held

unlocked_count : (p : ℕ → Bool) (r : ResId) (h : ℕ) (held next : List ℕ) (b : Bool) → r.0 == h ≡ b → cond b (Some held) None ≡ Some next → one (p r.0) + count_by p next ≡ count_by p (h ∷ held)
unlocked_count p r h held next false is e = absurd (none-some next e)
unlocked_count p r h held next true is e =
    ap (λ g. one (p g) + count_by p next) (eqb-true r.0 h is) ∙ ap (λ hs. one (p h) + count_by p hs) (sym (same_Some held next e)) ∙ sym (sum_by-cons (λ g. one (p g)) h held)

step : (plan : PlanModel) (marks : List Bool) (holding : Bool) (u : Op) (held next : List ℕ) → AreGlobals plan marks → held_with held u ≡ Some next → locks_one marks u && holding ≡ false
    → count_by (is_global plan) held ≡ one holding → count_by (is_global plan) next ≡ one (holds_one_after marks holding u)
step plan marks holding Run held next globals e flat count = ap (count_by (is_global plan)) (sym (same_Some held next e)) ∙ count
step plan marks holding (Lock r) held next globals e flat count =
    let more = locked_count (is_global plan) r held next (list_any (nat_eq r.0) held) refl e in
    let k : one (is_global plan r.0) + one holding ≡ one (holding || is_marked marks r.0) = ap (λ b. one b + one holding) (sym (globals r.0)) ∙ added (is_marked marks r.0) holding flat in
    omega (arith, more, count, k)
step plan marks holding (Unlock r) [] next globals e flat count = absurd (none-some next e)
step plan marks holding (Unlock r) (h ∷ held) next globals e flat count =
    let less = unlocked_count (is_global plan) r h held next (r.0 == h) refl e in
    let m : one (is_marked marks r.0) + count_by (is_global plan) next ≡ one holding = ap (λ b. one b + count_by (is_global plan) next) (globals r.0) ∙ less ∙ count in
    removed (is_marked marks r.0) holding (count_by (is_global plan) next) m

-- one unit more behind
pub scan_more : (plan : PlanModel) (us : List Op) (n : ℕ) (u : Op) (marks : List Bool) (holding : Bool) → ((k : ℕ) → IsNestedAt us k) → AreGlobals plan marks → slice_get us n ≡ Some u
    → locks_one marks u && holding ≡ false → globals_held plan (held_after (take n us)) ≡ one holding → globals_held plan (held_after (take (n + 1) us)) ≡ one (holds_one_after marks holding u)
scan_more plan us n u marks holding nested globals at flat count =
    let before = nested n in
    let after = nested (n + 1) in
    let more : take (n + 1) us ≡ take n us ++ u ∷ [] = take_more us n u (slice_get_within us n u at) ∙ ap (λ v. take n us ++ v ∷ []) (get_or_from_slice_get us n u u at) in
    let next : held_with before.0 u ≡ Some after.0 = sym (held_push (take n us) u before.0 before.1) ∙ sym (ap held_after more) ∙ after.1 in
    let c : count_by (is_global plan) before.0 ≡ one holding = sym (ap (globals_held plan) before.1) ∙ count in
    ap (globals_held plan) after.1 ∙ step plan marks holding u before.0 after.0 globals next flat c

-- a unit that locks a global resource
pub lock_is : (plan : PlanModel) (marks : List Bool) (u : Op) → AreGlobals plan marks → is_global_lock plan (Some u) ≡ locks_one marks u
lock_is plan marks Run globals = refl
lock_is plan marks (Lock r) globals = sym (globals r.0)
lock_is plan marks (Unlock r) globals = refl

one_is : (b : Bool) → nat_lt 0 (one b) ≡ b
one_is true = refl
one_is false = refl

-- at each place the test of the definition is that of the scan
pub test_is : (plan : PlanModel) (us : List Op) (n : ℕ) (u : Op) (marks : List Bool) (holding : Bool) → ((k : ℕ) → IsNestedAt us k) → AreGlobals plan marks → slice_get us n ≡ Some u
    → globals_held plan (held_after (take n us)) ≡ one holding → is_global_lock plan (slice_get us n) && holds_global plan (held_after (take n us)) ≡ locks_one marks u && holding
test_is plan us n u marks holding nested globals at count =
    let before = nested n in
    let c : count_by (is_global plan) before.0 ≡ one holding = sym (ap (globals_held plan) before.1) ∙ count in
    let held : holds_global plan (held_after (take n us)) ≡ holding = ap (holds_global plan) before.1 ∙ any_counted (is_global plan) before.0 ∙ ap (λ k. nat_lt 0 k) c ∙ one_is holding in
    let lock : is_global_lock plan (slice_get us n) ≡ locks_one marks u = ap (is_global_lock plan) at ∙ lock_is plan marks u globals in
    rw (held, lock) refl

-- the units before a place nest no global resource
abbrev pub nests_before : PlanModel → List Op → ℕ → Bool
nests_before plan us n = list_any (λ k. is_global_lock plan (slice_get us k) && holds_global plan (held_after (take k us))) (range_with_len 0 n)

nests_more : (plan : PlanModel) (us : List Op) (n : ℕ) → nests_before plan us n ≡ false → is_global_lock plan (slice_get us n) && holds_global plan (held_after (take n us)) ≡ false → nests_before plan us (n + 1) ≡ false
nests_more plan us n before here =
    let test : ℕ → Bool = λ k. is_global_lock plan (slice_get us k) && holds_global plan (held_after (take k us)) in
    let place : 0 + n ≡ n = omega arith in
    let more : list_any test (range_with_len 0 (n + 1)) ≡ list_any test (range_with_len 0 n) || test n = ap (list_any test) (range_more 0 n) ∙ any_push test (range_with_len 0 n) (0 + n) ∙ ap (λ k. list_any test (range_with_len 0 n) || test k) place in
    more ∙ or_from (list_any test (range_with_len 0 n)) (test n) before here

-- how far a scan has come: nothing found yet, and whether a global resource is held
pub record IsScanned (plan : PlanModel) (us : List Op) (n : ℕ) (holding : Bool) : Type 0 where
  pub none : nests_before plan us n ≡ false
  pub held : globals_held plan (held_after (take n us)) ≡ one holding

module _ (plan : PlanModel) (us items : List Op) (same : us ≡ items) (nested : (k : ℕ) → IsNestedAt us k) (marks : List Bool) (globals : AreGlobals plan marks) where
  at_place : (n : ℕ) (d : Op) → n < length items → slice_get us n ≡ Some (get_or items n d)
  at_place n d within = ap (λ vs. slice_get vs n) same ∙ slice_get-get_or items n d within

  -- the scan goes on
  pub scan_on : (n : ℕ) (d : Op) (holding : Bool) → n < length items → IsScanned plan us n holding → locks_one marks (get_or items n d) && holding ≡ false → IsScanned plan us (n + 1) (holds_one_after marks holding (get_or items n d))
  scan_on n d holding within h flat = record {
    none = nests_more plan us n h.none (test_is plan us n (get_or items n d) marks holding nested globals (at_place n d within) h.held ∙ flat);
    held = scan_more plan us n (get_or items n d) marks holding nested globals (at_place n d within) flat h.held;
  }

  -- the scan finds one
  pub scan_finds : (n : ℕ) (d : Op) (holding : Bool) → n < length items → IsScanned plan us n holding → locks_one marks (get_or items n d) && holding ≡ true → nests_global plan us ≡ true
  scan_finds n d holding within h found =
      let test : ℕ → Bool = λ k. is_global_lock plan (slice_get us k) && holds_global plan (held_after (take k us)) in
      let here : test n ≡ true = test_is plan us n (get_or items n d) marks holding nested globals (at_place n d within) h.held ∙ found in
      any_in test (range_with_len 0 (length us)) n (in_range n (length us) (subst (λ vs. n < length vs) (sym same) within)) here

  -- the scan ends
  pub scan_ends : (n : ℕ) (holding : Bool) → n ≤ length items → length items ≤ n → IsScanned plan us n holding → nests_global plan us ≡ false
  scan_ends n holding low high h = let all : length us ≡ n = ap length same ∙ omega (arith, low, high) in ap (nests_before plan us) all ∙ h.none
