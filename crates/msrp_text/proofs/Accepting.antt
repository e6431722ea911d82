-- Records that are accepted one after the other, and the plan that they tell.
use Rattle.std.proofs.Common.{◌≡◌, ◌+◌, ◌<◌, ◌≤◌, ◌||◌, ◌∷◌, ◌++◌, ◌∙◌}
use Rattle.msrp_plan.proofs.Common.{ℕ, Bool, true, false, not, cond, List, [], map, length, Some, None, Ok, refl, ap, sym, subst, arith, append_assoc, append-nil, nat_le, nat_lt, length-append, fold, AllByRecursion, list_any, list_all, position_or_len, is_ascii_lowercase, bytes_eq, get_or-append_seam, and_parts, lt-ltb, nat_tests, is_name, is_name_byte, name_position, PlanModel, AreNames}
use Rattle.std.specs.List.{IsDistinct}
use Rattle.msrp_plan.specs.declared.rows.TextVersion.{TextVersion}
use Rattle.std.specs.List.{AllPass}
use Rattle.std.specs.Str.{IsAscii}
use Rattle.std.proofs.lemmas.Cmp.{nat_list_eq_equiv}
use Rattle.std.proofs.lemmas.Map.Keys.{IsDistinct-head, IsDistinct-tail}
use Rattle.std.proofs.lemmas.Str.{is_utf8-from_IsUtf8, IsUtf8-from_ascii}
use Rattle.std.proofs.lemmas.Str.Ascii.{IsAscii-cons, IsAscii-nil}
use Rattle.csv.specs.Records.{field_at}
use Rattle.msrp_plan.specs.Building.{finish_fault}
use Rattle.msrp_plan.specs.Names.{has_name}
use Rattle.msrp_text.specs.Fields.{text_of}
use Rattle.msrp_text.specs.PlanText.{resource_record}
use Rattle.msrp_text.specs.Reading.{body_fault, with_record}
use Rattle.msrp_text.specs.Positions.{position_fault, position_plan, position_with}
use Rattle.msrp_text.specs.declared.positions.Position.TheVariants.{Body}
use Rattle.msrp_text.proofs.Folding.{numbered, plan_from}

-- ---- one record after the other
-- the plan after the records
abbrev pub told_by : PlanModel → List (List (List ℕ)) → PlanModel
told_by plan rows = fold with_record plan rows

-- none of the records breaks a rule, given those before it
abbrev pub AreAccepted : TextVersion → PlanModel → List (List (List ℕ)) → Type 0
AreAccepted version plan [] = Unit {0}
AreAccepted version plan (row ∷ rows) = (body_fault version plan (Some row) ≡ None) × AreAccepted version (with_record plan row) rows

-- records that are accepted, and tell a plan
abbrev pub Tells : TextVersion → PlanModel → List (List (List ℕ)) → PlanModel → Type 0
Tells version plan rows after = AreAccepted version plan rows × (told_by plan rows ≡ after)

pub tells_none : (version : TextVersion) (plan : PlanModel) → Tells version plan [] plan
tells_none version plan = (tt, refl)

pub tells_first : (version : TextVersion) (plan next after : PlanModel) (row : List (List ℕ)) (rows : List (List (List ℕ))) → body_fault version plan (Some row) ≡ None → with_record plan row ≡ next → Tells version next rows after → Tells version plan (row ∷ rows) after
tells_first version plan next after row rows e same t =
    ((e, subst (λ p. AreAccepted version p rows) (sym same) t.0), ap (λ p. told_by p rows) same ∙ t.1)

pub tells_then : (version : TextVersion) (plan next after : PlanModel) (a b : List (List (List ℕ))) → Tells version plan a next → Tells version next b after → Tells version plan (a ++ b) after
tells_then version plan next after [] b t u = (subst (λ p. AreAccepted version p b) (sym t.1) u.0, ap (λ p. told_by p b) t.1 ∙ u.1)
tells_then version plan next after (row ∷ a) b t u =
    let rest = tells_then version (with_record plan row) next after a b (t.0.1, t.1) u in
    ((t.0.0, rest.0), rest.1)

-- read to the end they give the plan that they tell
pub plan_of_told : (version : TextVersion) (plan after : PlanModel) (rows : List (List (List ℕ))) (number : ℕ) → Tells version plan rows after → finish_fault after ≡ None → plan_from (Body version plan) number rows ≡ Ok after
unfolding plan_from position_fault position_with position_plan
plan_of_told version plan after [] number t e = ap (λ f. numbered f number plan) (ap finish_fault t.1 ∙ e) ∙ ap (λ (p : PlanModel). Ok p) t.1
plan_of_told version plan after (row ∷ rows) number t e = rw t.0.0 (plan_of_told version (with_record plan row) after rows (number + 1) (t.0.1, t.1) e)

-- ---- names
-- what holds of each element holds of one of them
pub all_seam : {X : Type 0} (P : X → Type 0) (xs ys : List X) (y : X) → AllByRecursion P (xs ++ y ∷ ys) → P y
all_seam P [] ys y all = all.0
all_seam P (x ∷ xs) ys y all = all_seam P xs ys y all.1

-- a name is none of those before it
pub name_is_new : (names : List (List ℕ)) (name : List ℕ) (rest : List (List ℕ)) → IsDistinct bytes_eq (names ++ name ∷ rest) → has_name names name ≡ false
name_is_new [] name rest h = refl
name_is_new (n ∷ names) name rest h =
    let other = all_seam (λ m. bytes_eq n m ≡ false) names rest name (IsDistinct-head bytes_eq n (names ++ name ∷ rest) h) in
    ap (λ b. b || has_name names name) (nat_list_eq_equiv.symm name n ∙ other) ∙ name_is_new names name rest (IsDistinct-tail bytes_eq n (names ++ name ∷ rest) h)

place_by : (b : Bool) (none : Bool) (k n : ℕ) → (b || none) ≡ false → (none ≡ false → k ≡ n) → cond (not b) (1 + k) 0 ≡ n + 1
place_by true none k n h tail = absurd (cc)
place_by false none k n h tail = let e = tail h in omega (arith, e)

place_of : (p : List ℕ → Bool) (names : List (List ℕ)) (name : List ℕ) (rest : List (List ℕ)) → list_any p names ≡ false → p name ≡ true → position_or_len p (names ++ name ∷ rest) ≡ length names
place_of p [] name rest none is = ap (λ b. cond (not b) (1 + position_or_len p rest) 0) is
place_of p (n ∷ names) name rest none is =
    place_by (p n) (list_any p names) (position_or_len p (names ++ name ∷ rest)) (length names) none (λ tail. place_of p names name rest tail is) ∙ omega arith

-- so its place is its own
pub name_place : (names : List (List ℕ)) (name : List ℕ) (rest : List (List ℕ)) → IsDistinct bytes_eq (names ++ name ∷ rest) → name_position (names ++ name ∷ rest) name ≡ Some (length names)
name_place names name rest h =
    let place = place_of (bytes_eq name) names name rest (name_is_new names name rest h) (nat_list_eq_equiv.refl name) in
    let size = length-append names (name ∷ rest) in
    let within : nat_lt (length names) (length (names ++ name ∷ rest)) ≡ true = lt-ltb _ _ (omega (arith, size)) in
    ap (λ k. cond (nat_lt k (length (names ++ name ∷ rest))) (Some k) None) place ∙ ap (λ b. cond b (Some (length names)) None) within

-- a name is text
bytes_are_ascii : (bs : List ℕ) → list_all is_name_byte bs ≡ true → IsAscii bs
bytes_are_ascii [] h = IsAscii-nil
bytes_are_ascii (b ∷ bs) h =
    let both = and_parts (is_name_byte b) (list_all is_name_byte bs) h in
    IsAscii-cons b bs (small b both.0) (bytes_are_ascii bs both.1)
  where
    small : (n : ℕ) → is_name_byte n ≡ true → n < 128
    small n e = grind (arith, nat_tests, e)

name_is_ascii : (name : List ℕ) → is_name name ≡ true → IsAscii name
name_is_ascii [] h = IsAscii-nil
name_is_ascii (b ∷ bs) h =
    let first = and_parts (is_ascii_lowercase b) _ h in
    let rest = and_parts _ (list_all is_name_byte bs) first.1 in
    IsAscii-cons b bs (small b first.0) (bytes_are_ascii bs rest.1)
  where
    small : (n : ℕ) → is_ascii_lowercase n ≡ true → n < 128
    small n e = grind (arith, nat_tests, e)

pub name_told : (name : List ℕ) → is_name name ≡ true → text_of name ≡ name
name_told name h = ap (λ b. cond b name []) (is_utf8-from_IsUtf8 name (IsUtf8-from_ascii name (name_is_ascii name h)))

-- ---- resources
-- a plan's numbers and some of its resources
abbrev pub with_names : PlanModel → List (List ℕ) → PlanModel
with_names plan names = record { cores = plan.cores; ticks = plan.ticks; resources = names; tasks = [] }

-- one resource more is accepted
resource_taken : (version : TextVersion) (plan : PlanModel) (names : List (List ℕ)) (name : List ℕ) → is_name name ≡ true → has_name names name ≡ false → length names < 32
    → body_fault version (with_names plan names) (Some (resource_record name)) ≡ None
unfolding field_at
resource_taken version plan names name is new few =
    let room : nat_le 32 (length names) ≡ false = grind (arith, nat_tests, few) in
    rw (name_told name is, is, new, room) refl

resource_added : (plan : PlanModel) (names : List (List ℕ)) (name : List ℕ) → is_name name ≡ true → with_record (with_names plan names) (resource_record name) ≡ with_names plan (names ++ name ∷ [])
unfolding field_at
resource_added plan names name is = ap (λ n. with_names plan (names ++ n ∷ [])) (name_told name is)

-- each name of a list of names is one
pub names_pass : (names : List (List ℕ)) (name : List ℕ) (rest : List (List ℕ)) → AllPass is_name (names ++ name ∷ rest) → is_name name ≡ true
names_pass names name rest h = ap is_name (sym (get_or-append_seam names name rest [])) ∙ h (length names) [] (omega (arith, length-append names (name ∷ rest)))

pub resources_told : (version : TextVersion) (plan : PlanModel) (names rest : List (List ℕ)) → AreNames (names ++ rest) → length (names ++ rest) ≤ 32
    → Tells version (with_names plan names) (map resource_record rest) (with_names plan (names ++ rest))
resources_told version plan names [] h few = subst (Tells version (with_names plan names) []) (ap (with_names plan) (sym (append-nil names))) (tells_none version (with_names plan names))
resources_told version plan names (name ∷ rest) h few =
    let is = names_pass names name rest h.named in
    let size = length-append names (name ∷ rest) in
    let new = name_is_new names name rest h.distinct in
    let joined = append_assoc names (name ∷ []) rest in
    tells_first version (with_names plan names) (with_names plan (names ++ name ∷ [])) (with_names plan (names ++ name ∷ rest)) (resource_record name) (map resource_record rest)
    (resource_taken version plan names name is new (omega (arith, size, few))) (resource_added plan names name is)
    (subst (λ ns. Tells version (with_names plan (names ++ name ∷ [])) (map resource_record rest) (with_names plan ns)) joined
    (resources_told version plan (names ++ name ∷ []) rest (subst AreNames (sym joined) h) (subst (λ (ns : List (List ℕ)). length ns ≤ 32) (sym joined) few)))
