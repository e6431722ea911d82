-- Names in a list of names: where one stands, and that what is no text is none.
use Rattle.msrp_plan.proofs.Common.{ℕ, zero, suc, true, false, cond, not, nat_le, List, [], length, map, Some, None, option_map, refl, sym, ap, arith, slice_get, slice_index_or, subst, AllByRecursion, list_all, position_or_len, bytes_eq, is_ascii_lowercase, length-map, and_parts, false_from_ne_true, le-ltb, nat_tests, slice_get_within, recursion_from_All, All-weaker, is_name, is_name_byte, name_position, PlanModel, TaskModel, no_task, task_at, AreNames, IsPlan}
use Rattle.std.specs.List.{IsDistinct}
use Rattle.msrp_plan.specs.declared.ids.ResId.{ResId}
use Rattle.msrp_plan.specs.declared.ids.TaskId.{TaskId}
use Rattle.std.proofs.Common.{◌≡◌, ◌+◌, ◌<◌, ◌≤◌, ◌&&◌, ◌∷◌, ◌∙◌, lt-ltb}
use Rattle.std.specs.Str.{IsUtf8}
use Rattle.std.proofs.Math.ListN.{get_or-map}
use Rattle.std.proofs.lemmas.List.Elements.{All-cons}
use Rattle.std.proofs.lemmas.List.Sums.{AllPass-from_list_all}
use Rattle.std.proofs.lemmas.Slice.Eq.{bytes_eq-Decides}
use Rattle.std.proofs.lemmas.Str.{IsUtf8-from_ascii}
use Rattle.std.proofs.lemmas.Str.Ascii.{IsAscii-from_all}
use Rattle.msrp_trace.specs.Rows.{res_named, task_named}

-- ---- equal texts
pub same_bytes : (a b : List ℕ) → bytes_eq a b ≡ true → a ≡ b
same_bytes a b h = (bytes_eq-Decides a b).0 h

pub eq_bytes : (a b : List ℕ) → a ≡ b → bytes_eq a b ≡ true
eq_bytes a b h = (bytes_eq-Decides a b).1 h

differ_back : (a b : List ℕ) → bytes_eq a b ≡ false → bytes_eq b a ≡ false
differ_back a b h = false_from_ne_true (bytes_eq b a) (λ e. let k = eq_bytes a b (sym (same_bytes b a e)) in cc)

-- ---- where a name stands
-- what stands at a place differs from what differs from all
differs_at : (x name : List ℕ) (xs : List (List ℕ)) (i : ℕ) → AllByRecursion (λ y. bytes_eq x y ≡ false) xs → slice_get xs i ≡ Some name → bytes_eq x name ≡ false
differs_at x name [] i all e = absurd (cc)
differs_at x name (y ∷ ys) zero all e = let k : y ≡ name = cc in subst (λ z. bytes_eq x z ≡ false) k all.0
differs_at x name (y ∷ ys) (suc i) all e = differs_at x name ys i all.1 e

first_at : (names : List (List ℕ)) (i : ℕ) (name : List ℕ) → IsDistinct bytes_eq names → slice_get names i ≡ Some name → position_or_len (bytes_eq name) names ≡ i
unfolding IsDistinct
first_at [] i name d e = absurd (cc)
first_at (x ∷ xs) zero name d e =
    let k : x ≡ name = cc in
    ap (λ b. cond (not b) (1 + position_or_len (bytes_eq name) xs) 0) (eq_bytes name x (sym k))
first_at (x ∷ xs) (suc i) name d e =
    let other = differ_back x name (differs_at x name xs i d.0 e) in
    let rest = first_at xs i name d.1 e in
    ap (λ b. cond (not b) (1 + position_or_len (bytes_eq name) xs) 0) other ∙ omega (arith, rest)

-- the name at a place of distinct names has that position
pub named_at : (names : List (List ℕ)) (i : ℕ) (name : List ℕ) → AreNames names → slice_get names i ≡ Some name → name_position names name ≡ Some i
named_at names i name ok e =
    let at = first_at names i name ok.distinct e in
    let within : position_or_len (bytes_eq name) names < length names = let k = slice_get_within names i name e in omega (arith, at, k) in
    ap (λ b. cond b (Some (position_or_len (bytes_eq name) names)) None) (lt-ltb (position_or_len (bytes_eq name) names) (length names) within) ∙ ap (λ n. Some n) at

-- ---- what is no text
byte_ascii : (b : ℕ) → is_name_byte b ≡ true → b < 128
byte_ascii b h = grind (arith, nat_tests)

lower_ascii : (b : ℕ) → is_ascii_lowercase b ≡ true → b < 128
lower_ascii b h = grind (arith, nat_tests)

-- a name is text
pub name_text : (name : List ℕ) → is_name name ≡ true → IsUtf8 name
name_text [] h = absurd (cc)
name_text (b ∷ bs) h =
    let whole = and_parts (is_ascii_lowercase b) (nat_le (length bs) 15 && list_all is_name_byte bs) h in
    let rest = and_parts (nat_le (length bs) 15) (list_all is_name_byte bs) whole.1 in
    let low = All-weaker (λ c. is_name_byte c ≡ true) (λ c. c < 128) byte_ascii bs (AllPass-from_list_all is_name_byte bs rest.1) in
    IsUtf8-from_ascii (b ∷ bs) (IsAscii-from_all (b ∷ bs) (All-cons (λ c. c < 128) b bs (lower_ascii b whole.0) low))

-- a name has at most 16 letters
name_length : (name : List ℕ) → is_name name ≡ true → length name ≤ 16
name_length [] h = absurd (cc)
name_length (b ∷ bs) h =
    let whole = and_parts (is_ascii_lowercase b) (nat_le (length bs) 15 && list_all is_name_byte bs) h in
    let rest = and_parts (nat_le (length bs) 15) (list_all is_name_byte bs) whole.1 in
    let few = rest.0 in
    grind (arith, nat_tests)

pub name_short : (plan : PlanModel) (t : ℕ) → IsPlan plan → t < length plan.tasks → length (task_at plan t).name ≤ 16
name_short plan t p h =
    let name : TaskModel → List ℕ = λ task. task.name in
    let named = p.draft.task_names.named t (name no_task) (simp length-map h) in
    name_length (task_at plan t).name (ap is_name (sym (get_or-map name plan.tasks t no_task)) ∙ named)

none_first : (names : List (List ℕ)) (name : List ℕ) → AllByRecursion (λ x. is_name x ≡ true) names → ¬ (IsUtf8 name) → position_or_len (bytes_eq name) names ≡ length names
none_first [] name all u = refl
none_first (x ∷ xs) name all u =
    let other : bytes_eq name x ≡ false = false_from_ne_true (bytes_eq name x) (λ e. u (subst IsUtf8 (sym (same_bytes name x e)) (name_text x all.0))) in
    let rest = none_first xs name all.1 u in
    ap (λ b. cond (not b) (1 + position_or_len (bytes_eq name) xs) 0) other ∙ omega (arith, rest)

-- what is no text has no position among names
pub no_text_unnamed : (names : List (List ℕ)) (name : List ℕ) → AreNames names → ¬ (IsUtf8 name) → name_position names name ≡ None
no_text_unnamed names name ok u =
    let none = none_first names name (recursion_from_All (λ x. is_name x ≡ true) names ok.named) u in
    ap (λ b. cond b (Some (position_or_len (bytes_eq name) names)) None) (le-ltb (position_or_len (bytes_eq name) names) (length names) (omega (arith, none)))

-- ---- the plan's names
named_in : (xs : List TaskModel) (i : ℕ) (d : TaskModel) → i < length xs → slice_get (map (λ task. task.name) xs) i ≡ Some (slice_index_or xs i d).name
named_in [] i d h = absurd (omega arith)
named_in (x ∷ xs) zero d h = refl
named_in (x ∷ xs) (suc i) d h = named_in xs i d (omega arith)

-- a task has its number by its name
pub task_found : (plan : PlanModel) (t : TaskId) (name : List ℕ) → IsPlan plan → t.0 < length plan.tasks → (task_at plan t.0).name ≡ name → task_named plan name ≡ Some t
task_found plan t name ok h e =
    ap (option_map (λ n. record { 0 = n })) (named_at (map (λ task. task.name) plan.tasks) t.0 name ok.draft.task_names (named_in plan.tasks t.0 no_task h ∙ ap (λ n. Some n) e))

pub res_found : (plan : PlanModel) (g : ResId) (name : List ℕ) → IsPlan plan → slice_get plan.resources g.0 ≡ Some name → res_named plan name ≡ Some g
res_found plan g name ok e = ap (option_map (λ n. record { 0 = n })) (named_at plan.resources g.0 name ok.draft.resource_names e)

-- what is no text names nothing
pub task_unnamed : (plan : PlanModel) (name : List ℕ) → IsPlan plan → ¬ (IsUtf8 name) → task_named plan name ≡ None
task_unnamed plan name ok u = ap (option_map (λ n. record { 0 = n })) (no_text_unnamed (map (λ task. task.name) plan.tasks) name ok.draft.task_names u)

pub res_unnamed : (plan : PlanModel) (name : List ℕ) → IsPlan plan → ¬ (IsUtf8 name) → res_named plan name ≡ None
res_unnamed plan name ok u = ap (option_map (λ n. record { 0 = n })) (no_text_unnamed plan.resources name ok.draft.resource_names u)
