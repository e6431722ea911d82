-- Names and tasks as they are stored, and as a plan has them.
use Rattle.msrp_plan.specs.Common.{ℕ, suc, zero, nat_eq, Bool, false, cond, not, List, [], map, set, slice_index_or, string_bytes, Option, Some, None, is_some, Global, String, list_any, values_of, bytes_eq, TaskModel, no_task, has_name, name_position}
use Rattle.msrp_plan.specs.declared.ids.ResId.{ResId}
use Rattle.msrp_plan.specs.declared.tasks.Task.{Task}
use Rattle.std.proofs.Common.{◌≡◌, ◌+◌, ◌==◌, ◌∷◌, ◌++◌, string_eq, refl, ap, sym, ◌∙◌, arith}
use Rattle.std.specs.List.{position, position_or_len, slice_get}
use Rattle.std.specs.Map.{keys_of, lookup}
use Rattle.std.proofs.lemmas.Option.{none-some, same_Some}
use Rattle.std.proofs.lemmas.Bool.{true≢false}
use Rattle.std.proofs.lemmas.List.{length-map, map_push}
use Rattle.std.proofs.lemmas.Map.Made.{is_some-lookup}
use Rattle.indexmap.specs.Layout.{set_value_at}
use Rattle.indexmap.specs.IndexMap.{IndexMap, insert_entry}
use Rattle.indexmap.specs.IndexSet.{insert_key}
use Rattle.indexmap.proofs.CallerLemmas.{insert_entry-new}
use Rattle.msrp_plan.specs.Inside.Tasks.{task_view, named_view}
use Rattle.msrp_plan.specs.Inside.Views.{numbers}
use Rattle.msrp_plan.proofs.Lists.Filters.{any_map}

-- the first place in a list that is made of another
first_map : {X Y : Type 0} (p : Y → Bool) (f : X → Y) (xs : List X) → position_or_len p (map f xs) ≡ position_or_len (λ x. p (f x)) xs
first_map p f [] = refl
first_map p f (x ∷ xs) = ap (λ n. cond (not (p (f x))) (1 + n) 0) (first_map p f xs)

pub position_map : {X Y : Type 0} (p : Y → Bool) (f : X → Y) (xs : List X) → position p (map f xs) ≡ position (λ x. p (f x)) xs
position_map p f xs = let n = length-map xs f in let k = first_map p f xs in rw (n, k) refl

-- the names of the tasks are the keys
pub task_names : (es : List (String Global × Task)) → map (λ (u : TaskModel). u.name) (map task_view es) ≡ map string_bytes (keys_of es)
task_names [] = refl
task_names (e ∷ es) = ap (λ names. string_bytes e.0 ∷ names) (task_names es)

-- a task of the name stands where the key is found
pub has_task : (es : List (String Global × Task)) (name : List ℕ) → is_some (lookup (λ k. bytes_eq name (string_bytes k)) es) ≡ has_name (map (λ (u : TaskModel). u.name) (map task_view es)) name
has_task es name =
    is_some-lookup (λ k. bytes_eq name (string_bytes k)) es ∙ sym (any_map string_bytes (bytes_eq name) (keys_of es)) ∙ sym (ap (list_any (bytes_eq name)) (task_names es))

-- where a task of the name stands is where the key is found
pub task_position : (es : List (String Global × Task)) (name : List ℕ) → position (λ k. bytes_eq name (string_bytes k)) (keys_of es) ≡ name_position (map (λ (u : TaskModel). u.name) (map task_view es)) name
task_position es name = sym (position_map (bytes_eq name) string_bytes (keys_of es)) ∙ sym (ap (position (bytes_eq name)) (task_names es))

-- the task in a place has the name that stands there under the keys, and is what stands there under
-- the values
pub task_in : (es : List (String Global × Task)) (i : ℕ) (name : String Global) (task : Task) → name ≡ slice_index_or (keys_of es) i name → slice_get (values_of es) i ≡ Some task → slice_index_or (map task_view es) i no_task ≡ task_view (name, task)
task_in [] i name task named at = absurd (none-some task at)
task_in (e ∷ es) zero name task named at = ap (λ o. task_view (e.0, o)) (same_Some e.1 task at) ∙ ap (λ n. task_view (n, task)) (sym named)
task_in (e ∷ es) (suc i) name task named at = task_in es i name task named at

-- a task that is put in a place, where it is the one there changed
pub changed_at : (es : List (String Global × Task)) (i : ℕ) (old new : Task) (changed : TaskModel → TaskModel) → slice_get (values_of es) i ≡ Some old → ((name : List ℕ) → named_view name new ≡ changed (named_view name old))
    → map task_view (set_value_at es i new) ≡ set (map task_view es) i (changed (slice_index_or (map task_view es) i no_task))
changed_at [] i old new changed at same = absurd (none-some old at)
changed_at (e ∷ es) zero old new changed at same = ap (λ t. t ∷ map task_view es) (same (string_bytes e.0) ∙ ap (λ o. changed (named_view (string_bytes e.0) o)) (sym (same_Some e.1 old at)))
changed_at (e ∷ es) (suc i) old new changed at same = ap (λ ts. task_view e ∷ ts) (changed_at es i old new changed at same)

-- a task that is put in a place, where it is as the one there
pub same_at : (es : List (String Global × Task)) (i : ℕ) (old new : Task) → slice_get (values_of es) i ≡ Some old → ((name : List ℕ) → named_view name new ≡ named_view name old)
    → map task_view (set_value_at es i new) ≡ map task_view es
same_at [] i old new at same = refl
same_at (e ∷ es) zero old new at same = ap (λ t. t ∷ map task_view es) (same (string_bytes e.0) ∙ ap (λ o. named_view (string_bytes e.0) o) (sym (same_Some e.1 old at)))
same_at (e ∷ es) (suc i) old new at same = ap (λ ts. task_view e ∷ ts) (same_at es i old new at same)

-- what finds nothing gives nothing
nothing : {X : Type 0} (o : Option X) → is_some o ≡ false → o ≡ None
nothing None e = refl
nothing (Some x) e = absurd (true≢false e)

-- a task of a new name goes last
pub task_push : {S : Type 0} (m : IndexMap (String Global) Task S) (k : String Global) (task : Task) → has_name (map (λ (u : TaskModel). u.name) (map task_view m.entries)) (string_bytes k) ≡ false
    → map task_view (insert_entry string_eq m.entries k task) ≡ map task_view m.entries ++ task_view (k, task) ∷ []
task_push m k task new =
    let none : lookup (string_eq k) m.entries ≡ None = nothing _ (has_task m.entries (string_bytes k) ∙ new) in
    ap (map task_view) (insert_entry-new string_eq m k task none) ∙ map_push task_view m.entries (k, task)

-- a new name goes last
pub name_push : (ks : List (String Global)) (k : String Global) → has_name (map string_bytes ks) (string_bytes k) ≡ false → map string_bytes (insert_key string_eq ks k) ≡ map string_bytes ks ++ string_bytes k ∷ []
name_push ks k new =
    let none : list_any (string_eq k) ks ≡ false = sym (any_map string_bytes (bytes_eq (string_bytes k)) ks) ∙ new in
    ap (λ b. map string_bytes (cond b ks (ks ++ k ∷ []))) none ∙ map_push string_bytes ks k

-- the task at a place
pub view_at : (es : List (String Global × Task)) (i : ℕ) (task : Task) → slice_get (values_of es) i ≡ Some task → (name : List ℕ) × (slice_index_or (map task_view es) i no_task ≡ named_view name task)
view_at [] i task at = absurd (none-some task at)
view_at (e ∷ es) zero task at = (string_bytes e.0, ap (named_view (string_bytes e.0)) (same_Some e.1 task at))
view_at (e ∷ es) (suc i) task at = view_at es i task at

-- a number stands in a list, whichever way the test asks
pub number_in : (rs : List ResId) (r : ResId) → list_any (λ y. y.0 == r.0) rs ≡ list_any (nat_eq r.0) (numbers rs)
number_in [] r = refl
number_in (x ∷ rs) r = let flip : (x.0 == r.0) ≡ nat_eq r.0 x.0 = grind arith in rw (flip, number_in rs r) refl
