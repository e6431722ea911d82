-- What a record of a plan is, and what it shares with another. A record is the list of its fields.
use Rattle.std.specs.Prelude.{◌&&◌, ◌+◌, ◌||◌, if◌then◌else◌, ◌==◌, ◌≡◌}
use Rattle.msrp_plan.specs.Common.{ℕ, Bool, not, List, codes, drop, fold, list_any, zero, suc, false, length, Option, Some, None, true, take, map}
use Rattle.msrp_text.specs.Fields.{has_word, name_at}
use Rattle.msrp_text.specs.Reading.{record_at, number_told}
use Rattle.msrp_plan.specs.declared.faults.PlanFault.{PlanFault}
use Rattle.msrp_plan.specs.declared.faults.PlanFault.TheVariants.{OutOfPlace, Taken, Nesting, NoUnit, Releases}
use Rattle.csv.specs.Records.{Row, fields_of}

-- it begins a task
abbrev pub is_task : List (List ℕ) → Bool
is_task fields = has_word fields 0 (codes "task") || has_word fields 0 (codes "listed")

-- it is an operation of that word
abbrev pub is_op : List ℕ → List (List ℕ) → Bool
is_op word fields = has_word fields 0 (codes "op") && has_word fields 1 word

-- both have one name at a place
abbrev pub is_same : ℕ → List (List ℕ) → List (List ℕ) → Bool
is_same i fields other = has_word other i (name_at fields i)

-- both declare a resource, or both a task, of one name
abbrev pub declares_same : List (List ℕ) → List (List ℕ) → Bool
declares_same fields other = ((is_task fields && is_task other) || (has_word fields 0 (codes "resource") && has_word other 0 (codes "resource"))) && is_same 1 fields other

-- it is an operation of that word on the resource of a lock
abbrev pub is_op_on : List ℕ → List (List ℕ) → List (List ℕ) → Bool
is_op_on word lock fields = is_op word fields && is_same 2 lock fields

-- the record at a place is a lock, and no later one unlocks its resource
abbrev pub is_open : List (List (List ℕ)) → ℕ → Bool
is_open records i = is_op (codes "lock") (record_at records i) && not (list_any (is_op_on (codes "unlock") (record_at records i)) (drop (i + 1) records))

-- ---- the earlier record that a refusal concerns
-- the record at a place is one that a refusal may concern, by its fault and the fields of the
-- refused record: the declaration of its name, a lock that is open, that of its resource if it
-- locks one, a release, or a task
abbrev pub is_sought : PlanFault → List (List (List ℕ)) → List (List ℕ) → ℕ → Bool
is_sought Taken before fields i = declares_same fields (record_at before i)
is_sought OutOfPlace before fields i = has_word fields 0 (codes "resource") && is_task (record_at before i)
is_sought Nesting before fields i = if is_op (codes "lock") fields then is_open before i && is_same 2 fields (record_at before i) else is_open before i
is_sought Releases before fields i = if has_word fields 0 (codes "release") then has_word (record_at before i) 0 (codes "release") else is_task (record_at before i)
is_sought NoUnit before fields i = is_task (record_at before i)
is_sought _ before fields i = false

-- of the first n places the last one that passes a test
unfoldable pub last_place : (ℕ → Bool) → ℕ → Option ℕ
last_place test zero = None
last_place test (suc n) = if test n then Some n else last_place test n

-- the refusal of a record with that fault concerns the last record that is sought
abbrev pub earlier_record : PlanFault → List (List (List ℕ)) → List (List ℕ) → Option ℕ
earlier_record fault before fields = last_place (is_sought fault before fields) (length before)

-- ---- a lock of a global resource while a global one is held
-- the core after a record: a task's own
abbrev pub core_after : List (List ℕ) → ℕ → ℕ
core_after fields core = if is_task fields then number_told fields 2 else core

-- the core of the last task among the first n records
abbrev pub core_at : List Row → ℕ → ℕ
core_at records n = fold (λ core row. core_after (fields_of row) core) 0 (take n records)

-- a task of another core locks, somewhere, the resource that is locked at a place: it is global
pub record IsShared (records : List Row) (lock : ℕ) : Type 0 where
  pub place : ℕ
  pub locks : is_op_on (codes "lock") (record_at (map fields_of records) lock) (record_at (map fields_of records) place) ≡ true
  pub elsewhere : (core_at records place == core_at records lock) ≡ false

-- both are locks of global resources, and the first is open at the second
pub record AreNested (records : List Row) (outer inner : ℕ) : Type 0 where
  pub held : is_open (map fields_of (take inner records)) outer ≡ true
  pub lock : is_op (codes "lock") (record_at (map fields_of records) inner) ≡ true
  pub outer_shared : IsShared records outer
  pub inner_shared : IsShared records inner
