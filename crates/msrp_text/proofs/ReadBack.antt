-- What is written of a well-formed plan reads back as that plan.
use Rattle.std.proofs.Common.{◌≡◌, ◌+◌, ◌<◌, ◌≤◌, ◌==◌, ◌||◌, ◌&&◌, ◌∷◌, ◌++◌, ◌∙◌, if◌then◌else◌}
use Rattle.msrp_plan.proofs.Common.{ℕ, zero, suc, Bool, true, false, cond, List, [], map, take, length, length-append, replicate, codes, decimal, Option, Some, None, Ok, refl, ap, sym, subst, arith, nat_lt, slice_get, slice_index_or, AllByRecursion, flat_map, list_any, range_with_len, nat_tests, get_or-map, length-map, length-replicate, recursion_from_All, list_any_at, sum_by-cons, is_within, jobs, is_global, is_name, PlanModel, TaskModel, no_task, task_at, ReleaseTimes, Every, Listed, is_listed, listed_ticks, held_after, IsLocking, IsPlan, even_after, held_times}
use Rattle.msrp_plan.specs.declared.rows.TextVersion.{TextVersion}
use Rattle.msrp_plan.specs.declared.rows.TextVersion.TheVariants.{V1, V2}
use Rattle.msrp_plan.specs.declared.units.Op.{Op}
use Rattle.msrp_plan.specs.declared.units.Step.{Step}
use Rattle.csv.specs.Reading.{strip_bom}
use Rattle.csv.specs.declared.parser.State.TheVariants as st
use Rattle.csv.specs.Records.{field_at}
use Rattle.msrp_plan.specs.Building.{empty_plan, end_fault, finish_fault, holds_global, is_global_lock, nests_global}
use Rattle.msrp_plan.specs.ReleaseTimes.{AreTimes}
use Rattle.msrp_plan.specs.WellFormed.{IsFlat, IsTask}
use Rattle.msrp_plan.specs.declared.units.Op.TheVariants as unit
use Rattle.msrp_plan.specs.declared.units.Step.TheVariants.{Run, Lock, Unlock}
use Rattle.msrp_text.specs.PlanText.{declaration, head_records, plan_records, plan_text, release_record, resource_record, step_record, steps_of, task_records, version_of, version_record, version_text}
use Rattle.msrp_text.specs.Reading.{cores_fault, number_told, plan_of, ticks_fault, version_fault, version_told}
use Rattle.msrp_text.specs.Records.{csv_records, records_at}
use Rattle.msrp_text.specs.Positions.{position_fault, position_with}
use Rattle.msrp_text.specs.declared.positions.Position.{Position}
use Rattle.msrp_text.specs.declared.positions.Position.TheVariants.{Version, Cores, Ticks, Body}
use Rattle.msrp_text.proofs.Accepting.{plan_of_told, resources_told, tells_then, with_names}
use Rattle.msrp_text.proofs.AcceptedTasks.{IsGood, tasks_told_by}
use Rattle.msrp_text.proofs.AcceptedUnits.{all_units, units_again}
use Rattle.msrp_text.proofs.Folding.{plan-begins, plan_from}
use Rattle.msrp_text.proofs.Numerals.{number_again, plain_decimal}
use Rattle.msrp_text.proofs.Plain.{IsPlain, IsPlainRecord, plain_back, plain_name}
use Rattle.msrp_plan.proofs.Lists.AnyAll.{all_joined}

-- ---- the end
none_any : {X : Type 0} (p : X → Bool) (xs : List X) → AllByRecursion (λ x. p x ≡ false) xs → list_any p xs ≡ false
none_any p [] h = refl
none_any p (x ∷ xs) h = ap (λ b. b || list_any p xs) h.0 ∙ none_any p xs h.1

all_numbers : (p : ℕ → Bool) → ((n : ℕ) → p n ≡ false) → (ks : List ℕ) → AllByRecursion (λ k. p k ≡ false) ks
all_numbers p h [] = tt
all_numbers p h (k ∷ ks) = (h k, all_numbers p h ks)

-- what is held of the resources that pass is nothing
held_passes : (p : ℕ → Bool) (held : List ℕ) → ((g : ℕ) → p g ≡ true → held_times g held ≡ 0) → list_any p held ≡ false
held_passes p [] h = refl
held_passes p (x ∷ held) h = by (p x) (h x) (held_passes p held (λ g e. later g (h g e)))
  where
    later : (g : ℕ) → held_times g (x ∷ held) ≡ 0 → held_times g held ≡ 0
    later g e = let first : held_times g (x ∷ held) ≡ cond (x == g) 1 0 + held_times g held = sum_by-cons (λ k. cond (k == g) 1 0) x held in omega (arith, first, e)

    here : held_times x (x ∷ held) ≡ 0 → ⊥
    here e =
        let first : held_times x (x ∷ held) ≡ cond (x == x) 1 0 + held_times x held = sum_by-cons (λ k. cond (k == x) 1 0) x held in
        let same : (x == x) ≡ true = grind (arith, nat_tests) in
        let one : cond {A = ℕ} (x == x) 1 0 ≡ 1 = ap (λ b. cond b 1 0) same in
        omega (arith, first, e, one)

    by : (b : Bool) → (b ≡ true → held_times x (x ∷ held) ≡ 0) → list_any p held ≡ false → (b || list_any p held) ≡ false
    by true e rest = absurd (here (e refl))
    by false e rest = rest

-- at no place of flat units a global resource is locked while one is held
flat_at : (plan : PlanModel) (us : List Op) → IsLocking plan us → IsFlat plan us → (n : ℕ) (o : Option Op) → slice_get us n ≡ o → (is_global_lock plan o && holds_global plan (held_after (take n us))) ≡ false
flat_at plan us locking flat n None e = refl
flat_at plan us locking flat n (Some unit.Run) e = refl
flat_at plan us locking flat n (Some (unit.Unlock h)) e = refl
flat_at plan us locking flat n (Some (unit.Lock h)) e = by (is_global plan h.0) refl
  where
    free : is_global plan h.0 ≡ true → holds_global plan (held_after (take n us)) ≡ false
    free glob =
        let at = locking.nested n in
        ap (holds_global plan) at.1 ∙ held_passes (is_global plan) at.0 (λ g other.
        let even = even_after g (take n us) at.0 at.1 in
        let few = flat.alone n g h e glob other in
        omega (arith, even.even, few))

    by : (b : Bool) → is_global plan h.0 ≡ b → (is_global plan h.0 && holds_global plan (held_after (take n us))) ≡ false
    by true is = ap (λ b. b && holds_global plan (held_after (take n us))) is ∙ free is
    by false is = ap (λ b. b && holds_global plan (held_after (take n us))) is

flat_none : (plan : PlanModel) (us : List Op) → IsLocking plan us → IsFlat plan us → nests_global plan us ≡ false
flat_none plan us locking flat =
    let p : ℕ → Bool = λ n. is_global_lock plan (slice_get us n) && holds_global plan (held_after (take n us)) in
    none_any p (range_with_len 0 (length us)) (all_numbers p (λ n. flat_at plan us locking flat n (slice_get us n) refl) (range_with_len 0 (length us)))

-- what holds of each task by its number
each_task : (P : TaskModel → Type 0) (tasks : List TaskModel) → ((t : ℕ) → t < length tasks → P (slice_index_or tasks t no_task)) → AllByRecursion P tasks
each_task P [] h = tt
each_task P (task ∷ tasks) h = (h 0 (omega arith), each_task P tasks (λ t past. h (suc t) (omega (arith, past))))

finish_none : (plan : PlanModel) → IsPlan plan → end_fault plan ≡ None → finish_fault plan ≡ None
finish_none plan ok end =
    let nests : list_any (λ (task : TaskModel). nests_global plan task.units) plan.tasks ≡ false =
    none_any (λ (task : TaskModel). nests_global plan task.units) plan.tasks
    (each_task (λ task. nests_global plan task.units ≡ false) plan.tasks (λ t past. flat_none plan (task_at plan t).units (ok.draft.locking t past) (ok.flat t past))) in
    let few : nat_lt 8192 (length (jobs plan)) ≡ false = grind (arith, nat_tests, ok.jobs) in
    rw (end, nests, few) refl

-- ---- the first three records
plan_step : (position next : Position) (number : ℕ) (row : List (List ℕ)) (rest : List (List (List ℕ))) → position_fault position (Some row) ≡ None → position_with position row ≡ next → plan_from position number (row ∷ rest) ≡ plan_from next (number + 1) rest
unfolding plan_from
plan_step position next number row rest e same = rw e (ap (λ s. plan_from s (number + 1) rest) same)

version_taken : (v : TextVersion) → (version_fault (Some (version_record v)) ≡ None) × (version_told (version_record v) ≡ v)
unfolding field_at
version_taken V1 = (refl, refl)
version_taken V2 = (refl, refl)

cores_taken : (m : ℕ) → (1 ≤ m) × (m ≤ 8) → (cores_fault (Some (codes "cores" ∷ decimal m ∷ [])) ≡ None) × (number_told (codes "cores" ∷ decimal m ∷ []) 1 ≡ m)
unfolding field_at
cores_taken m h =
    let range : is_within 1 8 m ≡ true = grind (arith, nat_tests, h.0, h.1) in
    let again = number_again m (omega (arith, h.1)) in
    (rw (again, range) refl, rw again refl)

ticks_taken : (m n : ℕ) → (1 ≤ m) × (m ≤ 8) → (1 ≤ n) × (n ≤ 20000) → (ticks_fault m (Some (codes "ticks" ∷ decimal n ∷ [])) ≡ None) × (number_told (codes "ticks" ∷ decimal n ∷ []) 1 ≡ n)
unfolding field_at
ticks_taken m n h k =
    let cores : is_within 1 8 m ≡ true = grind (arith, nat_tests, h.0, h.1) in
    let ticks : is_within 1 20000 n ≡ true = grind (arith, nat_tests, k.0, k.1) in
    let again = number_again n (omega (arith, k.1)) in
    (rw (again, cores, ticks) refl, rw again refl)

head_read : (plan : PlanModel) (rest : List (List (List ℕ))) → IsPlan plan → plan_from Version 1 (head_records plan ++ rest) ≡ plan_from (Body (version_of plan) (empty_plan plan.cores plan.ticks)) 4 rest
unfolding position_fault position_with
head_read plan rest ok =
    let v : TextVersion = version_of plan in
    let a = version_taken v in
    let b = cores_taken plan.cores ok.draft.cores in
    let c = ticks_taken plan.cores plan.ticks ok.draft.cores ok.draft.ticks in
    plan_step Version (Cores v) 1 _ _ a.0 (ap (λ w. Cores w) a.1)
    ∙ (plan_step (Cores v) (Ticks v plan.cores) 2 _ _ b.0 (ap (λ m. Ticks v m) b.1)
    ∙ plan_step (Ticks v plan.cores) (Body v (empty_plan plan.cores plan.ticks)) 3 _ _ c.0 (ap (λ n. Body v (empty_plan plan.cores n)) c.1))

-- ---- the records tell the plan
good_tasks : (plan : PlanModel) → IsPlan plan → AllByRecursion (IsGood plan (version_of plan)) plan.tasks
good_tasks plan ok = each_task (IsGood plan (version_of plan)) plan.tasks (λ t past. record {
  numbers = ok.draft.each t past;
  locking = ok.draft.locking t past;
  whole = ok.whole t past;
  suits = λ e. ap (λ b. if b then V2 else V1) (list_any_at (λ (u : TaskModel). is_listed u.times) plan.tasks t no_task past e);
})

pub records_tell : (plan : PlanModel) → IsPlan plan → plan_of (plan_records plan) ≡ Ok plan
unfolding plan_records
records_tell plan ok =
    let v : TextVersion = version_of plan in
    let body : List (List (List ℕ)) = map resource_record plan.resources ++ flat_map (task_records plan) plan.tasks in
    let resources = resources_told v plan [] plan.resources ok.draft.resource_names ok.draft.resources in
    let tasks = tasks_told_by v plan [] plan.tasks ok.draft.resource_names ok.draft.cores.1 ok.draft.task_names ok.draft.tasks (good_tasks plan ok) refl in
    let told = tells_then v (empty_plan plan.cores plan.ticks) (with_names plan plan.resources) plan (map resource_record plan.resources) (flat_map (task_records plan) plan.tasks) resources tasks.0 in
    plan-begins (head_records plan ++ body) ∙ (head_read plan body ok ∙ plan_of_told v (empty_plan plan.cores plan.ticks) plan body 4 told (finish_none plan ok tasks.1))

-- ---- each record is plain
pub all_made : {X Y : Type 0} (P : X → Type 0) (Q : Y → Type 0) (f : X → Y) → ((x : X) → P x → Q (f x)) → (xs : List X) → AllByRecursion P xs → AllByRecursion Q (map f xs)
all_made P Q f h [] all = tt
all_made P Q f h (x ∷ xs) all = (h x all.0, all_made P Q f h xs all.1)

pub all_gathered : {X Y : Type 0} (P : X → Type 0) (Q : Y → Type 0) (f : X → List Y) → ((x : X) → P x → AllByRecursion Q (f x)) → (xs : List X) → AllByRecursion P xs → AllByRecursion Q (flat_map f xs)
all_gathered P Q f h [] all = tt
all_gathered P Q f h (x ∷ xs) all = all_joined Q (f x) (flat_map f xs) (h x all.0) (all_gathered P Q f h xs all.1)

-- a name of the list, or none
plain_at : (names : List (List ℕ)) (g : ℕ) → AllByRecursion (λ name. is_name name ≡ true) names → IsPlain (slice_index_or names g [])
plain_at [] g all = refl
plain_at (name ∷ names) zero all = plain_name name all.0
plain_at (name ∷ names) (suc g) all = plain_at names g all.1

plain_head : (plan : PlanModel) → IsPlan plan → AllByRecursion IsPlainRecord (head_records plan)
plain_head plan ok =
    let cores = ok.draft.cores.1 in
    let ticks = ok.draft.ticks.1 in
    ((omega arith, (refl, (version (version_of plan), tt))), ((omega arith, (refl, (plain_decimal plan.cores (omega (arith, cores)), tt))), ((omega arith, (refl, (plain_decimal plan.ticks (omega (arith, ticks)), tt))), tt)))
  where
    version : (v : TextVersion) → IsPlain (version_text v)
    version V1 = refl
    version V2 = refl

-- the records of a task
plain_declaration : (plan : PlanModel) (task : TaskModel) (times : ReleaseTimes) → is_name task.name ≡ true → IsTask plan task → AreTimes times → plan.cores ≤ 8 → IsPlainRecord (declaration task times)
plain_declaration plan task (Every period offset) named is times cores =
    let core = is.core in
    (omega arith, (refl, (plain_name task.name named, (plain_decimal task.core (omega (arith, core, cores)), (plain_decimal period (omega (arith, times.short)), (plain_decimal task.deadline (omega (arith, is.deadline.1)), (plain_decimal offset (omega (arith, times.soon)), tt)))))))
plain_declaration plan task (Listed ticks) named is times cores =
    let core = is.core in
    (omega arith, (refl, (plain_name task.name named, (plain_decimal task.core (omega (arith, core, cores)), (plain_decimal task.deadline (omega (arith, is.deadline.1)), tt)))))

plain_releases : (times : ReleaseTimes) → AreTimes times → AllByRecursion IsPlainRecord (map release_record (listed_ticks times))
plain_releases (Every period offset) h = tt
plain_releases (Listed ticks) h =
    all_made (λ tick. tick ≤ 1000000) IsPlainRecord release_record (λ tick small. (omega arith, (refl, (plain_decimal tick (omega (arith, small)), tt)))) ticks (recursion_from_All (λ tick. tick ≤ 1000000) ticks h.soon)

-- a run is no longer than its task
abbrev IsShort : Step → Type 0
IsShort (Run n) = n ≤ 4096
IsShort (Lock g) = Unit {0}
IsShort (Unlock g) = Unit {0}

short_steps : (steps : List Step) (n : ℕ) → length (all_units steps) ≤ n → n ≤ 4096 → AllByRecursion IsShort steps
short_steps [] n h few = tt
short_steps (Run m ∷ steps) n h few =
    let size = length-append (replicate m unit.Run) (all_units steps) in
    let count = length-replicate m unit.Run in
    (omega (arith, size, count, h, few), short_steps steps n (omega (arith, size, h)) few)
short_steps (Lock g ∷ steps) n h few = (tt, short_steps steps n (omega (arith, h)) few)
short_steps (Unlock g ∷ steps) n h few = (tt, short_steps steps n (omega (arith, h)) few)

plain_step : (plan : PlanModel) → AllByRecursion (λ name. is_name name ≡ true) plan.resources → (step : Step) → IsShort step → IsPlainRecord (step_record plan step)
plain_step plan names (Run n) h = (omega arith, (refl, (refl, (plain_decimal n (omega (arith, h)), tt))))
plain_step plan names (Lock g) h = (omega arith, (refl, (refl, (plain_at plan.resources g.0 names, tt))))
plain_step plan names (Unlock g) h = (omega arith, (refl, (refl, (plain_at plan.resources g.0 names, tt))))

-- a task with a name of its own
record IsNamed (plan : PlanModel) (task : TaskModel) : Type 0 where
  name : is_name task.name ≡ true
  numbers : IsTask plan task

plain_task : (plan : PlanModel) → IsPlan plan → (task : TaskModel) → IsNamed plan task → AllByRecursion IsPlainRecord (task_records plan task)
plain_task plan ok task h =
    let names = recursion_from_All (λ name. is_name name ≡ true) plan.resources ok.draft.resource_names.named in
    let again = units_again task.units in
    let few : length (all_units (steps_of task.units)) ≤ 4096 = subst (λ (us : List Op). length us ≤ 4096) (sym again) h.numbers.size in
    all_joined IsPlainRecord (declaration task task.times ∷ map release_record (listed_ticks task.times)) (map (step_record plan) (steps_of task.units))
    (plain_declaration plan task task.times h.name h.numbers h.numbers.times ok.draft.cores.1, plain_releases task.times h.numbers.times)
    (all_made IsShort IsPlainRecord (step_record plan) (plain_step plan names) (steps_of task.units) (short_steps (steps_of task.units) 4096 few (omega arith)))

named_tasks : (plan : PlanModel) → IsPlan plan → AllByRecursion (IsNamed plan) plan.tasks
named_tasks plan ok = each_task (IsNamed plan) plan.tasks (λ t past. record {
  name =
      let size = length-map plan.tasks (λ (u : TaskModel). u.name) in
      subst (λ name. is_name name ≡ true) (get_or-map (λ (u : TaskModel). u.name) plan.tasks t no_task [] past) (ok.draft.task_names.named t [] (omega (arith, size, past)));
  numbers = ok.draft.each t past;
})

plain_plan : (plan : PlanModel) → IsPlan plan → AllByRecursion IsPlainRecord (plan_records plan)
unfolding plan_records
plain_plan plan ok =
    let names = recursion_from_All (λ name. is_name name ≡ true) plan.resources ok.draft.resource_names.named in
    all_joined IsPlainRecord (head_records plan) (map resource_record plan.resources ++ flat_map (task_records plan) plan.tasks) (plain_head plan ok)
    (all_joined IsPlainRecord (map resource_record plan.resources) (flat_map (task_records plan) plan.tasks)
    (all_made (λ name. is_name name ≡ true) IsPlainRecord resource_record (λ name is. (omega arith, (refl, (plain_name name is, tt)))) plan.resources names)
    (all_gathered (IsNamed plan) IsPlainRecord (task_records plan) (plain_task plan ok) plan.tasks (named_tasks plan ok)))

-- ---- the text
-- it doesn't begin with a byte order mark
no_mark : (plan : PlanModel) → strip_bom (plan_text plan) ≡ plan_text plan
unfolding plan_records strip_bom
no_mark plan = refl

text_records : (plan : PlanModel) → IsPlan plan → csv_records (plan_text plan) ≡ plan_records plan
unfolding records_at
text_records plan ok = ap (records_at st.StartRecord) (no_mark plan) ∙ plain_back (plan_records plan) (plain_plan plan ok)

pub reads_back : (plan : PlanModel) → IsPlan plan → plan_of (csv_records (plan_text plan)) ≡ Ok plan
reads_back plan ok = ap plan_of (text_records plan ok) ∙ records_tell plan ok
