-- The tasks of a well-formed plan, told one after the other, are accepted, and so is the end.
use Rattle.std.proofs.Common.{◌≡◌, ◌+◌, ◌-◌, ◌<◌, ◌≤◌, ◌==◌, ◌&&◌, ◌∷◌, ◌++◌, ◌∙◌}
use Rattle.msrp_plan.proofs.Common.{ℕ, true, false, cond, List, [], map, take, length, Some, None, refl, ap, sym, subst, arith, append_assoc, append-nil, nat_le, nat_lt, length-append, slice_get, slice_index_or, AllByRecursion, flat_map, get_or-append_seam, nat_tests, get_or_append_left, map-append, sum_by-cons, slice_get-get_or, is_within, is_name, PlanModel, TaskModel, ReleaseTimes, Every, Listed, is_listed, listed_ticks, held_after, AreNames, IsLocking, even_after, held_times}
use Rattle.msrp_plan.specs.declared.rows.TextVersion.{TextVersion}
use Rattle.msrp_plan.specs.declared.rows.TextVersion.TheVariants.{V2}
use Rattle.msrp_plan.specs.declared.units.Op.{Op}
use Rattle.std.specs.List.Sorted.{IsStrictlyIncreasing}
use Rattle.csv.specs.Records.{field_at}
use Rattle.msrp_plan.specs.Building.{end_fault, is_above, is_none_held, new_task, newest_task, release_fault, takes_releases, task_end_fault, task_fault, tick_fault, with_more_ticks}
use Rattle.msrp_plan.specs.Names.{has_name}
use Rattle.msrp_plan.specs.ReleaseTimes.{AreListed, AreTimes, lacks_release}
use Rattle.msrp_plan.specs.WellFormed.{IsTask, IsWhole}
use Rattle.msrp_text.specs.PlanText.{declaration, release_record, step_record, steps_of, task_records, times_records}
use Rattle.msrp_text.specs.Reading.{body_fault, with_record}
use Rattle.msrp_text.proofs.Accepting.{Tells, name_is_new, name_told, names_pass, tells_first, tells_none, tells_then}
use Rattle.msrp_text.proofs.AcceptedUnits.{newest_changed, newest_is, some_steps, some_tasks, units_again, units_told, with_last}
use Rattle.msrp_text.proofs.Numerals.{number_again}
use Rattle.msrp_plan.proofs.Tests.{not_up_to}

-- ---- releases
-- a tick is above the one before it in a list that rises
above_last : (seen : List ℕ) (tick : ℕ) (rest : List ℕ) → IsStrictlyIncreasing (seen ++ tick ∷ rest) → is_above (slice_get seen (length seen - 1)) tick ≡ true
above_last [] tick rest h = refl
above_last (x ∷ seen) tick rest h =
    let size = length-append (x ∷ seen) (tick ∷ rest) in
    let rise = h (length seen) (omega (arith, size)) in
    let before : slice_get (x ∷ seen) (length (x ∷ seen) - 1) ≡ Some (slice_index_or (x ∷ seen) (length seen) 0) = ap (slice_get (x ∷ seen)) (omega arith) ∙ slice_get-get_or (x ∷ seen) (length seen) 0 (omega arith) in
    let left = get_or_append_left (x ∷ seen) (tick ∷ rest) 0 (length seen) (omega arith) in
    let place : length seen + 1 ≡ length (x ∷ seen) = omega arith in
    let right : slice_index_or ((x ∷ seen) ++ tick ∷ rest) (length seen + 1) 0 ≡ tick = ap (λ k. slice_index_or ((x ∷ seen) ++ tick ∷ rest) k 0) place ∙ get_or-append_seam (x ∷ seen) tick rest 0 in
    let less : nat_lt (slice_index_or (x ∷ seen) (length seen) 0) tick ≡ true = grind (arith, nat_tests, rise, left, right) in
    ap (λ o. is_above o tick) before ∙ less

-- a list that takes one tick more
pub tick_none : (seen : List ℕ) (tick : ℕ) (rest : List ℕ) → AreListed (seen ++ tick ∷ rest) → (tick_fault seen tick ≡ None) × (tick ≤ 1000000)
tick_none seen tick rest h =
    let size = length-append seen (tick ∷ rest) in
    let soon : tick ≤ 1000000 = subst (λ t. t ≤ 1000000) (get_or-append_seam seen tick rest 0) (h.soon (length seen) 0 (omega (arith, size))) in
    let early : nat_lt 1000000 tick ≡ false = grind (arith, nat_tests, soon) in
    let room : nat_le 8192 (length seen) ≡ false = grind (arith, nat_tests, size, h.few) in
    (rw (early, room, above_last seen tick rest h.rising) refl, soon)

-- a task of the list so far
abbrev listing : TaskModel → List ℕ → TaskModel
listing task ticks = record task { times = Listed ticks; units = [] }

-- the record of a release is accepted
release_taken : (plan : PlanModel) (tasks : List TaskModel) (task : TaskModel) (seen : List ℕ) (tick : ℕ) → tick_fault seen tick ≡ None → tick ≤ 1000000
    → body_fault V2 (with_last plan tasks (listing task seen)) (Some (release_record tick)) ≡ None
unfolding field_at
release_taken plan tasks task seen tick e small =
    let draft : PlanModel = with_last plan tasks (listing task seen) in
    let newest = newest_is plan tasks (listing task seen) in
    let takes : takes_releases draft ≡ true = ap (λ (t : TaskModel). is_listed t.times && (length t.units == 0)) newest in
    let none : release_fault draft tick ≡ None = ap (λ (t : TaskModel). tick_fault (listed_ticks t.times) tick) newest ∙ e in
    rw (takes, number_again tick (omega (arith, small))) none

-- and adds it
release_added : (plan : PlanModel) (tasks : List TaskModel) (task : TaskModel) (seen : List ℕ) (tick : ℕ) → tick ≤ 1000000
    → with_record (with_last plan tasks (listing task seen)) (release_record tick) ≡ with_last plan tasks (listing task (seen ++ tick ∷ []))
unfolding field_at
release_added plan tasks task seen tick small =
    rw (number_again tick (omega (arith, small))) (ap (λ ts. record plan { tasks = ts }) (newest_changed plan tasks (listing task seen) (with_more_ticks tick)))

releases_told : (plan : PlanModel) (tasks : List TaskModel) (task : TaskModel) (seen rest : List ℕ) → AreListed (seen ++ rest)
    → Tells V2 (with_last plan tasks (listing task seen)) (map release_record rest) (with_last plan tasks (listing task (seen ++ rest)))
releases_told plan tasks task seen [] h = subst (λ ts. Tells V2 (with_last plan tasks (listing task seen)) [] (with_last plan tasks (listing task ts))) (sym (append-nil seen)) (tells_none V2 _)
releases_told plan tasks task seen (tick ∷ rest) h =
    let e = tick_none seen tick rest h in
    let joins = append_assoc seen (tick ∷ []) rest in
    tells_first V2 (with_last plan tasks (listing task seen)) (with_last plan tasks (listing task (seen ++ tick ∷ []))) _ (release_record tick) (map release_record rest)
    (release_taken plan tasks task seen tick e.0 e.1) (release_added plan tasks task seen tick e.1)
    (subst (λ ts. Tells V2 (with_last plan tasks (listing task (seen ++ tick ∷ []))) (map release_record rest) (with_last plan tasks (listing task ts))) joins
    (releases_told plan tasks task (seen ++ tick ∷ []) rest (subst AreListed (sym joins) h)))

-- ---- declarations
-- what a task that is declared after others passes
pub record IsNext (plan : PlanModel) (tasks : List TaskModel) (task : TaskModel) : Type 0 where
  pub end : end_fault (record plan { tasks = tasks }) ≡ None
  pub name : is_name task.name ≡ true
  pub new : has_name (map (λ (u : TaskModel). u.name) tasks) task.name ≡ false
  pub numbers : IsTask plan task
  pub cores : plan.cores ≤ 8
  pub room : length tasks < 64

-- a period and an offset, and a deadline, in their ranges
ranges : (period offset deadline : ℕ) → (1 ≤ period) → (period ≤ 1000000) → offset ≤ 1000000 → (1 ≤ deadline) × (deadline ≤ 1000000) → ((is_within 1 1000000 period && nat_le offset 1000000) && is_within 1 1000000 deadline) ≡ true
ranges period offset deadline a b c d = grind (arith, nat_tests, a, b, c, d.0, d.1)

range : (deadline : ℕ) → (1 ≤ deadline) × (deadline ≤ 1000000) → is_within 1 1000000 deadline ≡ true
range deadline d = grind (arith, nat_tests, d.0, d.1)

room_left : (n : ℕ) → n < 64 → nat_le 64 n ≡ false
room_left n h = grind (arith, nat_tests, h)

periodic_none : (plan : PlanModel) (tasks : List TaskModel) (task : TaskModel) (period offset : ℕ) → IsNext plan tasks task → task.times ≡ Every period offset
    → task_fault (record plan { tasks = tasks }) (new_task task.name task.core (Every period offset) task.deadline) ≡ None
periodic_none plan tasks task period offset h e =
    let t : AreTimes (Every period offset) = subst AreTimes e h.numbers.times in
    rw (h.end, h.name, h.new, not_up_to plan.cores task.core h.numbers.core, ranges period offset task.deadline t.positive t.short t.soon h.numbers.deadline, room_left (length tasks) h.room) refl

listed_none : (plan : PlanModel) (tasks : List TaskModel) (task : TaskModel) → IsNext plan tasks task → task_fault (record plan { tasks = tasks }) (new_task task.name task.core (Listed []) task.deadline) ≡ None
listed_none plan tasks task h =
    rw (h.end, h.name, h.new, not_up_to plan.cores task.core h.numbers.core, range task.deadline h.numbers.deadline, room_left (length tasks) h.room) refl

-- the numbers of a task are short
record AreShort (task : TaskModel) : Type 0 where
  core : task.core ≤ 999999999
  deadline : task.deadline ≤ 999999999

short : (plan : PlanModel) (tasks : List TaskModel) (task : TaskModel) → IsNext plan tasks task → AreShort task
short plan tasks task h = let c = h.numbers.core in record { core = omega (arith, c, h.cores); deadline = omega (arith, h.numbers.deadline.1) }

-- the record of a periodic task is accepted, and declares it
periodic_taken : (version : TextVersion) (plan : PlanModel) (tasks : List TaskModel) (task : TaskModel) (period offset : ℕ) → IsNext plan tasks task → task.times ≡ Every period offset
    → body_fault version (record plan { tasks = tasks }) (Some (declaration task (Every period offset))) ≡ None
unfolding field_at
periodic_taken version plan tasks task period offset h e =
    let t : AreTimes (Every period offset) = subst AreTimes e h.numbers.times in
    let s = short plan tasks task h in
    rw (number_again task.core s.core, number_again period (omega (arith, t.short)), number_again task.deadline s.deadline, number_again offset (omega (arith, t.soon)), name_told task.name h.name)
    (periodic_none plan tasks task period offset h e)

periodic_added : (plan : PlanModel) (tasks : List TaskModel) (task : TaskModel) (period offset : ℕ) → IsNext plan tasks task → task.times ≡ Every period offset
    → with_record (record plan { tasks = tasks }) (declaration task (Every period offset)) ≡ with_last plan tasks (record task { times = Every period offset; units = [] })
unfolding field_at
periodic_added plan tasks task period offset h e =
    let t : AreTimes (Every period offset) = subst AreTimes e h.numbers.times in
    let s = short plan tasks task h in
    rw (number_again task.core s.core, number_again period (omega (arith, t.short)), number_again task.deadline s.deadline, number_again offset (omega (arith, t.soon)), name_told task.name h.name) refl

-- and that of a listed one
listed_taken : (plan : PlanModel) (tasks : List TaskModel) (task : TaskModel) (ticks : List ℕ) → IsNext plan tasks task
    → body_fault V2 (record plan { tasks = tasks }) (Some (declaration task (Listed ticks))) ≡ None
unfolding field_at
listed_taken plan tasks task ticks h =
    let s = short plan tasks task h in
    rw (number_again task.core s.core, number_again task.deadline s.deadline, name_told task.name h.name) (listed_none plan tasks task h)

listed_added : (plan : PlanModel) (tasks : List TaskModel) (task : TaskModel) (ticks : List ℕ) → IsNext plan tasks task
    → with_record (record plan { tasks = tasks }) (declaration task (Listed ticks)) ≡ with_last plan tasks (listing task [])
unfolding field_at
listed_added plan tasks task ticks h =
    let s = short plan tasks task h in
    rw (number_again task.core s.core, number_again task.deadline s.deadline, name_told task.name h.name) refl

-- ---- a task
-- the version is told where a task is listed
abbrev pub Suits : TextVersion → ReleaseTimes → Type 0
Suits version times = is_listed times ≡ true → version ≡ V2

-- the times of a task are told
times_told_by : (version : TextVersion) (plan : PlanModel) (tasks : List TaskModel) (task : TaskModel) (times : ReleaseTimes) → IsNext plan tasks task → task.times ≡ times → Suits version times
    → Tells version (record plan { tasks = tasks }) (declaration task times ∷ map release_record (listed_ticks times)) (with_last plan tasks (record task { times = times; units = [] }))
times_told_by version plan tasks task (Every period offset) h e suits =
    tells_first version (record plan { tasks = tasks }) _ _ (declaration task (Every period offset)) [] (periodic_taken version plan tasks task period offset h e) (periodic_added plan tasks task period offset h e) (tells_none version _)
times_told_by version plan tasks task (Listed ticks) h e suits =
    let listed : AreListed ticks = subst AreTimes e h.numbers.times in
    subst (λ v. Tells v (record plan { tasks = tasks }) (declaration task (Listed ticks) ∷ map release_record ticks) (with_last plan tasks (listing task ticks))) (sym (suits refl))
    (tells_first V2 (record plan { tasks = tasks }) (with_last plan tasks (listing task [])) (with_last plan tasks (listing task ticks)) (declaration task (Listed ticks)) (map release_record ticks)
    (listed_taken plan tasks task ticks h) (listed_added plan tasks task ticks h) (releases_told plan tasks task [] ticks listed))

-- the times and then the units
task_told_by : (version : TextVersion) (plan : PlanModel) (tasks : List TaskModel) (task : TaskModel) → IsNext plan tasks task → Suits version task.times → AreNames plan.resources → IsLocking plan task.units → lacks_release task.times ≡ false
    → Tells version (record plan { tasks = tasks }) (task_records plan task) (with_last plan tasks task)
task_told_by version plan tasks task h suits names locking released =
    let again = units_again task.units in
    tells_then version (record plan { tasks = tasks }) (with_last plan tasks (record task { units = [] })) (with_last plan tasks task) (times_records task) (map (step_record plan) (steps_of task.units))
    (times_told_by version plan tasks task task.times h refl suits)
    (subst (λ us. Tells version (with_last plan tasks (record task { units = [] })) (map (step_record plan) (steps_of task.units)) (with_last plan tasks (record task { units = us }))) again
    (units_told version plan tasks task [] (steps_of task.units) released names (some_steps task.units) (subst (IsLocking plan) (sym again) locking) (subst (λ (us : List Op). length us ≤ 4096) (sym again) h.numbers.size)))

-- ---- ends
-- what nothing is held times is empty
held_none : (held : List ℕ) → ((g : ℕ) → held_times g held ≡ 0) → held ≡ []
held_none [] h = refl
held_none (x ∷ held) h =
    let first : held_times x (x ∷ held) ≡ cond (x == x) 1 0 + held_times x held = sum_by-cons (λ k. cond (k == x) 1 0) x held in
    let one : cond {A = ℕ} (x == x) 1 0 ≡ 1 = ap (λ b. cond b 1 0) (same x) in
    absurd (omega (arith, first, one, h x))
  where
    same : (n : ℕ) → (n == n) ≡ true
    same n = grind (arith, nat_tests)

-- a whole task may end
task_ends : (plan : PlanModel) (task : TaskModel) → IsLocking plan task.units → IsWhole task → task_end_fault task ≡ None
task_ends plan task locking whole =
    let us : List Op = task.units in
    let at = locking.nested (length us) in
    let after : held_after us ≡ Some at.0 = subst (λ vs. held_after vs ≡ Some at.0) (take_whole us) at.1 in
    let none : at.0 ≡ [] = held_none at.0 (λ g. let k = even_after g us at.0 after in omega (arith, k.even, whole.balanced g)) in
    let free : is_none_held (held_after us) ≡ true = ap is_none_held (after ∙ ap (λ (hs : List ℕ). Some hs) none) in
    let some : (length us == 0) ≡ false = grind (arith, nat_tests, whole.work) in
    rw (whole.released, some, free) refl
  where
    take_whole : (vs : List Op) → take (length vs) vs ≡ vs
    take_whole [] = refl
    take_whole (v ∷ vs) = ap (λ ws. v ∷ ws) (take_whole vs)

last_ends : (plan : PlanModel) (tasks : List TaskModel) (task : TaskModel) → task_end_fault task ≡ None → end_fault (with_last plan tasks task) ≡ None
last_ends plan tasks task e = ap (λ b. cond b None (task_end_fault (newest_task (with_last plan tasks task)))) (some_tasks tasks task) ∙ (ap task_end_fault (newest_is plan tasks task) ∙ e)

-- ---- all tasks
-- what holds of each task of a plan
pub record IsGood (plan : PlanModel) (version : TextVersion) (task : TaskModel) : Type 0 where
  pub numbers : IsTask plan task
  pub locking : IsLocking plan task.units
  pub whole : IsWhole task
  pub suits : Suits version task.times

pub tasks_told_by : (version : TextVersion) (plan : PlanModel) (done rest : List TaskModel) → AreNames plan.resources → plan.cores ≤ 8 → AreNames (map (λ (u : TaskModel). u.name) (done ++ rest)) → length (done ++ rest) ≤ 64
    → AllByRecursion (IsGood plan version) rest → end_fault (record plan { tasks = done }) ≡ None
    → Tells version (record plan { tasks = done }) (flat_map (task_records plan) rest) (record plan { tasks = done ++ rest }) × (end_fault (record plan { tasks = done ++ rest }) ≡ None)
tasks_told_by version plan done [] resources cores names few good end =
    let same = sym (append-nil done) in
    (subst (λ ts. Tells version (record plan { tasks = done }) [] (record plan { tasks = ts })) same (tells_none version _), subst (λ ts. end_fault (record plan { tasks = ts }) ≡ None) same end)
tasks_told_by version plan done (task ∷ rest) resources cores names few good end =
    let size = length-append done (task ∷ rest) in
    let mapped = map-append (λ (u : TaskModel). u.name) done (task ∷ rest) in
    let split : AreNames (map (λ (u : TaskModel). u.name) done ++ task.name ∷ map (λ (u : TaskModel). u.name) rest) = subst AreNames mapped names in
    let next : IsNext plan done task = record {
      end = end;
      name = names_pass (map (λ (u : TaskModel). u.name) done) task.name (map (λ (u : TaskModel). u.name) rest) split.named;
      new = name_is_new (map (λ (u : TaskModel). u.name) done) task.name (map (λ (u : TaskModel). u.name) rest) split.distinct;
      numbers = good.0.numbers;
      cores = cores;
      room = omega (arith, size, few);
    } in
    let joins = append_assoc done (task ∷ []) rest in
    let first = task_told_by version plan done task next good.0.suits resources good.0.locking good.0.whole.released in
    let later = tasks_told_by version plan (done ++ task ∷ []) rest resources cores (subst (λ ts. AreNames (map (λ (u : TaskModel). u.name) ts)) (sym joins) names) (subst (λ (ts : List TaskModel). length ts ≤ 64) (sym joins) few) good.1
    (last_ends plan done task (task_ends plan task good.0.locking good.0.whole)) in (
      subst (λ ts. Tells version (record plan { tasks = done }) (flat_map (task_records plan) (task ∷ rest)) (record plan { tasks = ts })) joins
          (tells_then version (record plan { tasks = done }) (with_last plan done task) _ (task_records plan task) (flat_map (task_records plan) rest) first later.0),
      subst (λ ts. end_fault (record plan { tasks = ts }) ≡ None) joins later.1,
    )
