-- What each call of the builder keeps of its draft, and what the last call makes of it.
use Rattle.msrp_plan.specs.Common.{ℕ, nat_lt, nat_le, Bool, true, false, cond, not, List, [], length, map, set, drop, replicate, nat_eq, is_none, slice_index_or, Some, None, list_any, bytes_eq, PlanModel, TaskModel, task_at, no_task, has_name, held_after, held_with, IsLocking, ReleaseTimes, Every, Listed, AreTimes, listed_ticks, empty_plan, new_fault, resource_fault, task_fault, release_fault, op_fault, with_resource, with_task, with_release, with_units, takes_releases, units_of, is_within}
use Rattle.msrp_plan.specs.declared.ids.ResId.{ResId}
use Rattle.msrp_plan.specs.declared.units.Op.{Op}
use Rattle.msrp_plan.specs.declared.units.Step.{Step}
use Rattle.msrp_plan.specs.declared.faults.PlanFault.TheVariants.{Limit}
use Rattle.std.proofs.Common.{◌≡◌, ◌+◌, ◌-◌, ◌<◌, ◌≤◌, ◌==◌, ◌&&◌, ◌||◌, ◌∷◌, ◌++◌, refl, ap, sym, subst, ◌∙◌, inl, inr, arith}
use Rattle.std.specs.List.{slice_get}
use Rattle.std.specs.List.Sorted.{IsStrictlyIncreasing}
use Rattle.std.specs.Cmp.Lexicographic.{nat_list_eq_equiv}
use Rattle.std.proofs.lemmas.Bool.{cases_eq, or_parts, true≢false, ltb-true, not-false, and_parts, leb-false, leb-true, ltb-false, eqb-false, eqb-true}
use Rattle.std.proofs.lemmas.Option.{same_Some, slice_get-get_or}
use Rattle.std.proofs.lemmas.List.{length-append, length-drop, length-replicate, length_push, length-set, map_push, map-set, set-get_or, get_or-map, get_or_append_left, get_or_push, get_or_past, get_or-set_same, get_or-set_other}
use Rattle.std.proofs.lemmas.List.Elements.{All-nil, All-push}
use Rattle.std.proofs.lemmas.Map.Keys.{IsDistinct-push, IsDistinct-from_apart}
use Rattle.msrp_plan.specs.Names.{is_name}
use Rattle.msrp_plan.specs.WellFormed.{AreNames, IsTask, IsWhole}
use Rattle.msrp_plan.specs.ReleaseTimes.{AreListed, is_listed, lacks_release, with_tick}
use Rattle.msrp_plan.specs.Building.{AreNew, tick_fault, end_fault, task_end_fault, with_newest, with_more_ticks, with_more_units, newest_task, newest_units, is_above, are_in_range, is_in_range, is_none_held, is_undeclared, is_improper, is_misnested, is_too_much, held_count}
use Rattle.msrp_plan.specs.Inside.Views.{IsGrowing}
use Rattle.msrp_plan.specs.declared.units.Op.TheVariants.{Run as RunUnit, Lock as LockUnit, Unlock as UnlockUnit}
use Rattle.msrp_plan.specs.declared.units.Step.TheVariants.{Run, Lock, Unlock}
use Rattle.msrp_plan.specs.declared.faults.PlanFault.TheVariants.{Name, Taken, Core, NoUnit, Nesting, Releases, Undeclared}
use Rattle.msrp_plan.proofs.Building.Faultless.{fails, neither, within, none_held}
use Rattle.msrp_plan.proofs.TaskUnits.Nesting.{IsHeld, even_after, held_few, held_times, locks_none, locks_push, locks_wider, runs_push}

-- no names
names_none : AreNames []
names_none = record { named = All-nil (λ name. is_name name ≡ true); distinct = IsDistinct-from_apart bytes_eq [] (λ i j d before past. absurd (omega arith)) }

-- one name more
names_push : (names : List (List ℕ)) (name : List ℕ) → is_name name ≡ true → has_name names name ≡ false → AreNames names → AreNames (names ++ name ∷ [])
names_push names name is new h = record { named = All-push (λ n. is_name n ≡ true) names name h.named is; distinct = IsDistinct-push nat_list_eq_equiv names name h.distinct new }

-- no resource and no task yet
pub growing_none : (cores ticks : ℕ) → new_fault cores ticks ≡ None → IsGrowing (empty_plan cores ticks) []
growing_none cores ticks e =
    let parts = and_parts (is_within 1 8 cores) (is_within 1 20000 ticks) (not-false _ (fails _ Limit None e).0) in
    record {
      draft = record {
        cores = within 1 8 cores parts.0;
        ticks = within 1 20000 ticks parts.1;
        resources = omega arith;
        tasks = omega arith;
        resource_names = names_none;
        task_names = names_none;
        each = λ t past. absurd (omega arith);
        locking = λ t past. absurd (omega arith);
      };
      whole = λ t past. absurd (omega arith);
      holds = refl;
    }

-- the numbers of a task, where more resources are declared
task_wider : (plan more : PlanModel) (task : TaskModel) → plan.cores ≡ more.cores → IsTask plan task → IsTask more task
task_wider plan more task same h = record { core = omega (arith, h.core, same); times = h.times; deadline = h.deadline; size = h.size }

-- one resource more
pub growing_resource : (plan : PlanModel) (held name : List ℕ) → IsGrowing plan held → resource_fault plan name ≡ None → IsGrowing (with_resource plan name) held
growing_resource plan held name h e =
    let a = fails _ Name _ e in
    let b = fails _ Taken _ a.1 in
    let c = fails _ Limit _ b.1 in
    let room : length plan.resources < 32 = leb-false 32 (length plan.resources) c.0 in
    let more : length (plan.resources ++ name ∷ []) ≡ length plan.resources + 1 = length_push plan.resources name in
    record {
      draft = record {
        cores = h.draft.cores;
        ticks = h.draft.ticks;
        resources = omega (arith, more, room);
        tasks = h.draft.tasks;
        resource_names = names_push plan.resources name (not-false _ a.0) b.0 h.draft.resource_names;
        task_names = h.draft.task_names;
        each = λ t past. task_wider plan (with_resource plan name) (task_at plan t) refl (h.draft.each t past);
        locking = λ t past. locks_wider plan (with_resource plan name) (task_at plan t).units (omega (arith, more)) (h.draft.locking t past);
      };
      whole = h.whole;
      holds = h.holds;
    }

-- the name of a resource that is accepted is new
pub resource_new : (plan : PlanModel) (name : List ℕ) → resource_fault plan name ≡ None → has_name plan.resources name ≡ false
resource_new plan name e = (fails _ Taken _ (fails _ Name _ e).1).0

-- what holds of each task, and of one more
at_push : (P : TaskModel → Type 0) (tasks : List TaskModel) (task : TaskModel) → ((t : ℕ) → t < length tasks → P (slice_index_or tasks t no_task)) → P task
    → (t : ℕ) → t < length (tasks ++ task ∷ []) → P (slice_index_or (tasks ++ task ∷ []) t no_task)
at_push P tasks task each one t past = elim (cases_eq t (length tasks)) [
  | inl last ↦ subst P (sym (get_or_push tasks task no_task t (sym last))) one
  | inr other ↦
      let more : length (tasks ++ task ∷ []) ≡ length tasks + 1 = length_push tasks task in
      let before : t < length tasks = omega (arith, more, past, other) in
      subst P (sym (get_or_append_left tasks (task ∷ []) no_task t before)) (each t before)
]

-- what holds of each task, and of the one that is put in a place
at_set : (P : TaskModel → Type 0) (tasks : List TaskModel) (place : ℕ) (task : TaskModel) → ((t : ℕ) → t < length tasks → P (slice_index_or tasks t no_task)) → P task
    → (t : ℕ) → t < length (set tasks place task) → P (slice_index_or (set tasks place task) t no_task)
at_set P tasks place task each one t past =
    let size : length (set tasks place task) ≡ length tasks = length-set tasks place task in
    let before : t < length tasks = omega (arith, size, past) in
    elim (cases_eq t place) [
      | inl here ↦ subst (λ k. P (slice_index_or (set tasks k task) t no_task)) here (subst P (sym (get_or-set_same tasks t task no_task before)) one)
      | inr other ↦ subst P (sym (get_or-set_other tasks place t task no_task other)) (each t before)
    ]

-- a task that ends where it may is whole
task_whole : (task : TaskModel) → task_end_fault task ≡ None → (held_after task.units ≡ Some []) × IsWhole task
task_whole task e =
    let us : List Op = task.units in
    let r = fails (lacks_release task.times) Releases _ e in
    let a = fails (length us == 0) NoUnit _ r.1 in
    let b = fails (not (is_none_held (held_after us))) Nesting None a.1 in
    let none : held_after us ≡ Some [] = none_held (held_after us) (not-false _ b.0) in
    let some : length us ≡ 0 → ⊥ = eqb-false (length us) 0 a.0 in
    (none, record { released = r.0; work = omega (arith, some); balanced = λ g. let k = even_after g us [] none in let z : held_times g [] ≡ 0 = refl in omega (arith, k.even, z) })

-- what a draft that may end holds, and that its newest task is whole
record IsEnded (plan : PlanModel) (held : List ℕ) : Type 0 where
  empty : held ≡ []
  whole : 0 < length plan.tasks → IsWhole (newest_task plan)

ended_by : (plan : PlanModel) (held : List ℕ) (b : Bool) → held_after (newest_units plan) ≡ Some held → (length plan.tasks == 0) ≡ b → cond b None (task_end_fault (newest_task plan)) ≡ None → IsEnded plan held
ended_by plan held true holds is e =
    let none : length plan.tasks ≡ 0 = eqb-true (length plan.tasks) 0 is in
    let past : task_at plan (length plan.tasks - 1) ≡ no_task = get_or_past plan.tasks (length plan.tasks - 1) no_task (omega (arith, none)) in
    let us : newest_units plan ≡ [] = ap (λ (task : TaskModel). task.units) past in
    record { empty = same_Some held [] (sym holds ∙ ap held_after us); whole = λ some. absurd (omega (arith, none, some)) }
ended_by plan held false holds is e =
    let k = task_whole (newest_task plan) e in
    record { empty = same_Some held [] (sym holds ∙ k.0); whole = λ some. k.1 }

ended : (plan : PlanModel) (held : List ℕ) → IsGrowing plan held → end_fault plan ≡ None → IsEnded plan held
ended plan held h e = ended_by plan held (length plan.tasks == 0) h.holds refl e

-- every task is whole in a draft that may end
pub all_whole : (plan : PlanModel) (held : List ℕ) → IsGrowing plan held → end_fault plan ≡ None → (t : ℕ) → t < length plan.tasks → IsWhole (task_at plan t)
all_whole plan held h e t past = elim (cases_eq (t + 1) (length plan.tasks)) [
  | inl last ↦ let same : t ≡ length plan.tasks - 1 = omega (arith, last) in subst (λ k. IsWhole (task_at plan k)) (sym same) ((ended plan held h e).whole (omega (arith, past)))
  | inr other ↦ h.whole t (omega (arith, past, other))
]

-- no tick
listed_none : AreListed []
listed_none = record { few = omega arith; soon = All-nil (λ tick. tick ≤ 1000000); rising = λ k past. absurd (omega (arith, past)) }

-- release times in their ranges, as a task is declared with them
times_are : (times : ReleaseTimes) → AreNew times → are_in_range times ≡ true → AreTimes times
times_are (Every period offset) new range =
    let a = and_parts (is_within 1 1000000 period) (nat_le offset 1000000) range in
    let b = within 1 1000000 period a.0 in
    record { positive = b.0; short = b.1; soon = leb-true offset 1000000 a.1 }
times_are (Listed ticks) new range = subst AreListed (sym new) listed_none

-- the numbers of a task that is accepted
task_is : (plan : PlanModel) (task : TaskModel) → AreNew task.times → task.units ≡ [] → nat_le plan.cores task.core ≡ false → is_in_range task ≡ true → IsTask plan task
task_is plan task new none core range =
    let a = and_parts (are_in_range task.times) (is_within 1 1000000 task.deadline) range in
    let size : length task.units ≡ 0 = ap length none in
    record {
      core = leb-false plan.cores task.core core;
      times = times_are task.times new a.0;
      deadline = within 1 1000000 task.deadline a.1;
      size = omega (arith, size);
    }

-- what a task that is accepted passes
record IsAccepted (plan : PlanModel) (task : TaskModel) : Type 0 where
  end : end_fault plan ≡ None
  name : is_name task.name ≡ true
  new : has_name (map (λ u. u.name) plan.tasks) task.name ≡ false
  core : nat_le plan.cores task.core ≡ false
  range : is_in_range task ≡ true
  room : length plan.tasks < 64

accepted : (plan : PlanModel) (task : TaskModel) → task_fault plan task ≡ None → IsAccepted plan task
accepted plan task e =
    let a = neither (end_fault plan) _ e in
    let b = fails _ Name _ a.1 in
    let c = fails _ Taken _ b.1 in
    let d = fails _ Core _ c.1 in
    let f = fails _ Limit _ d.1 in
    let g = or_parts (not (is_in_range task)) (nat_le 64 (length plan.tasks)) f.0 in
    record { end = a.0; name = not-false _ b.0; new = c.0; core = d.0; range = not-false _ g.0; room = leb-false 64 (length plan.tasks) g.1 }

-- the name of a task that is accepted is new
pub task_new : (plan : PlanModel) (task : TaskModel) → task_fault plan task ≡ None → has_name (map (λ (u : TaskModel). u.name) plan.tasks) task.name ≡ false
task_new plan task e = (accepted plan task e).new

-- one task more
pub growing_task : (plan : PlanModel) (held : List ℕ) (task : TaskModel) → IsGrowing plan held → AreNew task.times → task.units ≡ [] → task_fault plan task ≡ None → IsGrowing (with_task plan task) held
growing_task plan held task h fresh none e =
    let k = accepted plan task e in
    let more : length (plan.tasks ++ task ∷ []) ≡ length plan.tasks + 1 = length_push plan.tasks task in
    let names : map (λ (u : TaskModel). u.name) (plan.tasks ++ task ∷ []) ≡ map (λ (u : TaskModel). u.name) plan.tasks ++ task.name ∷ [] = map_push (λ (u : TaskModel). u.name) plan.tasks task in
    let newest : task_at (with_task plan task) (length (plan.tasks ++ task ∷ []) - 1) ≡ task = get_or_push plan.tasks task no_task _ (omega (arith, more)) in
    let us : newest_units (with_task plan task) ≡ [] = ap (λ (u : TaskModel). u.units) newest ∙ none in
    record {
      draft = record {
        cores = h.draft.cores;
        ticks = h.draft.ticks;
        resources = h.draft.resources;
        tasks = omega (arith, more, k.room);
        resource_names = h.draft.resource_names;
        task_names = subst AreNames (sym names) (names_push _ task.name k.name k.new h.draft.task_names);
        each = at_push (IsTask (with_task plan task)) plan.tasks task (λ t past. task_wider plan (with_task plan task) (task_at plan t) refl (h.draft.each t past))
            (task_wider plan (with_task plan task) task refl (task_is plan task fresh none k.core k.range));
        locking = at_push (λ u. IsLocking (with_task plan task) u.units) plan.tasks task (λ t past. locks_wider plan (with_task plan task) (task_at plan t).units (omega arith) (h.draft.locking t past))
            (subst (IsLocking (with_task plan task)) (sym none) (locks_none (with_task plan task)));
      };
      whole = λ t past.
          let before : t < length plan.tasks = omega (arith, more, past) in
          subst IsWhole (sym (get_or_append_left plan.tasks (task ∷ []) no_task t before)) (all_whole plan held h k.end t before);
      holds = ap held_after us ∙ ap Some (sym (ended plan held h k.end).empty);
    }

-- the names of the tasks, where a task is put in the place of one of its name
names_set : (tasks : List TaskModel) (place : ℕ) (task : TaskModel) → place < length tasks → task.name ≡ (slice_index_or tasks place no_task).name
    → map (λ (u : TaskModel). u.name) (set tasks place task) ≡ map (λ (u : TaskModel). u.name) tasks
names_set tasks place task within same =
    let name = λ (u : TaskModel). u.name in
    map-set name tasks place task ∙ ap (set (map name tasks) place) (same ∙ sym (get_or-map name tasks place no_task [] within)) ∙ set-get_or (map name tasks) place []

-- another task in place of the newest, under its name
growing_newest : (plan : PlanModel) (held next : List ℕ) (changed : TaskModel → TaskModel) → IsGrowing plan held → 0 < length plan.tasks → (changed (newest_task plan)).name ≡ (newest_task plan).name
    → IsTask plan (changed (newest_task plan)) → IsHeld plan (changed (newest_task plan)).units next → IsGrowing (record plan { tasks = with_newest changed plan.tasks }) next
growing_newest plan held next changed h some named is k =
    let last : ℕ = length plan.tasks - 1 in
    let within : last < length plan.tasks = omega arith in
    let task : TaskModel = changed (task_at plan last) in
    let more : PlanModel = record plan { tasks = set plan.tasks last task } in
    let same : length (set plan.tasks last task) ≡ length plan.tasks = length-set plan.tasks last task in
    let newest : task_at more (length (set plan.tasks last task) - 1) ≡ task =
    ap (λ n. slice_index_or (set plan.tasks last task) (n - 1) no_task) same ∙ get_or-set_same plan.tasks last task no_task within in
    record {
      draft = record {
        cores = h.draft.cores;
        ticks = h.draft.ticks;
        resources = h.draft.resources;
        tasks = omega (arith, same, h.draft.tasks);
        resource_names = h.draft.resource_names;
        task_names = subst AreNames (sym (names_set plan.tasks last task within named)) h.draft.task_names;
        each = at_set (IsTask more) plan.tasks last task (λ t past. task_wider plan more (task_at plan t) refl (h.draft.each t past)) (task_wider plan more task refl is);
        locking = at_set (λ u. IsLocking more u.units) plan.tasks last task (λ t past. locks_wider plan more (task_at plan t).units (omega arith) (h.draft.locking t past))
            (locks_wider plan more task.units (omega arith) k.locking);
      };
      whole = λ t past.
          let before : t + 1 < length plan.tasks = omega (arith, same, past) in
          let other : t ≡ last → ⊥ = λ e. omega (arith, before, e) in
          subst IsWhole (sym (get_or-set_other plan.tasks last t task no_task other)) (h.whole t before);
      holds = ap (λ (u : TaskModel). held_after u.units) newest ∙ k.after;
    }

-- the newest task with more units
growing_units : (plan : PlanModel) (held next : List ℕ) (us : List Op) → IsGrowing plan held → 0 < length plan.tasks → length (newest_units plan ++ us) ≤ 4096
    → IsHeld plan (newest_units plan ++ us) next → IsGrowing (with_units plan us) next
growing_units plan held next us h some size k =
    let old = h.draft.each (length plan.tasks - 1) (omega arith) in
    growing_newest plan held next (with_more_units us) h some refl (record { core = old.core; times = old.times; deadline = old.deadline; size = size }) k

-- how the newest task locks as far as it goes
newest_held : (plan : PlanModel) (held : List ℕ) → IsGrowing plan held → 0 < length plan.tasks → IsHeld plan (newest_units plan) held
newest_held plan held h some = record { locking = h.draft.locking (length plan.tasks - 1) (omega arith); after = h.holds }

-- a tick above the last of a list
rising_push : (ticks : List ℕ) (tick : ℕ) → IsStrictlyIncreasing ticks → is_above (slice_get ticks (length ticks - 1)) tick ≡ true → IsStrictlyIncreasing (ticks ++ tick ∷ [])
rising_push ticks tick rising above k within =
    let size = length_push ticks tick in
    elim (cases_eq (k + 1) (length ticks)) [
      | inl last ↦
          let before : slice_get ticks (length ticks - 1) ≡ Some (slice_index_or ticks k 0) = ap (slice_get ticks) (omega (arith, last)) ∙ slice_get-get_or ticks k 0 (omega (arith, last)) in
          let less = ltb-true (slice_index_or ticks k 0) tick (sym (ap (λ o. is_above o tick) before) ∙ above) in
          omega (arith, less, get_or_append_left ticks (tick ∷ []) 0 k (omega (arith, last)), get_or_push ticks tick 0 (k + 1) (sym last))
      | inr other ↦
          let more : k + 1 < length ticks = omega (arith, within, size, other) in
          omega (arith, rising k more, get_or_append_left ticks (tick ∷ []) 0 k (omega (arith, more)), get_or_append_left ticks (tick ∷ []) 0 (k + 1) more)
    ]

listed_push : (ticks : List ℕ) (tick : ℕ) → AreListed ticks → tick_fault ticks tick ≡ None → AreListed (ticks ++ tick ∷ [])
listed_push ticks tick h e =
    let a = fails (nat_lt 1000000 tick || nat_le 8192 (length ticks)) Limit _ e in
    let b = fails (not (is_above (slice_get ticks (length ticks - 1)) tick)) Releases None a.1 in
    let c = or_parts (nat_lt 1000000 tick) (nat_le 8192 (length ticks)) a.0 in
    record {
      few = omega (arith, length_push ticks tick, leb-false 8192 (length ticks) c.1);
      soon = All-push (λ t. t ≤ 1000000) ticks tick h.soon (ltb-false 1000000 tick c.0);
      rising = rising_push ticks tick h.rising (not-false _ b.0);
    }

times_push : (times : ReleaseTimes) (tick : ℕ) → AreTimes times → tick_fault (listed_ticks times) tick ≡ None → AreTimes (with_tick times tick)
times_push (Every period offset) tick h e = h
times_push (Listed ticks) tick h e = listed_push ticks tick h e

-- the newest task with one release more
pub growing_release : (plan : PlanModel) (held : List ℕ) (tick : ℕ) → IsGrowing plan held → 0 < length plan.tasks → release_fault plan tick ≡ None → IsGrowing (with_release plan tick) held
growing_release plan held tick h some e =
    let old = h.draft.each (length plan.tasks - 1) (omega arith) in
    growing_newest plan held held (with_more_ticks tick) h some refl
    (record { core = old.core; times = times_push (newest_task plan).times tick old.times e; deadline = old.deadline; size = old.size }) (newest_held plan held h some)

-- a task takes releases only where there is one
pub takes_some : (plan : PlanModel) → takes_releases plan ≡ true → 0 < length plan.tasks
takes_some plan e = elim (cases_eq (length plan.tasks) 0) [
  | inl none ↦
      let past : newest_task plan ≡ no_task = get_or_past plan.tasks (length plan.tasks - 1) no_task (omega (arith, none)) in
      absurd (true≢false (sym e ∙ ap (λ (task : TaskModel). is_listed task.times && (length task.units == 0)) past))
  | inr some ↦ omega (arith, some)
]

-- what a step that is accepted passes
record IsTaken (plan : PlanModel) (step : Step) : Type 0 where
  known : is_undeclared plan step ≡ false
  nested : is_misnested (newest_units plan) step ≡ false
  room : is_too_much (newest_units plan) step ≡ false

taken : (plan : PlanModel) (step : Step) → op_fault plan step ≡ None → IsTaken plan step
taken plan step e =
    let r = fails (lacks_release (newest_task plan).times) Releases _ e in
    let a = fails (is_undeclared plan step) Undeclared _ r.1 in
    let b = fails (is_misnested (newest_units plan) step) Nesting _ a.1 in
    let c = fails (is_too_much (newest_units plan) step) Limit None b.1 in
    record { known = a.0; nested = b.0; room = c.0 }

-- units of work
pub growing_run : (plan : PlanModel) (held : List ℕ) (n : ℕ) → IsGrowing plan held → 0 < length plan.tasks → op_fault plan (Run n) ≡ None → IsGrowing (with_units plan (units_of (Run n))) held
growing_run plan held n h some e =
    let room = (or_parts (n == 0) _ (taken plan (Run n) e).room).1 in
    let size : length (newest_units plan ++ replicate n RunUnit) ≡ length (newest_units plan) + n = length-append _ _ ∙ ap (λ k. length (newest_units plan) + k) (length-replicate n RunUnit) in
    growing_units plan held held (replicate n RunUnit) h some (omega (arith, size, ltb-false _ _ room)) (runs_push plan n (newest_units plan) held (newest_held plan held h some))

-- what is held once more where it wasn't held
lock_step : (g : ResId) (held : List ℕ) (b : Bool) → list_any (nat_eq g.0) held ≡ b → is_none {T = List ℕ} (cond b None (Some (g.0 ∷ held))) ≡ false → held_with held (LockUnit g) ≡ Some (g.0 ∷ held)
lock_step g held true is e = absurd (cc)
lock_step g held false is e = ap (λ c. cond c None (Some (g.0 ∷ held))) is

-- a lock is improper where the resource is held
pub improper_lock : (g : ResId) (held : List ℕ) (b : Bool) → list_any (nat_eq g.0) held ≡ b → b ≡ is_improper (Some held) (LockUnit g)
improper_lock g held true is = sym (ap (λ c. is_none {T = List ℕ} (cond c None (Some (g.0 ∷ held)))) is)
improper_lock g held false is = sym (ap (λ c. is_none {T = List ℕ} (cond c None (Some (g.0 ∷ held)))) is)

pub growing_lock : (plan : PlanModel) (held : List ℕ) (g : ResId) → IsGrowing plan held → 0 < length plan.tasks → op_fault plan (Lock g) ≡ None → IsGrowing (with_units plan (units_of (Lock g))) (g.0 ∷ held)
growing_lock plan held g h some e =
    let k = taken plan (Lock g) e in
    let us : List Op = newest_units plan in
    let rooms = or_parts (nat_le 4096 (length us)) (nat_le 8 (held_count (held_after us))) k.room in
    let few : nat_le 8 (length held) ≡ false = sym (ap (λ o. nat_le 8 (held_count o)) h.holds) ∙ rooms.1 in
    let fresh : is_improper (Some held) (LockUnit g) ≡ false = sym (ap (λ o. is_improper o (LockUnit g)) h.holds) ∙ k.nested in
    let size : length (us ++ LockUnit g ∷ []) ≡ length us + 1 = length_push us (LockUnit g) in
    growing_units plan held (g.0 ∷ held) (LockUnit g ∷ []) h some (omega (arith, size, leb-false _ _ rooms.0))
    (locks_push plan us (LockUnit g) held (g.0 ∷ held) (newest_held plan held h some) (lock_step g held _ refl fresh) (omega (arith, leb-false _ _ few))
    (λ r same. let n : g ≡ r = cc in omega (arith, leb-false _ _ k.known, ap (λ (x : ResId). x.0) n)))

-- what is left where the innermost is unlocked
unlock_step : (g : ResId) (held : List ℕ) → is_improper (Some held) (UnlockUnit g) ≡ false → held_with held (UnlockUnit g) ≡ Some (drop 1 held)
unlock_step g [] e = absurd (cc)
unlock_step g (h ∷ held) e = by (g.0 == h) refl e
  where
    by : (b : Bool) → g.0 == h ≡ b → is_none {T = List ℕ} (cond b (Some held) None) ≡ false → held_with (h ∷ held) (UnlockUnit g) ≡ Some held
    by true is f = ap (λ c. cond c (Some held) None) is
    by false is f = absurd (cc)

no_lock : (g r : ResId) → UnlockUnit g ≡ LockUnit r → ⊥
no_lock g r e = cc

pub growing_unlock : (plan : PlanModel) (held : List ℕ) (g : ResId) → IsGrowing plan held → 0 < length plan.tasks → op_fault plan (Unlock g) ≡ None → IsGrowing (with_units plan (units_of (Unlock g))) (drop 1 held)
growing_unlock plan held g h some e =
    let k = taken plan (Unlock g) e in
    let us : List Op = newest_units plan in
    let proper : is_improper (Some held) (UnlockUnit g) ≡ false = sym (ap (λ o. is_improper o (UnlockUnit g)) h.holds) ∙ k.nested in
    let size : length (us ++ UnlockUnit g ∷ []) ≡ length us + 1 = length_push us (UnlockUnit g) in
    let before = newest_held plan held h some in
    let few : length held ≤ 8 = held_few plan us held before in
    growing_units plan held (drop 1 held) (UnlockUnit g ∷ []) h some (omega (arith, size, leb-false _ _ k.room))
    (locks_push plan us (UnlockUnit g) held (drop 1 held) before (unlock_step g held proper) (omega (arith, few, length-drop 1 held)) (λ r same. absurd (no_lock g r same)))
