-- The units of a task, told step by step, are accepted.
use Rattle.std.proofs.Common.{◌≡◌, ◌+◌, ◌-◌, ◌<◌, ◌≤◌, ◌==◌, ◌∷◌, ◌++◌, ◌∙◌}
use Rattle.msrp_plan.proofs.Common.{ℕ, suc, Bool, true, false, cond, List, [], map, set, take, drop, length, replicate, Option, Some, None, is_none, refl, ap, sym, subst, arith, append_assoc, append-nil, nat_le, nat_lt, nat_eq, length-append, slice_index_or, AllByRecursion, flat_map, list_any, drop-cons, get_or-append_seam, take-append_seam, nat_tests, length_push, length-replicate, length-take-le, take-append-drop, same_Some, none-some, name_position, PlanModel, TaskModel, no_task, held_after, held_with, AreNames, IsLocking, held_push}
use Rattle.msrp_plan.specs.declared.ids.ResId.{ResId}
use Rattle.msrp_plan.specs.declared.rows.TextVersion.{TextVersion}
use Rattle.msrp_plan.specs.declared.units.Op.{Op}
use Rattle.msrp_plan.specs.declared.units.Step.{Step}
use Rattle.std.specs.Prelude.{unwrap_or}
use Rattle.std.proofs.Math.Seq.{set-append_seam}
use Rattle.csv.specs.Records.{field_at}
use Rattle.msrp_plan.specs.Building.{fault_if, held_count, is_improper, is_misnested, is_too_much, is_undeclared, newest_task, op_fault, units_of, with_more_units, with_newest, with_units}
use Rattle.msrp_plan.specs.ReleaseTimes.{lacks_release}
use Rattle.msrp_plan.specs.declared.faults.PlanFault.TheVariants.{Limit, Nesting, Releases, Undeclared}
use Rattle.msrp_plan.specs.declared.units.Op.TheVariants as unit
use Rattle.msrp_plan.specs.declared.units.Step.TheVariants.{Run, Lock, Unlock}
use Rattle.msrp_text.specs.PlanText.{joined, step_record, steps_of}
use Rattle.msrp_text.specs.Fields.{text_of}
use Rattle.msrp_text.specs.Reading.{body_fault, step_told, undeclared, with_record}
use Rattle.msrp_text.proofs.Accepting.{Tells, name_place, name_told, names_pass, tells_first, tells_none}
use Rattle.msrp_text.proofs.Folding.{slice_get-seam}
use Rattle.msrp_text.proofs.Numerals.{number_again}
use Rattle.msrp_text.proofs.Written.{named_unit}
use Rattle.msrp_plan.proofs.Tests.{or_neither, not_up_to}

-- ---- the newest task
-- a plan with this task behind others
abbrev pub with_last : PlanModel → List TaskModel → TaskModel → PlanModel
with_last plan tasks task = record plan { tasks = tasks ++ task ∷ [] }

last_place : (tasks : List TaskModel) (task : TaskModel) → length (tasks ++ task ∷ []) - 1 ≡ length tasks
last_place tasks task = let e = length_push tasks task in omega (arith, e)

pub newest_is : (plan : PlanModel) (tasks : List TaskModel) (task : TaskModel) → newest_task (with_last plan tasks task) ≡ task
newest_is plan tasks task = ap (λ k. slice_index_or (tasks ++ task ∷ []) k no_task) (last_place tasks task) ∙ get_or-append_seam tasks task [] no_task

pub newest_changed : (plan : PlanModel) (tasks : List TaskModel) (task : TaskModel) (changed : TaskModel → TaskModel) → with_newest changed (tasks ++ task ∷ []) ≡ tasks ++ changed task ∷ []
newest_changed plan tasks task changed =
    ap (λ t. set (tasks ++ task ∷ []) (length (tasks ++ task ∷ []) - 1) (changed t)) (newest_is plan tasks task)
    ∙ (ap (λ k. set (tasks ++ task ∷ []) k (changed task)) (last_place tasks task) ∙ set-append_seam tasks task [] (changed task))

-- ---- steps
-- a run is of some work
abbrev pub IsSome : Step → Type 0
IsSome (Run n) = 0 < n
IsSome (Lock g) = Unit {0}
IsSome (Unlock g) = Unit {0}

-- the units of steps
abbrev pub all_units : List Step → List Op
all_units steps = flat_map units_of steps

-- one unit of work more in front
work_joins : (steps : List Step) → all_units (joined steps) ≡ unit.Run ∷ all_units steps
work_joins [] = refl
work_joins (Run n ∷ steps) = let e : n + 1 ≡ suc n = omega arith in ap (λ k. replicate k unit.Run ++ all_units steps) e
work_joins (Lock g ∷ steps) = refl
work_joins (Unlock g ∷ steps) = refl

pub units_again : (us : List Op) → all_units (steps_of us) ≡ us
units_again [] = refl
units_again (unit.Run ∷ us) = work_joins (steps_of us) ∙ ap (λ vs. unit.Run ∷ vs) (units_again us)
units_again (unit.Lock g ∷ us) = ap (λ vs. unit.Lock g ∷ vs) (units_again us)
units_again (unit.Unlock g ∷ us) = ap (λ vs. unit.Unlock g ∷ vs) (units_again us)

some_joined : (steps : List Step) → AllByRecursion IsSome steps → AllByRecursion IsSome (joined steps)
some_joined [] h = (omega arith, tt)
some_joined (Run n ∷ steps) h = (omega (arith, h.0), h.1)
some_joined (Lock g ∷ steps) h = (omega arith, h)
some_joined (Unlock g ∷ steps) h = (omega arith, h)

pub some_steps : (us : List Op) → AllByRecursion IsSome (steps_of us)
some_steps [] = tt
some_steps (unit.Run ∷ us) = some_joined (steps_of us) (some_steps us)
some_steps (unit.Lock g ∷ us) = (tt, some_steps us)
some_steps (unit.Unlock g ∷ us) = (tt, some_steps us)

-- ---- one step
-- what a unit finds held, and leaves held
record IsHeldAt (us : List Op) (u : Op) : Type 0 where
  before : List ℕ
  next : List ℕ
  holds : held_after us ≡ Some before
  step : held_with before u ≡ Some next
  few : length next ≤ 8

held_at : (plan : PlanModel) (us rest : List Op) (u : Op) → IsLocking plan (us ++ u ∷ rest) → IsHeldAt us u
held_at plan us rest u h =
    let here = h.nested (length us) in
    let there = h.nested (length (us ++ u ∷ [])) in
    let a : held_after us ≡ Some here.0 = subst (λ vs. held_after vs ≡ Some here.0) (take-append_seam us (u ∷ rest)) here.1 in
    let whole : take (length (us ++ u ∷ [])) (us ++ u ∷ rest) ≡ us ++ u ∷ [] =
    ap (take (length (us ++ u ∷ []))) (sym (append_assoc us (u ∷ []) rest)) ∙ take-append_seam (us ++ u ∷ []) rest in
    let b : held_after (us ++ u ∷ []) ≡ Some there.0 = subst (λ vs. held_after vs ≡ Some there.0) whole there.1 in
    record { before = here.0; next = there.0; holds = a; step = sym (held_push us u here.0 a) ∙ b; few = there.2 }

-- a step passes each rule of the builder
record IsPassed (plan : PlanModel) (us : List Op) (step : Step) : Type 0 where
  known : is_undeclared plan step ≡ false
  nested : is_misnested us step ≡ false
  room : is_too_much us step ≡ false

proper : (o : Option (List ℕ)) (held next : List ℕ) (u : Op) → o ≡ Some held → held_with held u ≡ Some next → is_improper o u ≡ false
proper o held next u e s = ap (λ p. is_improper p u) e ∙ ap (λ (p : Option (List ℕ)). is_none p) s

locked_size : (held next : List ℕ) (g : ResId) (b : Bool) → list_any (nat_eq g.0) held ≡ b → held_with held (unit.Lock g) ≡ Some next → length next ≡ length held + 1
locked_size held next g true is e = absurd (none-some next (sym (ap (λ c. cond c None (Some (g.0 ∷ held))) is) ∙ e))
locked_size held next g false is e =
    let same : g.0 ∷ held ≡ next = same_Some (g.0 ∷ held) next (sym (ap (λ c. cond c None (Some (g.0 ∷ held))) is) ∙ e) in
    let size = ap (λ (hs : List ℕ). length hs) same in omega (arith, size)

passed : (plan : PlanModel) (us rest : List Op) (step : Step) → IsSome step → IsLocking plan (us ++ (units_of step ++ rest)) → length (us ++ (units_of step ++ rest)) ≤ 4096 → IsPassed plan us step
passed plan us rest (Run n) some h small =
    let size = length-append us (replicate n unit.Run ++ rest) in
    let more = length-append (replicate n unit.Run) rest in
    let count = length-replicate n unit.Run in
    let fits : nat_lt 4096 (length us + n) ≡ false = grind (arith, nat_tests, size, more, count, small) in
    let work : (n == 0) ≡ false = grind (arith, nat_tests, some) in
    record { known = refl; nested = refl; room = or_neither (n == 0) (nat_lt 4096 (length us + n)) work fits }
passed plan us rest (Lock g) some h small =
    let size = length-append us (unit.Lock g ∷ rest) in
    let at = held_at plan us rest (unit.Lock g) h in
    let named = named_unit plan (us ++ unit.Lock g ∷ rest) (length us) (unit.Lock g) h (slice_get-seam us rest (unit.Lock g)) in
    let fits : nat_le 4096 (length us) ≡ false = grind (arith, nat_tests, size, small) in
    let grown = locked_size at.before at.next g _ refl at.step in
    let few : nat_le 8 (length at.before) ≡ false = grind (arith, nat_tests, grown, at.few) in
    record {
      known = not_up_to (length plan.resources) g.0 named;
      nested = proper (held_after us) at.before at.next (unit.Lock g) at.holds at.step;
      room = or_neither (nat_le 4096 (length us)) (nat_le 8 (held_count (held_after us))) fits (ap (λ o. nat_le 8 (held_count o)) at.holds ∙ few);
    }
passed plan us rest (Unlock g) some h small =
    let size = length-append us (unit.Unlock g ∷ rest) in
    let at = held_at plan us rest (unit.Unlock g) h in
    let named = named_unit plan (us ++ unit.Unlock g ∷ rest) (length us) (unit.Unlock g) h (slice_get-seam us rest (unit.Unlock g)) in
    let fits : nat_le 4096 (length us) ≡ false = grind (arith, nat_tests, size, small) in
    record {
      known = not_up_to (length plan.resources) g.0 named;
      nested = proper (held_after us) at.before at.next (unit.Unlock g) at.holds at.step;
      room = fits;
    }

-- ---- its record
-- the resource of a name is the one that has it
resource_again : (names : List (List ℕ)) (g : ℕ) → AreNames names → g < length names → unwrap_or (name_position names (text_of (slice_index_or names g []))) undeclared ≡ g
resource_again names g h within =
    let x : List ℕ = slice_index_or names g [] in
    let split : names ≡ take g names ++ x ∷ drop (suc g) names = sym (take-append-drop g names) ∙ ap (λ ns. take g names ++ ns) (drop-cons names g [] within) in
    let named = subst AreNames split h in
    let is = names_pass (take g names) x (drop (suc g) names) named.named in
    let place : name_position names x ≡ Some (length (take g names)) = ap (λ ns. name_position ns x) split ∙ name_place (take g names) x (drop (suc g) names) named.distinct in
    let size : length (take g names) ≡ g = length-take-le g names (omega (arith, within)) in
    ap (λ n. unwrap_or (name_position names n) undeclared) (name_told x is) ∙ (ap (λ o. unwrap_or o undeclared) place ∙ size)

-- the resource of a step is the plan's, and a run is no longer than a task
abbrev IsKnown : PlanModel → Step → Type 0
IsKnown plan (Run n) = n ≤ 4096
IsKnown plan (Lock g) = g.0 < length plan.resources
IsKnown plan (Unlock g) = g.0 < length plan.resources

known_step : (plan : PlanModel) (us rest : List Op) (step : Step) → IsLocking plan (us ++ (units_of step ++ rest)) → length (us ++ (units_of step ++ rest)) ≤ 4096 → IsKnown plan step
known_step plan us rest (Run n) h small =
    let size = length-append us (replicate n unit.Run ++ rest) in
    let more = length-append (replicate n unit.Run) rest in
    let count = length-replicate n unit.Run in
    omega (arith, size, more, count, small)
known_step plan us rest (Lock g) h small = named_unit plan (us ++ unit.Lock g ∷ rest) (length us) (unit.Lock g) h (slice_get-seam us rest (unit.Lock g))
known_step plan us rest (Unlock g) h small = named_unit plan (us ++ unit.Unlock g ∷ rest) (length us) (unit.Unlock g) h (slice_get-seam us rest (unit.Unlock g))

step_again : (plan : PlanModel) (tasks : List TaskModel) (step : Step) → AreNames plan.resources → IsKnown plan step → step_told (record plan { tasks = tasks }) (step_record plan step) ≡ step
unfolding field_at
step_again plan tasks (Run n) h known = ap (λ o. Run (unwrap_or o 0)) (number_again n (omega (arith, known)))
step_again plan tasks (Lock g) h known = ap (λ n. Lock (record { 0 = n })) (resource_again plan.resources g.0 h known)
step_again plan tasks (Unlock g) h known = ap (λ n. Unlock (record { 0 = n })) (resource_again plan.resources g.0 h known)

op_none : (plan : PlanModel) (task : TaskModel) (step : Step) → newest_task plan ≡ task → lacks_release task.times ≡ false → IsPassed plan task.units step → op_fault plan step ≡ None
op_none plan task step newest released p =
    ap (λ (t : TaskModel). fault_if (lacks_release t.times) Releases (fault_if (is_undeclared plan step) Undeclared (fault_if (is_misnested t.units step) Nesting (fault_if (is_too_much t.units step) Limit None)))) newest
    ∙ rw (released, p.known, p.nested, p.room) refl

pub some_tasks : (tasks : List TaskModel) (task : TaskModel) → (length (tasks ++ task ∷ []) == 0) ≡ false
some_tasks tasks task = let e = length_push tasks task in grind (arith, nat_tests, e)

-- the record of a step is accepted
step_taken : (version : TextVersion) (plan : PlanModel) (tasks : List TaskModel) (task : TaskModel) (step : Step) → AreNames plan.resources → IsKnown plan step → op_fault (with_last plan tasks task) step ≡ None
    → body_fault version (with_last plan tasks task) (Some (step_record plan step)) ≡ None
unfolding field_at
step_taken version plan tasks task (Run n) h known e =
    rw (some_tasks tasks task, number_again n (omega (arith, known))) e
step_taken version plan tasks task (Lock g) h known e =
    rw (some_tasks tasks task) (ap (op_fault (with_last plan tasks task)) (step_again plan (tasks ++ task ∷ []) (Lock g) h known) ∙ e)
step_taken version plan tasks task (Unlock g) h known e =
    rw (some_tasks tasks task) (ap (op_fault (with_last plan tasks task)) (step_again plan (tasks ++ task ∷ []) (Unlock g) h known) ∙ e)

-- and adds its units
by_step : (plan : PlanModel) (tasks : List TaskModel) (task : TaskModel) (step : Step) → with_record (with_last plan tasks task) (step_record plan step) ≡ with_units (with_last plan tasks task) (units_of (step_told (with_last plan tasks task) (step_record plan step)))
unfolding field_at
by_step plan tasks task (Run n) = refl
by_step plan tasks task (Lock g) = refl
by_step plan tasks task (Unlock g) = refl

step_added : (plan : PlanModel) (tasks : List TaskModel) (task : TaskModel) (step : Step) → AreNames plan.resources → IsKnown plan step → with_record (with_last plan tasks task) (step_record plan step) ≡ with_last plan tasks (with_more_units (units_of step) task)
step_added plan tasks task step h known =
    by_step plan tasks task step
    ∙ (ap (λ s. with_units (with_last plan tasks task) (units_of s)) (step_again plan (tasks ++ task ∷ []) step h known)
    ∙ ap (λ ts. record plan { tasks = ts }) (newest_changed plan tasks task (with_more_units (units_of step))))

-- ---- all steps
pub units_told : (version : TextVersion) (plan : PlanModel) (tasks : List TaskModel) (task : TaskModel) (us : List Op) (steps : List Step)
    → lacks_release task.times ≡ false → AreNames plan.resources → AllByRecursion IsSome steps → IsLocking plan (us ++ all_units steps) → length (us ++ all_units steps) ≤ 4096
    → Tells version (with_last plan tasks (record task { units = us })) (map (step_record plan) steps) (with_last plan tasks (record task { units = us ++ all_units steps }))
units_told version plan tasks task us [] released h some locking small =
    subst (λ vs. Tells version (with_last plan tasks (record task { units = us })) [] (with_last plan tasks (record task { units = vs }))) (sym (append-nil us)) (tells_none version _)
units_told version plan tasks task us (step ∷ steps) released h some locking small =
    let here : TaskModel = record task { units = us } in
    let known = known_step plan us (all_units steps) step locking small in
    let p = passed plan us (all_units steps) step some.0 locking small in
    let none = op_none (with_last plan tasks here) here step (newest_is plan tasks here) released (record { known = p.known; nested = p.nested; room = p.room }) in
    let joins = append_assoc us (units_of step) (all_units steps) in
    tells_first version (with_last plan tasks here) (with_last plan tasks (record task { units = us ++ units_of step })) _ (step_record plan step) (map (step_record plan) steps)
    (step_taken version plan tasks here step h known none) (step_added plan tasks here step h known)
    (subst (λ vs. Tells version (with_last plan tasks (record task { units = us ++ units_of step })) (map (step_record plan) steps) (with_last plan tasks (record task { units = vs }))) joins
    (units_told version plan tasks task (us ++ units_of step) steps released h some.1 (subst (IsLocking plan) (sym joins) locking) (subst (λ (vs : List Op). length vs ≤ 4096) (sym joins) small)))
