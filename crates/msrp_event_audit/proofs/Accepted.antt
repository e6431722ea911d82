-- An event that shows nothing finds room for what it changes, and jobs stay those of the system's
-- tasks.
use Rattle.std.proofs.Common.{◌≡◌, ◌+◌, ◌<◌, ◌≤◌, ◌^◌, ◌∙◌}
use Rattle.msrp_plan.proofs.Common.{ℕ, false, cond, List, Option, Some, None, IfSome, refl, ap, sym, subst, inl, inr, arith, length, slice_get, get_or, nat_le, option_or, get_or_past, slice_get-get_or, slice_get_within, cases_lt, PlanModel, TaskModel, All, All-push, task_at, no_task}
use Rattle.std.proofs.lemmas.List.{set_past}
use Rattle.std.proofs.lemmas.List.Elements.{All-set, All-get_or}
use Rattle.std.proofs.lemmas.List.Quantifiers.{position-Some}
use Rattle.std.specs.Option.{option_and_then}
use Rattle.msrp_plan.specs.Jobs.{same_job}
use Rattle.std.specs.Prelude.{remove}
use Rattle.msrp_plan.specs.Plan.{units}
use Rattle.msrp_plan.specs.declared.ids.JobId.{JobId}
use Rattle.msrp_plan.specs.declared.units.Op.{Op}
use Rattle.msrp_system.specs.Systems.{most_steps}
use Rattle.msrp_system.specs.Inside.Views.{IsSystem}
use Rattle.msrp_events.specs.LiveJobs.{next_unit, place_of, live}
use Rattle.msrp_events.specs.Changes.{LogState, no_job, changed_at, without_at, last_at, released, as_started, as_waiting, as_stepped, jobs_stepped, jobs_with}
use Rattle.msrp_events.specs.Rules.{is_next_step}
use Rattle.msrp_events.specs.Findings.{continuity, time_finding, action_finding, finding_of, job_finding, step_of_finding}
use Rattle.msrp_events.specs.declared.events.Action.{Action}
use Rattle.msrp_events.specs.declared.events.Action.TheVariants.{Boot, Release, Switch, Step, End, Stop, Lost}
use Rattle.msrp_events.specs.declared.events.LockAction.{LockAction}
use Rattle.msrp_events.specs.declared.events.LockAction.TheVariants.{Lock, Unlock, Request, Acquire, Poll, Freed}
use Rattle.msrp_events.specs.declared.events.Event.{Event}
use Rattle.msrp_events.specs.declared.findings.LogRule.TheVariants.{E3, E7, E8}
use Rattle.msrp_events.specs.declared.findings.Missing.TheVariants as missing
use Rattle.msrp_events.specs.declared.states.LiveJob.{LiveJob}
use Rattle.msrp_events.specs.declared.states.Tolerances.{Tolerances}
use Rattle.msrp_event_audit.specs.LogJobs.{IsKnown}
use Rattle.msrp_event_audit.specs.States.{CanStep, CanChange, CanCount}
use Rattle.msrp_event_audit.proofs.Following.{or_parts, fault_parts, lacks_parts, below, has_unit, in_order, All-remove}

-- ---- room
-- a task, also one that isn't there, has few steps
few_steps : (system : PlanModel) → IsSystem system → (t : ℕ) → length (task_at system t).units ≤ most_steps
few_steps system fits t = elim (cases_lt t (length system.tasks)) [
  | inl l ↦ fits.steps t l
  | inr g ↦ let none = ap (λ (x : TaskModel). length x.units) (get_or_past system.tasks t no_task g) in omega (arith, none)
]

-- a job has a next unit, so it has done few steps
few_done : (system : PlanModel) → IsSystem system → (j : LiveJob) (u : Op) → next_unit system j ≡ Some u → j.step + 1 < 2 ^ 32
few_done system fits j u h =
    let within = slice_get_within (units system j.job) j.step u h in
    let few = few_steps system fits j.job.task.0 in
    omega arith

-- the place of a job is one of the places
placed : (jobs : List LiveJob) (j : JobId) (i : ℕ) → place_of jobs j ≡ Some i → i < length jobs
placed jobs j i at = (position-Some (λ (x : LiveJob). same_job x.job j) jobs i no_job at).0

pub all_placed : (jobs : List LiveJob) (j : JobId) (o : Option ℕ) → o ≡ place_of jobs j → IfSome o (λ i. i < length jobs)
all_placed jobs j None at = tt
all_placed jobs j (Some i) at = placed jobs j i (sym at)

-- the job of a place, and none where no place is found
pub live_placed : (jobs : List LiveJob) (j : JobId) (i : ℕ) → place_of jobs j ≡ Some i → live jobs j ≡ Some (get_or jobs i no_job)
live_placed jobs j i at = ap (option_and_then (slice_get jobs)) at ∙ slice_get-get_or jobs i no_job (placed jobs j i at)

pub live_absent : (jobs : List LiveJob) (j : JobId) → place_of jobs j ≡ None → live jobs j ≡ None
live_absent jobs j at = ap (option_and_then (slice_get jobs)) at

step_room : (system : PlanModel) → IsSystem system → (s : LogState) (kind : LockAction) (j : JobId) (g : ℕ) → step_of_finding system s kind j g (live s.jobs j) ≡ None → CanStep s.jobs j
step_room system fits s kind j g h i at =
    let x = get_or s.jobs i no_job in
    let shown : step_of_finding system s kind j g (Some x) ≡ None = sym (ap (step_of_finding system s kind j g) (live_placed s.jobs j i at)) ∙ h in
    let unit = has_unit system kind g x (in_order (is_next_step system kind g x) kind _ shown) in
    few_done system fits x unit.0 unit.1

pub record IsAccepted (system : PlanModel) (s : LogState) (e : Event) (room : ℕ) : Type 0 where
  pub core : e.core.0 < length s.cores
  pub task : CanCount e.action system.tasks
  pub jobs : CanChange e.action s.jobs room

pub accepted : (system : PlanModel) (tolerances : Tolerances) (s : LogState) (e : Event) (room : ℕ) → IsSystem system → tolerances.backlog ≤ room → s.stopped ≡ false → finding_of system tolerances s e ≡ None → IsAccepted system s e room
accepted system tolerances s e room fits enough runs h =
    let all = ap (λ b. cond b None (option_or (continuity s e) (option_or (time_finding tolerances s e) (action_finding system tolerances s e e.action)))) (sym runs) ∙ h in
    let first = or_parts (continuity s e) _ all in
    let second = or_parts (time_finding tolerances s e) _ first.1 in
    let core = lacks_parts (nat_le (length s.cores) e.core.0) missing.Core _ first.0 in
    let action = of_action e.action second.1 in
    record { core = below (length s.cores) e.core.0 core.0; task = action.0; jobs = action.1 }
  where
    of_action : (a : Action) → action_finding system tolerances s e a ≡ None → CanCount a system.tasks × CanChange a s.jobs room
    of_action (Release j deadline) h =
        let known = fault_parts (nat_le (length system.tasks) j.task.0) E3 _ h in
        let fresh = fault_parts _ E7 _ known.1 in
        let next = lacks_parts _ missing.Release _ fresh.1 in
        let full = lacks_parts (nat_le tolerances.backlog (length s.jobs)) missing.Room _ next.1 in
        let few = below tolerances.backlog (length s.jobs) full.0 in
        (below (length system.tasks) j.task.0 known.0, omega arith)
    of_action (Step kind j r) h =
        let known = or_parts (job_finding system s e.core.0 j) _ h in
        let runs = fault_parts _ E8 _ known.1 in
        let late = fault_parts _ E8 _ runs.1 in
        (tt, step_room system fits s kind j r.0 late.1)
    of_action Boot h = (tt, tt)
    of_action (Switch j) h = (tt, tt)
    of_action (End j) h = (tt, tt)
    of_action Stop h = (tt, tt)
    of_action Lost h = (tt, tt)

-- ---- jobs of the system's tasks
known_changed : (system : PlanModel) (change : LiveJob → LiveJob) → ((x : LiveJob) → IsKnown system x → IsKnown system (change x)) → (o : Option ℕ) (jobs : List LiveJob) → All (IsKnown system) jobs → All (IsKnown system) (changed_at o change jobs)
known_changed system change keeps None jobs all = all
known_changed system change keeps (Some i) jobs all = elim (cases_lt i (length jobs)) [
  | inl l ↦ All-set (IsKnown system) jobs i (change (get_or jobs i no_job)) (keeps (get_or jobs i no_job) (All-get_or (IsKnown system) jobs i no_job l all)) all
  | inr g ↦ subst (All (IsKnown system)) (sym (set_past jobs i (change (get_or jobs i no_job)) g)) all
]

known_last : (system : PlanModel) (j : JobId) (jobs : List LiveJob) (o : Option ℕ) → place_of jobs j ≡ o → All (IsKnown system) jobs → All (IsKnown system) (last_at o as_waiting jobs)
known_last system j jobs None at all = all
known_last system j jobs (Some i) at all = All-push (IsKnown system) (remove jobs i) (as_waiting (get_or jobs i no_job)) (All-remove (IsKnown system) jobs i all) (All-get_or (IsKnown system) jobs i no_job (placed jobs j i at) all)

known_without : (system : PlanModel) (o : Option ℕ) (jobs : List LiveJob) → All (IsKnown system) jobs → All (IsKnown system) (without_at o jobs)
known_without system None jobs all = all
known_without system (Some i) jobs all = All-remove (IsKnown system) jobs i all

known_stepped : (system : PlanModel) (kind : LockAction) (j : JobId) (jobs : List LiveJob) → All (IsKnown system) jobs → All (IsKnown system) (jobs_stepped kind j jobs)
known_stepped system Request j jobs all = known_last system j jobs (place_of jobs j) refl all
known_stepped system Poll j jobs all = all
known_stepped system Lock j jobs all = known_changed system as_stepped (λ x k. k) (place_of jobs j) jobs all
known_stepped system Unlock j jobs all = known_changed system as_stepped (λ x k. k) (place_of jobs j) jobs all
known_stepped system Acquire j jobs all = known_changed system as_stepped (λ x k. k) (place_of jobs j) jobs all
known_stepped system Freed j jobs all = known_changed system as_stepped (λ x k. k) (place_of jobs j) jobs all

-- after the event each job is still of a task of the system
pub known_with : (system : PlanModel) (a : Action) (jobs : List LiveJob) → CanCount a system.tasks → All (IsKnown system) jobs → All (IsKnown system) (jobs_with a jobs)
known_with system (Release j deadline) jobs can all = All-push (IsKnown system) jobs (released j deadline) all can
known_with system (Switch (Some j)) jobs can all = known_changed system as_started (λ x k. k) (place_of jobs j) jobs all
known_with system (Switch None) jobs can all = all
known_with system (Step kind j r) jobs can all = known_stepped system kind j jobs all
known_with system (End j) jobs can all = known_without system (place_of jobs j) jobs all
known_with system Boot jobs can all = all
known_with system Stop jobs can all = all
known_with system Lost jobs can all = all
