-- What is stored after an event is the state of the definitions.
use Rattle.std.proofs.Common.{◌≡◌, ◌+◌, ◌∙◌}
use Rattle.msrp_plan.proofs.Common.{ℕ, Bool, false, cond, List, Option, refl, ap, sym, subst, arith, length, length-set, PlanModel}
use Rattle.msrp_events.specs.Changes.{LogState, jobs_with, next_with, stopped_with, cores_acted, cores_timed, free_timed, core_touched, resource_touched, moved, state_with, core_with, core_at, since_with}
use Rattle.msrp_events.specs.declared.events.Action.{Action}
use Rattle.msrp_events.specs.declared.events.Action.TheVariants.{Boot, Release, Switch, Step, End, Stop, Lost}
use Rattle.msrp_events.specs.declared.events.Event.{Event}
use Rattle.msrp_events.specs.declared.states.CoreLog.{CoreLog}
use Rattle.msrp_events.specs.declared.states.LiveJob.{LiveJob}
use Rattle.msrp_event_audit.specs.States.{Fits, CanCount}
use Rattle.msrp_event_audit.proofs.Accepted.{known_with}

abbrev pub state_made : List LiveJob → List CoreLog → List (Option ℕ) → List ℕ → Bool → LogState
state_made jobs cores free next stopped = record { jobs = jobs; cores = cores; free = free; next = next; stopped = stopped }

-- part by part
pub is_moved : (system : PlanModel) (s : LogState) (e : Event) (jobs : List LiveJob) (cores : List CoreLog) (free : List (Option ℕ)) (next : List ℕ) (stopped : Bool) → s.stopped ≡ false
    → jobs ≡ jobs_with e.action s.jobs
    → cores ≡ cores_timed system (jobs_with e.action s.jobs) (core_touched system e) e.time (cores_acted e s.cores)
    → free ≡ free_timed system (jobs_with e.action s.jobs) (resource_touched e.action) e.time s.free
    → next ≡ next_with e.action s.next
    → stopped ≡ stopped_with e.action
    → state_made jobs cores free next stopped ≡ state_with system s e
is_moved system s e jobs cores free next stopped runs j c f n st =
    let m = moved system s e in
    ap (λ x. state_made x cores free next stopped) j
    ∙ (ap (λ x. state_made m.jobs x free next stopped) c
    ∙ (ap (λ x. state_made m.jobs m.cores x next stopped) f
    ∙ (ap (λ x. state_made m.jobs m.cores m.free x stopped) n
    ∙ (ap (λ x. state_made m.jobs m.cores m.free m.next x) st
    ∙ sym (ap (λ b. cond b s m) runs)))))

-- the number of tasks stays
next_length : (a : Action) (next : List ℕ) → length (next_with a next) ≡ length next
next_length (Release j deadline) next = length-set next j.task.0 (j.k + 1)
next_length Boot next = refl
next_length (Switch j) next = refl
next_length (Step kind j r) next = refl
next_length (End j) next = refl
next_length Stop next = refl
next_length Lost next = refl

pub can_count : {X Y : Type 0} (a : Action) (xs : List X) (ys : List Y) → length xs ≡ length ys → CanCount a ys → CanCount a xs
can_count (Release j deadline) xs ys e can = omega (arith, e, can)
can_count Boot xs ys e can = tt
can_count (Switch j) xs ys e can = tt
can_count (Step kind j r) xs ys e can = tt
can_count (End j) xs ys e can = tt
can_count Stop xs ys e can = tt
can_count Lost xs ys e can = tt

-- the state after the event is one of the system too
pub fits_with : (system : PlanModel) (s : LogState) (e : Event) → s.stopped ≡ false → CanCount e.action system.tasks → Fits system s → Fits system (state_with system s e)
fits_with system s e runs can fits =
    let acted = cores_acted e s.cores in
    let c = core_touched system e in
    let fitted : Fits system (moved system s e) = record {
      cores = length-set acted c (since_with system (jobs_with e.action s.jobs) c e.time (core_at acted c)) ∙ (length-set s.cores e.core.0 (core_with e (core_at s.cores e.core.0)) ∙ fits.cores);
      next = next_length e.action s.next ∙ fits.next;
      jobs = known_with system e.action s.jobs can fits.jobs;
    } in
    subst (λ b. Fits system (cond b s (moved system s e))) (sym runs) fitted
