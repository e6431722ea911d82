use Rattle.std.proofs.Common.{◌∙◌}
use Rattle.msrp_plan.proofs.Common.{ap, sym, subst, All}
use Rattle.msrp_events.specs.Changes.{cores_timed, free_timed, core_touched, resource_touched, jobs_with}
use Rattle.msrp_event_audit.specs.LogJobs.{IsKnown}
use Rattle.msrp_event_audit.specs.States.{Fits, state_of}
use Rattle.msrp_event_audit.proofs.Accepted.{known_with}
use Rattle.msrp_event_audit.proofs.Moving.{is_moved, can_count, fits_with}
use Rattle.msrp_event_audit.proofs.changes.apply.Goals as goal

pub change_next-requires : goal.change_next-requires
change_next-requires c = can_count c.args.event.action c.args.state.now.next.items c.args.system.now.tasks c.requires.fits.next c.requires.task

pub time_core-requires-clause-jobs : goal.time_core-requires-clause-jobs
time_core-requires-clause-jobs c =
    let known = known_with c.args.system.now c.args.event.action c.args.state.now.jobs.items c.requires.task c.requires.fits.jobs in
    subst (All (IsKnown c.args.system.now)) (sym (c.deref.ensures.value ∙ c.change_jobs.ensures.jobs)) known

pub time_touched-requires : goal.time_touched-requires
time_touched-requires c =
    let known = known_with c.args.system.now c.args.event.action c.args.state.now.jobs.items c.requires.task c.requires.fits.jobs in
    subst (All (IsKnown c.args.system.now)) (sym (c.deref-2.ensures.value ∙ c.change_jobs.ensures.jobs)) known

pub returns : goal.returns
returns c =
    let system = c.args.system.now in
    let s = state_of c.args.state.now in
    let e = c.args.event in
    let jobs = c.change_jobs.ensures.jobs in
    let cores =
    c.time_core.ensures
    ∙ (ap (λ js. cores_timed system js c.core_touched-core.result.0 e.time c.change_core.new.cores.items) (c.deref.ensures.value ∙ jobs)
    ∙ (ap (λ k. cores_timed system (jobs_with e.action s.jobs) k e.time c.change_core.new.cores.items) c.core_touched-core.ensures.value
    ∙ ap (cores_timed system (jobs_with e.action s.jobs) (core_touched system e) e.time) c.change_core.ensures)) in
    let free = c.time_touched.ensures ∙ ap (λ js. free_timed system js (resource_touched e.action) e.time s.free) (c.deref-2.ensures.value ∙ jobs) in
    let same = is_moved system s e _ _ _ _ _ c.requires.runs jobs cores free c.change_next.ensures c.stops-state.ensures in
    record {
      state = same;
      fits = subst (Fits system) (sym same) (fits_with system s e c.requires.runs c.requires.task c.requires.fits);
      room = c.change_jobs.ensures.room;
    }
