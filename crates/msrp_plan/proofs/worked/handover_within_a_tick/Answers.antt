use Rattle.std.proofs.Common.{refl}
use Rattle.msrp_plan.proofs.Runs.Verdicts.{good_is_run}
use Rattle.msrp_plan.proofs.worked.handover_within_a_tick.Goals as goal

pub returns : goal.returns
returns c = record {
  run = good_is_run _ _ refl;
  without_ahead = refl;
  ahead_run = good_is_run _ _ refl;
  with_ahead = refl;
  ahead_miscounted = refl;
  turn_of_no_core = refl;
  second_turn = refl;
  tick_too_early = refl;
  job_of_another_core = refl;
  no_such_job = refl;
  idle_too_soon = refl;
  unit_skipped = refl;
  queued_when_free = refl;
  taken_when_held = refl;
  granted_when_held = refl;
  spin_when_first = refl;
  cut = refl;
  doubled = refl;
}
