use Rattle.msrp_plan.specs.Common.{[], take}
use Rattle.std.proofs.Common.{refl, arith}
use Rattle.msrp_plan.specs.Examples.BlockedHead.{plan, rows}
use Rattle.msrp_plan.specs.Examples.Notation.{job, lock}
use Rattle.msrp_plan.specs.Blocking.{IsBegun}
use Rattle.msrp_plan.proofs.Runs.Verdicts.{good_is_run}
use Rattle.msrp_plan.proofs.Building.AcceptedPlans.{accepted_plan}
use Rattle.msrp_plan.proofs.Runs.KeptLaws.{keeps_laws}
use Rattle.msrp_plan.proofs.laws.blocking.blocked_as_long_as_can_be.Goals as goal

-- k begins its section in the first row
begun : IsBegun plan (take 1 rows) (job 0 0) 1
begun = record { before = []; first = lock 0 0 (job 0 0) 0; after = []; rows = refl; job = refl; outside = refl; unit = refl; early = omega arith }

begun_no_earlier : ¬ IsBegun plan (take 1 rows) (job 0 0) 0
begun_no_earlier h = let l = h.early in absurd (omega (arith, l))

pub returns : goal.returns
returns c = record { laws = keeps_laws plan rows (accepted_plan plan refl refl refl) (good_is_run _ _ refl); first = refl; runs = refl; known = refl; amid = refl; begun = begun; begun_no_earlier = begun_no_earlier; section = refl; longest = refl; rest = refl }
