use Rattle.std.proofs.Common.{◌<◌}
use Rattle.msrp_plan.proofs.Common.{ℕ, get_or, length}
use Rattle.msrp_report.proofs.Common.{NextRelease}
use Rattle.msrp_report.proofs.tallies.releasing.put_back.Given as goal

abbrev pub invariant-loop-place : goal.invariant-loop-place
invariant-loop-place l = record {
  within : l.place < length l.releases;
  later : (k : ℕ) (d : NextRelease) → l.place < k → k < length l.releases → l.next.tick < (get_or l.releases k d).tick;
}

abbrev pub decreases-loop-place : goal.decreases-loop-place
decreases-loop-place l = l.place
