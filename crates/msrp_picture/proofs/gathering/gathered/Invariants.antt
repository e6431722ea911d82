use Rattle.std.proofs.Common.{◌≡◌}
use Rattle.msrp_plan.proofs.Common.{length}
use Rattle.msrp_picture.proofs.Common.{vec_len}
use Rattle.msrp_picture.proofs.gathering.gathered.Given as goal

abbrev pub invariant-loop-item : goal.invariant-loop-item
invariant-loop-item g l = record {
  items : l.all.items ≡ l.yielded;
  len : vec_len l.all ≡ length l.yielded;
}
