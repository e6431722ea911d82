use Rattle.std.proofs.Common.{◌≡◌, ◌++◌}
use Rattle.msrp_plan.proofs.Common.{drop}
use Rattle.msrp_picture.proofs.Common.{joined}
use Rattle.msrp_picture.proofs.blocks.push_joined.Given as goal

abbrev pub invariant-loop-next : goal.invariant-loop-next
invariant-loop-next l = l.blocks.items ++ joined l.last (drop l.next-index l.rest) ≡ l.fn.blocks.items ++ joined l.fn.first l.rest
