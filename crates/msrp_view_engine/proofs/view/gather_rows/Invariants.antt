use Rattle.std.proofs.Common.{◌≡◌}
use Rattle.msrp_plan.proofs.Common.{Some}
use Rattle.msrp_view_engine.proofs.Common.{IsReadTo, Told, told_left}
use Rattle.msrp_view_engine.proofs.view.gather_rows.Given as goal

abbrev pub invariant-loop-number : goal.invariant-loop-number
invariant-loop-number g l = (told : Told) → told_left g.T.Read.remaining l.fn.rows ≡ Some told → IsReadTo told l.gathered.items (told_left g.T.Read.remaining l.rows)
