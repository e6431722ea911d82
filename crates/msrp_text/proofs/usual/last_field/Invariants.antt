use Rattle.std.proofs.Common.{◌≡◌}
use Rattle.msrp_plan.proofs.Common.{false, take, list_any}
use Rattle.msrp_text.specs.Usual.{is_low}
use Rattle.msrp_text.proofs.usual.last_field.Given as goal

abbrev pub invariant-loop-at : goal.invariant-loop-at
invariant-loop-at l = list_any is_low (take l.at l.text) ≡ false
