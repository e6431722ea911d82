use Rattle.std.proofs.Common.{◌∙◌}
use Rattle.msrp_plan.proofs.Common.{ap, subst}
use Rattle.msrp_board.proofs.Common.{Kept, padded_value, state_of}
use Rattle.msrp_board.proofs.CoreStates.{IsFirst, own_first}
use Rattle.msrp_board.proofs.states.States.own.Goals as goal

pub unreachable-requires : goal.unreachable-requires
unreachable-requires c = let r = c.requires in subst (λ h. IsFirst h r.1 (state_of r.2)) c.in-End.is (own_first _ r.0 r.1 r.2 r.3)

pub returns : goal.returns
returns c v d b own = c.deref-in-Of.ensures ∙ ap (λ (k : Kept). padded_value k.state) c.deref.ensures ∙ (subst (λ h. IsFirst h d (state_of b)) c.in-Of.is (own_first _ v d b own)).1
