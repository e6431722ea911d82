use Rattle.std.proofs.Common.{◌≡◌}
use Rattle.msrp_plan.proofs.Common.{true, subst}
use Rattle.msrp_audit.specs.Inside.Replies.{is_answered}
use Rattle.msrp_audit.proofs.Following.{kinds_same, has_call}
use Rattle.msrp_audit.proofs.replies.turn_over.Goals as goal

pub returns-clause-kind : goal.returns-clause-kind
returns-clause-kind g c = λ log stands same.
    kinds_same c.args.machine.now.plan c.args.machine.now.core log c.args.row c.turn.result _ _ (c.turn.ensures.row log stands) c.turn.ensures.call
    (λ mc. subst (λ b. is_answered b mc.call ≡ true) c.requires.answer (has_call _ c.turn.new.port.call (record { core = c.turn.result.core; res = mc.res; call = mc.call }) _ mc.adds.calls c.turn.new.port.answered)) same
