use Rattle.std.proofs.Common.{◌≡◌}
use Rattle.msrp_plan.proofs.Common.{Some, IfSome, subst, sym}
use Rattle.msrp_hosted.specs.Hosted.{HostedCoreModel}
use Rattle.msrp_hosted.specs.declared.steps.CoreStep.TheVariants.{Waiting}
use Rattle.msrp_hosted.specs.declared.steps.Turned.{Turned}
use Rattle.msrp_merge.specs.declared.logs.Turn.{Turn}
use Rattle.msrp_c.specs.Contents.{core_in}
use Rattle.msrp_c.proofs.cores.turn.Goals as goal

pub returns-in-Core-clause-waited : goal.returns-in-Core-clause-waited
returns-in-Core-clause-waited c =
    subst (λ x. IfSome (core_in (Some x)) (λ old. (t : Turn) → c.turn.result ≡ Turned.Turn t → old.step ≡ Waiting)) (sym c.in-Core.is) (λ t is.
    subst (λ (m : HostedCoreModel). m.step ≡ Waiting) c.in-Core.core-is (c.turn.ensures.turn t is).0)
