use Rattle.std.proofs.Common.{◌≡◌}
use Rattle.msrp_plan.proofs.Common.{sym, subst}
use Rattle.msrp_core.specs.Actions.{EachRowOf}
use Rattle.msrp_core.specs.Ports.{IsQuiet}
use Rattle.msrp_core.proofs.jobs.Jobs.action_of.Goals as goal

pub returns-in-Some-clause-quiet : goal.returns-in-Some-clause-quiet
returns-in-Some-clause-quiet g c =
    subst (λ o. EachRowOf c.args.self.now.core o c.act.result (λ _ r. IsQuiet c.args.self.now.plan.now r → c.act.new.port ≡ c.args.port.now)) (sym c.in-Some.is) c.act.ensures.quiet
