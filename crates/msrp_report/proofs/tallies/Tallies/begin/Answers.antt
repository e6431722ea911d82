use Rattle.std.proofs.Common.{◌∙◌}
use Rattle.msrp_plan.proofs.Common.{sym}
use Rattle.msrp_report.proofs.TallySteps.{all_begun}
use Rattle.msrp_report.proofs.tallies.Tallies.begin.Goals as goal

pub returns-clause-told : goal.returns-clause-told
returns-clause-told c = λ rows h. all_begun c.args.plan.now rows c.loop-self.self (c.loop-self.invariant.told rows h) (sym c.is_due.ensures ∙ c.loop-self-test.false)

pub returns-clause-releases : goal.returns-clause-releases
returns-clause-releases c = let t = c.requires.told in (c.loop-self.invariant.told t.0 t.1).releases

pub returns-clause-active : goal.returns-clause-active
returns-clause-active c = λ rows h. (c.loop-self.invariant.told rows h).active
