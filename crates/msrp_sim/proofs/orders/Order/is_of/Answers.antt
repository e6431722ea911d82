use Rattle.msrp_plan.proofs.Common.{sym, refl, subst, IsOrder}
use Rattle.msrp_plan.proofs.Scheduling.Orders.{ascending_is_order}
use Rattle.msrp_sim.specs.Orders.{cores_of}
use Rattle.msrp_sim.proofs.Rounds.{falling_order, rotating_order}
use Rattle.msrp_sim.proofs.orders.Order.is_of.Goals as goal

pub returns-in-Asc : goal.returns-in-Asc
returns-in-Asc c = (λ h. subst (λ o. IsOrder c.args.plan.now (cores_of o c.args.plan.now)) (sym c.in-Asc.is) (ascending_is_order c.args.plan.now), λ h. refl)

pub returns-in-Desc : goal.returns-in-Desc
returns-in-Desc c = (λ h. subst (λ o. IsOrder c.args.plan.now (cores_of o c.args.plan.now)) (sym c.in-Desc.is) (falling_order c.args.plan.now), λ h. refl)

pub returns-in-Rot : goal.returns-in-Rot
returns-in-Rot c = (λ h. subst (λ o. IsOrder c.args.plan.now (cores_of o c.args.plan.now)) (sym c.in-Rot.is) (rotating_order c.args.plan.now), λ h. refl)
