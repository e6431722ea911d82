use Rattle.msrp_sim.specs.CoresView.{cores_view}
use Rattle.msrp_sim.proofs.Starting.{new_cores, new_stand, none_known}
use Rattle.msrp_sim.proofs.cores.Cores.with_room.Goals as goal

pub invariant_of-result : goal.invariant_of-result
invariant_of-result c = new_cores (cores_view (record { plan = c.args.plan; machines = c.in_ok-machines_of.field-0; queues = c.new.result })) c.cores-accepted.ensures.plan c.in_ok-machines_of.ensures c.new.ensures.drawn

pub returns-clause-stand : goal.returns-clause-stand
returns-clause-stand c = new_stand (cores_view (record { plan = c.args.plan; machines = c.in_ok-machines_of.field-0; queues = c.new.result })) c.in_ok-machines_of.ensures c.new.ensures.serving

pub returns-clause-known : goal.returns-clause-known
returns-clause-known c = none_known (cores_view (record { plan = c.args.plan; machines = c.in_ok-machines_of.field-0; queues = c.new.result })) c.args.plan.now.cores c.in_ok-machines_of.ensures
