use Rattle.msrp_plan.proofs.Common.{subst}
use Rattle.msrp_sim.specs.Served.{as_port}
use Rattle.msrp_examples.proofs.GoingOn.{IsOneCall, one_call, own_goes_on, other_goes_on}
use Rattle.msrp_examples.proofs.lock.turn.Goals as goal

pub returns-clause-own : goal.returns-clause-own
returns-clause-own c =
    let m = c.args.machine.now in
    let can = c.requires.goes in
    let e = c.turn.ensures in
    let one = subst (λ k. IsOneCall k (as_port c.args.port.now) (as_port c.turn.new.port)) (e.row can.log can.stands).core (one_call m.plan c.turn.result c.args.port.now c.turn.new.port e.call e.quiet) in
    own_goes_on m c.turn.new.self c.turn.result c.args.port.now c.turn.new.port can e.plan e.core e.tick (e.stands can.log can.stands) e.claim one

pub returns-clause-others : goal.returns-clause-others
returns-clause-others c = λ other ne can-other.
    let m = c.args.machine.now in
    let can = c.requires.goes in
    let e = c.turn.ensures in
    let one = subst (λ k. IsOneCall k (as_port c.args.port.now) (as_port c.turn.new.port)) (e.row can.log can.stands).core (one_call m.plan c.turn.result c.args.port.now c.turn.new.port e.call e.quiet) in
    other_goes_on other m.core c.args.port.now c.turn.new.port ne can-other one
