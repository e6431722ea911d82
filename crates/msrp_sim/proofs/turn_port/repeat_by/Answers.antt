use Rattle.std.proofs.Common.{◌≡◌, ◌∙◌}
use Rattle.msrp_plan.proofs.Common.{Some, None, refl, ap, sym, cond, option_or, none-some}
use Rattle.msrp_core.specs.Machine.{next_known}
use Rattle.msrp_sim.specs.TurnPorts.{is_granted, unless_granted}
use Rattle.msrp_sim.proofs.turn_port.repeat_by.Goals as goal

-- a row on no resource is no poll
pub returns-in-Some-clause-known : goal.returns-in-Some-clause-known
returns-in-Some-clause-known c =
    let x = c.args.machine.now in
    let r = c.in-Some.row in
    let is : next_known x ≡ Some r = ap (λ o. option_or o x.spin) (sym c.repeat.ensures.known ∙ c.in-Some.is) in
    sym (ap (unless_granted c.args.queues.now x.core) is ∙ ap (λ g. cond (is_granted c.args.queues.now x.core g r.kind) None (Some r)) c.in-Some.ensures.res)

pub returns-in-Some-clause-repeated : goal.returns-in-Some-clause-repeated
returns-in-Some-clause-repeated c = record {
  call = None;
  turned = record {
    plan = c.in-Some.ensures.turn.plan;
    core = c.in-Some.ensures.turn.core;
    tick = c.in-Some.ensures.turn.tick;
    row = c.in-Some.ensures.turn.row;
    stands = c.in-Some.ensures.turn.stands;
    again = c.in-Some.ensures.turn.again;
    call = λ res e global. absurd (none-some res (sym c.in-Some.ensures.res ∙ e));
    quiet = λ q. (refl, c.repeat.ensures.phase);
  };
  vain = λ e h. absurd (none-some e h);
}
