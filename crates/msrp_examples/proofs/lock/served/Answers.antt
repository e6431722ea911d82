use Rattle.std.proofs.Common.{◌≢◌, ◌∙◌}
use Rattle.msrp_plan.proofs.Common.{ap, sym, subst, arith}
use Rattle.msrp_core.specs.Machine.{MachineModel}
use Rattle.msrp_examples.specs.Lock.{CanGoOn}
use Rattle.msrp_examples.proofs.GoingOn.{begins}
use Rattle.msrp_examples.proofs.lock.served.Goals.{then-core-eq0, else-core-eq0}
use Rattle.msrp_examples.proofs.lock.served.Goals as goal

pub loop-core-init : goal.loop-core-init
loop-core-init c =
    let one = c.in_ok-first.ensures in
    let two = c.in_ok-second.ensures in
    let plan = c.args.plan.now in
    let cores = c.cores.ensures.value in
    let both = c.if-cores-eq2.true in
    let first = one.core in
    let second = two.core in
    record {
      first = first;
      second = second;
      first_plan = one.plan;
      second_plan = two.plan;
      first_goes_on = begins c.in_ok-first.first plan c.in_ok-port.port one.plan (omega (arith, first, cores, both)) one.phase one.stands c.in_ok-port.ensures;
      second_goes_on = begins c.in_ok-second.second plan c.in_ok-port.port two.plan (omega (arith, second, cores, both)) two.phase two.stands c.in_ok-port.ensures;
    }

pub loop-core-preserved : goal.loop-core-preserved
loop-core-preserved c =
    let before = c.loop-core in
    let all = c.loop-core.invariant in
    let apart : before.second.core ≢ before.first.core = λ e. (let a = all.first in let b = all.second in omega (arith, a, b, e)) in
    elim c.if-core-eq0.branch [
      | then-core-eq0 w ↦ record {
        first = ap (λ (m : MachineModel). m.core) w.first-is ∙ (w.turn.ensures.core ∙ all.first);
        second = ap (λ (m : MachineModel). m.core) w.second-is ∙ all.second;
        first_plan = ap (λ (m : MachineModel). m.plan) w.first-is ∙ w.turn.ensures.plan;
        second_plan = ap (λ (m : MachineModel). m.plan) w.second-is ∙ all.second_plan;
        first_goes_on = subst (λ m. CanGoOn m c.if-core-eq0.port) (sym w.first-is) (subst (CanGoOn w.turn.new.machine) (sym w.port-is) w.turn.ensures.own);
        second_goes_on = subst (λ m. CanGoOn m c.if-core-eq0.port) (sym w.second-is) (subst (CanGoOn before.second) (sym w.port-is) (w.turn.ensures.others before.second apart all.second_goes_on));
      }
      | else-core-eq0 w ↦ record {
        first = ap (λ (m : MachineModel). m.core) w.first-is ∙ all.first;
        second = ap (λ (m : MachineModel). m.core) w.second-is ∙ (w.turn-else-core-eq0.ensures.core ∙ all.second);
        first_plan = ap (λ (m : MachineModel). m.plan) w.first-is ∙ all.first_plan;
        second_plan = ap (λ (m : MachineModel). m.plan) w.second-is ∙ w.turn-else-core-eq0.ensures.plan;
        first_goes_on = subst (λ m. CanGoOn m c.if-core-eq0.port) (sym w.first-is) (subst (CanGoOn before.first) (sym w.port-is) (w.turn-else-core-eq0.ensures.others before.first (λ e. apart (sym e)) all.first_goes_on));
        second_goes_on = subst (λ m. CanGoOn m c.if-core-eq0.port) (sym w.second-is) (subst (CanGoOn w.turn-else-core-eq0.new.machine) (sym w.port-is) w.turn-else-core-eq0.ensures.own);
      }
    ]
