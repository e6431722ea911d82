use Rattle.std.proofs.Common.{◌&&◌, ◌∙◌}
use Rattle.msrp_plan.proofs.Common.{refl, ap, sym, eq-eqb, not_equal}
use Rattle.msrp_audit.specs.Audits.{has_turn}
use Rattle.msrp_audit.proofs.Judging.{in_turn_is, tick_is}
use Rattle.msrp_audit.proofs.auditor.Auditor.is_in_turn.Goals as goal

pub returns-then-row-self-clause-turn : goal.returns-then-row-self-clause-turn
returns-then-row-self-clause-turn c = λ rows fed none left.
    let a = c.args.self.now in
    let is = tick_is c.self.inside a rows c.self.invariant c.self.view_is fed none in
    sym (ap (λ b. b && c.is_due.result) (eq-eqb c.args.row.tick c.self.inside.tick c.if-row-self.true))
    ∙ in_turn_is a.plan rows c.args.row c.self.inside.tick c.is_due.result is (c.is_due.ensures.answer rows fed none left)

pub returns-else-row-self-clause-turn : goal.returns-else-row-self-clause-turn
returns-else-row-self-clause-turn c = λ rows fed none left.
    let a = c.args.self.now in
    let is = tick_is c.self.inside a rows c.self.invariant c.self.view_is fed none in
    let other = not_equal c.args.row.tick c.self.inside.tick c.if-row-self.false in
    other ∙ (sym (ap (λ b. b && has_turn a.plan rows c.args.row.core.0) other)
    ∙ in_turn_is a.plan rows c.args.row c.self.inside.tick (has_turn a.plan rows c.args.row.core.0) is refl)

pub returns-then-row-self-clause-tick : goal.returns-then-row-self-clause-tick
returns-then-row-self-clause-tick c = λ yes rows fed. c.if-row-self.true ∙ tick_is c.self.inside c.args.self.now rows c.self.invariant c.self.view_is fed (c.is_due.ensures.due yes).fault
