use Rattle.std.proofs.Common.{◌∙◌}
use Rattle.msrp_plan.proofs.Common.{ap, sym, arith, lt-leb, le-leb}
use Rattle.msrp_ready.proofs.Common.{has_release_by}
use Rattle.msrp_ready.proofs.Releases.{coming_tells, never_tells}
use Rattle.msrp_ready.proofs.ready.Ready.next_release.Goals as goal

pub returns-then-self-lt-NEVER-clause-comes : goal.returns-then-self-lt-NEVER-clause-comes
returns-then-self-lt-NEVER-clause-comes c =
    let r = c.self.inside in
    sym (ap (λ v. has_release_by v r.coming) c.self.view_is) ∙ (sym (coming_tells r.plan.now r.core.0 r.tick r.calendar.items r.next r.heap c.self.invariant.0 r.coming c.self.invariant.1 r.coming c.if-self-lt-NEVER.true) ∙ le-leb _ _ (omega arith))

pub returns-then-self-lt-NEVER-clause-first : goal.returns-then-self-lt-NEVER-clause-first
returns-then-self-lt-NEVER-clause-first c = λ tick before.
    let r = c.self.inside in
    sym (ap (λ v. has_release_by v tick) c.self.view_is) ∙ (sym (coming_tells r.plan.now r.core.0 r.tick r.calendar.items r.next r.heap c.self.invariant.0 r.coming c.self.invariant.1 tick c.if-self-lt-NEVER.true) ∙ lt-leb _ _ before)

pub returns-else-self-lt-NEVER-clause-none : goal.returns-else-self-lt-NEVER-clause-none
returns-else-self-lt-NEVER-clause-none c = λ tick.
    let r = c.self.inside in
    sym (ap (λ v. has_release_by v tick) c.self.view_is) ∙ never_tells r.plan.now r.core.0 r.tick r.calendar.items r.next r.heap c.self.invariant.0 r.coming c.self.invariant.1 tick c.if-self-lt-NEVER.false
