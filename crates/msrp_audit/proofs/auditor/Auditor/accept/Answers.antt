use Rattle.std.proofs.Common.{◌≡◌, ◌+◌, ◌-◌, ◌*◌, ◌<◌, ◌++◌, ◌∷◌}
use Rattle.msrp_plan.proofs.Common.{[], sym, subst, arith}
use Rattle.msrp_audit.specs.Audits.{AuditorModel, HasFed, Awaits, auditor_view, place_in}
use Rattle.msrp_audit.proofs.Judging.{came}
use Rattle.msrp_audit.proofs.auditor.Auditor.accept.Goals as goal

pub returns-then-self-eq0-clause-fed : goal.returns-then-self-eq0-clause-fed
returns-then-self-eq0-clause-fed c = λ rows core due row is tick likewise.
    let i = c.self.inside in
    let a = auditor_view i in
    let cores = i.plan.now.cores in
    let left = subst (λ (b : AuditorModel). b.fed < b.plan.cores * b.plan.ticks) (sym c.self.view_is) c.requires in
    let times : (i.tick + 1) * cores ≡ i.tick * cores + cores = grind arith in
    let some = c.self.invariant.some in
    let most = c.self.invariant.most in
    let next : (i.tick + 1) * cores + (cores - c.cores-self-inside.result) ≡ i.tick * cores + place_in i + 1 = omega (arith, times, some, most, c.if-self-eq0.true, c.cores-self-inside.ensures.value) in
    subst (λ n. HasFed (record a { fed = n }) (rows ++ row ∷ [])) (sym next) (came a rows core due row (subst (λ (b : AuditorModel). Awaits b rows core due) (sym c.self.view_is) is) left tick likewise)

pub returns-else-self-eq0-clause-fed : goal.returns-else-self-eq0-clause-fed
returns-else-self-eq0-clause-fed c = λ rows core due row is tick likewise.
    let i = c.self.inside in
    let a = auditor_view i in
    let cores = i.plan.now.cores in
    let left = subst (λ (b : AuditorModel). b.fed < b.plan.cores * b.plan.ticks) (sym c.self.view_is) c.requires in
    let some = c.self.invariant.some in
    let most = c.self.invariant.most in
    let next : i.tick * cores + (cores - (i.left - 1)) ≡ i.tick * cores + place_in i + 1 = omega (arith, some, most) in
    subst (λ n. HasFed (record a { fed = n }) (rows ++ row ∷ [])) (sym next) (came a rows core due row (subst (λ (b : AuditorModel). Awaits b rows core due) (sym c.self.view_is) is) left tick likewise)
