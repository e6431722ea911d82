use Rattle.std.proofs.Common.{◌≤◌, ◌*◌, ◌+◌, ◌-◌}
use Rattle.msrp_plan.proofs.Common.{ℕ, sym, subst, arith, mul-le-mul_left}
use Rattle.msrp_audit.specs.Audits.{place_in}
use Rattle.msrp_audit.proofs.auditor.Auditor.fed.Goals as goal

-- what the rows of a plan number
few : (fed cores ticks : ℕ) → fed ≤ cores * ticks → cores ≤ 8 → ticks ≤ 20000 → fed ≤ 160000
few fed cores ticks h c t = let a = mul-le-mul_left cores t in omega (arith, a)

pub returns-clause-few : goal.returns-clause-few
returns-clause-few c =
    let p = c.self.invariant.accepted.draft in
    let cores = c.cores-cores.ensures.value in
    let n = few (c.self.inside.tick * c.self.inside.plan.now.cores + place_in c.self.inside) c.self.inside.plan.now.cores c.self.inside.plan.now.ticks c.self.invariant.fits p.cores.1 p.ticks.1 in
    subst (λ k. c.self.inside.tick * k + (k - c.self.inside.left) ≤ 160000) (sym cores) n
