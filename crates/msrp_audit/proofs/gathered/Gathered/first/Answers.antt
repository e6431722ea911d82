use Rattle.std.proofs.Common.{◌≡◌, ◌-◌, ◌∙◌}
use Rattle.msrp_plan.proofs.Common.{length, min, take, rules, ap}
use Rattle.msrp_audit.specs.Inside.SmallRows.{rows_of}
use Rattle.msrp_audit.proofs.SmallRows.{rows_first}
use Rattle.msrp_audit.proofs.gathered.Gathered.first.Goals as goal

pub returns : goal.returns
returns c =
    let small = c.deref.result.now in
    let others = c.deref-2.result.now in
    let most = c.args.most in
    let n : c.min-small.result ≡ min most (length small) = search rules in
    let m : c.min-others.result ≡ min (most - c.min-small.result) (length others) = search rules in
    let all = ap (λ l. rows_of l others) c.deref.ensures.value ∙ ap (rows_of c.self.inside.small.items) c.deref-2.ensures.value in
    rows_first small others most c.min-small.result c.min-others.result n m ∙ ap (take most) (all ∙ c.self.view_is)
