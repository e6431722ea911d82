use Rattle.std.proofs.Common.{◌∙◌}
use Rattle.msrp_plan.proofs.Common.{ap, nat_le, arith}
use Rattle.msrp_ready.proofs.Common.{has_release_by}
use Rattle.msrp_ready.proofs.Releases.{is_told}
use Rattle.msrp_ready.proofs.ready.Ready.has_release_by.Goals as goal

pub returns : goal.returns
returns c =
    let r = c.self.inside in
    ap (λ n. nat_le r.coming n) c.from.ensures ∙ (is_told r.plan.now r.core.0 r.tick r.calendar.items r.next r.heap c.self.invariant.0 r.coming c.self.invariant.1 c.args.tick (omega arith) ∙ ap (λ v. has_release_by v c.args.tick) c.self.view_is)
