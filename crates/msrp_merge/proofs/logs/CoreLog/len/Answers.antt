use Rattle.std.proofs.Common.{◌≡◌, ◌∙◌}
use Rattle.msrp_plan.proofs.Common.{length, rules, ap, sym}
use Rattle.msrp_merge.proofs.Common.{LogModel}
use Rattle.msrp_merge.proofs.Keeping.{from_length}
use Rattle.msrp_merge.proofs.logs.CoreLog.len.Goals as goal

pub returns : goal.returns
returns c =
    let many : c.len.result ≡ length c.self.inside.kept.items = search rules in
    many ∙ (sym (from_length c.self.inside.core.0 0 c.self.inside.kept.items) ∙ ap (λ (l : LogModel). length l.turns) c.self.view_is)
