use Rattle.std.proofs.Common.{◌∙◌}
use Rattle.msrp_plan.proofs.Common.{sym}
use Rattle.msrp_ready.proofs.Releases.{head_stays}
use Rattle.msrp_ready.proofs.ready.Ready.head_at.Goals as goal

pub returns-else-has_release_by : goal.returns-else-has_release_by
returns-else-has_release_by c = c.head.ensures ∙ sym (head_stays c.args.self.now c.args.tick c.requires (sym c.has_release_by.ensures ∙ c.if-has_release_by.false))
