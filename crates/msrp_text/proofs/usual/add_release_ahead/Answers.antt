use Rattle.std.proofs.Common.{◌∙◌}
use Rattle.msrp_plan.proofs.Common.{sym}
use Rattle.msrp_text.proofs.UsualLines.{release-line}
use Rattle.msrp_text.proofs.usual.add_release_ahead.Goals as goal

pub returns-clause-added : goal.returns-clause-added
returns-clause-added c = release-line c.args.builder.now _ c.args.text.now _ _ _ (sym c.takes_releases.ensures ∙ c.if-not-takes_releases.false) c.in_ok-tick.ensures c.release.ensures.judged c.release.ensures.added
