use Rattle.std.proofs.Common.{◌∙◌}
use Rattle.msrp_plan.proofs.Common.{sym, subst}
use Rattle.msrp_c.proofs.Lengths.{long-judged, short-judged}
use Rattle.msrp_c.specs.Answers.{Tells}
use Rattle.msrp_c.proofs.audits.msrp_audit.Goals as goal

pub returns-then-are_long : goal.returns-then-are_long
returns-then-are_long c = long-judged _ _ _ _ (sym c.are_long.ensures ∙ c.if-are_long.true) c.tell.ensures

pub returns : goal.returns
returns c = short-judged _ _ c.audited-what.result _ _ (sym c.are_long.ensures ∙ c.if-are_long.false) c.audited-what.ensures (subst (λ what. Tells what c.tell-2.new.found c.tell-2.result) c.unfailed.ensures c.tell-2.ensures)
