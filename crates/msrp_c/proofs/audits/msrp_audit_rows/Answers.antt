use Rattle.std.proofs.Common.{◌∙◌}
use Rattle.msrp_plan.proofs.Common.{sym, subst}
use Rattle.msrp_c.proofs.Lengths.{long-judged, short-judged}
use Rattle.msrp_c.specs.Answers.{Tells}
use Rattle.msrp_c.proofs.audits.msrp_audit_rows.Goals as goal

pub returns-then-is_long : goal.returns-then-is_long
returns-then-is_long c = long-judged _ _ _ _ (sym c.is_long.ensures ∙ c.if-is_long.true) c.tell.ensures

pub returns : goal.returns
returns c = short-judged _ _ c.judged-what.result _ _ (sym c.is_long.ensures ∙ c.if-is_long.false) c.judged-what.ensures (subst (λ what. Tells what c.tell-2.new.found c.tell-2.result) c.unfailed.ensures c.tell-2.ensures)
