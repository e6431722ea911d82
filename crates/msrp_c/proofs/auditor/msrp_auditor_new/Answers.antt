use Rattle.msrp_plan.proofs.Common.{sym, subst}
use Rattle.std.proofs.Common.{◌∙◌}
use Rattle.msrp_c.specs.Answers.{Tells}
use Rattle.msrp_c.proofs.Handing.{long-opens, new-opens, unused-none, used-opens}
use Rattle.msrp_c.proofs.auditor.msrp_auditor_new.Goals as goal

pub returns-then-is_used : goal.returns-then-is_used
returns-then-is_used c = used-opens _ _ _ _ _ _ _ (sym c.is_used.ensures.used ∙ c.if-is_used.true) c.is_used.ensures.same c.tell.ensures

pub returns-then-is_long : goal.returns-then-is_long
returns-then-is_long c = long-opens _ _ _ _ _ _ _ (sym c.is_used.ensures.used ∙ c.if-is_used.false) (sym c.is_long.ensures ∙ c.if-is_long.true) c.is_used.ensures.same c.tell-then-is_long.ensures

pub open-what-requires : goal.open-what-requires
open-what-requires c = c.is_used.ensures.same ∙ unused-none _ (sym c.is_used.ensures.used ∙ c.if-is_used.false)

pub returns : goal.returns
returns c = new-opens _ _ _ _ _ c.opened-made.result c.open-what.result _ _ (sym c.is_used.ensures.used ∙ c.if-is_used.false) (sym c.is_long.ensures ∙ c.if-is_long.false) c.opened-made.ensures c.open-what.ensures.held c.open-what.ensures.fault
    (subst (λ what. Tells what c.tell-2.new.found c.tell-2.result) c.unfailed.ensures c.tell-2.ensures)
