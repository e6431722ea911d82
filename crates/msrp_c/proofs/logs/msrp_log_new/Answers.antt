use Rattle.std.proofs.Common.{◌∙◌}
use Rattle.msrp_plan.proofs.Common.{Some, sym, subst}
use Rattle.std.specs.Prelude.{IfOk}
use Rattle.msrp_c.specs.Answers.{Tells}
use Rattle.msrp_c.specs.Logs.{IsNewLog}
use Rattle.msrp_c.proofs.Handing.{unused-none}
use Rattle.msrp_c.proofs.LogOpening.{long-log, short-log}
use Rattle.msrp_c.proofs.logs.msrp_log_new.Goals as goal

pub returns-then-is_long-clause-opens : goal.returns-then-is_long-clause-opens
returns-then-is_long-clause-opens c = λ none. long-log _ _ _ _ _ (sym c.is_long.ensures ∙ c.if-is_long.true) (c.is_used.ensures.same ∙ none) c.tell-then-is_long.ensures

pub open-what-requires : goal.open-what-requires
open-what-requires c = c.is_used.ensures.same ∙ unused-none _ (sym c.is_used.ensures.used ∙ c.if-is_used.false)

pub returns-clause-opens : goal.returns-clause-opens
returns-clause-opens c = λ none. short-log _ _ c.opened-made.result _ c.open-what.result _ _ (sym c.is_long.ensures ∙ c.if-is_long.false)
    (subst (λ t. IfOk c.opened-made.result (λ content. IsNewLog t (Some content))) c.tolerances_of.ensures c.opened-made.ensures) c.open-what.ensures.held c.open-what.ensures.fault
    (subst (λ what. Tells what c.tell-2.new.found c.tell-2.result) c.unfailed.ensures c.tell-2.ensures)
