use Rattle.std.proofs.Common.{◌∙◌}
use Rattle.msrp_plan.proofs.Common.{sym}
use Rattle.msrp_text.proofs.Texts.{text-kept, text-empty}
use Rattle.msrp_c.proofs.names.text_of.Goals as goal

pub returns-in-Ok : goal.returns-in-Ok
returns-in-Ok c = c.in-Ok.ensures.cases.0 ∙ sym (text-kept _ c.in-Ok.ensures.cases.1)

pub returns-in-Err : goal.returns-in-Err
returns-in-Err c = sym (text-empty _ c.in-Err.ensures.cases.0)
