use Rattle.std.proofs.Common.{◌∙◌}
use Rattle.msrp_plan.proofs.Common.{[], Ok, false, ap, sym, append-nil}
use Rattle.msrp_audit.specs.Audits.{answer_of}
use Rattle.msrp_plan.specs.Verdict.{verdict}
use Rattle.msrp_c.specs.Feeding.{found_whole}
use Rattle.msrp_c.specs.Turns.{told_in}
use Rattle.msrp_c.proofs.Streaming.{bad-is, good-is}
use Rattle.msrp_c.proofs.TurnByTurn.{all-told, good-in-told}
use Rattle.msrp_c.proofs.held.FedAuditor.end.Goals as goal

pub returns-then-is_good : goal.returns-then-is_good
returns-then-is_good c = λ plan turns h.
    let g = h.is.goes_on (good-is _ (sym c.is_good.ensures ∙ c.if-is_good.true)) in
    ap (λ x. Ok x) (c.end.ensures g.rows g.fed ∙ ap (λ p. answer_of (verdict p g.rows)) h.plan_is) ∙ sym (good-in-told false plan _ g.rows (ap told_in g.read ∙ all-told g.rows) g.good)

pub returns-else-is_good : goal.returns-else-is_good
returns-else-is_good c = λ plan turns h. (h.is.stays (bad-is _ (sym c.is_good.ensures ∙ c.if-is_good.false)) []).1 ∙ ap (found_whole plan) (append-nil turns)
