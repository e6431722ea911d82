use Rattle.std.proofs.Common.{◌∙◌}
use Rattle.msrp_plan.proofs.Common.{Some, sym, ap}
use Rattle.msrp_ready.proofs.Common.{entry_keys, head}
use Rattle.msrp_ready.proofs.Standing.{head_none, head_some}
use Rattle.msrp_ready.proofs.ready.Ready.head.Goals as goal

pub returns-in_err-first : goal.returns-in_err-first
returns-in_err-first c =
    let r = c.self.inside in
    c.from_residual.ensures ∙ sym (head_none r.plan.now r.core.0 (entry_keys r.plan.now r.calendar.items) r.next r.heap r.tick c.self.invariant.0 c.in_err-first.ensures.none) ∙ ap head c.self.view_is

pub returns : goal.returns
returns c =
    let r = c.self.inside in
    let told = c.in_ok-first.ensures in
    ap (λ j. Some j) c.job.ensures ∙ sym (head_some r.plan.now r.core.0 (entry_keys r.plan.now r.calendar.items) r.next r.heap r.tick c.self.invariant.0 c.in_ok-first.first told.one told.first) ∙ ap head c.self.view_is
