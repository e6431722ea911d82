use Rattle.std.proofs.Common.{◌∙◌}
use Rattle.msrp_plan.proofs.Common.{sym}
use Rattle.msrp_c.proofs.Streaming.{good-is, none-due}
use Rattle.msrp_c.proofs.held.FedAuditor.due.Goals as goal

pub returns-then-is_good-clause-due : goal.returns-then-is_good-clause-due
returns-then-is_good-clause-due c = λ plan turns h has. absurd (has.more (sym (c.end.ensures plan turns h) ∙ good-is _ (sym c.is_good.ensures ∙ c.if-is_good.true)))

pub returns-then-not-is_due-clause-due : goal.returns-then-not-is_due-clause-due
returns-then-not-is_due-clause-due c = λ plan turns h has. absurd (none-due plan turns c.args.self.now h (good-is _ (sym c.is_good-2.ensures ∙ c.if-not-is_good.false)) c.args.core.0 c.is_due.result c.if-not-is_due.true c.is_due.ensures.answer has)
