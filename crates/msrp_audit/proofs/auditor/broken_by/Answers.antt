use Rattle.std.proofs.Common.{◌∙◌}
use Rattle.msrp_plan.proofs.Common.{sym}
use Rattle.msrp_audit.proofs.Judging.{as_due, none_of, refused_is, unrefused}
use Rattle.msrp_audit.proofs.auditor.broken_by.Goals.{else-is_some-via-then-is_some+else-not-is_own, else-is_some-via-else-is_some}
use Rattle.msrp_audit.proofs.auditor.broken_by.Goals as goal

pub returns-clause-rule : goal.returns-clause-rule
returns-clause-rule c = λ rows left turn next. elim c.else-is_some.branch [
  | else-is_some-via-then-is_some+else-not-is_own w ↦
      c.unlike_due-unlike.ensures ∙ refused_is c.args.plan.now rows c.args.row c.args.due left turn (sym w.is_own.ensures ∙ w.if-not-is_own.false) next
  | else-is_some-via-else-is_some w ↦
      let none = none_of c.unlike_due-unlike.result (sym c.is_some.ensures ∙ w.if-is_some.false) in
      none ∙ unrefused c.args.plan.now rows c.args.row c.args.due left turn next (sym c.unlike_due-unlike.ensures ∙ none)
]

pub returns-clause-as_due : goal.returns-clause-as_due
returns-clause-as_due c = λ none core. as_due c.args.row c.args.due core (sym c.unlike_due-unlike.ensures ∙ none)
