use Rattle.std.proofs.Common.{◌≡◌, ◌*◌, ◌<◌, ◌++◌, ◌∷◌, ◌∙◌}
use Rattle.msrp_plan.proofs.Common.{[], List, Some, true, length, refl, ap, sym, subst, is_in_turn, refused}
use Rattle.msrp_plan.specs.declared.rows.Row.{Row as TraceRow}
use Rattle.msrp_sim.specs.Cores.{IsNextRow}
use Rattle.msrp_audit.specs.Audits.{AuditorModel, HasFed, answer_of}
use Rattle.msrp_audit.proofs.Judging.{came_in_turn, fed_bad}
use Rattle.msrp_audit.proofs.auditor.Auditor.judge.Goals as goal

pub returns-in-None-clause-fed : goal.returns-in-None-clause-fed
returns-in-None-clause-fed c = λ rows is tick. c.accept.ensures.fed rows c.args.row.core.0 c.args.due c.args.row is tick (c.in-None.ensures.as_due refl (sym is.next.core))

pub returns-in-None-clause-answer : goal.returns-in-None-clause-answer
returns-in-None-clause-answer c = λ rows is tick.
    let fed = c.accept.ensures.fed rows c.args.row.core.0 c.args.due c.args.row is tick (c.in-None.ensures.as_due refl (sym is.next.core)) in
    let same = subst (λ (b : AuditorModel). HasFed b (rows ++ c.args.row ∷ [])) c.accept.ensures.same fed in
    ap answer_of (sym is.fault ∙ same.fault)

pub returns-in-Some-clause-fed : goal.returns-in-Some-clause-fed
returns-in-Some-clause-fed c = λ rows is tick.
    let a = c.args.self.now in
    let P : AuditorModel → Type 0 = λ b. (before : List TraceRow) → length before < b.plan.cores * b.plan.ticks → is_in_turn b.plan before c.args.row ≡ true → IsNextRow b.plan before c.args.row.core.0 c.args.due → Some c.in-Some.rule ≡ refused b.plan before c.args.row in
    let rule = subst P c.self.view_is c.in-Some.ensures.rule rows (subst (λ n. n < a.plan.cores * a.plan.ticks) is.count c.requires) (came_in_turn a rows c.args.due c.args.row is tick) is.next in
    (fed_bad a c.fail.new.self c.fail.result rows c.args.row c.in-Some.rule is.good is.count rule c.fail.ensures.same c.fail.ensures.fault).0

pub returns-in-Some-clause-answer : goal.returns-in-Some-clause-answer
returns-in-Some-clause-answer c = λ rows is tick.
    let a = c.args.self.now in
    let P : AuditorModel → Type 0 = λ b. (before : List TraceRow) → length before < b.plan.cores * b.plan.ticks → is_in_turn b.plan before c.args.row ≡ true → IsNextRow b.plan before c.args.row.core.0 c.args.due → Some c.in-Some.rule ≡ refused b.plan before c.args.row in
    let rule = subst P c.self.view_is c.in-Some.ensures.rule rows (subst (λ n. n < a.plan.cores * a.plan.ticks) is.count c.requires) (came_in_turn a rows c.args.due c.args.row is tick) is.next in
    sym (ap answer_of (fed_bad a c.fail.new.self c.fail.result rows c.args.row c.in-Some.rule is.good is.count rule c.fail.ensures.same c.fail.ensures.fault).1)
