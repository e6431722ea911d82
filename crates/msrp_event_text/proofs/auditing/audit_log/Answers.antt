use Rattle.std.proofs.Common.{◌≡◌, ◌∙◌}
use Rattle.msrp_plan.proofs.Common.{[], Err, ap, rules, sym}
use Rattle.msrp_text.specs.Records.{csv_records}
use Rattle.msrp_event_text.specs.Decisions.{verdict_in}
use Rattle.msrp_event_text.proofs.Decided.{whole-verdict}
use Rattle.msrp_event_text.proofs.LeftRecords.{answer-is, answers-same}
use Rattle.msrp_event_text.proofs.auditing.audit_log.Goals as goal

pub returns-in_err-judge_log : goal.returns-in_err-judge_log
returns-in_err-judge_log g c = λ bytes known.
    let new = c.in_ok-auditor.ensures in
    let e : c.from_residual-in_err-judge_log.result ≡ Err c.in_err-judge_log.field-0.0 = search rules in
    let whole = whole-verdict c.args.system.now c.args.tolerances c.in_ok-auditor.auditor new.fed new.system new.tolerances new.none (csv_records bytes) in
    answer-is _ _ _ (ap verdict_in c.in_err-judge_log.was ∙ sym e) (answers-same _ _ _ whole (c.judge_log.ensures.verdict [] bytes new.fed known))

pub returns : goal.returns
returns g c = λ bytes known.
    let new = c.in_ok-auditor.ensures in
    let whole = whole-verdict c.args.system.now c.args.tolerances c.in_ok-auditor.auditor new.fed new.system new.tolerances new.none (csv_records bytes) in
    answer-is _ _ _ (ap verdict_in c.in_ok-judge_log.was) (answers-same _ _ _ whole (c.judge_log.ensures.verdict [] bytes new.fed known))
