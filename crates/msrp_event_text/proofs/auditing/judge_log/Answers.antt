use Rattle.std.proofs.Common.{◌∙◌}
use Rattle.msrp_plan.proofs.Common.{ap, sym, inr, option_map, drop}
use Rattle.msrp_text.specs.Records.{csv_records}
use Rattle.msrp_event_text.specs.LogVerdicts.{awaited_in, verdict_after, verdict_from}
use Rattle.msrp_event_text.proofs.Decided.{decided-same}
use Rattle.msrp_event_text.proofs.LeftRecords.{answers-same, none-left, one-left, head-wrong, head-right}
use Rattle.msrp_event_text.proofs.auditing.judge_log.Goals as goal
use Rattle.msrp_event_text.proofs.auditing.judge_log.Goals.{then-not-branch-via-then-not-branch, then-not-branch-via-else-not-branch+then-not-is_head}

pub returns-then-not-branch-clause-verdict : goal.returns-then-not-branch-clause-verdict
returns-then-not-branch-clause-verdict g c = λ start bytes fed known.
    let left = c.new-records.ensures.left ∙ ap (option_map csv_records) known in
    let gives = c.in_ok-read.ensures.next (csv_records bytes) left in
    let auditor = c.args.auditor.now in
    elim c.then-not-branch.branch [
      | then-not-branch-via-then-not-branch w ↦ inr (inr (sym (ap (verdict_after c.args.system.now auditor.tolerances start (awaited_in auditor.state)) (none-left (csv_records bytes) _ _ _ gives w.if-not-branch.true))))
      | then-not-branch-via-else-not-branch+then-not-is_head w ↦
          let one = one-left (csv_records bytes) _ _ _ gives w.if-not-branch.false in
          inr (inr (sym (ap (verdict_after c.args.system.now auditor.tolerances start (awaited_in auditor.state)) one.1 ∙ head-wrong c.args.system.now auditor.tolerances start (awaited_in auditor.state) _ one.0 (sym w.is_head.ensures ∙ w.if-not-is_head.true))))
    ]

pub returns-clause-verdict : goal.returns-clause-verdict
returns-clause-verdict g c = λ start bytes fed known.
    let left = c.new-records.ensures.left ∙ ap (option_map csv_records) known in
    let one = one-left (csv_records bytes) _ _ _ (c.in_ok-read.ensures.next (csv_records bytes) left) c.if-not-branch.false in
    let head = sym c.is_head.ensures ∙ c.if-not-is_head.false in
    let auditor = c.args.auditor.now in
    let due = ap (λ ns. verdict_from c.args.system.now auditor.tolerances 2 start ns one.0) c.in_ok-numbers.ensures
    ∙ (sym (head-right c.args.system.now auditor.tolerances start (awaited_in auditor.state) _ one.0 head) ∙ ap (verdict_after c.args.system.now auditor.tolerances start (awaited_in auditor.state)) (sym one.1)) in
    answers-same _ _ _ due (c.judge_records.ensures.verdict start one.0 fed one.2)

pub returns-clause-shown : goal.returns-clause-shown
returns-clause-shown g c = λ start bytes fed known.
    let left = c.new-records.ensures.left ∙ ap (option_map csv_records) known in
    let one = one-left (csv_records bytes) _ _ _ (c.in_ok-read.ensures.next (csv_records bytes) left) c.if-not-branch.false in
    decided-same _ _ _ _ _ (sym (ap (drop 1) one.1)) _ _ _ (c.judge_records.ensures.shown start one.0 fed one.2)
