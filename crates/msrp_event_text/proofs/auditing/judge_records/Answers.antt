use Rattle.std.proofs.Common.{◌≡◌, ◌+◌, ◌++◌, ◌∷◌, ◌∙◌}
use Rattle.msrp_plan.proofs.Common.{[], ap, append-nil, sym, refl, rules, inr, Ok, Err, Some, None}
use Rattle.csv.specs.Records.{fields_of}
use Rattle.msrp_event_text.specs.Decisions.{verdict_in}
use Rattle.msrp_event_text.specs.LogVerdicts.{settled, verdict_from}
use Rattle.msrp_event_text.proofs.Decided.{one-more, count-more, events-more, more-done, is-decided}
use Rattle.msrp_event_text.proofs.LeftRecords.{answer-is, answers-same, none-left, one-left, verdict-decided, verdict-goes, has-event}
use Rattle.msrp_event_text.proofs.auditing.judge_records.Goals as goal

pub loop-number-init : goal.loop-number-init
loop-number-init g c = (c.requires.system, refl, c.requires.none, λ start all fed known. (start, [], fed, sym (append-nil start), all, known, refl, [], refl, refl, refl))

pub returns-then-not-branch-clause-verdict : goal.returns-then-not-branch-clause-verdict
returns-then-not-branch-clause-verdict g c = λ start all fed known.
    let it = c.loop-number.invariant.3 start all fed known in
    let none = none-left it.4 _ _ _ (c.in_ok-read.ensures.next it.4 it.5) c.if-not-branch.true in
    inr (inr (sym (ap (verdict_from c.args.system.now c.args.auditor.now.tolerances c.loop-number.number it.0 c.loop-number.numbers.items) none) ∙ it.6))

pub returns-in_err-finding-clause-verdict : goal.returns-in_err-finding-clause-verdict
returns-in_err-finding-clause-verdict g c = λ start all fed known.
    let kept = c.loop-number.invariant in
    let it = kept.3 start all fed known in
    let one = one-left it.4 _ _ _ (c.in_ok-read.ensures.next it.4 it.5) c.if-not-branch.false in
    let e : c.from_residual-in_err-finding.result ≡ Err c.in_err-finding.field-0.0 = search rules in
    let shown = sym (c.judge_record.ensures.shown it.0 it.2) ∙ c.in_err-finding.was in
    inr (inr (ap verdict_in e ∙ (sym (verdict-decided c.args.system.now _ _ kept.1 c.loop-number.number it.0 c.loop-number.numbers.items it.4 _ one.0 one.1 (Err c.in_err-finding.field-0.0) _ shown refl) ∙ it.6)))

pub returns-in_err-verdict-clause-verdict : goal.returns-in_err-verdict-clause-verdict
returns-in_err-verdict-clause-verdict g c = λ start all fed known.
    let kept = c.loop-number.invariant in
    let it = kept.3 start all fed known in
    let one = one-left it.4 _ _ _ (c.in_ok-read.ensures.next it.4 it.5) c.if-not-branch.false in
    let found = c.in_ok-finding.was ∙ ap (λ o. Ok o) c.in-Some.is in
    let shown = sym (c.judge_record.ensures.shown it.0 it.2) ∙ found in
    let e : c.from_residual-in_err-verdict.result ≡ Err c.in_err-verdict.field-0.0 = search rules in
    let due = ap (λ ns. settled c.args.system.now c.loop-number.number ns one.0 c.in-Some.finding) (c.judge_record.ensures.told c.in-Some.finding found) in
    answer-is _ _ _ (c.in_err-verdict.was ∙ sym (ap verdict_in e)) (answers-same _ _ _ (due ∙ (sym (verdict-decided c.args.system.now _ _ kept.1 c.loop-number.number it.0 c.loop-number.numbers.items it.4 _ one.0 one.1 (Ok (Some c.in-Some.finding)) _ shown refl) ∙ it.6)) (c.settle.ensures one.0 one.2))

pub returns-in-Some-clause-verdict : goal.returns-in-Some-clause-verdict
returns-in-Some-clause-verdict g c = λ start all fed known.
    let kept = c.loop-number.invariant in
    let it = kept.3 start all fed known in
    let one = one-left it.4 _ _ _ (c.in_ok-read.ensures.next it.4 it.5) c.if-not-branch.false in
    let found = c.in_ok-finding.was ∙ ap (λ o. Ok o) c.in-Some.is in
    let shown = sym (c.judge_record.ensures.shown it.0 it.2) ∙ found in
    let due = ap (λ ns. settled c.args.system.now c.loop-number.number ns one.0 c.in-Some.finding) (c.judge_record.ensures.told c.in-Some.finding found) in
    answer-is _ _ _ c.in_ok-verdict.was (answers-same _ _ _ (due ∙ (sym (verdict-decided c.args.system.now _ _ kept.1 c.loop-number.number it.0 c.loop-number.numbers.items it.4 _ one.0 one.1 (Ok (Some c.in-Some.finding)) _ shown refl) ∙ it.6)) (c.settle.ensures one.0 one.2))

pub returns-in-Some-clause-shown : goal.returns-in-Some-clause-shown
returns-in-Some-clause-shown g c = λ start all fed known.
    let kept = c.loop-number.invariant in
    let it = kept.3 start all fed known in
    let one = one-left it.4 _ _ _ (c.in_ok-read.ensures.next it.4 it.5) c.if-not-branch.false in
    let found = c.in_ok-finding.was ∙ ap (λ o. Ok o) c.in-Some.is in
    let shown = sym (c.judge_record.ensures.shown it.0 it.2) ∙ found in
    is-decided c.args.system.now _ start c.loop-number.auditor it.0 it.1 it.2 it.3 kept.0 kept.1 kept.2 _ (c.judge_record.ensures.kept c.in-Some.finding found) c.loop-number.number _ c.in-Some.finding shown it.7 it.4 one.0 all it.8 one.1 it.9 it.10 _ _ c.shown_by-shown.ensures

pub loop-number-preserved : goal.loop-number-preserved
loop-number-preserved g c =
    let kept = c.loop-number.invariant in
    let nothing = c.in_ok-finding.was ∙ ap (λ o. Ok o) c.in_default.is in (
      c.judge_record.ensures.system ∙ kept.0,
      c.judge_record.ensures.tolerances ∙ kept.1,
      c.judge_record.ensures.none nothing,
      λ start all fed known.
          let it = kept.3 start all fed known in
          let one = one-left it.4 _ _ _ (c.in_ok-read.ensures.next it.4 it.5) c.if-not-branch.false in
          let shown = sym (c.judge_record.ensures.shown it.0 it.2) ∙ nothing in
          let event = has-event c.args.system.now c.loop-number.auditor.tolerances c.loop-number.number it.0 (fields_of c.read.new.row) _ None shown in (
            it.0 ++ event.0 ∷ [],
            it.1 ++ event.0 ∷ [],
            c.judge_record.ensures.fed it.0 event.0 it.2 event.1,
            more-done it.0 start it.1 event.0 it.3,
            one.0,
            one.2,
            verdict-goes c.args.system.now _ _ kept.1 c.loop-number.number it.0 c.loop-number.numbers.items it.4 _ one.0 one.1 event.0 _ shown event.2 (c.judge_record.ensures.noted nothing) ∙ it.6,
            it.7 ++ fields_of c.read.new.row ∷ [],
            one-more it.7 _ it.4 one.0 all it.8 one.1,
            count-more it.7 _ c.loop-number.number it.9,
            events-more c.args.system.now it.7 _ it.1 event.0 event.1 it.10,
          ),
    )
