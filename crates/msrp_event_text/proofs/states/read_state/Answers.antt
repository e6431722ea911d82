use Rattle.std.proofs.Common.{◌∙◌}
use Rattle.msrp_plan.proofs.Common.{ap, sym, option_map, drop}
use Rattle.msrp_text.specs.Records.{csv_records}
use Rattle.msrp_event_text.specs.StateTexts.{state_described}
use Rattle.msrp_event_text.proofs.LeftRecords.{one-left}
use Rattle.msrp_event_text.proofs.Starting.{has-begun}
use Rattle.msrp_event_text.proofs.states.read_state.Goals as goal

pub returns-clause-state : goal.returns-clause-state
returns-clause-state g c = λ bytes known ok.
    let left = c.new-records.ensures.left ∙ ap (option_map csv_records) known in
    let one = one-left (csv_records bytes) _ _ _ (c.in_ok-read.ensures.next (csv_records bytes) left) c.if-not-branch.false in
    ap (state_described c.args.auditor.now.system c.args.auditor.now.state) (ap (drop 1) one.1) ∙ c.assume_all.ensures.state one.0 one.2 ok

pub returns-clause-fed : goal.returns-clause-fed
returns-clause-fed g c = λ bytes start known ok none at legal.
    let left = c.new-records.ensures.left ∙ ap (option_map csv_records) known in
    let one = one-left (csv_records bytes) _ _ _ (c.in_ok-read.ensures.next (csv_records bytes) left) c.if-not-branch.false in
    let described = ap (state_described c.args.auditor.now.system c.args.auditor.now.state) (ap (drop 1) one.1) ∙ c.assume_all.ensures.state one.0 one.2 ok in
    has-begun _ c.args.auditor.now.system c.args.auditor.now.tolerances start c.assume_all.ensures.system c.assume_all.ensures.tolerances (c.assume_all.ensures.finding ∙ none) (sym described ∙ at) legal
