use Rattle.std.proofs.Common.{◌≤◌, ◌∙◌, ◌-◌}
use Rattle.msrp_plan.proofs.Common.{rules, take, drop, length, sym}
use mathlib.Core.Bool.{true≢false}
use Rattle.msrp_text.proofs.Fronts.{front-behind}
use Rattle.msrp_text.proofs.FirstFields.{digit-begins}
use Rattle.msrp_text.proofs.front.digit_after.Goals as goal

pub returns-then-not-begins_with-clause-finds : goal.returns-then-not-begins_with-clause-finds
returns-then-not-begins_with-clause-finds c = λ digit begins. absurd (true≢false (sym (c.begins_with.ensures.finds _ begins.1.1) ∙ c.if-not-begins_with.true))

pub returns-then-rest-eq44-2-clause-digit : goal.returns-then-rest-eq44-2-clause-digit
returns-then-rest-eq44-2-clause-digit c =
    let rest = take (length c.args.text.now - length c.args.first.now) (drop (length c.args.first.now) c.args.text.now) in
    let first = front-behind c.args.text.now c.args.first.now (c.begins_with.ensures.begins c.if-not-begins_with.false) in
    let long : 3 ≤ length rest = search rules in
    digit-begins c.args.text.now c.args.first.now rest first long c.if-rest-eq44.true (sym c.is_ascii_digit.ensures.value ∙ c.if-is_ascii_digit.true) c.if-rest-eq44-2.true
