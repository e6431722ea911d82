use Rattle.std.proofs.Common.{◌≡◌, ◌∙◌}
use Rattle.msrp_plan.proofs.Common.{rules, ap, arith, refl, Err, Some, sym}
use Rattle.msrp_text.specs.Reading.{plan_of}
use Rattle.msrp_text.specs.Records.{records_left}
use Rattle.msrp_text.specs.declared.reading.Unread.TheVariants.{Told}
use Rattle.msrp_text.proofs.Folding.{plan-begins, plan-ends, plan-goes, plan-refused, plan_from, refused-on, taken-on}
use Rattle.msrp_text.proofs.UsualRecords.{none-taken, one-refused, one-taken}
use Rattle.msrp_text.proofs.reading.read_positions.Goals as goal

pub loop-number-init : goal.loop-number-init
loop-number-init g c = λ all known. (all, known, sym (plan-begins all), omega arith)

pub returns-in_err-take_usual : goal.returns-in_err-take_usual
returns-in_err-take_usual g c = λ all known.
    let before = c.loop-number.invariant all known in
    let one = one-refused _ _ c.loop-number.position _ c.loop-number.number _ _ c.take_usual.ensures c.in_err-take_usual.was in
    let e : c.from_residual.result ≡ Err (Told c.in_err-take_usual.field-0.0) = search rules in
    rw e (plan-refused c.loop-number.position c.loop-number.number before.0 _ one.0 _ _ _ before.2 (one.1 before.0 before.1) refl one.2)

pub loop-number-preserved-then-branch : goal.loop-number-preserved-then-branch
loop-number-preserved-then-branch g c = λ all known.
    let before = c.loop-number.invariant all known in
    let one = one-taken _ _ c.loop-number.position _ c.loop-number.number _ _ c.take_usual.ensures c.in_ok-take_usual.was c.if-branch.true in
    let next = plan-goes c.loop-number.position c.take_usual.new.position c.loop-number.number before.0 _ one.0 _ _ before.2 (one.1 before.0 before.1) refl one.2 in
    let size = before.3 in
    let fewer = next.3 in
    (next.0, next.1, next.2, omega (arith, size, fewer))

pub loop-number-preserved : goal.loop-number-preserved
loop-number-preserved g c = λ all known.
    let before = c.loop-number.invariant all known in
    let none = none-taken _ _ c.loop-number.position _ c.loop-number.number _ _ c.take_usual.ensures c.in_ok-take_usual.was c.if-branch.false in
    let left : records_left g.R.Read.remaining c.take_usual.new.records ≡ Some before.0 = none.1 ∙ before.1 in
    let plan : plan_from c.take_usual.new.position c.loop-number.number before.0 ≡ plan_of all = ap (λ p. plan_from p c.loop-number.number before.0) none.0 ∙ before.2 in
    let taken = taken-on _ _ _ _ c.step.result _ c.step.ensures c.in_ok-step.was in
    let next = plan-goes c.take_usual.new.position c.step.new.position c.loop-number.number before.0 _ _ _ _ plan (c.in_ok-read.ensures.next before.0 left) c.if-not-branch.false taken in
    let size = before.3 in
    let fewer = next.3 in
    (next.0, next.1, next.2, omega (arith, size, fewer))

pub returns-in_err-step : goal.returns-in_err-step
returns-in_err-step g c = λ all known.
    let before = c.loop-number.invariant all known in
    let none = none-taken _ _ c.loop-number.position _ c.loop-number.number _ _ c.take_usual.ensures c.in_ok-take_usual.was c.if-branch.false in
    let left : records_left g.R.Read.remaining c.take_usual.new.records ≡ Some before.0 = none.1 ∙ before.1 in
    let plan : plan_from c.take_usual.new.position c.loop-number.number before.0 ≡ plan_of all = ap (λ p. plan_from p c.loop-number.number before.0) none.0 ∙ before.2 in
    let e : c.from_residual-in_err-step.result ≡ Err (Told c.in_err-step.field-0.0) = search rules in
    let refused = refused-on _ _ _ _ c.step.result _ c.step.ensures c.in_err-step.was in
    rw e (plan-refused c.take_usual.new.position c.loop-number.number before.0 _ _ _ _ _ plan (c.in_ok-read.ensures.next before.0 left) c.if-not-branch.false refused)

pub returns-in_err-end : goal.returns-in_err-end
returns-in_err-end g c = λ all known.
    let before = c.loop-number.invariant all known in
    let none = none-taken _ _ c.loop-number.position _ c.loop-number.number _ _ c.take_usual.ensures c.in_ok-take_usual.was c.if-branch.false in
    let left : records_left g.R.Read.remaining c.take_usual.new.records ≡ Some before.0 = none.1 ∙ before.1 in
    let plan : plan_from c.take_usual.new.position c.loop-number.number before.0 ≡ plan_of all = ap (λ p. plan_from p c.loop-number.number before.0) none.0 ∙ before.2 in
    let e : c.from_residual-in_err-end.result ≡ Err (Told c.in_err-end.field-0.0) = search rules in
    rw e (plan-ends c.take_usual.new.position c.loop-number.number before.0 _ _ _ c.end.result _ _ plan (c.in_ok-read.ensures.next before.0 left) c.if-not-branch.true c.end.ensures c.in_err-end.was)

pub returns-then-not-branch : goal.returns-then-not-branch
returns-then-not-branch g c = λ all known.
    let before = c.loop-number.invariant all known in
    let none = none-taken _ _ c.loop-number.position _ c.loop-number.number _ _ c.take_usual.ensures c.in_ok-take_usual.was c.if-branch.false in
    let left : records_left g.R.Read.remaining c.take_usual.new.records ≡ Some before.0 = none.1 ∙ before.1 in
    let plan : plan_from c.take_usual.new.position c.loop-number.number before.0 ≡ plan_of all = ap (λ p. plan_from p c.loop-number.number before.0) none.0 ∙ before.2 in
    plan-ends c.take_usual.new.position c.loop-number.number before.0 _ _ _ c.end.result _ _ plan (c.in_ok-read.ensures.next before.0 left) c.if-not-branch.true c.end.ensures c.in_ok-end.was
