use Rattle.std.proofs.Common.{◌<◌, ◌∙◌}
use Rattle.msrp_plan.proofs.Common.{length, slice_index, sym, arith}
use Rattle.msrp_text.proofs.Fronts.{field-ends, field-on, field-put, inside-other, line-on, other-none, plain-on}
use Rattle.msrp_text.proofs.PlainLines.{split-ends}
use Rattle.msrp_text.proofs.front.front_of.Goals.{then-byte-eq44+in_ok-push_field, else-byte-eq44}
use Rattle.msrp_text.proofs.front.front_of.Goals as goal

pub front_to-requires-clause-fields : goal.front_to-requires-clause-fields
front_to-requires-clause-fields c = split-ends _ _ _ c.loop-at.invariant.fields

pub returns-then-is_other : goal.returns-then-is_other
returns-then-is_other c = other-none c.args.text.now c.loop-at.at _ (sym c.is_other.ensures ∙ c.if-is_other.true) c.loop-at.invariant.before

pub loop-at-preserved-then-is_inside : goal.loop-at-preserved-then-is_inside
loop-at-preserved-then-is_inside c =
    let at = c.loop-at.at in
    let text = c.args.text.now in
    let start = c.loop-at.start in
    let before = c.loop-at.invariant in
    let within : at < length text = omega (arith, c.loop-at-test.true, c.min-at-end.ensures) in
    let above : 44 < slice_index text at = c.is_inside.ensures.above c.if-is_inside.true in
    let others = inside-other _ at above (c.is_inside.ensures.first c.if-is_inside.true) in
    record {
      start = omega (arith, before.start);
      before = line-on text at others.feed others.return before.before;
      plain = λ some. plain-on text at within others.feed others.return others.other before.plain;
      whole = before.whole;
      fields = field-on text at start _ within before.start others.comma before.fields;
    }

pub loop-at-preserved : goal.loop-at-preserved
loop-at-preserved c =
    let at = c.loop-at.at in
    let text = c.args.text.now in
    let start = c.loop-at.start in
    let before = c.loop-at.invariant in
    let within : at < length text = omega (arith, c.loop-at-test.true, c.min-at-end.ensures) in
    let plain = plain-on text at within c.if-byte-eq10.false c.if-byte-eq13.false (sym c.is_other.ensures ∙ c.if-is_other.false) before.plain in
    let line = line-on text at c.if-byte-eq10.false c.if-byte-eq13.false before.before in
    elim c.if-byte-eq44.branch [
      | then-byte-eq44+in_ok-push_field w ↦
          let put = field-put _ _ _ text start at w.in_ok-push_field.ensures.fields before.whole before.start in
          rw (w.row-is, w.start-is) (record {
            start = omega arith;
            before = line;
            plain = λ some. plain;
            whole = w.in_ok-push_field.ensures.partial;
            fields = rw put (field-ends text at start _ within w.if-byte-eq44.true before.fields);
          })
      | else-byte-eq44 w ↦ rw (w.row-is, w.start-is) (record {
        start = omega (arith, before.start);
        before = line;
        plain = λ some. plain;
        whole = before.whole;
        fields = field-on text at start _ within before.start w.if-byte-eq44.false before.fields;
      })
    ]
