use Rattle.std.proofs.Common.{◌≡◌, ◌+◌, ◌++◌, ◌∙◌}
use Rattle.msrp_plan.proofs.Common.{ap, inl, length, subst, sym}
use Rattle.msrp_text.specs.Lines.{HasRead}
use Rattle.msrp_text.specs.Records.{ahead_at}
use Rattle.msrp_text.proofs.Fronts.{begins-taken, front-behind, line-fed}
use Rattle.msrp_text.proofs.records.RecordReader.meets_behind.Goals as goal
use Rattle.msrp_text.proofs.records.RecordReader.meets_behind.Goals.{else-ends_line-via-then-ends_line+else-begins_with_long, else-ends_line-via-else-ends_line}

pub returns-then-begins_with_long-clause-taken : goal.returns-then-begins_with_long-clause-taken
returns-then-begins_with_long-clause-taken g c = λ yes rest is plain.
    let behind = rw (c.ahead.ensures ∙ sym (ap ahead_at c.in-Lines.is)) at (c.begins_with_long.ensures.begins c.if-begins_with_long.true) in
    let ended = line-fed _ c.args.front.now rest _ c.args.line.now _ (front-behind _ c.args.front.now c.requires) behind.1 is in
    c.take_line.ensures.next (c.args.front.now ++ rest) (inl ended) plain

pub returns-then-begins_with_long-clause-begins : goal.returns-then-begins_with_long-clause-begins
returns-then-begins_with_long-clause-begins g c = λ yes rest is.
    let behind = rw (c.ahead.ensures ∙ sym (ap ahead_at c.in-Lines.is)) at (c.begins_with_long.ensures.begins c.if-begins_with_long.true) in
    let ended = line-fed _ c.args.front.now rest _ c.args.line.now _ (front-behind _ c.args.front.now c.requires) behind.1 is in
    begins-taken (c.args.front.now ++ rest) _ (length c.args.front.now + length c.args.line.now) (inl ended)

pub returns-then-begins_with_long-clause-line : goal.returns-then-begins_with_long-clause-line
returns-then-begins_with_long-clause-line g c = λ yes rest is plain bytes number read.
    let behind = rw (c.ahead.ensures ∙ sym (ap ahead_at c.in-Lines.is)) at (c.begins_with_long.ensures.begins c.if-begins_with_long.true) in
    let ended = line-fed _ c.args.front.now rest _ c.args.line.now _ (front-behind _ c.args.front.now c.requires) behind.1 is in
    c.take_line.ensures.line (c.args.front.now ++ rest) bytes number (inl ended) plain read.taken

pub returns-clause-line : goal.returns-clause-line
returns-clause-line g c = λ yes rest is plain bytes number read.
    let same : c.else-ends_line.self ≡ c.args.self.now = elim c.else-ends_line.branch [ else-ends_line-via-then-ends_line+else-begins_with_long w ↦ w.self-is | else-ends_line-via-else-ends_line w ↦ w.self-is ] in
    c.meets_apart-2.ensures.line yes rest is plain bytes number (subst (HasRead g.R.Read.remaining bytes number) (sym same) read)
