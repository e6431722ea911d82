use Rattle.msrp_plan.proofs.Common.{subst, take}
use Rattle.msrp_text.specs.Plain.{EndsLine, split_commas}
use Rattle.msrp_text.proofs.UsualRecords.{body-refused, body-taken}
use Rattle.msrp_text.proofs.reading.take_usual.Goals as goal

pub returns-in-Ok : goal.returns-in-Ok
returns-in-Ok g c =
    let one = c.in-Some.ensures.added in
    let ended = subst (λ t. EndsLine one.line (take c.in-Some.taken t)) c.ahead.ensures one.ended in (
      split_commas one.line,
      c.take_line.ensures.next one.line ended one.plain,
      body-taken c.args.position.now c.in-Body.version c.in-Body.builder _ (split_commas one.line) c.args.number c.in-Some.judged c.in-Ok.field-0 c.in-Body.is one.is_judged one.added c.in-Ok.is,
    )

pub returns-in-Err : goal.returns-in-Err
returns-in-Err g c =
    let one = c.in-Some.ensures.added in
    let ended = subst (λ t. EndsLine one.line (take c.in-Some.taken t)) c.ahead.ensures one.ended in (
      split_commas one.line,
      c.take_line.ensures.next one.line ended one.plain,
      rw c.refused.ensures (body-refused c.args.position.now c.in-Body.version c.in-Body.builder (split_commas one.line) c.args.number c.in-Some.judged c.in-Err.fault c.in-Body.is one.is_judged c.in-Err.is),
    )
