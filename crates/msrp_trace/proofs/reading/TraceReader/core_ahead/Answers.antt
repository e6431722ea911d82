use Rattle.std.proofs.Common.{◌∙◌, ◌+◌}
use Rattle.msrp_plan.proofs.Common.{decimal, ap, sym, arith, none-some}
use Rattle.msrp_trace.proofs.FirstRows.{begins_next, core_found, digit_behind}
use Rattle.msrp_trace.proofs.reading.TraceReader.core_ahead.Goals as goal

pub returns-in-Some-clause-next : goal.returns-in-Some-clause-next
returns-in-Some-clause-next g c = λ told h.
    let old = c.args.self.now in
    begins_next old.version old.plan.now old.number c.args.tick c.in-Some.digit _ c.bytes.result.now _ _ old.state told c.in-Rows.is h c.digit_after.ensures.same (c.bytes.ensures ∙ ap decimal c.show.ensures) (omega arith) c.from.ensures c.in-Some.ensures.next

pub returns-in-Some-clause-finds : goal.returns-in-Some-clause-finds
returns-in-Some-clause-finds g c = λ rows core begins.
    let there = digit_behind c.digit_after.result c.bytes.result.now c.args.tick core.0 _ (c.bytes.ensures ∙ ap decimal c.show.ensures) c.digit_after.ensures.finds begins in
    core_found c.digit_after.result c.in-Some.digit _ core c.from.ensures there c.in-Some.is

pub returns-in-None-clause-finds : goal.returns-in-None-clause-finds
returns-in-None-clause-finds g c = λ rows core begins.
    let there = digit_behind c.digit_after.result c.bytes.result.now c.args.tick core.0 _ (c.bytes.ensures ∙ ap decimal c.show.ensures) c.digit_after.ensures.finds begins in
    absurd (none-some (48 + core.0) (sym c.in-None.is ∙ there))

pub returns-in-Some-clause-lines : goal.returns-in-Some-clause-lines
returns-in-Some-clause-lines g c = λ bytes read. c.digit_after.ensures.still bytes _ read

pub returns-in-None-clause-lines : goal.returns-in-None-clause-lines
returns-in-None-clause-lines g c = λ bytes read. c.digit_after.ensures.still bytes _ read
