use Rattle.std.proofs.Common.{◌∷◌, ◌≡◌, ◌+◌, ◌++◌, ◌∙◌}
use Rattle.msrp_plan.proofs.Common.{[], length-append, rules, List, ℕ, sym, ap, subst, arith, length, decimal, refl}
use Rattle.msrp_trace.proofs.MetRows.{met_row, row_begins, row_line}
use Rattle.msrp_trace.proofs.ReadBack.{whole_line}
use Rattle.msrp_trace.proofs.Standing.{line_stands}
use Rattle.msrp_trace.proofs.Telling.{keeps_told}
use Rattle.msrp_trace.specs.Readers.{IsAtTick}
use Rattle.msrp_trace.specs.Reading.{told_after}
use Rattle.msrp_trace.specs.Texts.{TextsModel, text_of_core}
use Rattle.msrp_trace.proofs.Lining.{record_more}
use Rattle.msrp_trace.proofs.reading.TraceReader.comes_behind.Goals as goal

pub meets_behind-met-requires : goal.meets_behind-met-requires
meets_behind-met-requires g c = (c.requires.text.0, c.requires.text.1 ∙ ap (λ (t : List ℕ). t ++ c.requires.text.0) (sym (c.bytes.ensures ∙ ap decimal c.requires.kept)))

pub returns-then-met-clause-some : goal.returns-then-met-clause-some
returns-then-met-clause-some g c = λ yes none.
    let ended = c.meets_behind-met.ensures.ended c.if-met.true in
    omega (arith, length-append ended.0 (10 ∷ []), ap length ended.1, ap length (c.as_bytes.ensures ∙ (c.text_of-line.ensures ∙ (ap (λ (t : TextsModel). text_of_core t c.args.core.0) c.texts.view_is ∙ none))))

pub returns-then-met-clause-taken : goal.returns-then-met-clause-taken
returns-then-met-clause-taken g c = λ yes row told is h.
    let old = c.args.self.now in
    let text = c.as_bytes.ensures ∙ (c.text_of-line.ensures ∙ (ap (λ (t : TextsModel). text_of_core t c.args.core.0) c.texts.view_is ∙ is.text)) in
    let tick : c.bytes.result.now ≡ decimal row.tick = c.bytes.ensures ∙ ap decimal (c.requires.kept ∙ sym is.tick) in
    let line = row_line old.version old.plan.now row c.bytes.result.now _ tick refl in
    let number : c.in-Some.after ≡ old.number + 1 = search rules in
    met_row old.version old.plan.now old.number c.in-Some.after row _ _ _ old.state told c.tasks-accepted.ensures.plan is.whole line (c.meets_behind-met.ensures.taken c.if-met.true _ text) number c.requires.state h

pub returns-else-met-clause-finds : goal.returns-else-met-clause-finds
returns-else-met-clause-finds g c = λ row is can.
    let old = c.args.self.now in
    let text = c.as_bytes.ensures ∙ (c.text_of-line.ensures ∙ (ap (λ (t : TextsModel). text_of_core t c.args.core.0) c.texts.view_is ∙ is.text)) in
    let tick : c.bytes.result.now ≡ decimal row.tick = c.bytes.ensures ∙ ap decimal (c.requires.kept ∙ sym is.tick) in
    let line = row_line old.version old.plan.now row c.bytes.result.now _ tick refl in
    c.meets_behind-met.ensures.ahead _ text (row_begins can.0 c.bytes.result.now _ _ _ line can.1.text can.2)

pub returns-then-met-clause-stands : goal.returns-then-met-clause-stands
returns-then-met-clause-stands g c = λ row records is stands.
    let old = c.args.self.now in
    let text = c.as_bytes.ensures ∙ (c.text_of-line.ensures ∙ (ap (λ (t : TextsModel). text_of_core t c.args.core.0) c.texts.view_is ∙ is.text)) in
    let tick : c.bytes.result.now ≡ decimal row.tick = c.bytes.ensures ∙ ap decimal (c.requires.kept ∙ sym is.tick) in
    let line = row_line old.version old.plan.now row c.bytes.result.now _ tick refl in
    let number : c.in-Some.after ≡ old.number + 1 = search rules in
    let plain = whole_line old.version old.plan.now row _ c.tasks-accepted.ensures.plan is.whole line in
    line_stands records old.number c.in-Some.after _ _ _ (c.meets_behind-met.ensures.taken c.if-met.true _ text plain.0) number stands

pub returns-else-met-clause-stands : goal.returns-else-met-clause-stands
returns-else-met-clause-stands g c = λ row records is stands. c.meets_behind-met.ensures.kept c.if-met.false _ stands

pub returns-else-met-clause-nothing : goal.returns-else-met-clause-nothing
returns-else-met-clause-nothing g c = λ no.
    let old = c.args.self.now in
    let e = c.meets_behind-met.ensures in
    record {
      here = subst (λ r. IsAtTick c.args.tick (record old { records = r })) (sym (e.same no)) c.requires;
      kept = λ told h. keeps_told (told_after old.version old.plan.now old.number) old.state _ _ told c.requires.state (e.kept no) h;
      still = λ records stands. e.kept no _ stands;
      lines = λ bytes read. e.still no bytes _ read;
    }

pub returns-then-met-clause-lines : goal.returns-then-met-clause-lines
returns-then-met-clause-lines g c = λ row bytes is read.
    let old = c.args.self.now in
    let text = c.as_bytes.ensures ∙ (c.text_of-line.ensures ∙ (ap (λ (t : TextsModel). text_of_core t c.args.core.0) c.texts.view_is ∙ is.text)) in
    let tick : c.bytes.result.now ≡ decimal row.tick = c.bytes.ensures ∙ ap decimal (c.requires.kept ∙ sym is.tick) in
    let line = row_line old.version old.plan.now row c.bytes.result.now _ tick refl in
    let number : c.in-Some.after ≡ old.number + 1 = search rules in
    let plain = whole_line old.version old.plan.now row _ c.tasks-accepted.ensures.plan is.whole line in
    record_more _ bytes old.number c.in-Some.after _ number (c.meets_behind-met.ensures.line c.if-met.true _ text plain.0 bytes old.number read)

pub returns-else-met-clause-lines : goal.returns-else-met-clause-lines
returns-else-met-clause-lines g c = λ row bytes is read. c.meets_behind-met.ensures.still c.if-met.false bytes _ read
