use Rattle.std.proofs.Common.{◌≡◌, ◌+◌}
use Rattle.msrp_plan.proofs.Common.{rules, Err, Ok, ap, refl}
use Rattle.msrp_text.proofs.Remaining.{gave-none, gave-one}
use Rattle.msrp_trace.specs.Reading.{told_after}
use Rattle.msrp_trace.proofs.Telling.{answers_end, answers_refusal, answers_row, left_rows, rows_left}
use Rattle.msrp_trace.proofs.Standing.{error_behind, next_stands, refused_stands}
use Rattle.msrp_trace.proofs.Lining.{record_more, refused_lines}
use Rattle.msrp_trace.proofs.reading.TraceReader.read_next.Goals as goal

pub returns-in-Ok-false-clause-next : goal.returns-in-Ok-false-clause-next
returns-in-Ok-false-clause-next g c = λ told h.
    let old = c.args.self.now in
    let left = left_rows (told_after old.version old.plan.now old.number) old.state _ told c.requires h in
    let none = gave-none _ _ _ _ (c.in-Ok-false.ensures.next left.0 left.1) c.in-Ok-false.field-0-test in
    answers_end old.version old.plan.now old.number left.0 told _ left.2 none

pub returns-in_err-row-clause-next : goal.returns-in_err-row-clause-next
returns-in_err-row-clause-next g c = λ told h.
    let old = c.args.self.now in
    let left = left_rows (told_after old.version old.plan.now old.number) old.state _ told c.requires h in
    let next = gave-one _ _ _ _ (c.in-Ok-true.ensures.next left.0 left.1) c.in-Ok-true.field-0-test in
    let number : c.in-Some.number ≡ old.number + 1 = search rules in
    let e : c.from_residual.result ≡ Err c.in_err-row.field-0.0 = search rules in
    answers_refusal old.version old.plan.now old.number c.in-Some.number left.0 next.0 _ told c.numbered_row.result c.in_err-row.field-0.0 _ _ left.2 next.1 c.numbered_row.ensures c.in_err-row.was number e

pub returns-clause-next : goal.returns-clause-next
returns-clause-next g c = λ told h.
    let old = c.args.self.now in
    let left = left_rows (told_after old.version old.plan.now old.number) old.state _ told c.requires h in
    let next = gave-one _ _ _ _ (c.in-Ok-true.ensures.next left.0 left.1) c.in-Ok-true.field-0-test in
    let number : c.in-Some.number ≡ old.number + 1 = search rules in
    let after = rows_left (told_after old.version old.plan.now c.in-Some.number) old.state _ next.0 c.requires next.2 in
    answers_row old.version old.plan.now old.number c.in-Some.number left.0 next.0 _ told c.numbered_row.result c.in_ok-row.row _ left.2 next.1 c.numbered_row.ensures c.in_ok-row.was number after

pub returns-in_err-row-clause-stands : goal.returns-in_err-row-clause-stands
returns-in_err-row-clause-stands g c = λ records stands.
    let old = c.args.self.now in
    let number : c.in-Some.number ≡ old.number + 1 = search rules in
    let next = next_stands records old.number c.in-Some.number c.in-Ok-true.field-0 _ _ (c.in-Ok-true.ensures.next _ stands) c.in-Ok-true.field-0-test number in
    let e : c.from_residual.result ≡ Err c.in_err-row.field-0.0 = search rules in
    let refused = refused_stands records c.in-Some.number _ _ c.numbered_row.result c.in_err-row.field-0.0 _ c.numbered_row.ensures c.in_err-row.was next.1 in
    error_behind _ records _ c.in_err-row.field-0.0 _ e refused

pub returns-clause-stands : goal.returns-clause-stands
returns-clause-stands g c = λ records stands.
    let old = c.args.self.now in
    let number : c.in-Some.number ≡ old.number + 1 = search rules in
    (next_stands records old.number c.in-Some.number c.in-Ok-true.field-0 _ _ (c.in-Ok-true.ensures.next _ stands) c.in-Ok-true.field-0-test number).0

pub returns-in_err-row-clause-lines : goal.returns-in_err-row-clause-lines
returns-in_err-row-clause-lines g c = λ bytes read.
    let old = c.args.self.now in
    let number : c.in-Some.number ≡ old.number + 1 = search rules in
    let e : c.from_residual.result ≡ Err c.in_err-row.field-0.0 = search rules in
    let next = record_more _ bytes old.number c.in-Some.number _ number (c.in-Ok-true.ensures.line (ap (λ b. Ok b) c.in-Ok-true.field-0-test) bytes old.number read) in
    refused_lines g.R.Read.remaining bytes c.in-Some.number _ _ c.numbered_row.result c.in_err-row.field-0.0 _ _ c.numbered_row.ensures c.in_err-row.was e (next, refl)

pub returns-clause-lines : goal.returns-clause-lines
returns-clause-lines g c = λ bytes read.
    let old = c.args.self.now in
    let number : c.in-Some.number ≡ old.number + 1 = search rules in
    record_more _ bytes old.number c.in-Some.number _ number (c.in-Ok-true.ensures.line (ap (λ b. Ok b) c.in-Ok-true.field-0-test) bytes old.number read)
