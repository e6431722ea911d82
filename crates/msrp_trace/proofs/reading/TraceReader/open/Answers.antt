use Rattle.std.proofs.Common.{◌≡◌, ◌∙◌}
use Rattle.msrp_plan.proofs.Common.{ℕ, refl, sym, ap, subst, List, Some, None, Err, drop, Ok}
use Rattle.csv.specs.Records.{fields_of}
use Rattle.msrp_text.proofs.Remaining.{gave-none, gave-one}
use Rattle.msrp_text.specs.Reading.{record_at}
use Rattle.msrp_text.specs.Records.{csv_records}
use Rattle.msrp_trace.specs.Reading.{told_after, version_of}
use Rattle.msrp_trace.specs.Readers.{Opens}
use Rattle.msrp_trace.specs.Rows.{version_told}
use Rattle.msrp_trace.specs.declared.reading.ReaderState.TheVariants.{Rows}
use Rattle.msrp_trace.proofs.Standing.{head_refused, stopped_stands}
use Rattle.msrp_trace.proofs.Telling.{opens_none, opens_some, rows_left, version_first, version_none}
use Rattle.std.specs.Option.{IfSome}
use Rattle.msrp_text.specs.Lines.{BeginsIn}
use Rattle.msrp_trace.proofs.reading.TraceReader.open.Goals as goal

pub returns-in-Ok-false-clause-opens : goal.returns-in-Ok-false-clause-opens
returns-in-Ok-false-clause-opens g c = λ bytes known.
    let none = gave-none _ _ _ _ (c.in-Ok-false.ensures.next (csv_records bytes) (rw known at c.new-records.ensures.left)) c.in-Ok-false.field-0-test in
    subst (λ e. Opens g.R.Read.remaining c.args.plan.now (csv_records bytes) (Err e)) (sym c.no_head.ensures.error) (opens_none _ _ _ (ap (version_of c.args.plan.now) none ∙ version_none c.args.plan.now))

pub returns-in-Ok-false-clause-refused : goal.returns-in-Ok-false-clause-refused
returns-in-Ok-false-clause-refused g c = λ bytes known.
    let none = gave-none _ _ _ _ (c.in-Ok-false.ensures.next (csv_records bytes) (rw known at c.new-records.ensures.left)) c.in-Ok-false.field-0-test in
    head_refused (csv_records bytes) _ _ c.no_head.ensures.error (ap fields_of c.no_head.ensures.first ∙ (c.new.ensures.fields ∙ ap (λ records. record_at records 0) (sym none)))

pub returns-in-Err-clause-refused : goal.returns-in-Err-clause-refused
returns-in-Err-clause-refused g c = λ bytes known. stopped_stands (csv_records bytes) _ _ c.stopped.ensures.stopped

pub returns-in-Some-clause-opens : goal.returns-in-Some-clause-opens
returns-in-Some-clause-opens g c = λ bytes known.
    let next = gave-one _ _ _ _ (c.in-Ok-true.ensures.next (csv_records bytes) (rw known at c.new-records.ensures.left)) c.in-Ok-true.field-0-test in
    let told : version_told c.args.plan.now (fields_of c.read.new.row) ≡ Some c.in-Some.version = sym c.version_told.ensures ∙ c.in-Some.is in
    opens_some _ _ _ _ _ c.in-Some.version _ next.1 told (rows_left (told_after c.in-Some.version c.args.plan.now 1) Rows _ next.0 refl next.2)

pub returns-in-Some-clause-stands : goal.returns-in-Some-clause-stands
returns-in-Some-clause-stands g c = λ bytes known.
    let next = gave-one _ _ _ _ (c.in-Ok-true.ensures.next (csv_records bytes) (rw known at c.new-records.ensures.left)) c.in-Ok-true.field-0-test in
    next.2 ∙ ap (λ (records : List (List (List ℕ))). Some (drop 1 records)) (sym next.1)

pub returns-clause-opens : goal.returns-clause-opens
returns-clause-opens g c = λ bytes known.
    let next = gave-one _ _ _ _ (c.in-Ok-true.ensures.next (csv_records bytes) (rw known at c.new-records.ensures.left)) c.in-Ok-true.field-0-test in
    let told : version_told c.args.plan.now (fields_of c.read.new.row) ≡ None = sym c.version_told.ensures ∙ c.in-None.is in
    subst (λ e. Opens g.R.Read.remaining c.args.plan.now (csv_records bytes) (Err e)) (sym c.no_head-in-None.ensures.error) (opens_none _ _ _ (ap (version_of c.args.plan.now) next.1 ∙ (version_first c.args.plan.now _ next.0 ∙ told)))

pub returns-clause-refused : goal.returns-clause-refused
returns-clause-refused g c = λ bytes known.
    let next = gave-one _ _ _ _ (c.in-Ok-true.ensures.next (csv_records bytes) (rw known at c.new-records.ensures.left)) c.in-Ok-true.field-0-test in
    head_refused (csv_records bytes) _ _ c.no_head-in-None.ensures.error (ap fields_of c.no_head-in-None.ensures.first ∙ ap (λ records. record_at records 0) (sym next.1))

pub returns-in-Some-clause-lines : goal.returns-in-Some-clause-lines
returns-in-Some-clause-lines g c = λ bytes known. c.in-Ok-true.ensures.line (ap (λ b. Ok b) c.in-Ok-true.field-0-test) bytes 0 (c.new-records.ensures.start bytes known)

pub returns-clause-refused_line : goal.returns-clause-refused_line
returns-clause-refused_line g c = λ bytes known.
    let read = c.in-Ok-true.ensures.line (ap (λ b. Ok b) c.in-Ok-true.field-0-test) bytes 0 (c.new-records.ensures.start bytes known) in
    subst (λ o. IfSome o (BeginsIn bytes 1)) (sym c.no_head-in-None.ensures.line) (c.line_in.ensures.line bytes read)
