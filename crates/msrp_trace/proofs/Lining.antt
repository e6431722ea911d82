-- The text that a reader reads, one record more.
use Rattle.std.proofs.Common.{◌≡◌, ◌+◌}
use Rattle.msrp_plan.proofs.Common.{ℕ, List, Option, Result, Err, sym, subst}
use Rattle.msrp_plan.specs.declared.rows.Row.{Row}
use Rattle.msrp_text.specs.Lines.{HasRead}
use Rattle.msrp_text.specs.declared.records.RecordReader.{RecordReader}
use Rattle.msrp_trace.specs.Readers.{HasReadBehind, HasReadTo}
use Rattle.msrp_trace.specs.RowParts.{ReadsAt}
use Rattle.msrp_trace.specs.declared.faults.TraceError.{TraceError}
use Rattle.msrp_trace.specs.declared.faults.TraceFault.{TraceFault}
use Rattle.msrp_trace.specs.declared.reading.TraceReader.{TraceReader}
use Rattle.msrp_trace.proofs.Telling.{read_refuses}

-- a record more, by its number
pub record_more : {R : Type 0} (remaining : R → Option (List ℕ)) (text : List ℕ) (before number : ℕ) (r : RecordReader R) → number ≡ before + 1 → HasRead remaining text (before + 1) r → HasRead remaining text number r
record_more remaining text before number r count h = subst (λ n. HasRead remaining text n r) (sym count) h

-- one was refused
pub refused_lines : {R : Type 0} (remaining : R → Option (List ℕ)) (text : List ℕ) (number : ℕ) (o : Option TraceFault) (told : Option Row) (read : Result Row TraceError) (error : TraceError) (answer : Result (Option Row) TraceError) (t : TraceReader R)
    → ReadsAt number o told read → read ≡ Err error → answer ≡ Err error → HasReadTo remaining text number t → HasReadBehind remaining text answer t
refused_lines remaining text number o told read error answer t reads is answers h =
    let refused = read_refuses number o told error (subst (ReadsAt number o told) is reads) in
    subst (λ a. HasReadBehind remaining text a t) (sym answers) (subst (λ e. HasReadBehind remaining text (Err e) t) (sym refused.2) h)
