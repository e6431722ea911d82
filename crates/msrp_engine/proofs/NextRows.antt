-- The next row of a text, where it is known of which tick and core that is.
use Rattle.std.proofs.Common.{◌≡◌, ◌∙◌}
use Rattle.msrp_plan.proofs.Common.{[], Option, Some, None, Result, Ok, true, false, ap, sym, subst, IsSome, ℕ}
use Rattle.msrp_plan.specs.declared.ids.CoreId.{CoreId}
use Rattle.msrp_plan.specs.declared.rows.Row.{Row}
use Rattle.std.specs.Option.{is_some}
use Rattle.msrp_trace.specs.Reading.{Told}
use Rattle.msrp_trace.specs.Readers.{BeginsAt, RowsBeginAt}
use Rattle.msrp_trace.specs.declared.faults.TraceError.{TraceError}
use Rattle.msrp_trace.proofs.ReadThrough.{Answers, none-read, read-row, read-whole}

-- a row that is given is of that tick and core
pub given-at : (told : Told) (left after : Option Told) (result : Result (Option Row) TraceError) (r : Row) (tick : ℕ) (core : CoreId) → left ≡ Some told → Answers left result after → result ≡ Ok (Some r) → BeginsAt tick core told → (r.tick ≡ tick) × (r.core ≡ core)
given-at told left after result r tick core known next e begins =
    let more = read-row told [] left after result r (none-read told left known) next e in
    subst (λ rows. RowsBeginAt tick core rows told.refusal) more.whole begins

nothing : (o : Option TraceError) → o ≡ None → IsSome o → ⊥
nothing o e some = let no : false ≡ true = ap is_some (sym e) ∙ some in absurd (cc)

-- and one is given, or refused
pub given-some : (told : Told) (left after : Option Told) (result : Result (Option Row) TraceError) (tick : ℕ) (core : CoreId) → left ≡ Some told → Answers left result after → result ≡ Ok None → BeginsAt tick core told → ⊥
given-some told left after result tick core known next e begins =
    let whole = read-whole told [] left after result (none-read told left known) next e in
    nothing told.refusal whole.1 (subst (λ rows. RowsBeginAt tick core rows told.refusal) whole.0 begins)
