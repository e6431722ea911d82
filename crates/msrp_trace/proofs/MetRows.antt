-- A row whose text comes next.
use Rattle.std.proofs.Common.{◌≡◌, ◌+◌, ◌∷◌, ◌++◌, ◌∙◌}
use Rattle.msrp_plan.proofs.Common.{ℕ, true, List, [], codes, decimal, Option, Some, Ok, option_map, refl, sym, ap, subst, append_assoc, PlanModel, IsPlan}
use Rattle.msrp_plan.specs.declared.rows.Row.{Row}
use Rattle.msrp_plan.specs.declared.rows.TextVersion.{TextVersion}
use Rattle.std.proofs.lemmas.List.{append_cancel_right}
use Rattle.msrp_text.specs.Plain.{BeginsWith, is_plain, split_commas}
use Rattle.msrp_text.specs.Records.{GivesLine}
use Rattle.msrp_text.proofs.Remaining.{gave-one}
use Rattle.msrp_trace.specs.Gathering.{after_tick}
use Rattle.msrp_trace.specs.Laws.{is_told_whole}
use Rattle.msrp_trace.specs.Reading.{Told, told_after}
use Rattle.msrp_trace.specs.Readers.{GivesNext, left_at}
use Rattle.msrp_trace.specs.RowParts.{ReadsAt}
use Rattle.msrp_trace.specs.Rows.{row_fault, row_told}
use Rattle.msrp_trace.specs.TraceText.{row_fields, row_text}
use Rattle.msrp_trace.specs.declared.reading.ReaderState.{ReaderState}
use Rattle.msrp_trace.specs.declared.reading.ReaderState.TheVariants.{Rows}
use Rattle.msrp_trace.proofs.ReadBack.{whole_line, whole_read}
use Rattle.msrp_trace.proofs.Records.{row-is}
use Rattle.msrp_trace.proofs.Telling.{answers_row, gives_next, left_rows, rows_left}

-- the text of a row in two parts
pub row_line : (version : TextVersion) (plan : PlanModel) (r : Row) (tick rest : List ℕ) → tick ≡ decimal r.tick → after_tick version plan r ≡ rest ++ codes "\n" → (tick ++ rest) ++ (10 ∷ []) ≡ row_text version plan r
row_line version plan r tick rest e h =
    append_assoc tick rest (10 ∷ []) ∙ (ap (λ (t : List ℕ). t ++ (rest ++ (10 ∷ []))) e ∙ (ap (λ (t : List ℕ). decimal r.tick ++ t) (sym h) ∙ row-is version plan r))

reads_whole : (number : ℕ) (version : TextVersion) (plan : PlanModel) (r : Row) → IsPlan plan → is_told_whole version plan r ≡ true → ReadsAt number (row_fault version plan (row_fields version plan r)) (row_told version plan (row_fields version plan r)) (Ok r)
reads_whole number version plan r ok whole = let read = whole_read version plan r ok whole in rw (read.0) read.1

-- where it was taken as a line, its row was the next one
pub met_row : (version : TextVersion) (plan : PlanModel) (n number : ℕ) (r : Row) (line : List ℕ) (old new : Option (List (List (List ℕ)))) (state : ReaderState) (told : Told)
    → IsPlan plan → is_told_whole version plan r ≡ true → line ++ (10 ∷ []) ≡ row_text version plan r → (is_plain line ≡ true → GivesLine old (split_commas line) new) → number ≡ n + 1 → state ≡ Rows
    → left_at state (option_map (told_after version plan n) old) ≡ Some told → GivesNext told (Ok (Some r)) (left_at state (option_map (told_after version plan number) new))
met_row version plan n number r line old new state told ok whole text gives count s h =
    let plain = whole_line version plan r line ok whole text in
    let left = left_rows (told_after version plan n) state old told s h in
    let next = gave-one left.0 true (split_commas line) new (gives plain.0 left.0 left.1) refl in
    let first : left.0 ≡ row_fields version plan r ∷ next.0 = next.1 ∙ ap (λ (fields : List (List ℕ)). fields ∷ next.0) plain.1 in
    let after = rows_left (told_after version plan number) state new next.0 s next.2 in
    let due = answers_row version plan n number left.0 next.0 (row_fields version plan r) told (Ok r) r _ left.2 first (reads_whole number version plan r ok whole) refl count after in
    let given = gives_next told (Ok (Some r)) state (option_map (told_after version plan number) new) s due in
    rw s given

-- its text in two parts is the line that comes next
pub row_begins : (line tick rest text all : List ℕ) → (tick ++ rest) ++ (10 ∷ []) ≡ text → line ++ codes "\n" ≡ text → BeginsWith line all → BeginsWith (tick ++ rest) all
row_begins line tick rest text all e h begins = subst (λ (l : List ℕ). BeginsWith l all) (append_cancel_right line (tick ++ rest) (10 ∷ []) (h ∙ sym e)) begins
