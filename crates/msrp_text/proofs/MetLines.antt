-- The line of a record of a number and plain fields, as it stands in a text.
use Rattle.std.proofs.Common.{◌==◌, ◌^◌, ◌≡◌, ◌≤◌, ◌<◌, ◌++◌, ◌∷◌, ◌∙◌}
use Rattle.msrp_plan.proofs.Common.{decimal, [], ℕ, Bool, List, true, false, not, length, refl, sym, ap, append_assoc, append-nil, arith, is_ascii_digit, AllByRecursion, list_all, list_any, and_from, and_parts, or_from, or_parts, nat_tests, decimal_nonempty, list_any-append}
use Rattle.std.proofs.lemmas.List.{append_cancel_right}
use Rattle.csv.specs.Writing.{default_writer, needs_byte}
use Rattle.csv.specs.declared.parser.State.TheVariants as st
use Rattle.msrp_text.specs.Plain.{is_mark, is_plain, is_plain_field, split_commas}
use Rattle.msrp_text.specs.PlanText.{next_fields, record_text}
use Rattle.msrp_text.specs.Records.{records_at}
use Rattle.msrp_text.proofs.Numerals.{all_digits, plain_decimal}
use Rattle.msrp_text.proofs.Plain.{IsPlain, IsPlainRecord, plain_back}
use Rattle.msrp_text.proofs.PlainLines.{records-line}

no-mark : (b : ℕ) → needs_byte default_writer b ≡ false → is_mark b ≡ false
no-mark b h = grind (arith, nat_tests, h)

unmarked : (field : List ℕ) → IsPlain field → list_any is_mark field ≡ false
unmarked [] h = refl
unmarked (b ∷ rest) h = rw (no-mark b (or_parts _ _ h).0) (unmarked rest (or_parts _ _ h).1)

-- the fields after the first, each after a comma
commas : List (List ℕ) → List ℕ
commas [] = []
commas (field ∷ fields) = 44 ∷ (field ++ commas fields)

commas-fed : (fields : List (List ℕ)) → next_fields fields ≡ commas fields ++ (10 ∷ [])
unfolding commas
commas-fed [] = refl
commas-fed (field ∷ fields) = ap (λ (t : List ℕ). 44 ∷ t) (ap (λ (t : List ℕ). field ++ t) (commas-fed fields) ∙ sym (append_assoc field (commas fields) (10 ∷ [])))

commas-unmarked : (fields : List (List ℕ)) → AllByRecursion IsPlain fields → list_any is_mark (commas fields) ≡ false
unfolding commas
commas-unmarked [] all = refl
commas-unmarked (field ∷ fields) all = list_any-append is_mark field (commas fields) ∙ rw (unmarked field all.0) (commas-unmarked fields all.1)

-- a line that begins with a digit isn't empty, and begins as no byte order mark does
digit-plain : (b : ℕ) → is_ascii_digit b ≡ true → (b == 239) ≡ false
digit-plain b h = grind (arith, nat_tests, h)

begun-plain : (first rest : List ℕ) → 0 < length first → list_all is_ascii_digit first ≡ true → list_any is_mark (first ++ rest) ≡ false → is_plain (first ++ rest) ≡ true
begun-plain [] rest some digits none = absurd (omega (arith, some))
begun-plain (b ∷ bs) rest some digits none = and_from _ _ (ap not (digit-plain b (and_parts (is_ascii_digit b) (list_all is_ascii_digit bs) digits).0)) (ap not none)

-- the line of a record of plain fields, a number first
line-is : (n : ℕ) (fields : List (List ℕ)) (line : List ℕ) → line ++ (10 ∷ []) ≡ record_text (decimal n ∷ fields) → line ≡ decimal n ++ commas fields
line-is n fields line e = append_cancel_right line (decimal n ++ commas fields) (10 ∷ []) (e ∙ ap (λ (t : List ℕ). decimal n ++ t) (commas-fed fields) ∙ sym (append_assoc (decimal n) (commas fields) (10 ∷ [])))

-- no digit is such a byte
digits-none : (p : ℕ → Bool) → ((b : ℕ) → is_ascii_digit b ≡ true → p b ≡ false) → (digits : List ℕ) → list_all is_ascii_digit digits ≡ true → list_any p digits ≡ false
digits-none p h [] all = refl
digits-none p h (b ∷ rest) all = or_from _ _ (h b (and_parts _ _ all).0) (digits-none p h rest (and_parts _ _ all).1)

digit-mark : (b : ℕ) → is_ascii_digit b ≡ true → is_mark b ≡ false
digit-mark b h = grind (arith, nat_tests, h)

digit-comma : (b : ℕ) → is_ascii_digit b ≡ true → (b == 44) ≡ false
digit-comma b h = grind (arith, nat_tests, h)

digits-field : (digits : List ℕ) → 0 < length digits → list_all is_ascii_digit digits ≡ true → is_plain_field digits ≡ true
digits-field [] some all = absurd (omega (arith, some))
digits-field (b ∷ rest) some all =
    let first = digit-plain b (and_parts _ _ all).0 in
    let mark = digits-none is_mark digit-mark (b ∷ rest) all in
    let comma = digits-none (λ n. n == 44) digit-comma (b ∷ rest) all in
    and_from _ _ (and_from _ _ (ap not first) (ap not mark)) (ap not comma)

-- a number is a plain field
pub decimal-field : (n : ℕ) → n < 2 ^ 64 → is_plain_field (decimal n) ≡ true
decimal-field n fits = digits-field (decimal n) (decimal_nonempty n fits) (all_digits n fits)

-- it is plain
line-plain : (n : ℕ) (fields : List (List ℕ)) (line : List ℕ) → n < 2 ^ 64 → AllByRecursion IsPlain fields → line ≡ decimal n ++ commas fields → is_plain line ≡ true
line-plain n fields line fits all same =
    let none : list_any is_mark (decimal n ++ commas fields) ≡ false = list_any-append is_mark (decimal n) (commas fields) ∙ rw (unmarked (decimal n) (plain_decimal n fits)) (commas-unmarked fields all) in
    ap is_plain same ∙ begun-plain (decimal n) (commas fields) (decimal_nonempty n fits) (all_digits n fits) none

-- and has these fields
pub met-line : (n : ℕ) (fields : List (List ℕ)) (line : List ℕ) → n < 2 ^ 64 → 1 ≤ length fields → AllByRecursion IsPlain fields → line ++ (10 ∷ []) ≡ record_text (decimal n ∷ fields)
    → (is_plain line ≡ true) × (split_commas line ≡ decimal n ∷ fields)
met-line n fields line fits some all e =
    let record_plain : IsPlainRecord (decimal n ∷ fields) = (omega (arith, some), (plain_decimal n fits, all)) in
    let plain = line-plain n fields line fits all (line-is n fields line e) in
    let one : records_at st.StartRecord (line ++ (10 ∷ [])) ≡ split_commas line ∷ records_at st.StartRecord [] = records-line line [] plain in
    let other : records_at st.StartRecord (record_text (decimal n ∷ fields) ++ []) ≡ (decimal n ∷ fields) ∷ [] = plain_back ((decimal n ∷ fields) ∷ []) (record_plain, tt) in
    let both : split_commas line ∷ records_at st.StartRecord [] ≡ (decimal n ∷ fields) ∷ [] = sym one ∙ ap (records_at st.StartRecord) (e ∙ sym (append-nil (record_text (decimal n ∷ fields)))) ∙ other in
    (plain, (let same : split_commas line ≡ decimal n ∷ fields = cc in same))
