-- Records of plain fields as text, and read again.
use Rattle.std.proofs.Common.{◌≡◌, ◌≤◌, ◌||◌, ◌∷◌, ◌++◌, ◌∙◌}
use Rattle.msrp_plan.proofs.Common.{ℕ, true, false, List, [], length, Some, refl, ap, sym, arith, append_assoc, AllByRecursion, list_any, list_all, is_ascii_lowercase, and_parts, nat_tests, is_name, is_name_byte}
use Rattle.csv.specs.Machine.{next_record}
use Rattle.csv.specs.Reading.{records_from}
use Rattle.csv.specs.Writing.{default_writer, fields_text, is_blank, needs_byte, read_back, row_text}
use Rattle.csv.specs.declared.parser.State.TheVariants as st
use Rattle.csv.proofs.RoundTrip.{read-write}
use Rattle.msrp_text.specs.PlanText.{next_fields, record_text, records_text}
use Rattle.msrp_text.specs.Records.{records_at}
use Rattle.msrp_text.proofs.Remaining.{records-unfold}

-- a field without a mark of the format
abbrev pub IsPlain : List ℕ → Type 0
IsPlain field = list_any (needs_byte default_writer) field ≡ false

-- a record of two plain fields or more
abbrev pub IsPlainRecord : List (List ℕ) → Type 0
IsPlainRecord fields = (2 ≤ length fields) × AllByRecursion IsPlain fields

-- the fields after the first
plain_fields : (fields : List (List ℕ)) → AllByRecursion IsPlain fields → next_fields fields ≡ fields_text default_writer fields ++ 10 ∷ []
unfolding fields_text
plain_fields [] all = refl
plain_fields (field ∷ fields) all =
    rw all.0 (ap (λ text. 44 ∷ (field ++ text)) (plain_fields fields all.1) ∙ ap (λ text. 44 ∷ text) (sym (append_assoc field (fields_text default_writer fields) (10 ∷ []))))

-- is written as `csv` writes it
plain_row : (fields : List (List ℕ)) → IsPlainRecord fields → record_text fields ≡ row_text default_writer fields
unfolding is_blank
plain_row [] h = absurd (omega (arith, h.0))
plain_row (field ∷ []) h = absurd (omega (arith, h.0))
plain_row (field ∷ next ∷ fields) h =
    rw h.1.0 (ap (λ text. field ++ text) (plain_fields (next ∷ fields) h.1.1) ∙ sym (append_assoc field (fields_text default_writer (next ∷ fields)) (10 ∷ [])))

-- and is read as it was
same_back : (fields : List (List ℕ)) → 2 ≤ length fields → read_back fields ≡ fields
same_back [] h = absurd (omega (arith, h))
same_back (field ∷ fields) h = refl

pub plain_back : (records : List (List (List ℕ))) → AllByRecursion IsPlainRecord records → records_at st.StartRecord (records_text records) ≡ records
unfolding records_at records_from next_record
plain_back [] all = refl
plain_back (fields ∷ records) all =
    let text : record_text fields ++ records_text records ≡ row_text default_writer fields ++ records_text records = ap (λ t. t ++ records_text records) (plain_row fields all.0) in
    let next = read-write fields (records_text records) in
    ap (records_at st.StartRecord) text
    ∙ (records-unfold st.StartRecord (row_text default_writer fields ++ records_text records) (Some (read_back fields, st.StartRecord, records_text records)) next
    ∙ (ap (λ r. r ∷ records_at st.StartRecord (records_text records)) (same_back fields all.0.0) ∙ ap (λ rs. fields ∷ rs) (plain_back records all.1)))

-- ---- names are plain
plain_byte : (b : ℕ) → is_name_byte b ≡ true → needs_byte default_writer b ≡ false
plain_byte b h = grind (arith, nat_tests, h)

plain_bytes : (bs : List ℕ) → list_all is_name_byte bs ≡ true → IsPlain bs
plain_bytes [] h = refl
plain_bytes (b ∷ bs) h =
    let both = and_parts (is_name_byte b) (list_all is_name_byte bs) h in
    ap (λ c. c || list_any (needs_byte default_writer) bs) (plain_byte b both.0) ∙ plain_bytes bs both.1

plain_letter : (b : ℕ) → is_ascii_lowercase b ≡ true → needs_byte default_writer b ≡ false
plain_letter b h = grind (arith, nat_tests, h)

pub plain_name : (name : List ℕ) → is_name name ≡ true → IsPlain name
plain_name [] h = refl
plain_name (b ∷ bs) h =
    let first = and_parts (is_ascii_lowercase b) _ h in
    let rest = and_parts _ (list_all is_name_byte bs) first.1 in
    ap (λ c. c || list_any (needs_byte default_writer) bs) (plain_letter b first.0) ∙ plain_bytes bs rest.1
