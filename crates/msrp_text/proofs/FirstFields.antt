-- The first fields of a text's next record, where no more of it is known.
use Rattle.std.proofs.Common.{◌≡◌, ◌≤◌, ◌==◌, ◌⊎◌, ◌++◌, ◌∷◌, ◌∙◌, if◌then◌else◌}
use Rattle.msrp_plan.proofs.Common.{[], ℕ, List, Bool, Option, Some, None, refl, sym, ap, subst, true, false, length, slice_index, append_assoc, append-nil, inl, inr, option_map, prepend_known, is_ascii_digit, list_any, arith, and_parts, not-true, or_parts, nat_tests, none-some, same_Some}
use Rattle.std.specs.Option.{IfSome}
use Rattle.csv.specs.Machine.{Read, ends_with, fields_after, field_after, in_field, is_end, next_record, step}
use Rattle.csv.specs.Reading.{default_config}
use Rattle.csv.specs.declared.parser.Action.{Action}
use Rattle.csv.specs.declared.parser.Action.TheVariants as act
use Rattle.csv.specs.declared.parser.State.{State}
use Rattle.csv.specs.declared.parser.State.TheVariants as st
use Rattle.msrp_text.specs.Plain.{BeginsWithDigit, is_mark, is_plain_field}
use Rattle.msrp_text.specs.Ahead.{lines_ahead}
use Rattle.msrp_text.specs.Records.{FirstBegins, ahead_at, bytes_ahead, left_at, records_at, records_left, records_of}
use Rattle.msrp_text.specs.declared.records.RecordReader.{RecordReader}
use Rattle.msrp_text.specs.declared.records.Way.{Way}
use Rattle.msrp_text.specs.declared.records.Way.TheVariants as way
use Rattle.msrp_text.proofs.PlainLines.{begins, byte-joins, comma-ends, record-same, start-line}
use Rattle.msrp_text.proofs.Remaining.{records-unfold}

-- ---- a record that has begun
abbrev is_begun : State → Bool
is_begun st.StartRecord = false
is_begun st.AfterCr = false
is_begun st.InComment = false
is_begun _ = true

-- it ends, or goes on
abbrev GoesOn : State × Action → Type 0
GoesOn p = (is_end p.1 ≡ true) ⊎ (is_begun p.0 ≡ true)

goes-if : (b : Bool) (p q : State × Action) → GoesOn p → GoesOn q → GoesOn (if b then p else q)
goes-if true p q h k = h
goes-if false p q h k = k

in-field : (c : ℕ) → GoesOn (in_field default_config c)
in-field c = goes-if (c == 44) _ _ (inr refl) (goes-if (ends_with default_config.terminator c) _ _ (inl refl) (inr refl))

begun-step : (s : State) (c : ℕ) → is_begun s ≡ true → GoesOn (step default_config s c)
begun-step st.StartRecord c h = cc h
begun-step st.AfterCr c h = cc h
begun-step st.InComment c h = cc h
begun-step st.StartField c h = goes-if (c == 34) _ _ (inr refl) (in-field c)
begun-step st.InField c h = in-field c
begun-step st.InQuoted c h = goes-if (c == 34) _ _ (inr refl) (inr refl)
begun-step st.AfterQuote c h = goes-if (c == 34) _ _ (inr refl) (in-field c)
begun-step st.InEscape c h = inr refl

-- its fields only grow
fields-grow : (a : Action) (fields : List (List ℕ)) (field : List ℕ) → (more : List (List ℕ)) × (fields_after a fields field ≡ fields ++ more)
fields-grow act.EndField fields field = (field ∷ [], refl)
fields-grow act.EndRecord fields field = (field ∷ [], refl)
fields-grow act.Skip fields field = ([], sym (append-nil fields))
fields-grow act.Copy fields field = ([], sym (append-nil fields))

-- there is a record of these fields and more
abbrev Grows : List (List ℕ) → Option Read → Type 0
Grows fields o = (q : Read) × (more : List (List ℕ)) × (o ≡ Some q) × (q.0 ≡ fields ++ more)

grows-if : (b : Bool) (fields : List (List ℕ)) (q : Read) (o : Option Read) → (b ≡ true → Grows fields (Some q)) → (b ≡ false → Grows fields o) → Grows fields (if b then Some q else o)
grows-if true fields q o h k = h refl
grows-if false fields q o h k = k refl

grows-past : (fields some : List (List ℕ)) (o : Option Read) → (more : List (List ℕ)) × (some ≡ fields ++ more) → Grows some o → Grows fields o
grows-past fields some o past h = (h.0, past.0 ++ h.1, h.2, h.3 ∙ (ap (λ (f : List (List ℕ)). f ++ h.1) past.1 ∙ append_assoc fields past.0 h.1))

goes-on : (p : State × Action) → GoesOn p → is_end p.1 ≡ false → is_begun p.0 ≡ true
goes-on p (inl e) other = cc
goes-on p (inr h) other = h

record-grows : (s : State) (fields : List (List ℕ)) (field xs : List ℕ) → is_begun s ≡ true → Grows fields (next_record default_config s fields field xs)
unfolding next_record
record-grows st.StartRecord fields field [] h = cc h
record-grows st.AfterCr fields field [] h = cc h
record-grows st.InComment fields field [] h = cc h
record-grows st.StartField fields field [] h = (_, field ∷ [], refl, refl)
record-grows st.InField fields field [] h = (_, field ∷ [], refl, refl)
record-grows st.InQuoted fields field [] h = (_, field ∷ [], refl, refl)
record-grows st.AfterQuote fields field [] h = (_, field ∷ [], refl, refl)
record-grows st.InEscape fields field [] h = (_, field ∷ [], refl, refl)
record-grows s fields field (c ∷ rest) h =
    let p = step default_config s c in
    let grow = fields-grow p.1 fields field in
    grows-if (is_end p.1) fields (fields_after p.1 fields field, p.0, rest) _
    (λ ends. (_, grow.0, refl, grow.1))
    (λ other. grows-past fields (fields_after p.1 fields field) _ grow (record-grows p.0 (fields_after p.1 fields field) (field_after p.1 c field) rest (goes-on p (begun-step s c h) other)))

-- ---- the first fields
-- a field up to its comma
field-run : (fields : List (List ℕ)) (field x tail : List ℕ) → list_any (λ b. b == 44) x ≡ false → list_any is_mark x ≡ false
    → next_record default_config st.InField fields field (x ++ (44 ∷ tail)) ≡ next_record default_config st.StartField (fields ++ ((field ++ x) ∷ [])) [] tail
field-run fields field [] tail comma mark =
    comma-ends fields field tail ∙ ap (λ (f : List ℕ). next_record default_config st.StartField (fields ++ (f ∷ [])) [] tail) (sym (append-nil field))
field-run fields field (b ∷ x) tail comma mark =
    byte-joins fields field b (x ++ (44 ∷ tail)) (or_parts _ _ comma).0 (or_parts _ _ mark).0
    ∙ field-run fields (field ++ (b ∷ [])) x tail (or_parts _ _ comma).1 (or_parts _ _ mark).1
    ∙ ap (λ (f : List ℕ). next_record default_config st.StartField (fields ++ (f ∷ [])) [] tail) (append_assoc field (b ∷ []) x)

-- two fields at the start of a record
two-fields : (x y tail : List ℕ) → is_plain_field x ≡ true → list_any (λ b. b == 44) y ≡ false → list_any is_mark y ≡ false
    → next_record default_config st.StartRecord [] [] (x ++ (44 ∷ (y ++ (44 ∷ tail)))) ≡ next_record default_config st.StartField (x ∷ y ∷ []) [] tail
two-fields [] y tail plain comma mark = cc plain
two-fields (b ∷ x) y tail plain comma mark =
    let parts = and_parts _ _ plain in
    let none = not-true _ (and_parts _ _ parts.0).1 in
    let first = (or_parts _ _ none).0 in
    record-same [] [] b _ (or_parts _ _ (or_parts _ _ first).1).0 (or_parts _ _ (or_parts _ _ first).1).1
    ∙ start-line 44 [] (b ∷ x) (y ++ (44 ∷ tail)) refl none
    ∙ field-run [] [] (b ∷ x) (y ++ (44 ∷ tail)) (not-true _ parts.1) none
    ∙ start-line 44 ((b ∷ x) ∷ []) y tail refl mark
    ∙ field-run ((b ∷ x) ∷ []) [] y tail comma mark

-- the first record of a text that begins with them
grown-first : (o : Option Read) (fields : List (List ℕ)) (s : State) (text : List ℕ) → next_record default_config s [] [] text ≡ o → Grows fields o → FirstBegins fields (records_at s text)
grown-first o fields s text is h = rw (records-unfold s text _ (is ∙ h.2)) (h.1, h.3)

two-first : (begun : Bool) (x y text tail : List ℕ) → text ≡ x ++ (44 ∷ (y ++ (44 ∷ tail))) → is_plain_field x ≡ true → list_any (λ b. b == 44) y ≡ false → list_any is_mark y ≡ false
    → FirstBegins (x ∷ y ∷ []) (records_of begun text)
two-first begun [] y text tail e plain comma mark = cc plain
two-first begun (b ∷ x) y text tail e plain comma mark =
    let all = (b ∷ x) ++ (44 ∷ (y ++ (44 ∷ tail))) in
    let here : records_of begun text ≡ records_at st.StartRecord all = ap (records_of begun) e ∙ begins begun (x ++ (44 ∷ (y ++ (44 ∷ tail)))) b (and_parts _ _ (and_parts _ _ plain).0).0 in
    rw here (grown-first _ ((b ∷ x) ∷ y ∷ []) st.StartRecord all (two-fields (b ∷ x) y tail plain comma mark) (record-grows st.StartField ((b ∷ x) ∷ y ∷ []) [] tail refl))

-- a digit is no mark and no comma
digit-alone : (d : ℕ) → is_ascii_digit d ≡ true → (list_any (λ b. b == 44) (d ∷ []) ≡ false) × (list_any is_mark (d ∷ []) ≡ false)
digit-alone d h = (grind (arith, nat_tests, h), grind (arith, nat_tests, h))

-- ---- what a reader has left
known-first : (begun : Bool) (ahead first : List ℕ) (digit : ℕ) (after : List ℕ) (known : Option (List ℕ)) (left : List (List (List ℕ)))
    → ahead ≡ first ++ (44 ∷ digit ∷ 44 ∷ after) → is_ascii_digit digit ≡ true → is_plain_field first ≡ true → option_map (records_of begun) (prepend_known ahead known) ≡ Some left → FirstBegins (first ∷ (digit ∷ []) ∷ []) left
known-first begun ahead first digit after None left e h plain is = absurd (none-some left is)
known-first begun ahead first digit after (Some bytes) left e h plain is =
    let alone = digit-alone digit h in
    let all : ahead ++ bytes ≡ first ++ (44 ∷ ((digit ∷ []) ++ (44 ∷ (after ++ bytes)))) = ap (λ (t : List ℕ). t ++ bytes) e ∙ append_assoc first (44 ∷ digit ∷ 44 ∷ after) bytes in
    subst (FirstBegins (first ∷ (digit ∷ []) ∷ [])) (same_Some (records_of begun (ahead ++ bytes)) left is) (two-first begun first (digit ∷ []) (ahead ++ bytes) (after ++ bytes) all plain alone.0 alone.1)

no-bytes-ahead : (first rest : List ℕ) (b : ℕ) → [] ≡ first ++ (b ∷ rest) → ⊥
no-bytes-ahead [] rest b e = cc
no-bytes-ahead (c ∷ first) rest b e = cc

way-first : {R : Type 0} (remaining : R → Option (List ℕ)) (w : Way R) (first : List ℕ) (digit : ℕ) (after : List ℕ) (left : List (List (List ℕ)))
    → ahead_at w ≡ first ++ (44 ∷ digit ∷ 44 ∷ after) → is_ascii_digit digit ≡ true → is_plain_field first ≡ true → left_at remaining w ≡ Some left → FirstBegins (first ∷ (digit ∷ []) ∷ []) left
way-first remaining (way.Lines lines) first digit after left e h plain is = known-first lines.begun (lines_ahead lines) first digit after (remaining lines.source) left e h plain is
way-first remaining (way.Csv records) first digit after left e h plain is = absurd (no-bytes-ahead first (digit ∷ 44 ∷ after) 44 e)

reader-first : {R : Type 0} (remaining : R → Option (List ℕ)) (r : RecordReader R) (first : List ℕ) (digit : ℕ) (after : List ℕ) (left : List (List (List ℕ)))
    → bytes_ahead r ≡ first ++ (44 ∷ digit ∷ 44 ∷ after) → is_ascii_digit digit ≡ true → is_plain_field first ≡ true → records_left remaining r ≡ Some left → FirstBegins (first ∷ (digit ∷ []) ∷ []) left
reader-first remaining r first digit after left e h plain is = way-first remaining r.way first digit after left e h plain is

pub digit-next : {R : Type 0} (remaining : R → Option (List ℕ)) (r : RecordReader R) (first text : List ℕ) (found : Option ℕ) → text ≡ bytes_ahead r → IfSome found (λ digit. BeginsWithDigit first digit text)
    → IfSome found (λ digit. is_plain_field first ≡ true → (left : List (List (List ℕ))) → records_left remaining r ≡ Some left → FirstBegins (first ∷ (digit ∷ []) ∷ []) left)
digit-next remaining r first text None e h = tt
digit-next remaining r first text (Some digit) e h = λ plain left is. reader-first remaining r first digit h.1.0 left (sym e ∙ h.1.1) h.0 plain is

-- a digit between commas, behind the first field
pub digit-begins : (text first rest : List ℕ) → text ≡ first ++ rest → 3 ≤ length rest → slice_index rest 0 ≡ 44 → is_ascii_digit (slice_index rest 1) ≡ true → slice_index rest 2 ≡ 44 → BeginsWithDigit first (slice_index rest 1) text
digit-begins text first [] e size comma digit next = absurd (omega (arith, size))
digit-begins text first (a ∷ []) e size comma digit next = absurd (omega (arith, size))
digit-begins text first (a ∷ b ∷ []) e size comma digit next = absurd (omega (arith, size))
digit-begins text first (a ∷ b ∷ c ∷ after) e size comma digit next =
    let one : a ≡ 44 = comma in
    let two : c ≡ 44 = next in
    (digit, (after, e ∙ ap (λ n. first ++ (n ∷ b ∷ c ∷ after)) one ∙ ap (λ n. first ++ (44 ∷ b ∷ n ∷ after)) two))
