-- Plain lines and the rules of comma-separated fields.
use Rattle.std.proofs.Common.{◌<◌, ◌≡◌, ◌==◌, ◌++◌, ◌∷◌, ◌∙◌}
use Rattle.msrp_plan.proofs.Common.{subst, length, slice_index, arith, [], ℕ, List, Bool, Option, Some, None, refl, sym, ap, true, false, not, append_assoc, append-nil, inl, inr, option_map, Consumes, Keeps, prepend_known, list_any, and_from, and_parts, cases_Bool, not-true, or_parts, list_any-append, list_any_at}
use Rattle.std.specs.Io.KnownBytes.{IsAtEnd}
use Rattle.std.proofs.lemmas.Bool.{eqb-true}
use Rattle.csv.specs.Machine.{next_record}
use Rattle.csv.specs.Reading.{default_config, records_from, strip_bom}
use Rattle.csv.specs.declared.parser.State.{State}
use Rattle.csv.specs.declared.parser.State.TheVariants as st
use Rattle.msrp_text.specs.Plain.{EndsLine, is_mark, is_plain, split_commas, split_from}
use Rattle.msrp_text.specs.Records.{GivesLine, HasNone, KeepsRecords, csv_records, records_at, records_of}
use Rattle.msrp_text.proofs.Remaining.{records-unfold}

-- a byte that is no quote starts a field as it goes on in one
start-same : (fields : List (List ℕ)) (field : List ℕ) (c : ℕ) (tail : List ℕ) → (c == 34) ≡ false
    → next_record default_config st.StartField fields field (c ∷ tail) ≡ next_record default_config st.InField fields field (c ∷ tail)
unfolding next_record
start-same fields field c tail n = rw n refl

-- a byte that ends no record starts one as it starts a field
pub record-same : (fields : List (List ℕ)) (field : List ℕ) (c : ℕ) (tail : List ℕ) → (c == 13) ≡ false → (c == 10) ≡ false
    → next_record default_config st.StartRecord fields field (c ∷ tail) ≡ next_record default_config st.StartField fields field (c ∷ tail)
unfolding next_record
record-same fields field c tail r n = rw (r, n) refl

-- a line at the start of a field
pub start-line : (end : ℕ) (fields : List (List ℕ)) (line tail : List ℕ) → (end == 34) ≡ false → list_any is_mark line ≡ false
    → next_record default_config st.StartField fields [] (line ++ (end ∷ tail)) ≡ next_record default_config st.InField fields [] (line ++ (end ∷ tail))
start-line end fields [] tail q e = start-same fields [] end tail q
start-line end fields (b ∷ rest) tail q e = start-same fields [] b _ (or_parts _ _ (or_parts _ _ e).0).0

-- a comma ends a field
pub comma-ends : (fields : List (List ℕ)) (field tail : List ℕ)
    → next_record default_config st.InField fields field (44 ∷ tail) ≡ next_record default_config st.StartField (fields ++ (field ∷ [])) [] tail
unfolding next_record
comma-ends fields field tail = refl

-- a byte ends the record, and leaves a state
abbrev Ends : ℕ → State → List ℕ → Type 0
Ends end after tail = (fields : List (List ℕ)) (field : List ℕ) → next_record default_config st.InField fields field (end ∷ tail) ≡ Some (fields ++ (field ∷ []), after, tail)

feed-ends : (tail : List ℕ) → Ends 10 st.StartRecord tail
unfolding next_record
feed-ends tail fields field = refl

return-ends : (tail : List ℕ) → Ends 13 st.AfterCr tail
unfolding next_record
return-ends tail fields field = refl

-- any other byte joins the field
pub byte-joins : (fields : List (List ℕ)) (field : List ℕ) (b : ℕ) (tail : List ℕ) → (b == 44) ≡ false → is_mark b ≡ false
    → next_record default_config st.InField fields field (b ∷ tail) ≡ next_record default_config st.InField fields (field ++ (b ∷ [])) tail
unfolding next_record
byte-joins fields field b tail c m =
    let r : (b == 13) ≡ false = (or_parts _ _ (or_parts _ _ m).1).0 in
    let n : (b == 10) ≡ false = (or_parts _ _ (or_parts _ _ m).1).1 in
    rw (c, r, n) refl

-- the rest of a plain line, inside a field
line-run : (end : ℕ) (after : State) (tail : List ℕ) → Ends end after tail → (end == 34) ≡ false → (fields : List (List ℕ)) (field line : List ℕ) → list_any is_mark line ≡ false
    → next_record default_config st.InField fields field (line ++ (end ∷ tail)) ≡ Some (fields ++ split_from field line, after, tail)
unfolding split_from
line-run end after tail ends q fields field [] e = ends fields field
line-run end after tail ends q fields field (b ∷ rest) e = elim (cases_Bool (b == 44)) [
  | inl comma ↦
      let same = eqb-true b 44 comma in
      rw (same) (comma-ends fields field (rest ++ (end ∷ tail))
      ∙ start-line end (fields ++ (field ∷ [])) rest tail q (or_parts _ _ e).1
      ∙ line-run end after tail ends q (fields ++ (field ∷ [])) [] rest (or_parts _ _ e).1
      ∙ rw (append_assoc fields (field ∷ []) (split_from [] rest)) refl)
  | inr other ↦
      rw other (byte-joins fields field b (rest ++ (end ∷ tail)) other (or_parts _ _ e).0
      ∙ line-run end after tail ends q fields (field ++ (b ∷ [])) rest (or_parts _ _ e).1)
]

-- a plain line at the start of a record is the next record
next-ended : (end : ℕ) (after : State) (tail : List ℕ) → Ends end after tail → (end == 34) ≡ false → (line : List ℕ) → is_plain line ≡ true
    → next_record default_config st.StartRecord [] [] (line ++ (end ∷ tail)) ≡ Some (split_commas line, after, tail)
next-ended end after tail ends q [] e = cc e
next-ended end after tail ends q (b ∷ rest) e =
    let plain = not-true _ (and_parts _ _ e).1 in
    let mark = (or_parts _ _ plain).0 in
    record-same [] [] b _ (or_parts _ _ (or_parts _ _ mark).1).0 (or_parts _ _ (or_parts _ _ mark).1).1
    ∙ start-line end [] (b ∷ rest) tail q plain
    ∙ line-run end after tail ends q [] [] (b ∷ rest) plain

pub next-line : (line tail : List ℕ) → is_plain line ≡ true
    → next_record default_config st.StartRecord [] [] (line ++ (10 ∷ tail)) ≡ Some (split_commas line, st.StartRecord, tail)
next-line line tail e = next-ended 10 st.StartRecord tail (feed-ends tail) refl line e

pub next-return : (line tail : List ℕ) → is_plain line ≡ true
    → next_record default_config st.StartRecord [] [] (line ++ (13 ∷ tail)) ≡ Some (split_commas line, st.AfterCr, tail)
next-return line tail e = next-ended 13 st.AfterCr tail (return-ends tail) refl line e

-- a record starts after a carriage return as it does elsewhere: a line feed there is an empty line
after-return : (tail : List ℕ) → next_record default_config st.AfterCr [] [] tail ≡ next_record default_config st.StartRecord [] [] tail
unfolding next_record
after-return [] = refl
after-return (b ∷ tail) = elim (cases_Bool (b == 10)) [
  | inl feed ↦ subst (λ n. next_record default_config st.AfterCr [] [] (n ∷ tail) ≡ next_record default_config st.StartRecord [] [] (n ∷ tail)) (sym (eqb-true b 10 feed)) refl
  | inr other ↦ rw other refl
]

-- an empty line is no record
pub next-empty : (tail : List ℕ) → next_record default_config st.StartRecord [] [] (10 ∷ tail) ≡ next_record default_config st.StartRecord [] [] tail
unfolding next_record
next-empty tail = refl

-- the records of a text that goes on with a plain line
pub records-line : (line tail : List ℕ) → is_plain line ≡ true → records_at st.StartRecord (line ++ (10 ∷ tail)) ≡ split_commas line ∷ records_at st.StartRecord tail
records-line line tail e = records-unfold st.StartRecord (line ++ (10 ∷ tail)) _ (next-line line tail e)

-- the records of a text that goes on with an empty line
pub records-empty : (tail : List ℕ) → records_at st.StartRecord (10 ∷ tail) ≡ records_at st.StartRecord tail
records-empty tail = records-unfold st.StartRecord (10 ∷ tail) _ (next-empty tail) ∙ sym (records-unfold st.StartRecord tail _ refl)

-- nor is one that ends with a carriage return
next-only : (tail : List ℕ) → next_record default_config st.StartRecord [] [] (13 ∷ tail) ≡ next_record default_config st.StartRecord [] [] tail
unfolding next_record
next-only tail = refl

pub records-only : (tail : List ℕ) → records_at st.StartRecord (13 ∷ tail) ≡ records_at st.StartRecord tail
records-only tail = records-unfold st.StartRecord (13 ∷ tail) _ (next-only tail) ∙ sym (records-unfold st.StartRecord tail _ refl)

-- the records of a text that goes on with a plain line, ended by a carriage return
pub records-return : (line tail : List ℕ) → is_plain line ≡ true → records_at st.StartRecord (line ++ (13 ∷ tail)) ≡ split_commas line ∷ records_at st.StartRecord tail
records-return line tail e =
    records-unfold st.StartRecord (line ++ (13 ∷ tail)) _ (next-return line tail e)
    ∙ ap (λ (rs : List (List (List ℕ))). split_commas line ∷ rs)
    (records-unfold st.AfterCr tail _ (after-return tail) ∙ sym (records-unfold st.StartRecord tail _ refl))

-- a text whose first byte is not that of a byte order mark begins with none
pub no-bom : (b : ℕ) (rest : List ℕ) → (b == 239) ≡ false → strip_bom (b ∷ rest) ≡ b ∷ rest
unfolding strip_bom
no-bom b [] e = refl
no-bom b (c ∷ []) e = refl
no-bom b (c ∷ d ∷ rest) e = rw e refl

-- ---- a line more
-- a line that grows by a byte
pub plain-more : (xs : List ℕ) (b : ℕ) → (0 < length xs → is_plain xs ≡ true) → (length xs ≡ 0 → (b == 239) ≡ false) → is_mark b ≡ false → is_plain (xs ++ (b ∷ [])) ≡ true
plain-more [] b h first mark = let f = first refl in let m : list_any is_mark (b ∷ []) ≡ false = rw mark refl in and_from _ _ (ap not f) (ap not m)
plain-more (x ∷ xs) b h first mark =
    let old = h (omega arith) in
    let none : list_any is_mark (x ∷ xs) ≡ false = not-true _ (and_parts _ _ old).1 in
    let all : list_any is_mark ((x ∷ xs) ++ (b ∷ [])) ≡ false = list_any-append is_mark (x ∷ xs) (b ∷ []) ∙ rw (none, mark) refl in
    and_from _ _ (and_parts _ _ old).0 (ap not all)

-- no byte of a plain line is a mark
pub plain-byte : (line : List ℕ) (at : ℕ) → is_plain line ≡ true → at < length line → is_mark (slice_index line at) ≡ false
plain-byte [] at e h = cc e
plain-byte (b ∷ rest) at e h = elim (cases_Bool (is_mark (slice_index (b ∷ rest) at))) [
  | inl mark ↦
      let any : list_any is_mark (b ∷ rest) ≡ true = list_any_at is_mark (b ∷ rest) at 0 h mark in
      let none : list_any is_mark (b ∷ rest) ≡ false = not-true _ (and_parts _ _ e).1 in
      cc
  | inr other ↦ other
]

-- nor is its first that of a byte order mark
pub plain-first : (line : List ℕ) → is_plain line ≡ true → (0 < length line) × ((slice_index line 0 == 239) ≡ false)
plain-first [] e = cc e
plain-first (b ∷ rest) e = (omega arith, not-true _ (and_parts _ _ e).0)

-- the fields of a text that goes on after some bytes: these, and one that has begun
abbrev pub IsSplit : List (List ℕ) → List ℕ → List ℕ → Type 0
IsSplit fields field xs = (rest : List ℕ) → split_commas (xs ++ rest) ≡ fields ++ split_from field rest

pub split-joins : (fields : List (List ℕ)) (field xs : List ℕ) (b : ℕ) → IsSplit fields field xs → (b == 44) ≡ false → IsSplit fields (field ++ (b ∷ [])) (xs ++ (b ∷ []))
unfolding split_from
split-joins fields field xs b h other = λ rest. ap split_commas (append_assoc xs (b ∷ []) rest) ∙ h (b ∷ rest) ∙ rw other refl

pub split-parts : (fields : List (List ℕ)) (field xs : List ℕ) (b : ℕ) → IsSplit fields field xs → (b == 44) ≡ true → IsSplit (fields ++ (field ∷ [])) [] (xs ++ (b ∷ []))
unfolding split_from
split-parts fields field xs b h comma = λ rest. ap split_commas (append_assoc xs (b ∷ []) rest) ∙ h (b ∷ rest) ∙ rw (comma, append_assoc fields (field ∷ []) (split_from [] rest)) refl

pub split-ends : (fields : List (List ℕ)) (field xs : List ℕ) → IsSplit fields field xs → split_commas xs ≡ fields ++ (field ∷ [])
unfolding split_from
split-ends fields field xs h = ap split_commas (sym (append-nil xs)) ∙ h []

-- ---- the records that are left
-- a text that doesn't begin as a byte order mark does
pub begins : (begun : Bool) (rest : List ℕ) (b : ℕ) → not (b == 239) ≡ true → records_of begun (b ∷ rest) ≡ records_at st.StartRecord (b ∷ rest)
begins true rest b h = refl
begins false rest b h = rw (no-bom b rest (not-true _ h)) refl

-- a text that begins with a plain line and a mark
marked-first : (begun : Bool) (line mark text rest : List ℕ) → text ≡ line ++ mark → is_plain line ≡ true → records_of begun (text ++ rest) ≡ records_at st.StartRecord (line ++ (mark ++ rest))
marked-first begun [] mark text rest e plain = cc plain
marked-first begun (b ∷ line) mark text rest e plain =
    ap (λ (t : List ℕ). records_of begun (t ++ rest)) e ∙ begins begun ((line ++ mark) ++ rest) b (and_parts _ _ plain).0 ∙ ap (records_at st.StartRecord) (append_assoc (b ∷ line) mark rest)

-- a plain line with its end is the first record
pub ended-first : (begun : Bool) (line text rest : List ℕ) → EndsLine line text → is_plain line ≡ true → records_of begun (text ++ rest) ≡ split_commas line ∷ records_at st.StartRecord rest
ended-first begun line text rest (inl e) plain = marked-first begun line (10 ∷ []) text rest e plain ∙ records-line line rest plain
ended-first begun line text rest (inr (inl e)) plain = marked-first begun line (13 ∷ []) text rest e plain ∙ records-return line rest plain
ended-first begun line text rest (inr (inr e)) plain =
    marked-first begun line (13 ∷ 10 ∷ []) text rest e plain ∙ records-return line (10 ∷ rest) plain ∙ ap (λ (rs : List (List (List ℕ))). split_commas line ∷ rs) (records-empty rest)

-- a plain line that was taken with its end was the next record
pub taken-line : (begun : Bool) (old new : Option (List ℕ)) (line text : List ℕ) → Consumes old new text → EndsLine line text → is_plain line ≡ true
    → GivesLine (option_map (records_of begun) old) (split_commas line) (option_map (records_of true) new)
taken-line begun None new line text h ended plain left known = cc known
taken-line begun (Some xs) None line text h ended plain left known = absurd h
taken-line begun (Some xs) (Some ys) line text h ended plain left known =
    let from : records_of begun xs ≡ left = cc in
    let all : left ≡ split_commas line ∷ records_at st.StartRecord ys = sym from ∙ ap (records_of begun) h ∙ ended-first begun line text ys ended plain in
    rw all (refl, refl, refl)

-- bytes that are left still hold the same records
pub kept-records : (begun still : Bool) (old new : Option (List ℕ)) → Keeps old new → still ≡ begun → KeepsRecords (option_map (records_of begun) old) (option_map (records_of still) new)
kept-records begun still None new h e left known = cc known
kept-records begun still (Some xs) None h e left known = absurd h
kept-records begun still (Some xs) (Some ys) h e left known = rw (e, h) known

-- the records of a text are those from its start
pub csv-start : (bytes : List ℕ) → csv_records bytes ≡ records_of false bytes
unfolding records_at
csv-start bytes = refl

pub lines-new : (begun : Bool) (left known : Option (List ℕ)) → begun ≡ false → left ≡ known → option_map (records_of begun) left ≡ option_map csv_records known
lines-new begun left None e h = rw (e, h) refl
lines-new begun left (Some bytes) e h = rw (e, h) (ap (λ (rs : List (List (List ℕ))). Some rs) (sym (csv-start bytes)))

-- after a line feed no byte order mark is met
pub csv-begun : (known : Option (List ℕ)) (ahead : List ℕ) → option_map csv_records (prepend_known (10 ∷ ahead) known) ≡ option_map (records_of true) (prepend_known ahead known)
csv-begun None ahead = refl
csv-begun (Some rest) ahead =
    ap (λ (rs : List (List (List ℕ))). Some rs) (csv-start (10 ∷ (ahead ++ rest)) ∙ begins false (ahead ++ rest) 10 refl ∙ records-empty (ahead ++ rest))

pub csv-fresh : (known : Option (List ℕ)) → option_map csv_records known ≡ option_map (records_of false) known
csv-fresh None = refl
csv-fresh (Some bytes) = ap (λ (rs : List (List (List ℕ))). Some rs) (csv-start bytes)

-- where no byte is left there is no record
no-bytes : (begun : Bool) → records_of begun [] ≡ []
unfolding records_at records_from next_record strip_bom
no-bytes true = refl
no-bytes false = refl

pub none-more : (begun : Bool) (ahead : List ℕ) (known : Option (List ℕ)) → ahead ≡ [] → IsAtEnd known → HasNone (option_map (records_of begun) (prepend_known ahead known))
none-more begun ahead None e h left is = cc is
none-more begun ahead (Some bytes) e h left is = let here : records_of begun (ahead ++ bytes) ≡ left = cc in sym here ∙ rw (e, h) (no-bytes begun)
