-- The records of a text, as they are read in turn.
use Rattle.std.proofs.Common.{◌≡◌, ◌⊎◌, ◌+◌, ◌<◌, ◌≤◌, ◌∷◌, ◌++◌, ◌∙◌, if◌then◌else◌, ◌||◌, ◌&&◌}
use Rattle.msrp_plan.proofs.Common.{ℕ, Bool, true, false, List, [], length, Option, Some, None, refl, sym, ap, inl, inr, arith, suc, zero, IsSome, option_map, not, is_none}
use Rattle.csv.specs.Machine.{Read, next_record, step, is_end, fields_after, field_after, ends_at_end}
use mathlib.Core.Bool.{true≢false}
use Rattle.csv.specs.Reading.{ExplainsRead, NextIs, ReadRecord, ReadsNext, Ready, default_config, is_flexible, pending_of, reader_config, reader_state, reader_trim, records_from, records_next, source_of, stops_reader, strip_bom}
use Rattle.csv.specs.declared.error.ErrorKind.{ErrorKind}
use Rattle.csv.specs.declared.error.ErrorKind.TheVariants as kind
use Rattle.csv.specs.declared.parser.Config.{Config}
use Rattle.csv.specs.declared.parser.State.{State}
use Rattle.csv.specs.declared.parser.State.TheVariants as st
use Rattle.csv.specs.declared.reader.Reader.{Reader}
use Rattle.csv.specs.declared.reader.Headers.{Headers}
use Rattle.csv.specs.declared.reader.Trim.TheVariants as trim
use Rattle.msrp_text.specs.Records.{GivesNext, csv_records, records_at}
use Rattle.msrp_text.specs.Settings.{is_ready}

-- what a choice leaves of a text
if-left : (b : Bool) (x q : Read) (o : Option Read) (n : ℕ) → length x.2 ≤ n → (o ≡ Some q → length q.2 ≤ n) → (if b then Some x else o) ≡ Some q → length q.2 ≤ n
if-left true x q o n h k e = let f : x ≡ q = cc in omega (arith, ap (λ (r : Read). length r.2) f)
if-left false x q o n h k e = k e

-- a record leaves no more than there was
next-le : (cfg : Config) (s : State) (fields : List (List ℕ)) (field xs : List ℕ) (q : Read) → next_record cfg s fields field xs ≡ Some q → length q.2 ≤ length xs
unfolding next_record
next-le cfg s fields field [] q e = if-left (ends_at_end s) (fields ++ (field ∷ []), st.StartRecord, []) q None 0 (omega arith) (λ (k : None ≡ Some q). cc) e
next-le cfg s fields field (c ∷ rest) q e =
    let h : length q.2 ≤ length rest = if-left (is_end (step cfg s c).1) (fields_after (step cfg s c).1 fields field, (step cfg s c).0, rest) q _ (length rest) (omega arith) (next-le cfg (step cfg s c).0 (fields_after (step cfg s c).1 fields field) (field_after (step cfg s c).1 c field) rest q) e in
    omega arith

-- a record of a text that isn't empty takes a byte
next-takes : (cfg : Config) (s : State) (c : ℕ) (rest : List ℕ) (q : Read) → next_record cfg s [] [] (c ∷ rest) ≡ Some q → length q.2 ≤ length rest
unfolding next_record
next-takes cfg s c rest q e =
    if-left (is_end (step cfg s c).1) (fields_after (step cfg s c).1 [] [], (step cfg s c).0, rest) q _ (length rest) (omega arith) (next-le cfg _ _ _ rest q) e

last-of : (b : Bool) (q : Read) (cfg : Config) (f : List (List ℕ)) → (if b then Some (f, st.StartRecord, []) else None) ≡ Some q → next_record cfg q.1 [] [] q.2 ≡ None
unfolding next_record
last-of true q cfg f e = let k : (f, st.StartRecord, []) ≡ q = cc in rw (← k) refl
last-of false q cfg f e = cc

-- a record of no byte is the last
next-last : (cfg : Config) (s : State) (q : Read) → next_record cfg s [] [] [] ≡ Some q → next_record cfg q.1 [] [] q.2 ≡ None
unfolding next_record
next-last cfg s q e = last-of (ends_at_end s) q cfg _ e

-- where no record is next there is none
no-records : (cfg : Config) (s : State) (xs : List ℕ) (n : ℕ) → next_record cfg s [] [] xs ≡ None → records_from cfg n s xs ≡ []
unfolding records_from
no-records cfg s xs zero e = refl
no-records cfg s xs (suc n) e = rw e refl

next-enough : (more other : State → List ℕ → List (List (List ℕ))) (o : Option Read) → ((q : Read) → o ≡ Some q → more q.1 q.2 ≡ other q.1 q.2) → records_next more o ≡ records_next other o
next-enough more other None h = refl
next-enough more other (Some q) h = ap (λ (rest : List (List (List ℕ))). q.0 ∷ rest) (h q refl)

-- a text has no more records than bytes, and one
records-enough : (cfg : Config) (n m : ℕ) (s : State) (xs : List ℕ) → length xs < n → length xs < m → records_from cfg n s xs ≡ records_from cfg m s xs
unfolding records_from
records-enough cfg zero m s xs h k = absurd (omega arith)
records-enough cfg (suc n) zero s xs h k = absurd (omega arith)
records-enough cfg (suc n) (suc m) s [] h k =
    next-enough (records_from cfg n) (records_from cfg m) (next_record cfg s [] [] [])
    (λ q e. let none = next-last cfg s q e in no-records cfg q.1 q.2 n none ∙ sym (no-records cfg q.1 q.2 m none))
records-enough cfg (suc n) (suc m) s (c ∷ rest) h k =
    next-enough (records_from cfg n) (records_from cfg m) (next_record cfg s [] [] (c ∷ rest))
    (λ q e. let fewer = next-takes cfg s c rest q e in records-enough cfg n m q.1 q.2 (omega arith) (omega arith))

-- the records from a place in a text are the next one, and then those from the place after it
pub records-unfold : (s : State) (xs : List ℕ) (o : Option Read) → next_record default_config s [] [] xs ≡ o → records_at s xs ≡ records_next records_at o
unfolding records_at records_from
records-unfold s xs None e = no-records default_config s xs (length xs + 1) e
records-unfold s [] (Some q) e =
    let none = next-last default_config s q e in
    rw e (ap (λ (rest : List (List (List ℕ))). q.0 ∷ rest) (sym (no-records default_config q.1 q.2 (length q.2 + 1) none)))
records-unfold s (c ∷ rest) (Some q) e =
    let fewer = next-takes default_config s c rest q e in
    let k : length (c ∷ rest) + 1 ≡ suc (length (c ∷ rest)) = omega arith in
    rw (k, e) (ap (λ (more : List (List (List ℕ))). q.0 ∷ more) (records-enough default_config (length (c ∷ rest)) (length q.2 + 1) q.1 q.2 (omega arith) (omega arith)))

-- what a read shows of the records that were left
gives-next : (o : Option Read) (found : Bool) (row : List (List ℕ)) (s : State) (ys : List ℕ) → NextIs o found row s ys → GivesNext (records_next records_at o) found row (Some (records_at s ys))
gives-next None found row s ys h = h
gives-next (Some q) found row s ys h = (h.0, h.1, rw (h.2, h.3) refl)

reads-next : (old new : State) (before after : Option (List ℕ)) (found : Bool) (row : List (List ℕ)) (left : List (List (List ℕ)))
    → ReadsNext default_config old before after found row new → option_map (records_at old) before ≡ Some left
    → GivesNext left found row (option_map (records_at new) after)
reads-next old new None after found row left r e = cc
reads-next old new (Some xs) None found row left r e = absurd r
reads-next old new (Some xs) (Some ys) found row left r e =
    let all : left ≡ records_next records_at (next_record default_config old [] [] xs) = (let f : records_at old xs ≡ left = cc in sym f) ∙ records-unfold old xs _ refl in
    rw all (gives-next _ found row new ys r)

-- a reader that takes no header row next is ready
ready-of : (first named : Bool) (headers : Option Headers) → (first || (not named && is_none headers)) ≡ true → (first ≡ true) ⊎ ((named ≡ true) × IsSome headers) ⊎ ((named ≡ false) × (headers ≡ None))
ready-of true named headers e = inl refl
ready-of false false None e = inr (inr (refl, refl))
ready-of false false (Some h) e = cc
ready-of false true headers e = cc

-- a reader of records of any length fails for the reader underneath or for memory
pub stops-only : {R : Type 0} (known : R → Option (List ℕ)) (old new : Reader R) (why : ErrorKind) → is_flexible old ≡ true → is_ready old ≡ true → (Ready old → ExplainsRead known old new false why) → stops_reader why ≡ true
stops-only known old new why flexible ready explains = by why (explains (ready-of old.first old.has_headers old.headers ready))
  where
    by : (why : ErrorKind) → ExplainsRead known old new false why → stops_reader why ≡ true
    by (kind.Io e) h = refl
    by kind.OutOfMemory h = refl
    by (kind.UnequalLengths pos expected len) h = absurd (true≢false (sym flexible ∙ h.0))
    by (kind.Utf8 pos err) h = absurd (true≢false (sym h.0))
    by (kind.Serialize text) h = absurd h
    by (kind.Deserialize pos err) h = absurd h

-- what a read of a record shows of the records that were left
pub read-gives : {R : Type 0} (known : R → Option (List ℕ)) (old new : Reader R) (found : Bool) (row : List (List ℕ)) (left : List (List (List ℕ)))
    → reader_trim old ≡ trim.None → reader_config old ≡ default_config → is_ready old ≡ true
    → (reader_trim old ≡ trim.None → Ready old → ReadRecord known old new found row)
    → option_map (records_at (reader_state old)) (source_of known old) ≡ Some left
    → GivesNext left found row (option_map (records_at (reader_state new)) (source_of known new))
read-gives known old new found row left plain config ready reads e =
    let r = reads plain (ready-of old.first old.has_headers old.headers ready) in
    let begun : source_of known new ≡ pending_of (known new.rdr) new = rw r.1 refl in
    let next = rw config at r.0 in
    rw begun (reads-next old.state new.state _ _ found row left next e)

known-new : (known : Option (List ℕ)) → option_map (records_at st.StartRecord) (option_map strip_bom known) ≡ option_map csv_records known
unfolding records_at
known-new None = refl
known-new (Some bytes) = refl

-- a reader that has read nothing has the records of its text left
pub left-new : (known : Option (List ℕ)) (state : State) (source : Option (List ℕ)) → state ≡ st.StartRecord → source ≡ option_map strip_bom known
    → option_map (records_at state) source ≡ option_map csv_records known
left-new known state source e h = rw (e, h) (known-new known)

-- a read that gave a record, and one that gave none
pub gave-one : (left : List (List (List ℕ))) (found : Bool) (row : List (List ℕ)) (after : Option (List (List (List ℕ)))) → GivesNext left found row after → found ≡ true
    → (rest : List (List (List ℕ))) × (left ≡ row ∷ rest) × (after ≡ Some rest)
gave-one [] found row after h e = cc
gave-one (r ∷ rest) found row after h e = (rest, ap (λ (x : List (List ℕ)). x ∷ rest) (sym h.1), h.2)

pub gave-none : (left : List (List (List ℕ))) (found : Bool) (row : List (List ℕ)) (after : Option (List (List (List ℕ)))) → GivesNext left found row after → found ≡ false → left ≡ []
gave-none [] found row after h e = refl
gave-none (r ∷ rest) found row after h e = cc h.0
