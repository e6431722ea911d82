-- The line of a text in which a record begins, counted from 1.
use Rattle.std.specs.Prelude.{◌≡◌, ◌+◌, ◌-◌, ◌==◌, ◌&&◌, ◌||◌, ◌++◌, ◌≤◌, ◌<◌, ◌^◌, ◌∷◌, if◌then◌else◌}
use Rattle.msrp_plan.specs.Common.{ℕ, Bool, true, false, not, ⊤, List, [], drop, length, slice_index, Option, Some, IsSome}
use Rattle.csv.specs.declared.parser.State.TheVariants as st
use Rattle.msrp_text.specs.Ahead.{unread}
use Rattle.msrp_text.specs.Records.{csv_records, records_at, records_of}
use Rattle.msrp_text.specs.declared.lines.Lines.{Lines}
use Rattle.msrp_text.specs.declared.records.RecordReader.{RecordReader}
use Rattle.msrp_text.specs.declared.records.Way.{Way}
use Rattle.msrp_text.specs.declared.records.Way.TheVariants as way

-- LF or CR
abbrev pub is_break : ℕ → Bool
is_break b = (b == 10) || (b == 13)

-- a line ends at that byte: at a CR, or at an LF that doesn't follow a CR
abbrev pub ends_line : ℕ → ℕ → Bool
ends_line before b = (b == 13) || ((b == 10) && not (before == 13))

-- the number of lines that end in a text after that byte, by LF, CR or CRLF
unfoldable pub ends_behind : ℕ → List ℕ → ℕ
ends_behind before [] = 0
ends_behind before (b ∷ rest) = if ends_line before b then ends_behind b rest + 1 else ends_behind b rest

-- the number of lines that end in a text
abbrev pub lines_ended : List ℕ → ℕ
lines_ended text = ends_behind 0 text

-- a record begins with the first byte: there is one, and it doesn't end a line
abbrev pub begins_record : List ℕ → Bool
begins_record [] = false
begins_record (b ∷ rest) = not (is_break b)

-- the record of that number begins in that line: the text is cut in two where a record begins, the
-- rest has the records from this one on, and all earlier lines end before it
pub record BeginsIn (text : List ℕ) (number line : ℕ) : Type 0 where
  pub before : List ℕ
  pub rest : List ℕ
  pub text_is : text ≡ before ++ rest
  pub begins : begins_record rest ≡ true
  pub records : records_at st.StartRecord rest ≡ drop (number - 1) (csv_records text)
  pub line_is : line ≡ lines_ended before + 1

-- ---- what a reader has read
-- the last byte of a text that follows that byte
unfoldable pub last_behind : ℕ → List ℕ → ℕ
last_behind before [] = before
last_behind before (b ∷ rest) = last_behind b rest

-- the byte before the next one
abbrev pub byte_before : {R : Type 0} → Lines R → ℕ
byte_before lines = if lines.begun then slice_index lines.buffer (lines.at - 1) else 0

-- this many records were taken, a line each, and the empty lines so far were counted, if they fit
pub record HasTaken {R : Type 0} (remaining : R → Option (List ℕ)) (text : List ℕ) (number : ℕ) (lines : Lines R) : Type 0 where
  pub before : List ℕ
  pub left : List ℕ
  pub known : unread remaining lines ≡ Some left
  pub text_is : text ≡ before ++ left
  pub records : records_of lines.begun left ≡ drop number (csv_records text)
  pub last : last_behind 0 before ≡ byte_before lines
  pub counted : (empty : ℕ) → lines.passed ≡ Some empty → lines_ended before ≡ number + empty
  pub counts : length text < 2 ^ 32 → IsSome lines.passed

-- for both ways of reading; nothing is said once `csv` reads
abbrev pub HasTakenBy : {R : Type 0} → (R → Option (List ℕ)) → List ℕ → ℕ → Way R → Type 0
HasTakenBy remaining text number (way.Lines lines) = HasTaken remaining text number lines
HasTakenBy remaining text number (way.Csv records) = ⊤

-- the number of empty lines before the record read last, if known
abbrev pub empty_at : {R : Type 0} → Option ℕ → Way R → Option ℕ
empty_at first (way.Lines lines) = lines.passed
empty_at first (way.Csv records) = first

-- the number of empty lines before the record that a reader read last, if known
abbrev pub empty_before : {R : Type 0} → RecordReader R → Option ℕ
empty_before r = empty_at r.first r.way

-- a reader has read this many records, and knows the last one's line if it knows the empty lines
pub record HasRead {R : Type 0} (remaining : R → Option (List ℕ)) (text : List ℕ) (number : ℕ) (r : RecordReader R) : Type 0 where
  pub taken : HasTakenBy remaining text number r.way
  pub line : (empty : ℕ) → empty_before r ≡ Some empty → 1 ≤ number → BeginsIn text number (number + empty)
