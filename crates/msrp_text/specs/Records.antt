-- The records of a text, and those that a reader has left.
use Rattle.std.specs.Prelude.{◌≡◌, ◌+◌, ◌++◌, ◌∷◌, if◌then◌else◌}
use Rattle.msrp_plan.specs.Common.{ℕ, Bool, true, false, List, [], length, Option, Some, None, option_map}
use Rattle.csv.specs.Reading.{default_config, records, reader_source, records_from, source_of, strip_bom, reader_state}
use Rattle.csv.specs.declared.parser.State.{State}
use Rattle.msrp_text.specs.Ahead.{lines_ahead, unread}
use Rattle.msrp_text.specs.declared.csv_records.CsvRecords.{CsvRecords}
use Rattle.msrp_text.specs.declared.lines.Lines.{Lines}
use Rattle.msrp_text.specs.declared.records.RecordReader.{RecordReader}
use Rattle.msrp_text.specs.declared.records.Stopped.{Stopped}
use Rattle.msrp_text.specs.declared.records.Way.{Way}
use Rattle.csv.specs.declared.parser.State.TheVariants as st
use Rattle.msrp_text.specs.declared.records.Way.TheVariants as way

-- the records of a text; a byte order mark at its start is ignored
abbrev pub csv_records : List ℕ → List (List (List ℕ))
csv_records bytes = records default_config (strip_bom bytes)

-- the records of the rest of a text, from a reader's state in it
unfoldable pub records_at : State → List ℕ → List (List (List ℕ))
records_at state bytes = records_from default_config (length bytes + 1) state bytes

-- the records from the start of one on; a byte order mark at the start of a text is ignored
abbrev pub records_of : Bool → List ℕ → List (List (List ℕ))
records_of begun bytes = records_at st.StartRecord (if begun then bytes else strip_bom bytes)

-- ---- the way by lines
abbrev pub records_ahead : {R : Type 0} → (R → Option (List ℕ)) → Lines R → Option (List (List (List ℕ)))
records_ahead remaining lines = option_map (records_of lines.begun) (unread remaining lines)

-- ---- the way by csv
abbrev pub csv_under : {R : Type 0} → CsvRecords R → R
csv_under r = reader_source r.rows

-- the records that are left
abbrev pub csv_left : {R : Type 0} → (R → Option (List ℕ)) → CsvRecords R → Option (List (List (List ℕ)))
csv_left remaining r = option_map (records_at (reader_state r.rows)) (source_of remaining r.rows)

-- ---- either way
abbrev pub under : {R : Type 0} → Way R → R
under (way.Lines lines) = lines.source
under (way.Csv records) = (csv_under records).source

-- how the reading has stopped, if it has
abbrev pub stop_at : {R : Type 0} → Way R → Option Stopped
stop_at (way.Lines lines) = None
stop_at (way.Csv records) = records.stopped

-- the records are read by csv
abbrev pub is_csv : {R : Type 0} → Way R → Bool
is_csv (way.Lines lines) = false
is_csv (way.Csv records) = true

-- the bytes that are read and not taken yet
abbrev pub ahead_at : {R : Type 0} → Way R → List ℕ
ahead_at (way.Lines lines) = lines_ahead lines
ahead_at (way.Csv records) = []

-- the records that are left, either way
abbrev pub left_at : {R : Type 0} → (R → Option (List ℕ)) → Way R → Option (List (List (List ℕ)))
left_at remaining (way.Lines lines) = records_ahead remaining lines
left_at remaining (way.Csv records) = csv_left (unread remaining) records

-- the reader underneath
abbrev pub reader_under : {R : Type 0} → RecordReader R → R
reader_under r = under r.way

-- why a read failed, if one did, as each later one does
abbrev pub stop_of : {R : Type 0} → RecordReader R → Option Stopped
stop_of r = stop_at r.way

-- `csv` reads the records
abbrev pub reads_csv : {R : Type 0} → RecordReader R → Bool
reads_csv r = is_csv r.way

-- the bytes read ahead, from the next record on
abbrev pub bytes_ahead : {R : Type 0} → RecordReader R → List ℕ
bytes_ahead r = ahead_at r.way

-- the records that are left, if what the reader underneath has left is known
abbrev pub records_left : {R : Type 0} → (R → Option (List ℕ)) → RecordReader R → Option (List (List (List ℕ)))
records_left remaining r = left_at remaining r.way

-- a read returns the first of the records left, and leaves the others; if none was left, says so
abbrev pub GivesNext : List (List (List ℕ)) → Bool → List (List ℕ) → Option (List (List (List ℕ))) → Type 0
GivesNext [] found row after = found ≡ false
GivesNext (r ∷ rest) found row after = (found ≡ true) × (row ≡ r) × (after ≡ Some rest)

-- the next of the records left, if they are known, has these fields, and the others are left
abbrev pub GivesLine : Option (List (List (List ℕ))) → List (List ℕ) → Option (List (List (List ℕ))) → Type 0
GivesLine old fields new = (left : List (List (List ℕ))) → old ≡ Some left → GivesNext left true fields new

-- the records that were left, if they are known, are still left
abbrev pub KeepsRecords : Option (List (List (List ℕ))) → Option (List (List (List ℕ))) → Type 0
KeepsRecords old new = (left : List (List (List ℕ))) → old ≡ Some left → new ≡ Some left

-- no record was left, if they are known
abbrev pub HasNone : Option (List (List (List ℕ))) → Type 0
HasNone known = (left : List (List (List ℕ))) → known ≡ Some left → left ≡ []

-- the first of these records begins with these fields
abbrev pub FirstBegins : List (List ℕ) → List (List (List ℕ)) → Type 0
FirstBegins fields [] = ⊥
FirstBegins fields (r ∷ rest) = (more : List (List ℕ)) × (r ≡ fields ++ more)
