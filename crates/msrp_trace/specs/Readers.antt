-- What a reader of rows has left, and what each call returns.
use Rattle.msrp_plan.specs.Common.{codes, decimal, ℕ, Bool, true, false, List, [], Option, Some, None, Ok, Err, option_map, IsSome, IsOkAnd, ⊤, drop, source_remaining, PlanModel}
use Rattle.msrp_plan.specs.declared.bytes.Source.{Source}
use Rattle.msrp_plan.specs.declared.ids.CoreId.{CoreId}
use Rattle.msrp_plan.specs.declared.rows.Row.{Row}
use Rattle.msrp_plan.specs.declared.rows.TextVersion.{TextVersion}
use Rattle.std.specs.Prelude.{◌++◌, ◌+◌, ◌^◌, ◌<◌, ◌≡◌, ◌⊎◌, ◌∷◌, ◌-◌, Result}
use Rattle.csv.specs.Records.{fields_of}
use Rattle.msrp_text.specs.Lines.{HasRead}
use Rattle.msrp_text.specs.Plain.{BeginsWith}
use Rattle.msrp_text.specs.Reading.{record_at}
use Rattle.msrp_text.specs.Records.{bytes_ahead, reader_under, records_left}
use Rattle.msrp_trace.specs.Gathering.{after_tick}
use Rattle.msrp_trace.specs.Laws.{is_told_whole}
use Rattle.msrp_trace.specs.Reading.{Told, rows_of, told_after, version_of}
use Rattle.msrp_trace.specs.TraceText.{row_text}
use Rattle.msrp_trace.specs.Texts.{TextsModel, text_of_core}
use Rattle.msrp_trace.specs.declared.faults.TraceError.{TraceError}
use Rattle.msrp_trace.specs.declared.faults.TraceError.TheVariants.{At, Read, Memory}
use Rattle.msrp_trace.specs.declared.faults.TraceFault.TheVariants.{Head}
use Rattle.msrp_trace.specs.declared.reading.ReaderState.{ReaderState}
use Rattle.msrp_trace.specs.declared.reading.ReaderState.TheVariants.{Rows, Ended, Failed}
use Rattle.msrp_trace.specs.declared.reading.TraceReader.{TraceReader}
use Rattle.msrp_trace.specs.declared.reading.Unopened.{Unopened}

-- neither a row nor a refusal
abbrev pub nothing_left : Told
nothing_left = record { rows = []; refusal = None }

-- what is left in a state, if the records are known
abbrev pub left_at : ReaderState → Option Told → Option Told
left_at Rows told = told
left_at Ended told = Some nothing_left
left_at Failed told = None

-- the state after an answer
abbrev pub state_after : Result (Option Row) TraceError → ReaderState
state_after (Ok (Some r)) = Rows
state_after (Ok None) = Ended
state_after (Err e) = Failed

-- the rows that a reader has left, and the refusal after them, if its bytes are known
abbrev pub told_left : {R : Type 0} → (R → Option (List ℕ)) → TraceReader R → Option Told
told_left remaining t = left_at t.state (option_map (told_after t.version t.plan.now t.number) (records_left (λ s. source_remaining remaining s.now) t.records))

-- the line is the text of a row, which reads back as it is, and a further row may follow
pub record IsLineOf {R : Type 0} (t : TraceReader R) (r : Row) (line : List ℕ) : Type 0 where
  pub state : t.state ≡ Rows
  pub number : t.number + 1 < 2 ^ 32
  pub whole : is_told_whole t.version t.plan.now r ≡ true
  pub text : line ++ codes "\n" ≡ row_text t.version t.plan.now r

-- the next row can be compared: the bytes read ahead begin with its text
abbrev pub CanMeet : {R : Type 0} → TraceReader R → Row → Type 0
CanMeet t r = (line : List ℕ) × IsLineOf t r line × BeginsWith line (bytes_ahead t.records)

-- a reader of the same trace: of the same plan, and in the same version
abbrev pub IsOfTrace : {R : Type 0} → TraceReader R → TraceReader R → Type 0
IsOfTrace old new = (new.version ≡ old.version) × (new.plan.now ≡ old.plan.now)

-- the reader has failed
abbrev pub is_failed : ReaderState → Bool
is_failed Failed = true
is_failed _ = false

-- the reader has refused, and refuses from then on
abbrev pub has_failed : {R : Type 0} → TraceReader R → Bool
has_failed t = is_failed t.state

-- the source that a reader reads
abbrev pub source_of : {R : Type 0} → TraceReader R → Source R
source_of t = (reader_under t.records).now

-- the answer is this one, unless a read failed or memory ran out
abbrev pub HoldsUnlessFailed : {A : Type 0} → Result A TraceError → Type 0 → Type 0
HoldsUnlessFailed result due = (result ≡ Err Read) ⊎ (result ≡ Err Memory) ⊎ due

-- a reader opens if the first record has a version, and then has left what the records say
abbrev pub OpensBy : {R : Type 0} → (R → Option (List ℕ)) → Option TextVersion → Told → Result (TraceReader R) TraceError → Type 0
OpensBy remaining None told result = result ≡ Err (At Head 1)
OpensBy remaining (Some version) told result = IsOkAnd result (λ reader. told_left remaining reader ≡ Some told)

-- what a reader of these records says when it opens, unless memory or reading fails
abbrev pub Opens : {R : Type 0} → (R → Option (List ℕ)) → PlanModel → List (List (List ℕ)) → Result (TraceReader R) TraceError → Type 0
Opens remaining plan records result = HoldsUnlessFailed result (OpensBy remaining (version_of plan records) (rows_of plan records) result)

-- the next row, and the rest is left; or at the end none, now and later; or the refusal
abbrev pub GivesFirst : List Row → Option TraceError → Result (Option Row) TraceError → Option Told → Type 0
GivesFirst (r ∷ rows) refusal result after = (result ≡ Ok (Some r)) × (after ≡ Some (record { rows = rows; refusal = refusal }))
GivesFirst [] None result after = (result ≡ Ok None) × (after ≡ Some nothing_left)
GivesFirst [] (Some refusal) result after = result ≡ Err refusal

-- the next row, none at the end, or the refusal; nothing is said of what is left after the end
abbrev pub GivesFirstOr : List Row → Option TraceError → Result (Option Row) TraceError → Option Told → Type 0
GivesFirstOr (r ∷ rows) refusal result after = GivesFirst (r ∷ rows) refusal result after
GivesFirstOr [] None result after = result ≡ Ok None
GivesFirstOr [] (Some refusal) result after = result ≡ Err refusal

-- what the next call gives, unless memory or reading fails
abbrev pub GivesNext : Told → Result (Option Row) TraceError → Option Told → Type 0
GivesNext told result after = HoldsUnlessFailed result (GivesFirst told.rows told.refusal result after)

-- in that tick the core's text is that of a row, which the reader returns unchanged
pub record IsTextOf {R : Type 0} (t : TraceReader R) (texts : TextsModel) (n core : ℕ) (r : Row) : Type 0 where
  pub tick : r.tick ≡ n
  pub whole : is_told_whole t.version t.plan.now r ≡ true
  pub text : text_of_core texts core ≡ after_tick t.version t.plan.now r

-- the bytes read ahead begin with the tick's text, which is stored, and a row may follow
pub record IsAtTick {R : Type 0} (n : ℕ) (t : TraceReader R) : Type 0 where
  pub state : t.state ≡ Rows
  pub kept : t.tick.tick ≡ n
  pub text : (after : List ℕ) × (bytes_ahead t.records ≡ decimal n ++ after)

-- ---- the record that is refused
-- the fields read last: after a refusal, those of the refused record
abbrev pub record_read : {R : Type 0} → TraceReader R → List (List ℕ)
record_read t = fields_of t.fields

-- of these records those after the reader's count are left, if its bytes are known
abbrev pub StandsIn : {R : Type 0} → (R → Option (List ℕ)) → List (List (List ℕ)) → TraceReader R → Type 0
StandsIn remaining records t = records_left (λ s. source_remaining remaining s.now) t.records ≡ Some (drop t.number records)

-- the fields are those of the record that is refused by its number
abbrev pub IsRecordOf : List (List (List ℕ)) → TraceError → List (List ℕ) → Type 0
IsRecordOf records (At fault number) fields = fields ≡ record_at records (number - 1)
IsRecordOf records _ fields = ⊤

-- after a row the reader is still in the records; after a refusal the refused record was read last
abbrev pub StandsBehind : {R : Type 0} → (R → Option (List ℕ)) → List (List (List ℕ)) → Result (Option Row) TraceError → TraceReader R → Type 0
StandsBehind remaining records (Ok (Some r)) t = StandsIn remaining records t
StandsBehind remaining records (Ok None) t = ⊤
StandsBehind remaining records (Err error) t = IsRecordOf records error (record_read t)

-- ---- the line of a record
-- a reader has read its count of a text's records, and knows the last one's line, if it can
abbrev pub HasReadIn : {R : Type 0} → (R → Option (List ℕ)) → List ℕ → TraceReader R → Type 0
HasReadIn remaining text t = HasRead (λ s. source_remaining remaining s.now) text t.number t.records

-- the last of them is the record of that number
abbrev pub HasReadTo : {R : Type 0} → (R → Option (List ℕ)) → List ℕ → ℕ → TraceReader R → Type 0
HasReadTo remaining text number t = HasReadIn remaining text t × (t.number ≡ number)

-- the reader took nothing: it is at the tick, with the same rows, records and lines left
pub record TakesNothing {R : Type 0} (remaining : R → Option (List ℕ)) (n : ℕ) (old new : TraceReader R) : Type 0 where
  pub here : IsAtTick n new
  pub kept : (told : Told) → told_left remaining old ≡ Some told → told_left remaining new ≡ Some told
  pub still : (records : List (List (List ℕ))) → StandsIn remaining records old → StandsIn remaining records new
  pub lines : (text : List ℕ) → HasReadIn remaining text old → HasReadIn remaining text new

-- after a row the reader has read it, and after a refusal the refused record
abbrev pub HasReadBehind : {R : Type 0} → (R → Option (List ℕ)) → List ℕ → Result (Option Row) TraceError → TraceReader R → Type 0
HasReadBehind remaining text (Ok (Some r)) t = HasReadIn remaining text t
HasReadBehind remaining text (Ok None) t = ⊤
HasReadBehind remaining text (Err (At fault number)) t = HasReadTo remaining text number t
HasReadBehind remaining text (Err error) t = ⊤

-- no reader was opened, by this error
abbrev pub error_of : {R : Type 0} → Result (TraceReader R) Unopened → Result (TraceReader R) TraceError
error_of (Ok reader) = Ok reader
error_of (Err unopened) = Err unopened.error

-- ---- the row that is next
abbrev pub RowsBeginAt : ℕ → CoreId → List Row → Option TraceError → Type 0
RowsBeginAt tick core (r ∷ rows) refusal = (r.tick ≡ tick) × (r.core ≡ core)
RowsBeginAt tick core [] refusal = IsSome refusal

-- the next row is of that tick and that core, or its record is refused
abbrev pub BeginsAt : ℕ → CoreId → Told → Type 0
BeginsAt tick core told = RowsBeginAt tick core told.rows told.refusal
