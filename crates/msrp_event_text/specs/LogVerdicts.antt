-- The verdict on the records of a log.
use Rattle.std.specs.Prelude.{◌≡◌, ◌⊎◌, ◌+◌, ◌++◌, ◌∷◌, ◌==◌, ◌&&◌, ◌||◌, if◌then◌else◌}
use Rattle.msrp_plan.specs.Common.{ℕ, Bool, true, false, not, List, [], length, codes, list_all, map, replicate, set, slice_index_or, Option, Some, None, Result, Ok, Err, PlanModel}
use Rattle.msrp_events.specs.Changes.{LogState}
use Rattle.msrp_events.specs.Findings.{finding_in, is_gap}
use Rattle.msrp_events.specs.declared.events.Action.{Action}
use Rattle.msrp_events.specs.declared.events.Action.TheVariants.{Boot, Lost}
use Rattle.msrp_events.specs.declared.events.Event.{Event}
use Rattle.msrp_events.specs.declared.findings.Finding.{Finding}
use Rattle.msrp_events.specs.declared.findings.Finding.TheVariants as finding
use Rattle.msrp_events.specs.declared.findings.LogRule.{LogRule}
use Rattle.msrp_events.specs.declared.findings.Missing.TheVariants as missing
use Rattle.msrp_events.specs.declared.states.CoreLog.{CoreLog}
use Rattle.msrp_events.specs.declared.states.Tolerances.{Tolerances}
use Rattle.msrp_text.specs.Fields.{has_word, number_at}
use Rattle.msrp_text.specs.declared.records.Stopped.{Stopped}
use Rattle.msrp_text.specs.declared.records.Stopped.TheVariants as stopped
use Rattle.msrp_event_text.specs.LogEvents.{event_of, refusal_of}
use Rattle.msrp_event_text.specs.declared.confirming.Awaited.{Awaited}
use Rattle.msrp_event_text.specs.declared.confirming.Awaited.TheVariants as awaited
use Rattle.msrp_event_text.specs.declared.verdicts.LogVerdict.{LogVerdict}
use Rattle.msrp_event_text.specs.declared.verdicts.LogVerdict.TheVariants.{Good, Fault, Unconfirmed, Incomplete}
use Rattle.msrp_event_text.specs.declared.verdicts.LogError.{LogError}
use Rattle.msrp_event_text.specs.declared.verdicts.LogError.TheVariants.{Head, Record, Read, Memory}

-- the first record is `msrp-log,1` and the number of the system's cores
abbrev pub is_number : ℕ → Option ℕ → Bool
is_number n None = false
is_number n (Some m) = m == n

-- the record is the first of a log of the system
abbrev pub is_head : PlanModel → List (List ℕ) → Bool
is_head system fields = (length fields == 3) && (has_word fields 0 (codes "msrp-log") && (has_word fields 1 (codes "1") && is_number system.cores (number_at fields 2)))

-- ---- whether a fault is certain
-- what is awaited of each core: before its first record its boot, and then the next number
abbrev pub no_numbers : PlanModel → List Awaited
no_numbers system = replicate system.cores awaited.Boot

-- what a core's next record is awaited to be
abbrev pub next_of : Option ℕ → Awaited
next_of None = awaited.Nothing
next_of (Some number) = awaited.After number

-- after some events: of a core whose log has begun the record after its last one
abbrev pub awaited_of : CoreLog → Awaited
awaited_of c = if c.booted then next_of c.number else awaited.Boot

-- of each core
abbrev pub awaited_in : LogState → List Awaited
awaited_in s = map awaited_of s.cores

-- what is awaited of each core after an event
abbrev pub numbers_with : List Awaited → Event → List Awaited
numbers_with cores e = set cores e.core.0 (next_of e.number)

-- a core's log begins
abbrev pub is_boot : Action → Bool
is_boot Boot = true
is_boot _ = false

-- the log says itself that records were lost
abbrev pub is_loss : Action → Bool
is_loss Lost = true
is_loss _ = false

-- an event shows that records of its core were lost before it
abbrev pub is_lost_since : Awaited → Event → Bool
is_lost_since awaited.Nothing e = false
is_lost_since awaited.Boot e = not (is_boot e.action)
is_lost_since (awaited.After last) e = is_loss e.action || is_gap (Some last) e.number

-- the event shows that records of its core were lost
abbrev pub is_lost : List Awaited → Event → Bool
is_lost cores e = is_lost_since (slice_index_or cores e.core.0 awaited.Nothing) e

-- the core has shown that none were, or doesn't number its records
abbrev pub told : List Awaited → Event → List Awaited
told cores e = set cores e.core.0 awaited.Nothing

-- nothing is awaited of the core
abbrev pub is_told : Awaited → Bool
is_told awaited.Nothing = true
is_told _ = false

-- nothing is awaited of any core
abbrev pub is_certain : List Awaited → Bool
is_certain cores = list_all is_told cores

-- what a record after the fault shows decides, and where it shows nothing the rest does
abbrev pub after_record : Result Bool LogError → Result LogVerdict LogError → Result LogVerdict LogError → Result LogVerdict LogError
after_record (Err error) gap rest = Err error
after_record (Ok true) gap rest = gap
after_record (Ok false) gap rest = rest

-- whether a record shows a loss; one that reports no event is refused
abbrev pub record_loses : List Awaited → ℕ → List (List ℕ) → Option Event → Result Bool LogError
record_loses cores at fields None = Err (Record (refusal_of fields) at)
record_loses cores at fields (Some e) = Ok (is_lost cores e)

-- the cores after a record that may report an event
abbrev pub told_by : List Awaited → Option Event → List Awaited
told_by cores None = cores
told_by cores (Some e) = told cores e

-- the verdict where a rule was violated at the record of that number, and these records follow:
-- a fault is certain once each other core that cores its records has shown one more, without gap
abbrev pub confirmed_from : PlanModel → LogRule → ℕ → ℕ → List Awaited → List (List (List ℕ)) → Result LogVerdict LogError
confirmed_from system rule number at cores [] = if is_certain cores then Ok (Fault rule number) else Ok (Unconfirmed rule number)
confirmed_from system rule number at cores (fields ∷ records) =
    if is_certain cores then Ok (Fault rule number) else
    after_record (record_loses cores at fields (event_of system fields)) (Ok (Incomplete missing.Records at)) (confirmed_from system rule number (at + 1) (told_by cores (event_of system fields)) records)

-- ---- the events
-- the verdict of a finding at the record of that number
abbrev pub settled : PlanModel → ℕ → List Awaited → List (List (List ℕ)) → Finding → Result LogVerdict LogError
settled system number cores records (finding.Incomplete what) = Ok (Incomplete what number)
settled system number cores records (finding.Fault rule) = confirmed_from system rule number (number + 1) cores records

-- a record shows that it is no event, or what the events so far show with its own, if they do
abbrev pub record_shows : PlanModel → Tolerances → ℕ → List Event → List (List ℕ) → Option Event → Result (Option Finding) LogError
record_shows system tolerances number events fields None = Err (Record (refusal_of fields) number)
record_shows system tolerances number events fields (Some e) = Ok (finding_in system tolerances (events ++ e ∷ []))

-- the events, and the cores of the last records, with one record more, if it is an event
abbrev pub events_with : List Event → Option Event → List Event
events_with events None = events
events_with events (Some e) = events ++ e ∷ []

-- what is awaited after a record that may report an event
abbrev pub numbers_by : List Awaited → Option Event → List Awaited
numbers_by cores None = cores
numbers_by cores (Some e) = numbers_with cores e

-- what the first record shows decides, and where it shows nothing the rest does
abbrev pub decided_or : Result (Option Finding) LogError → (Finding → Result LogVerdict LogError) → Result LogVerdict LogError → Result LogVerdict LogError
decided_or (Err error) settle rest = Err error
decided_or (Ok (Some found)) settle rest = settle found
decided_or (Ok None) settle rest = rest

-- the verdict on these records, the first of which has this number, after these events
abbrev pub verdict_from : PlanModel → Tolerances → ℕ → List Event → List Awaited → List (List (List ℕ)) → Result LogVerdict LogError
verdict_from system tolerances number events cores [] = Ok Good
verdict_from system tolerances number events cores (fields ∷ records) =
    decided_or (record_shows system tolerances number events fields (event_of system fields))
    (settled system number (told_by cores (event_of system fields)) records)
    (verdict_from system tolerances (number + 1) (events_with events (event_of system fields)) (numbers_by cores (event_of system fields)) records)

-- the verdict on the records of a log's rest after these events, with a head of its own
abbrev pub verdict_after : PlanModel → Tolerances → List Event → List Awaited → List (List (List ℕ)) → Result LogVerdict LogError
verdict_after system tolerances events cores [] = Err Head
verdict_after system tolerances events cores (head ∷ records) = if is_head system head then verdict_from system tolerances 2 events cores records else Err Head

-- the verdict on all records of a log
abbrev pub verdict_of : PlanModel → Tolerances → List (List (List ℕ)) → Result LogVerdict LogError
verdict_of system tolerances records = verdict_after system tolerances [] (no_numbers system) records

-- ---- the answer
abbrev pub error_at : Stopped → LogError
error_at stopped.Read = Read
error_at stopped.Memory = Memory

-- an answer is the verdict, but for a read that failed and for memory
abbrev pub Answers : Result LogVerdict LogError → Result LogVerdict LogError → Type 0
Answers answer verdict = (answer ≡ Err Read) ⊎ (answer ≡ Err Memory) ⊎ (answer ≡ verdict)
