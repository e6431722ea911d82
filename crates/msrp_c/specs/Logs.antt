-- An auditor of a kernel's log that is fed event by event.
use Rattle.std.specs.Prelude.{◌≡◌, ◌↔◌}
use Rattle.msrp_plan.specs.Common.{ℕ, Bool, true, List, [], Option, Some, None, IsSomeAnd, ⊤, Result, PlanModel, Ok, Err}
use Rattle.msrp_event_audit.specs.Auditors.{AuditorModel, HasFed}
use Rattle.msrp_events.specs.declared.events.Event.{Event}
use Rattle.msrp_events.specs.declared.findings.Finding.{Finding as LogFinding}
use Rattle.msrp_events.specs.declared.findings.Finding.TheVariants.{Fault, Incomplete}
use Rattle.msrp_events.specs.declared.findings.LogRule.{LogRule}
use Rattle.msrp_events.specs.declared.findings.LogRule.TheVariants.{E1, E2, E3, E4, E5, E6, E7, E8, E9, E10}
use Rattle.msrp_events.specs.declared.findings.Missing.{Missing}
use Rattle.msrp_events.specs.declared.findings.Missing.TheVariants.{Core, Start, Restart, Records, Clock, Release, Request, Room}
use Rattle.msrp_events.specs.declared.states.Tolerances.{Tolerances}
use Rattle.msrp_c.specs.Answers.{Tells, nothing, told_as}
use Rattle.msrp_c.specs.Contents.{log_in}
use Rattle.msrp_c.specs.Feeding.{Finding}
use Rattle.msrp_c.specs.declared.answers.MsrpFound.{MsrpFound}
use Rattle.msrp_c.specs.declared.content.Content.{Content}
use Rattle.msrp_c.specs.declared.logs.MsrpTolerances.{MsrpTolerances}

-- the tolerances, from their numbers
abbrev pub tolerances_of : MsrpTolerances → Tolerances
tolerances_of t = record { operation = t.operation; slack = t.slack; skew = t.skew; backlog = t.backlog }

-- ---- what is told
-- the number after E of a rule
abbrev pub log_rule_number : LogRule → ℕ
log_rule_number E1 = 1
log_rule_number E2 = 2
log_rule_number E3 = 3
log_rule_number E4 = 4
log_rule_number E5 = 5
log_rule_number E6 = 6
log_rule_number E7 = 7
log_rule_number E8 = 8
log_rule_number E9 = 9
log_rule_number E10 = 10

-- the number of what is missing
abbrev pub missing_number : Missing → ℕ
missing_number Core = 1
missing_number Start = 2
missing_number Restart = 3
missing_number Records = 4
missing_number Clock = 5
missing_number Release = 6
missing_number Request = 7
missing_number Room = 8

-- the numbers and the status of what events show; after wrong use they show nothing
abbrev pub log_numbers : Option (Result ⊤ LogFinding) → MsrpFound
log_numbers (Some (Err (Fault rule))) = record nothing { rule = log_rule_number rule }
log_numbers (Some (Err (Incomplete missing))) = record nothing { trace_code = missing_number missing }
log_numbers _ = nothing

-- a good log, a fault, something missing, and wrong use
abbrev pub log_status : Option (Result ⊤ LogFinding) → ℕ
log_status (Some (Ok good)) = 0
log_status (Some (Err (Fault rule))) = 1
log_status (Some (Err (Incomplete missing))) = 2
log_status None = 3

-- a call answers with these numbers and this status
pub record TellsLog (what : Option (Result ⊤ LogFinding)) (found : MsrpFound) (status : ℕ) : Type 0 where
  pub numbers : found ≡ log_numbers what
  pub status_is : status ≡ log_status what

-- ---- a handle
-- an auditor of the system's logs that was fed these events
pub record IsFedLog (system : PlanModel) (tolerances : Tolerances) (events : List Event) (a : AuditorModel) : Type 0 where
  pub system_is : a.system ≡ system
  pub tolerances_are : a.tolerances ≡ tolerances
  pub fed : HasFed a events

-- the handle holds an auditor of logs that was fed these events
abbrev pub HoldsLog : PlanModel → Tolerances → List Event → Option Content → Type 0
HoldsLog system tolerances events held = IsSomeAnd (log_in held) (IsFedLog system tolerances events)

-- it holds an auditor of some system that was fed no event
pub record IsNewLog (tolerances : Tolerances) (held : Option Content) : Type 0 where
  pub system : PlanModel
  pub holds : HoldsLog system tolerances [] held

-- a handle that held nothing holds a new auditor if the status is 0, and otherwise still nothing;
-- the status is 5 exactly if the system's text is too long
pub record OpensLog (tolerances : Tolerances) (long : Bool) (held : Option Content) (found : MsrpFound) (status : ℕ) : Type 0 where
  pub what : Finding
  pub tells : Tells (told_as long what) found status
  pub new : status ≡ 0 → IsNewLog tolerances held
  pub none : (status ≡ 0 → ⊥) → held ≡ None
  pub too_long : (status ≡ 5) ↔ (long ≡ true)
