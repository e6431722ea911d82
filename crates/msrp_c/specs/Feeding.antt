-- An auditor that is fed row by row.
use Rattle.std.specs.Prelude.{◌≡◌, ◌≢◌, ◌++◌, ◌∷◌, ◌+◌, ◌*◌, ◌<◌, ◌≤◌}
use Rattle.msrp_plan.specs.Common.{[], ℕ, Bool, List, Option, Some, None, map, length, true, false, IsSomeAnd, ⊤, Result, PlanModel, fault_in, is_in_turn, Ok, Err}
use Rattle.msrp_audit.specs.Audits.{AuditorModel, HasFed, IsDueRow, has_turn}
use Rattle.msrp_sim.specs.Cores.{IsNextRow}
use Rattle.msrp_faults.specs.declared.faults.CliFault.{CliFault}
use Rattle.msrp_plan.specs.declared.faults.Fault.{Fault}
use Rattle.msrp_plan.specs.declared.rows.Row.{Row}
use Rattle.msrp_c.specs.Contents.{auditor_in}
use Rattle.msrp_c.specs.RowNumbers.{numbers_of_row}
use Rattle.msrp_c.specs.Turns.{finding_of_turns, row_of, told_in}
use Rattle.msrp_c.specs.declared.content.Content.{Content}
use Rattle.msrp_c.specs.declared.held.BrokenRow.{BrokenRow}
use Rattle.msrp_c.specs.declared.held.FedAuditor.{FedAuditor}
use Rattle.msrp_c.specs.declared.turns.MsrpRow.{MsrpRow}

-- what may be found in turns
abbrev pub Finding : Type 0
Finding = Result (Result ⊤ Fault) CliFault

-- nothing is wrong so far
abbrev pub is_good : Finding → Bool
is_good (Ok (Ok good)) = true
is_good (Ok (Err fault)) = false
is_good (Err fault) = false

-- what is found in turns of the plan as rows so far, and as a whole trace
abbrev pub found_so_far : PlanModel → List MsrpRow → Finding
found_so_far plan turns = finding_of_turns true (Ok plan) turns

abbrev pub found_whole : PlanModel → List MsrpRow → Finding
found_whole plan turns = finding_of_turns false (Ok plan) turns

-- ---- an auditor
-- these turns are rows without a fault, and the auditor was fed them
pub record AreGood (plan : PlanModel) (turns : List MsrpRow) (auditor : AuditorModel) : Type 0 where
  pub rows : List Row
  pub read : map (row_of plan) turns ≡ map (λ r. Ok r) rows
  pub fed : HasFed auditor rows
  pub good : fault_in plan rows ≡ None
  pub few : length rows ≤ plan.cores * plan.ticks

-- this is found in the turns; if it isn't good, more turns don't change it
pub record IsFound (plan : PlanModel) (turns : List MsrpRow) (auditor : AuditorModel) (found : Finding) : Type 0 where
  pub so_far : found ≡ found_so_far plan turns
  pub stays : (found ≡ Ok (Ok tt) → ⊥) → (more : List MsrpRow) → (found ≡ found_so_far plan (turns ++ more)) × (found ≡ found_whole plan (turns ++ more))
  pub goes_on : found ≡ Ok (Ok tt) → AreGood plan turns auditor

-- what one more turn, of this number, does to an auditor
abbrev pub Steps : PlanModel → AuditorModel → MsrpRow → ℕ → AuditorModel → Finding → Type 0
Steps plan old turn number new found = (turns : List MsrpRow) → old.plan ≡ plan → AreGood plan turns old → number ≡ length turns + 1 → IsFound plan (turns ++ turn ∷ []) new found

-- a row after these turns has this fault; if it is in its turn, the expected row of its core comes
-- with it
pub record IsBrokenAfter (plan : PlanModel) (turns : List MsrpRow) (turn : MsrpRow) (fault : Fault) (b : BrokenRow) : Type 0 where
  pub rows : List Row
  pub read : map (row_of plan) turns ≡ map (λ r. Ok r) rows
  pub row : Ok b.row ≡ row_of plan turn
  pub breaks : fault_in plan (rows ++ b.row ∷ []) ≡ Some fault
  pub told : b.broken.fault ≡ fault
  pub due : length rows < plan.cores * plan.ticks → is_in_turn plan rows b.row ≡ true → IsSomeAnd b.broken.expected (IsNextRow plan rows b.row.core.0)

-- what an auditor that was fed good rows reports of a row that isn't
abbrev pub Breaks : PlanModel → AuditorModel → MsrpRow → Finding → Option BrokenRow → Type 0
Breaks plan old turn found broken = (turns : List MsrpRow) → old.plan ≡ plan → AreGood plan turns old → (fault : Fault) → found ≡ Ok (Err fault) → IsSomeAnd broken (IsBrokenAfter plan turns turn fault)

-- so it is with one of these turns
pub record IsBrokenIn (plan : PlanModel) (turns : List MsrpRow) (fault : Fault) (b : BrokenRow) : Type 0 where
  pub before : List MsrpRow
  pub turn : MsrpRow
  pub behind : List MsrpRow
  pub place : turns ≡ before ++ turn ∷ behind
  pub is : IsBrokenAfter plan before turn fault b

-- an auditor of the plan that was fed these turns
pub record IsFed (plan : PlanModel) (turns : List MsrpRow) (a : FedAuditor) : Type 0 where
  pub plan_is : a.auditor.plan ≡ plan
  pub is : IsFound plan turns a.auditor a.verdict
  pub count : a.verdict ≡ Ok (Ok tt) → a.judged ≡ length turns
  pub broken : (fault : Fault) → a.verdict ≡ Ok (Err fault) → IsSomeAnd a.broken (IsBrokenIn plan turns fault)

-- ---- the row that is due
-- these turns are rows, after which this one is due of the core
pub record IsDueAfter (plan : PlanModel) (turns : List MsrpRow) (core : ℕ) (due : Row) : Type 0 where
  pub rows : List Row
  pub read : map (row_of plan) turns ≡ map (λ r. Ok r) rows
  pub is : IsDueRow plan rows core due

-- these are its numbers
pub record TellsDue (plan : PlanModel) (turns : List MsrpRow) (core : ℕ) (numbers : MsrpRow) : Type 0 where
  pub due : Row
  pub is : IsDueAfter plan turns core due
  pub numbers_are : numbers ≡ numbers_of_row due

-- these turns are the start of a legal run and no whole one, and the core has its turn still to
-- come in the tick that is due
pub record HasDue (plan : PlanModel) (turns : List MsrpRow) (core : ℕ) : Type 0 where
  pub good : found_so_far plan turns ≡ Ok (Ok tt)
  pub more : found_whole plan turns ≢ Ok (Ok tt)
  pub turn : has_turn plan (told_in (map (row_of plan) turns)).rows core ≡ true

-- ---- a handle
-- it holds an auditor of the plan that was fed these turns
abbrev pub HoldsFed : PlanModel → List MsrpRow → Option Content → Type 0
HoldsFed plan turns held = IsSomeAnd (auditor_in held) (IsFed plan turns)
