-- The pieces of an audit: which rule each finds violated by a row, and which fault it reports.
use Rattle.std.specs.Prelude.{◌∷◌, ◌++◌, ◌==◌, ◌&&◌, ◌≡◌, ◌≤◌, ◌+◌, ◌-◌, ◌*◌, ◌/◌, if◌then◌else◌}
use Rattle.msrp_plan.specs.Common.{ℕ, List, Bool, nat_lt, nat_le, Option, Some, None, IfSome, fold, length, PlanModel, is_global, is_of, is_on, IsRunStart, is_in_turn, is_of_core, is_chosen, is_next_action, is_fifo_reply}
use Rattle.msrp_plan.specs.declared.faults.Fault.{Fault}
use Rattle.msrp_plan.specs.declared.faults.Rule.{Rule}
use Rattle.msrp_plan.specs.declared.faults.Rule.TheVariants.{A1, A2, A3, A4, A5, A6, A7}
use Rattle.msrp_plan.specs.declared.rows.Row.{Row}
use Rattle.msrp_audit.specs.declared.pieces.Piece.{Piece}
use Rattle.msrp_audit.specs.declared.pieces.Piece.TheVariants.{Turns, Core, Resource}

-- ---- the list of the pieces
-- the rows of this many ticks are one piece
abbrev pub ticks_a_piece : ℕ
ticks_a_piece = 1250

-- the number of parts of the ticks; the last may be empty
abbrev pub parts : PlanModel → ℕ
parts plan = plan.ticks / ticks_a_piece + 1

-- a piece for each core, each part of the ticks, and each resource
abbrev pub pieces_of : PlanModel → ℕ
pieces_of plan = plan.cores + parts plan + length plan.resources

-- the piece of a number: those of the cores are first, and those of the resources last
abbrev pub piece_with : PlanModel → ℕ → Piece
piece_with plan n =
    if nat_lt n plan.cores then Core (record { 0 = n })
    else if nat_lt (n - plan.cores) (parts plan) then Turns (n - plan.cores)
    else Resource (record { 0 = n - plan.cores - parts plan })

-- ---- what a piece finds of a row
-- the rows of a part of the ticks, where each core has its turn in each tick
abbrev pub part_size : PlanModel → ℕ
part_size plan = plan.cores * ticks_a_piece

-- the n-th row is in this part
abbrev pub is_in_part : PlanModel → ℕ → ℕ → Bool
is_in_part plan part n = nat_le (part * part_size plan) n && nat_lt n (part * part_size plan + part_size plan)

-- A1, of the rows of a part of the ticks
abbrev pub broken_turn : PlanModel → ℕ → List Row → Row → Option Rule
broken_turn plan part pre r = if is_in_part plan part (length pre) then (if is_in_turn plan pre r then None else Some A1) else None

-- the lowest of A2 to A4
abbrev pub broken_action : PlanModel → List Row → Row → Option Rule
broken_action plan pre r =
    if is_of_core plan r then (if is_chosen plan pre r then (if is_next_action plan pre r then None else Some A4) else Some A3) else Some A2

-- of the rows of a core that are in their turn
abbrev pub broken_on_core : PlanModel → ℕ → List Row → Row → Option Rule
broken_on_core plan c pre r = if is_of c r && is_in_turn plan pre r then broken_action plan pre r else None

-- A5, of the rows on a global resource
abbrev pub broken_reply : PlanModel → ℕ → List Row → Row → Option Rule
broken_reply plan g pre r = if is_global plan g && is_on g r.res then (if is_fifo_reply pre r then None else Some A5) else None

-- the rule that a row violates, as the piece finds it
abbrev pub broken_in : PlanModel → Piece → List Row → Row → Option Rule
broken_in plan (Turns part) pre r = broken_turn plan part pre r
broken_in plan (Core c) pre r = broken_on_core plan c.0 pre r
broken_in plan (Resource g) pre r = broken_reply plan g.0 pre r

-- ---- what a piece answers
-- the rule that the fault, if there is one, names at this row
abbrev pub told_at : ℕ → Option Fault → Option Rule
told_at n None = None
told_at n (Some f) = if f.row == n then Some f.rule else None

-- after the start of a legal run, the answer is the rule that the test finds violated next, if any
pub record TellsFirst (plan : PlanModel) (test : List Row → Row → Option Rule) (rows : List Row) (answer : Option Fault) : Type 0 where
  pub told : (pre : List Row) (r : Row) (post : List Row) → rows ≡ pre ++ r ∷ post → IsRunStart plan pre → told_at (length pre + 1) answer ≡ test pre r
  pub row : IfSome answer (λ f. (1 ≤ f.row) × (f.row ≤ length rows))

-- ---- the first of the answers
abbrev pub rule_number : Rule → ℕ
rule_number A1 = 1
rule_number A2 = 2
rule_number A3 = 3
rule_number A4 = 4
rule_number A5 = 5
rule_number A6 = 6
rule_number A7 = 7

-- faults in order: by row, and in a row by rule
abbrev pub fault_order : Fault → ℕ
fault_order f = f.row * 8 + rule_number f.rule

-- the earlier of two faults, if any
abbrev pub earlier_of : Option Fault → Option Fault → Option Fault
earlier_of (Some f) (Some g) = if nat_lt (fault_order g) (fault_order f) then Some g else Some f
earlier_of (Some f) None = Some f
earlier_of None o = o

-- the earliest of some faults
abbrev pub earliest_of : List (Option Fault) → Option Fault
earliest_of faults = fold earlier_of None faults

-- the fault of a length, given the rows of a run: a row is missing, or there is one too many
abbrev pub length_fault_of : ℕ → ℕ → Option Fault
length_fault_of due rows =
    if nat_lt rows due then Some (record { row = rows + 1; rule = A6 })
    else if nat_lt due rows then Some (record { row = due + 1; rule = A7 })
    else None
