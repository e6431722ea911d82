-- What a fault says of the rows: which of them are legal, and what is wrong with the next one.
use Rattle.std.specs.Prelude.{List, ◌∷◌, ◌++◌, Some, length, ◌≡◌, ◌<◌, ◌+◌, ◌*◌, ◌⊎◌}
use Rattle.msrp_plan.specs.Plan.{PlanModel}
use Rattle.msrp_plan.specs.Runs.{IsRun, IsRunStart}
use Rattle.msrp_plan.specs.Verdict.{broken}
use Rattle.msrp_plan.specs.declared.faults.Fault.{Fault}
use Rattle.msrp_plan.specs.declared.faults.Rule.TheVariants.{A6, A7}
use Rattle.msrp_plan.specs.declared.rows.Row.{Row}

-- the rows before it are a legal start, not a whole run, and this is its lowest violated rule
pub record IsBroken (plan : PlanModel) (rows : List Row) (f : Fault) : Type 0 where
  pub before : List Row
  pub broke : Row
  pub behind : List Row
  pub place : rows ≡ before ++ broke ∷ behind
  pub start : IsRunStart plan before
  pub due : length before < plan.cores * plan.ticks
  pub number : f.row ≡ length before + 1
  pub rule : broken plan before broke ≡ Some f.rule

-- the rows are the start of a legal run that isn't whole: the first missing row is named
pub record IsCutShort (plan : PlanModel) (rows : List Row) (f : Fault) : Type 0 where
  pub start : IsRunStart plan rows
  pub due : length rows < plan.cores * plan.ticks
  pub number : f.row ≡ length rows + 1
  pub rule : f.rule ≡ A6

-- the rows before it are a legal run, and it is one too many, whatever it is
pub record IsOneTooMany (plan : PlanModel) (rows : List Row) (f : Fault) : Type 0 where
  pub before : List Row
  pub extra : Row
  pub behind : List Row
  pub place : rows ≡ before ++ extra ∷ behind
  pub run : IsRun plan before
  pub number : f.row ≡ length before + 1
  pub rule : f.rule ≡ A7

-- one of the three: a row that violates a rule, a missing row, a surplus row
abbrev pub IsFault : PlanModel → List Row → Fault → Type 0
IsFault plan rows f = IsBroken plan rows f ⊎ (IsCutShort plan rows f ⊎ IsOneTooMany plan rows f)
