-- Texts and plans of the worked examples.
use Rattle.msrp_plan.specs.Common.{ℕ, List, [], codes, replicate, Err, PlanModel, Every, Listed}
use Rattle.msrp_plan.specs.declared.faults.PlanFault.{PlanFault}
use Rattle.std.specs.Prelude.{◌∷◌, ◌++◌, Result}
use Rattle.msrp_plan.specs.declared.units.Op.TheVariants.{Run, Lock, Unlock}
use Rattle.msrp_text.specs.declared.reading.TextError.{TextError}
use Rattle.msrp_text.specs.declared.reading.TextError.TheVariants.{At}

-- task a on core 0, with period and deadline 3 and two units of work
abbrev pub one_task_plan : PlanModel
one_task_plan = record {
  cores = 1;
  ticks = 3;
  resources = [];
  tasks = record { name = codes "a"; core = 0; times = Every 3 0; deadline = 3; units = replicate 2 Run } ∷ [];
}

-- task a on core 0, with period 7, deadline 5 and offset 2 and one unit of work
abbrev pub offset_plan : PlanModel
offset_plan = record {
  cores = 1;
  ticks = 9;
  resources = [];
  tasks = record { name = codes "a"; core = 0; times = Every 7 2; deadline = 5; units = Run ∷ [] } ∷ [];
}

-- task a on core 0, with deadline 4 and one unit of work, released in ticks 1 and 3
abbrev pub listed_plan : PlanModel
listed_plan = record {
  cores = 1;
  ticks = 5;
  resources = [];
  tasks = record { name = codes "a"; core = 0; times = Listed (1 ∷ 3 ∷ []); deadline = 4; units = Run ∷ [] } ∷ [];
}

-- task a on core 0 works inside a lock of r
abbrev pub locking_plan : PlanModel
locking_plan = record {
  cores = 1;
  ticks = 9;
  resources = codes "r" ∷ [];
  tasks = record { name = codes "a"; core = 0; times = Every 9 0; deadline = 9; units = Lock (record { 0 = 0 }) ∷ Run ∷ Unlock (record { 0 = 0 }) ∷ [] } ∷ [];
}

-- the first three records of version 2, for one core and five ticks
abbrev pub listed_head : List ℕ
listed_head = codes "msrp,2\ncores,1\nticks,5\n"

-- a listed task without units after them
abbrev pub bare_list : List ℕ
bare_list = listed_head ++ codes "listed,a,0,4\n"

-- the first three records, for one core and nine ticks
abbrev pub head : List ℕ
head = codes "msrp,1\ncores,1\nticks,9\n"

-- a refusal of the record of that number
abbrev pub refused : PlanFault → ℕ → Result PlanModel TextError
refused fault number = Err (At fault number)
