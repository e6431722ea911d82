-- What an answer says of the single records.
use Rattle.std.specs.Prelude.{◌≡◌, ◌+◌, ◌-◌, ◌<◌, ◌≤◌}
use Rattle.msrp_plan.specs.Common.{ℕ, List, Some, None, length, slice_get, take, Option, PlanModel}
use Rattle.msrp_plan.specs.declared.faults.PlanFault.{PlanFault}
use Rattle.msrp_text.specs.Reading.{fault_after, plan_told}

-- the rule that a record violates, given the earlier ones: counted from 1, the end as one more
abbrev pub fault_of_record : List (List (List ℕ)) → ℕ → Option PlanFault
fault_of_record records number = fault_after (take (number - 1) records) (slice_get records (number - 1))

-- the record of that number violates that rule, and none before it violates any
pub record IsFirstRefused (records : List (List (List ℕ))) (fault : PlanFault) (number : ℕ) : Type 0 where
  pub counted : (1 ≤ number) × (number ≤ length records + 1)
  pub refused : fault_of_record records number ≡ Some fault
  pub before : (earlier : ℕ) → 1 ≤ earlier → earlier < number → fault_of_record records earlier ≡ None

-- no record violates a rule, nor does the end, and the plan is the records' plan
pub record IsAccepted (records : List (List (List ℕ))) (plan : PlanModel) : Type 0 where
  pub kept : (number : ℕ) → 1 ≤ number → number ≤ length records + 1 → fault_of_record records number ≡ None
  pub told : plan ≡ plan_told records
