-- The rows of a text's records, and the first refusal.
use Rattle.std.specs.Prelude.{◌+◌}
use Rattle.msrp_plan.specs.Common.{ℕ, Bool, List, [], Option, Some, None, is_none, option_map, slice_get, drop, filter_map, prefix_len, option_and_then, PlanModel}
use Rattle.msrp_plan.specs.declared.rows.Row.{Row}
use Rattle.msrp_plan.specs.declared.rows.TextVersion.{TextVersion}
use Rattle.std.specs.List.{take_while}
use Rattle.msrp_trace.specs.Rows.{row_fault, row_told, version_told}
use Rattle.msrp_trace.specs.declared.faults.TraceError.{TraceError}
use Rattle.msrp_trace.specs.declared.faults.TraceError.TheVariants.{At}
use Rattle.msrp_trace.specs.declared.faults.TraceFault.TheVariants.{Head}

-- rows, and the refusal after them, if there is one
pub record Told : Type 0 where
  pub rows : List Row
  pub refusal : Option TraceError

-- a record violates no rule
abbrev pub is_row : TextVersion → PlanModel → List (List ℕ) → Bool
is_row version plan fields = is_none (row_fault version plan fields)

-- the refusal of a record by its number
abbrev pub refusal_at : TextVersion → PlanModel → ℕ → List (List ℕ) → Option TraceError
refusal_at version plan number fields = option_map (λ fault. At fault number) (row_fault version plan fields)

-- what the records after n say: the rows before the first that violates a rule, and its refusal
unfoldable pub told_after : TextVersion → PlanModel → ℕ → List (List (List ℕ)) → Told
told_after version plan number records = record {
  rows = filter_map (row_told version plan) (take_while (is_row version plan) records);
  refusal = option_and_then (refusal_at version plan (number + prefix_len (is_row version plan) records + 1)) (slice_get records (prefix_len (is_row version plan) records));
}

-- the version in the first record, if there is one
unfoldable pub version_of : PlanModel → List (List (List ℕ)) → Option TextVersion
version_of plan records = option_and_then (version_told plan) (slice_get records 0)

-- what the records say, if the first one has a version, or has none
abbrev pub told_by : PlanModel → Option TextVersion → List (List (List ℕ)) → Told
told_by plan None records = record { rows = []; refusal = Some (At Head 1) }
told_by plan (Some version) records = told_after version plan 1 (drop 1 records)

-- the rows of a trace's records before the first refused one, and its refusal, if there is one
unfoldable pub rows_of : PlanModel → List (List (List ℕ)) → Told
rows_of plan records = told_by plan (version_of plan records) records
