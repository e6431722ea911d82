-- A record's row, part by part, in the order of the checks.
use Rattle.msrp_plan.specs.Common.{ℕ, List, Option, Some, None, Err, IsOkAnd, unwrap_or, PlanModel}
use Rattle.msrp_plan.specs.declared.rows.Row.{Row}
use Rattle.msrp_plan.specs.declared.rows.TextVersion.{TextVersion}
use Rattle.std.specs.Prelude.{◌≡◌, if◌then◌else◌, Result}
use Rattle.msrp_text.specs.Fields.{number_at}
use Rattle.msrp_trace.specs.Rows.{ahead_told, job_told, lacks_name, lacks_number, res_told, task_told}
use Rattle.msrp_trace.specs.declared.faults.TraceError.{TraceError}
use Rattle.msrp_trace.specs.declared.faults.TraceError.TheVariants.{At}
use Rattle.msrp_trace.specs.declared.faults.TraceFault.{TraceFault}
use Rattle.msrp_trace.specs.declared.rows.Names.{Names}
use Rattle.msrp_trace.specs.declared.rows.Numbers.{Numbers}

-- the numbers of a row, if all required ones are there
abbrev pub numbers_told : TextVersion → List (List ℕ) → Option Numbers
numbers_told version fields =
    if lacks_number version fields then None else Some (record { tick = unwrap_or (number_at fields 0) 0; core = unwrap_or (number_at fields 1) 0; job = unwrap_or (job_told fields) None; ahead = unwrap_or (ahead_told version fields) None })

-- the task and the resource of a row, if they are the plan's
abbrev pub names_told : PlanModel → List (List ℕ) → Option Names
names_told plan fields = if lacks_name plan fields then None else Some (record { task = unwrap_or (task_told plan fields) None; res = unwrap_or (res_told plan fields) None })

-- a record that violates a rule is refused with it; any other gives its row
abbrev pub Reads : Option TraceFault → Option Row → Result Row TraceFault → Type 0
Reads (Some fault) told result = result ≡ Err fault
Reads None told result = IsOkAnd result (λ r. told ≡ Some r)

-- a refused record has its number, any other gives its row
abbrev pub ReadsAt : ℕ → Option TraceFault → Option Row → Result Row TraceError → Type 0
ReadsAt number (Some fault) told result = result ≡ Err (At fault number)
ReadsAt number None told result = IsOkAnd result (λ r. told ≡ Some r)
