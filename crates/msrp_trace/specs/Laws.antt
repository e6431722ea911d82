-- Written rows, as they are read.
use Rattle.std.specs.Prelude.{◌&&◌}
use Rattle.msrp_plan.specs.Common.{ℕ, Bool, true, is_none, nat_lt, Option, Some, None, carries_its_ahead, without_ahead, PlanModel}
use Rattle.msrp_plan.specs.declared.ids.JobId.{JobId}
use Rattle.msrp_plan.specs.declared.rows.Row.{Row}
use Rattle.msrp_plan.specs.declared.rows.TextVersion.{TextVersion}
use Rattle.msrp_plan.specs.declared.rows.TextVersion.TheVariants.{V1, V2}
use Rattle.msrp_trace.specs.TraceText.{is_named}

-- a number of at most nine digits
abbrev pub is_short : ℕ → Bool
is_short n = nat_lt n 1000000000

-- the job's number, if there is one, has at most nine digits
abbrev pub has_short_job : Option JobId → Bool
has_short_job None = true
has_short_job (Some j) = is_short j.k

-- the ahead, if there is one, has at most nine digits
abbrev pub has_short_ahead : Option ℕ → Bool
has_short_ahead None = true
has_short_ahead (Some n) = is_short n

-- each number of the row is short
abbrev pub has_short_numbers : Row → Bool
has_short_numbers r = is_short r.tick && (is_short r.core.0 && (has_short_job r.job && has_short_ahead r.ahead))

-- the row read where this one was written: version 1 omits its ahead
abbrev pub as_read : TextVersion → Row → Row
as_read V1 r = without_ahead r
as_read V2 r = r

-- the row's ahead fits its version: none in version 1, one in each queue row in version 2
abbrev pub has_told_ahead : TextVersion → Row → Bool
has_told_ahead V1 r = is_none r.ahead
has_told_ahead V2 r = carries_its_ahead r

-- the row is read as it was written
abbrev pub is_told_whole : TextVersion → PlanModel → Row → Bool
is_told_whole version plan r = is_named plan r && (has_short_numbers r && has_told_ahead version r)
