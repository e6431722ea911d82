-- One job's counts, row by row.
use Rattle.msrp_plan.specs.Common.{ℕ, List, Option, Some, None, not, fold, max, unwrap_or, ⊤, is_row_of, is_waiting, is_spin}
use Rattle.msrp_report.specs.Common.{JobId, Kind, Row}
use Rattle.msrp_plan.specs.declared.rows.Kind.TheVariants.{Queue, Spin, Grant}
use Rattle.std.specs.Prelude.{◌+◌, ◌^◌, ◌<◌, ◌≤◌, if◌then◌else◌, filter}
use Rattle.msrp_report.specs.declared.counts.JobCount.{JobCount}

-- the spins of the open wait, after a row of this kind
abbrev pub wait_with : Kind → Option ℕ → Option ℕ
wait_with Queue None = Some 0
wait_with Spin (Some n) = Some (n + 1)
wait_with Grant wait = None
wait_with _ wait = wait

-- one more spin can be counted
abbrev pub HasRoom : Option ℕ → Type 0
HasRoom None = ⊤
HasRoom (Some n) = n + 1 < 2 ^ 32

-- one more row can be counted
pub record CanCount (c : JobCount) : Type 0 where
  pub rows : c.rows + 1 < 2 ^ 32
  pub done : c.done + 1 < 2 ^ 32
  pub spins : c.spins + 1 < 2 ^ 32
  pub wait : HasRoom c.wait
  pub longest : unwrap_or c.wait 0 ≤ c.longest_wait

-- a job without a row
abbrev pub uncounted : JobCount
uncounted = record { rows = 0; done = 0; last_tick = 0; spins = 0; wait = None; longest_wait = 0 }

-- with one more spin
abbrev pub spun : JobCount → JobCount
spun c = record c { spins = c.spins + 1; wait = wait_with Spin c.wait; longest_wait = max c.longest_wait (unwrap_or (wait_with Spin c.wait) 0) }

-- with one more row of the job, of that tick and kind
abbrev pub counted_as : ℕ → Kind → JobCount → JobCount
counted_as tick kind c = record {
  rows = c.rows + 1;
  done = c.done + (if not (is_waiting kind) then 1 else 0);
  last_tick = tick;
  spins = c.spins + (if is_spin kind then 1 else 0);
  wait = wait_with kind c.wait;
  longest_wait = max c.longest_wait (unwrap_or (wait_with kind c.wait) 0);
}

-- with one more row of the job
abbrev pub counted : Row → JobCount → JobCount
counted r c = counted_as r.tick r.kind c

-- the job's counts over the rows
unfoldable pub count_of : List Row → JobId → JobCount
count_of rows j = fold (λ c r. counted r c) uncounted (filter (is_row_of j) rows)
