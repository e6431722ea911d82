-- The rows of one core, or on one resource, among all rows, and the orders of the cores' turns.
use Rattle.std.specs.Prelude.{ℕ, List, Bool, ◌==◌, ◌≡◌, ◌≢◌, true, false, filter, map, length, ◌<◌, ◌/◌, []}
use Rattle.std.specs.List.{flat_map, range_with_len, AllByRecursion}
use Rattle.msrp_plan.specs.Plan.{PlanModel}
use Rattle.msrp_plan.specs.Queues.{is_on}
use Rattle.msrp_plan.specs.Runs.{EachAfter, IsCoreTurn, CoreRun, is_fifo_reply}
use Rattle.msrp_plan.specs.declared.rows.Row.{Row}

-- the row is one of this core
abbrev pub is_of : ℕ → Row → Bool
is_of c r = r.core.0 == c

-- the log of a core: its rows, in order
abbrev pub log_of : ℕ → List Row → List Row
log_of c rows = filter (is_of c) rows

-- the rows on a resource, in order
abbrev pub rows_on : ℕ → List Row → List Row
rows_on g rows = filter (λ r. is_on g r.res) rows

-- the rows are of different cores, and not on one resource
pub record AreApart (r s : Row) : Type 0 where
  pub cores : r.core.0 ≢ s.core.0
  pub resources : (g : ℕ) → is_on g r.res ≡ true → is_on g s.res ≡ false

-- the cores in the order of their turns
abbrev pub core_order : List Row → List ℕ
core_order rows = map (λ r. r.core.0) rows

-- the cores in rising order, once in each of n ticks
abbrev pub ascending : ℕ → ℕ → List ℕ
ascending cores ticks = flat_map (λ t. range_with_len 0 cores) (range_with_len 0 ticks)

-- the row is the next one of a core that has had one turn in each full tick so far
pub record IsNextTurn (plan : PlanModel) (pre : List Row) (r : Row) : Type 0 where
  pub core : r.core.0 < plan.cores
  pub due : length (log_of r.core.0 pre) ≡ length pre / plan.cores
  pub turn : IsCoreTurn plan r.core.0 (log_of r.core.0 pre) r
  pub reply : is_fifo_reply pre r ≡ true

-- the runs of the cores, put together: each core's log is a run of it, and each row is in the
-- expected tick, for any order of the cores in a tick and any replies of the global resources
pub record AreInterleaved (plan : PlanModel) (rows : List Row) : Type 0 where
  pub runs : (c : ℕ) → c < plan.cores → CoreRun plan c (log_of c rows)
  pub cores : AllByRecursion (λ r. r.core.0 < plan.cores) rows
  pub ticks : EachAfter (λ pre r. r.tick ≡ length pre / plan.cores) [] rows
