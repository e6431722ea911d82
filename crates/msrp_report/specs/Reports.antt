-- A report while rows arrive.
use Rattle.std.specs.Prelude.{◌≡◌, ◌≤◌, ◌++◌, ◌∷◌}
use Rattle.msrp_plan.specs.Common.{List, None, length, vec_capacity, [], fault_in, IsPlan}
use Rattle.msrp_report.specs.Common.{Row}
use Rattle.msrp_report.specs.Inside.Tallies.{HasTallied}
use Rattle.msrp_report.specs.declared.counter.Counter.{Counter}

-- these rows were counted, and have no fault: the counts of each job are theirs
pub record HasCounted (c : Counter) (rows : List Row) : Type 0 where
  pub accepted : IsPlan c.plan.now
  pub levels : c.levels.now ≡ c.plan.now
  pub told : HasTallied c.plan.now rows c.tallies
  pub lines : c.lines.items ≡ []
  pub room : length c.plan.now.tasks ≤ vec_capacity c.lines

-- some rows were counted
abbrev pub SomeCounted : Counter → Type 0
SomeCounted c = (rows : List Row) × HasCounted c rows

-- some rows were counted, and with this one more they have no fault
abbrev pub MayCount : Counter → Row → Type 0
MayCount c r = (rows : List Row) × HasCounted c rows × (fault_in c.plan.now (rows ++ r ∷ []) ≡ None)
