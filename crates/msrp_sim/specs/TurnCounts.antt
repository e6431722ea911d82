-- The number of turns of each core.
use Rattle.std.specs.Prelude.{◌==◌, ◌≡◌, ◌<◌}
use Rattle.msrp_plan.specs.Common.{ℕ, List, [], count_by, length, slice_index_or, take, PlanModel, EachAfter, most_cores}
use Rattle.msrp_plan.specs.Scheduling.{IsDueInOrder}

-- each of the first n turns was still left to its core in the tick; each core's turns are counted
pub record AreCounted (plan : PlanModel) (cores : List ℕ) (n : ℕ) (turns : List ℕ) : Type 0 where
  pub size : length turns ≡ most_cores
  pub counts : (c : ℕ) → c < most_cores → slice_index_or turns c 0 ≡ count_by (λ d. d == c) (take n cores)
  pub each : EachAfter (IsDueInOrder plan) [] (take n cores)
