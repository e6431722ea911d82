-- When the jobs of a task are released.
use Rattle.std.specs.Prelude.{ℕ, List, [], ◌∷◌, ◌++◌, All, Bool, true, false, ◌==◌, Option, Some, length, slice_get, ◌+◌, ◌*◌, ◌≤◌}
use Rattle.std.specs.List.Sorted.{IsStrictlyIncreasing}
use Rattle.msrp_plan.specs.Limits.{most_releases, longest_time}

-- once a period from an offset on (Liu and Layland 1973, the environment), or at listed ticks
pub data ReleaseTimes : Type 0 where
  Every : ℕ → ℕ → ReleaseTimes
  Listed : List ℕ → ReleaseTimes

-- the tick of the k-th release, if there is one: offset + k * period, or the k-th of the list
abbrev pub tick_of : ReleaseTimes → ℕ → Option ℕ
tick_of (Every period offset) k = Some (offset + k * period)
tick_of (Listed ticks) k = slice_get ticks k

-- the releases are a list, not a period and an offset
abbrev pub is_listed : ReleaseTimes → Bool
is_listed (Every period offset) = false
is_listed (Listed ticks) = true

-- the ticks of a list; a periodic task has none
abbrev pub listed_ticks : ReleaseTimes → List ℕ
listed_ticks (Every period offset) = []
listed_ticks (Listed ticks) = ticks

-- a list that has no tick yet
abbrev pub lacks_release : ReleaseTimes → Bool
lacks_release (Every period offset) = false
lacks_release (Listed ticks) = length ticks == 0

-- a list with one more tick
abbrev pub with_tick : ReleaseTimes → ℕ → ReleaseTimes
with_tick (Every period offset) tick = Every period offset
with_tick (Listed ticks) tick = Listed (ticks ++ tick ∷ [])

-- a period and an offset that a task may have
pub record ArePeriodic (period offset : ℕ) : Type 0 where
  pub positive : 1 ≤ period
  pub short : period ≤ longest_time
  pub soon : offset ≤ longest_time

-- ticks that a list may have: they rise
pub record AreListed (ticks : List ℕ) : Type 0 where
  pub few : length ticks ≤ most_releases
  pub soon : All (λ tick. tick ≤ longest_time) ticks
  pub rising : IsStrictlyIncreasing ticks

-- release times that a task may have
abbrev pub AreTimes : ReleaseTimes → Type 0
AreTimes (Every period offset) = ArePeriodic period offset
AreTimes (Listed ticks) = AreListed ticks
