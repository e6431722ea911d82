-- Rows that aren't legal; each list exceeds the bound of one law by one.
use Rattle.std.specs.Prelude.{List, [], ◌∷◌, ◌++◌}
use Rattle.msrp_plan.specs.Examples.Notation.{job, run, runs, lock, unlock, take, queue, spin, Row}

-- on two cores: while b waits, a takes the resource twice
abbrev pub overtaken_twice : List Row
overtaken_twice = queue 0 1 (job 1 0) 0 ∷ take 0 0 (job 0 0) 0 ∷ take 1 0 (job 0 0) 0 ∷ []

-- on two cores: a joins a queue with two jobs in it
abbrev pub third_in_the_queue : List Row
third_in_the_queue = take 0 0 (job 0 0) 0 ∷ queue 0 1 (job 1 0) 0 ∷ queue 1 0 (job 0 0) 0 ∷ []

-- b spins four times in one wait, where the bound is 3; once on another resource
abbrev pub four_spins : List Row
four_spins = queue 0 1 (job 1 0) 0 ∷ spin 1 1 (job 1 0) 0 ∷ spin 2 1 (job 1 0) 0 ∷ spin 3 1 (job 1 0) 0 ∷ spin 4 1 (job 1 0) 1 ∷ []

-- k makes 14 rows in its section after the first, where the bound is 13: one more in which it waits
abbrev pub long_section : List Row
long_section = lock 0 0 (job 0 0) 0 ∷ spin 1 0 (job 0 0) 0 ∷ runs 2 12 0 (job 0 0) ++ unlock 14 0 (job 0 0) 0 ∷ []

-- k makes 14 rows while j2 waits, where the bound is 13
abbrev pub long_blocking : List Row
long_blocking = lock 0 0 (job 0 0) 0 ∷ runs 1 14 0 (job 0 0)

-- k locks in tick 1, after a row of another job in tick 0
abbrev pub after_another_job : List Row
after_another_job = run 0 0 (job 1 0) ∷ lock 1 0 (job 0 0) 0 ∷ []

-- a requests in tick 5, and spins in a tick before it
abbrev pub queued_later : List Row
queued_later = queue 5 0 (job 0 0) 0 ∷ spin 2 0 (job 0 0) 0 ∷ []

-- encode works in tick 0 and locks in tick 1
abbrev pub worked_before : List Row
worked_before = run 0 0 (job 0 0) ∷ lock 1 0 (job 0 0) 0 ∷ []
