-- Which calls a lock accepts and how it answers: four cores in its queue, and wrong histories.
use Rattle.std.specs.Prelude.{ℕ, List, [], ◌∷◌, true, false}
use Rattle.msrp_plan.specs.declared.units.Call.{Call}
use Rattle.msrp_plan.specs.declared.units.Call.TheVariants.{Ask, Poll, Leave}

-- three wait after the first, and are granted the lock in their order
abbrev pub three_waiting : List (ℕ × Call)
three_waiting = (2, Ask 0) ∷ (0, Ask 1) ∷ (3, Ask 2) ∷ (1, Ask 3) ∷ (1, Poll false) ∷ (2, Leave) ∷ (3, Poll false) ∷ (0, Poll true) ∷ (0, Leave) ∷ (3, Poll true) ∷ (1, Poll false) ∷ (3, Leave) ∷ (1, Poll true) ∷ []

-- core 1 releases what it wasn't granted, though it is first
abbrev pub left_ungranted : List (ℕ × Call)
left_ungranted = (0, Ask 0) ∷ (1, Ask 1) ∷ (0, Leave) ∷ (1, Leave) ∷ []

-- core 0 polls what it was granted at once
abbrev pub granted_twice : List (ℕ × Call)
granted_twice = (0, Ask 0) ∷ (0, Poll true) ∷ []

-- core 1 is first, and the answer says that it isn't
abbrev pub first_in_vain : List (ℕ × Call)
first_in_vain = (0, Ask 0) ∷ (1, Ask 1) ∷ (0, Leave) ∷ (1, Poll false) ∷ []

-- core 0 requests what it holds
abbrev pub asked_twice : List (ℕ × Call)
asked_twice = (0, Ask 0) ∷ (0, Ask 1) ∷ []

-- core 0 polls what it didn't request
abbrev pub polled_unasked : List (ℕ × Call)
polled_unasked = (0, Poll false) ∷ []
