-- Two cores call one lock: core 0 requests and holds it at once; core 1 learns that one is ahead,
-- spins, and is granted it after core 0's release. The lock's view of the handover a tick later.
use Rattle.std.specs.Prelude.{ℕ, List, [], ◌∷◌, true, false}
use Rattle.msrp_plan.specs.declared.units.Call.{Call}
use Rattle.msrp_plan.specs.declared.units.Call.TheVariants.{Ask, Poll, Leave}

abbrev pub history : List (ℕ × Call)
history = (0, Ask 0) ∷ (1, Ask 1) ∷ (1, Poll false) ∷ (1, Poll false) ∷ (0, Leave) ∷ (1, Poll true) ∷ (1, Leave) ∷ []

-- core 1 is granted the lock while core 0 holds it
abbrev pub granted_too_soon : List (ℕ × Call)
granted_too_soon = (0, Ask 0) ∷ (1, Ask 1) ∷ (1, Poll true) ∷ []

-- core 1 learns that nobody is ahead
abbrev pub ahead_miscounted : List (ℕ × Call)
ahead_miscounted = (0, Ask 0) ∷ (1, Ask 0) ∷ []

-- core 1 releases what core 0 holds
abbrev pub left_by_another : List (ℕ × Call)
left_by_another = (0, Ask 0) ∷ (1, Ask 1) ∷ (1, Leave) ∷ []
