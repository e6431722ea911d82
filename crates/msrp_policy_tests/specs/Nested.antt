-- The resources of the tests, nested.
use Rattle.std.specs.Prelude.{◌∷◌}
use Rattle.msrp_plan.specs.Common.{ℕ, zero, suc, List, []}

-- the first n, the innermost first
abbrev pub nested : ℕ → List ℕ
nested zero = []
nested (suc n) = n ∷ nested n
