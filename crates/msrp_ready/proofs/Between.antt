-- The elements of a list from one place up to another.
use Rattle.std.proofs.Common.{◌≡◌, ◌-◌, ◌≤◌, ◌∙◌}
use Rattle.msrp_plan.proofs.Common.{ℕ, List, take, drop, ap, sym, arith, drop-take}

-- as a slice has them
pub between_slice : {X : Type 0} (from until : ℕ) (xs : List X) → from ≤ until → take (until - from) (drop from xs) ≡ drop from (take until xs)
between_slice from until xs lower = sym (drop-take from (until - from) xs) ∙ ap (λ n. drop from (take n xs)) (omega arith)
