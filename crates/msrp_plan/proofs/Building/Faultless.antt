-- What the builder's tests say where they find no fault.
use Rattle.msrp_plan.specs.Common.{ℕ, nat_le, Bool, true, false, List, [], Option, Some, None, is_within}
use Rattle.msrp_plan.specs.declared.faults.PlanFault.{PlanFault}
use Rattle.std.proofs.Common.{◌≡◌, ◌≤◌, ◌∷◌, refl, sym}
use Rattle.std.proofs.lemmas.Bool.{and_parts, leb-true}
use Rattle.std.proofs.lemmas.Option.{none-some}
use Rattle.msrp_plan.specs.Building.{fault_if, first_fault, is_none_held}

-- no fault: the test fails, and the rest finds none
pub fails : (test : Bool) (fault : PlanFault) (rest : Option PlanFault) → fault_if test fault rest ≡ None → (test ≡ false) × (rest ≡ None)
fails true fault rest e = absurd (none-some fault (sym e))
fails false fault rest e = (refl, e)

-- neither of two has a fault
pub neither : (first rest : Option PlanFault) → first_fault first rest ≡ None → (first ≡ None) × (rest ≡ None)
neither None rest e = (refl, e)
neither (Some fault) rest e = absurd (none-some fault (sym e))

-- a number in its range
pub within : (low high n : ℕ) → is_within low high n ≡ true → (low ≤ n) × (n ≤ high)
within low high n e = let parts = and_parts (nat_le low n) (nat_le n high) e in (leb-true low n parts.0, leb-true n high parts.1)

-- what holds nothing
pub none_held : (held : Option (List ℕ)) → is_none_held held ≡ true → held ≡ Some []
none_held None e = absurd (cc)
none_held (Some []) e = refl
none_held (Some (g ∷ held)) e = absurd (cc)
