-- Kinds of rows.
use Rattle.msrp_plan.specs.Common.{true, same_kind}
use Rattle.msrp_plan.specs.declared.rows.Kind.{Kind}
use Rattle.msrp_plan.specs.declared.rows.Kind.TheVariants.{Idle, Run, Lock, Unlock, Take, Queue, Spin, Grant, Release}
use Rattle.std.proofs.Common.{◌≡◌, refl}

-- those that are tested to be the same are the same
pub same_kind_is : (k l : Kind) → same_kind k l ≡ true → k ≡ l
same_kind_is Idle Idle e = refl
same_kind_is Run Run e = refl
same_kind_is Lock Lock e = refl
same_kind_is Unlock Unlock e = refl
same_kind_is Take Take e = refl
same_kind_is Queue Queue e = refl
same_kind_is Spin Spin e = refl
same_kind_is Grant Grant e = refl
same_kind_is Release Release e = refl
same_kind_is _ _ e = absurd (cc)
