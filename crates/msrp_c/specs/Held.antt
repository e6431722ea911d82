-- What a handle holds.
use Rattle.msrp_plan.specs.Common.{Option, Some, None}
use Rattle.std.specs.Box.Ownership.{box_owns}
use base.Fml.{Fml, ftrue, ffalse}
use mir.Syntax.{Ty}
use denote.RattleType.{RattleType}
use denote.RawPtr.{Ptr, block_ptr, null_ptr}

-- the pointer is null
abbrev pub is_null : Ptr → Fml
is_null null_ptr = ftrue
is_null (block_ptr b o) = ffalse

-- nothing, and the pointer is null, or a box of this value
abbrev pub holds : (Ty → Ptr → Fml) → (R : RattleType) → Ptr → Option R.Denot → Fml
holds token R p None = is_null p
holds token R p (Some x) = box_owns token R p x
