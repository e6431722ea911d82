-- Which units a row of each kind does: the table of kinds, read from the kind.
use Rattle.msrp_plan.specs.Common.{Bool, true, false, allows}
use Rattle.msrp_plan.specs.declared.ids.ResId.{ResId}
use Rattle.msrp_plan.specs.declared.units.Op.{Op}
use Rattle.msrp_plan.specs.declared.rows.Kind.{Kind}
use Rattle.msrp_plan.specs.declared.rows.Kind.TheVariants.{Run, Lock, Unlock, Take, Queue, Spin, Grant, Release}
use Rattle.std.proofs.Common.{◌≡◌, refl}
use Rattle.msrp_plan.specs.declared.units.Op.TheVariants.{Run as RunUnit, Lock as LockUnit, Unlock as UnlockUnit}

-- a unit with a kind that it allows: whether its resource is global, and whether its job is queued
pub data StepOf (global queued : Bool) (op : Op) (kind : Kind) : Type 0 where
  Runs : op ≡ RunUnit → kind ≡ Run → StepOf global queued op kind
  Locks : (h : ResId) → op ≡ LockUnit h → kind ≡ Lock → global ≡ false → StepOf global queued op kind
  Unlocks : (h : ResId) → op ≡ UnlockUnit h → kind ≡ Unlock → global ≡ false → StepOf global queued op kind
  Takes : (h : ResId) → op ≡ LockUnit h → kind ≡ Take → global ≡ true → queued ≡ false → StepOf global queued op kind
  Queues : (h : ResId) → op ≡ LockUnit h → kind ≡ Queue → global ≡ true → queued ≡ false → StepOf global queued op kind
  Grants : (h : ResId) → op ≡ LockUnit h → kind ≡ Grant → global ≡ true → queued ≡ true → StepOf global queued op kind
  Spins : (h : ResId) → op ≡ LockUnit h → kind ≡ Spin → global ≡ true → queued ≡ true → StepOf global queued op kind
  Releases : (h : ResId) → op ≡ UnlockUnit h → kind ≡ Release → global ≡ true → StepOf global queued op kind

-- the table, by cases
pub step_of : (global queued : Bool) (op : Op) (kind : Kind) → allows global queued op kind ≡ true → StepOf global queued op kind
step_of global queued RunUnit Run e = Runs refl refl
step_of false queued (LockUnit h) Lock e = Locks h refl refl refl
step_of false queued (UnlockUnit h) Unlock e = Unlocks h refl refl refl
step_of true false (LockUnit h) Take e = Takes h refl refl refl refl
step_of true false (LockUnit h) Queue e = Queues h refl refl refl refl
step_of true true (LockUnit h) Grant e = Grants h refl refl refl refl
step_of true true (LockUnit h) Spin e = Spins h refl refl refl refl
step_of true queued (UnlockUnit h) Release e = Releases h refl refl refl
step_of _ _ _ _ e = absurd (cc)
