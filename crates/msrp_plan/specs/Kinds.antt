-- The kinds of rows.
use Rattle.std.specs.Prelude.{Bool, true, false}
use Rattle.msrp_plan.specs.declared.rows.Kind.{Kind}
use Rattle.msrp_plan.specs.declared.rows.Kind.TheVariants.{Idle, Run, Lock, Unlock, Take, Queue, Spin, Grant, Release}

-- whether two are the same
abbrev pub same_kind : Kind → Kind → Bool
same_kind Idle Idle = true
same_kind Run Run = true
same_kind Lock Lock = true
same_kind Unlock Unlock = true
same_kind Take Take = true
same_kind Queue Queue = true
same_kind Spin Spin = true
same_kind Grant Grant = true
same_kind Release Release = true
same_kind _ _ = false
