-- What a core has to do with the global resources: it holds or awaits at most one.
use Rattle.std.specs.Prelude.{List, Option, Some, fold}
use Rattle.msrp_plan.specs.declared.ids.ResId.{ResId}
use Rattle.msrp_plan.specs.declared.rows.Kind.{Kind}
use Rattle.msrp_plan.specs.declared.rows.Kind.TheVariants.{Take, Queue, Spin, Grant, Release}
use Rattle.msrp_plan.specs.declared.rows.Row.{Row}
use Rattle.msrp_plan.specs.declared.units.Phase.{Phase}
use Rattle.msrp_plan.specs.declared.units.Phase.TheVariants.{Free, Queued, Holding}

-- the phase after a row of this kind on this resource: a request is granted at once or queued, a
-- poll is granted or not, a release frees, and any other row leaves the phase as it is
abbrev pub phase_with : Phase → Kind → Option ResId → Phase
phase_with phase Take (Some g) = Holding g
phase_with phase Grant (Some g) = Holding g
phase_with phase Queue (Some g) = Queued g
phase_with phase Spin (Some g) = Queued g
phase_with phase Release (Some g) = Free
phase_with phase _ _ = phase

-- the phase that the rows of a core's log leave it in
abbrev pub phase_after : List Row → Phase
phase_after log = fold (λ phase r. phase_with phase r.kind r.res) Free log
