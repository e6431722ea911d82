-- The handover within a tick with replies to wrong questions: the action is wrong, not the reply.
use Rattle.std.specs.Prelude.{List}
use Rattle.msrp_plan.specs.Examples.Notation.{job, take, spin, changed, Row}
use Rattle.msrp_plan.specs.Examples.HandoverWithinATick.{rows}

-- b, which is queued, requests the resource again
abbrev pub taken_while_queued : List Row
taken_while_queued = changed rows 4 (take 1 1 (job 1 0) 0)

-- a polls before it has requested
abbrev pub spun_unasked : List Row
spun_unasked = changed rows 1 (spin 0 0 (job 0 0) 0)
