-- A worked merge of steps on two resources in a tick: two cores' logs, with the board's places.
use Rattle.std.specs.Prelude.{◌∷◌}
use Rattle.msrp_plan.specs.Common.{List, []}
use Rattle.msrp_merge.specs.Common.{JobId}
use Rattle.msrp_plan.specs.Examples.Notation.{job, idle, run, take, release}
use Rattle.msrp_merge.specs.Handover.{quiet, at}
use Rattle.msrp_merge.specs.Turns.{LogModel}

abbrev a : JobId
a = job 0 0

abbrev b : JobId
b = job 1 0

-- each core takes and releases both resources, core 0 in their order
abbrev pub logs : List LogModel
logs =
    record {
      core = 0;
      ticks = 5;
      turns = at 0 (take 0 0 a 0) ∷ quiet (run 1 0 a) ∷ at 1 (release 2 0 a 0) ∷ at 2 (take 3 0 a 1) ∷ at 3 (release 4 0 a 1) ∷ [];
    }
    ∷ record {
      core = 1;
      ticks = 5;
      turns = at 0 (take 0 1 b 1) ∷ at 1 (release 1 1 b 1) ∷ at 2 (take 2 1 b 0) ∷ at 3 (release 3 1 b 0) ∷ quiet (idle 4 1) ∷ [];
    }
    ∷ []
