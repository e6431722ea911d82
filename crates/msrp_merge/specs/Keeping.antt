-- How a log stores a turn: without its tick and core, which the log knows, and with some value for
-- each part that a row of its kind lacks.
use Rattle.std.specs.Prelude.{◌∷◌}
use Rattle.msrp_plan.specs.Common.{ℕ, suc, List, [], true, false, Option, Some, None, ahead_of_kind, job_of_kind, res_of_kind}
use Rattle.msrp_plan.specs.Shape.{carrier_of_kind, shape_of_kind}
use Rattle.msrp_merge.specs.declared.kept.Kept.{Kept}
use Rattle.msrp_merge.specs.declared.kept.Touch.{Touch}
use Rattle.msrp_merge.specs.declared.kept.Touch.TheVariants.{Nothing, Step, Poll}
use Rattle.msrp_merge.specs.Common.{Place, Turn}

-- a turn that used no global resource has no place
abbrev pub place_of_touch : Touch → ℕ → Option Place
place_of_touch Nothing number = None
place_of_touch Step number = Some (record { number = number; polled = false })
place_of_touch Poll number = Some (record { number = number; polled = true })

-- the stored turn, of a core in a tick
abbrev pub turn_of : ℕ → ℕ → Kept → Turn
turn_of core tick e = record {
  row = record {
    tick = tick;
    core = record { 0 = core };
    kind = e.kind;
    job = job_of_kind e.kind e.job;
    res = res_of_kind e.kind e.res;
    ahead = ahead_of_kind e.kind e.carries e.ahead;
    shape = shape_of_kind e.kind e.job e.res;
    carrier = carrier_of_kind e.kind e.carries e.ahead;
  };
  place = place_of_touch e.touch e.number;
}

-- the turns of a core, tick by tick from this one on
abbrev pub turns_from : ℕ → ℕ → List Kept → List Turn
turns_from core tick [] = []
turns_from core tick (e ∷ kept) = turn_of core tick e ∷ turns_from core (suc tick) kept
