-- Rows that carry the number of jobs ahead, and rows that leave it out.
use Rattle.std.specs.Prelude.{List, Bool, ◌||◌, not, is_some, None, refl}
use Rattle.std.specs.List.{list_all}
use Rattle.msrp_plan.specs.Shape.{is_queue}
use Rattle.msrp_plan.specs.declared.rows.Row.{Row}

-- the row, if it is a queue row, carries the number of jobs ahead
abbrev pub carries_its_ahead : Row → Bool
carries_its_ahead r = not (is_queue r.kind) || is_some r.ahead

-- every queue row carries its ahead
abbrev pub carries_ahead : List Row → Bool
carries_ahead rows = list_all carries_its_ahead rows

-- the row without its ahead
abbrev pub without_ahead : Row → Row
without_ahead r = record r { ahead = None; carrier = refl }
