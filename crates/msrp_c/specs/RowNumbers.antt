-- The numbers of a row, and of its place.
use Rattle.msrp_plan.specs.Common.{ℕ, Option, Some, None, option_map}
use Rattle.msrp_plan.specs.declared.ids.JobId.{JobId}
use Rattle.msrp_plan.specs.declared.ids.ResId.{ResId}
use Rattle.msrp_plan.specs.declared.rows.Row.{Row}
use Rattle.msrp_merge.specs.declared.logs.Place.{Place}
use Rattle.msrp_c.specs.Turns.{kind_number, none_number}
use Rattle.msrp_c.specs.declared.turns.MsrpRow.{MsrpRow}

-- the greatest number where there is none
abbrev pub or_none_number : Option ℕ → ℕ
or_none_number None = none_number
or_none_number (Some number) = number

-- a row as numbers
abbrev pub numbers_of_row : Row → MsrpRow
numbers_of_row r = record {
  tick = r.tick;
  core = r.core.0;
  kind = kind_number r.kind;
  task = or_none_number (option_map (λ (j : JobId). j.task.0) r.job);
  job = or_none_number (option_map (λ (j : JobId). j.k) r.job);
  resource = or_none_number (option_map (λ (g : ResId). g.0) r.res);
  ahead = or_none_number r.ahead;
}

-- a place as a number
abbrev pub place_number : Option Place → ℕ
place_number place = or_none_number (option_map (λ (p : Place). p.number) place)
