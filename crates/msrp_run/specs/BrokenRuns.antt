-- A board that no run leaves: its only core has requested the resource, in the last of 6 ticks.
use Rattle.std.specs.Prelude.{◌∷◌}
use Rattle.msrp_plan.specs.Common.{[], false, true}
use Rattle.msrp_plan.specs.declared.units.Call.TheVariants.{Ask}
use Rattle.msrp_run.specs.Common.{Opened, WholeBoard}
use Rattle.msrp_board.specs.BrokenBoards.{step}
use Rattle.msrp_board.specs.Words.{ticket_word}

abbrev pub one_request : WholeBoard
one_request = record {
  size = record { cores = 1; resources = 1; ticks = 6 };
  tickets = ticket_word 1 0 ∷ [];
  barrier = 6;
  books = record { entries = step 0 0 (Ask 0) ∷ []; tick = 5; admitted = true; stopped = false } ∷ [];
  conductor = Opened;
}
