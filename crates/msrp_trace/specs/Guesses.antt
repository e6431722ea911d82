-- Guesses at a row's names: those of its core's last row.
use Rattle.msrp_plan.specs.Common.{ℕ, slice_index_or}
use Rattle.msrp_trace.specs.declared.guesses.Guess.{Guess}
use Rattle.msrp_trace.specs.declared.guesses.Guesses.{Guesses}
use Rattle.msrp_trace.specs.declared.guesses.TheConstants.{FIRST}

-- the guess at the names of a core's next row
abbrev pub guess_of : Guesses → ℕ → Guess
guess_of guesses core = slice_index_or guesses.of_core core FIRST
