-- What the readers of a core's seat tell is what its calls want.
use Rattle.std.proofs.Common.{◌≡◌, ◌∙◌}
use Rattle.msrp_plan.proofs.Common.{ℕ, Bool, false, sym}
use Rattle.msrp_plan.specs.declared.units.Phase.{Phase}
use Rattle.msrp_board.specs.declared.answers.SeatPhase.{SeatPhase}
use Rattle.msrp_board.specs.declared.answers.SeatPhase.TheVariants.{Admitted}
use Rattle.msrp_board.specs.declared.books.Book.{Book}
use Rattle.msrp_board.specs.Books.{phase_in, has_acted, lock_of}
use Rattle.msrp_board.specs.Seats.{BoardModel, SeatModel, IsCoreSeat, IsCoreSeatOn, MayAct}

pub may_step : (board : BoardModel) (seat : SeatModel) (phase : SeatPhase) (acted : Bool) (lock told : Phase) → IsCoreSeatOn board seat → ((c : ℕ) (b : Book) → IsCoreSeat seat c b → phase ≡ phase_in seat.board.size.ticks b) → phase ≡ Admitted
    → ((c : ℕ) (b : Book) → IsCoreSeat seat c b → acted ≡ has_acted b) → acted ≡ false → ((c : ℕ) (b : Book) → IsCoreSeat seat c b → told ≡ lock_of b) → told ≡ lock → MayAct lock seat
may_step board seat phase acted lock told s stands let_in quiet none claims is = record {
  at = record { core = s.core.0; book = s.core.1; of_core = s.core.2; stands = sym (stands s.core.0 s.core.1 s.core.2) ∙ let_in };
  quiet = sym (quiet s.core.0 s.core.1 s.core.2) ∙ none;
  claims = sym (claims s.core.0 s.core.1 s.core.2) ∙ is;
}
