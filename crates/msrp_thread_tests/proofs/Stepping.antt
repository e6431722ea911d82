-- Two cores: how they begin, what their joined seats hold in the end, and how their logs fit the
-- settled board.
use Rattle.std.proofs.Common.{◌≡◌, ◌<◌, ◌∷◌, ◌∙◌}
use Rattle.msrp_plan.proofs.Common.{ℕ, [], Some, nat_lt, arith, sym, ap, subst, slice_get, false, lt-ltb, carries_ahead, CoreRun, PlanModel}
use Rattle.msrp_board.specs.declared.answers.SeatPhase.TheVariants.{Waiting}
use Rattle.msrp_board.specs.declared.books.Book.{Book}
use Rattle.msrp_board.specs.declared.books.BoardSize.{BoardSize}
use Rattle.msrp_board.specs.declared.books.Conductor.TheVariants.{Opened}
use Rattle.msrp_board.specs.Boards.{WholeBoard, IsTied}
use Rattle.msrp_board.specs.Books.{phase_by}
use Rattle.msrp_board.specs.Seats.{BoardModel, SeatModel, IsCoreSeat, book_at, empty_book}
use Rattle.msrp_board.specs.Steps.{both, either}
use Rattle.msrp_core.specs.Machine.{MachineModel, StandsAfter}
use Rattle.msrp_merge.specs.Merging.{size_of}
use Rattle.msrp_merge.specs.Turns.{LogModel, rows_of, Fits}
use Rattle.msrp_run.specs.Threads.{AllWorked, HasRest, HasRun}
use Rattle.msrp_run.specs.Work.{HasWorked, IsAtWork}
use Rattle.msrp_run.proofs.Headline.{has_run}
use Rattle.msrp_run.proofs.Threading.{worked_more}

waits_at_first : (ticks : ℕ) → 0 < ticks → phase_by false false (nat_lt 0 ticks) ≡ Waiting
waits_at_first ticks some = ap (phase_by false false) (lt-ltb 0 ticks some)

-- a new machine, an empty log and the seat of a core that did nothing are a core between two of its
-- turns
pub at_first : (board : BoardModel) (plan : PlanModel) (c : ℕ) (m : MachineModel) (log : LogModel) (seat : SeatModel) → m.plan ≡ plan → m.core ≡ c → StandsAfter m [] → log ≡ record { core = c; ticks = plan.ticks; turns = [] } → board.size ≡ size_of plan → 0 < plan.ticks → IsCoreSeat seat c empty_book → seat.board ≡ board
    → IsAtWork board plan c m log seat
at_first board plan c m log seat of_plan of_core new log_is size some own on = record {
  plan_is = of_plan;
  core = of_core;
  stands = subst (λ (l : LogModel). StandsAfter m (rows_of l.turns)) (sym log_is) new;
  log_core = ap (λ (l : LogModel). l.core) log_is;
  log_ticks = ap (λ (l : LogModel). l.ticks) log_is;
  size = size;
  on = on;
  book = empty_book;
  of_core = own;
  waits = waits_at_first seat.board.size.ticks (subst (λ n. 0 < n) (sym ticks) some);
  tick = sym new.tick;
  claims = sym new.phase;
  run = subst (λ (l : LogModel). CoreRun plan c (rows_of l.turns)) (sym log_is) none;
  fits = subst (λ (l : LogModel). Fits l.turns []) (sym log_is) (record { places = tt; steps = tt });
  aheads = ap (λ (l : LogModel). carries_ahead (rows_of l.turns)) log_is;
}
  where
    ticks : seat.board.size.ticks ≡ plan.ticks
    ticks = ap (λ (b : BoardModel). b.size.ticks) on ∙ ap (λ (z : BoardSize). z.ticks) size

    none : CoreRun plan c []
    none = tt

-- after a round of a core on its own, it still is that core of the plan
pub at_next : (board : BoardModel) (plan : PlanModel) (c : ℕ) (m next : MachineModel) (log longer : LogModel) (seat back : SeatModel) → IsAtWork board plan c m log seat → IsAtWork board m.plan m.core next longer back → IsAtWork board plan c next longer back
at_next board plan c m next log longer seat back w more = subst (λ k. IsAtWork board plan k next longer back) w.core (subst (λ p. IsAtWork board p m.core next longer back) w.plan_is more)

-- what is left of a run on two cores
pub record AreLeft (board : BoardModel) (plan : PlanModel) (first second : LogModel) (seat other rest : SeatModel) : Type 0 where
  pub cores : plan.cores ≡ 2
  pub size : board.size ≡ size_of plan
  pub rest_has : HasRest board 2 Opened rest
  pub zero : HasWorked board plan 0 first seat
  pub one : HasWorked board plan 1 second other

pub all_worked : (board : BoardModel) (plan : PlanModel) (first second : LogModel) (seat other rest : SeatModel) → AreLeft board plan first second seat other rest → AllWorked plan (first ∷ second ∷ []) (both other (both seat rest))
all_worked board plan first second seat other rest l = worked_more plan (first ∷ []) second other (both seat rest) l.one.book alone l.one.of_core l.one.worked
  where
    alone : AllWorked plan (first ∷ []) (both seat rest)
    alone = worked_more plan [] first seat rest l.zero.book (λ k low. absurd (omega (arith, low))) l.zero.of_core l.zero.worked

conductor_of : (board : BoardModel) (plan : PlanModel) (first second : LogModel) (seat other rest : SeatModel) → AreLeft board plan first second seat other rest → (both other (both seat rest)).conductor ≡ Some Opened
conductor_of board plan first second seat other rest l = ap (λ o. either o (either seat.conductor rest.conductor)) l.one.of_core.conductor ∙ (ap (λ o. either o rest.conductor) l.zero.of_core.conductor ∙ l.rest_has.conductor)

pub has_left : (board : BoardModel) (plan : PlanModel) (first second : LogModel) (seat other rest : SeatModel) (whole : WholeBoard) → AreLeft board plan first second seat other rest → ((c : ℕ) → book_at (both other (both seat rest)) c ≡ slice_get whole.books c)
    → (both other (both seat rest)).conductor ≡ Some whole.conductor → ((c : ℕ) (b : Book) → whole.conductor ≡ Opened → slice_get whole.books c ≡ Some b → b.stopped ≡ false) → whole.size ≡ size_of plan → IsTied whole → HasRun plan (first ∷ second ∷ []) whole
has_left board plan first second seat other rest whole l same did running size tied =
    has_run plan (first ∷ second ∷ []) (both other (both seat rest)) whole (sym l.cores) (all_worked board plan first second seat other rest l) same running opened size tied
  where
    opened : whole.conductor ≡ Opened
    opened = let one : Some whole.conductor ≡ Some Opened = sym did ∙ conductor_of board plan first second seat other rest l in cc
