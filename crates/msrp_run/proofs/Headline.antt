-- From the workers' logs and the settled board to the trace.
use Rattle.std.proofs.Common.{◌≡◌, ◌⊎◌, ◌<◌, ◌≤◌, ◌∙◌}
use Rattle.msrp_plan.proofs.Common.{ℕ, List, [], length, Bool, true, false, nat_lt, Some, refl, sym, ap, subst, arith, inl, inr, slice_get, is_some, ltb-false, ltb-true, get_or_from_slice_get, slice_get_within, PlanModel, IsPlan, carries_ahead}
use Rattle.msrp_run.proofs.Common.{Aborted, AllWorked, AreDone, AreLogs, BoardModel, BoardSize, Book, Done, Event, Fits, HasAll, HasEnded, HasRun, IsCalledOff, IsHistory, IsMergeOf, IsRowOfEvent, IsRunOfBoard, IsServedAs, IsTied, IsWhole, IsWorked, LogModel, Opened, Paired, Row, SeatModel, Stopped, WholeBoard, admissions, admissions_of, book_at, empty_book, entries_at, is_row_on, log_at, ordered, phase_by, phase_in, rows_of, size_of, turns_of}
use Rattle.std.specs.Prelude.{filter}
use Rattle.msrp_plan.proofs.Runs.KeptLaws.{keeps_laws}
use Rattle.msrp_run.specs.declared.workers.Ended.{Ended}
use Rattle.msrp_run.proofs.Working.{none_left}

below_or : (c n : ℕ) → (c < n) ⊎ (n ≤ c)
below_or c n = by_test (nat_lt c n) refl
  where
    by_test : (t : Bool) → nat_lt c n ≡ t → (c < n) ⊎ (n ≤ c)
    by_test true e = inl (ltb-true c n e)
    by_test false e = inr (ltb-false c n e)

-- a core that is done has left its last tick behind
has_arrived_from_all : (ticks : ℕ) (b : Book) → phase_in ticks b ≡ Done → ticks ≤ b.tick
has_arrived_from_all ticks b done = ltb-false b.tick ticks (none_left b.stopped b.admitted (nat_lt b.tick ticks) done)

reach_is_tick : (b : Book) → b.tick ≤ admissions b
reach_is_tick b = by_admission b.admitted b.tick
  where
    by_admission : (admitted : Bool) (tick : ℕ) → tick ≤ admissions_of admitted tick
    by_admission true tick = omega arith
    by_admission false tick = omega arith

running_on : (stopped admitted left : Bool) → stopped ≡ false → phase_by stopped admitted left ≡ Stopped → ⊥
running_on true admitted left s e = cc
running_on false true left s e = cc
running_on false false true s e = cc
running_on false false false s e = cc

-- who was not stopped has left a whole log
whole_of : (plan : PlanModel) (c : ℕ) (log : LogModel) (b : Book) → b.stopped ≡ false → IsWorked plan c log b → IsWhole plan c log b
whole_of plan c log b s (inl whole) = whole
whole_of plan c log b s (inr stopped) = absurd (running_on b.stopped b.admitted (nat_lt b.tick plan.ticks) s stopped.stopped)

-- each core's whole log, with the settled book that it fits
found : (plan : PlanModel) (logs : List LogModel) (seat : SeatModel) (books : List Book) → length logs ≡ plan.cores → AllWorked plan logs seat → ((c : ℕ) → book_at seat c ≡ slice_get books c) → ((c : ℕ) (b : Book) → slice_get books c ≡ Some b → b.stopped ≡ false)
    → (c : ℕ) → c < plan.cores → (b : Book) × (slice_get books c ≡ Some b) × IsWhole plan c (log_at logs c) b
found plan logs seat books many each same running c low =
    let h = each c (omega (arith, many, low)) in
    let at = sym (same c) ∙ h.1 in
    (h.0, at, whole_of plan c (log_at logs c) h.0 (running c h.0 at) h.2)

-- the cores were let in and have ended
pub has_run : (plan : PlanModel) (logs : List LogModel) (seat : SeatModel) (board : WholeBoard) → length logs ≡ plan.cores → AllWorked plan logs seat → ((c : ℕ) → book_at seat c ≡ slice_get board.books c)
    → ((c : ℕ) (b : Book) → board.conductor ≡ Opened → slice_get board.books c ≡ Some b → b.stopped ≡ false) → board.conductor ≡ Opened → board.size ≡ size_of plan → IsTied board → HasRun plan logs board
has_run plan logs seat board many each same running opened size tied = record {
  logs_are = record {
    many = many;
    core = λ c low. (whole c low).2.core;
    runs = λ c low. (whole c low).2.run;
    whole = λ c low. (whole c low).2.size;
    fits = λ c low. let h = whole c low in subst (λ (b : Book). Fits (turns_of logs c) b.entries) (sym (get_or_from_slice_get board.books c h.0 empty_book h.1)) h.2.fits;
  };
  aheads = λ c low. (whole c low).2.aheads;
  opened = opened;
  done = λ c b at.
      let e = ap (λ (z : BoardSize). z.cores) size in
      let n = tied.cores in
      let below = slice_get_within board.books c b at in
      let h = whole c (omega (arith, e, n, below)) in
      let is : Some h.0 ≡ Some b = sym h.1 ∙ at in
      let one : h.0 ≡ b = cc in
      subst (λ x. phase_in plan.ticks x ≡ Done) one h.2.done;
}
  where
    whole : (c : ℕ) → c < plan.cores → (b : Book) × (slice_get board.books c ≡ Some b) × IsWhole plan c (log_at logs c) b
    whole = found plan logs seat board.books many each same (λ c b at. running c b opened at)

-- where the run was called off no core was let in, so that none has made a row
pub is_called_off : (plan : PlanModel) (logs : List LogModel) (seat : SeatModel) (board : WholeBoard) → AllWorked plan logs seat → ((c : ℕ) → book_at seat c ≡ slice_get board.books c) → board.conductor ≡ Aborted → board.size ≡ size_of plan → IsTied board → IsCalledOff logs board
is_called_off plan logs seat board each same aborted size tied = record { aborted = aborted; empty = empty }
  where
    empty : (k : ℕ) → k < length logs → turns_of logs k ≡ []
    empty k low = elim h.2 [
      | inl whole ↦ absurd (opened whole)
      | inr stopped ↦ stopped.empty
    ]
      where
        h : (b : Book) × (book_at seat k ≡ Some b) × IsWorked plan k (log_at logs k) b
        h = each k low

        opened : IsWhole plan k (log_at logs k) h.0 → ⊥
        opened whole =
            let late = has_arrived_from_all plan.ticks h.0 whole.done in
            let ticks = ap (λ (z : BoardSize). z.ticks) size in
            let some = tied.limits.ticks.0 in
            let reached = reach_is_tick h.0 in
            let met = tied.met k 0 h.0 (sym (same k) ∙ h.1) (omega (arith, late, ticks, some, reached)) in
            let both : Opened ≡ Aborted = sym met.0 ∙ aborted in
            cc

-- the seat holds all that the board is settled by
pub has_all : (board : BoardModel) (plan : PlanModel) (ended : Ended) → HasEnded board plan ended → HasAll ended.seat
has_all board plan ended e = record {
  cores = λ c low. elim (below_or c (length ended.logs.items)) [
    | inl first ↦ ap is_some (e.each c first).1
    | inr later ↦ e.rest.books c later (subst (λ (b : BoardModel). c < b.size.cores) e.rest.on low)
  ];
  conductor = ap is_some e.rest.conductor;
}

-- what the conductor did, as the settled board says it
did_as_ordered : (board : BoardModel) (plan : PlanModel) (ended : Ended) (whole : WholeBoard) → HasEnded board plan ended → ended.seat.conductor ≡ Some whole.conductor → whole.conductor ≡ ordered ended.all
did_as_ordered board plan ended whole e did =
    let both : Some whole.conductor ≡ Some (ordered ended.all) = sym did ∙ e.rest.conductor in
    cc

-- once all were started, and where not
pub left_whole : (board : BoardModel) (plan : PlanModel) (ended : Ended) (whole : WholeBoard) → HasEnded board plan ended → ((c : ℕ) → book_at ended.seat c ≡ slice_get whole.books c) → ended.seat.conductor ≡ Some whole.conductor
    → ((c : ℕ) (b : Book) → whole.conductor ≡ Opened → slice_get whole.books c ≡ Some b → b.stopped ≡ false) → whole.size ≡ size_of plan → IsTied whole → ended.all ≡ true → HasRun plan ended.logs.items whole
left_whole board plan ended whole e same did running size tied all =
    has_run plan ended.logs.items ended.seat whole (e.all all) e.each same running (did_as_ordered board plan ended whole e did ∙ ap ordered all) size tied

pub left_off : (board : BoardModel) (plan : PlanModel) (ended : Ended) (whole : WholeBoard) → HasEnded board plan ended → ((c : ℕ) → book_at ended.seat c ≡ slice_get whole.books c) → ended.seat.conductor ≡ Some whole.conductor → whole.size ≡ size_of plan → IsTied whole → ended.all ≡ false
    → IsCalledOff ended.logs.items whole
left_off board plan ended whole e same did size tied off =
    is_called_off plan ended.logs.items ended.seat whole e.each same (did_as_ordered board plan ended whole e did ∙ ap ordered off) size tied

-- the rows on a resource are its history, which the board's rule tells
served_as : (board : WholeBoard) (plan : PlanModel) (rows : List Row) → board.size ≡ size_of plan → IsTied board → ((g : ℕ) (h : List Event) → g < length plan.resources → IsHistory g (entries_at board.books) h → Paired IsRowOfEvent (filter (is_row_on g) rows) h)
    → (g : ℕ) → g < length plan.resources → IsServedAs board g rows
served_as board plan rows size tied history g low =
    let e = ap (λ (z : BoardSize). z.resources) size in
    let h = tied.served g (omega (arith, low, e)) in
    (h.0, h.1, history g h.0 low h.1.history)

-- the merge of the logs is a run of the board
pub run_of_board : (plan : PlanModel) (logs : List LogModel) (board : WholeBoard) (rows : List Row) → IsPlan plan → AreLogs plan logs (entries_at board.books) → ((c : ℕ) → c < plan.cores → carries_ahead (rows_of (turns_of logs c)) ≡ true)
    → (board.size ≡ size_of plan) × IsTied board → board.conductor ≡ Opened → AreDone plan.ticks board.books → IsMergeOf plan logs (entries_at board.books) rows → IsRunOfBoard plan board rows
run_of_board plan logs board rows ok fit aheads is opened done merged = record {
  run = merged.run;
  laws = keeps_laws plan rows ok merged.run;
  aheads = merged.aheads aheads;
  sized = is.0;
  tied = is.1;
  opened = opened;
  done = done;
  history = served_as board plan rows is.0 is.1 merged.history;
  order = record { logs = logs; fit = fit; turns = merged.order.0; rows_are = merged.order.1; sorted = merged.order.2 };
}
