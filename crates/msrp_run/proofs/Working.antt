-- A worker's steps: its core is let in, has its turn and arrives, or is told to stop.
use Rattle.std.proofs.Common.{◌≡◌, ◌+◌, ◌≤◌, ◌&&◌, ◌∷◌, ◌++◌, ◌∙◌}
use Rattle.msrp_plan.proofs.Common.{ℕ, suc, List, [], Bool, true, false, nat_lt, refl, sym, ap, subst, arith, inl, inr, length-append, length-map, length, list_all-append, ltb-false, PlanModel, carries_its_ahead, carries_ahead, CoreRun}
use Rattle.msrp_run.proofs.Common.{Admitted, BoardModel, BoardSize, Book, Done, Entry, Fits, HasTurned, HasWorked, IsAtWork, IsCoreSeat, IsOneStep, IsSeat, LogModel, MachineModel, MayTurn, NoStep, OneStep, Row, SeatModel, SeatPhase, StandsAfter, Turn, Waiting, admissions_of, book_with_admission, book_with_arrival, book_with_stop, core_changed, core_with, lock_of, not_acted, phase_by, phase_in, rows_of, size_of, waiting_book, with_admission, with_arrival, with_stop}
use Rattle.msrp_merge.proofs.Fitting.{fits_quiet, fits_step}
use Rattle.msrp_run.proofs.OneTurn.{rows_longer, run_longer}

-- let into its tick, the core may have its turn
pub may_turn : (board : BoardModel) (plan : PlanModel) (c : ℕ) (m : MachineModel) (log : LogModel) (seat new : SeatModel) → IsAtWork board plan c m log seat → IsSeat seat → new ≡ with_admission seat → MayTurn board m log new
may_turn board plan c m log seat new w kept is = subst (MayTurn board m log) (sym is) admitted
  where
    out : (w.book.stopped ≡ false) × (w.book.admitted ≡ false)
    out = waiting_book seat.board.size.ticks w.book w.waits

    admitted : MayTurn board m log (with_admission seat)
    admitted = record {
      stands = w.stands;
      log_core = w.log_core ∙ sym w.core;
      log_ticks = w.log_ticks ∙ ap (λ (p : PlanModel). p.ticks) (sym w.plan_is);
      size = w.size ∙ ap size_of (sym w.plan_is);
      on = w.on;
      book = book_with_admission w.book;
      of_core = subst (λ k. IsCoreSeat (with_admission seat) k (book_with_admission w.book)) (sym w.core) (core_changed book_with_admission seat c w.book w.of_core);
      admitted = ap (λ x. phase_by x true (nat_lt w.book.tick seat.board.size.ticks)) out.0;
      quiet = not_acted seat.board.size w.book (kept.kept c w.book w.of_core.book) out.1;
      tick = w.tick;
      claims = w.claims;
    }

no_turns : (turns : List Turn) → length (rows_of turns) ≡ 0 → turns ≡ []
no_turns [] e = refl
no_turns (x ∷ turns) e = absurd (omega (arith, e))

-- told to stop, it has made no turn
pub has_stopped : (board : BoardModel) (plan : PlanModel) (c : ℕ) (m : MachineModel) (log : LogModel) (seat new : SeatModel) → IsAtWork board plan c m log seat → new ≡ with_stop seat → ((d : ℕ) (b : Book) → IsCoreSeat seat d b → b.tick ≡ 0) → HasWorked board plan c log new
has_stopped board plan c m log seat new w is start = subst (HasWorked board plan c log) (sym is) stopped
  where
    none : log.turns ≡ []
    none = no_turns log.turns (let a = start c w.book w.of_core in let b = w.tick in let e = w.stands.tick in omega (arith, a, b, e))

    stopped : HasWorked board plan c log (with_stop seat)
    stopped = record { on = w.on; book = book_with_stop w.book; of_core = core_changed book_with_stop seat c w.book w.of_core; worked = inr (record { core = w.log_core; empty = none; stopped = refl }) }

-- a core that has arrived from its tick
pub record HasArrived (board : BoardModel) (plan : PlanModel) (c : ℕ) (m : MachineModel) (log : LogModel) (seat : SeatModel) : Type 0 where
  pub plan_is : m.plan ≡ plan
  pub core : m.core ≡ c
  pub stands : StandsAfter m (rows_of log.turns)
  pub log_core : log.core ≡ c
  pub log_ticks : log.ticks ≡ plan.ticks
  pub size : board.size ≡ size_of plan
  pub on : seat.board ≡ board
  pub book : Book
  pub of_core : IsCoreSeat seat c book
  pub running : book.stopped ≡ false
  pub out : book.admitted ≡ false
  pub tick : book.tick ≡ m.tick
  pub claims : lock_of book ≡ m.phase
  pub run : CoreRun plan c (rows_of log.turns)
  pub fits : Fits log.turns book.entries
  pub aheads : carries_ahead (rows_of log.turns) ≡ true

not_stopped : (stopped admitted left : Bool) → phase_by stopped admitted left ≡ Admitted → stopped ≡ false
not_stopped true admitted left e = absurd (cc)
not_stopped false admitted left e = refl

both_true : (a b : Bool) → a ≡ true → b ≡ true → (a && (b && true)) ≡ true
both_true true true x y = refl
both_true true false x y = absurd (cc)
both_true false b x y = absurd (cc)

-- a log that fits a book fits it after one turn more
fits_one_more : (turns : List Turn) (before after : List Entry) (x : Turn) → IsOneStep x before after → Fits turns before → Fits (turns ++ x ∷ []) after
fits_one_more turns before after x (NoStep bare quiet same) fits = subst (Fits (turns ++ x ∷ [])) (sym same) (fits_quiet turns before x fits bare quiet)
fits_one_more turns before after x (OneStep entry told added) fits = subst (Fits (turns ++ x ∷ [])) (sym added) (fits_step turns before x entry fits told)

-- its log has one row more
row_more : (board : BoardModel) (m next : MachineModel) (log longer : LogModel) (let_in back : SeatModel) (row : Row) → HasTurned board (core_with m log let_in) row (core_with next longer back) → rows_of longer.turns ≡ rows_of log.turns ++ row ∷ []
row_more board m next log longer let_in back row t = ap (λ (l : LogModel). rows_of l.turns) t.logged ∙ sym (rows_longer log.turns row t.place)

-- and its machine is a tick on
pub next_tick : (board : BoardModel) (plan : PlanModel) (c : ℕ) (m next : MachineModel) (log longer : LogModel) (seat let_in back : SeatModel) (row : Row) → IsAtWork board plan c m log seat → HasTurned board (core_with m log let_in) row (core_with next longer back) → next.tick ≡ m.tick + 1
next_tick board plan c m next log longer seat let_in back row w t =
    let a = t.stands.tick in
    let b = ap length (row_more board m next log longer let_in back row t) in
    let d = length-append (rows_of log.turns) (row ∷ []) in
    let e = w.stands.tick in
    omega (arith, a, b, d, e)

pub has_arrived : (board : BoardModel) (plan : PlanModel) (c : ℕ) (m next : MachineModel) (log longer : LogModel) (seat let_in back new : SeatModel) (row : Row) → IsAtWork board plan c m log seat → let_in ≡ with_admission seat
    → HasTurned board (core_with m log let_in) row (core_with next longer back) → new ≡ with_arrival back → HasArrived board plan c next longer new
has_arrived board plan c m next log longer seat let_in back new row w in_is t is = subst (HasArrived board plan c next longer) (sym is) arrived
  where
    more : rows_of longer.turns ≡ rows_of log.turns ++ row ∷ []
    more = row_more board m next log longer let_in back row t

    ticks : suc t.book.tick ≡ next.tick
    ticks =
        let a = next_tick board plan c m next log longer seat let_in back row w t in
        let b = t.tick in
        omega (arith, a, b)

    admitted : IsCoreSeat let_in m.core (book_with_admission w.book)
    admitted = subst (λ s. IsCoreSeat s m.core (book_with_admission w.book)) (sym in_is) (subst (λ k. IsCoreSeat (with_admission seat) k (book_with_admission w.book)) (sym w.core) (core_changed book_with_admission seat c w.book w.of_core))

    before : CoreRun m.plan m.core (rows_of log.turns)
    before = subst (λ k. CoreRun m.plan k (rows_of log.turns)) (sym w.core) (subst (λ p. CoreRun p c (rows_of log.turns)) (sym w.plan_is) w.run)

    arrived : HasArrived board plan c next longer (with_arrival back)
    arrived = record {
      plan_is = t.plan ∙ w.plan_is;
      core = t.core ∙ w.core;
      stands = t.stands;
      log_core = ap (λ (l : LogModel). l.core) t.logged ∙ w.log_core;
      log_ticks = ap (λ (l : LogModel). l.ticks) t.logged ∙ w.log_ticks;
      size = w.size;
      on = t.on;
      book = book_with_arrival t.book;
      of_core = core_changed book_with_arrival back c t.book (subst (λ k. IsCoreSeat back k t.book) w.core t.of_core);
      running = not_stopped t.book.stopped t.book.admitted (nat_lt t.book.tick back.board.size.ticks) t.admitted;
      out = refl;
      tick = ticks;
      claims = t.claims;
      run = subst (λ p. CoreRun p c (rows_of longer.turns)) w.plan_is (subst (λ k. CoreRun m.plan k (rows_of longer.turns)) w.core (subst (λ (l : LogModel). CoreRun m.plan m.core (rows_of l.turns)) (sym t.logged) (run_longer m.plan m.core log.turns row t.place t.is before)));
      fits = subst (λ (l : LogModel). Fits l.turns t.book.entries) (sym t.logged) (fits_one_more log.turns w.book.entries t.book.entries (record { row = row; place = t.place }) (t.stepped (book_with_admission w.book) admitted) w.fits);
      aheads = ap carries_ahead more ∙ (list_all-append carries_its_ahead (rows_of log.turns) (row ∷ []) ∙ both_true (carries_ahead (rows_of log.turns)) (carries_its_ahead row) w.aheads t.ahead);
    }

out_phase : (stopped admitted left : Bool) → stopped ≡ false → admitted ≡ false → (phase_by stopped admitted left ≡ Done → ⊥) → phase_by stopped admitted left ≡ Waiting
out_phase true admitted left s a n = absurd (cc)
out_phase false true left s a n = absurd (cc)
out_phase false false true s a n = refl
out_phase false false false s a n = absurd (n refl)

-- it waits for the next tick
pub goes_on : (board : BoardModel) (plan : PlanModel) (c : ℕ) (m : MachineModel) (log : LogModel) (seat : SeatModel) (phase : SeatPhase) → (a : HasArrived board plan c m log seat) → ((d : ℕ) (b : Book) → IsCoreSeat seat d b → phase ≡ phase_in seat.board.size.ticks b) → (phase ≡ Done → ⊥)
    → IsAtWork board plan c m log seat
goes_on board plan c m log seat phase a reads left = record {
  plan_is = a.plan_is;
  core = a.core;
  stands = a.stands;
  log_core = a.log_core;
  log_ticks = a.log_ticks;
  size = a.size;
  on = a.on;
  book = a.book;
  of_core = a.of_core;
  waits = out_phase a.book.stopped a.book.admitted (nat_lt a.book.tick seat.board.size.ticks) a.running a.out (λ e. left (reads c a.book a.of_core ∙ e));
  tick = a.tick;
  claims = a.claims;
  run = a.run;
  fits = a.fits;
  aheads = a.aheads;
}

pub none_left : (stopped admitted left : Bool) → phase_by stopped admitted left ≡ Done → left ≡ false
none_left true admitted left e = absurd (cc)
none_left false true left e = absurd (cc)
none_left false false true e = absurd (cc)
none_left false false false e = refl

-- or it has arrived from the last one
pub has_done : (board : BoardModel) (plan : PlanModel) (c : ℕ) (m : MachineModel) (log : LogModel) (seat : SeatModel) (phase : SeatPhase) → (a : HasArrived board plan c m log seat) → ((d : ℕ) (b : Book) → IsCoreSeat seat d b → phase ≡ phase_in seat.board.size.ticks b) → IsSeat seat → phase ≡ Done
    → HasWorked board plan c log seat
has_done board plan c m log seat phase a reads kept is = record {
  on = a.on;
  book = a.book;
  of_core = a.of_core;
  worked = inl (record { core = a.log_core; run = a.run; size = whole; aheads = a.aheads; fits = a.fits; done = ap (λ n. phase_in n a.book) (sym ticks) ∙ done });
}
  where
    ticks : seat.board.size.ticks ≡ plan.ticks
    ticks = ap (λ (b : BoardModel). b.size.ticks) a.on ∙ ap (λ (z : BoardSize). z.ticks) a.size

    done : phase_in seat.board.size.ticks a.book ≡ Done
    done = sym (reads c a.book a.of_core) ∙ is

    whole : length log.turns ≡ plan.ticks
    whole =
        let over = ltb-false a.book.tick seat.board.size.ticks (none_left a.book.stopped a.book.admitted (nat_lt a.book.tick seat.board.size.ticks) done) in
        let within : admissions_of false a.book.tick ≤ seat.board.size.ticks = subst (λ x. admissions_of x a.book.tick ≤ seat.board.size.ticks) a.out (kept.kept c a.book a.of_core.book).within in
        let b = a.tick in
        let e = a.stands.tick in
        let f = length-map log.turns (λ (x : Turn). x.row) in
        omega (arith, over, within, ticks, b, e, f)
