-- A turn through a seat port: what the machine says of its row, and what the port tells of the
-- step, make the log's turn.
use Rattle.msrp_plan.proofs.Common.{ℕ, zero, suc, List, [], Bool, true, false, nat_lt, Option, Some, None, refl, sym, ap, subst, arith, inl, inr, not, is_some, IfSome, map, map-append, fold_push, PlanModel, is_global, is_global_unit, res_of_unit, ResCall, claim_with, claim_after, IsDueCall, kind_of_call, ahead_of_call, phase_with, phase_after, IsCoreTurn, CoreRun, is_queue, IsTurn, DoesUnit, turn_of, each_push, Runs, Locks, Unlocks, Takes, Grants, Spins, Releases, step_of}
use Rattle.msrp_run.proofs.Common.{AddsCall, Admitted, Ask, BoardModel, BoardSize, Book, Call, CoreId, Entry, Free, HasAsked, HasTurned, IsCoreSeat, IsKept, IsQuiet, IsSeat, IsStepSince, IsTurnOf, Leave, LogModel, MachineModel, MakesCall, MayTurn, NoStep, OneStep, Phase, Place, Poll, PortCall, PortModel, ResId, Row, SeatModel, StandsAfter, Turn, admissions_of, book_with_entry, calls_by, calls_in, claim_in, core_changed, core_is_one, core_with, has_acted, is_poll, is_step, lock_of, phase_by, phase_in, port_adds, port_calls, port_of, port_room, res_calls, room_by, room_in, rows_of, with_entry}
use Rattle.msrp_plan.specs.declared.ids.JobId.{JobId}
use Rattle.msrp_plan.specs.declared.rows.Kind.{Kind}
use Rattle.msrp_plan.specs.declared.rows.Kind.TheVariants.{Idle, Run, Lock, Unlock, Take, Queue, Grant, Spin, Release}
use Rattle.std.proofs.Common.{◌≡◌, ◌<◌, ◌≤◌, ◌∷◌, ◌++◌, ◌∙◌, ◌||◌, true≢false}
use Rattle.msrp_plan.proofs.TaskUnits.UnitKinds.{Queues}
use Rattle.msrp_board.proofs.Told.{res_calls_last}
use Rattle.msrp_run.proofs.Ports.{own_calls, core_is}
use Rattle.msrp_plan.proofs.Queues.Calls.{call_as_row}

-- ---- before the turn
admitted_is : (stopped admitted left : Bool) → phase_by stopped admitted left ≡ Admitted → admitted ≡ true
admitted_is true admitted left e = absurd (cc)
admitted_is false true left e = refl
admitted_is false false true e = absurd (cc)
admitted_is false false false e = absurd (cc)

-- a core that is let into its tick has it left
admitted_left : (size : BoardSize) (b : Book) → IsKept size b → phase_in size.ticks b ≡ Admitted → b.tick < size.ticks
admitted_left size b kept stands =
    let most : admissions_of true b.tick ≤ size.ticks = subst (λ a. admissions_of a b.tick ≤ size.ticks) (admitted_is b.stopped b.admitted (nat_lt b.tick size.ticks) stands) kept.within in
    omega (arith, most)

pub tick_left : (board : BoardModel) (m : MachineModel) (log : LogModel) (seat : SeatModel) → MayTurn board m log seat → IsSeat seat → m.tick < m.plan.ticks
tick_left board m log seat may kept =
    let low = admitted_left seat.board.size may.book (kept.kept m.core may.book may.of_core.book) may.admitted in
    let size : seat.board.size.ticks ≡ m.plan.ticks = ap (λ (b : BoardModel). b.size.ticks) may.on ∙ ap (λ (z : BoardSize). z.ticks) may.size in
    let at = may.tick in
    omega (arith, low, size, at)

-- what the port of the seat is before the step
pub port_claims : (board : BoardModel) (m : MachineModel) (log : LogModel) (seat : SeatModel) (core : CoreId) → MayTurn board m log seat → core.0 ≡ m.core → claim_in m.core (port_of core seat).calls ≡ m.phase
port_claims board m log seat core may same =
    ap (λ n. claim_in n (calls_by core (port_calls seat core.0))) (sym same) ∙ (ap claim_after (own_calls core (port_calls seat core.0))
    ∙ (ap (λ n. claim_after (port_calls seat n)) same ∙ (ap (λ o. claim_after (calls_in o)) may.of_core.book ∙ may.claims)))

pub port_has_room : (board : BoardModel) (m : MachineModel) (log : LogModel) (seat : SeatModel) → MayTurn board m log seat → port_room seat m.core ≡ 1
port_has_room board m log seat may = ap (room_in seat.board.size.ticks) may.of_core.book ∙ (ap (λ x. room_by x (has_acted may.book)) may.admitted ∙ ap (room_by Admitted) may.quiet)

-- ---- a row on no global resource is no step
not_global : (plan : PlanModel) (r : Row) (h : ResId) → IsQuiet plan r → r.res ≡ Some h → is_global plan h.0 ≡ true → ⊥
not_global plan r h quiet e glob = true≢false (sym glob ∙ quiet h e)

quiet_unit : (plan : PlanModel) (pre : List Row) (r : Row) (x : JobId) → IsQuiet plan r → DoesUnit plan pre x r → is_step r.kind ≡ false
quiet_unit plan pre r x quiet d = elim (step_of (is_global_unit plan d.op) _ d.op r.kind d.kind) [
  | Runs eo ek ↦ ap is_step ek
  | Locks h eo ek eg ↦ ap is_step ek
  | Unlocks h eo ek eg ↦ ap is_step ek
  | Takes h eo ek eg eq ↦ absurd (not_global plan r h quiet (d.res ∙ ap res_of_unit eo) (sym (ap (is_global_unit plan) eo) ∙ eg))
  | Queues h eo ek eg eq ↦ absurd (not_global plan r h quiet (d.res ∙ ap res_of_unit eo) (sym (ap (is_global_unit plan) eo) ∙ eg))
  | Grants h eo ek eg eq ↦ absurd (not_global plan r h quiet (d.res ∙ ap res_of_unit eo) (sym (ap (is_global_unit plan) eo) ∙ eg))
  | Spins h eo ek eg eq ↦ absurd (not_global plan r h quiet (d.res ∙ ap res_of_unit eo) (sym (ap (is_global_unit plan) eo) ∙ eg))
  | Releases h eo ek eg ↦ absurd (not_global plan r h quiet (d.res ∙ ap res_of_unit eo) (sym (ap (is_global_unit plan) eo) ∙ eg))
]

quiet_kind : (plan : PlanModel) (c : ℕ) (rows : List Row) (r : Row) → IsQuiet plan r → IsCoreTurn plan c rows r → is_step r.kind ≡ false
quiet_kind plan c rows r quiet is = by_job r.job refl
  where
    turn : IsTurn plan rows r
    turn = turn_of plan rows r is.own is.chosen is.action

    by_job : (o : Option JobId) → r.job ≡ o → is_step r.kind ≡ false
    by_job None e = ap is_step (turn.idle e)
    by_job (Some x) e = quiet_unit plan rows r x quiet (turn.does x e)

-- it leaves what the core holds or awaits, and carries no ahead
quiet_phase : (phase : Phase) (k : Kind) (res : Option ResId) → is_step k ≡ false → phase_with phase k res ≡ phase
quiet_phase phase Take res e = absurd (cc)
quiet_phase phase Queue res e = absurd (cc)
quiet_phase phase Grant res e = absurd (cc)
quiet_phase phase Spin res e = absurd (cc)
quiet_phase phase Release res e = absurd (cc)
quiet_phase phase Idle res e = refl
quiet_phase phase Run res e = refl
quiet_phase phase Lock res e = refl
quiet_phase phase Unlock res e = refl

no_queue : (k : Kind) → is_step k ≡ false → is_queue k ≡ false
no_queue Queue e = absurd (cc)
no_queue Take e = refl
no_queue Grant e = refl
no_queue Spin e = refl
no_queue Release e = refl
no_queue Idle e = refl
no_queue Run e = refl
no_queue Lock e = refl
no_queue Unlock e = refl

-- ---- a step
call_carries : (call : Call) (k : Kind) (ahead : Option ℕ) → k ≡ kind_of_call call → ahead ≡ ahead_of_call call → (not (is_queue k) || is_some ahead) ≡ true
call_carries call k ahead ek ea = ap (λ j. not (is_queue j) || is_some ahead) ek ∙ (ap (λ o. not (is_queue (kind_of_call call)) || is_some o) ea ∙ by_call call)
  where
    by_call : (call : Call) → (not (is_queue (kind_of_call call)) || is_some (ahead_of_call call)) ≡ true
    by_call (Ask zero) = refl
    by_call (Ask (suc n)) = refl
    by_call (Poll true) = refl
    by_call (Poll false) = refl
    by_call Leave = refl

-- the last of a list is one
last_is : {X : Type 0} (xs : List X) (a b : X) → xs ++ a ∷ [] ≡ xs ++ b ∷ [] → a ≡ b
last_is [] a b e = cc
last_is (x ∷ xs) a b e = last_is xs a b (cc)

-- what a turn asked, by its row's resource
pub has_asked : (plan : PlanModel) (r : Row) (before after : PortModel) → ((res : ResId) → r.res ≡ Some res → is_global plan res.0 ≡ true → MakesCall plan r before after) → (IsQuiet plan r → after ≡ before) → HasAsked plan r before after
has_asked plan r before after calls quiet = by_res r.res refl
  where
    by_global : (res : ResId) → r.res ≡ Some res → (b : Bool) → is_global plan res.0 ≡ b → HasAsked plan r before after
    by_global res e true g = inl (calls res e g)
    by_global res e false g = let none : IsQuiet plan r = λ h eh. (let same : Some res ≡ Some h = sym e ∙ eh in let is : res ≡ h = cc in subst (λ (x : ResId). is_global plan x.0 ≡ false) is g) in inr (none, quiet none)

    by_res : (o : Option ResId) → r.res ≡ o → HasAsked plan r before after
    by_res None e = let none : IsQuiet plan r = λ h eh. (let clash : None ≡ Some h = sym e ∙ eh in absurd (cc)) in inr (none, quiet none)
    by_res (Some res) e = by_global res e (is_global plan res.0) refl

-- the core of the port is the row's
pub asked_on : (plan : PlanModel) (r : Row) (c : ℕ) (core at : CoreId) (seat back : SeatModel) → core.0 ≡ c → at.0 ≡ c → r.core.0 ≡ c → HasAsked plan r (port_of core seat) (port_of at back) → HasAsked plan r (port_of r.core seat) (port_of r.core back)
asked_on plan r c core at seat back one two row asked =
    subst (λ k. HasAsked plan r (port_of r.core seat) (port_of k back)) (core_is at r.core (two ∙ sym row)) (subst (λ k. HasAsked plan r (port_of k seat) (port_of at back)) (core_is core r.core (one ∙ sym row)) asked)

-- what was logged and what was done are one: no step and no place, or the step that the place is of
pub data Told (board : BoardModel) (m : MachineModel) (seat back : SeatModel) (book : Book) (row : Row) (place : Option Place) : Type 0 where
  Quiet : place ≡ None → back ≡ seat → is_step row.kind ≡ false → Told board m seat back book row place
  Step : (res : ResId) (p : Place) (call : Call) → place ≡ Some p → p.polled ≡ is_poll call → back ≡ with_entry res p.number call seat → IsDueCall (claim_after (port_calls seat m.core)) res call → row.res ≡ Some res → row.kind ≡ kind_of_call call → row.ahead ≡ ahead_of_call call → Told board m seat back book row place

told_by : (board : BoardModel) (m : MachineModel) (log : LogModel) (seat back : SeatModel) (row : Row) (place : Option Place) → (may : MayTurn board m log seat) → IsCoreTurn m.plan m.core (rows_of log.turns) row
    → IsStepSince m.core seat place back → HasAsked m.plan row (port_of row.core seat) (port_of row.core back) → Told board m seat back may.book row place
told_by board m log seat back row None may is since (inl makes) =
    let room = makes.adds.room in
    let same = ap (λ s. port_room s row.core.0) since in
    absurd (omega (arith, room, same))
told_by board m log seat back row None may is since (inr quiet) = Quiet refl since (quiet_kind m.plan m.core (rows_of log.turns) row quiet.0 is)
told_by board m log seat back row (Some p) may is since (inr quiet) =
    let none = since.4 in
    let one = port_has_room board m log seat may in
    let same = ap (λ rooms. rooms m.core) (ap (λ (q : PortModel). q.rooms) quiet.1) in
    absurd (omega (arith, none, one, same))
told_by board m log seat back row (Some p) may is since (inl makes) =
    Step makes.res p makes.call refl (since.2 ∙ ap is_poll call_same) (since.3 ∙ (ap (λ r. with_entry r p.number since.1 seat) res_same ∙ ap (λ k. with_entry makes.res p.number k seat) call_same))
    (subst (λ r. IsDueCall (claim_after (port_calls seat m.core)) r makes.call) res_same (subst (λ k. IsDueCall (claim_after (port_calls seat m.core)) since.0 k) call_same since.5))
    makes.resource makes.kind makes.ahead
  where
    added : AddsCall m.core since.0 since.1 seat back
    added = (port_adds board m.core m.core seat back since.0 p.number since.1 (record { on = may.on; book = may.book; of_core = may.of_core; stands = may.admitted }) (let one = port_has_room board m log seat may in omega (arith, one)) since.3).0

    made : ResCall → PortCall
    made s = record { core = row.core; res = s.0; call = s.1 }

    both : map made (port_calls seat row.core.0) ++ made (since.0, since.1) ∷ [] ≡ map made (port_calls seat row.core.0) ++ made (makes.res, makes.call) ∷ []
    both =
        sym (map-append made (port_calls seat row.core.0) ((since.0, since.1) ∷ []))
        ∙ (ap (map made) (sym (subst (λ n. port_calls back n ≡ port_calls seat n ++ (since.0, since.1) ∷ []) (sym is.core) added.calls)) ∙ makes.adds.calls)

    same : made (since.0, since.1) ≡ made (makes.res, makes.call)
    same = last_is (map made (port_calls seat row.core.0)) (made (since.0, since.1)) (made (makes.res, makes.call)) both

    res_same : since.0 ≡ makes.res
    res_same = ap (λ (q : PortCall). q.res) same

    call_same : since.1 ≡ makes.call
    call_same = ap (λ (q : PortCall). q.call) same

-- ---- after the turn
-- the log with the turn is still a run of the core
pub run_longer : (plan : PlanModel) (c : ℕ) (turns : List Turn) (row : Row) (place : Option Place) → IsCoreTurn plan c (rows_of turns) row → CoreRun plan c (rows_of turns) → CoreRun plan c (rows_of (turns ++ record { row = row; place = place } ∷ []))
run_longer plan c turns row place is run =
    subst (CoreRun plan c) (sym (map-append (λ (x : Turn). x.row) turns (record { row = row; place = place } ∷ []))) (each_push (IsCoreTurn plan c) [] (rows_of turns) row run is)

pub rows_longer : (turns : List Turn) (row : Row) (place : Option Place) → rows_of turns ++ row ∷ [] ≡ rows_of (turns ++ record { row = row; place = place } ∷ [])
rows_longer turns row place = sym (map-append (λ (x : Turn). x.row) turns (record { row = row; place = place } ∷ []))

-- what is said of the machine and the row after the turn
pub record Turned (m next : MachineModel) (log : LogModel) (row : Row) : Type 0 where
  pub plan : next.plan ≡ m.plan
  pub core : next.core ≡ m.core
  pub is : IsCoreTurn m.plan m.core (rows_of log.turns) row
  pub stands : StandsAfter next (rows_of log.turns ++ row ∷ [])

after_told : (board : BoardModel) (m next : MachineModel) (log : LogModel) (seat back : SeatModel) (row : Row) (place : Option Place) → (may : MayTurn board m log seat) → Turned m next log row
    → Told board m seat back may.book row place → HasTurned board (core_with m log seat) row (core_with next (record { core = log.core; ticks = log.ticks; turns = log.turns ++ record { row = row; place = place } ∷ [] }) back)
after_told board m next log seat back row place may t (Quiet bare still quiet) = record {
  plan = t.plan;
  core = t.core;
  place = place;
  logged = refl;
  stands = subst (StandsAfter next) (rows_longer log.turns row place) t.stands;
  ahead = ap (λ b. not b || is_some row.ahead) (no_queue row.kind quiet);
  is = t.is;
  on = ap (λ (s : SeatModel). s.board) still ∙ may.on;
  book = may.book;
  of_core = subst (λ s. IsCoreSeat s m.core may.book) (sym still) may.of_core;
  admitted = ap (λ (s : SeatModel). phase_in s.board.size.ticks may.book) still ∙ may.admitted;
  tick = may.tick;
  claims = may.claims ∙ sym (t.stands.phase ∙ (fold_push (λ phase r. phase_with phase r.kind r.res) Free (rows_of log.turns) row ∙ (quiet_phase (phase_after (rows_of log.turns)) row.kind row.res quiet ∙ sym may.stands.phase)));
  stepped = λ b of_core. NoStep bare quiet (ap (λ (w : Book). w.entries) (sym (core_is_one seat m.core m.core b may.book of_core may.of_core).1));
}
after_told board m next log seat back row place may t (Step res p call at polled moved turn resource kind ahead) = record {
  plan = t.plan;
  core = t.core;
  place = place;
  logged = refl;
  stands = subst (StandsAfter next) (rows_longer log.turns row place) t.stands;
  ahead = call_carries call row.kind row.ahead kind ahead;
  is = t.is;
  on = ap (λ (s : SeatModel). s.board) moved ∙ may.on;
  book = book;
  of_core = subst (λ s. IsCoreSeat s m.core book) (sym moved) (core_changed (book_with_entry res p.number call) seat m.core may.book may.of_core);
  admitted = ap (λ (s : SeatModel). phase_in s.board.size.ticks book) moved ∙ may.admitted;
  tick = may.tick;
  claims = lock ∙ sym phase;
  stepped = λ b of_core. OneStep entry told (ap (λ (w : Book). w.entries ++ entry ∷ []) (sym (core_is_one seat m.core m.core b may.book of_core may.of_core).1));
}
  where
    book : Book
    book = book_with_entry res p.number call may.book

    entry : Entry
    entry = record { tick = may.book.tick; res = res; place = p.number; call = call }

    own : claim_after (port_calls seat m.core) ≡ lock_of may.book
    own = ap (λ o. claim_after (calls_in o)) may.of_core.book

    before : lock_of may.book ≡ phase_after (rows_of log.turns)
    before = may.claims ∙ may.stands.phase

    lock : lock_of book ≡ claim_with (lock_of may.book) res call
    lock = ap claim_after (res_calls_last may.book.entries entry) ∙ fold_push (λ claim (s : ResCall). claim_with claim s.0 s.1) Free (res_calls may.book.entries) (res, call)

    phase : next.phase ≡ claim_with (lock_of may.book) res call
    phase =
        t.stands.phase ∙ (fold_push (λ phase r. phase_with phase r.kind r.res) Free (rows_of log.turns) row
        ∙ (ap (λ k. phase_with (phase_after (rows_of log.turns)) k row.res) kind ∙ (ap (λ o. phase_with (phase_after (rows_of log.turns)) (kind_of_call call) o) resource
        ∙ (ap (λ f. phase_with f (kind_of_call call) (Some res)) (sym before) ∙ call_as_row (lock_of may.book) res call (subst (λ l. IsDueCall l res call) own turn)))))

    told : IsTurnOf (record { row = row; place = place }) entry
    told = record {
      row = record {
        tick = t.is.tick ∙ (sym may.stands.tick ∙ sym may.tick);
        resource = resource;
        kind = kind;
        ahead = ahead_told row.ahead (ahead_of_call call) ahead;
      };
      place = at ∙ ap Some (ap (λ b. let placed : Place = record { number = p.number; polled = b } in placed) polled);
    }
      where
        ahead_told : (a o : Option ℕ) → a ≡ o → IfSome a (λ n. o ≡ Some n)
        ahead_told None o e = tt
        ahead_told (Some n) o e = sym e

-- the turn as the log has it
pub has_turned : (board : BoardModel) (m next : MachineModel) (log longer : LogModel) (seat back : SeatModel) (row : Row) (place : Option Place) → MayTurn board m log seat → Turned m next log row
    → IsStepSince m.core seat place back → HasAsked m.plan row (port_of row.core seat) (port_of row.core back)
    → longer ≡ record { core = log.core; ticks = log.ticks; turns = log.turns ++ record { row = row; place = place } ∷ [] } → HasTurned board (core_with m log seat) row (core_with next longer back)
has_turned board m next log longer seat back row place may t since touches is =
    subst (λ l. HasTurned board (core_with m log seat) row (core_with next l back)) (sym is) (after_told board m next log seat back row place may t (told_by board m log seat back row place may t.is since touches))
