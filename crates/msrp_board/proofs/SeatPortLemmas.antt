-- A port over a core's seat: what a port asks for is what the board asks for, and a step adds one
-- call.
use Rattle.std.proofs.Common.{◌==◌, ◌||◌, ◌≡◌, ◌≢◌, ◌<◌, ◌∷◌, ◌++◌, ◌∙◌}
use Rattle.msrp_plan.proofs.Common.{ℕ, [], Bool, true, false, refl, sym, ap, subst, arith, eq-eqb, list_any, list_any-append, dite, ℕ_discrete, claim_after}
use Rattle.msrp_board.proofs.Common.{Admitted, BoardModel, Book, Call, Done, Entry, MayAct, Phase, ResId, SeatModel, SeatPhase, Waiting, book_with_entry, has_acted, with_entry}
use Rattle.msrp_board.specs.declared.answers.SeatPhase.TheVariants.{Stopped}
use Rattle.msrp_board.specs.SeatPorts.{calls_in, port_calls, room_by, room_in, port_room, IsPort, AddsCall}
use Rattle.msrp_board.proofs.Told.{res_calls_last}
use Rattle.msrp_board.proofs.CoreSeats.{core_changed}
use Rattle.msrp_board.proofs.SeatBooks.{no_other_book}

-- who has room has not acted
quiet_of : (phase : SeatPhase) (acted : Bool) → 0 < room_by phase acted → acted ≡ false
quiet_of Waiting acted h = absurd (omega (arith, h))
quiet_of Admitted true h = absurd (omega (arith, h))
quiet_of Admitted false h = refl
quiet_of Done acted h = absurd (omega (arith, h))
quiet_of Stopped acted h = absurd (omega (arith, h))

-- only the core of the seat has room
room_none : (board : BoardModel) (c k : ℕ) (seat : SeatModel) → IsPort board c seat → k ≢ c → port_room seat k ≡ 0
room_none board c k seat p n = ap (room_in seat.board.size.ticks) (no_other_book seat c k p.book p.of_core n)

room_own : (board : BoardModel) (c : ℕ) (seat : SeatModel) (p : IsPort board c seat) → port_room seat c ≡ room_by Admitted (has_acted p.book)
room_own board c seat p = ap (room_in seat.board.size.ticks) p.of_core.book ∙ ap (λ x. room_by x (has_acted p.book)) p.stands

-- whoever has room in a port is the core of its seat, and may act
pub port_core : (board : BoardModel) (c k : ℕ) (seat : SeatModel) → IsPort board c seat → 0 < port_room seat k → k ≡ c
port_core board c k seat p room = dite (ℕ_discrete k c) (λ q. q) (λ n. let e = room_none board c k seat p n in absurd (omega (arith, room, e)))

pub port_acts : (board : BoardModel) (c k : ℕ) (seat : SeatModel) (lock : Phase) → IsPort board c seat → 0 < port_room seat k → claim_after (port_calls seat k) ≡ lock → MayAct lock seat
port_acts board c k seat lock p room claims =
    let same = port_core board c k seat p room in
    let own = ap (port_room seat) same ∙ room_own board c seat p in
    record {
      at = record { core = c; book = p.book; of_core = p.of_core; stands = p.stands };
      quiet = quiet_of Admitted (has_acted p.book) (omega (arith, room, own));
      claims = sym (ap (λ o. claim_after (calls_in o)) p.of_core.book) ∙ ap (λ j. claim_after (port_calls seat j)) (sym same) ∙ claims;
    }

last_any : (a x : Bool) → x ≡ true → (a || (x || false)) ≡ true
last_any true x e = refl
last_any false true e = refl
last_any false false e = e

acts_now : (res : ResId) (place : ℕ) (call : Call) (b : Book) → has_acted (book_with_entry res place call b) ≡ true
acts_now res place call b =
    let new : Entry = record { tick = b.tick; res = res; place = place; call = call } in
    list_any-append (λ (e : Entry). e.tick == b.tick) b.entries (new ∷ []) ∙ last_any (list_any (λ e. e.tick == b.tick) b.entries) (b.tick == b.tick) (eq-eqb b.tick b.tick refl)

-- a step of the seat adds one call
pub port_adds : (board : BoardModel) (c k : ℕ) (old new : SeatModel) (res : ResId) (place : ℕ) (call : Call) → IsPort board c old → 0 < port_room old k → new ≡ with_entry res place call old → AddsCall k res call old new × IsPort board c new
port_adds board c k old new res place call p room is =
    let same = port_core board c k old p room in
    subst (λ n. AddsCall k res call old n × IsPort board c n) (sym is) (subst (λ j. AddsCall j res call old (with_entry res place call old) × IsPort board c (with_entry res place call old)) (sym same) (adds, port))
  where
    book : Book
    book = book_with_entry res place call p.book

    port : IsPort board c (with_entry res place call old)
    port = record { on = p.on; book = book; of_core = core_changed (book_with_entry res place call) old c p.book p.of_core; stands = p.stands }

    adds : AddsCall c res call old (with_entry res place call old)
    adds = record {
      calls = ap calls_in port.of_core.book ∙ res_calls_last p.book.entries (record { tick = p.book.tick; res = res; place = place; call = call }) ∙ ap (λ o. calls_in o ++ (res, call) ∷ []) (sym p.of_core.book);
      room = let was = quiet_room in let now = room_own board c (with_entry res place call old) port ∙ ap (room_by Admitted) (acts_now res place call p.book) in omega (arith, was, now);
      others = λ d n. room_none board c d (with_entry res place call old) port n ∙ sym (room_none board c d old p n);
      board = refl;
    }
      where
        quiet_room : port_room old c ≡ 1
        quiet_room = room_own board c old p ∙ ap (room_by Admitted) (quiet_of Admitted (has_acted p.book) (let same = port_core board c k old p room in let own = ap (port_room old) same ∙ room_own board c old p in omega (arith, room, own)))
