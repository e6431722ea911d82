-- A seat port keeps the promises of a port: what it is asked for the board is asked for, and a step
-- adds one call.
use Rattle.std.proofs.Common.{◌==◌, ◌≡◌, ◌<◌, ◌≤◌, ◌∷◌, ◌++◌, ◌∙◌}
use Rattle.msrp_plan.proofs.Common.{ℕ, List, [], map, cond, Bool, true, false, Option, Some, None, refl, sym, ap, subst, arith, eq-eqb, filter, map-append, ResCall, claim_after, IsDueCall}
use Rattle.msrp_run.proofs.Common.{Adds, AddsCall, Admitted, BoardModel, Book, Call, CoreId, Done, IsPort, IsSeatPort, IsStepSince, MayAct, Phase, Place, PortCall, ResId, SeatModel, SeatPhase, Stopped, Waiting, book_at, calls_by, calls_of, claim_in, has_acted, is_poll, phase_in, port_acts, port_adds, port_calls, port_core, port_of, port_room, res_call, room_by, room_in, with_entry}

-- the calls of the seat's core are all of them
pub own_calls : (core : CoreId) (xs : List ResCall) → calls_of core.0 (calls_by core xs) ≡ xs
own_calls core [] = refl
own_calls core (x ∷ xs) =
    let e : PortCall = record { core = core; res = x.0; call = x.1 } in
    let rest : List PortCall = filter (λ (e : PortCall). e.core.0 == core.0) (calls_by core xs) in
    ap (λ b. map res_call (cond b (e ∷ rest) rest)) (eq-eqb core.0 core.0 refl) ∙ ap (λ ys. x ∷ ys) (own_calls core xs)

pub core_is : (a b : CoreId) → a.0 ≡ b.0 → a ≡ b
core_is a b e = let named : ℕ → CoreId = λ n. record { 0 = n } in ap named e

room_by_low : (phase : SeatPhase) (acted : Bool) → room_by phase acted ≤ 1
room_by_low Waiting acted = omega arith
room_by_low Admitted true = omega arith
room_by_low Admitted false = omega arith
room_by_low Done acted = omega arith
room_by_low Stopped acted = omega arith

room_in_low : (ticks : ℕ) (o : Option Book) → room_in ticks o ≤ 1
room_in_low ticks None = omega arith
room_in_low ticks (Some b) = room_by_low (phase_in ticks b) (has_acted b)

-- what the core holds or awaits is what its calls say
pub claim_is : (core k : CoreId) (seat : SeatModel) → k.0 ≡ core.0 → claim_in k.0 (calls_by core (port_calls seat core.0)) ≡ claim_after (port_calls seat core.0)
claim_is core k seat at = ap (λ n. claim_in n (calls_by core (port_calls seat core.0))) at ∙ ap claim_after (own_calls core (port_calls seat core.0))

-- whoever has room is the core of the seat, and may act
pub seat_acts : (c : ℕ) (first : SeatModel) (board : BoardModel) (core k : CoreId) (place : Option Place) (seat : SeatModel) (lock : Phase) → IsSeatPort c first board core place seat
    → 0 < port_room seat k.0 → claim_in k.0 (calls_by core (port_calls seat core.0)) ≡ lock → MayAct lock seat
seat_acts c first board core k place seat lock p room claims =
    let at : k.0 ≡ core.0 = port_core board c k.0 seat p.port room ∙ sym p.of_core in
    port_acts board c k.0 seat lock p.port room (ap (λ n. claim_after (port_calls seat n)) at ∙ (sym (claim_is core k seat at) ∙ claims))

-- whoever has room has made no step yet
untouched : (c k : ℕ) (first seat : SeatModel) (place : Option Place) → k ≡ c → 0 < port_room seat k → IsStepSince c first place seat → seat ≡ first
untouched c k first seat None same room since = since
untouched c k first seat (Some p) same room since = let none = ap (port_room seat) same ∙ since.4 in absurd (omega (arith, room, none))

-- a step through the seat adds one call of its core
pub seat_adds : (c : ℕ) (first : SeatModel) (board : BoardModel) (core k : CoreId) (place : Option Place) (old new : SeatModel) (res : ResId) (number : ℕ) (call : Call) → IsSeatPort c first board core place old
    → 0 < port_room old k.0 → IsDueCall (claim_in k.0 (calls_by core (port_calls old core.0))) res call → new ≡ with_entry res number call old
    → Adds k res call (port_of core old) (port_of core new) × IsSeatPort c first board core (Some record { number = number; polled = is_poll call }) new
seat_adds c first board core k place old new res number call p room turn is = (
  record {
    calls =
        ap (λ n. calls_by core (port_calls new n)) (sym at)
        ∙ (ap (calls_by core) added.calls
        ∙ (map-append (λ (s : ResCall). record { core = core; res = s.0; call = s.1 }) (port_calls old k.0) ((res, call) ∷ [])
        ∙ (ap (λ n. calls_by core (port_calls old n) ++ record { core = core; res = res; call = call } ∷ []) at
        ∙ ap (λ (o : CoreId). calls_by core (port_calls old core.0) ++ record { core = o; res = res; call = call } ∷ []) (sym (core_is k core at)))));
    room = added.room;
    others = added.others;
    resources = ap (λ (b : BoardModel). b.size.resources) added.board;
  },
  record { of_core = p.of_core; port = both.1; since = (res, call, refl, is ∙ ap (with_entry res number call) first_is, none_left, in_turn) },
)
  where
    both : AddsCall k.0 res call old new × IsPort board c new
    both = port_adds board c k.0 old new res number call p.port room is

    added : AddsCall k.0 res call old new
    added = both.0

    mine : k.0 ≡ c
    mine = port_core board c k.0 old p.port room

    at : k.0 ≡ core.0
    at = mine ∙ sym p.of_core

    first_is : old ≡ first
    first_is = untouched c k.0 first old place mine room p.since

    none_left : port_room new c ≡ 0
    none_left = let low = room_in_low old.board.size.ticks (book_at old k.0) in let e = added.room in let same = ap (port_room new) mine in omega (arith, low, e, same)

    in_turn : IsDueCall (claim_after (port_calls first c)) res call
    in_turn = subst (λ l. IsDueCall l res call) (claim_is core k old at ∙ (ap (λ s. claim_after (port_calls s core.0)) first_is ∙ ap (λ n. claim_after (port_calls first n)) p.of_core)) turn
