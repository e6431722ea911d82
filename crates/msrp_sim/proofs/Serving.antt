-- Queues of tickets over each call, and the locks that they stand for.
use Rattle.msrp_plan.proofs.Common.{ℕ, zero, suc, Bool, true, false, cond, List, [], refl, ap, sym, subst, arith, length, length-append, map, set, replicate, get_or, eq-eqb, inl, inr, All, sum_by, AllByRecursion, filter, cases_Bool, cases_lt, eqb-false, get_or_past, sum_by-set, none-some, recursion_from_All, FifoLock, free_lock, IsAmong, Answers, lock_after, lock_from, IsDueCall}
use Rattle.msrp_plan.specs.declared.ids.ResId.{ResId}
use Rattle.msrp_plan.specs.declared.units.Call.{Call}
use Rattle.msrp_plan.specs.declared.units.Call.TheVariants.{Ask, Poll, Leave}
use Rattle.msrp_plan.specs.declared.units.Phase.{Phase}
use Rattle.msrp_plan.specs.declared.units.Phase.TheVariants.{Free, Queued, Holding}
use Rattle.std.proofs.Common.{◌≡◌, ◌≢◌, ◌+◌, ◌-◌, ◌<◌, ◌≤◌, ◌==◌, ◌∷◌, ◌++◌, ◌∙◌, get_or-set_same, get_or-set_other}
use Rattle.std.proofs.lemmas.Bool.{eqb-true}
use Rattle.msrp_core.specs.Ports.{asked, core_call, calls_on}
use Rattle.msrp_core.specs.declared.port.PortCall.{PortCall}
use Rattle.msrp_core.specs.declared.port.Reply.{Reply}
use Rattle.msrp_core.specs.declared.port.Reply.TheVariants.{Taken, Queued as Replied}
use Rattle.msrp_sim.specs.Served.{lock_after_calls, IsClaim, IsStance, Out, Waits, Holds, stance_of, IsTicketed}
use Rattle.msrp_sim.specs.Serving.{tickets_in, queue_of, ticket_of, AreDrawn, IsServing, IsTold, MovesBy, Notes}
use Rattle.msrp_sim.specs.declared.tickets.Queues.{Queues}
use Rattle.msrp_sim.specs.declared.tickets.Tickets.{Tickets}
use Rattle.msrp_sim.proofs.Histories.{claims_push, once_by_ticket, ticketed_ask, ticketed_apart, ticketed_leave, first_by_ticket, ticket_of_first}

here : (res : ResId) → (res.0 == res.0) ≡ true
here res = eq-eqb res.0 res.0 refl

-- ---- how a core stands to the locks
module _ (locks : ℕ → FifoLock) (c : ℕ) (claim : Phase) (stands : IsClaim locks c claim) where
  -- a free core stands in no queue
  pub out_of : claim ≡ Free → (g : ℕ) → ¬ IsAmong (locks g).queue c
  out_of free g = subst (λ p. IsStance (locks g) c (stance_of g p)) free (stands g)

  -- a queued one waits
  pub waits_at : (res : ResId) → claim ≡ Queued res → IsStance (locks res.0) c Waits
  waits_at res queued = subst (IsStance (locks res.0) c) (ap (stance_of res.0) queued ∙ ap (λ b. cond b Waits Out) (here res)) (stands res.0)

  -- a holding one holds
  pub holds_at : (res : ResId) → claim ≡ Holding res → IsStance (locks res.0) c Holds
  holds_at res holding = subst (IsStance (locks res.0) c) (ap (stance_of res.0) holding ∙ ap (λ b. cond b Holds Out) (here res)) (stands res.0)

-- a resource that nobody called has no queue
none_on : (calls : List PortCall) (g bound : ℕ) → bound ≤ g → AllByRecursion (λ e. e.res.0 < bound) calls → calls_on g calls ≡ []
none_on [] g bound past all = refl
none_on (e ∷ calls) g bound past all = elim (cases_Bool (e.res.0 == g)) [
  | inl on ↦ absurd (let n = eqb-true e.res.0 g on in omega (arith, n, past, all.0))
  | inr off ↦ ap (λ b. map core_call (cond b (e ∷ filter (λ x. x.res.0 == g) calls) (filter (λ x. x.res.0 == g) calls))) off ∙ none_on calls g bound past all.1
]

-- so what a core waits for or holds is one of the port's resources
pub known_by : (calls : List PortCall) (c g bound : ℕ) → All (λ e. e.res.0 < bound) calls → IsAmong (lock_after_calls calls g).queue c → g < bound
known_by calls c g bound all among = elim (cases_lt g bound) [
  | inl within ↦ within
  | inr past ↦ absurd (subst (λ h. IsAmong (lock_from free_lock h).queue c) (none_on calls g bound past (recursion_from_All (λ e. e.res.0 < bound) calls all)) among)
]

-- a request of a free core is due, whatever the reply
pub asked_in_turn : (claim : Phase) (res : ResId) (reply : Reply) → claim ≡ Free → IsDueCall claim res (asked reply)
asked_in_turn claim res Taken free = free
asked_in_turn claim res (Replied n) free = free

-- ---- what the tickets answer
-- a call that is due, and answered as the tickets stand, is answered as its lock answers
module _ (locks : ℕ → FifoLock) (claims : ℕ → Phase) (q : Queues) (serving : IsServing locks claims q) (c : ℕ) (res : ResId) where
  poll_answers : (granted : Bool) → claims c ≡ Queued res → granted ≡ (ticket_of q c == (queue_of q res.0).serving) → Answers (locks res.0) c (Poll granted)
  poll_answers true queued is =
      let w = waits_at locks c (claims c) (serving.stances c) res queued in
      let first = first_by_ticket _ _ _ _ c (serving.tickets res.0) w.0 (eqb-true _ _ (sym is)) in
      (first, w.1 first)
  poll_answers false queued is =
      let w = waits_at locks c (claims c) (serving.stances c) res queued in
      (w.0, λ first. eqb-false _ _ (sym is) (ticket_of_first _ _ _ _ c (serving.tickets res.0) first))

  pub told_answers : (call : Call) → IsDueCall (claims c) res call → IsTold q c res.0 call → Answers (locks res.0) c call
  told_answers (Ask ahead) turn told = (out_of locks c (claims c) (serving.stances c) turn res.0, let n = (serving.tickets res.0).size in omega (arith, n, told))
  told_answers (Poll granted) turn told = poll_answers granted turn told
  told_answers Leave turn told = holds_at locks c (claims c) (serving.stances c) res turn

  pub asked_answers : (reply : Reply) → claims c ≡ Free → IsTold q c res.0 (asked reply) → Answers (locks res.0) c (asked reply)
  asked_answers reply free told = told_answers (asked reply) (asked_in_turn (claims c) res reply free) told

-- ---- one call more
-- tickets stay those of their locks, by whether the call is of the resource
by_resource : (e : PortCall) (locks after : ℕ → FifoLock) (claims newer : ℕ → Phase) (q : Queues) → MovesBy e locks after claims newer
    → IsTicketed (lock_after (locks e.res.0) e.core.0 e.call).queue (queue_of q e.res.0).next (queue_of q e.res.0).serving (ticket_of q)
    → ((g : ℕ) → g ≢ e.res.0 → IsTicketed (locks g).queue (queue_of q g).next (queue_of q g).serving (ticket_of q))
    → (g : ℕ) → IsTicketed (after g).queue (queue_of q g).next (queue_of q g).serving (ticket_of q)
by_resource e locks after claims newer q moves own others g = elim (cases_Bool (e.res.0 == g)) [
  | inl on ↦
      let at : e.res.0 ≡ g = eqb-true e.res.0 g on in
      subst (λ h. IsTicketed (after h).queue (queue_of q h).next (queue_of q h).serving (ticket_of q)) at
      (subst (λ (l : FifoLock). IsTicketed l.queue (queue_of q e.res.0).next (queue_of q e.res.0).serving (ticket_of q)) (sym moves.lock) own)
  | inr off ↦ subst (λ (l : FifoLock). IsTicketed l.queue (queue_of q g).next (queue_of q g).serving (ticket_of q)) (sym (moves.other_locks g off)) (others g (λ h. eqb-false e.res.0 g off (sym h)))
]

serving_push : (e : PortCall) (locks after : ℕ → FifoLock) (claims newer : ℕ → Phase) (old new : Queues) → IsServing locks claims old → MovesBy e locks after claims newer → Answers (locks e.res.0) e.core.0 e.call → IsDueCall (claims e.core.0) e.res e.call
    → ((g : ℕ) → IsTicketed (after g).queue (queue_of new g).next (queue_of new g).serving (ticket_of new)) → IsServing after newer new
serving_push e locks after claims newer old new s moves answers turn tickets = record {
  stances = claims_push e locks after claims newer moves answers turn (once_by_ticket _ _ _ _ e.core.0 (s.tickets e.res.0)) s.stances;
  tickets = tickets;
}

-- as many tickets, or one more of one resource
pub drawn_more : (q : Queues) (n : ℕ) → AreDrawn q n → AreDrawn q (n + 1)
drawn_more q n old g = let h = old g in (omega (arith, h.0), omega (arith, h.1))

drawn_set : (q : Queues) (g n : ℕ) (new : Tickets) (tickets : List ℕ) → g < length q.queues → new.next ≤ n + 1 → new.serving ≤ n + 1 → AreDrawn q n → AreDrawn (record { queues = set q.queues g new; tickets = tickets }) (n + 1)
drawn_set q g n new tickets inq next serving old h = elim (cases_Bool (h == g)) [
  | inl on ↦
      let none : Tickets = record { next = 0; serving = 0 } in
      let same : tickets_in (set q.queues g new) h ≡ new = ap (tickets_in (set q.queues g new)) (eqb-true h g on) ∙ get_or-set_same q.queues g new none inq in
      let a = ap (λ (t : Tickets). t.next) same in
      let b = ap (λ (t : Tickets). t.serving) same in
      (omega (arith, a, next), omega (arith, b, serving))
  | inr off ↦
      let none : Tickets = record { next = 0; serving = 0 } in
      let same : tickets_in (set q.queues g new) h ≡ tickets_in q.queues h = get_or-set_other q.queues g h new none (eqb-false h g off) in
      let a = ap (λ (t : Tickets). t.next) same in
      let b = ap (λ (t : Tickets). t.serving) same in
      let o = old h in
      (omega (arith, a, o.0), omega (arith, b, o.1))
]

-- the call by what it is
as_call : (e : PortCall) (call : Call) (old new : Queues) → e.call ≡ call → Notes (record { core = e.core; res = e.res; call = call }) old new → Notes e old new
as_call e call old new is h = subst (λ k. Notes (record { core = e.core; res = e.res; call = k }) old new) (sym is) h

-- a request
pub notes_ask : (e : PortCall) (ahead : ℕ) (q : Queues) → e.call ≡ Ask ahead → e.res.0 < length q.queues → e.core.0 < length q.tickets
    → Notes e q (record { queues = set q.queues e.res.0 (record { next = (queue_of q e.res.0).next + 1; serving = (queue_of q e.res.0).serving }); tickets = set q.tickets e.core.0 (queue_of q e.res.0).next })
notes_ask e ahead q is inq int =
    let none : Tickets = record { next = 0; serving = 0 } in
    let t = queue_of q e.res.0 in
    let more : Tickets = record { next = t.next + 1; serving = t.serving } in
    let new : Queues = record { queues = set q.queues e.res.0 more; tickets = set q.tickets e.core.0 t.next } in
    let others = λ (d : ℕ) (ne : d ≢ e.core.0). get_or-set_other q.tickets e.core.0 d t.next 0 ne in
    as_call e (Ask ahead) q new is (record {
      serving = λ locks after claims newer s moves answers turn.
          let out = out_of locks e.core.0 (claims e.core.0) (s.stances e.core.0) turn in
          serving_push (record { core = e.core; res = e.res; call = Ask ahead }) locks after claims newer q new s moves answers turn
          (by_resource (record { core = e.core; res = e.res; call = Ask ahead }) locks after claims newer new moves
          (subst (λ (k : Tickets). IsTicketed ((locks e.res.0).queue ++ e.core.0 ∷ []) k.next k.serving (ticket_of new)) (sym (get_or-set_same q.queues e.res.0 more none inq))
          (ticketed_ask (locks e.res.0).queue t.next t.serving (ticket_of q) (ticket_of new) e.core.0 (s.tickets e.res.0) (out e.res.0) (get_or-set_same q.tickets e.core.0 t.next 0 int) others))
          (λ g ne. subst (λ (k : Tickets). IsTicketed (locks g).queue k.next k.serving (ticket_of new)) (sym (get_or-set_other q.queues e.res.0 g more none ne))
          (ticketed_apart (locks g).queue (queue_of q g).next (queue_of q g).serving (ticket_of q) (ticket_of new) e.core.0 (s.tickets g) (out g) others)));
      drawn = λ n old. let o = old e.res.0 in drawn_set q e.res.0 n more (set q.tickets e.core.0 t.next) inq (omega (arith, o.0)) (omega (arith, o.1)) old;
    })

-- a poll
pub notes_poll : (e : PortCall) (granted : Bool) (q : Queues) → e.call ≡ Poll granted → Notes e q q
notes_poll e granted q is = as_call e (Poll granted) q q is (record {
  serving = λ locks after claims newer s moves answers turn.
      serving_push (record { core = e.core; res = e.res; call = Poll granted }) locks after claims newer q q s moves answers turn
      (by_resource (record { core = e.core; res = e.res; call = Poll granted }) locks after claims newer q moves (s.tickets e.res.0) (λ g ne. s.tickets g));
  drawn = drawn_more q;
})

-- a release
pub notes_leave : (e : PortCall) (q : Queues) → e.call ≡ Leave → e.res.0 < length q.queues
    → Notes e q (record { queues = set q.queues e.res.0 (record { next = (queue_of q e.res.0).next; serving = (queue_of q e.res.0).serving + 1 }); tickets = q.tickets })
notes_leave e q is inq =
    let none : Tickets = record { next = 0; serving = 0 } in
    let t = queue_of q e.res.0 in
    let served : Tickets = record { next = t.next; serving = t.serving + 1 } in
    let new : Queues = record { queues = set q.queues e.res.0 served; tickets = q.tickets } in
    as_call e Leave q new is (record {
      serving = λ locks after claims newer s moves answers turn.
          serving_push (record { core = e.core; res = e.res; call = Leave }) locks after claims newer q new s moves answers turn
          (by_resource (record { core = e.core; res = e.res; call = Leave }) locks after claims newer new moves
          (subst (λ (k : Tickets). IsTicketed (lock_after (locks e.res.0) e.core.0 Leave).queue k.next k.serving (ticket_of new)) (sym (get_or-set_same q.queues e.res.0 served none inq))
          (ticketed_leave (locks e.res.0).queue t.next t.serving (ticket_of q) e.core.0 (s.tickets e.res.0) answers.0))
          (λ g ne. subst (λ (k : Tickets). IsTicketed (locks g).queue k.next k.serving (ticket_of new)) (sym (get_or-set_other q.queues e.res.0 g served none ne)) (s.tickets g)));
      drawn = λ n old. let o = old e.res.0 in drawn_set q e.res.0 n served q.tickets inq (omega (arith, o.0)) (omega (arith, o.1)) old;
    })

-- ---- the same locks and claims
pub serving_as : (locks after : ℕ → FifoLock) (claims newer : ℕ → Phase) (q : Queues) → ((g : ℕ) → after g ≡ locks g) → ((c : ℕ) → newer c ≡ claims c) → IsServing locks claims q → IsServing after newer q
serving_as locks after claims newer q same hold s = record {
  stances = λ c g. subst (λ p. IsStance (after g) c (stance_of g p)) (sym (hold c)) (subst (λ l. IsStance l c (stance_of g (claims c))) (sym (same g)) (s.stances c g));
  tickets = λ g. subst (λ (l : FifoLock). IsTicketed l.queue (queue_of q g).next (queue_of q g).serving (ticket_of q)) (sym (same g)) (s.tickets g);
}

-- ---- rooms and numbers
-- a core with room is one of the port's
pub room_within : (rooms : List ℕ) (c : ℕ) → 0 < get_or rooms c 0 → c < length rooms
room_within rooms c left = elim (cases_lt c (length rooms)) [
  | inl within ↦ within
  | inr past ↦ absurd (let e = get_or_past rooms c 0 past in omega (arith, e, left))
]

-- a call takes one of its core's room
pub room_kept : (rooms : List ℕ) (c room : ℕ) (calls : List PortCall) (e : PortCall) → 0 < get_or rooms c 0 → length calls + sum_by (λ n. n) rooms ≤ room → length (calls ++ e ∷ []) + sum_by (λ n. n) (set rooms c (get_or rooms c 0 - 1)) ≤ room
room_kept rooms c room calls e left fits =
    let a = sum_by-set (λ n. n) rooms c (get_or rooms c 0 - 1) 0 (room_within rooms c left) in
    let b = length-append calls (e ∷ []) in
    omega (arith, a, b, left, fits)

-- ---- before the first call
-- where nothing was drawn every place has the same tickets
pub same_everywhere : (none : Tickets) (n g : ℕ) → get_or (replicate n none) g none ≡ none
same_everywhere none zero g = refl
same_everywhere none (suc n) zero = refl
same_everywhere none (suc n) (suc g) = same_everywhere none n g

pub serving_none : (q : Queues) → ((g : ℕ) → queue_of q g ≡ record { next = 0; serving = 0 }) → IsServing (λ _. free_lock) (λ _. Free) q
serving_none q none = record {
  stances = λ c g h. h;
  tickets = λ g. record {
    size = let e = ap (λ (t : Tickets). t.next) (none g) in let f = ap (λ (t : Tickets). t.serving) (none g) in omega (arith, e, f);
    place = λ i c h. absurd (none-some c h);
  };
}

pub drawn_none : (q : Queues) → ((g : ℕ) → queue_of q g ≡ record { next = 0; serving = 0 }) → AreDrawn q 0
drawn_none q none g = let e = ap (λ (t : Tickets). t.next) (none g) in let f = ap (λ (t : Tickets). t.serving) (none g) in (omega (arith, e), omega (arith, f))
