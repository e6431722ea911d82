-- Calls that are answered first-in-first-out, and one call more.
use Rattle.std.proofs.Common.{◌≡◌, ◌≢◌, ◌+◌, ◌==◌, ◌∷◌, ◌++◌, ◌∙◌}
use Rattle.msrp_plan.proofs.Common.{ℕ, zero, suc, Bool, true, false, cond, List, [], Some, refl, ap, sym, subst, arith, length, length-append, map, slice_get, eq-eqb, inl, inr, append-nil, filter, cases_Bool, eqb-false, map-append, filter-append, fold_push, FifoLock, free_lock, IsAmong, IsFirst, Answers, without_first, lock_after, Legal, lock_from, ResCall, claim_with, claim_after, IsDueCall}
use Rattle.msrp_plan.specs.declared.ids.ResId.{ResId}
use Rattle.msrp_plan.specs.declared.units.Call.{Call}
use Rattle.msrp_plan.specs.declared.units.Call.TheVariants.{Ask, Poll, Leave}
use Rattle.msrp_plan.specs.declared.units.Phase.{Phase}
use Rattle.msrp_plan.specs.declared.units.Phase.TheVariants.{Free}
use Rattle.std.proofs.lemmas.Bool.{eqb-true}
use Rattle.msrp_core.specs.Ports.{core_call, res_call, calls_of, calls_on, claim_in}
use Rattle.msrp_core.specs.declared.port.PortCall.{PortCall}
use Rattle.msrp_sim.specs.Served.{AreFifo, lock_after_calls, Stance, Out, Waits, Holds, IsStance, stance_of, IsClaim, IsTicketed}
use Rattle.msrp_sim.specs.Serving.{MovesBy}
use Rattle.msrp_sim.proofs.Queues.{among_at, place_of, first_at, at_first, first_among, one_first, among_push, among_pushed, among_last, first_push, first_pushed, place_pushed, place_rest, among_rest, rest_among, length_rest}
use Rattle.msrp_plan.proofs.Queues.LockHistories.{legal_push}

-- ---- a legal history, and one call more
lock_push : (h : List (ℕ × Call)) (s : ℕ × Call) → lock_from free_lock (h ++ s ∷ []) ≡ lock_after (lock_from free_lock h) s.0 s.1
lock_push h s = fold_push (λ before s. lock_after before s.0 s.1) free_lock h s

-- ---- the calls of a resource and of a core, and one call more
pub on_push : (g : ℕ) (calls : List PortCall) (e : PortCall) (b : Bool) → (e.res.0 == g) ≡ b → calls_on g (calls ++ e ∷ []) ≡ calls_on g calls ++ cond b ((e.core.0, e.call) ∷ []) []
on_push g calls e b h = ap (map core_call) (filter-append (λ x. x.res.0 == g) calls (e ∷ [])) ∙ (map-append core_call (filter (λ x. x.res.0 == g) calls) (cond (e.res.0 == g) (e ∷ []) []) ∙ ap (λ l. calls_on g calls ++ l) (one b h))
  where
    one : (b : Bool) → (e.res.0 == g) ≡ b → map core_call (cond (e.res.0 == g) (e ∷ []) []) ≡ cond b ((e.core.0, e.call) ∷ []) []
    one true h = ap (λ c. map core_call (cond c (e ∷ []) [])) h
    one false h = ap (λ c. map core_call (cond c (e ∷ []) [])) h

of_push : (c : ℕ) (calls : List PortCall) (e : PortCall) (b : Bool) → (e.core.0 == c) ≡ b → calls_of c (calls ++ e ∷ []) ≡ calls_of c calls ++ cond b ((e.res, e.call) ∷ []) []
of_push c calls e b h = ap (map res_call) (filter-append (λ x. x.core.0 == c) calls (e ∷ [])) ∙ (map-append res_call (filter (λ x. x.core.0 == c) calls) (cond (e.core.0 == c) (e ∷ []) []) ∙ ap (λ l. calls_of c calls ++ l) (one b h))
  where
    one : (b : Bool) → (e.core.0 == c) ≡ b → map res_call (cond (e.core.0 == c) (e ∷ []) []) ≡ cond b ((e.res, e.call) ∷ []) []
    one true h = ap (λ b. map res_call (cond b (e ∷ []) [])) h
    one false h = ap (λ b. map res_call (cond b (e ∷ []) [])) h

-- the claim of the call's core, and of another
pub claim_own : (calls : List PortCall) (e : PortCall) (c : ℕ) → e.core.0 ≡ c → claim_in c (calls ++ e ∷ []) ≡ claim_with (claim_in c calls) e.res e.call
claim_own calls e c at = ap claim_after (of_push c calls e true (eq-eqb e.core.0 c at)) ∙ fold_push (λ (claim : Phase) (s : ResCall). claim_with claim s.0 s.1) Free (calls_of c calls) (e.res, e.call)

pub claim_other : (calls : List PortCall) (e : PortCall) (c : ℕ) → (e.core.0 == c) ≡ false → claim_in c (calls ++ e ∷ []) ≡ claim_in c calls
claim_other calls e c off = ap claim_after (of_push c calls e false off ∙ append-nil (calls_of c calls))

-- the lock of the call's resource, and of another
pub lock_own : (calls : List PortCall) (e : PortCall) (g : ℕ) → e.res.0 ≡ g → lock_after_calls (calls ++ e ∷ []) g ≡ lock_after (lock_after_calls calls g) e.core.0 e.call
lock_own calls e g at = ap (lock_from free_lock) (on_push g calls e true (eq-eqb e.res.0 g at)) ∙ lock_push (calls_on g calls) (e.core.0, e.call)

pub lock_other : (calls : List PortCall) (e : PortCall) (g : ℕ) → (e.res.0 == g) ≡ false → lock_after_calls (calls ++ e ∷ []) g ≡ lock_after_calls calls g
lock_other calls e g off = ap (lock_from free_lock) (on_push g calls e false off ∙ append-nil (calls_on g calls))

-- an answered call keeps the histories legal
pub fifo_push : (calls : List PortCall) (e : PortCall) → AreFifo calls → Answers (lock_after_calls calls e.res.0) e.core.0 e.call → AreFifo (calls ++ e ∷ [])
fifo_push calls e fifo answers g = elim (cases_Bool (e.res.0 == g)) [
  | inl on ↦
      let at : e.res.0 ≡ g = eqb-true e.res.0 g on in
      subst Legal (sym (on_push g calls e true on)) (legal_push free_lock (calls_on g calls) (e.core.0, e.call) (fifo g) (subst (λ h. Answers (lock_after_calls calls h) e.core.0 e.call) at answers))
  | inr off ↦ subst Legal (sym (on_push g calls e false off ∙ append-nil (calls_on g calls))) (fifo g)
]

-- ---- how cores stand after one call more
none_waits : (q : List ℕ) (d : ℕ) → zero ≡ length q → IsAmong q d → ⊥
none_waits [] d h k = k
none_waits (c ∷ q) d h k = absurd (omega (arith, h))

first_alone : (q : List ℕ) (c : ℕ) → zero ≡ length q → IsFirst (q ++ c ∷ []) c
first_alone [] c h = refl
first_alone (d ∷ q) c h = absurd (omega (arith, h))

-- another core stands as before
stance_other : (lock : FifoLock) (c d : ℕ) (call : Call) (s : Stance) → c ≢ d → Answers lock c call → IsStance lock d s → IsStance (lock_after lock c call) d s
stance_other lock c d (Ask n) Out ne answers old = λ h. old (among_pushed lock.queue c d ne h)
stance_other lock c d (Ask zero) Waits ne answers old = absurd (none_waits lock.queue d answers.1 old.0)
stance_other lock c d (Ask (suc n)) Waits ne answers old = (among_push lock.queue c d old.0, λ f. elim (first_pushed lock.queue c d f) [ inl first ↦ old.1 first | inr h ↦ absurd (ne h.1) ])
stance_other lock c d (Ask zero) Holds ne answers old = (first_push lock.queue c d old.0, refl)
stance_other lock c d (Ask (suc n)) Holds ne answers old = (first_push lock.queue c d old.0, old.1)
stance_other lock c d (Poll true) Out ne answers old = old
stance_other lock c d (Poll true) Waits ne answers old = (old.0, λ f. absurd (ne (one_first lock.queue c d answers.0 f)))
stance_other lock c d (Poll true) Holds ne answers old = (old.0, refl)
stance_other lock c d (Poll false) Out ne answers old = old
stance_other lock c d (Poll false) Waits ne answers old = old
stance_other lock c d (Poll false) Holds ne answers old = old
stance_other lock c d Leave Out ne answers old = λ h. old (among_rest lock.queue d h)
stance_other lock c d Leave Waits ne answers old = (rest_among lock.queue c d answers.0 ne old.0, λ _. refl)
stance_other lock c d Leave Holds ne answers old = absurd (ne (one_first lock.queue c d answers.0 old.0))

-- how the call's core stands to the call's resource
abbrev stance_after : Call → Stance
stance_after (Ask zero) = Holds
stance_after (Ask (suc n)) = Waits
stance_after (Poll true) = Holds
stance_after (Poll false) = Waits
stance_after Leave = Out

-- a core stands in a queue once
abbrev IsOnce : List ℕ → ℕ → Type 0
IsOnce q c = IsFirst q c → ¬ IsAmong (without_first q) c

stance_own : (lock : FifoLock) (c : ℕ) (call : Call) → IsOnce lock.queue c → Answers lock c call → IsStance (lock_after lock c call) c (stance_after call)
stance_own lock c (Ask zero) once answers = (first_alone lock.queue c answers.1, refl)
stance_own lock c (Ask (suc n)) once answers = (among_last lock.queue c, λ f. elim (first_pushed lock.queue c c f) [ inl first ↦ absurd (answers.0 (first_among lock.queue c first)) | inr h ↦ absurd (let e = ap length h.0 in omega (arith, answers.1, e)) ])
stance_own lock c (Poll true) once answers = (answers.0, refl)
stance_own lock c (Poll false) once answers = (answers.0, λ f. absurd (answers.1 f))
stance_own lock c Leave once answers = once answers.0

-- so says its claim
stance_here : (claim : Phase) (res : ResId) (call : Call) → IsDueCall claim res call → stance_of res.0 (claim_with claim res call) ≡ stance_after call
stance_here claim res (Ask zero) turn = ap (λ b. cond b Holds Out) (eq-eqb res.0 res.0 refl)
stance_here claim res (Ask (suc n)) turn = ap (λ b. cond b Waits Out) (eq-eqb res.0 res.0 refl)
stance_here claim res (Poll true) turn = ap (λ b. cond b Holds Out) (eq-eqb res.0 res.0 refl)
stance_here claim res (Poll false) turn = ap (stance_of res.0) turn ∙ ap (λ b. cond b Waits Out) (eq-eqb res.0 res.0 refl)
stance_here claim res Leave turn = refl

-- and to other resources it stands as before
stance_there : (claim : Phase) (res : ResId) (call : Call) (g : ℕ) → (res.0 == g) ≡ false → IsDueCall claim res call → stance_of g (claim_with claim res call) ≡ stance_of g claim
stance_there claim res (Ask zero) g off turn = ap (λ b. cond b Holds Out) off ∙ sym (ap (stance_of g) turn)
stance_there claim res (Ask (suc n)) g off turn = ap (λ b. cond b Waits Out) off ∙ sym (ap (stance_of g) turn)
stance_there claim res (Poll true) g off turn = ap (λ b. cond b Holds Out) off ∙ sym (ap (stance_of g) turn ∙ ap (λ b. cond b Waits Out) off)
stance_there claim res (Poll false) g off turn = refl
stance_there claim res Leave g off turn = sym (ap (stance_of g) turn ∙ ap (λ b. cond b Holds Out) off)

-- ---- what the cores hold or await after one call more
module _ (e : PortCall) (locks after : ℕ → FifoLock) (claims newer : ℕ → Phase) (moves : MovesBy e locks after claims newer) (answers : Answers (locks e.res.0) e.core.0 e.call) (turn : IsDueCall (claims e.core.0) e.res e.call) (once : IsOnce (locks e.res.0).queue e.core.0) where
  own_here : (g : ℕ) → e.res.0 ≡ g → IsStance (after g) e.core.0 (stance_of g (newer e.core.0))
  own_here g at =
      let s : stance_of g (newer e.core.0) ≡ stance_after e.call = ap (stance_of g) moves.claim ∙ subst (λ h. stance_of h (claim_with (claims e.core.0) e.res e.call) ≡ stance_after e.call) at (stance_here (claims e.core.0) e.res e.call turn) in
      subst (IsStance (after g) e.core.0) (sym s)
      (subst (λ h. IsStance (after h) e.core.0 (stance_after e.call)) at (subst (λ l. IsStance l e.core.0 (stance_after e.call)) (sym moves.lock) (stance_own (locks e.res.0) e.core.0 e.call once answers)))

  own_there : (g : ℕ) → (e.res.0 == g) ≡ false → IsClaim locks e.core.0 (claims e.core.0) → IsStance (after g) e.core.0 (stance_of g (newer e.core.0))
  own_there g off old =
      let s : stance_of g (newer e.core.0) ≡ stance_of g (claims e.core.0) = ap (stance_of g) moves.claim ∙ stance_there (claims e.core.0) e.res e.call g off turn in
      subst (IsStance (after g) e.core.0) (sym s)
      (subst (λ l. IsStance l e.core.0 (stance_of g (claims e.core.0))) (sym (moves.other_locks g off)) (old g))

  other_stands : (c g : ℕ) → (e.core.0 == c) ≡ false → (b : Bool) → (e.res.0 == g) ≡ b → IsClaim locks c (claims c) → IsStance (after g) c (stance_of g (newer c))
  other_stands c g ne true on old =
      let at : e.res.0 ≡ g = eqb-true e.res.0 g on in
      subst (λ p. IsStance (after g) c (stance_of g p)) (sym (moves.other_claims c ne))
      (subst (λ h. IsStance (after h) c (stance_of h (claims c))) at
      (subst (λ l. IsStance l c (stance_of e.res.0 (claims c))) (sym moves.lock)
      (stance_other (locks e.res.0) e.core.0 c e.call (stance_of e.res.0 (claims c)) (eqb-false e.core.0 c ne) answers (old e.res.0))))
  other_stands c g ne false off old =
      subst (λ p. IsStance (after g) c (stance_of g p)) (sym (moves.other_claims c ne))
      (subst (λ l. IsStance l c (stance_of g (claims c))) (sym (moves.other_locks g off)) (old g))

  pub claims_push : ((c : ℕ) → IsClaim locks c (claims c)) → (c : ℕ) → IsClaim after c (newer c)
  claims_push old c g = elim (cases_Bool (e.core.0 == c)) [
    | inl mine ↦
        let at : e.core.0 ≡ c = eqb-true e.core.0 c mine in
        subst (λ d. IsStance (after g) d (stance_of g (newer d))) at
        (elim (cases_Bool (e.res.0 == g)) [ inl on ↦ own_here g (eqb-true e.res.0 g on) | inr off ↦ own_there g off (old e.core.0) ])
    | inr ne ↦ other_stands c g ne (e.res.0 == g) refl (old c)
  ]

-- the locks and claims that calls leave move so
pub calls_move : (calls : List PortCall) (e : PortCall) → MovesBy e (lock_after_calls calls) (lock_after_calls (calls ++ e ∷ [])) (λ c. claim_in c calls) (λ c. claim_in c (calls ++ e ∷ []))
calls_move calls e = record { lock = lock_own calls e e.res.0 refl; other_locks = λ g off. lock_other calls e g off; claim = claim_own calls e e.core.0 refl; other_claims = λ c off. claim_other calls e c off }

-- ---- tickets
-- a core stands at one place, since it has one ticket
pub once_by_ticket : (q : List ℕ) (next serving : ℕ) (ticket : ℕ → ℕ) (c : ℕ) → IsTicketed q next serving ticket → IsOnce q c
once_by_ticket q next serving ticket c h first again =
    let at = place_of (without_first q) c again in
    let a : ticket c ≡ serving + suc at.0 = h.place (suc at.0) c (place_rest q at.0 c at.1) in
    let b : ticket c ≡ serving + 0 = h.place 0 c (at_first q c first) in
    absurd (omega (arith, a, b))

-- a request draws the next ticket
pub ticketed_ask : (q : List ℕ) (next serving : ℕ) (ticket after : ℕ → ℕ) (c : ℕ) → IsTicketed q next serving ticket → ¬ IsAmong q c → after c ≡ next → ((d : ℕ) → d ≢ c → after d ≡ ticket d) → IsTicketed (q ++ c ∷ []) (next + 1) serving after
ticketed_ask q next serving ticket after c h out mine others = record {
  size = let a = h.size in let b = length-append q (c ∷ []) in omega (arith, a, b);
  place = λ i d at. elim (place_pushed q c d i at) [
    | inl there ↦ others d (λ e. out (subst (IsAmong q) e (among_at q i d there))) ∙ h.place i d there
    | inr here ↦ let a = h.size in let m : after d ≡ next = ap after (sym here.1) ∙ mine in let l = here.0 in omega (arith, m, a, l)
  ];
}

-- it leaves the tickets of the queues that its core isn't in
pub ticketed_apart : (q : List ℕ) (next serving : ℕ) (ticket after : ℕ → ℕ) (c : ℕ) → IsTicketed q next serving ticket → ¬ IsAmong q c → ((d : ℕ) → d ≢ c → after d ≡ ticket d) → IsTicketed q next serving after
ticketed_apart q next serving ticket after c h out others = record { size = h.size; place = λ i d at. others d (λ e. out (subst (IsAmong q) e (among_at q i d at))) ∙ h.place i d at }

-- a release serves the one after
pub ticketed_leave : (q : List ℕ) (next serving : ℕ) (ticket : ℕ → ℕ) (c : ℕ) → IsTicketed q next serving ticket → IsFirst q c → IsTicketed (without_first q) next (serving + 1) ticket
ticketed_leave q next serving ticket c h first = record {
  size = let a = h.size in let b = length_rest q c first in omega (arith, a, b);
  place = λ i d at. let a : ticket d ≡ serving + suc i = h.place (suc i) d (place_rest q i d at) in omega (arith, a);
}

-- who waits is first exactly where its ticket is served
pub first_by_ticket : (q : List ℕ) (next serving : ℕ) (ticket : ℕ → ℕ) (c : ℕ) → IsTicketed q next serving ticket → IsAmong q c → ticket c ≡ serving → IsFirst q c
first_by_ticket q next serving ticket c h among served =
    let at = place_of q c among in
    let a = h.place at.0 c at.1 in
    let z : at.0 ≡ 0 = omega (arith, a, served) in
    first_at q c (subst (λ i. slice_get q i ≡ Some c) z at.1)

pub ticket_of_first : (q : List ℕ) (next serving : ℕ) (ticket : ℕ → ℕ) (c : ℕ) → IsTicketed q next serving ticket → IsFirst q c → ticket c ≡ serving
ticket_of_first q next serving ticket c h first = let a : ticket c ≡ serving + 0 = h.place 0 c (at_first q c first) in omega (arith, a)
