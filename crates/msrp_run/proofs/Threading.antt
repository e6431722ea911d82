-- The loops over all cores: one more core, by its parts, seat, thread, log and book.
use Rattle.std.proofs.Common.{◌≡◌, ◌+◌, ◌<◌, ◌≤◌, ◌∷◌, ◌++◌, ◌∙◌}
use Rattle.msrp_plan.proofs.Common.{ℕ, List, [], None, length, get_or, arith, refl, subst, sym, ap, inl, inr, length-append, is_some, true, get_or_append_left, get_or-append_seam, cases_eq, PlanModel}
use Rattle.std.specs.declared.thread.PromisedHandle.{PromisedHandle}
use Rattle.msrp_run.proofs.Common.{Aborted, AllAreNew, AllWorked, AreNewParts, ArePromised, BoardModel, Book, CoreParts, HasOthers, HasRest, HasWorked, IsCoreSeat, IsNew, IsPromise, IsWorked, LogModel, SeatModel, alone, alone_is_core, book_at, both, either, empty_book, log_at, size_of, with_conductor, without}
use Rattle.msrp_board.specs.declared.books.Conductor.{Conductor}
use Rattle.msrp_board.proofs.SeatBooks.{book_at-without_other, book_of_first, book_of_second, no_other_book}
use Rattle.msrp_run.specs.declared.workers.WorkPromise.{WorkPromise}

-- ---- the parts of the cores
pub parts_more : (plan : PlanModel) (all_parts : List CoreParts) (parts : CoreParts) → AllAreNew plan all_parts → AreNewParts plan (length all_parts) parts → AllAreNew plan (all_parts ++ parts ∷ [])
parts_more plan all_parts parts was is k d below =
    elim (cases_eq k (length all_parts)) [
      | inl at ↦
          let here : parts ≡ get_or (all_parts ++ parts ∷ []) k d = subst (λ j. parts ≡ get_or (all_parts ++ parts ∷ []) j d) (sym at) (sym (get_or-append_seam all_parts parts [] d)) in
          subst (AreNewParts plan k) here (subst (λ n. AreNewParts plan n parts) (sym at) is)
      | inr other ↦
          let low : k < length all_parts = (let l = length-append all_parts (parts ∷ []) in grind (arith, l, below)) in
          subst (AreNewParts plan k) (sym (get_or_append_left all_parts (parts ∷ []) d k low)) (was k d low)
    ]

-- the parts of a core with its seat are what a worker begins with
pub parts_are_new : (board : BoardModel) (plan : PlanModel) (c : ℕ) (parts : CoreParts) (seat : SeatModel) → AreNewParts plan c parts → board.size ≡ size_of plan → seat.board ≡ board → IsCoreSeat seat c empty_book → IsNew board parts.machine parts.log seat
parts_are_new board plan c parts seat k size on own = record {
  stands = k.new;
  empty =
      k.log ∙ (ap (λ n. let l : LogModel = record { core = n; ticks = plan.ticks; turns = [] } in l) (sym k.core)
      ∙ ap (λ (p : PlanModel). let l : LogModel = record { core = parts.machine.core; ticks = p.ticks; turns = [] } in l) (sym k.plan_is));
  size = size ∙ ap size_of (sym k.plan_is);
  on = on;
  of_core = subst (λ n. IsCoreSeat seat n empty_book) (sym k.core) own;
}

-- ---- the seats
-- the next core's seat, parted from the conductor's
pub next_seat : (board : BoardModel) (n core : ℕ) (others own : SeatModel) → HasOthers board n others → core ≡ n → n < board.size.cores → own ≡ alone core others → IsCoreSeat own n empty_book × (own.board ≡ board)
next_seat board n core others own b same low is =
    let alone_is : own ≡ alone n others = is ∙ ap (λ k. alone k others) same in (
      subst (λ s. IsCoreSeat s n empty_book) (sym alone_is) (alone_is_core others n empty_book (b.books n (omega arith) low)),
      ap (λ (s : SeatModel). s.board) alone_is ∙ b.on,
    )

pub others_less : (board : BoardModel) (n core : ℕ) (others rest : SeatModel) → HasOthers board n others → core ≡ n → rest ≡ without core others → HasOthers board (n + 1) rest
others_less board n core others rest b same is = subst (HasOthers board (n + 1)) (sym (is ∙ ap (λ k. without k others) same)) less
  where
    less : HasOthers board (n + 1) (without n others)
    less = record {
      on = b.on;
      books = λ c from low. book_at-without_other others n c (λ e. absurd (omega (arith, from, e))) ∙ b.books c (omega (arith, from)) low;
      conductor = b.conductor;
    }

-- the next core's book is there to be parted
pub has_next : (board : BoardModel) (n core : ℕ) (others : SeatModel) → HasOthers board n others → core ≡ n → n < board.size.cores → is_some (book_at others core) ≡ true
has_next board n core others b same low = ap (λ k. is_some (book_at others k)) same ∙ ap is_some (b.books n (omega arith) low)

-- ---- the threads
pub promised_more : {T : Type 0} → (board : BoardModel) (plan : PlanModel) (hs : List (PromisedHandle T WorkPromise)) (h : PromisedHandle T WorkPromise) → ArePromised board plan hs → IsPromise board plan (length hs) h.promise → ArePromised board plan (hs ++ h ∷ [])
promised_more board plan hs h was is k d below =
    elim (cases_eq k (length hs)) [
      | inl at ↦
          let here : h ≡ get_or (hs ++ h ∷ []) k d = subst (λ j. h ≡ get_or (hs ++ h ∷ []) j d) (sym at) (sym (get_or-append_seam hs h [] d)) in
          subst (λ x. IsPromise board plan k x.promise) here (subst (λ n. IsPromise board plan n h.promise) (sym at) is)
      | inr other ↦
          let low : k < length hs = (let l = length-append hs (h ∷ []) in grind (arith, l, below)) in
          subst (λ x. IsPromise board plan k x.promise) (sym (get_or_append_left hs (h ∷ []) d k low)) (was k d low)
    ]

-- ---- what they leave
pub worked_more : (plan : PlanModel) (logs : List LogModel) (log : LogModel) (seat others : SeatModel) (b : Book) → AllWorked plan logs others → IsCoreSeat seat (length logs) b → IsWorked plan (length logs) log b → AllWorked plan (logs ++ log ∷ []) (both seat others)
worked_more plan logs log seat others b was own is k below =
    elim (cases_eq k (length logs)) [
      | inl at ↦
          let here : log ≡ log_at (logs ++ log ∷ []) k = subst (λ j. log ≡ log_at (logs ++ log ∷ []) j) (sym at) (sym (get_or-append_seam logs log [] _)) in
          (b, book_of_first seat others k b (ap (book_at seat) at ∙ own.book), subst (λ l. IsWorked plan k l b) here (subst (λ n. IsWorked plan n log b) (sym at) is))
      | inr other ↦
          let low : k < length logs = (let l = length-append logs (log ∷ []) in grind (arith, l, below)) in
          let h = was k low in (
            h.0,
            book_of_second seat others k (no_other_book seat (length logs) k b own other) ∙ h.1,
            subst (λ l. IsWorked plan k l h.0) (sym (get_or_append_left logs (log ∷ []) _ k low)) h.2,
          )
    ]

-- one more worker's log and seat, as its thread promised
pub joined_more : (board : BoardModel) (plan : PlanModel) (logs : List LogModel) (log : LogModel) (seat others : SeatModel) (p : WorkPromise) → AllWorked plan logs others → IsPromise board plan (length logs) p → HasWorked p.seat.value.board p.plan.value p.core.0 log seat
    → AllWorked plan (logs ++ log ∷ []) (both seat others) × (seat.board ≡ board) × ((both seat others).conductor ≡ others.conductor) × ((c : ℕ) → length logs < c → book_at seat c ≡ None)
joined_more board plan logs log seat others p was is w =
    (worked_more plan logs log seat others w.book was own work, w.on ∙ is.on, ap (λ o. either o others.conductor) w.of_core.conductor, λ c low. no_other_book seat (length logs) c w.book own (λ e. absurd (omega (arith, low, e))))
  where
    own : IsCoreSeat seat (length logs) w.book
    own = subst (λ n. IsCoreSeat seat n w.book) is.core w.of_core

    work : IsWorked plan (length logs) log w.book
    work = subst (λ n. IsWorked plan n log w.book) is.core (subst (λ q. IsWorked q p.core.0 log w.book) is.plan_is w.worked)

-- what a worker gives back is what its thread promised
pub as_promised : (board : BoardModel) (plan : PlanModel) (c : ℕ) (p : WorkPromise) (log : LogModel) (seat : SeatModel) → IsPromise board plan c p → HasWorked board plan c log seat → HasWorked p.seat.value.board p.plan.value p.core.0 log seat
as_promised board plan c p log seat is w =
    subst (λ b. HasWorked b p.plan.value p.core.0 log seat) (sym is.on) (subst (λ q. HasWorked board q p.core.0 log seat) (sym is.plan_is) (subst (λ n. HasWorked board plan n log seat) (sym is.core) w))

-- ---- the conductor's seat
-- after what the conductor did it still has the books of the other cores
pub rest_of_others : (board : BoardModel) (n : ℕ) (others new : SeatModel) (did : Conductor) → HasOthers board n others → new ≡ with_conductor did others → HasRest board n did new
rest_of_others board n others new did b is = subst (HasRest board n did) (sym is) (record { on = b.on; books = λ c from low. ap is_some (b.books c from low); conductor = refl })

-- the seat of a core whose thread was refused is back
pub rest_with : (board : BoardModel) (plan : PlanModel) (c : ℕ) (p : WorkPromise) (log : LogModel) (seat others off joined : SeatModel) → HasOthers board (c + 1) others → off ≡ with_conductor Aborted others → IsPromise board plan c p → HasWorked p.seat.value.board p.plan.value p.core.0 log seat
    → joined ≡ both seat off → HasRest board c Aborted joined
rest_with board plan c p log seat others off joined b called is w one = subst (HasRest board c Aborted) (sym one) (record {
  on = w.on ∙ is.on;
  books = λ d from low. elim (cases_eq d c) [
    | inl at ↦ ap is_some (book_of_first seat off d w.book (ap (book_at seat) at ∙ own.book))
    | inr other ↦ ap is_some (book_of_second seat off d (no_other_book seat c d w.book own other)) ∙ rest.books d (omega (arith, from, other)) low
  ];
  conductor = ap (λ o. either o off.conductor) w.of_core.conductor ∙ rest.conductor;
})
  where
    own : IsCoreSeat seat c w.book
    own = subst (λ n. IsCoreSeat seat n w.book) is.core w.of_core

    rest : HasRest board (c + 1) Aborted off
    rest = rest_of_others board (c + 1) others off Aborted b called

-- a worker's seat joined to it
pub rest_joined : (board : BoardModel) (n : ℕ) (did : Conductor) (seat others joined : SeatModel) → HasRest board n did others → seat.board ≡ board → joined ≡ both seat others → joined.conductor ≡ others.conductor → ((c : ℕ) → n ≤ c → book_at seat c ≡ None) → HasRest board n did joined
rest_joined board n did seat others joined r on is same none = record {
  on = ap (λ (s : SeatModel). s.board) is ∙ on;
  books = λ c from low. ap (λ s. is_some (book_at s c)) is ∙ (ap is_some (book_of_second seat others c (none c from)) ∙ r.books c from low);
  conductor = same ∙ r.conductor;
}
