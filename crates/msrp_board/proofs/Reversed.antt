-- What a board keeps newest first, read oldest first: its histories, and its books.
use Rattle.msrp_plan.proofs.Common.{ℕ, suc, List, [], reverse, Bool, true, false, cond, fold, refl, sym, ap, subst, arith, append-nil, count_by, AllByRecursion, sum_by-append, sum_by-cons, FifoLock, free_lock, lock_after, Answers, Legal, ResCall, claim_with, IsDueCall, lock_from}
use Rattle.msrp_board.proofs.Common.{Ask, Call, Claim, Entry, Event, Free, IsChain, IsClaimInTurn, IsHistory, IsNotLater, IsPollAfter, IsRegularNewest, Leave, LegalNewest, NoneLater, OnTrue, Phase, Placed, PlacedNewest, Poll, PollsInOrder, PollsNewest, RisingNewest, TicksNewest, ToNext, asks, by_core, calls, claim_of, is_poll, is_release, is_request, leaves, lock, on_resource, phase_of, place_after, res_calls}
use Rattle.std.proofs.Common.{◌&&◌, ◌==◌, ◌≡◌, ◌+◌, ◌<◌, ◌≤◌, ◌∷◌, ◌++◌, ◌∙◌, true≢false}
use Rattle.msrp_plan.specs.Calls.{IsRegularFrom, IsRegular}
use Rattle.msrp_board.proofs.Lists.{reverse_cons, fold_last, all_reversed, filter_reversed, chain_reversed}
use Rattle.msrp_board.proofs.Told.{lock_newest, res_calls_newest}
use Rattle.msrp_plan.proofs.Queues.LockHistories.{legal_push}

-- ---- the lock

calls_last : (h : List Event) (s : Event) → calls (h ++ s ∷ []) ≡ calls h ++ (s.0, s.1.call) ∷ []
calls_last [] s = refl
calls_last (x ∷ h) s = ap (λ l. (x.0, x.1.call) ∷ l) (calls_last h s)

calls_cons : (s : Event) (h : List Event) → calls (reverse (s ∷ h)) ≡ calls (reverse h) ++ (s.0, s.1.call) ∷ []
calls_cons s h = ap calls (reverse_cons s h) ∙ calls_last (reverse h) s

lock_is : (h : List Event) → lock_from free_lock (calls (reverse h)) ≡ lock h
lock_is [] = refl
lock_is (s ∷ h) = ap (lock_from free_lock) (calls_cons s h) ∙ fold_last (λ (l : FifoLock) (x : ℕ × Call). lock_after l x.0 x.1) free_lock (calls (reverse h)) (s.0, s.1.call) ∙ ap (λ l. lock_after l s.0 s.1.call) (lock_is h)

pub legal_reversed : (h : List Event) → LegalNewest h → Legal (calls (reverse h))
legal_reversed [] l = tt
legal_reversed (s ∷ h) l = subst Legal (sym (calls_cons s h)) (legal_push free_lock (calls (reverse h)) (s.0, s.1.call) (legal_reversed h l.0) (subst (λ k. Answers k s.0 s.1.call) (sym (lock_is h)) l.1))

-- ---- places

abbrev place_from : ℕ → List Event → ℕ
place_from p h = fold (λ (n : ℕ) (s : Event). place_after n s.1.call) p h

place_one : (a l : ℕ) (k : Call) → place_after (a + l) k ≡ cond (is_request k) (suc a) a + cond (is_release k) (suc l) l
place_one a l (Ask n) = omega arith
place_one a l (Poll b) = refl
place_one a l Leave = omega arith

place_is : (h : List Event) → place_from 0 (reverse h) ≡ asks h + leaves h
place_is [] = omega arith
place_is (s ∷ h) = ap (place_from 0) (reverse_cons s h) ∙ fold_last (λ (n : ℕ) (x : Event). place_after n x.1.call) 0 (reverse h) s ∙ ap (λ n. place_after n s.1.call) (place_is h) ∙ place_one (asks h) (leaves h) s.1.call

placed_last : (p : ℕ) (h : List Event) (s : Event) → Placed p h → s.1.place ≡ place_from p h → Placed p (h ++ s ∷ [])
placed_last p [] s k e = (e, tt)
placed_last p (x ∷ h) s k e = (k.0, placed_last (place_after p x.1.call) h s k.1 e)

pub placed_reversed : (h : List Event) → PlacedNewest h → Placed 0 (reverse h)
placed_reversed [] p = tt
placed_reversed (s ∷ h) p = subst (Placed 0) (sym (reverse_cons s h)) (placed_last 0 (reverse h) s (placed_reversed h p.0) (p.1 ∙ sym (place_is h)))

-- ---- counts

one_more : (n : ℕ) (b : Bool) → n + cond b 1 0 ≡ cond b (suc n) n
one_more n true = omega arith
one_more n false = omega arith

count_last : {X : Type 0} (p : X → Bool) (h : List X) (s : X) → count_by p (h ++ s ∷ []) ≡ count_by p h + cond (p s) 1 0
count_last p h s = sum_by-append (λ x. cond (p x) 1 0) h (s ∷ []) ∙ ap (λ n. count_by p h + n) (sum_by-cons (λ x. cond (p x) 1 0) s [] ∙ add_none (cond (p s) 1 0))
  where
    add_none : (n : ℕ) → n + 0 ≡ n
    add_none n = omega arith

pub requests_reversed : (h : List Event) → count_by (λ s. is_request s.1.call) (reverse h) ≡ asks h
requests_reversed [] = refl
requests_reversed (s ∷ h) = ap (count_by (λ (x : Event). is_request x.1.call)) (reverse_cons s h) ∙ count_last (λ (x : Event). is_request x.1.call) (reverse h) s ∙ ap (λ n. n + cond (is_request s.1.call) 1 0) (requests_reversed h) ∙ one_more (asks h) (is_request s.1.call)

pub releases_reversed : (h : List Event) → count_by (λ s. is_release s.1.call) (reverse h) ≡ leaves h
releases_reversed [] = refl
releases_reversed (s ∷ h) = ap (count_by (λ (x : Event). is_release x.1.call)) (reverse_cons s h) ∙ count_last (λ (x : Event). is_release x.1.call) (reverse h) s ∙ ap (λ n. n + cond (is_release s.1.call) 1 0) (releases_reversed h) ∙ one_more (leaves h) (is_release s.1.call)

-- ---- ticks and polls

pub rising_reversed : (h : List Event) → RisingNewest h → IsChain IsNotLater (reverse h)
rising_reversed h r = chain_reversed IsNotLater h (newest h r)
  where
    next_is : (t : ℕ) (s : Event) (k : List Event) → s.1.tick ≡ t → NoneLater t k → ToNext (λ x y. IsNotLater y x) s k
    next_is t s [] e n = tt
    next_is t s (x ∷ k) e n = let l = n.0 in omega (arith, l, e)

    newest : (k : List Event) → RisingNewest k → IsChain (λ x y. IsNotLater y x) k
    newest [] r = tt
    newest (s ∷ k) r = (next_is s.1.tick s k refl r.1, newest k r.0)

both_polls : (k j : Call) → is_poll j ≡ true → is_poll k ≡ true → (is_poll k && is_poll j) ≡ true
both_polls (Poll b) (Poll d) e f = refl
both_polls (Ask n) j e f = absurd (true≢false (sym f))
both_polls Leave j e f = absurd (true≢false (sym f))
both_polls (Poll b) (Ask n) e f = absurd (true≢false (sym e))
both_polls (Poll b) Leave e f = absurd (true≢false (sym e))

on_true : (b : Bool) (X : Type 0) → b ≡ true → OnTrue b X → X
on_true true X e t = t
on_true false X e t = absurd (true≢false (sym e))

pub polls_reversed : (h : List Event) → PollsNewest h → IsChain PollsInOrder (reverse h)
polls_reversed h t = chain_reversed PollsInOrder h (newest h t)
  where
    next_is : (s : Event) (k : List Event) → IsPollAfter s k → ToNext (λ x y. PollsInOrder y x) s k
    next_is s [] a = tt
    next_is s (x ∷ k) a = λ e f. on_true (is_poll s.1.call && is_poll x.1.call) _ (both_polls s.1.call x.1.call e f) a

    newest : (k : List Event) → PollsNewest k → IsChain (λ x y. PollsInOrder y x) k
    newest [] t = tt
    newest (s ∷ k) t = (next_is s k t.1, newest k t.0)

-- ---- the entries of a core

by_go : (x : Event) (b : Bool) (l m : List Entry) → cond b (x.1 ∷ (l ++ m)) (l ++ m) ≡ cond b (x.1 ∷ l) l ++ m
by_go x true l m = refl
by_go x false l m = refl

by_append : (c : ℕ) (xs ys : List Event) → by_core c (xs ++ ys) ≡ by_core c xs ++ by_core c ys
by_append c [] ys = refl
by_append c (x ∷ xs) ys = ap (λ l. cond (x.0 == c) (x.1 ∷ l) l) (by_append c xs ys) ∙ by_go x (x.0 == c) (by_core c xs) (by_core c ys)

by_last : (x : Event) (b : Bool) (l : List Entry) → reverse l ++ cond b (x.1 ∷ []) [] ≡ reverse (cond b (x.1 ∷ l) l)
by_last x true l = sym (reverse_cons x.1 l)
by_last x false l = append-nil (reverse l)

pub by_reversed : (c : ℕ) (h : List Event) → by_core c (reverse h) ≡ reverse (by_core c h)
by_reversed c [] = refl
by_reversed c (x ∷ h) = ap (by_core c) (reverse_cons x h) ∙ by_append c (reverse h) (x ∷ []) ∙ ap (λ l. l ++ cond (x.0 == c) (x.1 ∷ []) []) (by_reversed c h) ∙ by_last x (x.0 == c) (by_core c h)

-- the history that a board keeps, oldest first
pub history_reversed : (g : ℕ) (books : ℕ → List Entry) (h : List Event) → ((c : ℕ) → by_core c h ≡ on_resource g (books c)) → PlacedNewest h → PollsNewest h → IsHistory g (λ c. reverse (books c)) (reverse h)
history_reversed g books h entries placed tidy = record {
  entries = λ c. by_reversed c h ∙ ap reverse (entries c) ∙ sym (filter_reversed (λ e. e.res.0 == g) (books c));
  placed = placed_reversed h placed;
  polls = polls_reversed h tidy;
}

-- ---- what a book keeps

ticks_below : (r q : ℕ) (es : List Entry) → q ≤ r → TicksNewest q es → AllByRecursion (λ e. e.tick < r) es
ticks_below r q [] le k = tt
ticks_below r q (e ∷ es) le k = let l = k.0 in (omega (arith, l, le), ticks_below r e.tick es (omega (arith, l, le)) k.1)

pub past_reversed : (r : ℕ) (es : List Entry) → TicksNewest r es → AllByRecursion (λ e. e.tick < r) (reverse es)
past_reversed r es k = all_reversed (λ e. e.tick < r) es (ticks_below r r es (omega arith) k)

pub ticks_reversed : (r : ℕ) (es : List Entry) → TicksNewest r es → IsChain (λ e f. e.tick < f.tick) (reverse es)
ticks_reversed r es k = chain_reversed (λ (e f : Entry). e.tick < f.tick) es (newest r es k)
  where
    next_is : (e : Entry) (fs : List Entry) → TicksNewest e.tick fs → ToNext (λ x y. y.tick < x.tick) e fs
    next_is e [] k = tt
    next_is e (f ∷ fs) k = k.0

    newest : (q : ℕ) (fs : List Entry) → TicksNewest q fs → IsChain (λ x y. y.tick < x.tick) fs
    newest q [] k = tt
    newest q (f ∷ fs) k = (next_is f fs k.1, newest f.tick fs k.1)

turn_is : (l : Claim) (g : ℕ) (k : Call) → IsClaimInTurn l g k → IsDueCall (phase_of l) (record { 0 = g }) k
turn_is l g (Ask n) t = ap phase_of t
turn_is l g (Poll b) t = ap phase_of t.1
turn_is l g Leave t = ap phase_of t.1

regular_last : (phase : Phase) (calls : List ResCall) (s : ResCall) → IsRegularFrom phase calls → IsDueCall (fold (λ (p : Phase) (x : ResCall). claim_with p x.0 x.1) phase calls) s.0 s.1 → IsRegularFrom phase (calls ++ s ∷ [])
regular_last phase [] s regular in_turn = (in_turn, tt)
regular_last phase (x ∷ calls) s regular in_turn = (regular.0, regular_last (claim_with phase x.0 x.1) calls s regular.1 in_turn)

pub regular_reversed : (es : List Entry) → IsRegularNewest es → IsRegular (res_calls (reverse es))
regular_reversed [] r = tt
regular_reversed (e ∷ es) r = subst IsRegular (sym (res_calls_newest e es)) (regular_last Free (res_calls (reverse es)) (e.res, e.call) (regular_reversed es r.0) (subst (λ p. IsDueCall p e.res e.call) (sym (lock_newest es)) (turn_is (claim_of es) e.res.0 e.call r.1)))
