-- Each broken board breaks the rule.
use Rattle.std.proofs.Common.{◌≡◌, ◌<◌, ◌≤◌, ◌∷◌, ◌∙◌}
use Rattle.msrp_plan.proofs.Common.{ℕ, zero, suc, List, [], cond, true, false, refl, ap, subst, arith, inl, inr, ne_eqb, AllByRecursion}
use Rattle.msrp_board.proofs.Common.{Aborted, Ask, Book, Entry, Event, Free, IsKept, IsServed, IsTied, Leave, Opened, Poll, Queued, ResId, by_core, entries_at, on_resource, ticket_word}
use Rattle.msrp_board.specs.BrokenBoards.{step, lost_book, shared_ticket, counted_twice, two_holders, invented_grant, old_poll, acted_twice, lost_arrival, invented_stop, early, second_word, nine_cores, lost_abort, size, late, undeclared, same_place, unasked}
use Rattle.msrp_board.proofs.Unique.{Before, Sorted, history_is}

-- ---- the history of the resource, where there are two cores

pub no_others : (h : List Event) (c : ℕ) → AllByRecursion (λ s. s.0 < 2) h → 2 ≤ c → by_core c h ≡ []
no_others [] c all past = refl
no_others (s ∷ h) c all past = let low = all.0 in ap (λ k. cond k (s.1 ∷ by_core c h) (by_core c h)) (ne_eqb s.0 c (λ e. absurd (omega (arith, e, low, past)))) ∙ no_others h c all.1 past

own_entries : (a b : Book) (h : List Event) → AllByRecursion (λ s. s.0 < 2) h → by_core 0 h ≡ on_resource 0 a.entries → by_core 1 h ≡ on_resource 0 b.entries → (c : ℕ) → by_core c h ≡ on_resource 0 (entries_at (a ∷ b ∷ []) c)
own_entries a b h few p q zero = p
own_entries a b h few p q (suc zero) = q
own_entries a b h few p q (suc (suc c)) = no_others h (suc (suc c)) few (omega arith)

-- a list in the order of a history, with the entries of two books, is what was served
served_as : (word : ℕ) (a b : Book) (h : List Event) → AllByRecursion (λ s. s.0 < 2) h → by_core 0 h ≡ on_resource 0 a.entries → by_core 1 h ≡ on_resource 0 b.entries → Sorted Before h
    → (k : List Event) × IsServed word 0 (entries_at (a ∷ b ∷ [])) k → IsServed word 0 (entries_at (a ∷ b ∷ [])) h
served_as word a b h few p q order s =
    let books : ℕ → List Entry = entries_at (a ∷ b ∷ []) in subst (IsServed word 0 books) (history_is 0 books s.0 h s.1.history (own_entries a b h few p q) order) s.1

-- ---- each board

pub lost : ¬ IsTied lost_book
lost t = let e : ◌≡◌ {A = ℕ} 1 2 = t.cores in omega (arith, e)

pub shared : ¬ IsTied shared_ticket
shared t =
    let h : List Event = (0, step 0 0 (Ask 0)) ∷ (1, step 0 0 (Ask 1)) ∷ [] in
    let s = served_as (ticket_word 2 0) _ _ h (omega arith, (omega arith, tt)) refl refl ((inr (refl, inr (refl, inr (refl, omega arith))), tt), (tt, tt)) (t.served 0 (omega arith)) in
    let e : ◌≡◌ {A = ℕ} 0 1 = s.history.placed.1.0 in omega (arith, e)

pub counted : ¬ IsTied counted_twice
counted t =
    let h : List Event = (0, step 0 0 (Ask 0)) ∷ (0, step 1 1 Leave) ∷ [] in
    let s = served_as (ticket_word 1 2) _ _ h (omega arith, (omega arith, tt)) refl refl ((inl (omega arith), tt), (tt, tt)) (t.served 0 (omega arith)) in
    let e : ◌≡◌ {A = ℕ} 1 2 = s.releases in omega (arith, e)

pub holders : ¬ IsTied two_holders
holders t =
    let h : List Event = (0, step 0 0 (Ask 0)) ∷ (1, step 0 1 (Ask 0)) ∷ [] in
    let s = served_as (ticket_word 2 0) _ _ h (omega arith, (omega arith, tt)) refl refl ((inl (omega arith), tt), (tt, tt)) (t.served 0 (omega arith)) in
    let e : ◌≡◌ {A = ℕ} 0 1 = s.legal.1.0.1 in omega (arith, e)

pub invented : ¬ IsTied invented_grant
invented t =
    let h : List Event = (0, step 0 0 (Ask 0)) ∷ (1, step 0 1 (Ask 1)) ∷ (1, step 1 2 (Poll true)) ∷ [] in
    let s = served_as (ticket_word 2 0) _ _ h (omega arith, (omega arith, (omega arith, tt))) refl refl ((inl (omega arith), (inl (omega arith), tt)), ((inl (omega arith), tt), (tt, tt))) (t.served 0 (omega arith)) in
    let e : ◌≡◌ {A = ℕ} 0 1 = s.legal.1.1.0.0 in omega (arith, e)

pub old : ¬ IsTied old_poll
old t =
    let h : List Event = (0, step 0 0 (Ask 0)) ∷ (1, step 0 1 (Ask 1)) ∷ (1, step 2 2 (Poll false)) ∷ (0, step 1 2 Leave) ∷ [] in
    let order : Sorted Before h =
    ((inl (omega arith), (inl (omega arith), (inl (omega arith), tt))), ((inl (omega arith), (inl (omega arith), tt)), ((inr (refl, inl (omega arith)), tt), (tt, tt)))) in
    let s = served_as (ticket_word 2 1) _ _ h (omega arith, (omega arith, (omega arith, (omega arith, tt)))) refl refl order (t.served 0 (omega arith)) in
    let e : 2 ≤ 1 = s.rising.1.1.0 in omega (arith, e)

pub acted : ¬ IsTied acted_twice
acted t = let l : 0 < 0 = (t.kept 0 _ refl).one_a_tick.0 in omega (arith, l)

pub uncounted : ¬ IsTied lost_arrival
uncounted t = let e : ◌≡◌ {A = ℕ} 2 3 = t.arrivals in omega (arith, e)

clash : Opened ≡ Aborted → ⊥
clash e = cc

pub stopped : ¬ IsTied invented_stop
stopped t = clash (t.told 0 _ refl refl)

pub let_in_early : ¬ IsTied early
let_in_early t = let l : 1 ≤ 0 = (t.met 0 1 _ refl (omega arith)).1 1 _ refl in omega (arith, l)

pub second : ¬ IsTied second_word
second t = let e : ◌≡◌ {A = ℕ} 2 1 = t.words in omega (arith, e)

pub nine : ¬ IsTied nine_cores
nine t = let l : 9 ≤ 8 = t.limits.cores.1 in omega (arith, l)

pub abort : ¬ IsTied lost_abort
abort t = let e : ◌≡◌ {A = ℕ} 0 1 = t.abort in omega (arith, e)

-- ---- each book

pub too_late : ¬ IsKept size late
too_late k = let l : 5 ≤ 4 = k.within in omega (arith, l)

pub not_declared : ¬ IsKept size undeclared
not_declared k = let l : 1 < 1 = k.declared.0 in omega (arith, l)

pub placed_once : ¬ IsKept size same_place
placed_once k = let l : 1 < 1 = (k.places 0).0 in omega (arith, l)

not_queued : (g : ResId) → Free ≡ Queued g → ⊥
not_queued g e = cc

pub not_asked : ¬ IsKept size unasked
not_asked k = not_queued (record { 0 = 0 }) k.regular.0
