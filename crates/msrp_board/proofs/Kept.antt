-- Each step keeps the rule's part on one book, which a seat knows by itself; and what follows from
-- it.
use Rattle.msrp_plan.proofs.Common.{ℕ, zero, suc, List, [], Bool, true, false, refl, sym, ap, subst, arith, eq-eqb, list_any, AllByRecursion, dite, ℕ_discrete}
use Rattle.msrp_board.proofs.Common.{AreBefore, Ask, BoardSize, Call, Claim, Entry, IsBefore, IsBelow, IsChain, IsClaimInTurn, IsKept, IsKeptNewest, IsRegularNewest, Leave, Page, Poll, TicksNewest, ToNext, admissions_of, claim_of, claim_with_call, empty_page, on_resource, page_admissions, page_after_look_if, page_has_acted, page_with, page_with_arrival, told}
use Rattle.std.proofs.Common.{◌==◌, ◌||◌, ◌≡◌, ◌≢◌, ◌<◌, ◌≤◌, ◌∷◌, ◌∙◌, true≢false}
use Rattle.msrp_board.proofs.Counts.{on_same, on_other}
use Rattle.msrp_board.proofs.Lists.{all_reversed, filter_reversed, chain_reversed}
use Rattle.msrp_board.proofs.Reversed.{past_reversed, ticks_reversed, regular_reversed}

-- ---- one entry more

next_place : (e : Entry) (es : List Entry) → AreBefore e.place es → ToNext (λ e f. IsBefore f.call f.place e.place) e es
next_place e [] before = tt
next_place e (f ∷ es) before = before.0

-- of a core that is admitted and has not acted, in its turn, with a place behind those that it has
-- of the resource
pub kept_more : (z : BoardSize) (b : Page) (e : Entry) → IsKeptNewest z b → e.res.0 < z.resources → AreBefore e.place (on_resource e.res.0 b.newest) → IsClaimInTurn (claim_of b.newest) e.res.0 e.call → b.admitted ≡ true → TicksNewest b.tick b.newest → e.tick ≡ b.tick
    → IsKeptNewest z (page_with e b)
kept_more z b e kept in_board before in_turn in_tick fresh now = record {
  within = kept.within;
  declared = (in_board, kept.declared);
  ticks = (subst (λ a. e.tick < admissions_of a b.tick) (sym in_tick) (omega (arith, now)), subst (λ t. TicksNewest t b.newest) (sym now) fresh);
  places = λ g. dite (ℕ_discrete e.res.0 g)
      (λ q. subst (IsChain (λ e f. IsBefore f.call f.place e.place)) (sym (on_same g e b.newest q)) (next_place e (on_resource g b.newest) (subst (λ r. AreBefore e.place (on_resource r b.newest)) q before), kept.places g))
      (λ n. subst (IsChain (λ e f. IsBefore f.call f.place e.place)) (sym (on_other g e b.newest n)) (kept.places g));
  regular = (kept.regular, in_turn);
}

-- where a core has not acted in its tick, its entries are of earlier ticks
none_now : (t r : ℕ) (es : List Entry) → r ≡ suc t → TicksNewest r es → list_any (λ e. e.tick == t) es ≡ false → TicksNewest t es
none_now t r [] is k n = tt
none_now t r (e ∷ es) is k n = let h = k.0 in let d : e.tick ≢ t = λ q. true≢false (sym (ap (λ b. b || list_any (λ e. e.tick == t) es) (eq-eqb e.tick t q)) ∙ n) in (omega (arith, h, is, d), k.1)

pub fresh_page : (z : BoardSize) (b : Page) → IsKeptNewest z b → b.admitted ≡ true → page_has_acted b ≡ false → TicksNewest b.tick b.newest
fresh_page z b kept room quiet = none_now b.tick (page_admissions b) b.newest (ap (λ k. admissions_of k b.tick) room) kept.ticks quiet

-- ---- another tick

-- ticks that fall from below r on fall from below a later one
pub ticks_more : (r q : ℕ) (es : List Entry) → TicksNewest r es → r ≤ q → TicksNewest q es
ticks_more r q [] k le = tt
ticks_more r q (e ∷ es) k le = let h = k.0 in (omega (arith, h, le), k.1)

-- the same entries, and no fewer ticks to which the core is or was admitted
kept_reach : (z : BoardSize) (b d : Page) → IsKeptNewest z b → d.newest ≡ b.newest → page_admissions b ≤ page_admissions d → page_admissions d ≤ z.ticks → IsKeptNewest z d
kept_reach z b d kept same up within = record {
  within = within;
  declared = subst (AllByRecursion (λ e. e.res.0 < z.resources)) (sym same) kept.declared;
  ticks = ticks_more (page_admissions b) (page_admissions d) d.newest (subst (TicksNewest (page_admissions b)) (sym same) kept.ticks) up;
  places = λ g. subst (λ es. IsChain (λ e f. IsBefore f.call f.place e.place) (on_resource g es)) (sym same) (kept.places g);
  regular = subst IsRegularNewest (sym same) kept.regular;
}

pub kept_arrival : (z : BoardSize) (b : Page) → IsKeptNewest z b → b.admitted ≡ true → IsKeptNewest z (page_with_arrival b)
kept_arrival z b kept in_tick =
    let admissions : page_admissions b ≡ suc b.tick = ap (λ a. admissions_of a b.tick) in_tick in
    let within = kept.within in kept_reach z b (page_with_arrival b) kept refl (omega (arith, admissions)) (omega (arith, admissions, within))

pub kept_look : (z : BoardSize) (high low : Bool) (b : Page) → IsKeptNewest z b → b.admitted ≡ false → b.tick < z.ticks → IsKeptNewest z (page_after_look_if high low b)
kept_look z true low b kept out left = kept_reach z b (page_after_look_if true low b) kept refl (omega arith) kept.within
kept_look z false true b kept out left =
    let admissions : page_admissions b ≡ b.tick = ap (λ a. admissions_of a b.tick) out in kept_reach z b (page_after_look_if false true b) kept refl (omega (arith, admissions)) (omega (arith, left))
kept_look z false false b kept out left = kept

pub kept_empty : (z : BoardSize) → IsKeptNewest z empty_page
kept_empty z = record { within = omega arith; declared = tt; ticks = tt; places = λ g. tt; regular = tt }

-- ---- as callers see it

pub kept_told : (z : BoardSize) (b : Page) → IsKeptNewest z b → IsKept z (told b)
kept_told z b kept = record {
  within = kept.within;
  declared = all_reversed (λ e. e.res.0 < z.resources) b.newest kept.declared;
  past = past_reversed (page_admissions b) b.newest kept.ticks;
  one_a_tick = ticks_reversed (page_admissions b) b.newest kept.ticks;
  places = λ g. subst (IsChain (λ e f. IsBefore e.call e.place f.place)) (sym (filter_reversed (λ e. e.res.0 == g) b.newest)) (chain_reversed (λ e f. IsBefore e.call e.place f.place) (on_resource g b.newest) (kept.places g));
  regular = regular_reversed b.newest kept.regular;
}

-- ---- what a core claims is one of the board's resources

below_with : (n : ℕ) (l : Claim) (g p : ℕ) (k : Call) → g < n → IsBelow n l → IsBelow n (claim_with_call l g p k)
below_with n l g p (Ask zero) h b = h
below_with n l g p (Ask (suc a)) h b = h
below_with n l g p (Poll true) h b = h
below_with n l g p (Poll false) h b = b
below_with n l g p Leave h b = tt

pub claim_below : (n : ℕ) (es : List Entry) → AllByRecursion (λ e. e.res.0 < n) es → IsBelow n (claim_of es)
claim_below n [] h = tt
claim_below n (e ∷ es) h = below_with n (claim_of es) e.res.0 e.place e.call h.0 (claim_below n es h.1)
