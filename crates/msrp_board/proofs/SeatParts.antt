-- What a seat keeps of its cores, and what callers see, where a seat is parted and where two are
-- joined.
use Rattle.std.proofs.Common.{◌==◌, ◌≡◌, ◌<◌, ◌∷◌, ◌∙◌}
use Rattle.msrp_plan.proofs.Common.{⊎_elim, ℕ, zero, suc, List, [], map, not, Some, None, refl, sym, ap, subst, eq-eqb, ne_eqb, option_or, dite, ℕ_discrete}
use Rattle.msrp_board.proofs.Common.{AreStates, BoardModel, BoardSize, Book, Conductor, IsHeld, IsKeptNewest, Me, Option, Page, SeatModel, States, TableId, View, alone, both, either, kept_if, kept_of, none_at, only_at, option_map, page_at, seen_as, state_at, state_of, together, told, view_alone, view_both, view_without, without}
use Rattle.msrp_board.proofs.SeatBooks.{at-only_same, at-only_other, at-none_same, at-none_other, at-together}
use Rattle.msrp_board.proofs.ViewParts.{of_only, of_none, of_together}

-- ---- what is kept

or_state : (x y : Option Page) → option_or (option_map state_of x) (option_map state_of y) ≡ option_map state_of (either x y)
or_state None y = refl
or_state (Some b) y = refl

pub only_tie : (held own : States) (pages : List (Option Page)) (c : ℕ) → ((d : ℕ) → kept_of own d ≡ kept_if (d == c) (kept_of held d)) → AreStates held pages → AreStates own (only_at c pages)
only_tie held own pages c parted tie d = parted d ∙ dite (ℕ_discrete d c)
    (λ q. ap (λ k. kept_if k (kept_of held d)) (eq-eqb d c q) ∙ tie d ∙ ap (option_map state_of) (subst (λ k. page_at pages k ≡ page_at (only_at c pages) k) (sym q) (sym (at-only_same c pages))))
    (λ n. ap (λ k. kept_if k (kept_of held d)) (ne_eqb d c n) ∙ ap (option_map state_of) (sym (at-only_other c d pages n)))

pub none_tie : (held others : States) (pages : List (Option Page)) (c : ℕ) → ((d : ℕ) → kept_of others d ≡ kept_if (not (d == c)) (kept_of held d)) → AreStates held pages → AreStates others (none_at c pages)
none_tie held others pages c parted tie d = parted d ∙ dite (ℕ_discrete d c)
    (λ q. ap (λ k. kept_if (not k) (kept_of held d)) (eq-eqb d c q) ∙ ap (option_map state_of) (subst (λ k. None ≡ page_at (none_at c pages) k) (sym q) (sym (at-none_same c pages))))
    (λ n. ap (λ k. kept_if (not k) (kept_of held d)) (ne_eqb d c n) ∙ tie d ∙ ap (option_map state_of) (sym (at-none_other c d pages n)))

pub joined_tie : (held other all : States) (pages more : List (Option Page)) → ((d : ℕ) → kept_of all d ≡ option_or (kept_of held d) (kept_of other d)) → AreStates held pages → AreStates other more → AreStates all (together pages more)
joined_tie held other all pages more joined one two d = joined d ∙ ap (λ x. option_or x (kept_of other d)) (one d) ∙ ap (option_or (state_at pages d)) (two d)
    ∙ or_state (page_at pages d) (page_at more d) ∙ ap (option_map state_of) (sym (at-together pages more d))

-- ---- what is seen

only_told : (c : ℕ) (l : List (Option Page)) → map (option_map told) (only_at c l) ≡ only_at c (map (option_map told) l)
only_told c [] = refl
only_told zero (x ∷ xs) = refl
only_told (suc c) (x ∷ xs) = ap (λ l. None ∷ l) (only_told c xs)

none_told : (c : ℕ) (l : List (Option Page)) → map (option_map told) (none_at c l) ≡ none_at c (map (option_map told) l)
none_told c [] = refl
none_told zero (x ∷ xs) = refl
none_told (suc c) (x ∷ xs) = ap (λ l. option_map told x ∷ l) (none_told c xs)

pub alone_seen : (z : BoardSize) (t u : TableId) (c : ℕ) (me now : Me (Unit {0}) View) (seat : SeatModel) → u ≡ t → now ≡ (view_alone c me.0, me.1) → seen_as (record { table = t; size = z }) me.0 ≡ seat
    → seen_as (record { table = u; size = z }) now.0 ≡ alone c seat
alone_seen z t u c me now seat at is seen = ap (λ (m : Me (Unit {0}) View). seen_as (record { table = u; size = z }) m.0) is ∙ ap (λ x. seen_as (record { table = x; size = z }) (view_alone c me.0)) at
    ∙ ap (λ (l : List (Option Book)). part l) (only_told c me.0.pages) ∙ ap (alone c) seen
  where
    part : List (Option Book) → SeatModel
    part l = record { board = record { table = t; size = z }; books = l; conductor = None }

pub without_seen : (z : BoardSize) (t u : TableId) (c : ℕ) (me now : Me (Unit {0}) View) (seat : SeatModel) → u ≡ t → now ≡ (view_without c me.0, []) → seen_as (record { table = t; size = z }) me.0 ≡ seat
    → seen_as (record { table = u; size = z }) now.0 ≡ without c seat
without_seen z t u c me now seat at is seen = ap (λ (m : Me (Unit {0}) View). seen_as (record { table = u; size = z }) m.0) is ∙ ap (λ x. seen_as (record { table = x; size = z }) (view_without c me.0)) at
    ∙ ap (λ (l : List (Option Book)). part l) (none_told c me.0.pages) ∙ ap (without c) seen
  where
    part : List (Option Book) → SeatModel
    part l = record { board = record { table = t; size = z }; books = l; conductor = me.0.conductor }

-- ---- the parts are seats

pub alone_is_seat : (z : BoardSize) (held own : States) (o : Option Conductor) (c : ℕ) (me now : Me (Unit {0}) View) → IsHeld z held o me → now ≡ (view_alone c me.0, me.1) → AreStates own (only_at c me.0.pages) → IsHeld z own None now
alone_is_seat z held own o c me now s is tie = subst (IsHeld z own None) (sym is) (record {
  no_slot = s.no_slot;
  limits = s.limits;
  states = tie;
  conducts = refl;
  cores = λ d b h. s.cores d b (of_only c me.0.pages d b h).0;
  kept = λ d b h. s.kept d b (of_only c me.0.pages d b h).0;
})

pub without_is_seat : (z : BoardSize) (held others : States) (o : Option Conductor) (c : ℕ) (me now : Me (Unit {0}) View) → IsHeld z held o me → now ≡ (view_without c me.0, []) → AreStates others (none_at c me.0.pages) → IsHeld z others o now
without_is_seat z held others o c me now s is tie = subst (IsHeld z others o) (sym is) (record {
  no_slot = refl;
  limits = s.limits;
  states = tie;
  conducts = s.conducts;
  cores = λ d b h. s.cores d b (of_none c me.0.pages d b h).0;
  kept = λ d b h. s.kept d b (of_none c me.0.pages d b h).0;
})

-- ---- two seats joined

or_either : {X : Type 0} (x y : Option X) → option_or x y ≡ either x y
or_either None y = refl
or_either (Some a) y = refl

pub both_is_seat : (z y : BoardSize) (held more all : States) (o p q : Option Conductor) (me other now : Me (Unit {0}) View) → y ≡ z → IsHeld z held o me → IsHeld y more p other → q ≡ option_or o p → now ≡ (view_both me.0 other.0, me.1) → AreStates all (together me.0.pages other.0.pages) → IsHeld z all q now
both_is_seat z y held more all o p q me other now size s r or is tie = subst (IsHeld z all q) (sym is) (record {
  no_slot = s.no_slot;
  limits = s.limits;
  states = tie;
  conducts = or ∙ or_either o p ∙ ap (λ x. either x p) s.conducts ∙ ap (either me.0.conductor) r.conducts;
  cores = λ d b h. ⊎_elim (s.cores d b) (λ k. subst (λ (x : BoardSize). d < x.cores) size (r.cores d b k)) (of_together me.0.pages other.0.pages d b h);
  kept = λ d b h. ⊎_elim (s.kept d b) (λ k. subst (λ (x : BoardSize). IsKeptNewest x b) size (r.kept d b k)) (of_together me.0.pages other.0.pages d b h);
})

either_told : (x y : Option Page) → option_map told (either x y) ≡ either (option_map told x) (option_map told y)
either_told None y = refl
either_told (Some b) y = refl

together_told : (l m : List (Option Page)) → map (option_map told) (together l m) ≡ together (map (option_map told) l) (map (option_map told) m)
together_told [] m = refl
together_told (x ∷ xs) [] = refl
together_told (x ∷ xs) (y ∷ ys) = ap (λ b. b ∷ map (option_map told) (together xs ys)) (either_told x y) ∙ ap (λ l. either (option_map told x) (option_map told y) ∷ l) (together_told xs ys)

pub both_seen : (z : BoardSize) (t u : TableId) (board : BoardModel) (me more now : Me (Unit {0}) View) (seat other : SeatModel) → u ≡ t → now ≡ (view_both me.0 more.0, me.1) → seen_as (record { table = t; size = z }) me.0 ≡ seat → seen_as board more.0 ≡ other
    → seen_as (record { table = u; size = z }) now.0 ≡ both seat other
both_seen z t u board me more now seat other at is seen told_as = ap (λ (m : Me (Unit {0}) View). seen_as (record { table = u; size = z }) m.0) is ∙ ap (λ x. seen_as (record { table = x; size = z }) (view_both me.0 more.0)) at
    ∙ ap (λ (l : List (Option Book)). part l) (together_told me.0.pages more.0.pages) ∙ ap (λ x. both x (seen_as board more.0)) seen ∙ ap (both seat) told_as
  where
    part : List (Option Book) → SeatModel
    part l = record { board = record { table = t; size = z }; books = l; conductor = either me.0.conductor more.0.conductor }
