-- A view cut in two, and two views joined.
use Rattle.std.proofs.Common.{◌≡◌, ◌≢◌, ◌⊎◌, ◌∷◌, ◌∙◌}
use Rattle.msrp_plan.proofs.Common.{inl, inr, ⊎_elim, ℕ, zero, suc, List, [], Some, None, refl, sym, ap, arith, some, some-injective, some-ne-none, get_elem?}
use Rattle.msrp_board.proofs.Common.{BoardSize, Conductor, HasConductor, HasPage, Joins, Option, Page, Ruled, Splits, View, either, none_at, only_at, spent, together, view_alone, view_both, view_without}
use Rattle.msrp_board.proofs.Sharing.{split_shared, join_shared}
use Rattle.msrp_board.proofs.CoreStates.{page_or_none}

abbrev Slots : Type 0
Slots = List (Option Page)

abbrev In : Slots → ℕ → Page → Type 0
In l k b = get_elem? l k ≡ some (Some b)

none_in : (k : ℕ) (b : Page) → In [] k b → ⊥
none_in k b e = some-ne-none (Some b) (sym e)

abbrev nothing : Option Page
nothing = None

clash : (b : Page) → some nothing ≡ some (Some b) → ⊥
clash b e = absurd (cc)

pub of_none : (c : ℕ) (l : Slots) (k : ℕ) (b : Page) → In (none_at c l) k b → In l k b × (k ≢ c)
of_none c [] k b e = absurd (none_in k b e)
of_none zero (x ∷ xs) zero b e = absurd (clash b e)
of_none zero (x ∷ xs) (suc k) b e = (e, λ h. omega (arith, h))
of_none (suc c) (x ∷ xs) zero b e = (e, λ h. omega (arith, h))
of_none (suc c) (x ∷ xs) (suc k) b e = let r = of_none c xs k b e in (r.0, λ h. r.1 (omega (arith, h)))

pub of_only : (c : ℕ) (l : Slots) (k : ℕ) (b : Page) → In (only_at c l) k b → In l k b × (k ≡ c)
of_only c [] k b e = absurd (none_in k b e)
of_only zero (x ∷ xs) zero b e = (e, refl)
of_only zero (x ∷ xs) (suc k) b e = absurd (none_in k b e)
of_only (suc c) (x ∷ xs) zero b e = absurd (clash b e)
of_only (suc c) (x ∷ xs) (suc k) b e = let r = of_only c xs k b e in (r.0, ap suc r.1)

either_part : (c : ℕ) (l : Slots) (k : ℕ) (b : Page) → In l k b → In (only_at c l) k b ⊎ In (none_at c l) k b
either_part c [] k b e = absurd (none_in k b e)
either_part zero (x ∷ xs) zero b e = inl e
either_part zero (x ∷ xs) (suc k) b e = inr e
either_part (suc c) (x ∷ xs) zero b e = inr e
either_part (suc c) (x ∷ xs) (suc k) b e = either_part c xs k b e

of_two : (x y : Option Page) (b : Page) → either x y ≡ Some b → (x ≡ Some b) ⊎ (y ≡ Some b)
of_two None y b e = inr e
of_two (Some d) y b e = inl e

pub of_together : (l m : Slots) (k : ℕ) (b : Page) → In (together l m) k b → In l k b ⊎ In m k b
of_together [] m k b e = inr e
of_together (x ∷ xs) [] k b e = inl e
of_together (x ∷ xs) (y ∷ ys) zero b e = ⊎_elim (λ h. inl (ap some h)) (λ h. inr (ap some h)) (of_two x y b (some-injective (either x y) (Some b) e))
of_together (x ∷ xs) (y ∷ ys) (suc k) b e = of_together xs ys k b e

to_left : (l m : Slots) (k : ℕ) (b : Page) → In l k b → In (together l m) k b
to_left [] m k b e = absurd (none_in k b e)
to_left (x ∷ xs) [] k b e = e
to_left (x ∷ xs) (y ∷ ys) zero b e = ap (λ z. some (either z y)) (some-injective x (Some b) e)
to_left (x ∷ xs) (y ∷ ys) (suc k) b e = to_left xs ys k b e

to_right : (l m : Slots) (k : ℕ) (b : Page) → In m k b → ((d : Page) → ¬ In l k d) → In (together l m) k b
to_right [] m k b e n = e
to_right (x ∷ xs) [] k b e n = absurd (none_in k b e)
to_right (x ∷ xs) (y ∷ ys) zero b e n = ⊎_elim (λ h. absurd (n h.0 (ap some h.1))) (λ h. ap (λ z. some (either z y)) h ∙ e) (page_or_none x)
to_right (x ∷ xs) (y ∷ ys) (suc k) b e n = to_right xs ys k b e n

desk_of : (x y : Option Conductor) (o : Conductor) → either x y ≡ Some o → (x ≡ Some o) ⊎ (y ≡ Some o)
desk_of None y o e = inr e
desk_of (Some d) y o e = inl e

desk_left : (x y : Option Conductor) (o : Conductor) → x ≡ Some o → either x y ≡ Some o
desk_left None y o e = absurd (cc)
desk_left (Some d) y o e = e

desk_right : (x y : Option Conductor) (o : Conductor) → y ≡ Some o → ((d : Conductor) → ¬ (x ≡ Some d)) → either x y ≡ Some o
desk_right None y o e n = e
desk_right (Some d) y o e n = absurd (n d refl)

no_desk : (o : Conductor) → None ≡ Some o → ⊥
no_desk o e = cc

pub splits : (z : BoardSize) (id c : ℕ) (v : View) → Splits (Ruled z) id v (view_alone c v) (view_without c v)
splits z id c v s r at_id = record {
  pages = r.pages;
  conductor = r.conductor;
  shared = split_shared HasPage s.views (λ k b. get_elem? r.pages k ≡ some b) id v (view_alone c v) (view_without c v) at_id
      (λ k b h. (of_only c v.pages k b h).0) (λ k b h. (of_none c v.pages k b h).0)
      (λ k b d h g. (of_none c v.pages k d g).1 (of_only c v.pages k b h).1)
      (λ k b h. either_part c v.pages k b h) r.shared;
  shared_conductor = split_shared HasConductor s.views (λ k x. (k ≡ 0) × (r.conductor ≡ x)) id v (view_alone c v) (view_without c v) at_id
      (λ k b h. absurd (no_desk b h.1)) (λ k b h. h) (λ k b d h g. no_desk b h.1) (λ k b h. inr h) r.shared_conductor;
  tied = r.tied;
  limits = r.limits;
  words = r.words;
}

pub joins : (z : BoardSize) (id : ℕ) (v : View) (other : ℕ) (w : View) → Joins (Ruled z) id v other w (view_both v w) spent
joins z id v other w s r at_id apart at_other = record {
  pages = r.pages;
  conductor = r.conductor;
  shared = join_shared HasPage s.views (λ k b. get_elem? r.pages k ≡ some b) id other v w (view_both v w) spent at_id apart at_other
      (λ k b h. of_together v.pages w.pages k b h) (λ k b h. to_left v.pages w.pages k b h)
      (λ k b h n. to_right v.pages w.pages k b h n) (λ k b h. none_in k b h) r.shared;
  shared_conductor = join_shared HasConductor s.views (λ k x. (k ≡ 0) × (r.conductor ≡ x)) id other v w (view_both v w) spent at_id apart at_other
      (λ k b h. ⊎_elim (λ x. inl (h.0, x)) (λ x. inr (h.0, x)) (desk_of v.conductor w.conductor b h.1)) (λ k b h. (h.0, desk_left v.conductor w.conductor b h.1))
      (λ k b h n. (h.0, desk_right v.conductor w.conductor b h.1 (λ d x. n d (h.0, x)))) (λ k b h. no_desk b h.1) r.shared_conductor;
  tied = r.tied;
  limits = r.limits;
  words = r.words;
}
