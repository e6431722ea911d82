-- Which books a seat has after a split and a join, for whoever parts all seats or joins them in a
-- loop.
use Rattle.std.proofs.Common.{◌≡◌, ◌≢◌, ◌∷◌, ◌∙◌}
use Rattle.msrp_plan.proofs.Common.{ℕ, zero, suc, List, [], Some, None, refl, sym, ap, slice_index_or}
use Rattle.msrp_board.proofs.Common.{Book, IsCoreSeat, Option, SeatModel, alone, book_at, both, either, none_at, only_at, together, without}

-- ---- over lists of any kind

pub at-only_same : {X : Type 0} (c : ℕ) (l : List (Option X)) → slice_index_or (only_at c l) c None ≡ slice_index_or l c None
at-only_same c [] = refl
at-only_same zero (x ∷ xs) = refl
at-only_same (suc c) (x ∷ xs) = at-only_same c xs

pub at-only_other : {X : Type 0} (c d : ℕ) (l : List (Option X)) → d ≢ c → slice_index_or (only_at c l) d None ≡ None
at-only_other c d [] n = refl
at-only_other zero zero (x ∷ xs) n = absurd (n refl)
at-only_other zero (suc d) (x ∷ xs) n = refl
at-only_other (suc c) zero (x ∷ xs) n = refl
at-only_other (suc c) (suc d) (x ∷ xs) n = at-only_other c d xs (λ e. n (ap suc e))

pub at-none_same : {X : Type 0} (c : ℕ) (l : List (Option X)) → slice_index_or (none_at c l) c None ≡ None
at-none_same c [] = refl
at-none_same zero (x ∷ xs) = refl
at-none_same (suc c) (x ∷ xs) = at-none_same c xs

pub at-none_other : {X : Type 0} (c d : ℕ) (l : List (Option X)) → d ≢ c → slice_index_or (none_at c l) d None ≡ slice_index_or l d None
at-none_other c d [] n = refl
at-none_other zero zero (x ∷ xs) n = absurd (n refl)
at-none_other zero (suc d) (x ∷ xs) n = refl
at-none_other (suc c) zero (x ∷ xs) n = refl
at-none_other (suc c) (suc d) (x ∷ xs) n = at-none_other c d xs (λ e. n (ap suc e))

either_none : {X : Type 0} (o : Option X) → either o None ≡ o
either_none None = refl
either_none (Some b) = refl

pub at-together : {X : Type 0} (l m : List (Option X)) (c : ℕ) → slice_index_or (together l m) c None ≡ either (slice_index_or l c None) (slice_index_or m c None)
at-together [] m c = refl
at-together (x ∷ xs) [] c = sym (either_none (slice_index_or (x ∷ xs) c None))
at-together (x ∷ xs) (y ∷ ys) zero = refl
at-together (x ∷ xs) (y ∷ ys) (suc c) = at-together xs ys c

-- ---- over books

pub book_at-alone : (seat : SeatModel) (c : ℕ) → book_at (alone c seat) c ≡ book_at seat c
book_at-alone seat c = at-only_same c seat.books

pub book_at-without_other : (seat : SeatModel) (c d : ℕ) → d ≢ c → book_at (without c seat) d ≡ book_at seat d
book_at-without_other seat c d n = at-none_other c d seat.books n

-- a joined seat has the books of both
pub book_at-both : (seat other : SeatModel) (c : ℕ) → book_at (both seat other) c ≡ either (book_at seat c) (book_at other c)
book_at-both seat other c = at-together seat.books other.books c

-- what the first has, a joined seat has
pub book_of_first : (seat other : SeatModel) (c : ℕ) (b : Book) → book_at seat c ≡ Some b → book_at (both seat other) c ≡ Some b
book_of_first seat other c b has = book_at-both seat other c ∙ ap (λ o. either o (book_at other c)) has

-- what the first has not, a joined seat has as the second has it
pub book_of_second : (seat other : SeatModel) (c : ℕ) → book_at seat c ≡ None → book_at (both seat other) c ≡ book_at other c
book_of_second seat other c none = book_at-both seat other c ∙ ap (λ o. either o (book_at other c)) none

-- a core's seat has no other core's book
pub no_other_book : (seat : SeatModel) (c d : ℕ) (b : Book) → IsCoreSeat seat c b → d ≢ c → book_at seat d ≡ None
no_other_book seat c d b s n = by_book (book_at seat d) refl
  where
    by_book : (o : Option Book) → book_at seat d ≡ o → o ≡ None
    by_book None e = refl
    by_book (Some a) e = absurd (n (s.only d a e))
