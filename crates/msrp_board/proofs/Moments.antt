-- A state under the rule, as callers see it.
use Rattle.std.proofs.Common.{◌≡◌, ◌∷◌, ◌∙◌}
use Rattle.msrp_plan.proofs.Common.{ℕ, zero, suc, List, [], map, set, Some, refl, sym, ap, subst, arith, slice_get, slice_index, set-get_or, some, none, some-injective, some-ne-none, get_elem?}
use Rattle.msrp_board.proofs.Common.{Allows, BoardModel, BoardSize, Book, Conductor, HasConductor, HasPage, IsUnderRule, Me, OwnsBy, Page, Ruled, SeatModel, State, TellsRule, View, book_at, keeps, seen_as, set_again, step, stepped, told}
use Rattle.msrp_board.specs.Moments.{HoldsBook, HoldsConductor, AreTied, StandsIn}
use Rattle.msrp_board.proofs.Told.{page_of, book_of}
use Rattle.msrp_board.proofs.End.{whole_of, tied_told, book_of_page, page_of_book}

-- a seat of a state is what one of its views tells
view_of : (board : BoardModel) (views : List View) (i : ℕ) (seat : SeatModel) → slice_get (map (seen_as board) views) i ≡ Some seat → (v : View) × (get_elem? views i ≡ some v) × (seen_as board v ≡ seat)
view_of board [] i seat e = absurd (cc)
view_of board (v ∷ vs) zero seat e = (v, refl, cc)
view_of board (v ∷ vs) (suc i) seat e = view_of board vs i seat e

seat_of : (board : BoardModel) (views : List View) (i : ℕ) (v : View) → get_elem? views i ≡ some v → slice_get (map (seen_as board) views) i ≡ Some (seen_as board v)
seat_of board [] i v e = absurd (some-ne-none v (sym e))
seat_of board (w ∷ vs) zero v e = ap (λ x. Some (seen_as board x)) (some-injective w v e)
seat_of board (w ∷ vs) (suc i) v e = seat_of board vs i v e

-- the page of a book that a seat holds
pub record Held (views : List View) (i c : ℕ) (b : Book) : Type 0 where
  pub page : Page
  pub tells : told page ≡ b
  pub owns : (v : View) × (get_elem? views i ≡ some v) × HasPage v c page

held : (board : BoardModel) (views : List View) (i c : ℕ) (b : Book) → HoldsBook (map (seen_as board) views) i c b → Held views i c b
held board views i c b h =
    let v = view_of board views i h.0 h.1 in
    let p = page_of v.0.pages c b (ap (λ s. book_at s c) v.2 ∙ h.2) in
    record { page = p.0; tells = p.2; owns = (v.0, v.1, p.1) }

of_page : (board : BoardModel) (views : List View) (i c : ℕ) (p : Page) (b : Book) → told p ≡ b → (v : View) × (get_elem? views i ≡ some v) × HasPage v c p → HoldsBook (map (seen_as board) views) i c b
of_page board views i c p b tells o = (seen_as board o.0, seat_of board views i o.0 o.1, book_of o.0.pages c p o.2 ∙ ap (λ (x : Book). Some x) tells)

held_conductor : (board : BoardModel) (views : List View) (i : ℕ) (o : Conductor) → HoldsConductor (map (seen_as board) views) i o → OwnsBy HasConductor views i 0 o
held_conductor board views i o h = let v = view_of board views i h.0 h.1 in (v.0, v.1, (refl, ap (λ (s : SeatModel). s.conductor) v.2 ∙ h.2))

pub tied_always : (board : BoardModel) (s : State (Unit {0}) View) → Ruled board.size s → AreTied board.size s.words (map (seen_as board) s.views)
tied_always board s r =
    let z = board.size in
    record {
      whole = whole_of z s.words (map told r.pages) r.conductor;
      sized = refl;
      tickets = refl;
      barrier = refl;
      shared = record {
        books = λ i c b h. let k = held board s.views i c b h in book_of_page r.pages c k.page (r.shared.true_of i c k.page k.owns) ∙ ap (λ (x : Book). Some x) k.tells;
        with_one = λ c b e. let p = page_of_book r.pages c b e in let o = r.shared.with_one c p.0 p.1 in (o.0, of_page board s.views o.0 c p.0 b p.2 o.1);
        with_no_other = λ i j c b e h k. let x = held board s.views i c b h in let y = held board s.views j c e k in r.shared.with_no_other i j c x.page y.page x.owns y.owns;
        conductor = λ i o h. sym (r.shared_conductor.true_of i 0 o (held_conductor board s.views i o h)).1;
        conductor_with_one = let o = r.shared_conductor.with_one 0 r.conductor (refl, refl) in (o.0, (seen_as board o.1.0, seat_of board s.views o.0 o.1.0 o.1.1, o.1.2.1));
        conductor_with_no_other = λ i j o e h k. r.shared_conductor.with_no_other i j 0 o e (held_conductor board s.views i o h) (held_conductor board s.views j e k);
      };
      tied = tied_told z s.words r.pages r.conductor r.limits (let l = r.words in omega (arith, l)) r.tied;
    }

-- a step that changes nothing
unchanged : (s : State (Unit {0}) View) (i id : ℕ) (me : Me (Unit {0}) View) → get_elem? s.views id ≡ some me.0 → stepped s i (slice_index s.words i) id me.1 me.0 keeps ≡ s
unchanged s i id me at_id =
    let of : List ℕ → List View → State (Unit {0}) View = λ words views. record { words = words; homes = s.homes; views = views } in
    ap (λ words. of words (set s.views id me.0)) (set-get_or s.words i 0) ∙ ap (of s.words) (set_again s.views id me.0 at_id)

pub confirm_allowed : (z : BoardSize) (slots id i : ℕ) (me : Me (Unit {0}) View) → Allows (Ruled z) slots id me i (λ n. n) (TellsRule z (step slots i 0 0 none) me)
confirm_allowed z slots id i me s r _ at_id fits =
    (me.0, keeps, tt, subst (Ruled z) (sym (unchanged s i id me at_id)) r, record { same = refl; state = s; seat = id; ruled = r; there = at_id })

-- a seat of a state under the rule, as callers see it
pub stands : (z : BoardSize) (board : BoardModel) (seat : SeatModel) (me now : Me (Unit {0}) View) → z ≡ board.size → seen_as board me.0 ≡ seat → IsUnderRule z me now → StandsIn seat
stands z board seat me now size seen r =
    let tied = tied_always board r.state (subst (λ k. Ruled k r.state) size r.ruled) in
    let at = seat_of board r.state.views r.seat me.0 r.there in
    subst StandsIn seen (record {
      whole = tied.whole;
      sized = tied.sized;
      books = λ c b h. tied.shared.books r.seat c b (seen_as board me.0, at, h);
      conductor = λ o h. tied.shared.conductor r.seat o (seen_as board me.0, at, h);
      tied = tied.tied;
    })
