-- A core's seat, for whoever makes its calls: how it comes about, what its readers tell, and that
-- it stays one.
use Rattle.msrp_plan.proofs.Common.{ℕ, zero, suc, List, [], map, Bool, true, false, nat_lt, Some, None, refl, sym, subst, ap, arith, ne_eqb, slice_index_or, IsSome, list_any, AllByRecursion, dite, ℕ_discrete}
use Rattle.msrp_board.proofs.Common.{BoardModel, BoardSize, Book, Entry, Go, HasCore, IsCoreSeat, IsCoreSeatOn, IsFresh, IsIn, IsKept, IsSeat, MayAct, Option, Phase, SeatModel, SeatPhase, Wait, Waiting, admissions_of, alone, book_at, book_with_admission, has_acted, is_some, lock_of, only_at, option_map, phase_by, phase_in, with_admission, with_books, with_stop}
use Rattle.std.proofs.Common.{◌==◌, ◌||◌, ◌≡◌, ◌<◌, ◌∷◌, ◌∙◌, true≢false}
use Rattle.msrp_board.specs.declared.answers.Look.{Look}
use Rattle.msrp_board.specs.declared.answers.Look.TheVariants.{Stopped}
use Rattle.msrp_board.proofs.SeatBooks.{at-only_other, book_at-alone}

-- a core's seat is of one core, and has one book
pub core_is_one : (seat : SeatModel) (c d : ℕ) (b e : Book) → IsCoreSeat seat c b → IsCoreSeat seat d e → (c ≡ d) × (b ≡ e)
core_is_one seat c d b e one two =
    let same : c ≡ d = two.only c b one.book in
    let books : Some b ≡ Some e = sym one.book ∙ ap (book_at seat) same ∙ two.book in (same, cc)

-- ---- how it comes about

only_book : (c d : ℕ) (l : List (Option Book)) (e : Book) → slice_index_or (only_at c l) d None ≡ Some e → d ≡ c
only_book c d l e h = dite (ℕ_discrete d c) (λ q. q) (λ n. absurd (clash (sym (at-only_other c d l n) ∙ h)))
  where
    clash : None ≡ Some e → ⊥
    clash q = cc

-- the book of a core, parted from the others, makes the core's seat
pub alone_is_core : (seat : SeatModel) (c : ℕ) (b : Book) → book_at seat c ≡ Some b → IsCoreSeat (alone c seat) c b
alone_is_core seat c b h = record { book = book_at-alone seat c ∙ h; only = λ d e k. only_book c d seat.books e k; conductor = refl }

some_book : (o : Option Book) → is_some o ≡ true → (b : Book) × (o ≡ Some b)
some_book None e = absurd (true≢false (sym e))
some_book (Some b) e = (b, refl)

pub alone_has_core : (seat : SeatModel) (c : ℕ) → IsSome (book_at seat c) → HasCore (alone c seat)
alone_has_core seat c h = let r = some_book (book_at seat c) h in (c, r.0, alone_is_core seat c r.0 r.1)

-- ---- that it stays one

book_changed : (f : Book → Book) (l : List (Option Book)) (c : ℕ) → slice_index_or (map (option_map f) l) c None ≡ option_map f (slice_index_or l c None)
book_changed f [] c = refl
book_changed f (x ∷ xs) zero = refl
book_changed f (x ∷ xs) (suc c) = book_changed f xs c

was_some : (f : Book → Book) (o : Option Book) (e : Book) → option_map f o ≡ Some e → (b : Book) × (o ≡ Some b)
was_some f None e h = absurd (cc)
was_some f (Some b) e h = (b, refl)

-- a step changes the core's book
pub core_changed : (f : Book → Book) (seat : SeatModel) (c : ℕ) (b : Book) → IsCoreSeat seat c b → IsCoreSeat (with_books f seat) c (f b)
core_changed f seat c b s = record {
  book = book_changed f seat.books c ∙ ap (option_map f) s.book;
  only = λ d e h. let r = was_some f (book_at seat d) e (sym (book_changed f seat.books d) ∙ h) in s.only d r.0 r.1;
  conductor = s.conductor;
}

pub changed_has_core : (f : Book → Book) (seat : SeatModel) → HasCore seat → HasCore (with_books f seat)
changed_has_core f seat s = (s.0, f s.1, core_changed f seat s.0 s.1 s.2)

pub step_on : (f : Book → Book) (old new : SeatModel) (board : BoardModel) → new ≡ with_books f old → IsCoreSeatOn board old → IsCoreSeatOn board new
step_on f old new board is s = record { core = subst HasCore (sym is) (changed_has_core f old s.core); on = ap (λ (x : SeatModel). x.board) is ∙ s.on }

-- ---- what its readers tell

pub is_in : (seat : SeatModel) (phase : SeatPhase) → HasCore seat → ((c : ℕ) (b : Book) → IsCoreSeat seat c b → phase ≡ phase_in seat.board.size.ticks b) → IsIn phase seat
is_in seat phase s reads = record { core = s.0; book = s.1; of_core = s.2; stands = sym (reads s.0 s.1 s.2) }

pub may_act : (seat : SeatModel) (lock : Phase) → IsFresh seat → ((c : ℕ) (b : Book) → IsCoreSeat seat c b → lock ≡ lock_of b) → MayAct lock seat
may_act seat lock fresh reads = let m = fresh.1 in record { at = m.at; quiet = m.quiet; claims = sym (reads m.at.core m.at.book m.at.of_core) }

-- ---- what follows from what every book keeps

none_at : (t : ℕ) (es : List Entry) → AllByRecursion (λ e. e.tick < t) es → list_any (λ e. e.tick == t) es ≡ false
none_at t [] past = refl
none_at t (e ∷ es) past = let h = past.0 in ap (λ x. x || list_any (λ e. e.tick == t) es) (ne_eqb e.tick t (λ q. omega (arith, h, q))) ∙ none_at t es past.1

none_before : (t : ℕ) (es : List Entry) → t ≡ 0 → AllByRecursion (λ e. e.tick < t) es → es ≡ []
none_before t [] zero_is past = refl
none_before t (e ∷ es) zero_is past = absurd (let h = past.0 in omega (arith, h, zero_is))

entries_past : (size : BoardSize) (b : Book) → IsKept size b → b.admitted ≡ false → AllByRecursion (λ e. e.tick < b.tick) b.entries
entries_past size b kept out = subst (λ r. AllByRecursion (λ e. e.tick < r) b.entries) (ap (λ a. admissions_of a b.tick) out) kept.past

-- a core that is in no tick has not acted in the one that it waits for
pub not_acted : (size : BoardSize) (b : Book) → IsKept size b → b.admitted ≡ false → has_acted b ≡ false
not_acted size b kept out = none_at b.tick b.entries (entries_past size b kept out)

-- a core that waits for tick 0 has done nothing
pub empty_at_start : (size : BoardSize) (b : Book) → IsKept size b → b.admitted ≡ false → b.tick ≡ 0 → b.entries ≡ []
empty_at_start size b kept out zero_is = none_before b.tick b.entries zero_is (entries_past size b kept out)

waits : (stopped admitted left : Bool) → phase_by stopped admitted left ≡ Waiting → (stopped ≡ false) × (admitted ≡ false)
waits true a left e = absurd (cc)
waits false true left e = absurd (cc)
waits false false left e = (refl, refl)

-- where a book waits, it is neither told to stop nor admitted
pub waiting_book : (ticks : ℕ) (b : Book) → phase_in ticks b ≡ Waiting → (b.stopped ≡ false) × (b.admitted ≡ false)
waiting_book ticks b stands = waits b.stopped b.admitted (nat_lt b.tick ticks) stands

-- a core that was just let in has not acted
pub fresh_after_go : (old new : SeatModel) → IsSeat old → IsIn Waiting old → new ≡ with_admission old → IsFresh new
fresh_after_go old new kept at is =
    let out = waiting_book old.board.size.ticks at.book at.stands in
    subst IsFresh (sym is) (
      lock_of at.book,
      record {
        at = record {
          core = at.core;
          book = book_with_admission at.book;
          of_core = core_changed book_with_admission old at.core at.book at.of_core;
          stands = ap (λ x. phase_by x true (nat_lt at.book.tick old.board.size.ticks)) out.0;
        };
        quiet = not_acted old.board.size at.book (kept.kept at.core at.book at.of_core.book) out.1;
        claims = refl;
      },
    )

-- ---- a look

-- whatever a look finds
pub looked_on : (look : Look) (old new : SeatModel) (board : BoardModel) → IsCoreSeatOn board old → (look ≡ Wait → new ≡ old) → (look ≡ Go → new ≡ with_admission old) → (look ≡ Stopped → new ≡ with_stop old) → IsCoreSeatOn board new
looked_on Wait old new board s wait go stop = subst (IsCoreSeatOn board) (sym (wait refl)) s
looked_on Go old new board s wait go stop = step_on _ old new board (go refl) s
looked_on Stopped old new board s wait go stop = step_on _ old new board (stop refl) s

pub alone_on : (seat own : SeatModel) (board : BoardModel) (c : ℕ) → own ≡ alone c seat → seat.board ≡ board → IsSome (book_at seat c) → IsCoreSeatOn board own
alone_on seat own board c is at has = record { core = subst HasCore (sym is) (alone_has_core seat c has); on = ap (λ (x : SeatModel). x.board) is ∙ at }
