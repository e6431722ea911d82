-- A page as callers see it: what it says of its core is what the book says.
use Rattle.std.proofs.Common.{◌++◌, ◌==◌, ◌||◌, ◌≡◌, ◌∷◌, ◌∙◌}
use Rattle.msrp_plan.proofs.Common.{nat_lt, ℕ, zero, suc, List, [], map, reverse, Bool, true, false, Some, None, refl, sym, ap, slice_index_or, list_any, list_any-append, some, get_elem?, ResCall, claim_with, claim_after}
use Rattle.msrp_board.proofs.Common.{AreStates, Ask, BoardModel, Book, Call, Claim, CoreState, Entry, Free, HasOnly, IsCoreSeat, Leave, Option, Page, Phase, Poll, Shows, States, View, claim_of, claim_with_call, has_acted, is_some, kept_of, lock_of, option_map, page_at, page_has_acted, phase_by, phase_in, phase_of, res_calls, seen_as, state_of, told}
use Rattle.msrp_board.proofs.Lists.{reverse_cons, fold_last}
use Rattle.msrp_board.proofs.CoreStates.{has_page, page_has}

-- one call more: what a core claims is what it holds or awaits
after_call : (l : Claim) (g : ℕ) (p : ℕ) (k : Call) → claim_with (phase_of l) (record { 0 = g }) k ≡ phase_of (claim_with_call l g p k)
after_call l g p (Ask zero) = refl
after_call l g p (Ask (suc n)) = refl
after_call l g p (Poll true) = refl
after_call l g p (Poll false) = refl
after_call l g p Leave = refl

pub res_calls_last : (es : List Entry) (e : Entry) → res_calls (es ++ e ∷ []) ≡ res_calls es ++ (e.res, e.call) ∷ []
res_calls_last [] e = refl
res_calls_last (f ∷ es) e = ap (λ l. (f.res, f.call) ∷ l) (res_calls_last es e)

pub res_calls_newest : (e : Entry) (es : List Entry) → res_calls (reverse (e ∷ es)) ≡ res_calls (reverse es) ++ (e.res, e.call) ∷ []
res_calls_newest e es = ap res_calls (reverse_cons e es) ∙ res_calls_last (reverse es) e

-- what a core holds or awaits after the entries that it keeps the newest first
pub lock_newest : (es : List Entry) → claim_after (res_calls (reverse es)) ≡ phase_of (claim_of es)
lock_newest [] = refl
lock_newest (e ∷ es) = ap claim_after (res_calls_newest e es) ∙ fold_last (λ (phase : Phase) (s : ResCall). claim_with phase s.0 s.1) Free (res_calls (reverse es)) (e.res, e.call)
    ∙ ap (λ phase. claim_with phase e.res e.call) (lock_newest es) ∙ after_call (claim_of es) e.res.0 e.place e.call

pub lock_told : (b : Page) → lock_of (told b) ≡ phase_of (claim_of b.newest)
lock_told b = lock_newest b.newest

or_last : (a b : Bool) → (a || (b || false)) ≡ (b || a)
or_last true true = refl
or_last true false = refl
or_last false true = refl
or_last false false = refl

any_newest : (p : Entry → Bool) (es : List Entry) → list_any p (reverse es) ≡ list_any p es
any_newest p [] = refl
any_newest p (e ∷ es) = ap (list_any p) (reverse_cons e es) ∙ list_any-append p (reverse es) (e ∷ []) ∙ or_last (list_any p (reverse es)) (p e) ∙ ap (λ b. p e || b) (any_newest p es)

pub acted_told : (b : Page) → has_acted (told b) ≡ page_has_acted b
acted_told b = any_newest (λ e. e.tick == b.tick) b.newest

-- a book that a seat shows is that of one of its pages
pub shown : (pages : List (Option Page)) (c : ℕ) → slice_index_or (map (option_map told) pages) c None ≡ option_map told (page_at pages c)
shown [] c = refl
shown (x ∷ xs) zero = refl
shown (x ∷ xs) (suc c) = shown xs c

of_some : (o : Option Page) (a : Book) → option_map told o ≡ Some a → (b : Page) × (o ≡ Some b) × (told b ≡ a)
of_some None a e = absurd (cc)
of_some (Some b) a e = (b, refl, cc)

pub page_of : (pages : List (Option Page)) (c : ℕ) (a : Book) → slice_index_or (map (option_map told) pages) c None ≡ Some a → (b : Page) × (get_elem? pages c ≡ some (Some b)) × (told b ≡ a)
page_of pages c a e = let r = of_some (page_at pages c) a (sym (shown pages c) ∙ e) in (r.0, has_page pages c r.0 r.1, r.2)

pub book_of : (pages : List (Option Page)) (c : ℕ) (b : Page) → get_elem? pages c ≡ some (Some b) → slice_index_or (map (option_map told) pages) c None ≡ Some (told b)
book_of pages c b h = shown pages c ∙ ap (option_map told) (page_has pages c b h)

-- a core's seat knows one page
pub sole_of : (board : BoardModel) (v : View) (c : ℕ) (a : Book) → IsCoreSeat (seen_as board v) c a → (b : Page) × HasOnly v c b × (told b ≡ a)
sole_of board v c a is = let r = page_of v.pages c a is.book in
    (r.0, record { page = r.1; only = λ d e h. is.only d (told e) (book_of v.pages d e h); conductor = is.conductor }, r.2)

some_told : (o : Option Page) → is_some (option_map state_of o) ≡ is_some (option_map told o)
some_told None = refl
some_told (Some b) = refl

-- a seat keeps a state of the core just where it has its book
pub held_some : (held : States) (pages : List (Option Page)) (c : ℕ) → AreStates held pages → is_some (kept_of held c) ≡ is_some (slice_index_or (map (option_map told) pages) c None)
held_some held pages c tie = ap is_some (tie c) ∙ some_told (page_at pages c) ∙ sym (ap is_some (shown pages c))

-- where a core's seat stands
pub phase_shown : (x : CoreState) (b : Book) (n : ℕ) → Shows x b → phase_by x.stopped x.admitted (nat_lt x.tick n) ≡ phase_in n b
phase_shown x b n s = ap (λ d. phase_by d x.admitted (nat_lt x.tick n)) s.stopped ∙ ap (λ a. phase_by b.stopped a (nat_lt x.tick n)) s.admitted ∙ ap (λ t. phase_by b.stopped b.admitted (nat_lt t n)) s.tick
