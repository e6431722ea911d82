-- The rule at the end of a board, as callers see it.
use Rattle.msrp_plan.proofs.Common.{⊎_elim, inl, inr, ℕ, zero, suc, List, [], length, map, set, take, reverse, Some, None, Bool, true, false, refl, sym, ap, subst, arith, slice_index, slice_index_or, slice_get, some, some-injective, some-ne-none, dite, ℕ_discrete, get_elem?, mul-le, mod-mul-add, div-mul-add, cases_lt, length-map, length-take-le, get_or-take, get_or-set_same, get_or-set_other, sum_by-cons}
use Rattle.std.proofs.Common.{◌≡◌, ◌⊎◌, ◌+◌, ◌<◌, ◌≤◌, ◌∷◌, ◌∙◌, true≢false}
use Rattle.std.specs.Prelude.{sum_by, filter_map}
use Rattle.msrp_board.proofs.Common.{Aborted, BoardModel, BoardSize, Book, Conductor, Event, Final, Gathered, HasAll, HasPage, IsKept, IsKeptNewest, IsServed, IsServedNewest, IsSize, IsTied, IsTiedNewest, IsWhole, Opened, Option, Page, Ruled, SeatModel, Seen, TableId, Unopened, View, WholeBoard, abort_count, arrivals, book_at, by_core, empty_page, entries_at, entry_count, high, is_some, low, on_resource, opening_count, option_map, page_admissions, page_at, seen_as, settled_as, told, unwrap_or}
use Rattle.msrp_board.specs.Books.{admissions as book_admissions}
use Rattle.msrp_board.proofs.CoreStates.{get_or_at, has_page, page_has, page_or_none}
use Rattle.msrp_board.proofs.Counts.{total_bound, ticks_length}
use Rattle.msrp_board.proofs.TicketSteps.{steps_length, split_word}
use Rattle.msrp_board.proofs.Arrivals.{arrivals_bound}
use Rattle.msrp_board.proofs.BarrierSteps.{reach_high, bit}
use Rattle.msrp_board.proofs.Reversed.{history_reversed, legal_reversed, requests_reversed, releases_reversed, rising_reversed}
use Rattle.msrp_board.proofs.Kept.{kept_told}
use Rattle.msrp_board.proofs.Told.{shown}
use Rattle.msrp_board.proofs.Seats.{named}
use Rattle.msrp_board.proofs.Queue.{in_range}

-- ---- the rule of the last state

page_of_some : (o : Option Page) → is_some (option_map told o) ≡ true → (b : Page) × (o ≡ Some b)
page_of_some None e = absurd (true≢false (sym e))
page_of_some (Some b) e = (b, refl)

conductor_of_some : (o : Option Conductor) → is_some o ≡ true → (x : Conductor) × (o ≡ Some x)
conductor_of_some None e = absurd (true≢false (sym e))
conductor_of_some (Some x) e = (x, refl)

-- a seat with all books knows a page of each core
all_pages : (board : BoardModel) (v : View) (seat : SeatModel) → seen_as board v ≡ seat → HasAll seat → ((c : ℕ) → c < board.size.cores → (b : Page) × HasPage v c b) × ((o : Conductor) × (v.conductor ≡ Some o))
all_pages board v seat seen all =
    let a : HasAll (seen_as board v) = subst HasAll (sym seen) all in (
      (λ c low. let r = page_of_some (page_at v.pages c) (ap is_some (sym (shown v.pages c)) ∙ a.cores c low) in (r.0, has_page v.pages c r.0 r.1)),
      conductor_of_some v.conductor a.conductor,
    )

pub whole : (key : BoardSize) (board : BoardModel) (seat : SeatModel) (id : ℕ) (v : View) (ws : List ℕ) (xs : List (Unit {0})) (out : List ℕ) → key ≡ board.size → seen_as board v ≡ seat → HasAll seat → ((g : ℕ) → g < board.size.resources + 1 → slice_index out g ≡ slice_index ws g)
    → Final (Seen (Ruled key) id v) ws xs → IsWhole board.size out v
whole key board seat id v ws xs out is seen has_all same end =
    let z = board.size in
    let all = all_pages board v seat seen has_all in
    let s = end.0 in
    let r : Ruled z s = subst (λ k. Ruled k s) is end.1.0 in
    let has : (c : ℕ) (b : Page) → HasPage v c b → get_elem? r.pages c ≡ some b = λ c b h. r.shared.true_of id c b (v, end.1.1, h) in
    let o = all.1.0 in
    let is : r.conductor ≡ o = (r.shared_conductor.true_of id 0 o (v, end.1.1, (refl, all.1.1))).1 in
    record {
      pages = r.pages;
      conductor = o;
      known = has;
      all = λ c b e. let l = in_range r.pages c b e in let n = r.tied.cores in let h = all.0 c (omega (arith, l, n)) in
          subst (HasPage v c) (some-injective h.0 b (sym (has c h.0 h.1) ∙ e)) h.1;
      conducts = all.1.1;
      tied = record {
        cores = r.tied.cores;
        served = λ g in_g. subst (λ k. IsServedNewest g k r.pages) (ap (λ l. slice_index l g) end.2 ∙ sym (same g (omega (arith, in_g)))) (r.tied.served g in_g);
        kept = r.tied.kept;
        gathered = subst (λ k. Gathered k r.pages o) (ap (λ l. slice_index l z.resources) end.2 ∙ sym (same z.resources (omega arith))) (subst (Gathered (slice_index s.words z.resources) r.pages) is r.tied.gathered);
      };
    }

pub copied : (out ws : List ℕ) (g m x : ℕ) → m ≡ suc g → g < length out → get_elem? ws g ≡ some x → ((d : ℕ) → d < g → slice_index out d ≡ slice_index ws d) → (d : ℕ) → d < m → slice_index (set out g x) d ≡ slice_index ws d
copied out ws g m x is low at old d h = dite (ℕ_discrete d g)
    (λ q. subst (λ k. slice_index (set out g x) k ≡ slice_index ws k) (sym q) (get_or-set_same out g x 0 low ∙ sym (get_or_at ws g x 0 at)))
    (λ n. get_or-set_other out g d x 0 n ∙ old d (omega (arith, is, h, n)))

-- ---- the pages of all cores are the books

none_here : (c : ℕ) (b : Page) → get_elem? [] c ≡ some b → ⊥
none_here c b e = some-ne-none b (sym e)

no_page : (b : Page) → some None ≡ some (Some b) → ⊥
no_page b e = absurd (cc)

collected : (l : List (Option Page)) (pages : List Page) → ((c : ℕ) (b : Page) → get_elem? l c ≡ some (Some b) → get_elem? pages c ≡ some b) → ((c : ℕ) (b : Page) → get_elem? pages c ≡ some b → get_elem? l c ≡ some (Some b))
    → filter_map (λ book. book) (map (option_map told) l) ≡ map told pages
collected [] [] to back = refl
collected [] (p ∷ ps) to back = absurd (some-ne-none (Some p) (sym (back 0 p refl)))
collected (None ∷ xs) [] to back = collected xs [] (λ c b h. absurd (none_here (suc c) b (to (suc c) b h))) (λ c b h. absurd (none_here c b h))
collected (None ∷ xs) (p ∷ ps) to back = absurd (no_page p (back 0 p refl))
collected (Some b ∷ xs) [] to back = absurd (none_here 0 b (to 0 b refl))
collected (Some b ∷ xs) (p ∷ ps) to back = ap (λ (x : Page). told x ∷ filter_map (λ book. book) (map (option_map told) xs)) (sym (some-injective p b (to 0 b refl)))
    ∙ ap (λ l. told p ∷ l) (collected xs ps (λ c a h. to (suc c) a h) (λ c a h. back (suc c) a h))

pub book_of_page : (pages : List Page) (c : ℕ) (b : Page) → get_elem? pages c ≡ some b → slice_get (map told pages) c ≡ Some (told b)
book_of_page [] c b e = absurd (none_here c b e)
book_of_page (x ∷ xs) zero b e = ap (λ (p : Page). Some (told p)) (some-injective x b e)
book_of_page (x ∷ xs) (suc c) b e = book_of_page xs c b e

pub page_of_book : (pages : List Page) (c : ℕ) (a : Book) → slice_get (map told pages) c ≡ Some a → (b : Page) × (get_elem? pages c ≡ some b) × (told b ≡ a)
page_of_book [] c a e = absurd (cc)
page_of_book (x ∷ xs) zero a e = (x, refl, cc)
page_of_book (x ∷ xs) (suc c) a e = page_of_book xs c a e

got : (pages : List Page) (c : ℕ) → ((b : Page) × (get_elem? pages c ≡ some b)) ⊎ (slice_get (map told pages) c ≡ None)
got [] c = inr refl
got (x ∷ xs) zero = inl (x, refl)
got (x ∷ xs) (suc c) = got xs c

same_books : (l : List (Option Page)) (pages : List Page) → ((c : ℕ) (b : Page) → get_elem? l c ≡ some (Some b) → get_elem? pages c ≡ some b) → ((c : ℕ) (b : Page) → get_elem? pages c ≡ some b → get_elem? l c ≡ some (Some b))
    → (c : ℕ) → slice_index_or (map (option_map told) l) c None ≡ slice_get (map told pages) c
same_books l pages to back c = ⊎_elim
    (λ h. shown l c ∙ ap (option_map told) (page_has l c h.0 (back c h.0 h.1)) ∙ sym (book_of_page pages c h.0 h.1))
    (λ n. shown l c ∙ ⊎_elim (λ k. absurd (past k.0 (book_of_page pages c k.0 (to c k.0 (has_page l c k.0 k.1))) n)) (λ e. ap (option_map told) e ∙ sym n) (page_or_none (page_at l c)))
    (got pages c)
  where
    past : (b : Page) → slice_get (map told pages) c ≡ Some (told b) → slice_get (map told pages) c ≡ None → ⊥
    past b e n = let f : Some (told b) ≡ None = sym e ∙ n in absurd (cc)

-- ---- the rule, oldest first

page_within : (pages : List Page) (c : ℕ) → c < length pages → get_elem? pages c ≡ some (slice_index_or pages c empty_page)
page_within [] c l = absurd (omega (arith, l))
page_within (b ∷ bs) zero l = refl
page_within (b ∷ bs) (suc c) l = page_within bs c (omega (arith, l))

page_past : (pages : List Page) (c : ℕ) → length pages ≤ c → slice_index_or pages c empty_page ≡ empty_page
page_past [] c l = refl
page_past (b ∷ bs) zero l = absurd (omega (arith, l))
page_past (b ∷ bs) (suc c) l = page_past bs c (omega (arith, l))

entries_told : (pages : List Page) (c : ℕ) → reverse (slice_index_or pages c empty_page).newest ≡ entries_at (map told pages) c
entries_told [] c = refl
entries_told (b ∷ bs) zero = refl
entries_told (b ∷ bs) (suc c) = entries_told bs c

served_seen : (g word : ℕ) (pages : List Page) → entry_count pages ≤ 160000 → IsServedNewest g word pages → (h : List Event) × IsServed word g (entries_at (map told pages)) h
served_seen g word pages small s =
    let log = s.log in
    let own : (c : ℕ) → by_core c log ≡ on_resource g (slice_index_or pages c empty_page).newest = λ c. elim (cases_lt c (length pages)) [
      | inl l ↦ s.history.entries c (slice_index_or pages c empty_page) (page_within pages c l)
      | inr k ↦ s.history.none_past c k ∙ ap (λ (b : Page). on_resource g b.newest) (sym (page_past pages c k))
    ] in
    let h = history_reversed g (λ c. (slice_index_or pages c empty_page).newest) log own s.history.placed s.polls in
    let parts = split_word word log s.counts (let a = steps_length log in let b = s.short in omega (arith, a, b, small)) in (
      reverse log,
      record {
        history = record { entries = λ c. h.entries c ∙ ap (on_resource g) (entries_told pages c); placed = h.placed; polls = h.polls };
        requests = requests_reversed log ∙ sym parts.0;
        releases = releases_reversed log ∙ sym parts.1;
        legal = legal_reversed log s.legal;
        rising = rising_reversed log s.rising;
      },
    )

arrivals_told : (pages : List Page) → arrivals pages ≡ sum_by (λ b. b.tick) (map told pages)
arrivals_told [] = refl
arrivals_told (b ∷ bs) = ap (λ n. b.tick + n) (arrivals_told bs) ∙ sym (sum_by-cons (λ (x : Book). x.tick) (told b) (map told bs))

few_steps : (z : BoardSize) (pages : List Page) → length pages ≡ z.cores → z.cores ≤ 8 → z.ticks ≤ 20000 → ((c : ℕ) (b : Page) → get_elem? pages c ≡ some b → IsKeptNewest z b) → (entry_count pages ≤ 160000) × (arrivals pages ≤ 160000)
few_steps z pages len small short kept =
    let t = total_bound pages z.ticks (λ c b e. let k = kept c b e in let l = ticks_length (page_admissions b) b.newest k.ticks in let r = k.within in omega (arith, l, r)) in
    let a = arrivals_bound pages z.ticks (λ c b e. let k = (kept c b e).within in let l = reach_high b in omega (arith, k, l)) in
    let m = mul-le (length pages) z.ticks 8 20000 (omega (arith, len, small)) short in (omega (arith, t, m), omega (arith, a, m))

-- a whole board of these words, books and conductor
abbrev pub whole_of : BoardSize → List ℕ → List Book → Conductor → WholeBoard
whole_of z words books o = record { size = z; tickets = take z.resources words; barrier = slice_index words z.resources; books = books; conductor = o }

-- pages under the rule, told as books, are tied to the words
pub tied_told : (z : BoardSize) (words : List ℕ) (pages : List Page) (o : Conductor) → IsSize z → z.resources ≤ length words → IsTiedNewest z words pages o → IsTied (whole_of z words (map told pages) o)
tied_told z words pages o limits many tied =
    let few = few_steps z pages tied.cores limits.cores.1 limits.ticks.1 tied.kept in
    let gathered = tied.gathered in
    let o_bit = bit o in
    let some_arrivals = few.1 in
    let small : arrivals pages + opening_count o < 4294967296 = omega (arith, o_bit, some_arrivals) in
    record {
      cores = length-map pages told ∙ tied.cores;
      words = length-take-le z.resources words many;
      limits = limits;
      served = λ g in_g. subst (λ k. (h : List Event) × IsServed k g (entries_at (map told pages)) h) (sym (get_or-take z.resources words g 0 in_g)) (served_seen g (slice_index words g) pages few.0 (tied.served g in_g));
      kept = λ c b e. let r = page_of_book pages c b e in subst (IsKept z) r.2 (kept_told z r.0 (tied.kept c r.0 r.1));
      arrivals = ap low gathered.counts ∙ mod-mul-add (abort_count o) 4294967296 (arrivals pages + opening_count o) small ∙ ap (λ n. n + opening_count o) (arrivals_told pages);
      abort = ap high gathered.counts ∙ div-mul-add (abort_count o) 4294967296 (arrivals pages + opening_count o) small;
      told = λ c b e off. let r = page_of_book pages c b e in gathered.told c r.0 r.1 (ap (λ (x : Book). x.stopped) r.2 ∙ off);
      met = λ c t b e in_t. let r = page_of_book pages c b e in
          let same : page_admissions r.0 ≡ book_admissions b = ap (λ (x : Book). book_admissions x) r.2 in
          let m = gathered.met c r.0 r.1 (omega (arith, in_t, same)) in
          (m.0, λ d x f. let q = page_of_book pages d x f in let l = m.1 d q.0 q.1 in let tick = ap (λ (y : Book). y.tick) q.2 in omega (arith, l, in_t, same, tick));
    }

tied_with : (z : BoardSize) (words : List ℕ) (board : BoardModel) (v : View) (pages : List Page) (o : Conductor) → IsSize z → z.resources ≤ length words
    → filter_map (λ book. book) (map (option_map told) v.pages) ≡ map told pages → v.conductor ≡ Some o → IsTiedNewest z words pages o → IsTied (settled_as z words (seen_as board v))
tied_with z words board v pages o limits many books opened tied =
    subst (λ (l : List Book). IsTied (whole_of z words l (unwrap_or v.conductor Unopened))) (sym books) (subst (λ (x : Option Conductor). IsTied (whole_of z words (map told pages) (unwrap_or x Unopened))) (sym opened) (tied_told z words pages o limits many tied))

-- what a board that nobody uses any more is to its callers
pub record Ends (z : BoardSize) (words : List ℕ) (seat : SeatModel) : Type 0 where
  pub tied : IsTied (settled_as z words seat)
  pub books : (c : ℕ) → book_at seat c ≡ slice_get (settled_as z words seat).books c
  pub conductor : seat.conductor ≡ Some (settled_as z words seat).conductor

unwrapped : (x : Option Conductor) (o : Conductor) → x ≡ Some o → x ≡ Some (unwrap_or x Unopened)
unwrapped None o e = absurd (cc)
unwrapped (Some a) o e = refl

pub ends : (z : BoardSize) (words : List ℕ) (board : BoardModel) (v : View) → IsSize z → z.resources ≤ length words → IsWhole z words v → Ends z words (seen_as board v)
ends z words board v limits many w =
    let books = collected v.pages w.pages w.known w.all in
    record {
      tied = tied_with z words board v w.pages w.conductor limits many books w.conducts w.tied;
      books = λ c. same_books v.pages w.pages w.known w.all c ∙ ap (λ (l : List Book). slice_get l c) (sym books);
      conductor = unwrapped v.conductor w.conductor w.conducts;
    }

-- a board that is closed by a seat with all its books
pub settles : (z y key : BoardSize) (t : TableId) (seat last : SeatModel) (id : ℕ) (v : View) (ws out : List ℕ) (xs : List (Unit {0})) → y ≡ z → key ≡ z → IsSize z → length out ≡ 33 → seen_as (named t y) v ≡ seat → last ≡ seat → HasAll seat
    → ((g : ℕ) → g < z.resources + 1 → slice_index out g ≡ slice_index ws g) → Final (Seen (Ruled key) id v) ws xs → Ends z out last
settles z y key t seat last id v ws out xs same keyed limits room seen last_is all words final =
    let w = whole key (named t y) seat id v ws xs out (keyed ∙ sym same) seen all (subst (λ (k : BoardSize). (g : ℕ) → g < k.resources + 1 → slice_index out g ≡ slice_index ws g) (sym same) words) final in
    let few = limits.resources in
    subst (Ends z out) (seen ∙ sym last_is) (ends z out (named t y) v limits (omega (arith, few, room)) (subst (λ k. IsWhole k out v) same w))

-- where the conductor opened, nobody was stopped
pub not_stopped : (s : WholeBoard) (c : ℕ) (b : Book) → IsTied s → s.conductor ≡ Opened → slice_get s.books c ≡ Some b → b.stopped ≡ false
not_stopped s c b tied opened e = by_flag b.stopped refl
  where
    clash : Opened ≡ Aborted → ⊥
    clash q = cc

    by_flag : (x : Bool) → b.stopped ≡ x → x ≡ false
    by_flag false q = refl
    by_flag true q = absurd (clash (sym opened ∙ tied.told c b e q))
