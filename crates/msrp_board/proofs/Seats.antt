-- What a call makes of a seat, as callers see it.
use Rattle.msrp_plan.proofs.Common.{arith, ℕ, zero, suc, List, [], map, replicate, Bool, true, false, nat_lt, ltb, leb, Some, None, refl, sym, ap, subst, some, get_elem?}
use Rattle.msrp_board.proofs.Common.{Admitted, AreBefore, AreStates, AtStart, BoardModel, BoardSize, Book, Call, Claim, Conductor, CoreState, Entry, Free, Go, HasEntered, HasOnly, Holding, Holds, IsBefore, IsBehind, IsBelow, IsClaimInTurn, IsCoreSeat, IsHeld, IsIn, IsKept, IsKeptNewest, IsOwn, IsSeat, IsSize, MayAct, Me, Nothing, Option, Page, Phase, Queued, ResId, SeatModel, SeatPhase, States, TableId, TicksNewest, Unopened, View, ViewIsBehind, Wait, Waiting, Waits, admissions_of, book_with_entry, claim_of, empty_book, empty_page, first_seat, first_view, has_acted, high, lock_of, look_if, look_of, low, on_resource, option_map, page_admissions, page_after_look, page_after_look_if, page_has_acted, page_with_entry, phase_by, phase_in, phase_of, seen_as, state_of, told, with_admission, with_books, with_entry, with_own, with_pages, with_stop}
use Rattle.std.proofs.Common.{◌==◌, ◌≡◌, ◌+◌, ◌*◌, ◌<◌, ◌∷◌, ◌∙◌, ltb-true}
use Rattle.msrp_board.specs.declared.answers.Look.TheVariants.{Stopped as Off}
use Rattle.msrp_board.proofs.Start.{first_page}
use Rattle.msrp_board.proofs.Lists.{reverse_cons, all_reversed, filter_reversed}
use Rattle.msrp_board.proofs.Told.{lock_told, acted_told, page_of, sole_of}
use Rattle.msrp_board.proofs.CoreStates.{seat_step}
use Rattle.msrp_board.proofs.Kept.{kept_more, fresh_page, kept_empty, kept_told, claim_below}

-- ---- what a caller's condition says of the page

admitted_of : (s a w : Bool) → phase_by s a w ≡ Admitted → (s ≡ false) × (a ≡ true)
admitted_of true a w e = absurd (cc)
admitted_of false true w e = (refl, refl)
admitted_of false false true e = absurd (cc)
admitted_of false false false e = absurd (cc)

waiting_of : (s a w : Bool) → phase_by s a w ≡ Waiting → (s ≡ false) × (a ≡ false) × (w ≡ true)
waiting_of true a w e = absurd (cc)
waiting_of false true w e = absurd (cc)
waiting_of false false true e = (refl, refl, refl)
waiting_of false false false e = absurd (cc)

pub free_claim : (l : Claim) → phase_of l ≡ Free → l ≡ Nothing
free_claim Nothing e = refl
free_claim (Waits g t) e = absurd (cc)
free_claim (Holds g t) e = absurd (cc)

number_of : (g h : ResId) → g ≡ h → g.0 ≡ h.0
number_of g h e = ap (λ (r : ResId). r.0) e

pub waits_claim : (l : Claim) (g : ResId) → phase_of l ≡ Queued g → (t : ℕ) × (l ≡ Waits g.0 t)
waits_claim Nothing g e = absurd (cc)
waits_claim (Waits h t) g e = let same : record { 0 = h } ≡ g = cc in (t, ap (λ n. Waits n t) (number_of (record { 0 = h }) g same))
waits_claim (Holds h t) g e = absurd (cc)

pub holds_claim : (l : Claim) (g : ResId) → phase_of l ≡ Holding g → (t : ℕ) × (l ≡ Holds g.0 t)
holds_claim Nothing g e = absurd (cc)
holds_claim (Waits h t) g e = absurd (cc)
holds_claim (Holds h t) g e = let same : record { 0 = h } ≡ g = cc in (t, ap (λ n. Holds n t) (number_of (record { 0 = h }) g same))

abbrev pub named : TableId → BoardSize → BoardModel
named t z = record { table = t; size = z }

-- a core's seat knows one page, that of its book
pub core_own : (z : BoardSize) (t : TableId) (held : States) (o : Option Conductor) (me : Me (Unit {0}) View) (seat : SeatModel) → IsHeld z held o me → seen_as (named t z) me.0 ≡ seat → (c : ℕ) (b : Book) → IsCoreSeat seat c b → (p : Page) × IsOwn held me.0 c p × (told p ≡ b)
core_own z t held o me seat s seen c b is =
    let r = sole_of (named t z) me.0 c b (subst (λ x. IsCoreSeat x c b) (sym seen) is) in
    (r.0, record { states = s.states; only = r.1 }, r.2)

-- the page of a core's seat that may act
pub record Acting (z : BoardSize) (held : States) (v : View) (lock : Phase) : Type 0 where
  pub core : ℕ
  pub page : Page
  pub own : IsOwn held v core page
  pub room : page.admitted ≡ true
  pub quiet : page_has_acted page ≡ false
  pub claims : phase_of (claim_of page.newest) ≡ lock
  pub kept : IsKeptNewest z page

pub acting : (z : BoardSize) (t : TableId) (held : States) (o : Option Conductor) (me : Me (Unit {0}) View) (seat : SeatModel) (lock : Phase) → IsHeld z held o me → seen_as (named t z) me.0 ≡ seat → MayAct lock seat → Acting z held me.0 lock
acting z t held o me seat lock s is may =
    let h : MayAct lock (seen_as (named t z) me.0) = subst (MayAct lock) (sym is) may in
    let r = core_own z t held o me (seen_as (named t z) me.0) s refl h.at.core h.at.book h.at.of_core in
    record {
      core = h.at.core;
      page = r.0;
      own = r.1;
      room = (admitted_of r.0.stopped r.0.admitted (nat_lt r.0.tick z.ticks) (ap (phase_in z.ticks) r.2 ∙ h.at.stands)).1;
      quiet = sym (acted_told r.0) ∙ ap has_acted r.2 ∙ h.quiet;
      claims = sym (lock_told r.0) ∙ ap lock_of r.2 ∙ h.claims;
      kept = s.kept h.at.core r.0 r.1.only.page;
    }

-- the page of a core's seat that may act, where the state kept of the core is x, with the claim l
pub record Claiming (z : BoardSize) (held : States) (v : View) (lock : Phase) (x : CoreState) (l : Claim) : Type 0 where
  pub act : Acting z held v lock
  pub is : x ≡ state_of act.page
  pub claim : claim_of act.page.newest ≡ l
  pub below : IsBelow z.resources l
  pub locks : phase_of l ≡ lock

pub claiming : (z : BoardSize) (t : TableId) (held : States) (o : Option Conductor) (me : Me (Unit {0}) View) (seat : SeatModel) (lock : Phase) (x : CoreState) (l : Claim) → IsHeld z held o me → seen_as (named t z) me.0 ≡ seat → MayAct lock seat
    → ((c : ℕ) (b : Page) → IsOwn held me.0 c b → x ≡ state_of b) → x.claim ≡ l → Claiming z held me.0 lock x l
claiming z t held o me seat lock x l s seen may own claim_is =
    let a = acting z t held o me seat lock s seen may in
    let r = own a.core a.page a.own in
    let claim = sym (ap (λ (y : CoreState). y.claim) r) ∙ claim_is in
    record { act = a; is = r; claim = claim; below = subst (IsBelow z.resources) claim (claim_below z.resources a.page.newest a.kept.declared); locks = ap phase_of (sym claim) ∙ a.claims }

-- what is kept of a core that waits, or holds
pub waits_state : (z : BoardSize) (held : States) (v : View) (g : ResId) (x : CoreState) (l : Claim) → Claiming z held v (Queued g) x l → (t : ℕ) × (l ≡ Waits g.0 t)
waits_state z held v g x l k = waits_claim l g k.locks

pub holds_state : (z : BoardSize) (held : States) (v : View) (g : ResId) (x : CoreState) (l : Claim) → Claiming z held v (Holding g) x l → (t : ℕ) × (l ≡ Holds g.0 t)
holds_state z held v g x l k = holds_claim l g k.locks

pub waits_res : (r t : ℕ) (g : ResId) → phase_of (Waits r t) ≡ Queued g → record { 0 = r } ≡ g
waits_res r t g e = cc

pub holds_res : (r t : ℕ) (g : ResId) → phase_of (Holds r t) ≡ Holding g → record { 0 = r } ≡ g
holds_res r t g e = cc

-- what every seat keeps, as callers see it
pub is_seat : (z : BoardSize) (t : TableId) (held : States) (o : Option Conductor) (me : Me (Unit {0}) View) (seat : SeatModel) → IsHeld z held o me → seen_as (named t z) me.0 ≡ seat → IsSeat seat
is_seat z t held o me seat s seen = subst IsSeat seen (record {
  limits = s.limits;
  cores = λ c b h. let r = page_of me.0.pages c b h in s.cores c r.0 r.1;
  kept = λ c b h. let r = page_of me.0.pages c b h in subst (IsKept z) r.2 (kept_told z r.0 (s.kept c r.0 r.1));
})

-- ---- one entry more

noted_told : (g p : ℕ) (k : Call) (b : Page) → told (page_with_entry g p k b) ≡ book_with_entry (record { 0 = g }) p k (told b)
noted_told g p k b = ap (λ (es : List Entry). book es) (reverse_cons (record { tick = b.tick; res = record { 0 = g }; place = p; call = k }) b.newest)
  where
    book : List Entry → Book
    book es = record { entries = es; tick = b.tick; admitted = b.admitted; stopped = b.stopped }

map_told : (f : Page → Page) (h : Book → Book) → ((b : Page) → told (f b) ≡ h (told b)) → (l : List (Option Page)) → map (option_map told) (map (option_map f) l) ≡ map (option_map h) (map (option_map told) l)
map_told f h same [] = refl
map_told f h same (None ∷ xs) = ap (λ l. None ∷ l) (map_told f h same xs)
map_told f h same (Some b ∷ xs) = ap (λ x. Some x ∷ map (option_map told) (map (option_map f) xs)) (same b) ∙ ap (λ l. Some (h (told b)) ∷ l) (map_told f h same xs)

-- what a change of each page is to callers
pub change_seen : (board : BoardModel) (v : View) (f : Page → Page) (h : Book → Book) → ((b : Page) → told (f b) ≡ h (told b)) → seen_as board (with_pages f v) ≡ with_books h (seen_as board v)
change_seen board v f h same = ap (λ (l : List (Option Book)). seat l) (map_told f h same v.pages)
  where
    seat : List (Option Book) → SeatModel
    seat l = record { board = board; books = l; conductor = v.conductor }

-- a place that stands behind the pages' entries stands behind the books'
pub behind_seen : (board : BoardModel) (v : View) (g p : ℕ) → ViewIsBehind v g p → IsBehind g p (seen_as board v)
behind_seen board v g p behind c a is =
    let r = page_of v.pages c a is in
    subst (λ (x : Book). AreBefore p (on_resource g x.entries)) r.2
    (subst (AreBefore p) (sym (filter_reversed (λ e. e.res.0 == g) r.0.newest)) (all_reversed (λ e. IsBefore e.call e.place p) (on_resource g r.0.newest) (behind c r.0 r.1)))

-- ---- a core's only page decides how a change goes

change_same : (l : List (Option Page)) (f h : Page → Page) → ((k : ℕ) (x : Page) → get_elem? l k ≡ some (Some x) → f x ≡ h x) → map (option_map f) l ≡ map (option_map h) l
change_same [] f h same = refl
change_same (None ∷ xs) f h same = ap (λ l. None ∷ l) (change_same xs f h (λ k x e. same (suc k) x e))
change_same (Some b ∷ xs) f h same = ap (λ y. Some y ∷ map (option_map f) xs) (same 0 b refl) ∙ ap (λ l. Some (h b) ∷ l) (change_same xs f h (λ k x e. same (suc k) x e))

pub sole_change : (v : View) (c : ℕ) (b : Page) (f h : Page → Page) → HasOnly v c b → f b ≡ h b → with_pages f v ≡ with_pages h v
sole_change v c b f h sole same = ap (λ (l : List (Option Page)). view l) (change_same v.pages f h (λ k x e. subst (λ y. f y ≡ h y) (page_is b x (sym sole.page ∙ subst (λ j. get_elem? v.pages j ≡ some (Some x)) (sole.only k x e) e)) same))
  where
    view : List (Option Page) → View
    view l = record { pages = l; conductor = v.conductor }

    page_is : (x y : Page) → some (Some x) ≡ some (Some y) → x ≡ y
    page_is x y e = cc

-- ---- a seat after a change of its pages

pub seat_changed : (z : BoardSize) (t u : TableId) (me now : Me (Unit {0}) View) (seat : SeatModel) (f : Page → Page) (h : Book → Book) → ((b : Page) → told (f b) ≡ h (told b)) → u ≡ t → now ≡ (with_pages f me.0, me.1) → seen_as (named t z) me.0 ≡ seat
    → seen_as (named u z) now.0 ≡ with_books h seat
seat_changed z t u me now seat f h same at is seen = ap (λ x. seen_as (named x z) now.0) at ∙ ap (λ (m : Me (Unit {0}) View). seen_as (named t z) m.0) is ∙ change_seen (named t z) me.0 f h same ∙ ap (with_books h) seen

-- a core's seat after a request, a poll or a release
pub entered_held : (z : BoardSize) (held next : States) (o : Option Conductor) (me now : Me (Unit {0}) View) (lock : Phase) (g p : ℕ) (k : Call) (x : CoreState) → IsHeld z held o me → (a : Acting z held me.0 lock) → HasEntered g p k me now
    → next ≡ with_own x held → x ≡ state_of (page_with_entry g p k a.page) → g < z.resources → IsClaimInTurn (claim_of a.page.newest) g k → IsHeld z next o now
entered_held z held next o me now lock g p k x s a step set is in_board in_turn =
    seat_step z held next o me now a.core a.page (page_with_entry g p k) x s a.own.only step.changed set is
    (kept_more z a.page (record { tick = a.page.tick; res = record { 0 = g }; place = p; call = k }) a.kept in_board (step.behind a.core a.page a.own.only.page) in_turn a.room (fresh_page z a.page a.kept a.room a.quiet) refl)

pub entered_seen : (z : BoardSize) (t u : TableId) (me now : Me (Unit {0}) View) (seat : SeatModel) (g p : ℕ) (k : Call) → u ≡ t → HasEntered g p k me now → seen_as (named t z) me.0 ≡ seat
    → seen_as (named u z) now.0 ≡ with_entry (record { 0 = g }) p k seat
entered_seen z t u me now seat g p k at step seen = seat_changed z t u me now seat (page_with_entry g p k) (book_with_entry (record { 0 = g }) p k) (noted_told g p k) at step.changed seen

pub entered_behind : (board : BoardModel) (me now : Me (Unit {0}) View) (seat : SeatModel) (g p : ℕ) (k : Call) → seen_as board me.0 ≡ seat → HasEntered g p k me now → IsBehind g p seat
entered_behind board me now seat g p k seen step = subst (IsBehind g p) seen (behind_seen board me.0 g p step.behind)

-- the first seat
replicate_told : (n : ℕ) → map (option_map told) (replicate n (Some empty_page)) ≡ replicate n (Some empty_book)
replicate_told zero = refl
replicate_told (suc n) = ap (λ l. Some empty_book ∷ l) (replicate_told n)

pub first_seen : (board : BoardModel) → seen_as board (first_view board.size) ≡ first_seat board
first_seen board = ap (λ (l : List (Option Book)). seat l) (replicate_told board.size.cores)
  where
    seat : List (Option Book) → SeatModel
    seat l = record { board = board; books = l; conductor = Some Unopened }

pub first_is_seat : (z : BoardSize) (held : States) (me : Me (Unit {0}) View) → IsSize z → AreStates held (replicate z.cores (Some empty_page)) → me ≡ (first_view z, []) → IsHeld z held (Some Unopened) me
first_is_seat z held me limits states is = subst (IsHeld z held (Some Unopened)) (sym is) (record {
  no_slot = refl;
  limits = limits;
  states = states;
  conducts = refl;
  cores = λ c b h. (first_page z c b h).1;
  kept = λ c b h. subst (IsKeptNewest z) (first_page z c b h).0 (kept_empty z);
})

pub first_made : (z : BoardSize) (t u : TableId) (me : Me (Unit {0}) View) → u ≡ t → me ≡ (first_view z, []) → seen_as (named u z) me.0 ≡ first_seat (named t z)
first_made z t u me at is = ap (λ (m : Me (Unit {0}) View). seen_as (named u z) m.0) is ∙ ap (λ x. seen_as (named x z) (first_view z)) at ∙ first_seen (named t z)

-- ---- the barrier

-- the page of a core's seat in this phase
pub record Standing (z : BoardSize) (held : States) (v : View) (phase : SeatPhase) : Type 0 where
  pub core : ℕ
  pub page : Page
  pub own : IsOwn held v core page
  pub stands : phase_by page.stopped page.admitted (nat_lt page.tick z.ticks) ≡ phase
  pub kept : IsKeptNewest z page

pub standing : (z : BoardSize) (t : TableId) (held : States) (o : Option Conductor) (me : Me (Unit {0}) View) (seat : SeatModel) (phase : SeatPhase) → IsHeld z held o me → seen_as (named t z) me.0 ≡ seat → IsIn phase seat → Standing z held me.0 phase
standing z t held o me seat phase s is at =
    let h : IsIn phase (seen_as (named t z) me.0) = subst (IsIn phase) (sym is) at in
    let r = core_own z t held o me (seen_as (named t z) me.0) s refl h.core h.book h.of_core in
    record { core = h.core; page = r.0; own = r.1; stands = ap (phase_in z.ticks) r.2 ∙ h.stands; kept = s.kept h.core r.0 r.1.only.page }

pub admitted_page : (z : BoardSize) (held : States) (v : View) (s : Standing z held v Admitted) → s.page.admitted ≡ true
admitted_page z held v s = (admitted_of s.page.stopped s.page.admitted (nat_lt s.page.tick z.ticks) s.stands).1

pub waiting_page : (z : BoardSize) (held : States) (v : View) (s : Standing z held v Waiting) → (s.page.admitted ≡ false) × (s.page.tick < z.ticks)
waiting_page z held v s = let w = waiting_of s.page.stopped s.page.admitted (nat_lt s.page.tick z.ticks) s.stands in (w.1, ltb-true s.page.tick z.ticks w.2)

-- an admitted core has not arrived from the last tick, and has no entry of a later one
pub record Arriving (b : Page) : Type 0 where
  pub tick : b.tick < 20000
  pub ticks : TicksNewest (suc b.tick) b.newest

pub arriving : (z : BoardSize) (held : States) (v : View) → IsSize z → (s : Standing z held v Admitted) → Arriving s.page
arriving z held v limits s =
    let admissions : page_admissions s.page ≡ suc s.page.tick = ap (λ a. admissions_of a s.page.tick) (admitted_page z held v s) in
    let within = s.kept.within in
    let few = limits.ticks.1 in
    record { tick = omega (arith, admissions, within, few); ticks = subst (λ r. TicksNewest r s.page.newest) admissions s.kept.ticks }

abbrev let_in : Page → Page
let_in b = record { newest = b.newest; tick = b.tick; admitted = true; stopped = b.stopped }

abbrev called_off : Page → Page
called_off b = record { newest = b.newest; tick = b.tick; admitted = b.admitted; stopped = true }

look_waits : (h q : Bool) (b : Page) → look_if h q ≡ Wait → page_after_look_if h q b ≡ b
look_waits true q b e = absurd (cc)
look_waits false true b e = absurd (cc)
look_waits false false b e = refl

look_goes : (h q : Bool) (b : Page) → look_if h q ≡ Go → page_after_look_if h q b ≡ let_in b
look_goes true q b e = absurd (cc)
look_goes false true b e = refl
look_goes false false b e = absurd (cc)

look_stops : (h q : Bool) (b : Page) → look_if h q ≡ Off → (page_after_look_if h q b ≡ called_off b) × (h ≡ true)
look_stops true q b e = (refl, refl)
look_stops false true b e = absurd (cc)
look_stops false false b e = absurd (cc)

same_map : {X : Type 0} (l : List (Option X)) → map (option_map (λ x. x)) l ≡ l
same_map [] = refl
same_map (None ∷ xs) = ap (λ l. None ∷ l) (same_map xs)
same_map (Some x ∷ xs) = ap (λ l. Some x ∷ l) (same_map xs)

same_books : (seat : SeatModel) → with_books (λ b. b) seat ≡ seat
same_books seat = ap (λ (l : List (Option Book)). with l) (same_map seat.books)
  where
    with : List (Option Book) → SeatModel
    with l = record { board = seat.board; books = l; conductor = seat.conductor }

-- what a look finds, and what callers then see
looked_as : (z : BoardSize) (t u : TableId) (me now : Me (Unit {0}) View) (seat : SeatModel) (m n c : ℕ) (b : Page) (f : Page → Page) (h : Book → Book) → ((p : Page) → told (f p) ≡ h (told p)) → HasOnly me.0 c b → page_after_look m n b ≡ f b
    → u ≡ t → now ≡ (with_pages (page_after_look m n) me.0, me.1) → seen_as (named t z) me.0 ≡ seat → seen_as (named u z) now.0 ≡ with_books h seat
looked_as z t u me now seat m n c b f h same sole is at step seen = seat_changed z t u me now seat f h same at (step ∙ ap (λ (w : View). (w, me.1)) (sole_change me.0 c b (page_after_look m n) f sole is)) seen

pub look_wait : (z : BoardSize) (t u : TableId) (me now : Me (Unit {0}) View) (seat : SeatModel) (m n c : ℕ) (b : Page) → HasOnly me.0 c b → look_of m n b.tick ≡ Wait → u ≡ t → now ≡ (with_pages (page_after_look m n) me.0, me.1) → seen_as (named t z) me.0 ≡ seat
    → seen_as (named u z) now.0 ≡ seat
look_wait z t u me now seat m n c b sole is at step seen = looked_as z t u me now seat m n c b (λ p. p) (λ p. p) (λ p. refl) sole (look_waits (ltb 0 (high n)) (leb (1 + m * b.tick) (low n)) b is) at step seen ∙ same_books seat

pub look_go : (z : BoardSize) (t u : TableId) (me now : Me (Unit {0}) View) (seat : SeatModel) (m n c : ℕ) (b : Page) → HasOnly me.0 c b → look_of m n b.tick ≡ Go → u ≡ t → now ≡ (with_pages (page_after_look m n) me.0, me.1) → seen_as (named t z) me.0 ≡ seat
    → seen_as (named u z) now.0 ≡ with_admission seat
look_go z t u me now seat m n c b sole is at step seen = looked_as z t u me now seat m n c b let_in _ (λ p. refl) sole (look_goes (ltb 0 (high n)) (leb (1 + m * b.tick) (low n)) b is) at step seen

pub look_stop : (z : BoardSize) (t u : TableId) (me now : Me (Unit {0}) View) (seat : SeatModel) (m n c : ℕ) (b : Page) → HasOnly me.0 c b → look_of m n b.tick ≡ Off → u ≡ t → now ≡ (with_pages (page_after_look m n) me.0, me.1) → seen_as (named t z) me.0 ≡ seat
    → seen_as (named u z) now.0 ≡ with_stop seat
look_stop z t u me now seat m n c b sole is at step seen = looked_as z t u me now seat m n c b called_off _ (λ p. refl) sole (look_stops (ltb 0 (high n)) (leb (1 + m * b.tick) (low n)) b is).0 at step seen

pub stop_start : (m n c : ℕ) (board : BoardModel) (v : View) (seat : SeatModel) (k : ℕ) (a : Book) (b : Page) → HasOnly v c b → look_of m n b.tick ≡ Off → AtStart n v → seen_as board v ≡ seat → IsCoreSeat seat k a → a.tick ≡ 0
stop_start m n c board v seat k a b sole is start seen at =
    let r = sole_of board v k a (subst (λ s. IsCoreSeat s k a) (sym seen) at) in
    sym (ap (λ (x : Book). x.tick) r.2) ∙ start k r.0 r.1.page (look_stops (ltb 0 (high n)) (leb (1 + m * b.tick) (low n)) b is).1
