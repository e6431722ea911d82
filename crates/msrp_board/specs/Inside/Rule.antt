-- The rule of a board's words: what holds of the words and all books, and what each step promises.
use Rattle.msrp_plan.specs.Common.{ℕ, suc, List, [], length, map, Bool, true, false, Some, None, replicate, slice_index, list_any, AllByRecursion}
use Rattle.msrp_board.specs.Common.{Aborted, Ask, BoardSize, Call, Claim, Conductor, Entry, Leave, Me, Opened, Page, Poll, State, Step, Unopened, View, get_elem?, option_map, some}
use Rattle.std.specs.Prelude.{◌≡◌, ◌==◌, ◌+◌, ◌*◌, ◌-◌, ◌^◌, ◌<◌, ◌≤◌, ◌∷◌, ltb, leb}
use Rattle.msrp_board.specs.declared.words.TicketWord.{TicketWord}
use Rattle.msrp_board.specs.Boards.{opening_count, abort_count}
use Rattle.msrp_board.specs.Words.{high, low, half_word}
use Rattle.msrp_board.specs.Steps.{only_at, none_at, either, together}
use Rattle.msrp_board.specs.Books.{IsSize, on_resource, admissions_of, AreBefore, IsBefore, IsChain}
use Rattle.msrp_board.specs.History.{Event, by_core}
use Rattle.msrp_board.specs.Inside.Newest.{asks, leaves, LegalNewest, PlacedNewest, IsRegularNewest, claim_of, ticket_of, TicksNewest, RisingNewest, PollsNewest}

-- the page of a core that has done nothing yet
abbrev pub empty_page : Page
empty_page = record { newest = []; tick = 0; admitted = false; stopped = false }

-- what the first seat has
abbrev pub first_view : BoardSize → View
first_view z = record { pages = replicate z.cores (Some empty_page); conductor = Some Unopened }

-- the view has this page of the core
abbrev pub HasPage : View → ℕ → Page → Type 0
HasPage v c b = get_elem? v.pages c ≡ some (Some b)

-- the seat i has a, under the number k
abbrev pub OwnsBy : {V A : Type 0} → (V → ℕ → A → Type 0) → List V → ℕ → ℕ → A → Type 0
OwnsBy {V} has views i k a = (v : V) × (get_elem? views i ≡ some v) × has v k a

-- each number's fact is with one seat, and no seat has anything else
pub record SharedBy {V A : Type 0} (has : V → ℕ → A → Type 0) (views : List V) (truth : ℕ → A → Type 0) : Type 0 where
  pub true_of : (i k : ℕ) (a : A) → OwnsBy has views i k a → truth k a
  pub with_no_other : (i j k : ℕ) (a d : A) → OwnsBy has views i k a → OwnsBy has views j k d → i ≡ j
  pub with_one : (k : ℕ) (a : A) → truth k a → (i : ℕ) × OwnsBy has views i k a

-- the seat i has this page of core c
abbrev pub Owns : List View → ℕ → ℕ → Page → Type 0
Owns = OwnsBy HasPage

-- one book for each core, over all seats
abbrev pub Shared : List View → List Page → Type 0
Shared views books = SharedBy HasPage views (λ c b. get_elem? books c ≡ some b)

-- the view has the conductor's book, under the number 0
abbrev pub HasConductor : View → ℕ → Conductor → Type 0
HasConductor v k o = (k ≡ 0) × (v.conductor ≡ Some o)

-- one book of the conductor
abbrev pub SharedConductor : List View → Conductor → Type 0
SharedConductor views o = SharedBy HasConductor views (λ k x. (k ≡ 0) × (o ≡ x))

-- the ticks below this are those to which the core is or was admitted
abbrev pub page_admissions : Page → ℕ
page_admissions b = admissions_of b.admitted b.tick

-- the number of arrivals
abbrev pub arrivals : List Page → ℕ
arrivals [] = 0
arrivals (b ∷ bs) = b.tick + arrivals bs

-- what holds of the barrier word
pub record Gathered (word : ℕ) (books : List Page) (o : Conductor) : Type 0 where
  -- it counts the arrivals and the opening in its low half, and the abort in its high half
  pub counts : word ≡ abort_count o * half_word + (arrivals books + opening_count o)
  -- a core saw only an abort that was made
  pub told : (c : ℕ) (b : Page) → get_elem? books c ≡ some b → b.stopped ≡ true → o ≡ Aborted
  -- each core that is or was admitted to a tick met all that left the ticks below
  pub met : (c : ℕ) (b : Page) → get_elem? books c ≡ some b → 0 < page_admissions b → (o ≡ Opened) × ((d : ℕ) (e : Page) → get_elem? books d ≡ some e → page_admissions b ≤ suc e.tick)

-- the history of g by these pages
pub record IsHistoryNewest (g : ℕ) (books : List Page) (log : List Event) : Type 0 where
  pub entries : (c : ℕ) (b : Page) → get_elem? books c ≡ some b → by_core c log ≡ on_resource g b.newest
  pub none_past : (c : ℕ) → length books ≤ c → by_core c log ≡ []
  pub placed : PlacedNewest log

-- the word counts the requests of the history, high, and its releases, low
abbrev pub IsTicketWord : ℕ → List Event → Type 0
IsTicketWord word log = word ≡ asks log * half_word + leaves log

-- the number of entries
abbrev pub entry_count : List Page → ℕ
entry_count [] = 0
entry_count (b ∷ bs) = length b.newest + entry_count bs

-- g has a history, which its word counts and a first-in-first-out lock answers
pub record IsServedNewest (g word : ℕ) (books : List Page) : Type 0 where
  pub log : List Event
  pub history : IsHistoryNewest g books log
  pub legal : LegalNewest log
  pub counts : IsTicketWord word log
  pub short : length log ≤ entry_count books
  pub rising : RisingNewest log
  pub polls : PollsNewest log

-- what holds of every page on a board of this size
pub record IsKeptNewest (z : BoardSize) (b : Page) : Type 0 where
  pub within : page_admissions b ≤ z.ticks
  pub declared : AllByRecursion (λ e. e.res.0 < z.resources) b.newest
  pub ticks : TicksNewest (page_admissions b) b.newest
  pub places : (g : ℕ) → IsChain (λ e f. IsBefore f.call f.place e.place) (on_resource g b.newest)
  pub regular : IsRegularNewest b.newest

-- the rule of the words and of the pages of all seats
pub record IsTiedNewest (z : BoardSize) (words : List ℕ) (books : List Page) (o : Conductor) : Type 0 where
  pub cores : length books ≡ z.cores
  pub served : (g : ℕ) → g < z.resources → IsServedNewest g (slice_index words g) books
  pub kept : (c : ℕ) (b : Page) → get_elem? books c ≡ some b → IsKeptNewest z b
  pub gathered : Gathered (slice_index words z.resources) books o

-- the rule of a table: some pages and a conductor's book, each in one seat, are tied to the words
pub record Ruled (z : BoardSize) (s : State (Unit {0}) View) : Type 0 where
  pub pages : List Page
  pub conductor : Conductor
  pub shared : Shared s.views pages
  pub shared_conductor : SharedConductor s.views conductor
  pub tied : IsTiedNewest z s.words pages conductor
  pub limits : IsSize z
  pub words : length s.words ≡ z.resources + 1

-- the view has the page of this core and nothing else
pub record HasOnly (v : View) (c : ℕ) (b : Page) : Type 0 where
  pub page : HasPage v c b
  pub only : (d : ℕ) (e : Page) → HasPage v d e → d ≡ c
  pub conductor : v.conductor ≡ None

-- the page has an entry of its present tick
abbrev pub page_has_acted : Page → Bool
page_has_acted b = list_any (λ e. e.tick == b.tick) b.newest

-- a core's seat that is let into its tick
pub record ViewIsAdmitted (v : View) : Type 0 where
  pub core : ℕ
  pub page : Page
  pub has : HasOnly v core page
  pub admitted : page.admitted ≡ true

-- a core's seat that may act, with this claim
pub record ViewMayAct (v : View) (l : Claim) : Type 0 where
  pub at : ViewIsAdmitted v
  pub claims : claim_of at.page.newest ≡ l
  pub quiet : page_has_acted at.page ≡ false

-- a core's seat that waits for its tick
pub record ViewWaits (z : BoardSize) (v : View) : Type 0 where
  pub core : ℕ
  pub page : Page
  pub has : HasOnly v core page
  pub out : page.admitted ≡ false
  pub left : page.tick < z.ticks

-- ---- what each step makes of a page and of a view, and promises

-- one more entry
abbrev pub page_with : Entry → Page → Page
page_with e b = record { newest = e ∷ b.newest; tick = b.tick; admitted = b.admitted; stopped = b.stopped }

-- one more entry, of the present tick
abbrev pub page_with_entry : ℕ → ℕ → Call → Page → Page
page_with_entry g p k b = page_with record { tick = b.tick; res = record { 0 = g }; place = p; call = k } b

-- a request of g that found the word n
abbrev pub page_with_ask : ℕ → ℕ → Page → Page
page_with_ask g n = page_with_entry g (high n + low n) (Ask (high n - low n))

-- each page of the view changed by f
abbrev pub with_pages : (Page → Page) → View → View
with_pages f v = record { pages = map (option_map f) v.pages; conductor = v.conductor }

-- an answer's place is after all that the books have of the resource
abbrev pub ViewIsBehind : View → ℕ → ℕ → Type 0
ViewIsBehind v g p = (c : ℕ) (b : Page) → HasPage v c b → AreBefore p (on_resource g b.newest)

-- a poll of g that found the word n: granted if the ticket is served
abbrev pub page_with_poll : ℕ → ℕ → Page → Page
page_with_poll g n b = page_with_entry g (high n + low n) (Poll (low n == ticket_of (claim_of b.newest))) b

-- a release of g that found the word n
abbrev pub page_with_leave : ℕ → ℕ → Page → Page
page_with_leave g n = page_with_entry g (high n + low n) Leave

-- what a step on a resource's ticket word promises, which makes f of each page: the word n that it
-- found has no more releases than requests; the place is small, and after all that the pages have
-- of it
pub record Tells (f : ℕ → ℕ → Page → Page) (st : Step (Unit {0})) (me : Me (Unit {0}) View) (n : ℕ) (now : Me (Unit {0}) View) : Type 0 where
  pub changed : now ≡ (with_pages (f st.word n) me.0, me.1)
  pub order : low n ≤ high n
  pub small : high n + low n < 2 ^ 32
  pub behind : ViewIsBehind me.0 st.word (high n + low n)

-- what holds of each ticket word
pub record IsTicket (word : TicketWord) : Type 0 where
  pub order : word.serving ≤ word.next
  pub small : word.next + word.serving < 2 ^ 32

-- one more entry, at a place after all that the pages have of the resource
pub record HasEntered (g p : ℕ) (k : Call) (me now : Me (Unit {0}) View) : Type 0 where
  pub changed : now ≡ (with_pages (page_with_entry g p k) me.0, me.1)
  pub behind : ViewIsBehind me.0 g p

-- the view's pages but that of core c
abbrev pub view_without : ℕ → View → View
view_without c v = record { pages = none_at c v.pages; conductor = v.conductor }

-- the page of core c alone
abbrev pub view_alone : ℕ → View → View
view_alone c v = record { pages = only_at c v.pages; conductor = None }

-- the pages of both views
abbrev pub view_both : View → View → View
view_both v w = record { pages = together v.pages w.pages; conductor = either v.conductor w.conductor }

-- what a seat has after it was joined to another
abbrev pub spent : View
spent = record { pages = []; conductor = None }

-- the core has arrived from its tick
abbrev pub page_with_arrival : Page → Page
page_with_arrival b = record { newest = b.newest; tick = suc b.tick; admitted = false; stopped = b.stopped }

-- what a look makes of a book: the high half isn't 0, or the low half is high enough, or neither
abbrev pub page_after_look_if : Bool → Bool → Page → Page
page_after_look_if true q b = record { newest = b.newest; tick = b.tick; admitted = b.admitted; stopped = true }
page_after_look_if false true b = record { newest = b.newest; tick = b.tick; admitted = true; stopped = b.stopped }
page_after_look_if false false b = b

-- what a look at the barrier word n makes of a page, on a board of m cores
abbrev pub page_after_look : ℕ → ℕ → Page → Page
page_after_look m n b = page_after_look_if (ltb 0 (high n)) (leb (1 + m * b.tick) (low n)) b

-- if the high half isn't 0, no core has left tick 0
abbrev pub AtStart : ℕ → View → Type 0
AtStart n v = (c : ℕ) (b : Page) → HasPage v c b → ltb 0 (high n) ≡ true → b.tick ≡ 0

-- what a look promises, on a board of m cores
abbrev pub TellsLook : ℕ → Step (Unit {0}) → Me (Unit {0}) View → ℕ → Me (Unit {0}) View → Type 0
TellsLook m st me n now = (now ≡ (with_pages (page_after_look m n) me.0, me.1)) × AtStart n me.0

-- a seat that a step leaves as it is was part of a state that obeys the rule
pub record IsUnderRule (z : BoardSize) (me now : Me (Unit {0}) View) : Type 0 where
  pub same : now ≡ me
  pub state : State (Unit {0}) View
  pub seat : ℕ
  pub ruled : Ruled z state
  pub there : get_elem? state.views seat ≡ some me.0

-- what a step promises that changes nothing
abbrev pub TellsRule : BoardSize → Step (Unit {0}) → Me (Unit {0}) View → ℕ → Me (Unit {0}) View → Type 0
TellsRule z st me n now = IsUnderRule z me now

-- the conductor did this
abbrev pub view_with_conductor : Conductor → View → View
view_with_conductor o v = record { pages = v.pages; conductor = Some o }

-- what a step promises that changes its seat's view by f: an arrival, the opening, the abort
abbrev pub TellsChange : (View → View) → Step (Unit {0}) → Me (Unit {0}) View → ℕ → Me (Unit {0}) View → Type 0
TellsChange f st me n now = now ≡ (f me.0, me.1)
