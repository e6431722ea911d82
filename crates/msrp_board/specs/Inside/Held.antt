-- The relation of what a seat stores to what it knows, and to what callers see.
use Rattle.msrp_plan.specs.Common.{ℕ, List, [], map, take, slice_index, Some, None, reverse, Bool, true, false, slice_index_or, ⊤, filter_map, most_resources}
use Rattle.msrp_board.specs.Common.{BoardSize, Book, Claim, Conductor, Holds, Me, Nothing, Option, Page, Phase, TableId, Unopened, View, Waits, get_elem?, option_map, some, unwrap_or}
use Rattle.msrp_plan.specs.declared.units.Phase.TheVariants.{Free, Queued, Holding}
use Rattle.std.specs.Prelude.{◌≡◌, ◌<◌, ◌≤◌, ◌==◌, ◌+◌, ◌*◌, if◌then◌else◌, ltb, leb}
use Rattle.msrp_board.specs.declared.answers.Look.{Look}
use Rattle.msrp_board.specs.declared.answers.Look.TheVariants.{Wait, Go, Stopped}
use Rattle.msrp_board.specs.declared.held.CoreState.{CoreState}
use Rattle.crossbeam_utils.specs.Padded.{padded_value, padded_with_value}
use Rattle.msrp_board.specs.declared.states.States.{States, End, Of'}
use Rattle.msrp_board.specs.Books.{IsSize, lock_of, has_acted}
use Rattle.msrp_board.specs.Seats.{BoardModel, SeatModel}
use Rattle.msrp_board.specs.Boards.{WholeBoard, IsTied}
use Rattle.msrp_board.specs.Words.{high, low}
use Rattle.msrp_board.specs.Inside.Newest.{claim_of}
use Rattle.msrp_board.specs.Inside.Rule.{HasPage, HasOnly, IsKeptNewest, IsTiedNewest, page_has_acted}

-- what a seat stores of a core
abbrev pub state_of : Page → CoreState
state_of b = record { tick = b.tick; claim = claim_of b.newest; admitted = b.admitted; stopped = b.stopped; acted = page_has_acted b }

-- the page of core c, if there is one
abbrev pub page_at : List (Option Page) → ℕ → Option Page
page_at pages c = slice_index_or pages c None

-- what is stored of core c
abbrev pub state_at : List (Option Page) → ℕ → Option CoreState
state_at pages c = option_map state_of (page_at pages c)

-- what a chain stores of core c: the state of the first node of that core
abbrev pub kept_of : States → ℕ → Option CoreState
kept_of End c = None
kept_of (Of' p core state more) c = if core.0 == c then Some (padded_value state) else kept_of more c

-- what is stored, if it is wanted
abbrev pub kept_if : Bool → Option CoreState → Option CoreState
kept_if wanted kept = if wanted then kept else None

-- the chain with another state of the core of its first node
abbrev pub with_own : CoreState → States → States
with_own own End = End
with_own own (Of' p core state more) = Of' p core (padded_with_value state own) more

-- what a seat stores of each core is what its page says
abbrev pub AreStates : States → List (Option Page) → Type 0
AreStates held pages = (c : ℕ) → kept_of held c ≡ state_at pages c

-- the seat has the page of core c and no other, and stores its state
pub record IsOwn (held : States) (v : View) (c : ℕ) (b : Page) : Type 0 where
  pub states : AreStates held v.pages
  pub only : HasOnly v c b

-- the claim is on one of the first n resources
abbrev pub IsBelow : ℕ → Claim → Type 0
IsBelow n Nothing = ⊤
IsBelow n (Waits g ticket) = g < n
IsBelow n (Holds g ticket) = g < n

-- what a core with this claim holds or awaits
abbrev pub phase_of : Claim → Phase
phase_of Nothing = Free
phase_of (Waits g ticket) = Queued record { 0 = g }
phase_of (Holds g ticket) = Holding record { 0 = g }

-- a page as callers see it: the oldest entry first
abbrev pub told : Page → Book
told b = record { entries = reverse b.newest; tick = b.tick; admitted = b.admitted; stopped = b.stopped }

-- what a seat knows, as callers see it
abbrev pub seen_as : BoardModel → View → SeatModel
seen_as board v = record { board = board; books = map (option_map told) v.pages; conductor = v.conductor }

-- the state is what the book says
pub record Shows (state : CoreState) (b : Book) : Type 0 where
  pub tick : state.tick ≡ b.tick
  pub lock : phase_of state.claim ≡ lock_of b
  pub admitted : state.admitted ≡ b.admitted
  pub stopped : state.stopped ≡ b.stopped
  pub acted : state.acted ≡ has_acted b

-- the answer of a look, by whether the high half isn't 0, and whether the low half is high enough
abbrev pub look_if : Bool → Bool → Look
look_if true enough = Stopped
look_if false true = Go
look_if false false = Wait

-- what a look makes of the barrier word n, for a core that waits for tick t on a board of m cores
abbrev pub look_of : ℕ → ℕ → ℕ → Look
look_of m n t = look_if (ltb 0 (high n)) (leb (1 + m * t) (low n))

-- what holds of each seat: what it stores of its cores and of the conductor is what its view says,
-- its cores are the board's, and each page obeys the rule's part on one page
pub record IsHeld (z : BoardSize) (held : States) (conductor : Option Conductor) (me : Me (Unit {0}) View) : Type 0 where
  pub no_slot : me.1 ≡ []
  pub limits : IsSize z
  pub states : AreStates held me.0.pages
  pub conducts : conductor ≡ me.0.conductor
  pub cores : (c : ℕ) (b : Page) → HasPage me.0 c b → c < z.cores
  pub kept : (c : ℕ) (b : Page) → HasPage me.0 c b → IsKeptNewest z b

-- what holds of each board: its table obeys the rule, with each resource's word and the barrier's
pub record IsBoard (z key : BoardSize) (table : TableId) : Type 0 where
  pub keyed : key ≡ z
  pub words : table.words ≡ z.resources + 1
  pub no_slot : table.slots ≡ 0
  pub limits : IsSize z

-- the size, the words and the last seat of a board after its last use, as callers see them
abbrev pub settled_as : BoardSize → List ℕ → SeatModel → WholeBoard
settled_as z words seat = record {
  size = z;
  tickets = take z.resources words;
  barrier = slice_index words z.resources;
  books = filter_map (λ book. book) seat.books;
  conductor = unwrap_or seat.conductor Unopened;
}

-- what holds of each settled board: the rule, and there is room for each word
pub record IsSettled (z : BoardSize) (words : List ℕ) (seat : SeatModel) : Type 0 where
  pub room : z.resources ≤ most_resources
  pub tied : IsTied (settled_as z words seat)

-- the seat knows all pages and the conductor's book, and the rule holds of them
pub record IsWhole (z : BoardSize) (words : List ℕ) (v : View) : Type 0 where
  pub pages : List Page
  pub conductor : Conductor
  pub known : (c : ℕ) (b : Page) → HasPage v c b → get_elem? pages c ≡ some b
  pub all : (c : ℕ) (b : Page) → get_elem? pages c ≡ some b → HasPage v c b
  pub conducts : v.conductor ≡ Some conductor
  pub tied : IsTiedNewest z words pages conductor
