-- What a book says of its core, and the rule's part on one book. The oldest entry is first.
use Rattle.std.specs.Prelude.{◌<◌, ◌≤◌, ◌∷◌, ◌==◌, if◌then◌else◌}
use Rattle.msrp_plan.specs.Common.{ℕ, suc, List, [], Bool, true, false, nat_lt, map, ⊤, list_any, filter, AllByRecursion, ResCall, claim_after, most_cores, most_resources}
use Rattle.msrp_board.specs.Common.{Admitted, BoardSize, Book, Call, Done, Entry, Phase, Poll, SeatPhase, Stopped, Waiting}
use Rattle.msrp_plan.specs.Calls.{IsRegular}
use Rattle.msrp_plan.specs.Limits.{most_ticks}

-- the numbers that a board is made for
pub record IsSize (size : BoardSize) : Type 0 where
  pub cores : (1 ≤ size.cores) × (size.cores ≤ most_cores)
  pub resources : size.resources ≤ most_resources
  pub ticks : (1 ≤ size.ticks) × (size.ticks ≤ most_ticks)

-- ---- what a book says of its core

-- the entries of one resource, in order
abbrev pub on_resource : ℕ → List Entry → List Entry
on_resource g entries = filter (λ e. e.res.0 == g) entries

-- the calls of a core, each with its resource
abbrev pub res_calls : List Entry → List ResCall
res_calls entries = map (λ e. (e.res, e.call)) entries

-- what the core holds or awaits: at most one resource
abbrev pub lock_of : Book → Phase
lock_of b = claim_after (res_calls b.entries)

-- the book has an entry of its present tick
abbrev pub has_acted : Book → Bool
has_acted b = list_any (λ e. e.tick == b.tick) b.entries

-- a core's phase: stopped or not, in its tick or not, with a tick left or not
abbrev pub phase_by : Bool → Bool → Bool → SeatPhase
phase_by true admitted left = Stopped
phase_by false true left = Admitted
phase_by false false true = Waiting
phase_by false false false = Done

-- the core's phase, on a board of n ticks
abbrev pub phase_in : ℕ → Book → SeatPhase
phase_in ticks b = phase_by b.stopped b.admitted (nat_lt b.tick ticks)

-- the tick, plus 1 if the core is let into it
abbrev pub admissions_of : Bool → ℕ → ℕ
admissions_of admitted tick = if admitted then suc tick else tick

-- the ticks below this are those to which the core is or was admitted
abbrev pub admissions : Book → ℕ
admissions b = admissions_of b.admitted b.tick

-- ---- what holds of every book

-- a call at place p is before a later one of the same core at place q: a request and a release take
-- their place, and a poll reads one
abbrev pub IsBefore : Call → ℕ → ℕ → Type 0
IsBefore (Poll granted) p q = p ≤ q
IsBefore _ p q = p < q

-- all these entries are before a later one at this place
abbrev pub AreBefore : ℕ → List Entry → Type 0
AreBefore place entries = AllByRecursion (λ e. IsBefore e.call e.place place) entries

-- x and the first element are in relation R
abbrev pub ToNext : {X : Type 0} → (X → X → Type 0) → X → List X → Type 0
ToNext R x [] = ⊤
ToNext R x (y ∷ ys) = R x y

-- each element and the next are in relation R
abbrev pub IsChain : {X : Type 0} → (X → X → Type 0) → List X → Type 0
IsChain R [] = ⊤
IsChain R (x ∷ xs) = ToNext R x xs × IsChain R xs

-- what holds of every book on a board of this size
pub record IsKept (size : BoardSize) (b : Book) : Type 0 where
  -- the core is in no tick past the last
  pub within : admissions b ≤ size.ticks
  -- each entry is of a resource of the board
  pub declared : AllByRecursion (λ e. e.res.0 < size.resources) b.entries
  -- no entry is of a tick to which the core was not admitted
  pub past : AllByRecursion (λ e. e.tick < admissions b) b.entries
  -- at most one entry a tick
  pub one_a_tick : IsChain (λ e f. e.tick < f.tick) b.entries
  -- places of one resource never fall, and rise after a request or a release
  pub places : (g : ℕ) → IsChain (λ e f. IsBefore e.call e.place f.place) (on_resource g b.entries)
  -- a free core requests, a waiting one polls what it awaits, a holder releases what it holds
  pub regular : IsRegular (res_calls b.entries)
