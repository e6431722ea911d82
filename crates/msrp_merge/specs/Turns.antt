-- The turns of a core as its log has them, and how a log fits the core's book on the board.
use Rattle.std.specs.Prelude.{◌≡◌}
use Rattle.msrp_plan.specs.Common.{ℕ, List, Bool, true, false, Some, IfSome, map, is_some, filter, AllByRecursion, kind_of_call, ahead_of_call}
use Rattle.msrp_plan.specs.declared.rows.Kind.{Kind}
use Rattle.msrp_merge.specs.Common.{Entry, Grant, Queue, Release, Row, Spin, Take, Turn, is_poll}
use Rattle.msrp_merge.specs.Pairs.{Paired}

-- a core's log: its turns, the oldest first, for at most this many ticks
pub record LogModel : Type 0 where
  pub core : ℕ
  pub ticks : ℕ
  pub turns : List Turn

-- the rows of these turns
abbrev pub rows_of : List Turn → List Row
rows_of turns = map (λ x. x.row) turns

-- the kinds of row that are a step on a global resource
abbrev pub is_step : Kind → Bool
is_step Take = true
is_step Queue = true
is_step Grant = true
is_step Spin = true
is_step Release = true
is_step _ = false

-- the turn has a place in the history of its resource
abbrev pub has_place : Turn → Bool
has_place x = is_some x.place

-- the row has the tick, resource and answer of an entry of its core's book, and no other ahead
pub record IsRowOf (e : Entry) (r : Row) : Type 0 where
  pub tick : r.tick ≡ e.tick
  pub resource : r.res ≡ Some e.res
  pub kind : r.kind ≡ kind_of_call e.call
  pub ahead : IfSome r.ahead (λ n. ahead_of_call e.call ≡ Some n)

-- the turn is that of an entry: the row has its step, the place is the entry's, polled if it polls
pub record IsTurnOf (x : Turn) (e : Entry) : Type 0 where
  pub row : IsRowOf e x.row
  pub place : x.place ≡ Some (record { number = e.place; polled = is_poll e.call })

-- a log fits its core's book: exactly its steps have a place, and are in order the book's entries
pub record Fits (turns : List Turn) (entries : List Entry) : Type 0 where
  pub places : AllByRecursion (λ x. has_place x ≡ is_step x.row.kind) turns
  pub steps : Paired IsTurnOf (filter has_place turns) entries
