-- Legal runs: the rules of a row, and what they make of a list of rows.
use Rattle.std.specs.Prelude.{ℕ, List, [], ◌∷◌, ◌++◌, Bool, true, false, ◌==◌, ◌&&◌, not, nat_lt, Option, Some, None, length, ◌≡◌, ◌≤◌, ◌*◌, ◌/◌, ⊤}
use Rattle.std.specs.List.{list_any}
use Rattle.msrp_plan.specs.Plan.{PlanModel}
use Rattle.msrp_plan.specs.Jobs.{jobs_on, same_job}
use Rattle.msrp_plan.specs.Choice.{choice}
use Rattle.msrp_plan.specs.Actions.{does_next}
use Rattle.msrp_plan.specs.Queues.{fifo, is_reply_of}
use Rattle.msrp_plan.specs.declared.ids.JobId.{JobId}
use Rattle.msrp_plan.specs.declared.ids.ResId.{ResId}
use Rattle.msrp_plan.specs.declared.rows.Row.{Row}

-- the core already has a row in this tick
abbrev pub had_turn : ℕ → ℕ → List Row → Bool
had_turn c t pre = list_any (λ r. (r.tick == t) && (r.core.0 == c)) pre

-- A1: the row is in the expected tick, and of a core that hasn't had its turn in it
abbrev pub is_in_turn : PlanModel → List Row → Row → Bool
is_in_turn plan pre r = (r.tick == length pre / plan.cores) && (nat_lt r.core.0 plan.cores && not (had_turn r.core.0 r.tick pre))

-- the job, if there is one, is a job of the core
abbrev pub is_on_core : PlanModel → ℕ → Option JobId → Bool
is_on_core plan c None = true
is_on_core plan c (Some j) = list_any (same_job j) (jobs_on plan c)

-- A2: the row's job, if it has one, is a job of its core
abbrev pub is_of_core : PlanModel → Row → Bool
is_of_core plan r = is_on_core plan r.core.0 r.job

-- the same job, or none in both
abbrev pub same_choice : Option JobId → Option JobId → Bool
same_choice None None = true
same_choice (Some i) (Some j) = same_job i j
same_choice _ _ = false

-- A3: the row's job is the one to run
abbrev pub is_chosen : PlanModel → List Row → Row → Bool
is_chosen plan pre r = same_choice r.job (choice plan r.core.0 r.tick pre)

-- A4: the row does its job's next action
abbrev pub is_next_action : PlanModel → List Row → Row → Bool
is_next_action plan pre r = does_next plan pre r.job r

-- the row's reply on its resource, if it has one, is that of the queue
abbrev pub replies_on : List Row → Option ResId → Row → Bool
replies_on pre None r = true
replies_on pre (Some g) r = is_reply_of (fifo g.0 pre) r

-- A5: the row's reply, and the ahead that it carries, are those of the queue of its resource
abbrev pub is_fifo_reply : List Row → Row → Bool
is_fifo_reply pre r = replies_on pre r.res r

-- the row is legal after these rows
pub record IsLegal (plan : PlanModel) (pre : List Row) (r : Row) : Type 0 where
  pub turn : is_in_turn plan pre r ≡ true
  pub own : is_of_core plan r ≡ true
  pub chosen : is_chosen plan pre r ≡ true
  pub action : is_next_action plan pre r ≡ true
  pub reply : is_fifo_reply pre r ≡ true

-- each element meets P over the elements before it, of which pre are the first
abbrev pub EachAfter : {X : Type 0} → (List X → X → Type 0) → List X → List X → Type 0
EachAfter P pre [] = ⊤
EachAfter P pre (x ∷ xs) = P pre x × EachAfter P (pre ++ x ∷ []) xs

-- the rows are the start of a legal run: each is legal after those before it
pub record IsRunStart (plan : PlanModel) (rows : List Row) : Type 0 where
  pub size : length rows ≤ plan.cores * plan.ticks
  pub each : EachAfter (IsLegal plan) [] rows

-- the rows are a legal run: each core has its turn in each tick
pub record IsRun (plan : PlanModel) (rows : List Row) : Type 0 where
  pub size : length rows ≡ plan.cores * plan.ticks
  pub each : EachAfter (IsLegal plan) [] rows

-- the row is the next one of core c after the rows of its log, for any reply of a global resource
pub record IsCoreTurn (plan : PlanModel) (c : ℕ) (log : List Row) (r : Row) : Type 0 where
  pub tick : r.tick ≡ length log
  pub core : r.core.0 ≡ c
  pub own : is_of_core plan r ≡ true
  pub chosen : is_chosen plan log r ≡ true
  pub action : is_next_action plan log r ≡ true

-- the rows are those of one core in its ticks from 0 on, replies aside
abbrev pub CoreRun : PlanModel → ℕ → List Row → Type 0
CoreRun plan c log = EachAfter (IsCoreTurn plan c) [] log
