-- The stored facts on a core that repeats its last row.
use Rattle.msrp_plan.specs.Common.{ℕ, [], Option, Some, None, length, units, HasWork}
use Rattle.msrp_core.specs.Common.{CoreId, Idle, JobId, Jobs, Poll, Row, Run, Spin}
use Rattle.msrp_plan.specs.declared.rows.Kind.{Kind}
use Rattle.std.specs.Prelude.{◌≡◌, ◌<◌, ◌+◌, refl}
use Rattle.std.specs.Option.{option_map}
use Rattle.msrp_core.specs.CoreJobs.{IsRunning}

-- the running job has k units of work next, none of them its last unit
pub record HasWorkLeft (jobs : Jobs) (job : JobId) (k : ℕ) : Type 0 where
  pub running : IsRunning jobs job
  pub work : HasWork jobs.plan.now job running.newest.done k
  pub more : running.newest.done + k < length (units jobs.plan.now job)

-- a row that repeats is one of work, or idle
abbrev pub kind_again : Option JobId → Kind
kind_again None = Idle
kind_again (Some job) = Run

-- the row that repeats
abbrev pub row_again : ℕ → CoreId → Option JobId → Row
row_again t core None = record { tick = t; core = core; kind = Idle; job = None; res = None; ahead = None; shape = refl; carrier = refl }
row_again t core (Some job) = record { tick = t; core = core; kind = Run; job = Some job; res = None; ahead = None; shape = refl; carrier = refl }

-- its job lets a row of this kind repeat k times; a row without a job means that none is started
abbrev pub CanRepeat : Jobs → Kind → Option JobId → ℕ → Type 0
CanRepeat jobs kind None k = (kind ≡ Idle) × (jobs.stack.started ≡ [])
CanRepeat jobs kind (Some job) k = (kind ≡ Run) × HasWorkLeft jobs job k

-- the row is a poll that wasn't granted, and its job still awaits the resource
pub record Polls (jobs : Jobs) (r : Row) (poll : Poll) : Type 0 where
  pub kind : r.kind ≡ Spin
  pub job : r.job ≡ Some poll.job
  pub res : r.res ≡ Some poll.res
  pub running : IsRunning jobs poll.job

-- the row of the poll, if it isn't granted again
abbrev pub spin_of : ℕ → CoreId → Poll → Row
spin_of t core poll = record { tick = t; core = core; kind = Spin; job = Some poll.job; res = Some poll.res; ahead = None; shape = refl; carrier = refl }

-- the row in which the core spins on, if it polls
abbrev pub spin_again : ℕ → CoreId → Option Poll → Option Row
spin_again t core poll = option_map (spin_of t core) poll
