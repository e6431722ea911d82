-- A global resource after rows, in the words of the one-thread lock. So two statements of
-- first-in-first-out can be compared: the queue of jobs that replies to rows, and the lock that
-- answers calls of cores.
use Rattle.std.specs.Prelude.{ℕ, List, [], ◌∷◌, ◌++◌, Bool, true, false, Some, IfSome, map, length, fold, ◌≡◌, ⊤}
use Rattle.msrp_plan.specs.Plan.{PlanModel, core_of}
use Rattle.msrp_plan.specs.Jobs.{holds}
use Rattle.msrp_plan.specs.Queues.{fifo}
use Rattle.msrp_plan.specs.Runs.{IsRunStart, IsCoreTurn, is_fifo_reply}
use Rattle.msrp_plan.specs.Logs.{log_of}
use Rattle.msrp_plan.specs.FifoLock.{FifoLock, Answers, lock_after}
use Rattle.msrp_plan.specs.Calls.{kind_of_call, ahead_of_call}
use Rattle.msrp_plan.specs.declared.ids.JobId.{JobId}
use Rattle.msrp_plan.specs.declared.units.Call.{Call}
use Rattle.msrp_plan.specs.declared.units.Call.TheVariants.{Ask, Poll, Leave}
use Rattle.msrp_plan.specs.declared.rows.Row.{Row}

-- the first of these jobs holds the resource
abbrev pub first_holds : PlanModel → List Row → ℕ → List JobId → Bool
first_holds plan pre g [] = false
first_holds plan pre g (j ∷ js) = holds plan pre g j

-- the lock after these rows: the cores of the resource's queue, and whether the first one holds it
abbrev pub lock_at : PlanModel → ℕ → List Row → FifoLock
lock_at plan g pre = record { queue = map (core_of plan) (fifo g pre); granted = first_holds plan pre g (fifo g pre) }

-- the lock after these calls, each with its core
abbrev pub lock_from : FifoLock → List (ℕ × Call) → FifoLock
lock_from lock calls = fold (λ before s. lock_after before s.0 s.1) lock calls

-- the row is made by a core's call of the resource; an ahead that it carries is the call's
pub record IsRowOfCall (g : ℕ) (c : ℕ) (call : Call) (r : Row) : Type 0 where
  pub core : r.core.0 ≡ c
  pub resource : r.res ≡ Some (record { 0 = g })
  pub kind : r.kind ≡ kind_of_call call
  pub ahead : IfSome r.ahead (λ n. ahead_of_call call ≡ Some n)

-- a request learns the number of jobs in the queue
abbrev pub Tells : List JobId → Call → Type 0
Tells queue (Ask ahead) = ahead ≡ length queue
Tells queue (Poll granted) = ⊤
Tells queue Leave = ⊤

-- queue and lock agree on a row that such a call makes: as the core's next turn, it has the queue's
-- reply if and, in a legal run, only if the lock answers; after it the lock is as after the call
pub record Agree (plan : PlanModel) (pre : List Row) (r : Row) (g : ℕ) (call : Call) : Type 0 where
  pub replies : IsRunStart plan pre → IsCoreTurn plan r.core.0 (log_of r.core.0 pre) r → Answers (lock_at plan g pre) r.core.0 call → is_fifo_reply pre r ≡ true
  pub answers : IsRunStart plan (pre ++ r ∷ []) → Tells (fifo g pre) call → Answers (lock_at plan g pre) r.core.0 call
  pub next : IsRunStart plan (pre ++ r ∷ []) → Answers (lock_at plan g pre) r.core.0 call → lock_at plan g (pre ++ r ∷ []) ≡ lock_after (lock_at plan g pre) r.core.0 call
