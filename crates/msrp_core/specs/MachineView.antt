-- What a clause sees of a machine, and what its fields hold.
use Rattle.std.specs.Prelude.{◌∷◌, ◌++◌, ◌==◌, ◌≡◌, ◌≤◌, ◌<◌, ◌+◌, if◌then◌else◌}
use Rattle.msrp_plan.specs.Common.{ℕ, List, [], Some, None, false, map, ForSome, jobs_on, is_queued, IsCoreTurn}
use Rattle.msrp_core.specs.Common.{Poll, Queued, Row, has_release_by}
use Rattle.msrp_core.specs.Machine.{MachineModel, StandsAfter}
use Rattle.msrp_core.specs.CoreJobs.{AreJobs, state_of}
use Rattle.msrp_core.specs.Repeats.{CanRepeat, Polls, row_again, spin_again}
use Rattle.msrp_core.specs.declared.machine.Machine.TheInside.{Inside}

abbrev pub machine_view : Inside → MachineModel
machine_view m =
    record { plan = m.jobs.plan.now; core = m.jobs.core.0; tick = m.tick; phase = m.jobs.phase; states = map (state_of m.jobs) (jobs_on m.jobs.plan.now m.jobs.core.0); again = if m.again == 0 then None else Some (row_again m.tick m.jobs.core m.job); spin = spin_again m.tick m.jobs.core m.poll }

-- the last row, after pre, repeats this often: no job is released, and its job, not queued, goes on
pub record Repeats (m : Inside) : Type 0 where
  pub pre : List Row
  pub row : Row
  pub stands : StandsAfter (machine_view m) (pre ++ row ∷ [])
  pub turn : IsCoreTurn m.jobs.plan.now m.jobs.core.0 pre row
  pub job : row.job ≡ m.job
  pub can : CanRepeat m.jobs row.kind m.job m.again
  pub ready : ForSome m.job (λ j. is_queued pre j ≡ false)
  pub left : m.tick + m.again ≤ m.jobs.plan.now.ticks
  pub since : ℕ
  pub released : m.jobs.ready.tick ≡ Some since
  pub before : since < m.tick
  pub quiet : (t : ℕ) → t < m.tick + m.again → has_release_by m.jobs.ready t ≡ false

-- the last row, after pre, was a poll that wasn't granted
pub record Spins (m : Inside) (poll : Poll) : Type 0 where
  pub pre : List Row
  pub row : Row
  pub stands : StandsAfter (machine_view m) (pre ++ row ∷ [])
  pub turn : IsCoreTurn m.jobs.plan.now m.jobs.core.0 pre row
  pub polls : Polls m.jobs row poll
  pub awaits : m.jobs.phase ≡ Queued poll.res

-- no job of a later tick is released yet
pub record IsMachineView (m : Inside) : Type 0 where
  pub jobs_fit : AreJobs m.jobs
  pub released : ForSome m.jobs.ready.tick (λ before. before ≤ m.tick)
  pub log : List Row
  pub stands : StandsAfter (machine_view m) log
  pub repeats : 0 < m.again → Repeats m
  pub spins : ForSome m.poll (Spins m)
  pub apart : 0 < m.again → m.poll ≡ None
