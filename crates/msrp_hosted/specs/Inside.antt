-- What the fields of a run and of its cores hold.
use Rattle.std.specs.Prelude.{◌≡◌, ◌+◌, ◌<◌, ◌≤◌}
use Rattle.msrp_plan.specs.Common.{ℕ, List, [], Some, map, slice_index_or, vec_capacity, PlanModel, IsPlan}
use Rattle.std.specs.Vec.Iter.{into_iter_items, into_iter_len}
use Rattle.msrp_board.specs.Seats.{BoardModel, SeatModel}
use Rattle.msrp_board.specs.declared.books.Conductor.TheVariants.{Opened}
use Rattle.msrp_core.specs.Machine.{MachineModel}
use Rattle.msrp_merge.specs.Merging.{size_of}
use Rattle.msrp_merge.specs.Turns.{LogModel}
use Rattle.msrp_merge.specs.declared.logs.Turn.{Turn}
use Rattle.msrp_board.specs.Boards.{IsTied}
use Rattle.msrp_run.specs.Threads.{AllWorked, AreNewParts, HasOthers, HasRest, HasRun}
use Rattle.msrp_run.specs.Work.{HasWorked, IsAtWork, IsInTurn}
use Rattle.msrp_run.specs.declared.workers.CoreParts.{CoreParts}
use Rattle.msrp_hosted.specs.Hosted.{HostedCoreModel, HostedRunModel, SettledRunModel}
use Rattle.msrp_hosted.specs.declared.steps.CoreStep.{CoreStep}
use Rattle.msrp_hosted.specs.declared.steps.CoreStep.TheVariants.{Waiting, InTurn, Ended}
use Rattle.msrp_hosted.specs.declared.cores.HostedCore.TheInside.{Inside as CoreInside}
use Rattle.msrp_hosted.specs.declared.run.HostedRun.TheInside.{Inside as RunInside}
use Rattle.msrp_hosted.specs.declared.settled.SettledRun.TheInside.{Inside as SettledInside}

-- a core's fields while it does this: it is at work, in a turn, or has ended
abbrev pub Keeps : CoreStep → BoardModel → MachineModel → LogModel → SeatModel → Type 0
Keeps Waiting board m log seat = IsAtWork board m.plan m.core m log seat
Keeps InTurn board m log seat = IsInTurn board m.plan m.core m log seat
Keeps Ended board m log seat = HasWorked board m.plan m.core log seat

-- what a clause sees of a core
abbrev pub core_view : CoreInside → HostedCoreModel
core_view c = record { plan = c.machine.plan; core = c.machine.core; board = c.board.value; turns = c.log.turns; step = c.step }

-- what the fields of a core hold
pub record IsCoreView (c : CoreInside) : Type 0 where
  pub seat : SeatModel
  pub has : c.seat ≡ Some seat
  pub keeps : Keeps c.step c.board.value c.machine c.log seat

-- ---- a run
abbrev pub turns_in : List LogModel → List (List Turn)
turns_in logs = map (λ (log : LogModel). log.turns) logs

-- while cores are handed out, the conductor's seat has the books of the others, and none was joined
pub record IsHandingOut (board : BoardModel) (handed : ℕ) (rest : SeatModel) (logs : List LogModel) : Type 0 where
  pub others : HasOthers board handed rest
  pub none : logs ≡ []

-- once all are out the cores are let in, and the seat has the books of the joined ones
pub record IsOpened (board : BoardModel) (plan : PlanModel) (rest : SeatModel) (logs : List LogModel) : Type 0 where
  pub opened : HasRest board plan.cores Opened rest
  pub worked : AllWorked plan logs rest

-- what a clause sees of a run
abbrev pub run_view : RunInside → HostedRunModel
run_view r = record { plan = r.plan.now; board = r.board.value; handed = r.handed; joined = turns_in r.logs.items }

-- what the fields of a run hold
pub record IsRunView (r : RunInside) : Type 0 where
  pub size : r.board.value.size ≡ size_of r.plan.now
  pub some : 0 < r.plan.now.ticks
  pub rest : SeatModel
  pub has : r.rest ≡ Some rest
  pub count : r.handed + into_iter_len r.parts ≡ r.plan.now.cores
  pub parts : (k : ℕ) (d : CoreParts) → k < into_iter_len r.parts → AreNewParts r.plan.now (r.handed + k) (slice_index_or (into_iter_items r.parts) k d)
  pub handing : r.handed < r.plan.now.cores → IsHandingOut r.board.value r.handed rest r.logs.items
  pub opened : r.handed ≡ r.plan.now.cores → IsOpened r.board.value r.plan.now rest r.logs.items
  pub room : r.plan.now.cores ≤ vec_capacity r.logs

-- ---- a run that has ended
abbrev pub settled_view : SettledInside → SettledRunModel
settled_view s = record { plan = s.plan.now; turns = turns_in s.logs.items }

-- what the fields of a settled run hold
pub record IsSettledView (s : SettledInside) : Type 0 where
  pub accepted : IsPlan s.plan.now
  pub run : HasRun s.plan.now s.logs.items s.settled
  pub size : s.settled.size ≡ size_of s.plan.now
  pub tied : IsTied s.settled
