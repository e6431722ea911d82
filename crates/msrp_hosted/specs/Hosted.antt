-- A run on its caller's threads.
use Rattle.std.specs.Prelude.{◌≡◌}
use Rattle.msrp_plan.specs.Common.{ℕ, List, [], length, slice_index_or, PlanModel}
use Rattle.msrp_board.specs.Seats.{BoardModel}
use Rattle.msrp_merge.specs.declared.logs.Turn.{Turn}
use Rattle.msrp_hosted.specs.declared.steps.CoreStep.{CoreStep}
use Rattle.msrp_hosted.specs.declared.steps.CoreStep.TheVariants.{Waiting, Ended}

-- a core: its number, its turns so far, and what it is doing
pub record HostedCoreModel : Type 0 where
  pub plan : PlanModel
  pub core : ℕ
  pub board : BoardModel
  pub turns : List Turn
  pub step : CoreStep

-- a run: the number of cores handed out, and the turns of the joined ones, in rising order
pub record HostedRunModel : Type 0 where
  pub plan : PlanModel
  pub board : BoardModel
  pub handed : ℕ
  pub joined : List (List Turn)

-- the next core to be handed out: it waits for tick 0
abbrev pub new_core : HostedRunModel → HostedCoreModel
new_core run = record { plan = run.plan; core = run.handed; board = run.board; turns = []; step = Waiting }

-- the core is one of this run's
pub record IsOfRun (run : HostedRunModel) (core : HostedCoreModel) : Type 0 where
  pub plan : core.plan ≡ run.plan
  pub board : core.board ≡ run.board

-- all cores were handed out; this one is the next to be joined, and has ended
pub record CanJoin (run : HostedRunModel) (core : HostedCoreModel) : Type 0 where
  pub all : run.handed ≡ run.plan.cores
  pub next : core.core ≡ length run.joined
  pub ended : core.step ≡ Ended

-- a run that has ended: the turns of each core, in rising order
pub record SettledRunModel : Type 0 where
  pub plan : PlanModel
  pub turns : List (List Turn)

-- the turns of core c among those of all cores
abbrev pub turns_at : List (List Turn) → ℕ → List Turn
turns_at all_turns c = slice_index_or all_turns c []
