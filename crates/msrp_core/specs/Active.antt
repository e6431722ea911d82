-- The jobs of a core between two of its turns: which are active (started and unfinished), what each
-- of these holds, and how many of its units it has done.
use Rattle.std.specs.Prelude.{◌∷◌, ◌==◌, ◌&&◌, ◌≡◌, ◌<◌, ◌+◌, if◌then◌else◌}
use Rattle.msrp_plan.specs.Common.{ℕ, List, [], Bool, true, false, nat_eq, Some, length, take, slice_get, ⊤, list_any, AllByRecursion, Contains, PlanModel, units, held_after, jobs_on, same_job, is_global, JobState}
use Rattle.msrp_core.specs.Common.{Free, Holding, JobId, Phase, Queued, ResId, is_among}
use Rattle.msrp_plan.specs.declared.units.Op.TheVariants.{Lock}
use Rattle.msrp_stack.specs.Stack.{StartedJob}

-- an active job, the resources that it holds or awaits, the innermost first, and its units done
pub record ActiveJob : Type 0 where
  pub job : JobId
  pub held : List ℕ
  pub done : ℕ

-- the started jobs, the newest first, with the units that each has done
abbrev pub active_of : List StartedJob → List ℕ → List ActiveJob
active_of [] done = []
active_of (s ∷ started) [] = []
active_of (s ∷ started) (n ∷ done) = record { job = s.job; held = s.held; done = n } ∷ active_of started done

-- a started job without its number of units
abbrev pub started_job : ActiveJob → StartedJob
started_job s = record { job = s.job; held = s.held }

-- the job is active
abbrev pub is_active : List ActiveJob → JobId → Bool
is_active active j = list_any (λ s. same_job j s.job) active

-- one of them holds the resource, or awaits it
abbrev pub is_kept : List ActiveJob → ℕ → Bool
is_kept active g = list_any (λ s. list_any (nat_eq g) s.held) active

-- the units that a started job has done: all of them if it isn't active
abbrev pub done_in : PlanModel → List ActiveJob → JobId → ℕ
done_in plan [] j = length (units plan j)
done_in plan (s ∷ active) j = if same_job j s.job then s.done else done_in plan active j

-- the phase of a core that waits for a resource
abbrev pub is_waiting_phase : Phase → Bool
is_waiting_phase (Queued g) = true
is_waiting_phase _ = false

-- the phase of a core that holds this resource
abbrev pub is_holding_phase : ResId → Phase → Bool
is_holding_phase g (Holding h) = h.0 == g.0
is_holding_phase _ _ = false

-- the job is the newest of the active ones
abbrev pub is_newest : List ActiveJob → JobId → Bool
is_newest [] j = false
is_newest (s ∷ below) j = same_job j s.job

-- how far a job is, from the jobs that were started, what the core holds or awaits, and the active
-- jobs, of which only the newest waits
abbrev pub state_in : PlanModel → List JobId → Phase → List ActiveJob → JobId → JobState
state_in plan taken phase active j =
    record { job = j; started = is_among taken j; queued = is_waiting_phase phase && is_newest active j; done = if is_among taken j then done_in plan active j else 0 }

-- the newest job has done one more unit: after its last it isn't active
abbrev pub advanced : PlanModel → List ActiveJob → List ActiveJob
advanced plan [] = []
advanced plan (s ∷ below) = if s.done + 1 == length (units plan s.job) then below else record s { done = s.done + 1 } ∷ below

-- ---- what holds between turns
-- a started job of the core that has a unit left
pub record IsActiveJob (plan : PlanModel) (c : ℕ) (taken : List JobId) (s : ActiveJob) : Type 0 where
  pub known : Contains (jobs_on plan c) s.job
  pub started : is_among taken s.job ≡ true
  pub left : s.done < length (units plan s.job)

-- no job is active twice
abbrev pub AreDistinct : List ActiveJob → Type 0
AreDistinct [] = ⊤
AreDistinct (s ∷ below) = (is_active below s.job ≡ false) × AreDistinct below

-- none of the resources is global
abbrev pub AreLocal : PlanModel → List ℕ → Type 0
AreLocal plan held = (g : ℕ) → list_any (nat_eq g) held ≡ true → is_global plan g ≡ false

-- what it holds is what its units hold so far
abbrev pub HoldsSo : PlanModel → ActiveJob → Type 0
HoldsSo plan s = held_after (take s.done (units plan s.job)) ≡ Some s.held

-- an active job holds what its units hold, all of it local
pub record HoldsLocal (plan : PlanModel) (s : ActiveJob) : Type 0 where
  pub now : HoldsSo plan s
  pub locals : AreLocal plan s.held

-- it holds this global resource and no other
pub record HoldsGlobal (plan : PlanModel) (g : ResId) (s : ActiveJob) : Type 0 where
  pub now : HoldsSo plan s
  pub global : is_global plan g.0 ≡ true
  pub has : list_any (nat_eq g.0) s.held ≡ true
  pub one : (h : ℕ) → list_any (nat_eq h) s.held ≡ true → is_global plan h ≡ true → h ≡ g.0

-- its next unit locks this global resource, which already counts as held; its other ones are local
pub record AwaitsGlobal (plan : PlanModel) (g : ResId) (s : ActiveJob) : Type 0 where
  pub unit : slice_get (units plan s.job) s.done ≡ Some (Lock g)
  pub global : is_global plan g.0 ≡ true
  pub rest : List ℕ
  pub held : s.held ≡ g.0 ∷ rest
  pub now : held_after (take s.done (units plan s.job)) ≡ Some rest
  pub locals : AreLocal plan rest

-- what they hold, by the core's phase: only the newest may hold or await a global resource
abbrev pub HoldSo : PlanModel → Phase → List ActiveJob → Type 0
HoldSo plan Free active = AllByRecursion (HoldsLocal plan) active
HoldSo plan (Queued g) [] = ⊥
HoldSo plan (Queued g) (s ∷ below) = AwaitsGlobal plan g s × AllByRecursion (HoldsLocal plan) below
HoldSo plan (Holding g) [] = ⊥
HoldSo plan (Holding g) (s ∷ below) = HoldsGlobal plan g s × AllByRecursion (HoldsLocal plan) below

-- the active jobs of a core
pub record AreActive (plan : PlanModel) (c : ℕ) (taken : List JobId) (phase : Phase) (active : List ActiveJob) : Type 0 where
  pub each : AllByRecursion (IsActiveJob plan c taken) active
  pub apart : AreDistinct active
  pub holds : HoldSo plan phase active
