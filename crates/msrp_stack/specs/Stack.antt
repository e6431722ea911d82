-- The started jobs of a core, newest first, and what each of them holds.
use Rattle.std.specs.Prelude.{◌∷◌, ◌≡◌, ◌<◌}
use Rattle.msrp_plan.specs.Common.{ℕ, List, [], Bool, false, nat_eq, Option, Some, None, length, ⊤, true, list_any, Contains, PlanModel, jobs_on, same_job, is_before}
use Rattle.msrp_plan.specs.declared.ids.JobId.{JobId}
use Rattle.msrp_plan.specs.Choice.{first_unfinished}
use Rattle.msrp_plan.specs.Ceiling.{ceiling_with}
use Rattle.msrp_plan.specs.FifoLock.{without_first}

-- a started, unfinished job, and its resources, the innermost first, global ones once requested
pub record StartedJob : Type 0 where
  pub job : JobId
  pub held : List ℕ

-- the started jobs of a core of a plan, the newest first
pub record StackModel : Type 0 where
  pub plan : PlanModel
  pub core : ℕ
  pub started : List StartedJob

-- the job holds the resource
abbrev pub holds : ℕ → StartedJob → Bool
holds g s = list_any (nat_eq g) s.held

-- one of the started jobs holds the resource
abbrev pub is_held : List StartedJob → ℕ → Bool
is_held started g = list_any (holds g) started

-- the job is one of the started
abbrev pub is_among : List StartedJob → JobId → Bool
is_among started j = list_any (λ s. same_job j s.job) started

-- the started job with the least key
abbrev pub top : StackModel → Option JobId
top stack = first_unfinished stack.plan stack.core (is_among stack.started) (λ j. false)

-- the current ceiling of the core, from what the started jobs hold
abbrev pub current_ceiling : StackModel → ℕ
current_ceiling stack = ceiling_with stack.plan stack.core false (is_held stack.started)

-- the newest started job
abbrev pub newest : List StartedJob → Option JobId
newest [] = None
newest (s ∷ below) = Some s.job

-- the job comes before the newest, if there is one
abbrev pub ComesFirst : PlanModel → List StartedJob → JobId → Type 0
ComesFirst plan [] j = ⊤
ComesFirst plan (s ∷ below) j = is_before plan j s.job ≡ true

-- a job of the core may start: it comes before the started ones
pub record CanStart (stack : StackModel) (j : JobId) : Type 0 where
  pub known : Contains (jobs_on stack.plan stack.core) j
  pub first : ComesFirst stack.plan stack.started j

-- the newest job, if there is one, holds fewer than this many resources, and not this one
abbrev pub HasRoom : List StartedJob → ℕ → ℕ → Type 0
HasRoom [] most g = ⊥
HasRoom (s ∷ below) most g = (length s.held < most) × (holds g s ≡ false)

-- the newest job holds one more resource
abbrev pub with_held : List StartedJob → ℕ → List StartedJob
with_held [] g = []
with_held (s ∷ below) g = record s { held = g ∷ s.held } ∷ below

-- the resource is the innermost that the newest job holds
abbrev pub IsInnermost : List StartedJob → ℕ → Type 0
IsInnermost [] g = ⊥
IsInnermost (s ∷ below) g = (rest : List ℕ) × (s.held ≡ g ∷ rest)

-- the newest job holds something
abbrev pub SomeHeld : List StartedJob → Type 0
SomeHeld started = (g : ℕ) × IsInnermost started g

-- the newest job without its innermost resource
abbrev pub without_held : List StartedJob → List StartedJob
without_held [] = []
without_held (s ∷ below) = record s { held = without_first s.held } ∷ below

-- there is a newest job, and it holds nothing
abbrev pub IsDone : List StartedJob → Type 0
IsDone [] = ⊥
IsDone (s ∷ below) = s.held ≡ []

-- the stack after its newest job has finished
abbrev pub without_newest : List StartedJob → List StartedJob
without_newest [] = []
without_newest (s ∷ below) = below
