-- What is noted of a run as its rows are judged: who holds and awaits each resource, and what the
-- run exercised, in numbers of its rows. A trace in which nothing happens is legal too.
use Rattle.std.specs.Prelude.{◌∷◌, ◌++◌, ◌+◌, ◌==◌, ◌&&◌, ◌≡◌, if◌then◌else◌, ◌||◌, filter, ◌-◌, ◌^◌}
use Rattle.msrp_plan.specs.Common.{ℕ, List, [], Bool, false, not, nat_le, max, length, Option, Some, option_map, count_after, ceiling, head, running, done, is_waiting, same_job, level, PlanModel, key, units, is_on, list_any, range_with_len, is_job, same_kind, is_grant, is_queue, is_request, slice_get, None, drop, fold, count_by, is_release, is_release_of, min, nat_lt, jobs_of}
use Rattle.std.specs.Option.{option_map_or}
use Rattle.msrp_plan.specs.declared.ids.JobId.{JobId}
use Rattle.msrp_plan.specs.declared.rows.Kind.{Kind}
use Rattle.msrp_plan.specs.declared.rows.Kind.TheVariants.{Lock, Take, Unlock}
use Rattle.msrp_plan.specs.declared.rows.Row.{Row}
use Rattle.msrp_why.specs.declared.exercise.ResourceCounts.{ResourceCounts}
use Rattle.msrp_why.specs.declared.exercise.TurnCounts.{TurnCounts}
use Rattle.msrp_why.specs.declared.notes.Numbered.{Numbered}
use Rattle.msrp_why.specs.declared.notes.Notes.{Notes}
use Rattle.msrp_why.specs.declared.notes.ResourceNotes.{ResourceNotes}
use Rattle.msrp_core.specs.declared.states.CoreState.{CoreState}

-- ---- rows with their numbers
-- rows with their numbers, after as many others as the number
abbrev pub numbered : ℕ → List Row → List Numbered
numbered n [] = []
numbered n (r ∷ rows) = record { number = n + 1; row = r } ∷ numbered (n + 1) rows

-- the job of a row
abbrev pub job_of : Numbered → Option JobId
job_of e = e.row.job

-- a request of the resource
abbrev pub requests : ℕ → Numbered → Bool
requests g e = is_on g e.row.res && is_request e.row.kind

-- the rows of the jobs in the queue of a resource: its requests, in order, without as many at the
-- front as released it
abbrev pub queue_rows : ℕ → List Row → List Numbered
queue_rows g rows = drop (count_by (is_release_of g) rows) (filter (requests g) (numbered 0 rows))

-- the row changes who holds a resource, and isn't a request
abbrev pub is_change : Kind → Bool
is_change k = same_kind k Lock || (same_kind k Unlock || is_release k)

-- a lock, an unlock or a release of the resource
abbrev pub changes : ℕ → Numbered → Bool
changes g e = is_on g e.row.res && is_change e.row.kind

-- the last of them
abbrev pub last_change : ℕ → List Row → Option Numbered
last_change g rows = fold (λ _ e. Some e) None (filter (changes g) (numbered 0 rows))

-- a lock of the job
abbrev pub IsLockBy : JobId → Numbered → Type 0
IsLockBy j e = (e.row.kind ≡ Lock) × (e.row.job ≡ Some j)

-- the last of the rows
abbrev pub last_row : List Row → Option Numbered
last_row rows = fold (λ _ e. Some e) None (numbered 0 rows)

-- ---- the rows on a resource
-- the row enters a resource that is free
abbrev pub is_entry : Kind → Bool
is_entry k = same_kind k Lock || same_kind k Take

-- the row is in the tick of that change
abbrev pub is_in_tick : ℕ → Option Numbered → Bool
is_in_tick t last = option_map_or (λ e. e.row.tick == t) last false

-- the length of the resource's queue after the row, if the row is on the resource
abbrev pub queued_with : ℕ → List Row → Row → ℕ
queued_with g pre r = if is_on g r.res then length (queue_rows g (pre ++ r ∷ [])) else 0

-- the greatest of a number and of those that the rows give, each after the rows before it, of which
-- pre are the first
abbrev pub most_after : (List Row → Row → ℕ) → ℕ → List Row → List Row → ℕ
most_after f most pre [] = most
most_after f most pre (r ∷ rows) = most_after f (max most (f pre r)) (pre ++ r ∷ []) rows

-- the rows that find the resource free; that join its queue; that are granted it in the tick of its
-- last release, or later; and its longest queue
pub record AreResourceCounts (rows : List Row) (g : ℕ) (n : ResourceCounts) : Type 0 where
  pub free : n.free ≡ count_after (λ pre r. is_on g r.res && is_entry r.kind) [] rows
  pub joined : n.joined ≡ count_after (λ pre r. is_on g r.res && is_queue r.kind) [] rows
  pub at_once : n.at_once ≡ count_after (λ pre r. is_on g r.res && (is_grant r.kind && is_in_tick r.tick (last_change g pre))) [] rows
  pub later : n.later ≡ count_after (λ pre r. is_on g r.res && (is_grant r.kind && not (is_in_tick r.tick (last_change g pre)))) [] rows
  pub longest : n.longest ≡ most_after (queued_with g) 0 [] rows

-- ---- the turns of the cores
-- the row does the last unit of its job
abbrev pub finishes : PlanModel → List Row → Row → Bool
finishes plan pre r = not (is_waiting r.kind) && option_map_or (λ j. done j pre + 1 == length (units plan j)) r.job false

-- the absolute deadline of the row's job
abbrev pub deadline_of : PlanModel → Row → Option ℕ
deadline_of plan r = option_map (λ j. (key plan j).deadline) r.job

-- the level of the core's head before the row
abbrev pub head_level : PlanModel → List Row → Row → Option ℕ
head_level plan pre r = option_map (λ h. level plan h.task.0) (head plan r.core.0 r.tick pre)

-- there is a number, and it isn't above this one, or it is this one
abbrev pub is_at_most : Option ℕ → ℕ → Bool
is_at_most o most = option_map_or (λ n. nat_le n most) o false

-- there is a number, and it is this one
abbrev pub is_at : Option ℕ → ℕ → Bool
is_at o at = option_map_or (λ n. n == at) o false

-- the job preempts the one that runs
abbrev pub is_other : Option JobId → Option JobId → Bool
is_other (Some s) (Some j) = not (same_job s j)
is_other _ _ = false

-- the row is one of the job
abbrev pub is_by : JobId → Numbered → Bool
is_by j e = is_job e.row.job j

-- by the last change of a resource, the job locked it and hasn't unlocked it
abbrev pub is_locker : JobId → Option Numbered → Bool
is_locker j last = option_map_or (λ e. same_kind e.row.kind Lock && is_by j e) last false

-- so it is, or the job is in the resource's queue
abbrev pub is_user : JobId → Option Numbered → List Numbered → Bool
is_user j last queue = is_locker j last || list_any (is_by j) queue

-- the job is inside a critical section
abbrev pub is_inside : PlanModel → List Row → JobId → Bool
is_inside plan pre j = list_any (λ g. is_user j (last_change g pre) (queue_rows g pre)) (range_with_len 0 (length plan.resources))

-- the row locks or requests a resource
abbrev pub is_opening : Kind → Bool
is_opening k = same_kind k Lock || is_request k

-- the row opens a critical section inside another
abbrev pub nests : PlanModel → List Row → Row → Bool
nests plan pre r = is_opening r.kind && option_map_or (is_inside plan pre) r.job false

-- the turns in which a job finishes, after its deadline (the tick begins at it or later), or at it
-- (the tick ends at it); in which the head of the core may not start, at the ceiling; in which a
-- job preempts another; and in which it opens a critical section inside another
pub record AreTurnCounts (plan : PlanModel) (rows : List Row) (n : TurnCounts) : Type 0 where
  pub finished : n.finished ≡ count_after (finishes plan) [] rows
  pub late : n.late ≡ count_after (λ pre r. finishes plan pre r && is_at_most (deadline_of plan r) r.tick) [] rows
  pub at_deadline : n.at_deadline ≡ count_after (λ pre r. finishes plan pre r && is_at (deadline_of plan r) (r.tick + 1)) [] rows
  pub kept : n.kept ≡ count_after (λ pre r. is_at_most (head_level plan pre r) (ceiling plan r.core.0 pre)) [] rows
  pub at_ceiling : n.at_ceiling ≡ count_after (λ pre r. is_at (head_level plan pre r) (ceiling plan r.core.0 pre)) [] rows
  pub preempted : n.preempted ≡ count_after (λ pre r. is_other (running plan r.core.0 pre) r.job) [] rows
  pub nested : n.nested ≡ count_after (nests plan) [] rows

-- ---- all notes
-- what is noted of a resource is what these rows say
pub record IsNoted (rows : List Row) (g : ℕ) (n : ResourceNotes) : Type 0 where
  pub queue : n.queue.items ≡ queue_rows g rows
  pub last : n.last ≡ last_change g rows
  pub counts : AreResourceCounts rows g n.counts

-- so it is of each resource of the plan
pub record AreResourcesNoted (plan : PlanModel) (rows : List Row) (notes : List ResourceNotes) : Type 0 where
  pub size : length notes ≡ length plan.resources
  pub each : (g : ℕ) (n : ResourceNotes) → slice_get notes g ≡ Some n → IsNoted rows g n

-- what is noted of rows is what they say: how many they are, the last of them, each resource, and
-- the turns
pub record AreNoted (plan : PlanModel) (rows : List Row) (notes : Notes) : Type 0 where
  pub count : notes.rows ≡ length rows
  pub last : notes.last ≡ last_row rows
  pub resources : AreResourcesNoted plan rows notes.resources.items
  pub turns : AreTurnCounts plan rows notes.turns

-- ---- a turn by the state of its core before it, and a count with one row more
-- there is such a job
abbrev pub is_job_of : PlanModel → JobId → Bool
is_job_of plan j = nat_lt j.task.0 (length plan.tasks) && nat_lt j.k (length (jobs_of plan j.task.0))

-- how many of its units the job has done: a job that doesn't run yet has done none
abbrev pub units_done : CoreState → JobId → ℕ
units_done s j = if is_job s.running j then s.done else 0

-- one more, if so, up to the greatest number that is stored
abbrev pub one_if : ℕ → Bool → ℕ
one_if n b = min (n + (if b then 1 else 0)) (2 ^ 32 - 1)
