-- What a clause sees of the ready jobs, and what their fields hold.
use Rattle.msrp_plan.specs.Common.{ℕ, List, Bool, true, false, not, Option, map, length, take, drop, slice_index_or, All, list_any, IsPermutation, IsNonDecreasingBy, PlanModel, key, jobs_on, same_job, IsPlan, most_jobs}
use Rattle.msrp_plan.specs.declared.ids.JobId.{JobId}
use Rattle.msrp_plan.specs.declared.ids.JobKey.{JobKey}
use Rattle.std.specs.Prelude.{◌≡◌, ◌≤◌, ◌<◌, ◌+◌, ◌*◌, ◌^◌, ◌++◌, filter}
use Rattle.msrp_ready.specs.Keyed.{entry_keys, job_of}
use Rattle.msrp_ready.specs.Heap.{HeapModel}
use Rattle.msrp_ready.specs.Ready.{ReadyModel, has_come}
use Rattle.msrp_ready.specs.declared.keyed.Entry.{Entry}
use Rattle.msrp_ready.specs.declared.ready.Ready.TheInside.{Inside}

-- the job is in the list
abbrev pub has : List JobKey → JobId → Bool
has jobs j = list_any (λ k. same_job j (job_of k)) jobs

-- the jobs of a list that aren't in the other
abbrev pub without : List JobKey → List JobKey → List JobId
without ready jobs = filter (λ j. not (has ready j)) (map job_of jobs)

-- the calendar, by the keys of its jobs, has the jobs of the core by release; the first `next` of
-- them are released, and each of these is in the heap or taken
pub record AreReady (plan : PlanModel) (core : ℕ) (tick : Option ℕ) (calendar : List JobKey) (next : ℕ) (heap : HeapModel) : Type 0 where
  pub accepted : IsPlan plan
  pub jobs : IsPermutation (map (key plan) (jobs_on plan core)) calendar
  pub sorted : IsNonDecreasingBy (λ job. job.release) calendar
  pub few : length calendar ≤ most_jobs
  pub room : heap.room ≡ length calendar
  pub within : next ≤ length calendar
  pub come : All (λ job. has_come tick job.release ≡ true) (take next calendar)
  pub to_come : All (λ job. has_come tick job.release ≡ false) (drop next calendar)
  pub taken : List JobKey
  pub each : IsPermutation (take next calendar) (heap.jobs ++ taken)
  pub compared : heap.compared ≤ 13 * next + 26 * length taken

abbrev pub ready_view : Inside → ReadyModel
ready_view ready = record { plan = ready.plan.now; core = ready.core.0; tick = ready.tick; taken = without ready.heap.jobs (take ready.next (entry_keys ready.plan.now ready.calendar.items)); compared = ready.heap.compared }

-- the tick is the release of the entry at that index, or after all ticks if there is none
pub record IsComing (calendar : List Entry) (place tick : ℕ) : Type 0 where
  pub release : (d : Entry) → place < length calendar → tick ≡ (slice_index_or calendar place d).release
  pub short : place < length calendar → tick < 2 ^ 32
  pub none : length calendar ≤ place → tick ≡ 2 ^ 32

-- the ready jobs, with the next release
abbrev pub IsReadyView : Inside → Type 0
IsReadyView ready = AreReady ready.plan.now ready.core.0 ready.tick (entry_keys ready.plan.now ready.calendar.items) ready.next ready.heap × IsComing ready.calendar.items ready.next ready.coming
