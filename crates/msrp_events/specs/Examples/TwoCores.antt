-- Two cores: hi and lo share cal, so lo blocks hi while it has cal; lo and far, of another core,
-- share bus. An operation takes 1 ns, and the kernel reacts within 2 ns.
use Rattle.std.specs.Prelude.{◌∷◌, ◌++◌}
use Rattle.msrp_plan.specs.Common.{ℕ, List, [], codes, PlanModel}
use Rattle.msrp_plan.specs.Examples.Notation.{job, locks, unlocks}
use Rattle.msrp_plan.specs.declared.ids.JobId.{JobId}
use Rattle.msrp_events.specs.Examples.Notation.{task, boot, release, switch, idle, lock, unlock, request, acquire, poll, freed, end, stop, lost, numbered}
use Rattle.msrp_events.specs.declared.events.Event.{Event}
use Rattle.msrp_events.specs.declared.states.Tolerances.{Tolerances}

abbrev bus : ℕ
bus = 0

abbrev cal : ℕ
cal = 1

-- the system of the examples
abbrev pub system : PlanModel
system = record {
  cores = 2;
  ticks = 0;
  resources = codes "bus" ∷ codes "cal" ∷ [];
  tasks =
      task (codes "hi") 0 50 (locks cal ∷ unlocks cal ∷ [])
      ∷ task (codes "lo") 0 200 (locks cal ∷ unlocks cal ∷ locks bus ∷ unlocks bus ∷ [])
      ∷ task (codes "far") 1 100 (locks bus ∷ unlocks bus ∷ [])
      ∷ [];
}

-- an operation takes 1 ns, and the kernel reacts within 2 ns
abbrev pub tolerances : Tolerances
tolerances = record { operation = 1; slack = 2; skew = 0; backlog = 4 }

abbrev hi : JobId
hi = job 0 0

abbrev lo : JobId
lo = job 1 0

abbrev far : JobId
far = job 2 0

-- lo locks cal, and hi is released meanwhile
abbrev held_up : List Event
held_up = boot 0 0 ∷ boot 1 1 ∷ release 10 0 lo 210 ∷ switch 10 0 lo ∷ lock 12 0 lo cal ∷ release 13 0 hi 63 ∷ []

-- lo unlocks it, and the core switches to hi
abbrev preempted : List Event
preempted = held_up ++ unlock 15 0 lo cal ∷ switch 16 0 hi ∷ []

-- hi ends, and lo continues and requests bus
abbrev resumed : List Event
resumed = preempted ++ lock 18 0 hi cal ∷ unlock 19 0 hi cal ∷ end 20 0 hi ∷ switch 21 0 lo ∷ request 22 0 lo bus ∷ []

-- far requests bus too, while lo holds it
abbrev contended : List Event
contended = resumed ++ acquire 22 0 lo bus ∷ release 23 1 far 123 ∷ switch 23 1 far ∷ request 24 1 far bus ∷ []

-- lo frees it
abbrev handed_over : List Event
handed_over = contended ++ poll 25 1 far bus ∷ freed 26 0 lo bus ∷ []

-- far gets bus in its turn, and both cores become idle
abbrev pub log : List Event
log = handed_over ++ acquire 26 1 far bus ∷ end 27 0 lo ∷ freed 28 1 far bus ∷ end 29 1 far ∷ idle 29 1 ∷ stop 30 0 ∷ []

-- after the log has stopped nothing is judged
abbrev pub after_stop : List Event
after_stop = log ++ switch 90 1 hi ∷ []

-- far is released before the log of its core begins, and runs within the slack after that
abbrev pub boots_late : List Event
boots_late = boot 0 0 ∷ release 5 0 far 105 ∷ boot 20 1 ∷ switch 22 1 far ∷ []

-- the clock of core 1 is behind by 7, and it records a release of core 0
abbrev pub skewed : Tolerances
skewed = record tolerances { skew = 7 }

abbrev pub released_elsewhere : List Event
released_elsewhere = boot 0 0 ∷ boot 1 1 ∷ release 10 1 lo 210 ∷ switch 19 0 lo ∷ []

-- ---- faults
-- after the unlock lo runs on, but the core should run hi: the next record shows it
abbrev pub runs_on : List Event
runs_on = held_up ++ unlock 15 0 lo cal ∷ request 19 0 lo bus ∷ []

-- as before, but lo acts at the last moment at which it may still run
abbrev pub acts_on : List Event
acts_on = held_up ++ unlock 15 0 lo cal ∷ request 18 0 lo bus ∷ []

-- bus is free from 26 on, and far acquires it at 30
abbrev pub acquires_late : List Event
acquires_late = handed_over ++ acquire 30 1 far bus ∷ []

-- the system has three tasks, and this is a job of a fourth
abbrev pub no_such_task : List Event
no_such_task = held_up ++ release 14 0 (job 3 0) 99 ∷ []

-- lo is a task of core 0
abbrev pub on_another_core : List Event
on_another_core = held_up ++ switch 14 1 lo ∷ []

-- far isn't released yet
abbrev pub before_its_release : List Event
before_its_release = held_up ++ switch 14 1 far ∷ []

-- hi has ended
abbrev pub after_its_end : List Event
after_its_end = resumed ++ switch 23 0 hi ∷ []

-- hi is released already
abbrev pub released_twice : List Event
released_twice = held_up ++ release 14 0 hi 64 ∷ []

-- the core switches to hi, whose level isn't above the ceiling
abbrev pub past_the_ceiling : List Event
past_the_ceiling = held_up ++ switch 14 0 hi ∷ []

-- the core switches away from lo, which waits for bus
abbrev pub away_from_a_spinner : List Event
away_from_a_spinner = resumed ++ release 22 0 (job 0 1) 72 ∷ switch 23 0 (job 0 1) ∷ []

-- hi acts while lo runs
abbrev pub acts_unscheduled : List Event
acts_unscheduled = held_up ++ lock 14 0 hi cal ∷ []

-- lo's next step is to unlock cal
abbrev pub steps_over_an_unlock : List Event
steps_over_an_unlock = held_up ++ request 14 0 lo bus ∷ []

-- lo still has a lock and an unlock left
abbrev pub ends_early : List Event
ends_early = held_up ++ end 14 0 lo ∷ []

-- far acquires bus while lo holds it
abbrev pub two_holders : List Event
two_holders = contended ++ acquire 25 1 far bus ∷ []

-- bus is free, far is first, and its poll fails
abbrev pub polls_past_its_turn : List Event
polls_past_its_turn = handed_over ++ poll 27 1 far bus ∷ []

-- ---- what a log lacks
abbrev pub from_an_unknown_core : List Event
from_an_unknown_core = boot 0 2 ∷ []

-- core 1 hasn't booted
abbrev pub without_a_start : List Event
without_a_start = boot 0 0 ∷ release 5 1 far 105 ∷ []

-- core 0 boots a second time
abbrev pub started_again : List Event
started_again = held_up ++ boot 14 0 ∷ []

-- the kernel itself says that records were lost
abbrev pub with_lost_records : List Event
with_lost_records = held_up ++ lost 14 0 ∷ []

-- record 2 is missing
abbrev pub with_a_gap : List Event
with_a_gap = numbered 1 (boot 0 0) ∷ numbered 3 (release 10 0 lo 210) ∷ []

-- the record before this one is later
abbrev pub with_a_clock_back : List Event
with_a_clock_back = held_up ++ unlock 11 0 lo cal ∷ []

-- the release of job 1 is missing
abbrev pub without_a_release : List Event
without_a_release = held_up ++ release 14 0 (job 0 2) 164 ∷ []

-- hi acquires cal, which it didn't request
abbrev pub without_a_request : List Event
without_a_request = preempted ++ acquire 17 0 hi cal ∷ []

-- five jobs are released and unfinished, one more than may be
abbrev pub with_too_many_jobs : List Event
with_too_many_jobs = held_up ++ release 13 0 (job 1 1) 213 ∷ release 14 1 far 114 ∷ release 14 1 (job 2 1) 115 ∷ []
