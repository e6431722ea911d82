use Rattle.msrp_plan.specs.Common.{[], Contains, jobs, IsWait}
use Rattle.std.proofs.Common.{◌≤◌, ◌∷◌, refl, arith}
use Rattle.msrp_plan.specs.Laws.{BoundedOvertaking, BoundedSpinning, ShortQueues}
use Rattle.msrp_plan.specs.Blocking.{BoundedBlocking, BoundedSections}
use Rattle.msrp_plan.specs.Examples.Notation.{job, take, queue, spin}
use Rattle.msrp_plan.specs.Examples.BlockedHead as blocked_head
use Rattle.msrp_plan.specs.Examples.HandoverATickLater.{plan}
use Rattle.msrp_plan.specs.Examples.BrokenLaws.{overtaken_twice, third_in_the_queue, four_spins, long_section, long_blocking}
use Rattle.msrp_plan.proofs.laws.broken.broken_bounds.Goals as goal

overtaking : ¬ BoundedOvertaking plan overtaken_twice
overtaking h =
    let wait : IsWait (queue 0 1 (job 1 0) 0) (take 0 0 (job 0 0) 0 ∷ take 1 0 (job 0 0) 0 ∷ []) (job 1 0) 0 = record { job = refl; resource = refl; joins = refl; waits = refl } in
    let l : 2 ≤ 1 = h [] (queue 0 1 (job 1 0) 0) (take 0 0 (job 0 0) 0 ∷ take 1 0 (job 0 0) 0 ∷ []) [] (job 1 0) 0 refl wait in
    absurd (omega (arith, l))

queues : ¬ ShortQueues plan third_in_the_queue
queues h = let l : 2 ≤ 1 = h.1.1.0 0 refl refl in absurd (omega (arith, l))

spinning : ¬ BoundedSpinning plan four_spins
spinning h =
    let since = spin 1 1 (job 1 0) 0 ∷ spin 2 1 (job 1 0) 0 ∷ spin 3 1 (job 1 0) 0 ∷ spin 4 1 (job 1 0) 1 ∷ [] in
    let wait : IsWait (queue 0 1 (job 1 0) 0) since (job 1 0) 0 = record { job = refl; resource = refl; joins = refl; waits = refl } in
    let l : 4 ≤ 3 = h [] (queue 0 1 (job 1 0) 0) since [] (job 1 0) 0 refl wait in
    absurd (omega (arith, l))

sections : ¬ BoundedSections blocked_head.plan long_section
sections h = let l : 14 ≤ 13 = h (job 0 0) 0 in absurd (omega (arith, l))

blocking : ¬ BoundedBlocking blocked_head.plan long_blocking
blocking h =
    let there : Contains (jobs blocked_head.plan) (job 1 0) = (1, omega arith, refl) in
    let l : 14 ≤ 13 = h (job 1 0) there in
    absurd (omega (arith, l))

pub returns : goal.returns
returns c = record { overtaking = overtaking; queues = queues; spinning = spinning; sections = sections; blocking = blocking }
