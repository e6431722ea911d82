use Rattle.msrp_plan.specs.Common.{ℕ, [], length, true, false, take}
use Rattle.std.proofs.Common.{◌≡◌, refl, ap, sym, arith, true≢false}
use Rattle.msrp_plan.specs.FifoLock.{FifoLock}
use Rattle.msrp_plan.specs.LockStates.{Agree}
use Rattle.msrp_plan.specs.Runs.{IsRun}
use Rattle.msrp_plan.specs.Examples.Notation.{job, run, queue, take as taken}
use Rattle.msrp_plan.specs.Examples.HandoverWithinATick.{plan, rows}
use Rattle.msrp_plan.specs.declared.units.Call.TheVariants.{Ask, Poll, Leave}
use Rattle.msrp_plan.proofs.Runs.Verdicts.{good_is_run, run_before}
use Rattle.msrp_plan.proofs.laws.broken.broken_locks.Goals as goal

legal : IsRun plan rows
legal = good_is_run _ _ refl

by_replies : ¬ Agree plan [] (queue 0 0 (job 0 0) 0) 0 (Ask 0)
by_replies h =
    let reply : false ≡ true = h.replies (run_before plan [] rows legal) (record { tick = refl; core = refl; own = refl; chosen = refl; action = refl }) (λ among. among, refl) in
    true≢false (sym reply)

by_answers : ¬ Agree plan [] (taken 0 0 (job 0 0) 0) 0 (Poll false)
by_answers h = (h.answers (run_before plan (take 1 rows) _ legal) tt).0

by_next : ¬ Agree plan (take 2 rows) (run 1 0 (job 0 0)) 0 Leave
by_next h =
    let e : ◌≡◌ {A = ℕ} 2 1 = ap (λ (lock : FifoLock). length lock.queue) (h.next (run_before plan (take 3 rows) _ legal) (refl, refl)) in
    absurd (omega (arith, e))

pub returns : goal.returns
returns c = record { replies = by_replies; answers = by_answers; next = by_next }
