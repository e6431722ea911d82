use Rattle.msrp_plan.specs.Common.{ℕ, List, length, Some, jobs, IsPlan}
use Rattle.std.proofs.Common.{◌≡◌, refl, ap, arith}
use Rattle.msrp_plan.specs.Examples.PastLimits.{nine_cores, nine_held, no_unit, jobs_8193}
use Rattle.msrp_plan.proofs.worked.corners.past_limits.Goals as goal

too_many_cores : ¬ IsPlan nine_cores
too_many_cores ok = let l = ok.draft.cores.1 in absurd (omega (arith, l))

some_length : (a b : List ℕ) → Some a ≡ Some b → length a ≡ length b
some_length a b e = let s : a ≡ b = cc in ap length s

-- all nine are held after nine units
too_many_held : ¬ IsPlan nine_held
too_many_held ok =
    let at = (ok.draft.locking 0 (omega arith)).nested 9 in
    let few = at.2 in
    let many = some_length _ at.0 at.1 in
    absurd (omega (arith, few, many))

without_a_unit : ¬ IsPlan no_unit
without_a_unit ok = let l = (ok.whole 0 (omega arith)).work in absurd (omega (arith, l))

too_many_jobs : ¬ IsPlan jobs_8193
too_many_jobs ok =
    let few = ok.jobs in
    let many : length (jobs jobs_8193) ≡ 8193 = refl in
    absurd (omega (arith, few, many))

pub returns : goal.returns
returns c = record { cores = too_many_cores; held = too_many_held; unit = without_a_unit; jobs = too_many_jobs; rows = λ start. let l = start.size in absurd (omega (arith, l)) }
