-- The jobs of a plan, by their tasks and numbers.
use Rattle.std.proofs.Common.{◌+◌, ◌<◌, ◌≤◌, ◌==◌}
use Rattle.msrp_plan.proofs.Common.{ℕ, zero, suc, List, length, map, subst, sym, arith, inl, inr, Contains, flat_map, range_with_len, cases_Bool, eqb-false, Contains-append_left, Contains-append_right, length-map-range_with_len, get_or-map-range_with_len, PlanModel, jobs, jobs_of, job_at, IsPlan, jobs_of_are}
use Rattle.msrp_plan.specs.declared.ids.JobId.{JobId}
use Rattle.std.proofs.lemmas.Bool.{eqb-true}

-- what one of the lists holds, all of them hold
flat_in : (f : ℕ → List JobId) (t a m : ℕ) (x : JobId) → a ≤ t → t < a + m → Contains (f t) x → Contains (flat_map f (range_with_len a m)) x
flat_in f t a zero x h l there = absurd (omega (arith, h, l))
flat_in f t a (suc m) x h l there = elim (cases_Bool (a == t)) [
  | inl same ↦ Contains-append_left (f a) (flat_map f (range_with_len (a + 1) m)) x (subst (λ n. Contains (f n) x) (sym (eqb-true a t same)) there)
  | inr other ↦ let ne = eqb-false a t other in Contains-append_right (f a) (flat_map f (range_with_len (a + 1) m)) x (flat_in f t (a + 1) m x (omega (arith, h, ne)) (omega (arith, l)) there)
]

-- each job of a task is one of the plan
pub job_in : (plan : PlanModel) (t k : ℕ) → IsPlan plan → t < length plan.tasks → k < length (jobs_of plan t) → Contains (jobs plan) (job_at t k)
job_in plan t k ok task l =
    let n = length (jobs_of plan t) in
    let size = length-map-range_with_len (job_at t) 0 n in
    let own : Contains (map (job_at t) (range_with_len 0 n)) (job_at t k) = (k, omega (arith, size, l), get_or-map-range_with_len (job_at t) 0 n k k (job_at t k) l (omega arith)) in
    flat_in (jobs_of plan) t 0 (length plan.tasks) (job_at t k) (omega arith) (omega (arith, task)) (subst (λ js. Contains js (job_at t k)) (sym (jobs_of_are plan ok t)) own)
