-- Before the first row.
use Rattle.std.proofs.Common.{◌≡◌, ◌∙◌}
use Rattle.msrp_plan.proofs.Common.{ℕ, false, List, [], Some, refl, ap, sym, subst, arith, inl, inr, length, map, nat_lt, slice_get, All, range_with_len, IsNonDecreasingBy, IsPermutation, true≢false, cases_lt, le-ltb, All-weaker, All-permutation, IsPermutation-map, div_below, PlanModel, task_at, jobs_of, job_at, IsPlan}
use Rattle.msrp_report.proofs.Common.{AreActive, AreReleases, AreTallies, HasTallied, IsJobTally, IsNextRelease, IsTaskTally, JobId, JobTally, NextRelease, Over, Tallies, TaskTally, count_of, release_or_end, uncounted}
use Rattle.msrp_report.proofs.Releases.{task_of, tick_of}

-- a job that isn't released
abbrev pub untold : JobTally
untold = record { count = uncounted; blocking = Over 0 }

pub job_untold : (plan : PlanModel) (j : JobId) → IsJobTally plan [] false j untold
unfolding count_of
job_untold plan j = record { count = refl; blocking = record { count = refl; ahead = λ _. (refl, refl); nobody = λ e. absurd (true≢false (sym e)) } }

pub task_untold : (plan : PlanModel) (t : ℕ) (x : TaskTally) → length x.jobs.items ≡ length (jobs_of plan t) → x.units ≡ length (task_at plan t).units → x.released ≡ 0 → ((k : ℕ) (s : JobTally) → slice_get x.jobs.items k ≡ Some s → s ≡ untold) → IsTaskTally plan [] 0 t x
task_untold plan t x size units released each = record {
  size = size;
  units = units;
  fits = omega (arith, released);
  past = λ k h. absurd (omega (arith, h, released));
  later = omega arith;
  each = λ k s has. subst (IsJobTally plan [] (nat_lt k x.released) (job_at t k)) (sym (each k s has)) (subst (λ b. IsJobTally plan [] b (job_at t k) untold) (sym (le-ltb k x.released (omega (arith, released)))) (job_untold plan (job_at t k)));
}

-- none of its jobs is released
unreleased : (plan : PlanModel) (t : ℕ) (x : TaskTally) → IsTaskTally plan [] 0 t x → x.released ≡ 0
unreleased plan t x is = elim (cases_lt 0 x.released) [
  | inl some ↦ let past = is.past 0 some in absurd (omega (arith, past))
  | inr none ↦ omega (arith, none)
]

-- so its first release is the next
pub releases_first : (plan : PlanModel) (releases sorted : List NextRelease) (tasks : List TaskTally) → map task_of releases ≡ range_with_len 0 (length plan.tasks) → All (λ r. r.tick ≡ release_or_end plan r.task.0 0) releases → IsPermutation releases sorted → IsNonDecreasingBy tick_of sorted → AreTallies plan [] (λ _. 0) tasks → AreReleases plan tasks sorted
releases_first plan releases sorted tasks once own same up are = record {
  own = All-permutation (IsNextRelease plan tasks) releases sorted same (All-weaker (λ r. r.tick ≡ release_or_end plan r.task.0 0) (IsNextRelease plan tasks) (λ r is x has. is ∙ ap (release_or_end plan r.task.0) (sym (unreleased plan r.task.0 x (are.each r.task.0 x has)))) releases own);
  once = subst (λ l. IsPermutation l (map task_of sorted)) once (IsPermutation-map task_of releases sorted same);
  rising = up;
}

pub tallies_untold : (plan : PlanModel) (t : Tallies) → IsPlan plan → t.begun ≡ 0 → length t.tasks.items ≡ length plan.tasks → ((k : ℕ) (x : TaskTally) → slice_get t.tasks.items k ≡ Some x → IsTaskTally plan [] 0 k x) → (AreTallies plan [] (λ _. 0) t.tasks.items → AreReleases plan t.tasks.items t.releases.items) → AreActive plan [] t.active.items → HasTallied plan [] t
tallies_untold plan t ok begun size each releases active =
    let are : AreTallies plan [] (λ _. 0) t.tasks.items = record { start = record { size = omega arith; each = tt }; size = size; each = each } in
    record {
      begun = record { early = tt; least = let cores = ok.draft.cores in let z = div_below 0 plan.cores 1 (omega (arith, cores)) (omega (arith, cores)) in omega (arith, begun, z); most = omega (arith, begun) };
      tallies = subst (λ n. AreTallies plan [] (λ _. n) t.tasks.items) (sym begun) are;
      releases = releases are;
      active = active;
    }
