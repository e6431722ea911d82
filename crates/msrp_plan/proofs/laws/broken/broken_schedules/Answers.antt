use Rattle.msrp_plan.specs.Common.{true, false, Some, None, [], take, ℕ, Contains, units, release, jobs, jobs_on, is_row_of, is_finished, is_amid, section_of}
use Rattle.msrp_plan.specs.declared.ids.JobId.{JobId}
use Rattle.msrp_plan.specs.declared.rows.Kind.TheVariants.{Idle, Run}
use Rattle.std.proofs.Common.{◌≡◌, ◌≤◌, ◌&&◌, ◌==◌, refl, sym, ◌∙◌, arith}
use Rattle.std.proofs.Math.Bool.{true≢false}
use Rattle.std.proofs.lemmas.Bool.{and_parts}
use Rattle.std.proofs.lemmas.List.Elements.{All-from_recursion, All-contains}
use Rattle.msrp_plan.specs.Blocking.{BlockedByBegunSections, BlockedByOneSection}
use Rattle.msrp_plan.specs.Scheduling.{RunsReleased, WorkConservation}
use Rattle.msrp_plan.specs.Examples.Notation.{job, run}
use Rattle.msrp_plan.specs.Examples.TwoHeads.{plan, by_declaration}
use Rattle.msrp_plan.specs.Examples.JobsOfOneTask as jobs_of_one_task
use Rattle.msrp_plan.proofs.Blocking.Sections.{outside_first}
use Rattle.msrp_plan.proofs.laws.broken.broken_schedules.Goals as goal

-- y, which x goes before
there : Contains (jobs plan) (job 1 0)
there = (1, omega arith, refl)

none_some : (k : JobId) → None ≡ Some k → ⊥
none_some k h = cc

-- nobody runs before the first row
begun : ¬ BlockedByBegunSections plan by_declaration
begun h = let p = h.0 (job 1 0) there refl in none_some p.0 p.1.runs

-- and nobody stands in a section
one_section : ¬ BlockedByOneSection plan by_declaration
one_section h =
    let p = h (job 1 0) there in
    let row = and_parts (is_row_of p.0 (run 0 0 (job 0 0))) (is_amid plan [] p.0 && (section_of plan [] p.0 == p.1)) (p.2.0 refl) in
    let amid = and_parts (is_amid plan [] p.0) (section_of plan [] p.0 == p.1) row.1 in
    true≢false (sym amid.0 ∙ outside_first plan (units plan p.0))

released : ¬ RunsReleased jobs_of_one_task.plan jobs_of_one_task.too_early
released h = let l : 3 ≤ 2 = h.1.1.0 (job 0 1) refl in absurd (omega (arith, l))

idles : ¬ WorkConservation jobs_of_one_task.plan jobs_of_one_task.never_started
idles h =
    let on : Contains (jobs_on jobs_of_one_task.plan 0) (job 0 3) = (3, omega arith, refl) in
    let finished : false ≡ true = h.1.1.1.1.1.1.1.1.1.0.0 refl (job 0 3) on (omega arith) in
    true≢false (sym finished)

-- in tick 2 the first job is finished, and the others aren't released
works : ¬ WorkConservation jobs_of_one_task.plan (take 3 jobs_of_one_task.too_early)
works h = never (h.1.1.0.1 all_finished)
  where
    Finished : JobId → Type 0
    Finished j = release jobs_of_one_task.plan j ≤ 2 → is_finished jobs_of_one_task.plan (take 2 jobs_of_one_task.too_early) j ≡ true

    each : (k : ℕ) → 3 ≤ release jobs_of_one_task.plan (job 0 k) → Finished (job 0 k)
    each k l r = absurd (omega (arith, l, r))

    all_finished : (j : JobId) → Contains (jobs_on jobs_of_one_task.plan 0) j → Finished j
    all_finished j there = All-contains Finished (jobs_on jobs_of_one_task.plan 0) j (All-from_recursion Finished (jobs_on jobs_of_one_task.plan 0) (λ _. refl, (each 1 (omega arith), (each 2 (omega arith), (each 3 (omega arith), tt))))) there

    never : Run ≡ Idle → ⊥
    never e = cc

pub returns : goal.returns
returns c = record { begun = begun; one_section = one_section; released = released; idles = idles; works = works }
