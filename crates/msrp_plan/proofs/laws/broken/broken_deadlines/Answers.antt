use Rattle.msrp_plan.specs.Common.{true, false, take, Contains, is_before, jobs_on}
use Rattle.msrp_plan.specs.declared.ids.JobId.{JobId}
use Rattle.std.proofs.Common.{◌≡◌, ◌≢◌, ◌≤◌, ◌<◌, refl, sym, ap, arith}
use Rattle.std.proofs.Math.Bool.{true≢false}
use Rattle.std.proofs.lemmas.List.Elements.{All-from_recursion, All-contains}
use Rattle.msrp_plan.specs.Scheduling.{EarliestDeadlineFirst}
use Rattle.msrp_plan.specs.Examples.Notation.{job, run, changed}
use Rattle.msrp_plan.specs.Examples.BlockedByTheCeiling as blocked_by_the_ceiling
use Rattle.msrp_plan.specs.Examples.EqualDeadlines as equal_deadlines
use Rattle.msrp_plan.specs.Examples.PreemptsASection as preempts_a_section
use Rattle.msrp_plan.specs.Examples.TwoHeads as two_heads
use Rattle.msrp_plan.proofs.laws.broken.broken_deadlines.Goals as goal

two : job 1 0 ≢ job 0 0
two e = let n = ap (λ (i : JobId). i.task.0) e in absurd (omega (arith, n))

first : ¬ EarliestDeadlineFirst two_heads.plan (take 1 two_heads.by_declaration)
first h =
    let p : false ≡ true = ((h.0 (job 0 0) refl).0 refl).first (job 1 0) (record { on = (1, omega arith, refl); released = omega arith; unstarted = refl }) two in
    true≢false (sym p)

preempts : ¬ EarliestDeadlineFirst equal_deadlines.plan (take 3 equal_deadlines.preempted)
preempts h =
    let p : false ≡ true = ((h.1.1.0 (job 1 0) refl).0 refl).preempts (job 0 0) (record { on = (0, omega arith, refl); started = refl; unfinished = refl }) in
    true≢false (sym p)

above : ¬ EarliestDeadlineFirst blocked_by_the_ceiling.plan (take 2 blocked_by_the_ceiling.past_the_ceiling)
above h = let l : 2 < 2 = ((h.1.0 (job 1 0) refl).0 refl).above in absurd (omega (arith, l))

goes_on : ¬ EarliestDeadlineFirst preempts_a_section.plan (take 3 (changed preempts_a_section.rows 3 (run 2 0 (job 0 0))))
goes_on h =
    let p : true ≡ false = ((h.1.1.0 (job 0 0) refl).1 refl).first (job 1 0) (record { on = (1, omega arith, refl); started = refl; unfinished = refl }) in
    true≢false p

-- no job comes before hi
hi_first : (j : JobId) → Contains (jobs_on preempts_a_section.plan 0) j → is_before preempts_a_section.plan j (job 1 0) ≡ false
hi_first j there =
    let each = All-from_recursion (λ i. is_before preempts_a_section.plan i (job 1 0) ≡ false) (jobs_on preempts_a_section.plan 0) (refl, (refl, tt)) in
    All-contains (λ i. is_before preempts_a_section.plan i (job 1 0) ≡ false) (jobs_on preempts_a_section.plan 0) j each there

blocked : ¬ EarliestDeadlineFirst preempts_a_section.plan (take 2 preempts_a_section.without_preemption)
blocked h =
    let l : 2 ≤ 1 = ((h.1.0 (job 0 0) refl).1 refl).blocked (job 1 0) (record { ready = record { on = (1, omega arith, refl); released = omega arith; unstarted = refl }; first = λ j ready. hi_first j ready.on }) refl in
    absurd (omega (arith, l))

pub returns : goal.returns
returns c = record { first = first; preempts = preempts; above = above; goes_on = goes_on; blocked = blocked }
