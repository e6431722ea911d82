use Rattle.msrp_plan.specs.Common.{ℕ, List, [], false, None, Option, Some, PlanModel, done, EachAfter, is_amid, section_of}
use Rattle.msrp_plan.specs.declared.ids.JobId.{JobId}
use Rattle.msrp_plan.specs.declared.rows.Row.{Row}
use Rattle.std.proofs.Common.{◌≡◌, ◌<◌}
use Rattle.msrp_plan.proofs.Common.{subst, ap, arith, true≢false}
use Rattle.msrp_plan.specs.Blocking.{IsBegun}
use Rattle.msrp_plan.specs.Examples.Notation.{job}
use Rattle.msrp_plan.specs.Examples.BlockedHead as blocked_head
use Rattle.msrp_plan.specs.Examples.HandoverWithinATick as handover_within_a_tick
use Rattle.msrp_plan.specs.Examples.GlobalInsideLocal as global_inside_local
use Rattle.msrp_plan.specs.Examples.BrokenLaws.{after_another_job, queued_later, worked_before}
use Rattle.msrp_plan.proofs.Lists.Prefixes.{each_at}
use Rattle.msrp_plan.proofs.laws.broken.broken_beginnings.Goals as goal

-- the row isn't the first one of such a section
abbrev IsNotFirst : PlanModel → List Row → JobId → ℕ → List Row → Row → Type 0
IsNotFirst plan pre k t before r = r.job ≡ Some k → is_amid plan before k ≡ false → done k before ≡ section_of plan pre k → r.tick < t → ⊥

not_begun : (plan : PlanModel) (pre : List Row) (k : JobId) (t : ℕ) → EachAfter (IsNotFirst plan pre k t) [] pre → ¬ IsBegun plan pre k t
not_begun plan pre k t each h = each_at (IsNotFirst plan pre k t) [] h.before h.first h.after (subst (EachAfter (IsNotFirst plan pre k t) []) h.rows each) h.job h.outside h.unit h.early

abbrev task_number : Option JobId → ℕ
task_number (Some j) = j.task.0
task_number None = 0

two : Some (job 1 0) ≡ Some (job 0 0) → ⊥
two e = let n : ◌≡◌ {A = ℕ} 1 0 = ap task_number e in omega (arith, n)

by_job : ¬ IsBegun blocked_head.plan after_another_job (job 0 0) 1
by_job = not_begun blocked_head.plan after_another_job (job 0 0) 1 (λ of _ _ _. two of, (λ _ _ _ early. omega (arith, early), tt))

by_outside : ¬ IsBegun handover_within_a_tick.plan queued_later (job 0 0) 3
by_outside = not_begun handover_within_a_tick.plan queued_later (job 0 0) 3 (λ _ _ _ early. omega (arith, early), (λ _ outside _ _. true≢false outside, tt))

by_unit : ¬ IsBegun global_inside_local.plan worked_before (job 0 0) 1
by_unit = not_begun global_inside_local.plan worked_before (job 0 0) 1 (λ _ _ unit _. let e : ◌≡◌ {A = ℕ} 0 1 = unit in omega (arith, e), (λ _ _ _ early. omega (arith, early), tt))

pub returns : goal.returns
returns c = record { job = by_job; outside = by_outside; unit = by_unit }
