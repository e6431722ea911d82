use Rattle.std.proofs.Common.{◌≡◌, ◌&&◌, ◌∙◌}
use Rattle.msrp_plan.proofs.Common.{ℕ, Bool, max, not, sym, take, arith, is_global, local_ceiling, task_at, holds_after}
use Rattle.msrp_system.proofs.GatheredTasks.{greatest_range_with, greatest_range_kept}
use Rattle.msrp_system.proofs.systems.System.highest_local.Goals as goal
use Rattle.msrp_system.proofs.systems.System.highest_local.Goals.{then-holds_local, else-holds_local}

pub loop-r-preserved : goal.loop-r-preserved
loop-r-preserved c =
    let system = c.args.self.now in
    let r = c.loop-r.r in
    let p : ℕ → Bool = λ g. not (is_global system g) && holds_after (take c.args.step (task_at system c.args.task.0).units) g in
    elim c.if-holds_local.branch [
      | then-holds_local w ↦
          let new : c.if-holds_local.highest ≡ max c.loop-r.highest (local_ceiling system r) = omega (arith, w.highest-is, w.max-highest.ensures, w.local_ceiling.ensures) in
          greatest_range_with (local_ceiling system) p r c.loop-r.highest c.if-holds_local.highest c.loop-r.invariant (sym c.holds_local.ensures ∙ w.if-holds_local.true) new
      | else-holds_local w ↦ w.highest-is ∙ greatest_range_kept (local_ceiling system) p r c.loop-r.highest c.loop-r.invariant (sym c.holds_local.ensures ∙ w.if-holds_local.false)
    ]
