use Rattle.std.proofs.Common.{◌≡◌, ◌-◌}
use Rattle.msrp_plan.specs.Common.{length}
use Rattle.std.proofs.lemmas.List.{length-map}
use Rattle.std.proofs.lemmas.Result.{on_ok_weaker, on_err_weaker}
use Rattle.msrp_plan.specs.Building.{with_more_ticks}
use Rattle.msrp_plan.specs.Inside.Tasks.{task_view}
use Rattle.msrp_plan.proofs.Building.Stored.{changed_at, same_at}
use Rattle.msrp_plan.proofs.tasks.add_release.Goals as goal

pub returns-clause-added : goal.returns-clause-added
returns-clause-added c =
    let es = c.args.tasks.now.entries in
    let place : c.len-last.result ≡ length es = c.len-last.ensures.len in
    let size = length-map es task_view in
    on_ok_weaker c.add_release.result (λ more. rw (size, ← place) (changed_at es (c.len-last.result - 1) c.index_mut-newest.result.now c.add_release.new.self (with_more_ticks c.args.tick) c.index_mut-newest.ensures.value more)) c.add_release.ensures.added

pub returns-clause-kept : goal.returns-clause-kept
returns-clause-kept c =
    on_err_weaker c.add_release.result (same_at c.args.tasks.now.entries (c.len-last.result - 1) c.index_mut-newest.result.now c.add_release.new.self c.index_mut-newest.ensures.value) c.add_release.ensures.kept
