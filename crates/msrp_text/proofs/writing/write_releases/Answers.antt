use Rattle.std.proofs.Common.{◌<◌, ◌∙◌}
use Rattle.msrp_plan.proofs.Common.{refl, map, length, ap, sym, subst, arith, task_at, listed_ticks, wrote-nothing}
use Rattle.std.specs.Option.{IsSome, unwrap_or}
use Rattle.msrp_text.specs.PlanText.{records_text, release_record}
use Rattle.msrp_text.proofs.Written.{listed_tick, wrote-all, wrote-one}
use Rattle.msrp_text.proofs.writing.write_releases.Goals as goal

pub loop-k-init : goal.loop-k-init
loop-k-init g c = wrote-nothing _ _

pub release-requires-clause-released : goal.release-requires-clause-released
release-requires-clause-released g c =
    let times = (task_at c.args.plan.now c.args.task.0).times in
    subst IsSome (sym (listed_tick times c.loop-k.k (omega (arith, c.requires.count)))) refl

pub loop-k-preserved : goal.loop-k-preserved
loop-k-preserved g c =
    let times = (task_at c.args.plan.now c.args.task.0).times in
    let within : c.loop-k.k < length (listed_ticks times) = omega (arith, c.requires.count) in
    let tick = c.release.ensures.value ∙ ap (λ o. unwrap_or o c.args.plan.now.ticks) (listed_tick times c.loop-k.k within) in
    wrote-one _ _ _ _ release_record (listed_ticks times) c.loop-k.k 0 within c.loop-k.invariant (rw tick at c.write_number.ensures)

pub returns : goal.returns
returns g c =
    let times = (task_at c.args.plan.now c.args.task.0).times in
    wrote-all _ _ _ (λ ticks. records_text (map release_record ticks)) (listed_ticks times) c.loop-k.k (omega (arith, c.requires.count)) c.loop-k.invariant
