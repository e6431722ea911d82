use Rattle.std.proofs.Common.{◌++◌}
use Rattle.msrp_plan.proofs.Common.{[], arith, wrote-more, wrote-nothing}
use Rattle.msrp_text.specs.Writing.{steps_before, steps_text}
use Rattle.msrp_text.proofs.Written.{named_unit, written_all, written_more, written_none, wrote-as}
use Rattle.msrp_text.proofs.writing.write_units.Goals as goal

pub loop-place-init : goal.loop-place-init
loop-place-init g c = ([], wrote-nothing _ _, written_none _ _)

pub write_unit-run-requires-clause-named : goal.write_unit-run-requires-clause-named
write_unit-run-requires-clause-named g c =
    named_unit c.args.plan.now _ c.loop-place.place c.unit.result (c.requires.plan.draft.locking c.args.task.0 c.requires.task) c.unit.ensures

pub write_unit-run-requires-clause-room : goal.write_unit-run-requires-clause-room
write_unit-run-requires-clause-room g c = let h = c.loop-place.invariant.2.waiting in omega (arith, h)

pub loop-place-preserved : goal.loop-place-preserved
loop-place-preserved g c =
    let before = c.loop-place.invariant in
    let plan = c.args.plan.now in
    let more = written_more plan _ c.loop-place.place c.loop-place.run before.0 c.unit.result c.unit.ensures before.2 in
    (before.0 ++ steps_text plan (steps_before c.loop-place.run c.unit.result), wrote-more _ _ _ _ _ _ before.1 c.write_unit-run.ensures.text, rw c.write_unit-run.ensures.run more)

pub returns : goal.returns
returns g c =
    let before = c.loop-place.invariant in
    let whole = written_all c.args.plan.now _ c.loop-place.place c.loop-place.run before.0 (omega (arith, c.units-place-end.ensures)) before.2 in
    wrote-as _ _ _ _ _ whole (wrote-more _ _ _ _ _ _ before.1 c.write_run.ensures)
