use Rattle.std.proofs.Common.{◌≡◌, ◌∙◌}
use Rattle.msrp_plan.proofs.Common.{true, false, [], ap, sym, arith, get_or_from_slice_get, is_global, PlanModel, wrote-more}
use Rattle.msrp_text.proofs.Written.{wrote-as}
use Rattle.msrp_engine.proofs.CheckRecords.{global-is, local-ceiling, local-is}
use Rattle.msrp_engine.proofs.check.write_ceiling.Goals as goal

pub ceiling-requires-clause-core : goal.ceiling-requires-clause-core
ceiling-requires-clause-core g c =
    let cores = c.requires.plan.draft.cores.0 in
    let same = ap (λ (plan : PlanModel). plan.cores) c.requires.levels in
    omega (arith, cores, same)

pub returns-then-is_global : goal.returns-then-is_global
returns-then-is_global g c =
    let plan : PlanModel = c.args.plan.now in
    let named = c.as_bytes.ensures.value ∙ sym (get_or_from_slice_get plan.resources c.args.res.0 c.res_name.result.now [] c.res_name.ensures) in
    let name = rw named at c.field.ensures in
    let global : is_global plan c.args.res.0 ≡ true = sym (c.is_global.ensures ∙ ap (λ p. is_global p c.args.res.0) c.requires.levels) ∙ c.if-is_global.true in
    wrote-as _ _ _ _ _ (global-is plan c.args.res.0 global) (wrote-more _ _ _ _ _ _ c.add.ensures (wrote-more _ _ _ _ _ _ name c.add-then-is_global.ensures))

pub returns-else-is_global : goal.returns-else-is_global
returns-else-is_global g c =
    let plan : PlanModel = c.args.plan.now in
    let named = c.as_bytes.ensures.value ∙ sym (get_or_from_slice_get plan.resources c.args.res.0 c.res_name.result.now [] c.res_name.ensures) in
    let name = rw named at c.field.ensures in
    let local : is_global plan c.args.res.0 ≡ false = sym (c.is_global.ensures ∙ ap (λ p. is_global p c.args.res.0) c.requires.levels) ∙ c.if-is_global.false in
    let number = rw (c.from.ensures ∙ (c.ceiling.ensures ∙ local-ceiling c.args.levels.now plan c.args.res.0 0 c.requires.levels local)) at c.number.ensures in
    let rest = wrote-more _ _ _ _ _ _ c.field-else-is_global.ensures (wrote-more _ _ _ _ _ _ number c.add-else-is_global.ensures) in
    wrote-as _ _ _ _ _ (local-is plan c.args.res.0 local) (wrote-more _ _ _ _ _ _ c.add.ensures (wrote-more _ _ _ _ _ _ name rest))
