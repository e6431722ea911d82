use Rattle.std.proofs.Common.{◌∙◌}
use Rattle.msrp_plan.proofs.Common.{sym, subst, IfOk}
use Rattle.msrp_audit.specs.Inside.Pieces.{broken_in, TellsFirst}
use Rattle.msrp_audit.proofs.Merging.{core_known, resource_known}
use Rattle.msrp_audit.proofs.pieces.judge.Goals as goal

pub judge_core-requires-clause-core : goal.judge_core-requires-clause-core
judge_core-requires-clause-core c = core_known c.args.plan.now c.args.number c.in-Core.core (sym c.piece_at.ensures ∙ c.in-Core.is)

pub judge_resource-requires-clause-resource : goal.judge_resource-requires-clause-resource
judge_resource-requires-clause-resource c = resource_known c.args.plan.now c.args.number c.in-Resource.res c.requires.number (sym c.piece_at.ensures ∙ c.in-Resource.is)

pub returns-in-Core : goal.returns-in-Core
returns-in-Core c = subst (λ p. IfOk c.judge_core.result (TellsFirst c.args.plan.now (broken_in c.args.plan.now p) c.args.rows.now)) (sym c.in-Core.is ∙ c.piece_at.ensures) c.judge_core.ensures

pub returns-in-Turns : goal.returns-in-Turns
returns-in-Turns c = subst (λ p. TellsFirst c.args.plan.now (broken_in c.args.plan.now p) c.args.rows.now c.judge_turns.result) (sym c.in-Turns.is ∙ c.piece_at.ensures) c.judge_turns.ensures

pub returns-in-Resource : goal.returns-in-Resource
returns-in-Resource c = subst (λ p. IfOk c.judge_resource.result (TellsFirst c.args.plan.now (broken_in c.args.plan.now p) c.args.rows.now)) (sym c.in-Resource.is ∙ c.piece_at.ensures) c.judge_resource.ensures
