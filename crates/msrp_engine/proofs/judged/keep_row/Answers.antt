use Rattle.std.proofs.Common.{◌%◌, ◌∙◌}
use Rattle.msrp_plan.proofs.Common.{None, Some, ap, arith, get_or-set_other, get_or-set_same, mod_below, refl}
use Rattle.msrp_plan.proofs.Legality.SameRow.{same_row}
use Rattle.msrp_plan.specs.declared.rows.Row.{Row}
use Rattle.msrp_engine.proofs.judged.keep_row.Goals as goal

pub returns-clause-here : goal.returns-clause-here
returns-clause-here c =
    let low = mod_below c.args.core.0 8 (omega arith) in
    let size = c.requires in
    get_or-set_same c.args.lasts.now (c.args.core.0 % 8) _ None (omega (arith, low, size)) ∙ ap (λ (r : Row). Some r) (same_row _ c.args.row refl)

pub returns-clause-others : goal.returns-clause-others
returns-clause-others c = λ n other. get_or-set_other c.args.lasts.now (c.args.core.0 % 8) (n % 8) _ None other
