use Rattle.std.proofs.Common.{◌∙◌}
use Rattle.msrp_plan.proofs.Common.{wrote-more}
use Rattle.msrp_engine.proofs.check.write_top.Goals as goal

pub returns : goal.returns
returns g c =
    let core = rw c.from.ensures at c.number.ensures in
    let number = rw (c.from-2.ensures ∙ c.top.ensures) at c.number-2.ensures in
    wrote-more _ _ _ _ _ _ c.add.ensures (wrote-more _ _ _ _ _ _ core (wrote-more _ _ _ _ _ _ number c.add-2.ensures))
