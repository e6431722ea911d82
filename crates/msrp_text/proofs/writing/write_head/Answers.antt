use Rattle.std.proofs.Common.{◌∙◌}
use Rattle.msrp_plan.proofs.Common.{sym, append-nil, wrote-more}
use Rattle.msrp_text.proofs.Written.{wrote-as}
use Rattle.msrp_text.proofs.writing.write_head.Goals as goal

pub returns-clause-wrote : goal.returns-clause-wrote
returns-clause-wrote g c =
    let first = rw (c.version_record.ensures, c.version_of.ensures) at c.add.ensures in
    let second = rw (c.from.ensures ∙ c.cores.ensures.value) at c.write_number.ensures in
    let third = rw (c.from-2.ensures ∙ c.ticks.ensures.value) at c.write_number-2.ensures in
    wrote-more _ _ _ _ _ _ first (wrote-more _ _ _ _ _ _ second (wrote-as _ _ _ _ _ (sym (append-nil _)) third))
