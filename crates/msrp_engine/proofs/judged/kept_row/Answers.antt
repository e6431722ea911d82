use Rattle.std.proofs.Common.{◌%◌}
use Rattle.msrp_plan.proofs.Common.{None, arith, get_or_read, mod_below}
use Rattle.msrp_engine.proofs.judged.kept_row.Goals as goal

pub returns : goal.returns
returns c =
    let low = mod_below c.args.core.0 8 (omega arith) in
    let size = c.requires in
    get_or_read c.args.lasts.now (c.args.core.0 % 8) c.index-lasts-core.result (omega (arith, low, size)) c.index-lasts-core.is None
