use Rattle.msrp_plan.proofs.Common.{ap, eqb-true, sym}
use Rattle.std.proofs.Common.{◌∙◌, w32}
use Rattle.std.specs.Int.{to_le_bytes}
use Rattle.std.proofs.lemmas.Nat.{le_bytes_4}
use Rattle.msrp_text.proofs.front.is_same_4.Goals as goal

pub returns-clause-same : goal.returns-clause-same
returns-clause-same c = λ yes.
    sym (le_bytes_4 c.args.chunk.now _ c.told-chunk c.fits-chunk c.from_le_bytes.ensures)
    ∙ ap (to_le_bytes w32) (eqb-true c.from_le_bytes.result c.from_le_bytes-2.result yes)
    ∙ le_bytes_4 c.args.other.now _ c.told-other c.fits-other c.from_le_bytes-2.ensures
