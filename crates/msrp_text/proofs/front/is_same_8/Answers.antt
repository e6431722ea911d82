use Rattle.msrp_plan.proofs.Common.{ap, eqb-true, sym}
use Rattle.std.proofs.Common.{◌∙◌, w64}
use Rattle.std.specs.Int.{to_le_bytes}
use Rattle.std.proofs.lemmas.Nat.{le_bytes_8}
use Rattle.msrp_text.proofs.front.is_same_8.Goals as goal

pub returns-clause-same : goal.returns-clause-same
returns-clause-same c = λ yes.
    sym (le_bytes_8 c.args.chunk.now _ c.told-chunk c.fits-chunk c.from_le_bytes.ensures)
    ∙ ap (to_le_bytes w64) (eqb-true c.from_le_bytes.result c.from_le_bytes-2.result yes)
    ∙ le_bytes_8 c.args.other.now _ c.told-other c.fits-other c.from_le_bytes-2.ensures
