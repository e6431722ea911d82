use Rattle.std.proofs.Common.{◌+◌, ◌∙◌}
use Rattle.msrp_plan.proofs.Common.{arith, length-set}
use Rattle.msrp_board.proofs.End.{copied}
use Rattle.msrp_board.proofs.settled.words_of.Goals as goal

pub loop-g-preserved : goal.loop-g-preserved
loop-g-preserved c = let t = c.loop-g-test.true in let s = c.requires.size.1 in let l = c.loop-g.invariant.0 in (length-set c.loop-g.words c.loop-g.g c.word.result ∙ l, copied c.loop-g.words _ c.loop-g.g (c.loop-g.g + 1) c.word.result (omega arith) (omega (arith, t, s, l)) c.word.ensures c.loop-g.invariant.1)
