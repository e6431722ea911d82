use Rattle.msrp_plan.proofs.Common.{refl, take}
use Rattle.msrp_text.proofs.AheadBytes.{taken-bytes}
use Rattle.msrp_text.proofs.LineEnds.{line-in, line-taken, taken-last}
use Rattle.msrp_text.proofs.PlainLines.{taken-line}
use Rattle.msrp_text.proofs.lines.Lines.take.Goals as goal

pub returns-clause-gives : goal.returns-clause-gives
returns-clause-gives g c = λ line ended plain left known.
    let old = c.args.self.now in
    taken-line old.begun _ _ line _ (taken-bytes (g.R.Read.remaining old.source) (take old.end old.buffer) old.at c.args.count) ended plain left known

pub returns-clause-taken : goal.returns-clause-taken
returns-clause-taken g c = λ line bytes number ended plain is.
    let old = c.args.self.now in
    line-taken g.R.Read.remaining old _ line _ _ bytes number (taken-bytes (g.R.Read.remaining old.source) (take old.end old.buffer) old.at c.args.count) ended plain refl refl
    (taken-last old.buffer old.at old.end c.args.count c.requires.some c.requires.count old.within) is

pub returns-clause-begins : goal.returns-clause-begins
returns-clause-begins g c = λ line bytes number empty ended plain is passed.
    let old = c.args.self.now in
    line-in g.R.Read.remaining old _ line _ bytes number empty (taken-bytes (g.R.Read.remaining old.source) (take old.end old.buffer) old.at c.args.count) ended plain passed is
