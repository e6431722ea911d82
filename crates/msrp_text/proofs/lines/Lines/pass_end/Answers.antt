use Rattle.std.proofs.Common.{◌≡◌, ◌<◌, ◌∷◌, ◌∙◌, ◌+◌, ◌-◌}
use Rattle.msrp_plan.proofs.Common.{[], true, drop, take, slice_index, refl, sym, ap, arith}
use Rattle.msrp_text.specs.Ahead.{lines_ahead}
use Rattle.msrp_text.specs.Lines.{is_break}
use Rattle.msrp_text.specs.declared.front.TheConstants.{LONGEST}
use Rattle.msrp_text.proofs.AheadBytes.{ahead-first, taken-ahead}
use Rattle.msrp_text.proofs.Fronts.{break-none, no-line-on}
use Rattle.msrp_text.proofs.LineEnds.{end-passed, kept-taken, taken-break}
use Rattle.msrp_text.proofs.PlainLines.{kept-records}
use Rattle.msrp_text.proofs.lines.Lines.pass_end.Goals as goal

pub returns-clause-none : goal.returns-clause-none
returns-clause-none g c = λ none.
    let here = c.look.new.self in
    let more = c.look.ensures.grows in
    let some : here.at < here.end = omega (arith, here.order, c.if-self.false) in
    let is : is_break (slice_index here.buffer here.at) ≡ true = sym c.is_break.ensures ∙ c.if-not-is_break.false in
    no-line-on _ more.0 _ _ more.1 (break-none (lines_ahead here) _ _ LONGEST (ahead-first here.buffer here.at here.end some here.within) is)

pub returns-clause-same : goal.returns-clause-same
returns-clause-same g c = λ left known.
    let here = c.look.new.self in
    let some : here.at < here.end = omega (arith, here.order, c.if-self.false) in
    let is : is_break (slice_index here.buffer here.at) ≡ true = sym c.is_break.ensures ∙ c.if-not-is_break.false in
    let takes = taken-ahead (g.R.Read.remaining here.source) (lines_ahead here) (slice_index here.buffer here.at ∷ []) (drop (here.at + 1) (take here.end here.buffer)) (ahead-first here.buffer here.at here.end some here.within) in
    taken-break here.begun _ _ _ takes is left (kept-records _ _ _ _ c.look.ensures.kept c.look.ensures.begun left known)

pub returns-clause-taken : goal.returns-clause-taken
returns-clause-taken g c = λ bytes number taken.
    let here = c.look.new.self in
    let looked = c.look.ensures in
    let some : here.at < here.end = omega (arith, here.order, c.if-self.false) in
    let is : is_break (slice_index here.buffer here.at) ≡ true = sym c.is_break.ensures ∙ c.if-not-is_break.false in
    let takes = taken-ahead (g.R.Read.remaining here.source) (lines_ahead here) (slice_index here.buffer here.at ∷ []) (drop (here.at + 1) (take here.end here.buffer)) (ahead-first here.buffer here.at here.end some here.within) in
    let place : here.at + 1 - 1 ≡ here.at = omega arith in
    end-passed g.R.Read.remaining here _ (slice_index here.buffer here.at) bytes number takes is refl (ap (slice_index here.buffer) place)
    (record { value = rw c.ends_line.ensures at c.counted-self.ensures.value; counts = c.counted-self.ensures.counts })
    (kept-taken g.R.Read.remaining c.args.self.now here bytes number looked.kept looked.begun looked.before looked.passed taken)
