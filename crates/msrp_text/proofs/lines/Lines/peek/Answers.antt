use Rattle.std.proofs.Common.{◌-◌, ◌<◌}
use Rattle.msrp_plan.proofs.Common.{refl, arith}
use Rattle.msrp_text.specs.Ahead.{buffered}
use Rattle.msrp_text.specs.declared.lines.TheConstants.{ROOM}
use Rattle.msrp_text.proofs.Fronts.{no-line-on}
use Rattle.msrp_text.proofs.LineEnds.{kept-taken}
use Rattle.msrp_text.proofs.PlainLines.{kept-records}
use Rattle.msrp_text.proofs.lines.Lines.peek.Goals as goal

pub loop-line-smaller : goal.loop-line-smaller
loop-line-smaller g c =
    let less : ROOM - buffered c.fetch.new.self < ROOM - buffered c.loop-line.self = omega (arith, c.if-fetch.ensures.more refl, c.fetch.new.self.room, c.fetch.new.self.order, c.loop-line.self.order) in
    less

pub loop-line-preserved : goal.loop-line-preserved
loop-line-preserved g c =
    let before = c.loop-line.invariant in
    let more = c.fetch.ensures.grows in
    let fetched = c.fetch.ensures in
    record {
      same = λ left known. kept-records _ _ _ _ fetched.kept fetched.begun left (before.same left known);
      none = λ none. before.none (no-line-on _ more.0 _ _ more.1 none);
      taken = λ bytes number is. kept-taken g.R.Read.remaining _ _ bytes number fetched.kept fetched.begun fetched.before fetched.passed (before.taken bytes number is);
    }

pub returns-in_default-clause-none : goal.returns-in_default-clause-none
returns-in_default-clause-none g c = λ none.
    let more = c.fetch.ensures.grows in
    c.loop-line.invariant.none (no-line-on _ more.0 _ _ more.1 none)

pub returns-in_default-clause-taken : goal.returns-in_default-clause-taken
returns-in_default-clause-taken g c = λ bytes number taken.
    let fetched = c.fetch.ensures in
    kept-taken g.R.Read.remaining _ _ bytes number fetched.kept fetched.begun fetched.before fetched.passed (c.loop-line.invariant.taken bytes number taken)
