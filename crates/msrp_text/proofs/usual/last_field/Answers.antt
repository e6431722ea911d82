use Rattle.std.proofs.Common.{◌<◌}
use Rattle.msrp_plan.proofs.Common.{arith, length, inl}
use Rattle.msrp_text.proofs.UsualLines.{feed-ends}
use Rattle.msrp_text.proofs.usual.last_field.Goals as goal

pub returns-then-byte-eq10 : goal.returns-then-byte-eq10
returns-then-byte-eq10 c =
    let within : c.loop-at.at < length c.args.text.now = omega (arith, c.loop-at-test.true) in
    record {
      longer = omega arith;
      within = omega (arith, within);
      ended = inl (feed-ends c.args.text.now c.loop-at.at 10 within c.if-byte-eq10.true);
      inside = c.loop-at.invariant;
    }
