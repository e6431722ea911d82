use Rattle.std.proofs.Common.{◌<◌, ◌∙◌}
use Rattle.msrp_plan.proofs.Common.{length, arith, sym, subst, decimal_nonempty}
use Rattle.msrp_trace.proofs.Counting.{counted_up}
use Rattle.msrp_trace.proofs.tick.Tick.count.Goals as goal

pub last-digit-requires : goal.last-digit-requires
last-digit-requires c =
    let same = c.from-next.ensures in
    let small = c.from-next.type_inv in
    (omega arith, subst (λ t. 0 < length t) (sym c.args.self.now.fits) (decimal_nonempty c.args.self.now.tick (omega (arith, same, small))))

pub set_last-requires : goal.set_last-requires
set_last-requires c =
    let same = c.from-next.ensures in
    let small = c.from-next.type_inv in
    (omega arith, subst (λ t. 0 < length t) (sym c.args.self.now.fits) (decimal_nonempty c.args.self.now.tick (omega (arith, same, small))))

pub invariant_of-self : goal.invariant_of-self
invariant_of-self c =
    let before = c.from-next.ensures in
    let now = c.from.ensures in
    let next = c.if-next-from.true in
    let small = c.from.type_inv in
    let low = c.if-digit-lt57.true in
    record { fits = c.set_last.ensures ∙ counted_up c.args.self.now.text c.args.self.now.tick c.args.tick c.last-digit.result c.args.self.now.fits c.last-digit.ensures (omega (arith, low)) (omega (arith, before, now, next)) (omega (arith, now, small)) }
