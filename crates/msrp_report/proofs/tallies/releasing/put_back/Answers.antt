use Rattle.std.proofs.Common.{◌<◌, ◌≤◌}
use Rattle.msrp_plan.proofs.Common.{ap, subst, sym, arith, get_or, slice_set, get_or_default, IsNonDecreasingBy, IsPermutation}
use Rattle.msrp_report.proofs.Common.{NextRelease}
use Rattle.msrp_report.proofs.Releases.{put_rising, put_same, tick_of}
use Rattle.msrp_report.proofs.tallies.releasing.put_back.Goals as goal
use Rattle.msrp_report.proofs.tallies.releasing.put_back.Goals.{then-loop-place-test+else-releases-place, else-loop-place-test}

pub returns-clause-same : goal.returns-clause-same
returns-clause-same c =
    let xs = c.args.releases.now in
    let n = c.loop-place.place in
    subst (λ l. IsPermutation (slice_set xs 0 c.args.next) (slice_set l n c.args.next)) (sym c.copy_within.ensures.after) (put_same xs n c.args.next c.loop-place.invariant.within)

pub returns-clause-rising : goal.returns-clause-rising
returns-clause-rising c =
    let xs = c.args.releases.now in
    let n = c.loop-place.place in
    let before : (d : NextRelease) → 0 < n → (get_or xs n d).tick ≤ c.args.next.tick = λ d some. elim c.loop-place-test.branch [
      | then-loop-place-test+else-releases-place w ↦
          let here = w.if-releases-place.false in
          let same = ap tick_of (get_or_default xs n d (record { tick = 0; task = record { 0 = 0 } }) c.loop-place.invariant.within) in
          omega (arith, here, same)
      | else-loop-place-test w ↦ let none = w.loop-place-test.false in omega (arith, some, none)
    ] in
    subst (λ l. IsNonDecreasingBy tick_of (slice_set l n c.args.next)) (sym c.copy_within.ensures.after) (put_rising xs n c.args.next c.loop-place.invariant.within c.requires.rising before c.loop-place.invariant.later)
