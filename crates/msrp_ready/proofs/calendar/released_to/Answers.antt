use Rattle.std.proofs.Common.{◌≡◌, ◌+◌, ◌≤◌, ◌++◌, ◌∷◌, ◌∙◌}
use Rattle.msrp_plan.proofs.Common.{[], take, drop, get_or, ap, sym, subst, arith, All, take_more, drop-append-le, length-take-le, All-push}
use Rattle.msrp_ready.proofs.Common.{Entry}
use Rattle.msrp_ready.proofs.Entries.{no_entry}
use Rattle.msrp_ready.proofs.calendar.released_to.Goals as goal

pub loop-next-preserved : goal.loop-next-preserved
loop-next-preserved c =
    let calendar = c.args.calendar.now in
    let from = c.args.from in
    let next = c.loop-next.next in
    let before = c.loop-next.invariant in
    let within = c.loop-next-test.true in
    let entry = get_or calendar next no_entry in
    let long = length-take-le next calendar before.within in
    let more : drop from (take (next + 1) calendar) ≡ drop from (take next calendar) ++ entry ∷ [] = ap (drop from) (take_more calendar next no_entry within) ∙ drop-append-le from (take next calendar) (entry ∷ []) (omega (arith, before.lower, long)) in
    record {
      lower = omega (arith, before.lower);
      within = omega (arith, within);
      released = subst (All (λ (e : Entry). e.release ≤ c.args.tick)) (sym more) (All-push (λ (e : Entry). e.release ≤ c.args.tick) (drop from (take next calendar)) entry before.released (omega (arith, c.from.ensures, c.if-from-tick.true)));
    }
