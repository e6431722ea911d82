use Rattle.msrp_plan.proofs.Common.{length, take, drop, arith, refl, sym, length-append, length-drop, take_all, take_at}
use Rattle.std.proofs.Common.{◌≡◌, ◌≤◌, ◌-◌, ◌++◌, ◌∙◌, length-take}
use Rattle.msrp_text.proofs.AheadBytes.{met-ahead, none-left, read-through, taken-ahead}
use Rattle.msrp_text.proofs.lines.LinesRead.read.Goals as goal

pub returns-in-None-clause-bytes : goal.returns-in-None-clause-bytes
returns-in-None-clause-bytes g c = read-through _ _ _ _ _ (none-left c.args.self.now.buffer _ _ c.if-self.true) c.read.ensures.bytes

pub returns-clause-bytes : goal.returns-clause-bytes
returns-clause-bytes g c =
    let now = c.args.self.now in
    let count = c.min-count.result in
    let given = c.copy_from_slice.new.self in
    let most : count ≤ now.end - now.at = omega (arith, c.min-count.ensures) in
    let fits : count ≤ length c.args.buf.now = omega (arith, c.min-count.ensures) in
    let size : count ≡ length given = omega (arith, c.copy_from_slice.ensures.len, length-take count c.args.buf.now) in
    let whole : take count given ≡ given = take_all count given (omega arith) in
    let part : take count (given ++ drop count c.args.buf.now) ≡ given = take_at given _ count (sym size) in
    let met = met-ahead now.buffer now.buffer given now.at now.end count now.order refl size most (sym c.copy_from_slice.ensures.after ∙ sym whole) in (
      rw part (taken-ahead _ _ _ _ met),
      λ none some. absurd (omega (arith, c.min-count.ensures, c.if-self.false, now.order, length-append given (drop count c.args.buf.now), length-drop count c.args.buf.now)),
    )
