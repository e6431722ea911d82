use Rattle.msrp_plan.proofs.Common.{ap, arith, drop, length, length-drop, sym, and_parts, take_all, take_rest}
use Rattle.std.proofs.Common.{◌≡◌, ◌-◌, ◌∙◌, length-take-le}
use Rattle.msrp_text.proofs.Chunks.{ends-same}
use Rattle.msrp_text.proofs.front.is_longest_same.Goals as goal

pub slice_bounds-is_long_same-end-4 : goal.slice_bounds-is_long_same-end-4
slice_bounds-is_long_same-end-4 c = sym (length-take-le 32 c.args.other.now (omega (arith, c.requires.length, c.requires.one)))

pub is_long_same-requires-2-clause-length : goal.is_long_same-requires-2-clause-length
is_long_same-requires-2-clause-length c = length-take-le 32 c.args.text.now c.requires.one ∙ sym (length-take-le 32 c.args.other.now (omega (arith, c.requires.length, c.requires.one)))

pub returns-clause-same : goal.returns-clause-same
returns-clause-same c = λ yes.
    let text = c.args.text.now in
    let other = c.args.other.now in
    let both = and_parts _ _ yes in
    let last : drop (length text - 32) text ≡ drop (length text - 32) other = sym (take_rest text (length text - 32)) ∙ c.is_long_same.ensures.same both.0 ∙ take_all (length other - (length text - 32)) (drop (length text - 32) other) (omega (arith, length-drop (length text - 32) other)) in
    ends-same 32 text other c.requires.length c.requires.two (c.is_long_same-2.ensures.same both.1) (last ∙ ap (λ n. drop (n - 32) other) c.requires.length)
