use Rattle.msrp_plan.proofs.Common.{ap, arith, drop, length, length-drop, sym, and_parts, take_all, take_rest}
use Rattle.std.proofs.Common.{◌≡◌, ◌-◌, ◌∙◌, length-take-le}
use Rattle.msrp_text.proofs.Chunks.{ends-same}
use Rattle.msrp_text.proofs.front.is_long_same.Goals as goal

pub is_same-requires-clause-length : goal.is_same-requires-clause-length
is_same-requires-clause-length c = length-take-le 16 c.args.text.now c.requires.one ∙ sym (length-take-le 16 c.args.other.now (omega (arith, c.requires.length, c.requires.one)))

pub returns-clause-same : goal.returns-clause-same
returns-clause-same c = λ yes.
    let text = c.args.text.now in
    let other = c.args.other.now in
    let both = and_parts _ _ yes in
    let last : drop (length text - 16) text ≡ drop (length text - 16) other = sym (take_rest text (length text - 16)) ∙ c.is_same-2.ensures.same both.1 ∙ take_all (length other - (length text - 16)) (drop (length text - 16) other) (omega (arith, length-drop (length text - 16) other)) in
    ends-same 16 text other c.requires.length c.requires.two (c.is_same.ensures.same both.0) (last ∙ ap (λ n. drop (n - 16) other) c.requires.length)
