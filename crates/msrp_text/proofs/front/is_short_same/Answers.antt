use Rattle.std.proofs.Common.{◌≡◌, ◌-◌, ◌∙◌}
use Rattle.msrp_plan.proofs.Common.{drop, length, sym, take, and_parts}
use Rattle.msrp_text.proofs.Chunks.{ends-same}
use Rattle.msrp_text.proofs.front.is_short_same.Goals as goal

pub returns-clause-same : goal.returns-clause-same
returns-clause-same c = λ yes.
    let text = c.args.text.now in
    let other = c.args.other.now in
    let one = c.in-Some-Some in
    let two = c.in-Some-Some-2 in
    let both = and_parts _ _ yes in
    let first : take 4 text ≡ take 4 other = sym one.ensures.cases.same ∙ c.is_same_4.ensures.same both.0 ∙ one.ensures'.cases.same in
    let last : drop (length text - 4) text ≡ drop (length other - 4) other = sym two.ensures.cases.1.same ∙ c.is_same_4-2.ensures.same both.1 ∙ two.ensures'.cases.1.same in
    ends-same 4 text other c.requires.length c.requires.two first last
