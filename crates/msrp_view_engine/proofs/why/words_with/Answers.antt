use Rattle.std.proofs.Common.{◌≡◌, ◌++◌, ◌∙◌}
use Rattle.msrp_plan.proofs.Common.{rules, [], ap, refl, wrote-more}
use Rattle.msrp_plan.specs.Common.{verdict_text}
use Rattle.msrp_plan.specs.Bytes.{sink_inner}
use Rattle.msrp_view_engine.proofs.why.words_with.Goals as goal

pub returns-clause-words : goal.returns-clause-words
returns-clause-words g c =
    let some = c.in_ok-show.ensures.some in
    let wrote = wrote-more _ _ _ _ _ _ c.verdict.ensures some.1 in
    let empty : (sink_inner c.new-text.result).items ≡ [] = search rules in
    let same : c.in_ok-gathered_text.field-0.items ≡ (sink_inner c.show.new.self).items = rw c.in_ok-gathered_text.ensures.whole.0 refl in
    record { refused = tt; begins = (some.0, same ∙ ((wrote.whole c.in_ok-gathered_text.ensures.whole.1).1 ∙ ap (λ xs. xs ++ (verdict_text c.args.verdict ++ some.0)) empty)) }
