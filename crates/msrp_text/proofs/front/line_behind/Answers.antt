use Rattle.std.proofs.Common.{◌≡◌, ◌∷◌, ◌∙◌, ◌-◌}
use Rattle.msrp_plan.proofs.Common.{[], drop, length, take, arith, inl, inr, sym, starts_is, Decides-eqb}
use Rattle.std.proofs.lemmas.List.{append_cancel_left}
use mathlib.Core.Bool.{true≢false}
use Rattle.msrp_text.proofs.Fronts.{begins-parts, front-behind, line-ends}
use Rattle.msrp_text.proofs.front.line_behind.Goals as goal

pub returns-then-not-begins_with_long-clause-finds : goal.returns-then-not-begins_with_long-clause-finds
returns-then-not-begins_with_long-clause-finds c = λ begins.
    let parts = begins-parts c.args.front.now c.args.rest.now c.args.text.now begins in
    let middle = take (length c.args.text.now - length c.args.front.now) (drop (length c.args.front.now) c.args.text.now) in
    let first = front-behind c.args.text.now c.args.front.now c.requires in
    let met = c.begins_with_long.ensures.finds parts.0 (append_cancel_left c.args.front.now middle _ (sym first ∙ parts.1)) in
    absurd (true≢false (sym met ∙ c.if-not-begins_with_long.true))

pub returns-then-starts_with-clause-line : goal.returns-then-starts_with-clause-line
returns-then-starts_with-clause-line c =
    let middle = take (length c.args.text.now - length c.args.front.now) (drop (length c.args.front.now) c.args.text.now) in
    let end = take (length middle - length c.args.rest.now) (drop (length c.args.rest.now) middle) in
    let first = front-behind c.args.text.now c.args.front.now c.requires in
    let second = front-behind middle c.args.rest.now (c.begins_with_long.ensures.begins c.if-not-begins_with_long.false) in
    let third = (starts_is Decides-eqb end (10 ∷ []) _ c.starts_with.ensures.value).0 c.if-starts_with.true in
    let ends = line-ends c.args.text.now c.args.front.now c.args.rest.now middle end (10 ∷ []) _ first second third in
    (omega arith, ends.0, inl ends.1)

pub returns-then-starts_with-2-clause-line : goal.returns-then-starts_with-2-clause-line
returns-then-starts_with-2-clause-line c =
    let middle = take (length c.args.text.now - length c.args.front.now) (drop (length c.args.front.now) c.args.text.now) in
    let end = take (length middle - length c.args.rest.now) (drop (length c.args.rest.now) middle) in
    let first = front-behind c.args.text.now c.args.front.now c.requires in
    let second = front-behind middle c.args.rest.now (c.begins_with_long.ensures.begins c.if-not-begins_with_long.false) in
    let third = (starts_is Decides-eqb end (13 ∷ 10 ∷ []) _ c.starts_with-2.ensures.value).0 c.if-starts_with-2.true in
    let ends = line-ends c.args.text.now c.args.front.now c.args.rest.now middle end (13 ∷ 10 ∷ []) _ first second third in
    (omega arith, ends.0, inr (inr ends.1))

pub returns-then-starts_with-3-clause-line : goal.returns-then-starts_with-3-clause-line
returns-then-starts_with-3-clause-line c =
    let middle = take (length c.args.text.now - length c.args.front.now) (drop (length c.args.front.now) c.args.text.now) in
    let end = take (length middle - length c.args.rest.now) (drop (length c.args.rest.now) middle) in
    let first = front-behind c.args.text.now c.args.front.now c.requires in
    let second = front-behind middle c.args.rest.now (c.begins_with_long.ensures.begins c.if-not-begins_with_long.false) in
    let third = (starts_is Decides-eqb end (13 ∷ []) _ c.starts_with-3.ensures.value).0 c.if-starts_with-3.true in
    let ends = line-ends c.args.text.now c.args.front.now c.args.rest.now middle end (13 ∷ []) _ first second third in
    (omega arith, ends.0, inr (inl ends.1))

pub returns-clause-finds : goal.returns-clause-finds
returns-clause-finds c = λ begins.
    let parts = begins-parts c.args.front.now c.args.rest.now c.args.text.now begins in
    let middle = take (length c.args.text.now - length c.args.front.now) (drop (length c.args.front.now) c.args.text.now) in
    let end = take (length middle - length c.args.rest.now) (drop (length c.args.rest.now) middle) in
    let first = front-behind c.args.text.now c.args.front.now c.requires in
    let second = front-behind middle c.args.rest.now (c.begins_with_long.ensures.begins c.if-not-begins_with_long.false) in
    let same : end ≡ parts.0 = append_cancel_left c.args.rest.now end parts.0 (sym second ∙ append_cancel_left c.args.front.now middle _ (sym first ∙ parts.1)) in
    elim parts.2 [
      | inl fed ↦ absurd (true≢false (sym ((starts_is Decides-eqb end (10 ∷ []) _ c.starts_with.ensures.value).1 fed.0 (same ∙ fed.1)) ∙ c.if-starts_with.false))
      | inr returned ↦ absurd (true≢false (sym ((starts_is Decides-eqb end (13 ∷ []) _ c.starts_with-3.ensures.value).1 returned.0 (same ∙ returned.1)) ∙ c.if-starts_with-3.false))
    ]
