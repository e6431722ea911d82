use Rattle.std.proofs.Common.{◌≡◌, ◌∙◌, ◌++◌}
use Rattle.msrp_plan.proofs.Common.{[], ℕ, List, false, not, length, refl, ap, append-nil, arith, inl, inr}
use Rattle.msrp_text.specs.Ahead.{has_failed, lines_ahead}
use Rattle.msrp_text.proofs.AheadBytes.{none-left}
use Rattle.msrp_text.proofs.PlainLines.{none-more}
use Rattle.msrp_text.proofs.lines.Lines.is_at_end.Goals as goal

pub returns-then-not-fetch-clause-none : goal.returns-then-not-fetch-clause-none
returns-then-not-fetch-clause-none g c = λ yes.
    let old = c.args.self.now in
    let same : old.at ≡ old.end = omega (arith, old.order, c.if-self.false) in
    let more = c.if-not-fetch.ensures.grows in
    let none : lines_ahead c.fetch.new.self ≡ [] =
    more.1 ∙ ap (λ (t : List ℕ). lines_ahead old ++ t) (more.2 refl) ∙ append-nil (lines_ahead old) ∙ none-left old.buffer old.at old.end same in
    let size : length (lines_ahead c.fetch.new.self) ≡ 0 = ap length none in
    none-more _ _ _ none (elim (c.if-not-fetch.ensures.end refl (omega (arith, size))) [
      | inl failed ↦ (let fine : has_failed c.fetch.new.self ≡ false = c.is_none.ensures ∙ ap not yes in absurd (cc))
      | inr end ↦ end
    ])
