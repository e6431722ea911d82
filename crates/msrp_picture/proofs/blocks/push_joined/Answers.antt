use Rattle.std.proofs.Common.{◌≡◌, ◌≤◌, ◌++◌, ◌∙◌, ◌∷◌}
use Rattle.msrp_plan.proofs.Common.{ℕ, List, length, drop, ap, arith, sym, drop_all, rules, []}
use Rattle.msrp_picture.proofs.Common.{Block, joined}
use Rattle.msrp_picture.proofs.blocks.push_joined.Goals as goal

-- the last one, where none is left
ends-with : (s : Block) (rest : List Block) (i : ℕ) → length rest ≤ i → joined s (drop i rest) ≡ s ∷ []
unfolding joined
ends-with s rest i past = ap (joined s) (drop_all i rest past)

pub returns : goal.returns
returns c =
    let last = ends-with c.loop-next.last c.args.rest.now c.loop-next.next-index (omega arith) in
    let pushed : c.push.new.self.items ≡ c.loop-next.blocks.items ++ c.loop-next.last ∷ [] = search rules in
    pushed ∙ (ap (λ t. c.loop-next.blocks.items ++ t) (sym last) ∙ c.loop-next.invariant)
