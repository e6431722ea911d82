use Rattle.std.proofs.Common.{◌≡◌, ◌∷◌, ◌++◌, ◌∙◌}
use Rattle.msrp_plan.proofs.Common.{Bool, true, false, cond, List, ap, append_assoc, sym, rules, []}
use Rattle.msrp_picture.proofs.Common.{Block, goes_on, joined}
use Rattle.msrp_picture.proofs.blocks.join.Goals as goal

-- a block is continued by the next one, or ends before that
joined-by : (s t : Block) (rest : List Block) (b : Bool) → b ≡ goes_on s t → cond b (joined (record s { end = t.end }) rest) (s ∷ joined t rest) ≡ joined s (t ∷ rest)
unfolding joined
joined-by s t rest b e = ap (λ c. cond c (joined (record s { end = t.end }) rest) (s ∷ joined t rest)) e

pub returns-then-goes_on : goal.returns-then-goes_on
returns-then-goes_on c rest = ap (λ xs. c.args.blocks.now.items ++ xs) (joined-by c.args.last c.args.next rest true (sym c.if-goes_on.true ∙ c.goes_on.ensures))

pub returns : goal.returns
returns c rest =
    let old = c.args.blocks.now.items in
    let pushed : c.push.new.self.items ≡ old ++ c.args.last ∷ [] = search rules in
    ap (λ xs. xs ++ joined c.args.next rest) pushed ∙ (append_assoc old (c.args.last ∷ []) (joined c.args.next rest) ∙ ap (λ xs. old ++ xs) (joined-by c.args.last c.args.next rest false (sym c.if-goes_on.false ∙ c.goes_on.ensures)))
