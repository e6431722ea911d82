use Rattle.std.proofs.Common.{◌≡◌, ◌+◌, ◌++◌, ◌∷◌, ◌∙◌}
use Rattle.msrp_plan.proofs.Common.{[], List, take, subst, sym, ap, append_assoc, arith, take_more}
use Rattle.msrp_picture.proofs.Common.{HasTaken, Row}
use Rattle.msrp_picture.proofs.lanes.take_all.Goals as goal

pub loop-row-preserved : goal.loop-row-preserved
loop-row-preserved c = λ g before has.
    let i = c.loop-row.row-index in
    let rows = c.args.rows.now in
    let r = c.row-item.result in
    let upto : take (i + 1) rows ≡ take i rows ++ r ∷ [] = take_more rows i r (omega arith) ∙ ap (λ x. take i rows ++ x ∷ []) (sym c.row-item.is) in
    subst (λ (xs : List Row). HasTaken c.take.new.self g xs) (append_assoc before (take i rows) (r ∷ []) ∙ ap (λ xs. before ++ xs) (sym upto)) (c.in_ok-take.ensures.taken g (before ++ take i rows) (c.loop-row.invariant g before has))
