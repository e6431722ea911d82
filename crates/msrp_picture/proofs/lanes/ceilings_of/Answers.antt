use Rattle.std.proofs.Common.{◌≡◌, ◌+◌, ◌∷◌, ◌++◌, ◌∙◌}
use Rattle.msrp_plan.proofs.Common.{ℕ, List, None, Option, PlanModel, Some, [], ap, append_assoc, append-nil, arith, cons_option, drop, drop_all, drop_more, refl, subst, sym, take, take_all, take_more}
use Rattle.msrp_picture.proofs.Common.{HasFed, Row, ceiling_after, ceilings}
use Rattle.msrp_picture.proofs.lanes.ceilings_of.Goals as goal

-- one row more
one-more : (plan : PlanModel) (pre rest : List Row) (r : Row) (all : List (Row × ℕ)) → (all ++ cons_option (ceiling_after plan (pre ++ r ∷ []) r) []) ++ ceilings plan (pre ++ r ∷ []) rest ≡ all ++ ceilings plan pre (r ∷ rest)
unfolding ceilings
one-more plan pre rest r all = by (ceiling_after plan (pre ++ r ∷ []) r)
  where
    by : (o : Option (Row × ℕ)) → (all ++ cons_option o []) ++ ceilings plan (pre ++ r ∷ []) rest ≡ all ++ cons_option o (ceilings plan (pre ++ r ∷ []) rest)
    by None = ap (λ xs. xs ++ ceilings plan (pre ++ r ∷ []) rest) (append-nil all)
    by (Some x) = append_assoc all (x ∷ []) (ceilings plan (pre ++ r ∷ []) rest)

-- the last one
none-left : (plan : PlanModel) (pre : List Row) → ceilings plan pre [] ≡ []
unfolding ceilings
none-left plan pre = refl

pub loop-row-preserved : goal.loop-row-preserved
loop-row-preserved c =
    let plan = c.args.scene.now.plan.now in
    let rows = c.args.scene.now.rows.now in
    let i = c.loop-row.row-index in
    let r = c.row-item.result in
    let old = c.loop-row.invariant in
    let upto : take (i + 1) rows ≡ take i rows ++ r ∷ [] = take_more rows i r (omega arith) ∙ ap (λ x. take i rows ++ x ∷ []) (sym c.row-item.is) in
    let left : drop i rows ≡ r ∷ drop (i + 1) rows = drop_more rows i r (omega arith) ∙ ap (λ x. x ∷ drop (i + 1) rows) (sym c.row-item.is) in
    let more = c.in_ok-push_ceiling.ensures.all (take i rows) old.fed ∙ ap (λ (p : PlanModel). c.loop-row.all.items ++ cons_option (ceiling_after p (take i rows ++ r ∷ []) r) []) old.plan in
    record {
      plan = c.in_ok-push_ceiling.ensures.plan ∙ old.plan;
      fed = subst (λ (xs : List Row). HasFed c.push_ceiling.new.auditor xs) (sym upto) (c.in_ok-push_ceiling.ensures.fed (take i rows) old.fed);
      all = ap (λ xs. c.push_ceiling.new.all.items ++ ceilings plan xs (drop (i + 1) rows)) upto ∙ ap (λ xs. xs ++ ceilings plan (take i rows ++ r ∷ []) (drop (i + 1) rows)) more
          ∙ one-more plan (take i rows) (drop (i + 1) rows) r c.loop-row.all.items ∙ ap (λ xs. c.loop-row.all.items ++ ceilings plan (take i rows) xs) (sym left) ∙ old.all;
    }

pub returns-clause-fed : goal.returns-clause-fed
returns-clause-fed c = subst (λ (xs : List Row). HasFed c.loop-row.auditor xs) (take_all c.loop-row.row-index c.args.scene.now.rows.now (omega arith)) c.loop-row.invariant.fed

pub returns-clause-all : goal.returns-clause-all
returns-clause-all c =
    let plan = c.args.scene.now.plan.now in
    let rows = c.args.scene.now.rows.now in
    let i = c.loop-row.row-index in
    sym (append-nil c.loop-row.all.items) ∙ ap (λ xs. c.loop-row.all.items ++ xs) (sym (ap (ceilings plan (take i rows)) (drop_all i rows (omega arith)) ∙ none-left plan (take i rows))) ∙ c.loop-row.invariant.all
