use Rattle.std.proofs.Common.{◌≡◌, ◌+◌, ◌++◌, ◌∷◌, ◌∙◌, is_err}
use Rattle.msrp_plan.proofs.Common.{rules, ℕ, true, false, List, [], None, Option, PlanModel, Result, Some, ⊤, ap, drop, fault_in, option_or, refl, subst, sym, take, take-append-drop, true≢false}
use Rattle.msrp_plan.proofs.Runs.Verdicts.{fault_append}
use Rattle.msrp_plan.specs.declared.faults.Fault.{Fault}
use Rattle.msrp_plan.specs.declared.rows.Row.{Row}
use Rattle.msrp_audit.specs.Audits.{HasFed, answer_of}
use Rattle.msrp_audit.proofs.Scanning.{one_more}
use Rattle.msrp_report.specs.Reports.{HasCounted}
use Rattle.msrp_page.proofs.counts.report_of.Goals as goal

unrefused : (x : Result ⊤ Fault) (o : Option Fault) → x ≡ answer_of o → is_err x ≡ false → o ≡ None
unrefused x None e f = refl
unrefused x (Some fault) e f = absurd (true≢false (sym (ap is_err e) ∙ f))

refused : (x : Result ⊤ Fault) (o : Option Fault) → x ≡ answer_of o → is_err x ≡ true → o ≡ None → ⊥
refused x None e f n = true≢false (sym f ∙ ap is_err e)
refused x (Some fault) e f n = absurd (cc)

first-none : (o p : Option Fault) → option_or o p ≡ None → o ≡ None
first-none None p e = refl
first-none (Some fault) p e = absurd (cc)

-- the first of rows without a fault have none
good-part : (plan : PlanModel) (rows part : List Row) (n : ℕ) → fault_in plan rows ≡ None → take n rows ≡ part → fault_in plan part ≡ None
good-part plan rows part n good is =
    first-none (fault_in plan part) _ (sym (fault_append plan [] part (drop n rows)) ∙ (ap (λ xs. fault_in plan (xs ++ drop n rows)) (sym is) ∙ (ap (fault_in plan) (take-append-drop n rows) ∙ good)))

pub count-requires : goal.count-requires
count-requires c =
    let n = c.loop-row.row-index in
    let i = c.loop-row.invariant in
    let rows = take n c.args.rows.now in
    let fine : is_err c.feed.result ≡ false = search rules in
    let good = unrefused c.feed.result _ (c.feed.ensures.answer rows i.fed) fine in
    (rows, i.counted, subst (λ (p : PlanModel). fault_in p (rows ++ c.row-item.result ∷ []) ≡ None) (i.judged ∙ sym i.plan) good)

pub loop-row-preserved : goal.loop-row-preserved
loop-row-preserved c =
    let n = c.loop-row.row-index in
    let i = c.loop-row.invariant in
    let rows = take n c.args.rows.now in
    let more = one_more c.args.rows.now n c.row-item.result c.loop-row-test.true c.row-item.is in
    let fine : is_err c.feed.result ≡ false = search rules in
    let good = unrefused c.feed.result _ (c.feed.ensures.answer rows i.fed) fine in
    record {
      judged = c.feed.ensures.plan ∙ i.judged;
      plan = ap (λ p. p.now) c.count.ensures.plan ∙ i.plan;
      fed = subst (HasFed c.feed.new.self) (sym more) (c.feed.ensures.fed rows i.fed);
      counted = subst (HasCounted c.count.new.self) (sym more) (c.count.ensures.counted rows i.counted (subst (λ (p : PlanModel). fault_in p (rows ++ c.row-item.result ∷ []) ≡ None) (i.judged ∙ sym i.plan) good));
    }

pub returns-then-is_err : goal.returns-then-is_err
returns-then-is_err c good =
    let n = c.loop-row.row-index in
    let i = c.loop-row.invariant in
    let rows = take n c.args.rows.now in
    let more = one_more c.args.rows.now n c.row-item.result c.loop-row-test.true c.row-item.is in
    let bad : is_err c.feed.result ≡ true = search rules in
    let none = good-part c.args.plan.now c.args.rows.now (rows ++ c.row-item.result ∷ []) (n + 1) good more in
    absurd (refused c.feed.result _ (c.feed.ensures.answer rows i.fed) bad (subst (λ (p : PlanModel). fault_in p (rows ++ c.row-item.result ∷ []) ≡ None) (sym i.judged) none))
