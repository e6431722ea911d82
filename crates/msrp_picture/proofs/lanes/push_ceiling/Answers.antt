use Rattle.std.proofs.Common.{◌≡◌, ◌<◌, ◌++◌, ◌∷◌, ◌∙◌, is_err, IsSomeAnd}
use Rattle.msrp_plan.proofs.Common.{ℕ, Bool, None, Option, PlanModel, Result, Some, List, [], ⊤, and_parts, ap, cond, cons_option, fault_in, fault_or, false, is_in_turn, is_none, length, log_of, ltb-true, nat_lt, option_or, refl, rules, subst, sym, true, true≢false}
use Rattle.msrp_picture.proofs.Common.{Fault, IsCoreState, Row, Rule, answer_of, ceiling, fault_append}
use Rattle.msrp_plan.specs.declared.faults.Rule.TheVariants.{A1, A7}
use Rattle.msrp_picture.proofs.lanes.push_ceiling.Goals as goal

-- a row that isn't refused is one of a core
in-turn : (o : Option Fault) (more turn : Bool) (rest : Option Rule) (n : ℕ) → option_or o (fault_or (cond more (cond turn rest (Some A1)) (Some A7)) n None) ≡ None → turn ≡ true
in-turn None true true rest n e = refl
in-turn None true false rest n e = absurd (cc)
in-turn None false turn rest n e = absurd (cc)
in-turn (Some fault) more turn rest n e = absurd (cc)

of-a-core : (plan : PlanModel) (pre : List Row) (r : Row) → fault_in plan (pre ++ r ∷ []) ≡ None → r.core.0 < plan.cores
of-a-core plan pre r e =
    let turn = in-turn (fault_in plan pre) _ (is_in_turn plan pre r) _ _ (sym (fault_append plan [] pre (r ∷ [])) ∙ e) in
    ltb-true r.core.0 plan.cores (and_parts (nat_lt r.core.0 plan.cores) _ (and_parts _ _ turn).1).0

unrefused : (x : Result ⊤ Fault) (o : Option Fault) → x ≡ answer_of o → is_err x ≡ false → o ≡ None
unrefused x None e f = refl
unrefused x (Some fault) e f = absurd (true≢false (sym (ap is_err e) ∙ f))

pub returns-in_default-clause-all : goal.returns-in_default-clause-all
returns-in_default-clause-all c = λ rows h.
    let plan = c.args.auditor.now.plan in
    let all = rows ++ c.args.row.now ∷ [] in
    let same = c.feed.ensures.plan in
    let fine : is_err c.feed.result ≡ false = search rules in
    let good = unrefused c.feed.result (fault_in plan all) (c.feed.ensures.answer rows h) fine in
    let fed = c.feed.ensures.fed rows h in
    let known = c.state.ensures all fed (fed.fault ∙ ap (λ (p : PlanModel). fault_in p all) same ∙ good) (subst (λ (p : PlanModel). c.args.row.now.core.0 < p.cores) (sym same) (of-a-core plan rows c.args.row.now good)) in
    absurd (subst (λ o. IsSomeAnd o (IsCoreState c.feed.new.self.plan c.args.row.now.core.0 (length (log_of c.args.row.now.core.0 all)) all)) c.in_default.is known)

pub returns-clause-all : goal.returns-clause-all
returns-clause-all c = λ rows h.
    let plan = c.args.auditor.now.plan in
    let r = c.args.row.now in
    let old = c.args.all.now.items in
    let all = rows ++ r ∷ [] in
    let same = c.feed.ensures.plan in
    let fine : is_err c.feed.result ≡ false = search rules in
    let good = unrefused c.feed.result (fault_in plan all) (c.feed.ensures.answer rows h) fine in
    let fed = c.feed.ensures.fed rows h in
    let known = c.state.ensures all fed (fed.fault ∙ ap (λ (p : PlanModel). fault_in p all) same ∙ good) (subst (λ (p : PlanModel). r.core.0 < p.cores) (sym same) (of-a-core plan rows r good)) in
    let is = subst (λ o. IsSomeAnd o (IsCoreState c.feed.new.self.plan r.core.0 (length (log_of r.core.0 all)) all)) c.in-Some.is known in
    let pushed : c.push.new.self.items ≡ old ++ (r, c.in-Some.state.ceiling) ∷ [] = search rules in
    pushed ∙ ap (λ n. old ++ (r, n) ∷ []) (is.ceiling ∙ ap (λ (p : PlanModel). ceiling p r.core.0 all) same)
    ∙ ap (λ (o : Option Fault). old ++ cons_option (cond (is_none o) (Some (r, ceiling plan r.core.0 all)) None) []) (sym good)
