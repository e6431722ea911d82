use Rattle.std.proofs.Common.{◌≡◌, ◌+◌, ◌++◌, ◌∷◌, ◌∙◌}
use Rattle.msrp_plan.proofs.Common.{ℕ, [], List, Some, Err, take, drop, ap, sym, subst, take-append-drop, PlanModel, fault_in, verdict, fault_stays, early_is}
use Rattle.msrp_plan.specs.declared.faults.Fault.{Fault}
use Rattle.msrp_plan.specs.declared.rows.Row.{Row as TraceRow}
use Rattle.msrp_audit.specs.Audits.{HasFed, answer_of}
use Rattle.msrp_audit.proofs.Judging.{fault_told}
use Rattle.msrp_audit.proofs.Scanning.{one_more}
use Rattle.msrp_audit.proofs.verdicts.feed_all.Goals as goal

-- a fault of the first rows is the verdict
found : (plan own : PlanModel) (rows part : List TraceRow) (n : ℕ) (f : Fault) → own ≡ plan → take n rows ≡ part → Err f ≡ answer_of (fault_in own part) → Err f ≡ answer_of (verdict plan rows)
found plan own rows part n f same is h =
    let now : fault_in plan (take n rows) ≡ Some f = fault_told (fault_in plan (take n rows)) f (h ∙ ap answer_of (ap (λ p. fault_in p part) same ∙ ap (fault_in plan) (sym is))) in
    sym (ap answer_of (early_is plan rows f (subst (λ l. fault_in plan l ≡ Some f) (take-append-drop n rows) (fault_stays plan (take n rows) (drop n rows) f now))))

pub returns-in-Err-clause-fault : goal.returns-in-Err-clause-fault
returns-in-Err-clause-fault c = λ fault e.
    let rows = c.args.rows.now in
    let i = c.loop-row.invariant in
    let same : c.in-Err.fault ≡ fault = cc in
    let more = one_more rows c.loop-row.row-index c.row-item.result c.loop-row-test.true c.row-item.is in
    ap (λ f. Err f) (sym same) ∙ found c.args.auditor.now.plan c.loop-row.auditor.plan rows (take c.loop-row.row-index rows ++ c.row-item.result ∷ []) (c.loop-row.row-index + 1) c.in-Err.fault i.plan more (c.in-Err.ensures.answer (take c.loop-row.row-index rows) i.fed)

pub loop-row-preserved : goal.loop-row-preserved
loop-row-preserved c =
    let rows = c.args.rows.now in
    let i = c.loop-row.invariant in
    let more = one_more rows c.loop-row.row-index c.row-item.result c.loop-row-test.true c.row-item.is in
    record {
      plan = c.feed.ensures.plan ∙ i.plan;
      fed = subst (HasFed c.feed.new.self) (sym more) (c.feed.ensures.fed (take c.loop-row.row-index rows) i.fed);
    }
