use Rattle.std.proofs.Common.{◌≡◌, ◌∙◌}
use Rattle.msrp_plan.proofs.Common.{true, sym, ap, subst, arith, append-nil, get_or}
use Rattle.std.proofs.lemmas.List.Sums.{AllPass-from_list_all}
use Rattle.msrp_trace.specs.Gathering.{WriterModel}
use Rattle.msrp_trace.specs.TraceText.{head_text, is_named, row_text}
use Rattle.msrp_trace.proofs.Gathered.{gathers-all, gathers-as, gathers-more}
use Rattle.msrp_trace.proofs.Records.{row-more, rows-end}
use Rattle.msrp_trace.proofs.writing.write_trace.Goals as goal

pub loop-row-init : goal.loop-row-init
loop-row-init g c = (gathers-as _ _ _ _ _ _ _ (sym (append-nil (head_text c.args.version c.args.plan.now))) (rw c.new-text.ensures at c.head.ensures.text), c.head.ensures.same ∙ ap (λ (w : WriterModel). record w { text = c.head.new.self.text }) c.new-text.ensures)

pub row-requires : goal.row-requires
row-requires g c =
    let r = c.row-item.result in
    let at = c.row-item.is ∙ ap (λ rows. get_or rows c.loop-row.row-index r) c.deref-row-items.ensures.value in
    let named = AllPass-from_list_all (is_named c.args.plan.now) c.args.trace.now.rows.items c.requires.named c.loop-row.row-index r (omega arith) in
    let plan = ap (λ (w : WriterModel). w.plan) c.loop-row.invariant.1 in
    subst (λ p. is_named p r ≡ true) (sym plan) (ap (is_named c.args.plan.now) at ∙ named)

pub loop-row-preserved : goal.loop-row-preserved
loop-row-preserved g c =
    let so_far = c.loop-row.invariant in
    let text = c.loop-row.text in
    let r = c.row-item.result in
    let at = c.row-item.is ∙ ap (λ rows. get_or rows c.loop-row.row-index r) c.deref-row-items.ensures.value in
    let told : row_text text.version text.plan r ≡ row_text c.args.version c.args.plan.now r = ap (λ (w : WriterModel). row_text w.version w.plan r) so_far.1 in
    let row = gathers-as _ _ _ _ _ _ _ told c.row.ensures.text in
    (gathers-as _ _ _ _ _ _ _ (row-more c.args.version c.args.plan.now c.args.trace.now.rows.items c.loop-row.row-index r (omega arith) at) (gathers-more _ _ _ _ _ _ _ _ _ so_far.0 row), c.row.ensures.same ∙ ap (λ (w : WriterModel). record w { text = c.row.new.self.text }) so_far.1)

pub returns-clause-wrote : goal.returns-clause-wrote
returns-clause-wrote g c =
    let whole = rows-end c.args.version c.args.plan.now c.args.trace.now.rows.items c.loop-row.row-index (omega arith) in
    gathers-all _ _ _ _ _ _ (gathers-as _ _ _ _ _ _ _ whole c.loop-row.invariant.0) c.finish.ensures.wrote
