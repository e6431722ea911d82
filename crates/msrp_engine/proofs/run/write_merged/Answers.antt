use Rattle.std.proofs.Common.{◌≡◌, ◌∙◌, ◌*◌, ◌∷◌, ◌++◌}
use Rattle.msrp_plan.proofs.Common.{true, [], length, ap, refl, sym, subst, arith, append-nil, append_assoc, length-append, nil_from_length, IsRun}
use Rattle.msrp_trace.specs.Gathering.{WriterModel}
use Rattle.msrp_trace.specs.TraceText.{head_text, is_named, row_text, trace_text}
use Rattle.msrp_trace.proofs.Gathered.{gathers-all, gathers-as, gathers-more}
use Rattle.msrp_engine.proofs.NamedRows.{row_more, run_row_named}
use Rattle.msrp_engine.proofs.run.write_merged.Goals as goal

pub loop-turn-init : goal.loop-turn-init
loop-turn-init g c =
    let head = gathers-as _ _ _ _ _ _ _ (sym (append-nil (head_text c.args.version c.args.plan.now))) (rw c.new-text.ensures at c.head.ensures.text) in
    ([], head, refl, refl, c.head.ensures.same ∙ ap (λ (w : WriterModel). record w { text = c.head.new.self.text }) c.new-text.ensures)

pub row-row-requires : goal.row-row-requires
row-row-requires g c =
    let run = c.loop-turn.invariant in
    let both = length-append run.0 c.loop-turn.merging in
    let all = ap length run.2 ∙ c.requires.run.1.run.size in
    let so_far = run.3 in
    let a = ap (λ m. m * c.ticks.result) c.cores.ensures.value in
    let b = ap (λ t. c.args.plan.now.cores * t) c.ticks.ensures.value in
    omega (arith, both, all, so_far, a, b)

pub row-requires : goal.row-requires
row-requires g c =
    let run = c.loop-turn.invariant in
    let whole : c.args.merging ≡ run.0 ++ c.row-row.result ∷ c.row-row.new.self = sym run.2 ∙ ap (λ l. run.0 ++ l) c.row-row.ensures in
    subst (λ p. is_named p c.row-row.result ≡ true) (sym (ap (λ (w : WriterModel). w.plan) run.4)) (run_row_named c.args.plan.now run.0 c.row-row.new.self c.row-row.result c.cores.ensures.plan (subst (IsRun c.args.plan.now) whole c.requires.run.1.run))

pub loop-turn-preserved : goal.loop-turn-preserved
loop-turn-preserved g c =
    let run = c.loop-turn.invariant in
    let text = c.loop-turn.text in
    let r = c.row-row.result in
    let told : row_text text.version text.plan r ≡ row_text c.args.version c.args.plan.now r = ap (λ (w : WriterModel). row_text w.version w.plan r) run.4 in
    let row = gathers-as _ _ _ _ _ _ _ told c.row.ensures.text in
    let more = length-append run.0 (r ∷ []) in
    let so_far = run.3 in (
      run.0 ++ r ∷ [],
      gathers-as _ _ _ _ _ _ _ (row_more c.args.version c.args.plan.now run.0 r) (gathers-more _ _ _ _ _ _ _ _ _ run.1 row),
      append_assoc run.0 (r ∷ []) c.row-row.new.self ∙ (ap (λ l. run.0 ++ l) (sym c.row-row.ensures) ∙ run.2),
      omega (arith, more, so_far),
      c.row.ensures.same ∙ ap (λ (w : WriterModel). record w { text = c.row.new.self.text }) run.4,
    )

pub returns-clause-run : goal.returns-clause-run
returns-clause-run g c =
    let run = c.loop-turn.invariant in
    let both = length-append run.0 c.loop-turn.merging in
    let all = ap length run.2 ∙ c.requires.run.1.run.size in
    let so_far = run.3 in
    let a = ap (λ m. m * c.ticks.result) c.cores.ensures.value in
    let b = ap (λ t. c.args.plan.now.cores * t) c.ticks.ensures.value in
    let none = nil_from_length c.loop-turn.merging (omega (arith, both, all, so_far, a, b)) in
    let whole : run.0 ≡ c.args.merging = sym (append-nil run.0) ∙ (ap (λ l. run.0 ++ l) (sym none) ∙ run.2) in
    record {
      rows = c.args.merging;
      run = c.requires.run;
      text = gathers-all _ _ _ _ _ _ (gathers-as _ _ _ _ _ _ _ (ap (trace_text c.args.version c.args.plan.now) whole) run.1) c.finish.ensures.wrote;
    }
