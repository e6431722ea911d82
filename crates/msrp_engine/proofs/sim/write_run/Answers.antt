use Rattle.std.proofs.Common.{◌≡◌, ◌∙◌, ◌+◌, ◌*◌, ◌<◌, ◌∷◌, ◌++◌}
use Rattle.msrp_plan.proofs.Common.{[], ap, decimal, refl, sym, subst, arith, append-nil, PlanModel, IsPlan}
use Rattle.msrp_trace.specs.Gathering.{WriterModel, after_tick}
use Rattle.msrp_trace.specs.Texts.{TextsModel}
use Rattle.msrp_trace.specs.TraceText.{head_text}
use Rattle.msrp_trace.proofs.Gathered.{gathers-all, gathers-as, gathers-more}
use Rattle.msrp_sim.proofs.NextTurn.{run_in}
use Rattle.msrp_trace.proofs.Records.{row-is}
use Rattle.msrp_engine.proofs.KnownTexts.{keep_none}
use Rattle.msrp_engine.proofs.NamedRows.{row_more}
use Rattle.msrp_engine.proofs.sim.write_run.Goals as goal

pub loop-turn-init : goal.loop-turn-init
loop-turn-init g c =
    let head = gathers-as _ _ _ _ _ _ _ (sym (append-nil (head_text c.args.version c.args.plan.now))) (rw c.new-text.ensures at c.head.ensures.text) in
    ([], head, c.requires.made, c.requires.plan, refl, c.requires.turn, c.head.ensures.same ∙ ap (λ (w : WriterModel). record w { text = c.head.new.self.text }) c.new-text.ensures, c.new-texts.ensures.plan, c.new-texts.ensures.version, keep_none c.args.simulation.now c.new-texts.result c.requires.known)

pub next_turn-row-requires-clause-accepted : goal.next_turn-row-requires-clause-accepted
next_turn-row-requires-clause-accepted g c = subst IsPlan (sym c.loop-turn.invariant.3) c.cores.ensures.plan

pub next_turn-row-requires-clause-plan : goal.next_turn-row-requires-clause-plan
next_turn-row-requires-clause-plan g c = let run = c.loop-turn.invariant in run.7 ∙ sym run.3

pub next_turn-row-requires-clause-left : goal.next_turn-row-requires-clause-left
next_turn-row-requires-clause-left g c =
    let run = c.loop-turn.invariant in
    let a = ap (λ m. m * c.ticks.result) c.cores.ensures.value in
    let b = ap (λ t. c.args.plan.now.cores * t) c.ticks.ensures.value in
    let turn = run.5 in
    subst (λ (p : PlanModel). c.loop-turn.simulation.turn < p.cores * p.ticks) (sym run.3) (omega (arith, a, b, turn))

pub next_turn-row-requires-clause-made : goal.next_turn-row-requires-clause-made
next_turn-row-requires-clause-made g c = let run = c.loop-turn.invariant in record { rows = run.0; made = run.2 }

pub loop-turn-preserved : goal.loop-turn-preserved
loop-turn-preserved g c =
    let run = c.loop-turn.invariant in
    let e = c.next_turn-row.ensures in
    let row = c.next_turn-row.result in
    let told : after_tick c.loop-turn.texts.version c.loop-turn.texts.plan row ≡ after_tick c.args.version c.args.plan.now row = ap (λ v. after_tick v c.loop-turn.texts.plan row) run.8 ∙ ap (λ p. after_tick c.args.version p row) run.7 in
    let line = ap (λ t. decimal row.tick ++ t) (e.text ∙ told) ∙ row-is c.args.version c.args.plan.now row in
    let again = gathers-as _ _ _ _ _ _ _ line c.again.ensures.text in (
      run.0 ++ row ∷ [],
      gathers-as _ _ _ _ _ _ _ (row_more c.args.version c.args.plan.now run.0 row) (gathers-more _ _ _ _ _ _ _ _ _ run.1 again),
      e.row run.0 run.2,
      e.plan ∙ run.3,
      e.order ∙ run.4,
      e.turn ∙ ap (λ n. n + 1) run.5,
      c.again.ensures.same ∙ ap (λ (w : WriterModel). record w { text = c.again.new.self.text }) run.6,
      ap (λ (t : TextsModel). t.plan) e.same ∙ run.7,
      ap (λ (t : TextsModel). t.version) e.same ∙ run.8,
      e.known,
    )

pub returns-clause-run : goal.returns-clause-run
returns-clause-run g c =
    let run = c.loop-turn.invariant in
    let a = ap (λ m. m * c.ticks.result) c.cores.ensures.value in
    let b = ap (λ t. c.args.plan.now.cores * t) c.ticks.ensures.value in
    let e : c.loop-turn._turn ≡ c.cores.result * c.ticks.result = omega arith in
    record {
      rows = run.0;
      run = run_in c.args.plan.now c.args.simulation.now.order c.loop-turn.simulation run.0 c.requires.order run.3 run.4 (run.5 ∙ (e ∙ (a ∙ b))) run.2;
      text = gathers-all _ _ _ _ _ _ run.1 c.finish.ensures.wrote;
    }
