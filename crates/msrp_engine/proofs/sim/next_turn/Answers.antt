use Rattle.std.proofs.Common.{◌≡◌, ◌<◌, ◌+◌, ◌*◌, ◌∙◌}
use Rattle.msrp_plan.proofs.Common.{true, ap, refl, sym, subst, IsPlan, PlanModel}
use Rattle.msrp_sim.specs.Simulated.{SimModel, HasMade}
use Rattle.msrp_trace.specs.Gathering.{after_tick}
use Rattle.msrp_trace.specs.TraceText.{is_named}
use Rattle.msrp_trace.specs.Texts.{TextsModel, text_of_core}
use Rattle.msrp_engine.specs.Inside.Known.{KeepKnown}
use Rattle.msrp_engine.proofs.NamedRows.{made_named}
use Rattle.msrp_engine.proofs.KnownTexts.{keep_on, known_text, made_core, other_text}
use Rattle.msrp_engine.proofs.sim.next_turn.Goals as goal

pub turn-row-requires : goal.turn-row-requires
turn-row-requires c = subst (λ (s : SimModel). s.turn < s.plan.cores * s.plan.ticks) (sym c.in-None.ensures.none) c.requires.left

pub show-requires : goal.show-requires
show-requires c =
    let was = c.in-None.ensures.none in
    let now = c.turn-row.new.self in
    let plan : now.plan ≡ c.args.simulation.now.plan = c.turn-row.ensures.plan ∙ ap (λ (s : SimModel). s.plan) was in
    let made = c.turn-row.ensures.row c.requires.made.rows (subst (λ s. HasMade s c.requires.made.rows) (sym was) c.requires.made.made) in
    subst (λ p. is_named p c.turn-row.result ≡ true) (plan ∙ sym c.requires.plan) (made_named now c.requires.made.rows c.turn-row.result (subst IsPlan (sym plan) c.requires.accepted) made)

pub returns-in-Some-clause-text : goal.returns-in-Some-clause-text
returns-in-Some-clause-text c =
    let e = c.in-Some.ensures in
    let made = e.row c.requires.made.rows c.requires.made.made in
    let low = subst (λ (p : PlanModel). c.in-Some.row.core.0 < p.cores) c.repeat.ensures.plan (made_core c.repeat.new.self c.requires.made.rows c.in-Some.row made) in
    known_text c.args.simulation.now c.args.texts.now c.in-Some.row c.requires.known low e.known

pub returns-in-Some-clause-known : goal.returns-in-Some-clause-known
returns-in-Some-clause-known c =
    let e = c.in-Some.ensures in
    let made = e.row c.requires.made.rows c.requires.made.made in
    let low = subst (λ (p : PlanModel). c.in-Some.row.core.0 < p.cores) c.repeat.ensures.plan (made_core c.repeat.new.self c.requires.made.rows c.in-Some.row made) in
    keep_on c.args.simulation.now c.repeat.new.self c.args.texts.now c.args.texts.now c.in-Some.row c.repeat.ensures.plan c.requires.accepted.draft.cores.1 low e.leaves refl refl (known_text c.args.simulation.now c.args.texts.now c.in-Some.row c.requires.known low e.known) (λ d ne. refl) c.requires.known

pub returns-in-None-clause-plan : goal.returns-in-None-clause-plan
returns-in-None-clause-plan c = c.turn-row.ensures.plan ∙ ap (λ (s : SimModel). s.plan) c.in-None.ensures.none

pub returns-in-None-clause-order : goal.returns-in-None-clause-order
returns-in-None-clause-order c = c.turn-row.ensures.order ∙ ap (λ (s : SimModel). s.order) c.in-None.ensures.none

pub returns-in-None-clause-turn : goal.returns-in-None-clause-turn
returns-in-None-clause-turn c = c.turn-row.ensures.turn ∙ ap (λ (s : SimModel). s.turn + 1) c.in-None.ensures.none

pub returns-in-None-clause-row : goal.returns-in-None-clause-row
returns-in-None-clause-row c = λ rows made. c.turn-row.ensures.row rows (subst (λ s. HasMade s rows) (sym c.in-None.ensures.none) made)

pub returns-in-None-clause-text : goal.returns-in-None-clause-text
returns-in-None-clause-text c = c.show.ensures.here

pub returns-in-None-clause-same : goal.returns-in-None-clause-same
returns-in-None-clause-same c = c.show.ensures.texts ∙ ap (λ (t : TextsModel). record c.args.texts.now { texts = t.texts }) (sym c.show.ensures.texts)

pub returns-in-None-clause-known : goal.returns-in-None-clause-known
returns-in-None-clause-known c =
    let was = c.in-None.ensures.none in
    let old = c.repeat.new.self in
    let now = c.turn-row.new.self in
    let row = c.turn-row.result in
    let before = c.args.texts.now in
    let after = c.show.new.self in
    let texts = c.show.ensures.texts in
    let made = c.turn-row.ensures.row c.requires.made.rows (subst (λ s. HasMade s c.requires.made.rows) (sym was) c.requires.made.made) in
    let low = subst (λ (p : PlanModel). row.core.0 < p.cores) c.turn-row.ensures.plan (made_core now c.requires.made.rows row made) in
    let few = (subst (λ (s : SimModel). IsPlan s.plan) (sym was) c.requires.accepted).draft.cores.1 in
    let version = ap (λ (t : TextsModel). t.version) texts in
    let plan = ap (λ (t : TextsModel). t.plan) texts in
    let here : text_of_core after row.core.0 ≡ after_tick after.version after.plan row = c.show.ensures.here ∙ ap (λ (t : TextsModel). after_tick t.version t.plan row) (sym texts) in
    let kept = subst (λ s. KeepKnown s before) (sym was) c.requires.known in
    keep_on old now before after row c.turn-row.ensures.plan few low c.turn-row.ensures.leaves version plan here
    (λ d ne. ap (λ (t : TextsModel). text_of_core t d) texts ∙ other_text before _ row.core.0 (after_tick before.version before.plan row) refl d ne) kept
