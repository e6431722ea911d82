use Rattle.msrp_plan.proofs.Common.{refl, [], arith, sym, subst, ap, get_or, length, length-append, length-map}
use Rattle.std.proofs.Common.{◌-◌, ◌≡◌, ◌∷◌, ◌++◌, ◌∙◌}
use Rattle.msrp_merge.specs.Turns.{LogModel}
use Rattle.msrp_merge.specs.declared.logs.Turn.{Turn}
use Rattle.msrp_hosted.specs.Hosted.{HostedCoreModel}
use Rattle.msrp_hosted.specs.declared.steps.CoreStep.TheVariants.{InTurn}
use Rattle.msrp_hosted.proofs.Hosting.{core_as, core_with, last_turn}
use Rattle.msrp_hosted.proofs.cores.HostedCore.look.Goals as goal

pub returns-in-Turn-clause-turn : goal.returns-in-Turn-clause-turn
returns-in-Turn-clause-turn c t is =
    let old = c.self.inside.log.turns in
    let m = c.begin-begun.new.machine in
    let log = c.begin-begun.new.log in
    let q = c.begin-begun.ensures.turn _ c.in-Turn.is in
    let more = c.begin-begun.ensures.logged _ c.in-Turn.is in
    let x : Turn = record { row = c.in-Turn.field-0; place = more.0 } in
    let turns : log.turns ≡ old ++ x ∷ [] = ap (λ (l : LogModel). l.turns) more.1 in
    let at = c.tick.ensures in
    let stands = q.turned.stands.tick in
    let count = length-map log.turns (λ (y : Turn). y.row) in
    let longer = ap length turns in
    let one_more = length-append old (x ∷ []) in
    let last : c.turn.result ≡ x = last_turn old x c.turn.result (c.tick.result - 1) (omega (arith, at, stands, count, longer, one_more)) (λ d. c.turn.ensures d ∙ ap (λ ts. get_or ts (c.tick.result - 1) d) turns) in
    let same : c.turn.result ≡ t = cc in
    subst (λ (s : HostedCoreModel). core_with m.plan m.core c.self.inside.board.value log.turns InTurn ≡ core_with s.plan s.core s.board (s.turns ++ t ∷ []) InTurn) c.self.view_is
    (core_as _ _ _ _ _ _ _ _ _ (q.turned.plan ∙ q.at_work.plan_is) (q.turned.core ∙ q.at_work.core) refl (turns ∙ ap (λ y. old ++ y ∷ []) (sym last ∙ same)))
