use Rattle.std.proofs.Common.{◌≡◌, ℕ, ◌∙◌}
use Rattle.msrp_plan.proofs.Common.{Some, IfSome, ap, subst, sym}
use Rattle.msrp_c.specs.Contents.{core_in}
use Rattle.msrp_c.specs.Hosting.{TakesTurn}
use Rattle.msrp_c.specs.declared.content.Content.{Content}
use Rattle.msrp_c.proofs.Turning.{takes}
use Rattle.msrp_c.proofs.cores.msrp_core_turn.Goals as goal

pub returns-in-Turn-clause-turn : goal.returns-in-Turn-clause-turn
returns-in-Turn-clause-turn c =
    let row = c.numbers_of_row.result in
    let place = c.place_number.result in
    let turned = c.turn-turned in
    subst (λ was. IfSome (core_in was) (λ old. (λ (n : ℕ). n ≡ n) 0 → TakesTurn old (core_in c.held.result.value) row place)) (ap (λ (x : Content). Some x) c.deref_mut.ensures.value ∙ c.in-Some.ensures.taken)
    (subst (λ now. IfSome (core_in (Some c.deref_mut.result.now)) (λ old. (λ (n : ℕ). n ≡ n) 0 → TakesTurn old (core_in now) row place)) (sym c.held.ensures)
    (takes _ _ _ turned.result c.in-Turn.turn row place c.in-Turn.is turned.ensures.waited turned.ensures.turn c.numbers_of_row.ensures c.place_number.ensures))
