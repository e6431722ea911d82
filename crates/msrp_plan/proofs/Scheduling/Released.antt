-- No job runs before its release: whoever starts is released, and ticks never fall.
use Rattle.msrp_plan.specs.Common.{Bool, true, false, List, [], length, PlanModel, release, is_row_of, is_started, IsLegal, IsRunStart, JobState}
use Rattle.msrp_plan.specs.declared.ids.JobId.{JobId}
use Rattle.msrp_plan.specs.declared.rows.Row.{Row}
use Rattle.std.proofs.Common.{◌≡◌, ◌≤◌, ◌/◌, ◌∷◌, ◌++◌, refl, ap, sym, ◌∙◌, arith, inl, inr}
use Rattle.std.proofs.Math.Bool.{true≢false}
use Rattle.msrp_plan.specs.Scheduling.{IsOfReleased, RunsReleased}
use Rattle.msrp_plan.proofs.Jobs.JobTests.{is_job_is}
use Rattle.msrp_plan.proofs.Lists.Prefixes.{each_along}
use Rattle.msrp_plan.proofs.Jobs.States.{state_kept}
use Rattle.msrp_plan.proofs.Choosing.Turns.{has_turn, runs_live}
use Rattle.msrp_plan.proofs.Legality.LegalRows.{legal_turn, legal_due, turn_chosen}
use Rattle.msrp_plan.proofs.Blocking.Sound.{head_ready}
use Rattle.msrp_plan.proofs.Blocking.OneSection.{tick_grows}

-- whoever is started was released by the tick that is due
abbrev pub AreReleased : PlanModel → List Row → Type 0
AreReleased plan pre = (j : JobId) → is_started pre j ≡ true → release plan j ≤ length pre / plan.cores

-- so whoever has the turn is released
pub turn_released : (plan : PlanModel) (pre : List Row) (r : Row) → AreReleased plan pre → IsLegal plan pre r → IsOfReleased plan pre r
turn_released plan pre r old legal = λ j job.
    let tick = (legal_due plan pre r legal).tick in
    elim (has_turn plan r.core.0 r.tick pre j (turn_chosen plan pre r j (legal_turn plan pre r legal) job)) [
      | inl new ↦ (head_ready plan r.core.0 r.tick pre j new.first).0
      | inr runs ↦ let l = old j (runs_live plan r.core.0 pre j runs).0 in omega (arith, l, tick)
    ]

-- by whose row it is
released_cases : (plan : PlanModel) (pre : List Row) (r : Row) (j : JobId) (mine : Bool) → is_row_of j r ≡ mine → AreReleased plan pre → IsLegal plan pre r → is_started (pre ++ r ∷ []) j ≡ true → release plan j ≤ length (pre ++ r ∷ []) / plan.cores
released_cases plan pre r j true e old legal s =
    let tick = (legal_due plan pre r legal).tick in
    let l = turn_released plan pre r old legal j (is_job_is r.job j e) in
    let grows = tick_grows plan pre r legal in
    omega (arith, l, tick, grows)
released_cases plan pre r j false e old legal s =
    let l = old j (sym (ap (λ (x : JobState). x.started) (state_kept pre r j e)) ∙ s) in
    let grows = tick_grows plan pre r legal in
    omega (arith, l, grows)

-- each legal row keeps it
pub released_push : (plan : PlanModel) (pre : List Row) (r : Row) → AreReleased plan pre → IsLegal plan pre r → AreReleased plan (pre ++ r ∷ [])
released_push plan pre r old legal = λ j. released_cases plan pre r j (is_row_of j r) refl old legal

-- it holds before the first row
pub released_none : (plan : PlanModel) → AreReleased plan []
released_none plan = λ j s. absurd (true≢false (sym s))

-- over a whole start
pub runs_released : (plan : PlanModel) (rows : List Row) → IsRunStart plan rows → RunsReleased plan rows
runs_released plan rows run = each_along (AreReleased plan) (IsLegal plan) (IsOfReleased plan) (released_push plan) (turn_released plan) [] rows (released_none plan) run.each
