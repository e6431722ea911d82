-- What decides who has the turn of a core is told by the rows of the core alone, and so by its
-- machine.
use Rattle.std.proofs.Common.{◌≡◌, ◌&&◌, ◌∙◌}
use Rattle.msrp_plan.proofs.Common.{ℕ, not, List, [], Some, ap, sym, subst, length, slice_get, All-contains, All-from_recursion, PlanModel, is_finished, is_started, jobs_on, is_before, log_of, JobState, state_after, least_in, AreOwn, own_from_legal}
use Rattle.msrp_plan.specs.declared.rows.Row.{Row}
use Rattle.msrp_plan.proofs.Legality.Locality.{ceiling_same, head_same, running_same, states_local}
use Rattle.msrp_core.specs.CoreStates.{IsCoreState}
use Rattle.msrp_core.specs.Machine.{MachineModel, StandsAfter}
use Rattle.msrp_core.specs.declared.states.CoreState.{CoreState}
use Rattle.msrp_sim.specs.Cores.{AreCores, CoresModel, StandFor}

-- so what holds after the log holds after all rows
state_local_too : (plan : PlanModel) (c t : ℕ) (rows : List Row) (s : CoreState) → AreOwn plan rows → IsCoreState plan c t (log_of c rows) s → IsCoreState plan c t rows s
state_local_too plan c t rows s own told =
    let same = states_local plan c rows own in
    let log = log_of c rows in
    record {
      running = told.running ∙ running_same plan c log rows same;
      head = told.head ∙ head_same plan c t log rows same;
      ceiling = told.ceiling ∙ ceiling_same plan c log rows same;
      done = λ j e.
          let there = least_in (is_before plan) (λ i. is_started log i && not (is_finished plan log i)) (jobs_on plan c) j (sym told.running ∙ e) in
          let states : state_after log j ≡ state_after rows j = All-contains (λ i. state_after log i ≡ state_after rows i) (jobs_on plan c) j (All-from_recursion (λ i. state_after log i ≡ state_after rows i) (jobs_on plan c) same) there in
          told.done j e ∙ ap (λ (k : JobState). k.done) states;
      none = told.none;
    }

-- what the machine of a core tells
pub core_state : (m : CoresModel) (rows : List Row) (c : ℕ) (x : MachineModel) (s : CoreState) → AreCores m → slice_get m.machines c ≡ Some x → StandFor m rows → ((log : List Row) → StandsAfter x log → IsCoreState x.plan x.core (length log) log s)
    → IsCoreState m.plan c (length (log_of c rows)) rows s
core_state m rows c x s cores has stands told =
    let own = cores.each c x has in
    let log = log_of c rows in
    let here : IsCoreState m.plan c (length log) log s = subst (λ p. IsCoreState p c (length log) log s) own.same_plan (subst (λ k. IsCoreState x.plan k (length log) log s) own.core (told log (stands.logs c x has))) in
    state_local_too m.plan c (length log) rows s (own_from_legal m.plan [] rows stands.start.each) here
