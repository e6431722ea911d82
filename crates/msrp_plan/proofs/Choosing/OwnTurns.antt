-- While a job holds a global resource or waits for one, no other live job of its core is before it,
-- and its core's turns are its own.
use Rattle.msrp_plan.specs.Common.{ℕ, Bool, true, false, List, [], Some, Contains, PlanModel, jobs_on, is_row_of, done, is_global, resources, is_before, choice, IsPlan}
use Rattle.msrp_plan.specs.declared.ids.JobId.{JobId}
use Rattle.msrp_plan.specs.declared.rows.Row.{Row}
use Rattle.std.proofs.Common.{◌≡◌, ◌∷◌, ◌++◌, refl, sym, ◌∙◌, subst, arith, inl, inr}
use Rattle.std.proofs.Math.Bool.{true≢false}
use Rattle.msrp_plan.proofs.Jobs.JobTests.{some_is, is_job_is}
use Rattle.msrp_plan.proofs.Jobs.Keys.{before_order, tied}
use Rattle.msrp_plan.proofs.Lists.LeastKept.{irrefl}
use Rattle.msrp_plan.proofs.TaskUnits.PlanUnits.{task_in}
use Rattle.msrp_plan.proofs.TaskUnits.Stands.{IsUp, up_cases, stand_kept}
use Rattle.msrp_plan.proofs.Choosing.Live.{is_live, live, live_kept, up_live}
use Rattle.msrp_plan.proofs.Levels.Ceilings.{is_raised, raised_above, top_above, holder_raises, queued_raises}
use Rattle.msrp_plan.proofs.Choosing.Turns.{has_turn, runs_live, runs_least, turn_least}
use Rattle.msrp_plan.proofs.Jobs.CoreJobs.{on_its_core}
use Rattle.msrp_plan.proofs.Legality.LegalRows.{IsTurn, turn_core, turn_chosen}

-- ---- it raises the ceiling of its core
up_raises : (plan : PlanModel) (c g : ℕ) (pre : List Row) (j : JobId) → is_global plan g ≡ true → Contains (resources plan) g → Contains (jobs_on plan c) j → IsUp plan g pre j → is_raised plan c pre ≡ true
up_raises plan c g pre j glob named there up =
    elim (up_cases plan g pre j up) [
      | inl h ↦ holder_raises plan c g pre j glob named there h
      | inr q ↦ queued_raises plan c pre j there q.0
    ]

-- ---- the invariant, of core c
abbrev pub IsFirm : PlanModel → ℕ → ℕ → List Row → Type 0
IsFirm plan g c pre = (y z : JobId) → Contains (jobs_on plan c) y → Contains (jobs_on plan c) z → IsUp plan g pre y → is_live plan pre z ≡ true → is_before plan z y ≡ false

-- so the core's turns are its own
pub up_alone : (plan : PlanModel) (g : ℕ) (pre : List Row) (r : Row) (x y : JobId) → IsPlan plan → is_global plan g ≡ true → Contains (resources plan) g → IsFirm plan g r.core.0 pre → IsTurn plan pre r → r.job ≡ Some x → Contains (jobs_on plan r.core.0) y → IsUp plan g pre y → x ≡ y
up_alone plan g pre r x y ok glob named firm turn job there up =
    let known = turn.known x job in
    elim (has_turn plan r.core.0 r.tick pre x (turn_chosen plan pre r x turn job)) [
      | inl new ↦
          let a = new.above in
          let b = raised_above plan r.core.0 pre (up_raises plan r.core.0 g pre y glob named there up) in
          let does = turn.does x job in
          let d = top_above plan r.core.0 x (task_in plan x.task.0 (done x pre) does.op does.unit) (on_its_core plan r.core.0 x known) in
          absurd (omega (arith, a, b, d))
      | inr runs ↦
          let l = runs_live plan r.core.0 pre x runs in
          tied plan x y (firm y x there known up (live plan pre x l.0 l.1)) (runs_least plan r.core.0 pre x y runs there (up_live plan g pre y ok up))
    ]

-- a row of another job leaves its stand
pub up_kept : (plan : PlanModel) (g : ℕ) (pre : List Row) (r : Row) (y : JobId) → is_row_of y r ≡ false → IsUp plan g (pre ++ r ∷ []) y → IsUp plan g pre y
up_kept plan g pre r y e up = λ h. up (stand_kept plan g pre r y e ∙ h)

-- the row of a job of the core is one of the core
on_core : (plan : PlanModel) (c : ℕ) (pre : List Row) (r : Row) (x : JobId) → IsTurn plan pre r → r.job ≡ Some x → Contains (jobs_on plan c) x → r.core.0 ≡ c
on_core plan c pre r x turn job there = sym (turn_core plan pre r x turn job) ∙ on_its_core plan c x there

-- by whose row it is
firm_cases : (plan : PlanModel) (g c : ℕ) (pre : List Row) (r : Row) → IsPlan plan → is_global plan g ≡ true → Contains (resources plan) g → IsFirm plan g c pre → IsTurn plan pre r
    → (y z : JobId) (my mz : Bool) → is_row_of y r ≡ my → is_row_of z r ≡ mz → Contains (jobs_on plan c) y → Contains (jobs_on plan c) z → IsUp plan g (pre ++ r ∷ []) y → is_live plan (pre ++ r ∷ []) z ≡ true → is_before plan z y ≡ false
firm_cases plan g c pre r ok glob named firm turn y z true true ey ez iny inz up l =
    let s : y ≡ z = some_is y z (sym (is_job_is r.job y ey) ∙ is_job_is r.job z ez) in
    subst (λ w. is_before plan w y ≡ false) s (irrefl (is_before plan) (before_order plan) y)
firm_cases plan g c pre r ok glob named firm turn y z false false ey ez iny inz up l =
    firm y z iny inz (up_kept plan g pre r y ey up) (sym (live_kept plan pre r z ez) ∙ l)
firm_cases plan g c pre r ok glob named firm turn y z true false ey ez iny inz up l =
    let job = is_job_is r.job y ey in
    let at = on_core plan c pre r y turn job iny in
    turn_least plan c r.tick pre y z (subst (λ n. choice plan n r.tick pre ≡ Some y) at (turn_chosen plan pre r y turn job)) inz (sym (live_kept plan pre r z ez) ∙ l)
firm_cases plan g c pre r ok glob named firm turn y z false true ey ez iny inz up l =
    let job = is_job_is r.job z ez in
    let at = on_core plan c pre r z turn job inz in
    let s : z ≡ y = up_alone plan g pre r z y ok glob named (subst (λ n. IsFirm plan g n pre) (sym at) firm) turn job (subst (λ n. Contains (jobs_on plan n) y) (sym at) iny) (up_kept plan g pre r y ey up) in
    absurd (true≢false (sym ez ∙ subst (λ w. is_row_of w r ≡ false) (sym s) ey))

-- each turn keeps it
pub firm_push : (plan : PlanModel) (g c : ℕ) (pre : List Row) (r : Row) → IsPlan plan → is_global plan g ≡ true → Contains (resources plan) g → IsFirm plan g c pre → IsTurn plan pre r → IsFirm plan g c (pre ++ r ∷ [])
firm_push plan g c pre r ok glob named firm turn = λ y z. firm_cases plan g c pre r ok glob named firm turn y z (is_row_of y r) (is_row_of z r) refl refl

-- it holds before the first row
pub firm_none : (plan : PlanModel) (g c : ℕ) → IsFirm plan g c []
firm_none plan g c = λ y z iny inz up l. absurd (true≢false (sym l))
