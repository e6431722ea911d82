-- Work conservation: a core idles exactly where its released jobs are finished. Where nobody runs
-- nobody presses on the head, so it starts.
use Rattle.msrp_plan.specs.Common.{ℕ, Bool, true, false, cond, List, [], Option, Some, None, nat_lt, length, Contains, PlanModel, release, units, has_shape, jobs_on, is_started, is_finished, done, level, ceiling, is_before, head, running, chosen, choice, IsLegal, IsRunStart, IsPlan}
use Rattle.msrp_plan.specs.declared.ids.JobId.{JobId}
use Rattle.msrp_plan.specs.declared.ids.ResId.{ResId}
use Rattle.msrp_plan.specs.declared.rows.Kind.TheVariants.{Idle}
use Rattle.msrp_plan.specs.declared.rows.Row.{Row}
use Rattle.std.proofs.Common.{◌≡◌, ◌≤◌, refl, ap, sym, ◌∙◌, subst, arith}
use Rattle.std.proofs.lemmas.Bool.{eqb-true, ltb-false, true_from_ne_false}
use Rattle.std.proofs.lemmas.Option.{slice_get_within}
use Rattle.msrp_plan.specs.Scheduling.{AllFinished, IdlesLast, WorkConservation}
use Rattle.msrp_plan.proofs.Lists.Prefixes.{each_along}
use Rattle.msrp_plan.proofs.Choosing.Live.{is_live, live}
use Rattle.msrp_plan.proofs.Lists.LeastKept.{least_some}
use Rattle.msrp_plan.proofs.Legality.LegalRows.{IsTurn, legal_turn}
use Rattle.msrp_plan.proofs.Blocking.Pressing.{press_live, pressed}
use Rattle.msrp_plan.proofs.Blocking.Sound.{IsSound, sound_push, sound_none, sound_asking, is_ready, ready}
use Rattle.msrp_plan.proofs.Scheduling.Released.{AreReleased, released_push, released_none, turn_released}
use Rattle.msrp_plan.proofs.Spinning.QueueWork.{chosen_none}

-- ---- where nobody has the turn
-- and the head, if there is one, isn't above the ceiling
head_low : (plan : PlanModel) (n : ℕ) (h : JobId) (b : Bool) → nat_lt n (level plan h.task.0) ≡ b → cond b (Some h) None ≡ None → level plan h.task.0 ≤ n
head_low plan n h true e c = absurd (cc)
head_low plan n h false e c = ltb-false n (level plan h.task.0) e

-- but then somebody would run
head_starts : (plan : PlanModel) (c t : ℕ) (pre : List Row) (h : JobId) → IsPlan plan → IsSound plan pre → running plan c pre ≡ None → chosen plan (ceiling plan c pre) (Some h) None ≡ None → ⊥
head_starts plan c t pre h ok sound idle none =
    let low = head_low plan (ceiling plan c pre) h (nat_lt (ceiling plan c pre) (level plan h.task.0)) refl none in
    let p = pressed plan c (level plan h.task.0) pre (sound_asking plan pre ok sound) (omega arith) low in
    least_some (is_before plan) (is_live plan pre) (jobs_on plan c) p.job idle p.on (press_live plan pre p.job (level plan h.task.0) ok p.presses)

-- so nobody is ready
none_ready : (plan : PlanModel) (c t : ℕ) (pre : List Row) (o : Option JobId) → head plan c t pre ≡ o → IsPlan plan → IsSound plan pre → running plan c pre ≡ None → choice plan c t pre ≡ None → (j : JobId) → Contains (jobs_on plan c) j → release plan j ≤ t → is_started pre j ≡ false → ⊥
none_ready plan c t pre None e ok sound idle none j on l s = least_some (is_before plan) (is_ready plan t pre) (jobs_on plan c) j e on (ready plan t pre j l s)
none_ready plan c t pre (Some h) e ok sound idle none j on l s =
    head_starts plan c t pre h ok sound idle (sym (ap (λ o. chosen plan (ceiling plan c pre) o (running plan c pre)) e ∙ ap (chosen plan (ceiling plan c pre) (Some h)) idle) ∙ none)

-- and whoever is released is finished
all_finished : (plan : PlanModel) (c t : ℕ) (pre : List Row) → IsPlan plan → IsSound plan pre → choice plan c t pre ≡ None → (j : JobId) → Contains (jobs_on plan c) j → release plan j ≤ t → is_finished plan pre j ≡ true
all_finished plan c t pre ok sound none j on l =
    let idle = chosen_none plan (ceiling plan c pre) (head plan c t pre) (running plan c pre) none in
    let started : is_started pre j ≡ true = true_from_ne_false (is_started pre j) (none_ready plan c t pre (head plan c t pre) refl ok sound idle none j on l) in
    true_from_ne_false (is_finished plan pre j) (λ f. least_some (is_before plan) (is_live plan pre) (jobs_on plan c) j idle on (live plan pre j started f))

-- ---- an idle row has no job
pub idle_job : (r : Row) → r.kind ≡ Idle → r.job ≡ None
idle_job r e = none r.job r.res (subst (λ k. has_shape k r.job r.res ≡ true) e r.shape)
  where
    none : (o : Option JobId) (res : Option ResId) → has_shape Idle o res ≡ true → o ≡ None
    none None res h = refl
    none (Some j) res h = absurd (cc)

-- whoever has the turn isn't finished
turn_unfinished : (plan : PlanModel) (pre : List Row) (r : Row) (x : JobId) → IsTurn plan pre r → r.job ≡ Some x → is_finished plan pre x ≡ true → ⊥
turn_unfinished plan pre r x turn job f =
    let d = turn.does x job in
    let within = slice_get_within (units plan x) (done x pre) d.op d.unit in
    let all = eqb-true (done x pre) (length (units plan x)) f in
    absurd (omega (arith, within, all))

-- ---- along the run
record IsPaced (plan : PlanModel) (pre : List Row) : Type 0 where
  sound : IsSound plan pre
  released : AreReleased plan pre

-- by whether the row has a job
idle_cases : (plan : PlanModel) (pre : List Row) (r : Row) (o : Option JobId) → r.job ≡ o → IsPaced plan pre → IsLegal plan pre r → AllFinished plan pre r → r.kind ≡ Idle
idle_cases plan pre r None job old legal all = (legal_turn plan pre r legal).idle job
idle_cases plan pre r (Some x) job old legal all =
    let turn = legal_turn plan pre r legal in
    absurd (turn_unfinished plan pre r x turn job (all x (turn.known x job) (turn_released plan pre r old.released legal x job)))

idles_last : (plan : PlanModel) → IsPlan plan → (pre : List Row) (r : Row) → IsPaced plan pre → IsLegal plan pre r → IdlesLast plan pre r
idles_last plan ok pre r old legal = (
  λ idle. all_finished plan r.core.0 r.tick pre ok old.sound (sym (legal_turn plan pre r legal).job ∙ idle_job r idle),
  idle_cases plan pre r r.job refl old legal,
)

-- over a whole start
pub work_conservation : (plan : PlanModel) (rows : List Row) → IsPlan plan → IsRunStart plan rows → WorkConservation plan rows
work_conservation plan rows ok run =
    each_along (IsPaced plan) (IsLegal plan) (IdlesLast plan) (λ pre r old legal. record { sound = sound_push plan ok pre r old.sound legal; released = released_push plan pre r old.released legal }) (idles_last plan ok)
    [] rows (record { sound = sound_none plan; released = released_none plan }) run.each
