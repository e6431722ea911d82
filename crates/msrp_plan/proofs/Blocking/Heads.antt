-- Why a later job has the turn of a core while an earlier one is released and unfinished: it runs,
-- the earlier one isn't started, and it presses itself on the level of the core's head.
use Rattle.msrp_plan.specs.Common.{ℕ, Bool, true, false, cond, List, Option, Some, None, nat_lt, Contains, PlanModel, task_of, core_of, release, jobs, jobs_on, same_job, is_released, is_started, is_finished, level, ceiling, is_before, head, running, chosen, choice, blocks, IsPlan}
use Rattle.msrp_plan.specs.declared.ids.JobId.{JobId}
use Rattle.msrp_plan.specs.declared.rows.Row.{Row}
use Rattle.std.proofs.Common.{◌≡◌, ◌≤◌, ◌&&◌, ◌==◌, ◌⊎◌, refl, ap, sym, ◌∙◌, subst, arith, inl, inr, eq-eqb}
use Rattle.std.proofs.Math.Bool.{true≢false}
use Rattle.std.proofs.lemmas.Bool.{and_parts, eqb-true, leb-true, ltb-false, not-true, true_from_ne_false, false_from_ne_true}
use Rattle.msrp_plan.specs.Blocking.{is_later}
use Rattle.msrp_plan.proofs.Lists.Members.{in_filter}
use Rattle.msrp_plan.proofs.Levels.LevelOrder.{level_falls}
use Rattle.msrp_plan.proofs.Jobs.JobTests.{same_is, same_self, some_is}
use Rattle.msrp_plan.proofs.Jobs.Keys.{before_order}
use Rattle.msrp_plan.proofs.Lists.LeastKept.{least_in, least_some}
use Rattle.msrp_plan.proofs.Choosing.Live.{is_live, live}
use Rattle.msrp_plan.proofs.Choosing.Turns.{has_turn, runs_live, runs_least, turn_least}
use Rattle.msrp_plan.proofs.Legality.LegalRows.{IsTurn, turn_chosen}
use Rattle.msrp_plan.proofs.Blocking.Pressing.{Presses, press_live, press_lower, pressed}
use Rattle.msrp_plan.proofs.Blocking.Sound.{IsSound, is_ready, ready, head_ready, head_least, shielded, shorter, sound_asking}

-- job k runs, and presses on the level of the head, which comes no later than j and before k
pub record IsHeldUp (plan : PlanModel) (c t : ℕ) (pre : List Row) (j k : JobId) : Type 0 where
  pub runs : running plan c pre ≡ Some k
  pub first : JobId
  pub on : Contains (jobs_on plan c) first
  pub unstarted : is_started pre first ≡ false
  pub before : is_before plan first k ≡ true
  pub not_later : is_before plan j first ≡ false
  pub presses : Presses plan pre k (level plan first.task.0)

-- who comes before k while j doesn't come before it
pub no_later : (plan : PlanModel) (j h k : JobId) → is_before plan j k ≡ true → is_before plan j h ≡ false → is_before plan h k ≡ true
no_later plan j h k jk jh = true_from_ne_false (is_before plan h k) (λ e. true≢false (sym jk ∙ (before_order plan).chain j h k jh e))

-- where k runs and has the turn, a head before it isn't above the ceiling
blocked_go : (plan : PlanModel) (n : ℕ) (h k : JobId) (b : Bool) → nat_lt n (level plan h.task.0) ≡ b → is_before plan h k ≡ true → chosen plan n (Some h) (Some k) ≡ Some k → (h ≡ k) ⊎ (level plan h.task.0 ≤ n)
blocked_go plan n h k true e b c =
    let p : (nat_lt n (level plan h.task.0) && is_before plan h k) ≡ true = ap (λ x. x && is_before plan h k) e ∙ b in
    inl (some_is h k (sym (ap (λ x. cond x (Some h) (Some k)) p) ∙ c))
blocked_go plan n h k false e b c = inr (ltb-false n (level plan h.task.0) e)

-- whoever presses on the level of a head before k is k itself
presser_is : (plan : PlanModel) (c : ℕ) (pre : List Row) (k h i : JobId) (same : Bool) → same_job i k ≡ same → IsPlan plan → IsSound plan pre → running plan c pre ≡ Some k → Contains (jobs_on plan c) h → is_started pre h ≡ false → is_before plan h k ≡ true → Contains (jobs_on plan c) i
    → Presses plan pre i (level plan h.task.0) → Presses plan pre k (level plan h.task.0)
presser_is plan c pre k h i true e ok sound runs inh s b ini p = subst (λ x. Presses plan pre x (level plan h.task.0)) (same_is i k e) p
presser_is plan c pre k h i false e ok sound runs inh s b ini p =
    let l = runs_live plan c pre k runs in
    let ink = least_in (is_before plan) (is_live plan pre) (jobs_on plan c) k runs in
    let d = shorter plan c pre k h sound ink inh l.0 s b in
    let low = level_falls plan (task_of plan k) (task_of plan h) (omega (arith, d)) in
    absurd (shielded plan c pre k i sound ink ini (λ z. true≢false (sym (subst (λ x. same_job x k ≡ true) z (same_self k)) ∙ e)) (live plan pre k l.0 l.1) (runs_least plan c pre k i runs ini (press_live plan pre i (level plan h.task.0) ok p)) (press_lower plan pre i (level plan h.task.0) (level plan k.task.0) low p))

-- by the head
held_up_by : (plan : PlanModel) (c t : ℕ) (pre : List Row) (j k : JobId) (o : Option JobId) → head plan c t pre ≡ o → IsPlan plan → IsSound plan pre → Contains (jobs_on plan c) j → release plan j ≤ t → is_started pre j ≡ false → is_before plan j k ≡ true → running plan c pre ≡ Some k → choice plan c t pre ≡ Some k → IsHeldUp plan c t pre j k
held_up_by plan c t pre j k None e ok sound on l s b runs turn = absurd (least_some (is_before plan) (is_ready plan t pre) (jobs_on plan c) j e on (ready plan t pre j l s))
held_up_by plan c t pre j k (Some h) e ok sound on l s b runs turn =
    let inh = least_in (is_before plan) (is_ready plan t pre) (jobs_on plan c) h e in
    let fresh = (head_ready plan c t pre h e).1 in
    let jh = head_least plan c t pre h j e on l s in
    let hk = no_later plan j h k b jh in
    let has : chosen plan (ceiling plan c pre) (Some h) (Some k) ≡ Some k = sym (ap (λ o. chosen plan (ceiling plan c pre) o (running plan c pre)) e ∙ ap (chosen plan (ceiling plan c pre) (Some h)) runs) ∙ turn in
    elim (blocked_go plan (ceiling plan c pre) h k (nat_lt (ceiling plan c pre) (level plan h.task.0)) refl hk has) [
      | inl same ↦ absurd (true≢false (sym (runs_live plan c pre k runs).0 ∙ subst (λ x. is_started pre x ≡ false) same fresh))
      | inr low ↦
          let p = pressed plan c (level plan h.task.0) pre (sound_asking plan pre ok sound) (omega arith) low in
          record { runs = runs; first = h; on = inh; unstarted = fresh; before = hk; not_later = jh; presses = presser_is plan c pre k h p.job (same_job p.job k) refl ok sound runs inh fresh hk p.on p.presses }
    ]

-- a later job that has the turn while an earlier one is ready
pub held_up : (plan : PlanModel) (c t : ℕ) (pre : List Row) (j k : JobId) → IsPlan plan → IsSound plan pre → Contains (jobs_on plan c) j → release plan j ≤ t → is_started pre j ≡ false → is_before plan j k ≡ true → choice plan c t pre ≡ Some k → IsHeldUp plan c t pre j k
held_up plan c t pre j k ok sound on l s b turn =
    elim (has_turn plan c t pre k turn) [
      | inl new ↦ absurd (true≢false (sym b ∙ head_least plan c t pre k j new.first on l s))
      | inr runs ↦ held_up_by plan c t pre j k (head plan c t pre) refl ok sound on l s b runs turn
    ]

-- ---- what the test of a row that blocks j says
later_of : (plan : PlanModel) (j : JobId) (o : Option JobId) → is_later plan j o ≡ true → (k : JobId) × (o ≡ Some k) × (is_before plan j k ≡ true)
later_of plan j None h = absurd (cc)
later_of plan j (Some k) h = (k, refl, h)

pub record IsBlockingRow (plan : PlanModel) (pre : List Row) (r : Row) (j : JobId) : Type 0 where
  pub core : r.core.0 ≡ core_of plan j
  pub released : release plan j ≤ r.tick
  pub unfinished : is_finished plan pre j ≡ false
  pub other : JobId
  pub job : r.job ≡ Some other
  pub later : is_before plan j other ≡ true

pub blocking_row : (plan : PlanModel) (pre : List Row) (r : Row) (j : JobId) → blocks plan j pre r ≡ true → IsBlockingRow plan pre r j
blocking_row plan pre r j h =
    let a = and_parts (r.core.0 == core_of plan j) _ h in
    let b = and_parts (is_released plan r.tick j) _ a.1 in
    let c = and_parts _ (is_later plan j r.job) b.1 in
    let k = later_of plan j r.job c.1 in
    record { core = eqb-true r.core.0 (core_of plan j) a.0; released = leb-true (release plan j) r.tick b.0; unfinished = not-true (is_finished plan pre j) c.0; other = k.0; job = k.1; later = k.2 }

-- a job of the plan is one of its core
pub job_on : (plan : PlanModel) (c : ℕ) (j : JobId) → Contains (jobs plan) j → c ≡ core_of plan j → Contains (jobs_on plan c) j
job_on plan c j there e = in_filter (λ i. core_of plan i == c) (jobs plan) j there (eq-eqb (core_of plan j) c (sym e))

-- ---- what stands behind such a row: k is later than j, which isn't started, and holds up the head
pub record IsBehind (plan : PlanModel) (pre : List Row) (r : Row) (j k : JobId) : Type 0 where
  pub job : r.job ≡ Some k
  pub later : is_before plan j k ≡ true
  pub on : Contains (jobs_on plan r.core.0) j
  pub other : Contains (jobs_on plan r.core.0) k
  pub unstarted : is_started pre j ≡ false
  pub held : IsHeldUp plan r.core.0 r.tick pre j k

-- a later job has no turn while j is started and unfinished
waits_for_none : (plan : PlanModel) (c t : ℕ) (pre : List Row) (j k : JobId) → Contains (jobs_on plan c) j → is_finished plan pre j ≡ false → is_before plan j k ≡ true → choice plan c t pre ≡ Some k → is_started pre j ≡ true → ⊥
waits_for_none plan c t pre j k on f b turn s = true≢false (sym b ∙ turn_least plan c t pre k j turn on (live plan pre j s f))

pub behind_row : (plan : PlanModel) (pre : List Row) (r : Row) (j : JobId) → IsPlan plan → IsSound plan pre → IsTurn plan pre r → Contains (jobs plan) j → blocks plan j pre r ≡ true → (k : JobId) × IsBehind plan pre r j k
behind_row plan pre r j ok sound turn there h =
    let d = blocking_row plan pre r j h in
    let on = job_on plan r.core.0 j there d.core in
    let has = turn_chosen plan pre r d.other turn d.job in
    let fresh : is_started pre j ≡ false = false_from_ne_true (is_started pre j) (waits_for_none plan r.core.0 r.tick pre j d.other on d.unfinished d.later has) in
    (d.other, record { job = d.job; later = d.later; on = on; other = turn.known d.other d.job; unstarted = fresh; held = held_up plan r.core.0 r.tick pre j d.other ok sound on d.released fresh d.later has })
