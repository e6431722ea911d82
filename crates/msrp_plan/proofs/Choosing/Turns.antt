-- Who has the turn: the head, above the ceiling and before whoever runs, or whoever runs.
use Rattle.msrp_plan.specs.Common.{ℕ, Bool, true, false, cond, not, List, Option, Some, None, nat_lt, Contains, PlanModel, jobs_on, is_started, is_finished, level, ceiling, is_before, head, running, chosen, choice}
use Rattle.msrp_plan.specs.declared.ids.JobId.{JobId}
use Rattle.msrp_plan.specs.declared.rows.Row.{Row}
use Rattle.std.proofs.Common.{◌≡◌, ◌≢◌, ◌<◌, ◌&&◌, ◌⊎◌, refl, ap, sym, ◌∙◌, subst, inl, inr}
use Rattle.std.proofs.Math.Bool.{true≢false}
use Rattle.std.proofs.lemmas.Bool.{ltb-true, and_parts, not-true, false_from_ne_true}
use Rattle.msrp_plan.proofs.Jobs.JobTests.{some_is}
use Rattle.msrp_plan.proofs.Jobs.Keys.{before_order, tied}
use Rattle.msrp_plan.proofs.Lists.LeastKept.{irrefl, least_passes, least_some, least_of_those}
use Rattle.msrp_plan.proofs.Choosing.Live.{is_live}

-- the job starts: it is the head, its level is above the ceiling, and it comes before whoever runs
pub record IsNew (plan : PlanModel) (c t : ℕ) (pre : List Row) (x : JobId) : Type 0 where
  pub first : head plan c t pre ≡ Some x
  pub above : ceiling plan c pre < level plan x.task.0
  pub before : (s : JobId) → running plan c pre ≡ Some s → is_before plan x s ≡ true

-- the head, where nobody runs
alone : (plan : PlanModel) (n : ℕ) (h x : JobId) (b : Bool) → nat_lt n (level plan h.task.0) ≡ b → cond b (Some h) None ≡ Some x → (n < level plan x.task.0) × (h ≡ x)
alone plan n h x true e r = let s : h ≡ x = cc in (subst (λ j. n < level plan j.task.0) s (ltb-true n (level plan h.task.0) e), s)
alone plan n h x false e r = absurd (cc)

-- the head against whoever runs
against : (plan : PlanModel) (n : ℕ) (h s x : JobId) (b : Bool) → (nat_lt n (level plan h.task.0) && is_before plan h s) ≡ b → cond b (Some h) (Some s) ≡ Some x → ((n < level plan x.task.0) × (h ≡ x) × (is_before plan x s ≡ true)) ⊎ (s ≡ x)
against plan n h s x true e r =
    let k : h ≡ x = cc in
    let both = and_parts (nat_lt n (level plan h.task.0)) (is_before plan h s) e in
    inl (subst (λ j. n < level plan j.task.0) k (ltb-true n (level plan h.task.0) both.0), k, subst (λ j. is_before plan j s ≡ true) k both.1)
against plan n h s x false e r = inr (cc)

-- nobody is no job
pub none_some : (s : JobId) → None ≡ Some s → ⊥
none_some s h = cc

-- by whether there is a head and somebody runs
turn_cases : (plan : PlanModel) (c t : ℕ) (pre : List Row) (h s : Option JobId) (x : JobId) → head plan c t pre ≡ h → running plan c pre ≡ s → chosen plan (ceiling plan c pre) h s ≡ Some x → IsNew plan c t pre x ⊎ (running plan c pre ≡ Some x)
turn_cases plan c t pre None s x hh ss e = inr (ss ∙ e)
turn_cases plan c t pre (Some h) None x hh ss e =
    let k = alone plan (ceiling plan c pre) h x (nat_lt (ceiling plan c pre) (level plan h.task.0)) refl e in
    inl (record { first = hh ∙ ap (λ j. Some j) k.1; above = k.0; before = λ s r. absurd (none_some s (sym ss ∙ r)) })
turn_cases plan c t pre (Some h) (Some s) x hh ss e =
    elim (against plan (ceiling plan c pre) h s x (nat_lt (ceiling plan c pre) (level plan h.task.0) && is_before plan h s) refl e) [
      | inl k ↦ inl (record { first = hh ∙ ap (λ j. Some j) k.1; above = k.0; before = λ q r. subst (λ j. is_before plan x j ≡ true) (some_is s q (sym ss ∙ r)) k.2 })
      | inr k ↦ inr (ss ∙ ap (λ j. Some j) k)
    ]

-- who has the turn is new, or runs
pub has_turn : (plan : PlanModel) (c t : ℕ) (pre : List Row) (x : JobId) → choice plan c t pre ≡ Some x → IsNew plan c t pre x ⊎ (running plan c pre ≡ Some x)
has_turn plan c t pre x e = turn_cases plan c t pre (head plan c t pre) (running plan c pre) x refl refl e

-- ---- whoever runs
-- is started and unfinished
pub runs_live : (plan : PlanModel) (c : ℕ) (pre : List Row) (x : JobId) → running plan c pre ≡ Some x → (is_started pre x ≡ true) × (is_finished plan pre x ≡ false)
runs_live plan c pre x h =
    let both = and_parts (is_started pre x) (not (is_finished plan pre x)) (least_passes (is_before plan) (is_live plan pre) (jobs_on plan c) x h) in
    (both.0, not-true (is_finished plan pre x) both.1)

-- and no such job of the core is before it
pub runs_least : (plan : PlanModel) (c : ℕ) (pre : List Row) (x i : JobId) → running plan c pre ≡ Some x → Contains (jobs_on plan c) i → is_live plan pre i ≡ true → is_before plan i x ≡ false
runs_least plan c pre x i h there l = least_of_those (is_before plan) (before_order plan) (is_live plan pre) (jobs_on plan c) x i h there l

-- ---- a job that is not before a live one has no turn
new_clash : (plan : PlanModel) (c t : ℕ) (pre : List Row) (i j : JobId) (s : Option JobId) → running plan c pre ≡ s → Contains (jobs_on plan c) i → is_live plan pre i ≡ true → is_before plan j i ≡ false → IsNew plan c t pre j → ⊥
new_clash plan c t pre i j None e there l b new = least_some (is_before plan) (is_live plan pre) (jobs_on plan c) i e there l
new_clash plan c t pre i j (Some s) e there l b new = true≢false (sym (new.before s e) ∙ (before_order plan).chain j i s b (runs_least plan c pre s i e there l))

-- nor does it run
pub later_waits : (plan : PlanModel) (c t : ℕ) (pre : List Row) (i j : JobId) → Contains (jobs_on plan c) i → is_live plan pre i ≡ true → is_before plan j i ≡ false → i ≢ j → choice plan c t pre ≡ Some j → ⊥
later_waits plan c t pre i j there l b ne e =
    elim (has_turn plan c t pre j e) [
      | inl new ↦ new_clash plan c t pre i j (running plan c pre) refl there l b new
      | inr runs ↦ ne (tied plan i j (runs_least plan c pre j i runs there l) b)
    ]

-- so no live job of the core is before whoever has the turn
pub turn_least : (plan : PlanModel) (c t : ℕ) (pre : List Row) (x z : JobId) → choice plan c t pre ≡ Some x → Contains (jobs_on plan c) z → is_live plan pre z ≡ true → is_before plan z x ≡ false
turn_least plan c t pre x z turn there l =
    false_from_ne_true (is_before plan z x) (λ e.
    later_waits plan c t pre z x there l ((before_order plan).one_way z x e) (λ s. true≢false (sym e ∙ subst (λ w. is_before plan w x ≡ false) (sym s) (irrefl (is_before plan) (before_order plan) x))) turn)
