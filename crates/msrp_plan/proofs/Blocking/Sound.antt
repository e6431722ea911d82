-- What holds at each place of a run, of all cores: who waits is at a lock of a global resource, no
-- later job presses on a live one, and who is started was released before every earlier job that
-- isn't.
use Rattle.msrp_plan.specs.Common.{ℕ, Bool, true, false, cond, not, List, [], Some, slice_get, Contains, is_lt, nat_cmp, ordering_then, PlanModel, task_of, units, release, key, is_lock_of, jobs_on, is_row_of, is_waiting, is_released, is_started, is_queued, done, is_global, level, resources, is_before, head, is_global_unit, IsLegal, EachAfter, JobState, IsPlan}
use Rattle.msrp_plan.specs.declared.ids.JobId.{JobId}
use Rattle.msrp_plan.specs.declared.ids.ResId.{ResId}
use Rattle.msrp_plan.specs.declared.rows.Kind.{Kind}
use Rattle.msrp_plan.specs.declared.rows.Row.{Row}
use Rattle.std.proofs.Common.{◌≡◌, ◌≢◌, ◌+◌, ◌<◌, ◌≤◌, ◌&&◌, ◌∷◌, ◌++◌, refl, ap, sym, ◌∙◌, arith, inl, inr, Ordering, eq-eqb}
use Rattle.std.specs.declared.cmp.Ordering.TheVariants.{Less, Equal, Greater}
use Rattle.std.proofs.Math.Bool.{true≢false}
use Rattle.std.proofs.lemmas.Bool.{and_parts, cases_lt, leb-true, le-leb, not-true, or_parts}
use Rattle.std.proofs.lemmas.Cmp.{ranked}
use Rattle.msrp_plan.specs.declared.units.Op.TheVariants.{Lock as LockUnit}
use Rattle.msrp_plan.proofs.Lists.AnyAll.{any_push}
use Rattle.msrp_plan.proofs.Jobs.JobTests.{is_job_is}
use Rattle.msrp_plan.proofs.Lists.Prefixes.{along}
use Rattle.msrp_plan.proofs.Jobs.States.{state_kept, state_moved}
use Rattle.msrp_plan.proofs.TaskUnits.PlanUnits.{units_lock}
use Rattle.msrp_plan.proofs.TaskUnits.UnitCounts.{held_lock}
use Rattle.msrp_plan.proofs.TaskUnits.UnitKinds.{Runs, Locks, Unlocks, Takes, Queues, Grants, Spins, Releases, step_of}
use Rattle.msrp_plan.proofs.TaskUnits.Stands.{IsUp, stand_in, stand_waits, waits_out}
use Rattle.msrp_plan.proofs.Jobs.Keys.{before_order, tied}
use Rattle.msrp_plan.proofs.Lists.LeastKept.{least_passes, least_of_those}
use Rattle.msrp_plan.proofs.Choosing.Live.{is_live}
use Rattle.msrp_plan.proofs.Levels.Ceilings.{in_resources}
use Rattle.msrp_plan.proofs.Choosing.Turns.{has_turn, runs_live}
use Rattle.msrp_plan.proofs.Legality.LegalRows.{IsTurn, DoesUnit, legal_turn}
use Rattle.msrp_plan.proofs.Holding.LocalLocks.{AreKnown, IsGuarded, known_push, known_none, guard_push, guard_none, turn_on}
use Rattle.msrp_plan.proofs.Choosing.OwnTurns.{IsFirm, firm_push, firm_none}
use Rattle.msrp_plan.proofs.Blocking.Pressing.{Presses, Local, Global, AreAsking}

-- ---- who waits is at a lock of a global resource
pub record IsAsking (plan : PlanModel) (pre : List Row) (j : JobId) : Type 0 where
  pub res : ResId
  pub unit : slice_get (units plan j) (done j pre) ≡ Some (LockUnit res)
  pub global : is_global plan res.0 ≡ true

-- the unit of a row in which its job waits
waits_at : (plan : PlanModel) (pre : List Row) (r : Row) (j : JobId) → (d : DoesUnit plan pre j r) → is_waiting r.kind ≡ true → IsAsking plan pre j
waits_at plan pre r j d waits =
    let no : (k : Kind) → r.kind ≡ k → is_waiting k ≡ false → IsAsking plan pre j = λ k e f. absurd (true≢false (sym waits ∙ (ap is_waiting e ∙ f))) in
    let asking : (h : ResId) → d.op ≡ LockUnit h → is_global_unit plan d.op ≡ true → IsAsking plan pre j =
    λ h eo eg. record { res = h; unit = d.unit ∙ ap (λ o. Some o) eo; global = sym (ap (is_global_unit plan) eo) ∙ eg } in
    elim (step_of (is_global_unit plan d.op) (is_queued pre j) d.op r.kind d.kind) [
      | Runs eo ek ↦ no _ ek refl
      | Locks h eo ek eg ↦ no _ ek refl
      | Unlocks h eo ek eg ↦ no _ ek refl
      | Takes h eo ek eg eq ↦ no _ ek refl
      | Queues h eo ek eg eq ↦ asking h eo eg
      | Grants h eo ek eg eq ↦ no _ ek refl
      | Spins h eo ek eg eq ↦ asking h eo eg
      | Releases h eo ek eg ↦ no _ ek refl
    ]

-- with as many units done it is still there
asks_still : (plan : PlanModel) (pre : List Row) (r : Row) (j : JobId) → done j (pre ++ r ∷ []) ≡ done j pre → IsAsking plan pre j → IsAsking plan (pre ++ r ∷ []) j
asks_still plan pre r j same old = record { res = old.res; unit = ap (slice_get (units plan j)) same ∙ old.unit; global = old.global }

-- by whose row it is
asks_cases : (plan : PlanModel) (pre : List Row) (r : Row) (j : JobId) (mine : Bool) → is_row_of j r ≡ mine → IsTurn plan pre r → (is_queued pre j ≡ true → IsAsking plan pre j) → is_queued (pre ++ r ∷ []) j ≡ true → IsAsking plan (pre ++ r ∷ []) j
asks_cases plan pre r j true e turn old q =
    let job = is_job_is r.job j e in
    let s = state_moved pre r j job in
    let waits : is_waiting r.kind ≡ true = sym (ap (λ (s : JobState). s.queued) s) ∙ q in
    let none : done j pre + cond (not (is_waiting r.kind)) 1 0 ≡ done j pre = ap (λ b. done j pre + cond (not b) 1 0) waits ∙ omega arith in
    asks_still plan pre r j (ap (λ (s : JobState). s.done) s ∙ none) (waits_at plan pre r j (turn.does j job) waits)
asks_cases plan pre r j false e turn old q =
    let s = state_kept pre r j e in
    asks_still plan pre r j (ap (λ (s : JobState). s.done) s) (old (sym (ap (λ (s : JobState). s.queued) s) ∙ q))

-- so it is up for that resource
asks_up : (plan : PlanModel) (pre : List Row) (j : JobId) → IsPlan plan → is_queued pre j ≡ true → (a : IsAsking plan pre j) → IsUp plan a.res.0 pre j
asks_up plan pre j ok q a =
    let locking = units_lock plan ok j.task.0 in
    let lock : is_lock_of a.res.0 (LockUnit a.res) ≡ true = eq-eqb a.res.0 a.res.0 refl in
    let free = (held_lock plan (units plan j) a.res.0 (done j pre) (LockUnit a.res) locking a.unit lock).0 in
    λ out. waits_out (sym (ap (λ b. stand_in (units plan j) a.res.0 b (done j pre)) q ∙ stand_waits (units plan j) a.res.0 (done j pre) (LockUnit a.res) free a.unit lock) ∙ out)

-- ---- who is started was released before every earlier job that isn't
abbrev pub IsLate : PlanModel → ℕ → List Row → Type 0
IsLate plan c pre = (k j : JobId) → Contains (jobs_on plan c) k → Contains (jobs_on plan c) j → is_started pre k ≡ true → is_started pre j ≡ false → is_before plan j k ≡ true → release plan k < release plan j

-- released and not started
abbrev pub is_ready : PlanModel → ℕ → List Row → JobId → Bool
is_ready plan t pre j = is_released plan t j && not (is_started pre j)

-- by its two parts
pub ready : (plan : PlanModel) (t : ℕ) (pre : List Row) (j : JobId) → release plan j ≤ t → is_started pre j ≡ false → is_ready plan t pre j ≡ true
ready plan t pre j l s = ap (λ b. b && not (is_started pre j)) (le-leb (release plan j) t l) ∙ ap not s

-- the head is ready
pub head_ready : (plan : PlanModel) (c t : ℕ) (pre : List Row) (h : JobId) → head plan c t pre ≡ Some h → (release plan h ≤ t) × (is_started pre h ≡ false)
head_ready plan c t pre h e =
    let both = and_parts (is_released plan t h) (not (is_started pre h)) (least_passes (is_before plan) (is_ready plan t pre) (jobs_on plan c) h e) in
    (leb-true (release plan h) t both.0, not-true (is_started pre h) both.1)

-- and no ready job of the core is before it
pub head_least : (plan : PlanModel) (c t : ℕ) (pre : List Row) (h j : JobId) → head plan c t pre ≡ Some h → Contains (jobs_on plan c) j → release plan j ≤ t → is_started pre j ≡ false → is_before plan j h ≡ false
head_least plan c t pre h j e on l s = least_of_those (is_before plan) (before_order plan) (is_ready plan t pre) (jobs_on plan c) h j e on (ready plan t pre j l s)

-- whoever starts is the head
late_new : (plan : PlanModel) (c t : ℕ) (pre : List Row) (k j : JobId) → Contains (jobs_on plan c) j → is_started pre j ≡ false → is_before plan j k ≡ true → head plan c t pre ≡ Some k → release plan k < release plan j
late_new plan c t pre k j on s b e =
    elim (cases_lt t (release plan j)) [
      | inl l ↦ let h = (head_ready plan c t pre k e).0 in omega (arith, h, l)
      | inr l ↦ absurd (true≢false (sym b ∙ head_least plan c t pre k j e on l s))
    ]

-- who isn't started after a row wasn't before it, and the row isn't its own
pub unstarted : (pre : List Row) (r : Row) (j : JobId) → is_started (pre ++ r ∷ []) j ≡ false → (is_started pre j ≡ false) × (is_row_of j r ≡ false)
unstarted pre r j h = or_parts (is_started pre j) (is_row_of j r) (sym (any_push (is_row_of j) pre r) ∙ h)

-- by whose row it is
late_cases : (plan : PlanModel) (c : ℕ) (pre : List Row) (r : Row) (k j : JobId) (mine : Bool) → is_row_of k r ≡ mine → IsLate plan c pre → IsTurn plan pre r → Contains (jobs_on plan c) k → Contains (jobs_on plan c) j → is_started (pre ++ r ∷ []) k ≡ true → is_started pre j ≡ false → is_before plan j k ≡ true → release plan k < release plan j
late_cases plan c pre r k j false e old turn ink inj sk sj b = old k j ink inj (sym (ap (λ (s : JobState). s.started) (state_kept pre r k e)) ∙ sk) sj b
late_cases plan c pre r k j true e old turn ink inj sk sj b =
    elim (has_turn plan c r.tick pre k (turn_on plan c pre r k turn (is_job_is r.job k e) ink)) [
      | inl new ↦ late_new plan c r.tick pre k j inj sj b new.first
      | inr runs ↦ old k j ink inj (runs_live plan c pre k runs).0 sj b
    ]

-- ---- all of it
pub record IsSound (plan : PlanModel) (pre : List Row) : Type 0 where
  pub known : AreKnown plan pre
  pub guarded : (c : ℕ) → IsGuarded plan c pre
  pub firm : (c g : ℕ) → is_global plan g ≡ true → Contains (resources plan) g → IsFirm plan g c pre
  pub asking : (j : JobId) → is_queued pre j ≡ true → IsAsking plan pre j
  pub late : (c : ℕ) → IsLate plan c pre

-- each turn keeps it
pub sound_push : (plan : PlanModel) → IsPlan plan → (pre : List Row) (r : Row) → IsSound plan pre → IsLegal plan pre r → IsSound plan (pre ++ r ∷ [])
sound_push plan ok pre r old legal =
    let turn = legal_turn plan pre r legal in
    record {
      known = known_push plan pre r old.known turn;
      guarded = λ c. guard_push plan c pre r (old.guarded c) turn;
      firm = λ c g glob named. firm_push plan g c pre r ok glob named (old.firm c g glob named) turn;
      asking = λ j. asks_cases plan pre r j (is_row_of j r) refl turn (old.asking j);
      late = λ c k j ink inj sk sj. late_cases plan c pre r k j (is_row_of k r) refl (old.late c) turn ink inj sk (unstarted pre r j sj).0;
    }

-- it holds before the first row
pub sound_none : (plan : PlanModel) → IsSound plan []
sound_none plan = record {
  known = known_none plan;
  guarded = guard_none plan;
  firm = λ c g glob named. firm_none plan g c;
  asking = λ j q. absurd (true≢false (sym q));
  late = λ c k j ink inj sk. absurd (true≢false (sym sk));
}

-- so at each place
pub sound_at : (plan : PlanModel) (pre : List Row) → IsPlan plan → EachAfter (IsLegal plan) [] pre → IsSound plan pre
sound_at plan pre ok all = along (IsSound plan) (IsLegal plan) (sound_push plan ok) [] pre (sound_none plan) all

-- ---- what follows
-- who is queued waits for a global resource of the plan
pub sound_asking : (plan : PlanModel) (pre : List Row) → IsPlan plan → IsSound plan pre → AreAsking plan pre
sound_asking plan pre ok sound = λ j q.
    let a = sound.asking j q in
    (a.res.0, in_resources plan a.res.0 ((units_lock plan ok j.task.0).declared (done j pre) a.res a.unit), a.global, asks_up plan pre j ok q a)

-- no other job of the core that isn't before a live one presses on its level
pub shielded : (plan : PlanModel) (c : ℕ) (pre : List Row) (i j : JobId) → IsSound plan pre → Contains (jobs_on plan c) i → Contains (jobs_on plan c) j → i ≢ j → is_live plan pre i ≡ true → is_before plan j i ≡ false → Presses plan pre j (level plan i.task.0) → ⊥
shielded plan c pre i j sound ini inj other live b (Local g named local held high) = let k = sound.guarded c i j g ini inj named local other live b held in absurd (omega (arith, k, high))
shielded plan c pre i j sound ini inj other live b (Global g named glob up) = other (tied plan i j (sound.firm c g glob named j i inj ini up live) b)

-- by the first part of a comparison
first_part : (x y : ℕ) (o rest : Ordering) → o ≡ nat_cmp x y → is_lt (ordering_then o rest) ≡ true → x ≤ y
first_part x y Less rest e h = let k = ranked x y Less e in omega (arith, k)
first_part x y Equal rest e h = let k = ranked x y Equal e in omega (arith, k)
first_part x y Greater rest e h = absurd (cc)

-- who is before has no later absolute deadline
pub before_due : (plan : PlanModel) (i j : JobId) → is_before plan i j ≡ true → release plan i + (task_of plan i).deadline ≤ release plan j + (task_of plan j).deadline
before_due plan i j h = first_part (key plan i).deadline (key plan j).deadline (nat_cmp (key plan i).deadline (key plan j).deadline) _ refl h

-- an earlier job than a started one, which isn't started, has a shorter relative deadline
pub shorter : (plan : PlanModel) (c : ℕ) (pre : List Row) (k j : JobId) → IsSound plan pre → Contains (jobs_on plan c) k → Contains (jobs_on plan c) j → is_started pre k ≡ true → is_started pre j ≡ false → is_before plan j k ≡ true → (task_of plan j).deadline < (task_of plan k).deadline
shorter plan c pre k j sound ink inj sk sj b = let l = sound.late c k j ink inj sk sj b in let d = before_due plan j k b in omega (arith, l, d)
