-- No local blocking: a started, unfinished job is above the ceiling of every local resource that a
-- later job holds.
use Rattle.msrp_plan.specs.Common.{ℕ, Bool, true, false, List, [], Option, Some, None, slice_get, Contains, PlanModel, task_of, core_of, units, jobs_on, is_row_of, is_started, is_queued, holds, done, is_global, local_ceiling, level, resources, is_before, choice, is_global_unit, res_of_unit, IsLegal, IsRunStart, JobState, IsPlan}
use Rattle.msrp_plan.specs.declared.ids.JobId.{JobId}
use Rattle.msrp_plan.specs.declared.ids.ResId.{ResId}
use Rattle.msrp_plan.specs.declared.rows.Kind.TheVariants.{Idle, Run, Lock, Unlock, Take, Queue, Spin, Grant, Release}
use Rattle.msrp_plan.specs.declared.rows.Row.{Row}
use Rattle.std.proofs.Common.{◌≡◌, ◌≢◌, ◌<◌, ◌≤◌, ◌∷◌, ◌++◌, refl, ap, sym, ◌∙◌, subst, arith, inl, inr}
use Rattle.std.proofs.Math.Bool.{true≢false}
use Rattle.std.proofs.lemmas.Bool.{false_from_ne_true}
use Rattle.msrp_plan.specs.Laws.{LocksFree, NoLocalBlocking}
use Rattle.msrp_plan.specs.declared.units.Op.TheVariants.{Lock as LockUnit}
use Rattle.msrp_plan.proofs.Jobs.JobTests.{some_is, is_job_is}
use Rattle.msrp_plan.proofs.Lists.Prefixes.{each_along}
use Rattle.msrp_plan.proofs.Jobs.States.{state_kept}
use Rattle.msrp_plan.proofs.TaskUnits.PlanUnits.{units_lock}
use Rattle.msrp_plan.proofs.TaskUnits.UnitKinds.{Runs, Locks, Unlocks, Takes, Queues, Grants, Spins, Releases, step_of}
use Rattle.msrp_plan.proofs.Holding.Users.{lock_uses, holder_uses, user_in, local_core}
use Rattle.msrp_plan.proofs.Choosing.Live.{is_live, live, live_kept, holds_kept, holder_started, holder_live}
use Rattle.msrp_plan.proofs.Levels.Ceilings.{in_resources, ceiling_above, user_below}
use Rattle.msrp_plan.proofs.Choosing.Turns.{has_turn, runs_live, runs_least, later_waits}
use Rattle.msrp_plan.proofs.Jobs.CoreJobs.{on_its_core}
use Rattle.msrp_plan.proofs.Legality.LegalRows.{IsTurn, DoesUnit, legal_turn, turn_core, turn_chosen}

-- ---- whoever is started is a job of its core
abbrev pub AreKnown : PlanModel → List Row → Type 0
AreKnown plan pre = (j : JobId) → is_started pre j ≡ true → Contains (jobs_on plan (core_of plan j)) j

-- by whose row it is
known_cases : (plan : PlanModel) (pre : List Row) (r : Row) (j : JobId) (b : Bool) → is_row_of j r ≡ b → AreKnown plan pre → IsTurn plan pre r → is_started (pre ++ r ∷ []) j ≡ true → Contains (jobs_on plan (core_of plan j)) j
known_cases plan pre r j true e old turn h = let job = is_job_is r.job j e in subst (λ n. Contains (jobs_on plan n) j) (sym (turn_core plan pre r j turn job)) (turn.known j job)
known_cases plan pre r j false e old turn h = old j (sym (ap (λ (s : JobState). s.started) (state_kept pre r j e)) ∙ h)

-- each turn keeps it
pub known_push : (plan : PlanModel) (pre : List Row) (r : Row) → AreKnown plan pre → IsTurn plan pre r → AreKnown plan (pre ++ r ∷ [])
known_push plan pre r old turn = λ j. known_cases plan pre r j (is_row_of j r) refl old turn

-- it holds before the first row
pub known_none : (plan : PlanModel) → AreKnown plan []
known_none plan = λ j h. absurd (true≢false (sym h))

-- ---- the invariant, of core c
abbrev pub IsGuarded : PlanModel → ℕ → List Row → Type 0
IsGuarded plan c pre =
    (i j : JobId) (g : ℕ) → Contains (jobs_on plan c) i → Contains (jobs_on plan c) j → Contains (resources plan) g → is_global plan g ≡ false → i ≢ j
    → is_live plan pre i ≡ true → is_before plan j i ≡ false → holds plan pre g j ≡ true → local_ceiling plan g < level plan i.task.0

-- the row of a job of the core is a turn of the core
pub turn_on : (plan : PlanModel) (c : ℕ) (pre : List Row) (r : Row) (x : JobId) → IsTurn plan pre r → r.job ≡ Some x → Contains (jobs_on plan c) x → choice plan c r.tick pre ≡ Some x
turn_on plan c pre r x turn job there = subst (λ n. choice plan n r.tick pre ≡ Some x) (sym (turn_core plan pre r x turn job) ∙ on_its_core plan c x there) (turn_chosen plan pre r x turn job)

-- by whose row it is: who starts is above the ceiling, and who runs was guarded
guard_cases : (plan : PlanModel) (c : ℕ) (pre : List Row) (r : Row) → IsGuarded plan c pre → IsTurn plan pre r
    → (i j : JobId) (g : ℕ) (mi mj : Bool) → is_row_of i r ≡ mi → is_row_of j r ≡ mj → Contains (jobs_on plan c) i → Contains (jobs_on plan c) j → Contains (resources plan) g → is_global plan g ≡ false → i ≢ j
    → is_live plan (pre ++ r ∷ []) i ≡ true → is_before plan j i ≡ false → holds plan (pre ++ r ∷ []) g j ≡ true → local_ceiling plan g < level plan i.task.0
guard_cases plan c pre r old turn i j g true true ei ej ini inj ing local ne l b h = absurd (ne (some_is i j (sym (is_job_is r.job i ei) ∙ is_job_is r.job j ej)))
guard_cases plan c pre r old turn i j g false false ei ej ini inj ing local ne l b h =
    old i j g ini inj ing local ne (sym (live_kept plan pre r i ei) ∙ l) b (sym (holds_kept plan pre r g j ej) ∙ h)
guard_cases plan c pre r old turn i j g true false ei ej ini inj ing local ne l b h =
    let held : holds plan pre g j ≡ true = sym (holds_kept plan pre r g j ej) ∙ h in
    elim (has_turn plan c r.tick pre i (turn_on plan c pre r i turn (is_job_is r.job i ei) ini)) [
      | inl new ↦ let k = ceiling_above plan c g pre j inj ing local held in let a = new.above in omega (arith, k, a)
      | inr runs ↦ let s = runs_live plan c pre i runs in old i j g ini inj ing local ne (live plan pre i s.0 s.1) b held
    ]
guard_cases plan c pre r old turn i j g false true ei ej ini inj ing local ne l b h =
    absurd (later_waits plan c r.tick pre i j ini (sym (live_kept plan pre r i ei) ∙ l) b ne (turn_on plan c pre r j turn (is_job_is r.job j ej) inj))

-- each turn keeps it
pub guard_push : (plan : PlanModel) (c : ℕ) (pre : List Row) (r : Row) → IsGuarded plan c pre → IsTurn plan pre r → IsGuarded plan c (pre ++ r ∷ [])
guard_push plan c pre r old turn = λ i j g. guard_cases plan c pre r old turn i j g (is_row_of i r) (is_row_of j r) refl refl

-- it holds before the first row
pub guard_none : (plan : PlanModel) (c : ℕ) → IsGuarded plan c []
guard_none plan c = λ i j g ini inj ing local ne l. absurd (true≢false (sym l))

-- ---- a lock row
-- its unit locks its resource, which is local
locks_local : (plan : PlanModel) (pre : List Row) (r : Row) (i : JobId) (g : ResId) → DoesUnit plan pre i r → r.kind ≡ Lock → r.res ≡ Some g → (slice_get (units plan i) (done i pre) ≡ Some (LockUnit g)) × (is_global plan g.0 ≡ false)
locks_local plan pre r i g d kind res =
    elim (step_of (is_global_unit plan d.op) (is_queued pre i) d.op r.kind d.kind) [
      | Runs eo ek ↦ absurd (let k : Run ≡ Lock = sym ek ∙ kind in cc)
      | Locks h eo ek eg ↦
          let s : h ≡ g = same_res h (sym (d.res ∙ ap res_of_unit eo) ∙ res) in
          (d.unit ∙ ap (λ o. Some o) (eo ∙ ap (λ w. LockUnit w) s), subst (λ w. is_global plan w.0 ≡ false) s (sym (ap (is_global_unit plan) eo) ∙ eg))
      | Unlocks h eo ek eg ↦ absurd (let k : Unlock ≡ Lock = sym ek ∙ kind in cc)
      | Takes h eo ek eg eq ↦ absurd (let k : Take ≡ Lock = sym ek ∙ kind in cc)
      | Queues h eo ek eg eq ↦ absurd (let k : Queue ≡ Lock = sym ek ∙ kind in cc)
      | Grants h eo ek eg eq ↦ absurd (let k : Grant ≡ Lock = sym ek ∙ kind in cc)
      | Spins h eo ek eg eq ↦ absurd (let k : Spin ≡ Lock = sym ek ∙ kind in cc)
      | Releases h eo ek eg ↦ absurd (let k : Release ≡ Lock = sym ek ∙ kind in cc)
    ]
  where
    same_res : (h : ResId) → Some h ≡ Some g → h ≡ g
    same_res h e = cc

-- whoever has the turn on a core locks nothing that another job of the core holds
turn_free : (plan : PlanModel) (c t : ℕ) (pre : List Row) (i j : JobId) (g : ResId) → IsPlan plan → IsGuarded plan c pre → choice plan c t pre ≡ Some i → slice_get (units plan i) (done i pre) ≡ Some (LockUnit g)
    → is_global plan g.0 ≡ false → i ≢ j → Contains (jobs_on plan c) i → Contains (jobs_on plan c) j → holds plan pre g.0 j ≡ true → ⊥
turn_free plan c t pre i j g ok old turn unit local ne ini inj h =
    let ing = in_resources plan g.0 ((units_lock plan ok i.task.0).declared (done i pre) g unit) in
    let used = lock_uses (task_of plan i) (done i pre) g unit in
    let top : level plan i.task.0 ≤ local_ceiling plan g.0 = user_below plan g.0 (task_of plan i) (user_in plan g.0 i.task.0 used) used in
    elim (has_turn plan c t pre i turn) [
      | inl new ↦ let k = ceiling_above plan c g.0 pre j inj ing local h in let a = new.above in absurd (omega (arith, k, a, top))
      | inr runs ↦
          let l = runs_live plan c pre i runs in
          let b = runs_least plan c pre i j runs inj (holder_live plan pre g.0 j ok h) in
          let a = old i j g.0 ini inj ing local ne (live plan pre i l.0 l.1) b h in
          absurd (omega (arith, a, top))
    ]

-- nor anything that a job of another core holds: a resource that both used would be global
row_free : (plan : PlanModel) (pre : List Row) (r : Row) (i j : JobId) (g : ResId) → IsPlan plan → AreKnown plan pre → IsGuarded plan r.core.0 pre → IsTurn plan pre r → r.job ≡ Some i → r.kind ≡ Lock → r.res ≡ Some g → i ≢ j → holds plan pre g.0 j ≡ true → ⊥
row_free plan pre r i j g ok known old turn job kind res ne h =
    let k = locks_local plan pre r i g (turn.does i job) kind res in
    let ui = lock_uses (task_of plan i) (done i pre) g k.0 in
    let at : core_of plan j ≡ r.core.0 = local_core plan g.0 j i k.1 (holder_uses plan pre g.0 j h) ui ∙ turn_core plan pre r i turn job in
    let inj : Contains (jobs_on plan r.core.0) j = subst (λ n. Contains (jobs_on plan n) j) at (known j (holder_started plan pre g.0 j h)) in
    turn_free plan r.core.0 r.tick pre i j g ok old (turn_chosen plan pre r i turn job) k.0 k.1 ne (turn.known i job) inj h

-- so a lock row finds its resource free
locks_free : (plan : PlanModel) (pre : List Row) (r : Row) → IsPlan plan → AreKnown plan pre → IsGuarded plan r.core.0 pre → IsTurn plan pre r → LocksFree plan pre r
locks_free plan pre r ok known old turn = λ g j kind res other. false_from_ne_true (holds plan pre g.0 j) (by_job g j kind res other r.job refl)
  where
    by_job : (g : ResId) (j : JobId) → r.kind ≡ Lock → r.res ≡ Some g → r.job ≢ Some j → (o : Option JobId) → r.job ≡ o → holds plan pre g.0 j ≡ true → ⊥
    by_job g j kind res other None e h = let k : Idle ≡ Lock = sym (turn.idle e) ∙ kind in cc
    by_job g j kind res other (Some i) e h = row_free plan pre r i j g ok known old turn e kind res (λ s. other (e ∙ ap (λ x. Some x) s)) h

-- ---- along the run
record IsSafe (plan : PlanModel) (pre : List Row) : Type 0 where
  known : AreKnown plan pre
  guarded : (c : ℕ) → IsGuarded plan c pre

-- each legal row keeps them
safe_push : (plan : PlanModel) (pre : List Row) (r : Row) → IsSafe plan pre → IsLegal plan pre r → IsSafe plan (pre ++ r ∷ [])
safe_push plan pre r old h = let turn = legal_turn plan pre r h in record { known = known_push plan pre r old.known turn; guarded = λ c. guard_push plan c pre r (old.guarded c) turn }

-- no lock row names a local resource that another job holds
pub no_local_blocking : (plan : PlanModel) (rows : List Row) → IsPlan plan → IsRunStart plan rows → NoLocalBlocking plan rows
no_local_blocking plan rows ok run =
    each_along (IsSafe plan) (IsLegal plan) (LocksFree plan) (safe_push plan) (λ pre r old h. locks_free plan pre r ok old.known (old.guarded r.core.0) (legal_turn plan pre r h))
    [] rows (record { known = known_none plan; guarded = guard_none plan }) run.each
