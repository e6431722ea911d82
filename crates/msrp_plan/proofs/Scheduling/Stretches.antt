-- A core's row that stands again in the next tick. After a row that works, idles or polls in vain,
-- its own tick's choice still names its job; where nobody is released the next tick's choice is the
-- same.
use Rattle.msrp_plan.specs.Common.{ℕ, Bool, true, false, cond, not, List, [], map, Option, Some, None, nat_lt, length, max, slice_get, filter, list_any, AllByRecursion, Contains, PlanModel, task_of, release, units, no_task, has_shape, jobs_on, is_row_of, is_waiting, is_released, is_started, is_finished, is_queued, done, holds, JobState, state_after, is_global, local_ceiling, greatest, top, level, ceiling, is_held_on, is_queued_on, resources, is_before, least, head, running, chosen, choice, allows, does_next, does_unit, does_unit_after, same_res, is_global_unit, IsCoreTurn, same_choice, in_tick, HasWork}
use Rattle.msrp_plan.specs.declared.ids.JobId.{JobId}
use Rattle.msrp_plan.specs.declared.ids.ResId.{ResId}
use Rattle.msrp_plan.specs.declared.units.Op.{Op}
use Rattle.msrp_plan.specs.declared.rows.Kind.TheVariants.{Idle, Run, Spin}
use Rattle.msrp_plan.specs.declared.rows.Row.{Row}
use Rattle.std.proofs.Common.{◌≡◌, ◌+◌, ◌≤◌, ◌<◌, ◌&&◌, ◌||◌, ◌∷◌, ◌++◌, refl, ap, sym, ◌∙◌, subst, arith, length-append, inl, inr}
use Rattle.std.proofs.Math.Bool.{true≢false}
use Rattle.std.proofs.lemmas.Bool.{cases_lt, leb-true, le-leb, eqb-true, false_from_ne_true}
use Rattle.std.proofs.lemmas.List.Elements.{Contains-get_or, recursion_from_All, All-from_recursion, All-contains, All-contains_itself, filter_agree}
use Rattle.std.proofs.lemmas.Option.{slice_get_within}
use Rattle.msrp_plan.specs.Actions.{is_idle}
use Rattle.msrp_plan.specs.Stretches.{NoneReleased, Works as StayWorks, Idles as StayIdles, Polls as StayPolls, StaysAgain}
use Rattle.msrp_plan.specs.declared.units.Op.TheVariants.{Run as RunUnit}
use Rattle.msrp_plan.proofs.Tests.{same_tests}
use Rattle.msrp_plan.proofs.Lists.AnyAll.{all_weaker}
use Rattle.msrp_plan.proofs.Lists.Filters.{filter_same, any_same, all_of}
use Rattle.msrp_plan.proofs.Lists.LeastKept.{irrefl, least_some, least_in}
use Rattle.msrp_plan.proofs.Jobs.JobTests.{some_is, is_job_is, same_self}
use Rattle.msrp_plan.proofs.Jobs.JobLists.{core_jobs_below}
use Rattle.msrp_plan.proofs.Jobs.CoreJobs.{on_its_core}
use Rattle.msrp_plan.proofs.Jobs.Keys.{before_order, tied}
use Rattle.msrp_plan.proofs.Jobs.States.{state_kept, state_moved}
use Rattle.msrp_plan.proofs.TaskUnits.UnitCounts.{held_in, held_other}
use Rattle.msrp_plan.proofs.TaskUnits.UnitKinds.{Runs, Locks, Unlocks, Takes, Queues, Grants, Spins, Releases, step_of}
use Rattle.msrp_plan.proofs.Levels.Ceilings.{is_raised, raised_above, top_above, queued_raises}
use Rattle.msrp_plan.proofs.Choosing.Live.{is_live, live, live_kept, holds_kept, queued_started}
use Rattle.msrp_plan.proofs.Choosing.Turns.{IsNew, has_turn, runs_live, runs_least, turn_least}
use Rattle.msrp_plan.proofs.Legality.Locality.{SameStates, choice_same}
use Rattle.msrp_plan.proofs.Legality.LegalRows.{IsTurn, turn_of}
use Rattle.msrp_plan.proofs.Spinning.QueueWork.{chosen_none}
use Rattle.msrp_plan.proofs.Blocking.Sound.{is_ready, head_ready, head_least, unstarted}
use Rattle.msrp_plan.proofs.Scheduling.Conservation.{idle_job}

-- ---- a tick in which nobody is released
members : {X : Type 0} (xs : List X) → AllByRecursion (Contains xs) xs
members xs = recursion_from_All (Contains xs) xs (All-contains_itself xs)

-- who is released is so the tick before
released_same : (plan : PlanModel) (t : ℕ) (j : JobId) → (t + 1 ≤ release plan j → t + 1 + 1 ≤ release plan j) → is_released plan (t + 1) j ≡ is_released plan t j
released_same plan t j none = same_tests _ _
    (λ h. let l = leb-true (release plan j) (t + 1) h in elim (cases_lt t (release plan j)) [
      | inl g ↦ let n = none (omega (arith, g)) in absurd (omega (arith, n, l))
      | inr g ↦ le-leb (release plan j) t g
    ])
    (λ h. let l = leb-true (release plan j) t h in le-leb (release plan j) (t + 1) (omega (arith, l)))

-- so the head is the same
pub head_later : (plan : PlanModel) (c t : ℕ) (pre : List Row) → NoneReleased plan c (t + 1) 1 → head plan c (t + 1) pre ≡ head plan c t pre
head_later plan c t pre none = ap (least (is_before plan)) (filter_same (λ j. is_released plan (t + 1) j && not (is_started pre j)) (λ j. is_released plan t j && not (is_started pre j)) (jobs_on plan c)
    (all_weaker (Contains (jobs_on plan c)) (λ j. (is_released plan (t + 1) j && not (is_started pre j)) ≡ (is_released plan t j && not (is_started pre j))) (λ j on. ap (λ b. b && not (is_started pre j)) (released_same plan t j (none j on))) (jobs_on plan c) (members (jobs_on plan c))))

-- and so is the choice
choice_later : (plan : PlanModel) (c t : ℕ) (pre : List Row) → NoneReleased plan c (t + 1) 1 → choice plan c (t + 1) pre ≡ choice plan c t pre
choice_later plan c t pre none = ap (λ o. chosen plan (ceiling plan c pre) o (running plan c pre)) (head_later plan c t pre none)

-- ---- the turns of a core's log
core_turn : (plan : PlanModel) (c : ℕ) (pre : List Row) (r : Row) → IsCoreTurn plan c pre r → IsTurn plan pre r
core_turn plan c pre r h = turn_of plan pre r h.own h.chosen h.action

-- the core's choice names the row's job
core_chosen : (plan : PlanModel) (c : ℕ) (pre : List Row) (r : Row) → IsCoreTurn plan c pre r → choice plan c r.tick pre ≡ r.job
core_chosen plan c pre r h = subst (λ d. choice plan d r.tick pre ≡ r.job) h.core (sym (core_turn plan c pre r h).job)

-- ---- rows that change no state
still_cases : (pre : List Row) (r : Row) (j : JobId) (mine : Bool) → is_row_of j r ≡ mine → (r.job ≡ Some j → state_after (pre ++ r ∷ []) j ≡ state_after pre j) → state_after (pre ++ r ∷ []) j ≡ state_after pre j
still_cases pre r j true e own = own (is_job_is r.job j e)
still_cases pre r j false e own = state_kept pre r j e

pub still : (plan : PlanModel) (c : ℕ) (pre : List Row) (r : Row) → ((j : JobId) → r.job ≡ Some j → state_after (pre ++ r ∷ []) j ≡ state_after pre j) → SameStates plan c (pre ++ r ∷ []) pre
still plan c pre r own = all_of (λ j. state_after (pre ++ r ∷ []) j ≡ state_after pre j) (λ j. still_cases pre r j (is_row_of j r) refl (own j)) (jobs_on plan c)

-- leave the choice
still_chosen : (plan : PlanModel) (c : ℕ) (pre : List Row) (r : Row) → IsCoreTurn plan c pre r → ((j : JobId) → r.job ≡ Some j → state_after (pre ++ r ∷ []) j ≡ state_after pre j) → choice plan c r.tick (pre ++ r ∷ []) ≡ r.job
still_chosen plan c pre r h own = choice_same plan c r.tick (pre ++ r ∷ []) pre (still plan c pre r own) ∙ core_chosen plan c pre r h

-- an idle row
none_is_some : (j : JobId) (o : Option JobId) → o ≡ None → o ≡ Some j → ⊥
none_is_some j o e f = cc

idle_chosen : (plan : PlanModel) (c : ℕ) (pre : List Row) (r : Row) → IsCoreTurn plan c pre r → r.kind ≡ Idle → choice plan c r.tick (pre ++ r ∷ []) ≡ r.job
idle_chosen plan c pre r h k = still_chosen plan c pre r h (λ j e. absurd (none_is_some j r.job (idle_job r k) e))

-- a poll in vain
pub spin_waits : (global queued : Bool) (op : Op) → allows global queued op Spin ≡ true → queued ≡ true
spin_waits global queued op e = elim (step_of global queued op Spin e) [
  | Runs eo ek ↦ absurd (cc)
  | Locks h eo ek eg ↦ absurd (cc)
  | Unlocks h eo ek eg ↦ absurd (cc)
  | Takes h eo ek eg eq ↦ absurd (cc)
  | Queues h eo ek eg eq ↦ absurd (cc)
  | Grants h eo ek eg eq ↦ absurd (cc)
  | Spins h eo ek eg eq ↦ eq
  | Releases h eo ek eg ↦ absurd (cc)
]

spin_queued : (plan : PlanModel) (c : ℕ) (pre : List Row) (r : Row) (j : JobId) → IsCoreTurn plan c pre r → r.kind ≡ Spin → r.job ≡ Some j → is_queued pre j ≡ true
spin_queued plan c pre r j h k e =
    let d = (core_turn plan c pre r h).does j e in
    spin_waits (is_global_unit plan d.op) (is_queued pre j) d.op (subst (λ kind. allows (is_global_unit plan d.op) (is_queued pre j) d.op kind ≡ true) k d.kind)

pub spin_state : (j : JobId) (started queued waits : Bool) (n m : ℕ) → started ≡ true → queued ≡ true → waits ≡ true → m ≡ n + cond (not waits) 1 0 → (s z : JobState) → s ≡ record { job = j; started = true; queued = waits; done = m } → z ≡ record { job = j; started = started; queued = queued; done = n } → s ≡ z
spin_state j started queued waits n m s q w e a b es ez =
    let k : n + cond (not waits) 1 0 ≡ n = ap (λ b. n + cond (not b) 1 0) w ∙ omega arith in
    let same : m ≡ n = e ∙ k in cc

spin_still : (plan : PlanModel) (c : ℕ) (pre : List Row) (r : Row) → IsCoreTurn plan c pre r → r.kind ≡ Spin → (j : JobId) → r.job ≡ Some j → state_after (pre ++ r ∷ []) j ≡ state_after pre j
spin_still plan c pre r h k j e =
    let q = spin_queued plan c pre r j h k e in
    spin_state j (is_started pre j) (is_queued pre j) (is_waiting r.kind) (done j pre) (done j pre + cond (not (is_waiting r.kind)) 1 0) (queued_started pre j q) q (ap is_waiting k) refl (state_after (pre ++ r ∷ []) j) (state_after pre j) (state_moved pre r j e) refl

-- ---- a row that works
-- what the ceiling looks at
ceiling_by : (plan : PlanModel) (c : ℕ) (pre other : List Row) → is_queued_on plan c pre ≡ is_queued_on plan c other → ((g : ℕ) → is_held_on plan c pre g ≡ is_held_on plan c other g) → ceiling plan c pre ≡ ceiling plan c other
ceiling_by plan c pre other queued held =
    let raised : is_raised plan c pre ≡ is_raised plan c other =
    ap (λ b. b || list_any (λ g. is_global plan g && is_held_on plan c pre g) (resources plan)) queued
    ∙ ap (λ b. is_queued_on plan c other || b) (any_same (λ g. is_global plan g && is_held_on plan c pre g) (λ g. is_global plan g && is_held_on plan c other g) (resources plan) (all_of (λ g. (is_global plan g && is_held_on plan c pre g) ≡ (is_global plan g && is_held_on plan c other g)) (λ g. ap (λ b. is_global plan g && b) (held g)) (resources plan))) in
    ap (λ gs. max (greatest (map (local_ceiling plan) gs)) (cond (is_raised plan c pre) (top plan c) 0)) (filter_agree (λ g. not (is_global plan g) && is_held_on plan c pre g) (λ g. not (is_global plan g) && is_held_on plan c other g) (λ g. ap (λ b. not (is_global plan g) && b) (held g)) (resources plan))
    ∙ ap (λ b. max (greatest (map (local_ceiling plan) (filter (λ g. not (is_global plan g) && is_held_on plan c other g) (resources plan)))) (cond b (top plan c) 0)) raised

pub run_unit : (global queued : Bool) (op : Op) → allows global queued op Run ≡ true → op ≡ RunUnit
run_unit global queued op e = elim (step_of global queued op Run e) [
  | Runs eo ek ↦ eo
  | Locks h eo ek eg ↦ absurd (cc)
  | Unlocks h eo ek eg ↦ absurd (cc)
  | Takes h eo ek eg eq ↦ absurd (cc)
  | Queues h eo ek eg eq ↦ absurd (cc)
  | Grants h eo ek eg eq ↦ absurd (cc)
  | Spins h eo ek eg eq ↦ absurd (cc)
  | Releases h eo ek eg ↦ absurd (cc)
]

-- a row that works, of job j
pub record Works (plan : PlanModel) (c : ℕ) (pre : List Row) (r : Row) (j : JobId) : Type 0 where
  pub job : r.job ≡ Some j
  pub on : Contains (jobs_on plan c) j
  pub chosen : choice plan c r.tick pre ≡ Some j
  pub unit : slice_get (units plan j) (done j pre) ≡ Some RunUnit
  pub ready : is_queued pre j ≡ false
  pub kind : r.kind ≡ Run

run_unit_of : (plan : PlanModel) (c : ℕ) (pre : List Row) (r : Row) (j : JobId) → IsCoreTurn plan c pre r → r.kind ≡ Run → r.job ≡ Some j → slice_get (units plan j) (done j pre) ≡ Some RunUnit
run_unit_of plan c pre r j h k e =
    let d = (core_turn plan c pre r h).does j e in
    d.unit ∙ ap (λ o. Some o) (run_unit (is_global_unit plan d.op) (is_queued pre j) d.op (subst (λ kind. allows (is_global_unit plan d.op) (is_queued pre j) d.op kind ≡ true) k d.kind))

works : (plan : PlanModel) (c : ℕ) (pre : List Row) (r : Row) (j : JobId) → IsCoreTurn plan c pre r → r.kind ≡ Run → r.job ≡ Some j → is_queued pre j ≡ false → Works plan c pre r j
works plan c pre r j h k e q = record {
  job = e;
  on = subst (λ d. Contains (jobs_on plan d) j) h.core ((core_turn plan c pre r h).known j e);
  chosen = core_chosen plan c pre r h ∙ e;
  unit = run_unit_of plan c pre r j h k e;
  ready = q;
  kind = k;
}

-- its job has done a unit more, and doesn't wait
pub work_state : (pre : List Row) (r : Row) (j : JobId) → r.kind ≡ Run → r.job ≡ Some j → (is_started (pre ++ r ∷ []) j ≡ true) × (is_queued (pre ++ r ∷ []) j ≡ false) × (done j (pre ++ r ∷ []) ≡ done j pre + 1)
work_state pre r j k e =
    let s = state_moved pre r j e in (
      ap (λ (s : JobState). s.started) s,
      ap (λ (s : JobState). s.queued) s ∙ ap is_waiting k,
      ap (λ (s : JobState). s.done) s ∙ ap (λ k. done j pre + cond (not (is_waiting k)) 1 0) k,
    )

-- nobody holds more or less
work_holds : (plan : PlanModel) (c : ℕ) (pre : List Row) (r : Row) (j : JobId) → Works plan c pre r j → (g : ℕ) (i : JobId) (mine : Bool) → is_row_of i r ≡ mine → holds plan (pre ++ r ∷ []) g i ≡ holds plan pre g i
work_holds plan c pre r j w g i false e = holds_kept plan pre r g i e
work_holds plan c pre r j w g i true e =
    let s : i ≡ j = some_is i j (sym (is_job_is r.job i e) ∙ w.job) in
    subst (λ x. holds plan (pre ++ r ∷ []) g x ≡ holds plan pre g x) (sym s) (ap (held_in (units plan j) g) (work_state pre r j w.kind w.job).2 ∙ held_other (units plan j) g (done j pre) RunUnit w.unit refl refl)

-- nobody waits more or less
work_queued : (plan : PlanModel) (c : ℕ) (pre : List Row) (r : Row) (j : JobId) → Works plan c pre r j → (i : JobId) (mine : Bool) → is_row_of i r ≡ mine → is_queued (pre ++ r ∷ []) i ≡ is_queued pre i
work_queued plan c pre r j w i false e = ap (λ (s : JobState). s.queued) (state_kept pre r i e)
work_queued plan c pre r j w i true e =
    let s : i ≡ j = some_is i j (sym (is_job_is r.job i e) ∙ w.job) in
    subst (λ x. is_queued (pre ++ r ∷ []) x ≡ is_queued pre x) (sym s) ((work_state pre r j w.kind w.job).1 ∙ sym w.ready)

pub work_ceiling : (plan : PlanModel) (c : ℕ) (pre : List Row) (r : Row) (j : JobId) → Works plan c pre r j → ceiling plan c (pre ++ r ∷ []) ≡ ceiling plan c pre
work_ceiling plan c pre r j w = ceiling_by plan c (pre ++ r ∷ []) pre
    (any_same (is_queued (pre ++ r ∷ [])) (is_queued pre) (jobs_on plan c) (all_of (λ i. is_queued (pre ++ r ∷ []) i ≡ is_queued pre i) (λ i. work_queued plan c pre r j w i (is_row_of i r) refl) (jobs_on plan c)))
    (λ g. any_same (holds plan (pre ++ r ∷ []) g) (holds plan pre g) (jobs_on plan c) (all_of (λ i. holds plan (pre ++ r ∷ []) g i ≡ holds plan pre g i) (λ i. work_holds plan c pre r j w g i (is_row_of i r) refl) (jobs_on plan c)))

-- it runs on, if it has a unit left
work_least : (plan : PlanModel) (c : ℕ) (pre : List Row) (r : Row) (j i : JobId) (mine : Bool) → Works plan c pre r j → is_row_of i r ≡ mine → Contains (jobs_on plan c) i → is_live plan (pre ++ r ∷ []) i ≡ true → is_before plan i j ≡ false
work_least plan c pre r j i true w e on l = subst (λ x. is_before plan x j ≡ false) (sym (some_is i j (sym (is_job_is r.job i e) ∙ w.job))) (irrefl (is_before plan) (before_order plan) j)
work_least plan c pre r j i false w e on l = turn_least plan c r.tick pre j i w.chosen on (sym (live_kept plan pre r i e) ∙ l)

pub work_runs : (plan : PlanModel) (c : ℕ) (pre : List Row) (r : Row) (j : JobId) (o : Option JobId) → Works plan c pre r j → is_finished plan (pre ++ r ∷ []) j ≡ false → running plan c (pre ++ r ∷ []) ≡ o → o ≡ Some j
work_runs plan c pre r j None w left e =
    absurd (least_some (is_before plan) (is_live plan (pre ++ r ∷ [])) (jobs_on plan c) j e w.on (live plan (pre ++ r ∷ []) j (work_state pre r j w.kind w.job).0 left))
work_runs plan c pre r j (Some i) w left e =
    let on = least_in (is_before plan) (is_live plan (pre ++ r ∷ [])) (jobs_on plan c) i e in
    let l = runs_live plan c (pre ++ r ∷ []) i e in
    let mine = live plan (pre ++ r ∷ []) j (work_state pre r j w.kind w.job).0 left in
    ap (λ x. Some x) (tied plan i j (work_least plan c pre r j i (is_row_of i r) w refl on (live plan (pre ++ r ∷ []) i l.0 l.1)) (runs_least plan c (pre ++ r ∷ []) i j e w.on mine))

-- the head of the row's own tick after the row, if it isn't the row's job
past_head : (plan : PlanModel) (c : ℕ) (pre : List Row) (r : Row) (j x : JobId) (o : Option JobId) → Works plan c pre r j → is_started pre j ≡ true → head plan c r.tick (pre ++ r ∷ []) ≡ Some x → head plan c r.tick pre ≡ o → o ≡ Some x
past_head plan c pre r j x None w s new e =
    let rx = head_ready plan c r.tick (pre ++ r ∷ []) x new in
    let on = least_in (is_before plan) (is_ready plan r.tick (pre ++ r ∷ [])) (jobs_on plan c) x new in
    absurd (least_some (is_before plan) (is_ready plan r.tick pre) (jobs_on plan c) x e on (Rattle.msrp_plan.proofs.Blocking.Sound.ready plan r.tick pre x rx.0 (unstarted pre r x rx.1).0))
past_head plan c pre r j x (Some h) w s new e =
    let rx = head_ready plan c r.tick (pre ++ r ∷ []) x new in
    let onx = least_in (is_before plan) (is_ready plan r.tick (pre ++ r ∷ [])) (jobs_on plan c) x new in
    let rh = head_ready plan c r.tick pre h e in
    let onh = least_in (is_before plan) (is_ready plan r.tick pre) (jobs_on plan c) h e in
    let other : is_row_of h r ≡ false = false_from_ne_true (is_row_of h r) (λ m. true≢false (sym s ∙ subst (λ y. is_started pre y ≡ false) (some_is h j (sym (is_job_is r.job h m) ∙ w.job)) rh.1)) in
    let fresh : is_started (pre ++ r ∷ []) h ≡ false = ap (λ (s : JobState). s.started) (state_kept pre r h other) ∙ rh.1 in
    ap (λ y. Some y) (tied plan h x (head_least plan c r.tick (pre ++ r ∷ []) x h new onh rh.0 fresh) (head_least plan c r.tick pre h x e onx rx.0 (unstarted pre r x rx.1).0))

-- nobody goes before it now who didn't then
both_true : (a b : Bool) → a ≡ true → b ≡ true → (a && b) ≡ true
both_true a b e f = ap (λ c. c && b) e ∙ f

work_firm : (plan : PlanModel) (c : ℕ) (pre : List Row) (r : Row) (j x : JobId) → Works plan c pre r j → running plan c (pre ++ r ∷ []) ≡ Some j → IsNew plan c r.tick (pre ++ r ∷ []) x → ⊥
work_firm plan c pre r j x w runs new =
    let first = new.before j runs in
    let rx = head_ready plan c r.tick (pre ++ r ∷ []) x new.first in
    let on = least_in (is_before plan) (is_ready plan r.tick (pre ++ r ∷ [])) (jobs_on plan c) x new.first in
    elim (has_turn plan c r.tick pre j w.chosen) [
      | inl then ↦ true≢false (sym first ∙ head_least plan c r.tick pre j x then.first on rx.0 (unstarted pre r x rx.1).0)
      | inr then ↦
          let is = past_head plan c pre r j x (head plan c r.tick pre) w (runs_live plan c pre j then).0 new.first refl in
          let n = ceiling plan c pre in
          let above : n < level plan x.task.0 = subst (λ m. m < level plan x.task.0) (work_ceiling plan c pre r j w) new.above in
          let both = both_true (nat_lt n (level plan x.task.0)) (is_before plan x j) (le-leb _ _ above) first in
          let was : chosen plan n (Some x) (Some j) ≡ Some j = sym (ap (λ o. chosen plan n o (running plan c pre)) is ∙ ap (chosen plan n (Some x)) then) ∙ w.chosen in
          let same : x ≡ j = some_is x j (sym (ap (λ b. cond b (Some x) (Some j)) both) ∙ was) in
          true≢false (sym first ∙ subst (λ y. is_before plan y j ≡ false) (sym same) (irrefl (is_before plan) (before_order plan) j))
    ]

-- whoever runs has the turn, where nobody new may start
kept_turn : (plan : PlanModel) (c t : ℕ) (pre : List Row) (j : JobId) (o : Option JobId) → running plan c pre ≡ Some j → ((x : JobId) → IsNew plan c t pre x → ⊥) → choice plan c t pre ≡ o → o ≡ Some j
kept_turn plan c t pre j None runs firm e = sym (chosen_none plan (ceiling plan c pre) (head plan c t pre) (running plan c pre) e) ∙ runs
kept_turn plan c t pre j (Some x) runs firm e =
    elim (has_turn plan c t pre x e) [
      | inl new ↦ absurd (firm x new)
      | inr then ↦ sym then ∙ runs
    ]

-- so its own tick's choice still names it
work_chosen : (plan : PlanModel) (c : ℕ) (pre : List Row) (r : Row) (j : JobId) → Works plan c pre r j → is_finished plan (pre ++ r ∷ []) j ≡ false → choice plan c r.tick (pre ++ r ∷ []) ≡ Some j
work_chosen plan c pre r j w left =
    let runs = work_runs plan c pre r j (running plan c (pre ++ r ∷ [])) w left refl in
    kept_turn plan c r.tick (pre ++ r ∷ []) j (choice plan c r.tick (pre ++ r ∷ [])) runs (λ x new. work_firm plan c pre r j x w runs new) refl

-- ---- a job that waits keeps the turn, whoever is released
-- the tasks of the core's jobs are of the plan
task_there : (plan : PlanModel) (c : ℕ) (x : JobId) → Contains (jobs_on plan c) x → Contains plan.tasks (task_of plan x)
task_there plan c x on = Contains-get_or plan.tasks x.task.0 no_task (All-contains (λ (j : JobId). j.task.0 < length plan.tasks) (jobs_on plan c) x (All-from_recursion (λ (j : JobId). j.task.0 < length plan.tasks) (jobs_on plan c) (core_jobs_below plan c)) on)

spin_firm : (plan : PlanModel) (c t : ℕ) (pre : List Row) (j x : JobId) → Contains (jobs_on plan c) j → is_queued pre j ≡ true → IsNew plan c t pre x → ⊥
spin_firm plan c t pre j x there q new =
    let on = least_in (is_before plan) (is_ready plan t pre) (jobs_on plan c) x new.first in
    let a = new.above in
    let b = raised_above plan c pre (queued_raises plan c pre j there q) in
    let d = top_above plan c x (task_there plan c x on) (on_its_core plan c x on) in
    omega (arith, a, b, d)

-- the job of a poll runs
spin_runs : (plan : PlanModel) (c : ℕ) (pre : List Row) (r : Row) (j : JobId) → IsCoreTurn plan c pre r → r.kind ≡ Spin → r.job ≡ Some j → running plan c pre ≡ Some j
spin_runs plan c pre r j h k e =
    let s = queued_started pre j (spin_queued plan c pre r j h k e) in
    elim (has_turn plan c r.tick pre j (core_chosen plan c pre r h ∙ e)) [
      | inl new ↦ absurd (true≢false (sym s ∙ (head_ready plan c r.tick pre j new.first).1))
      | inr runs ↦ runs
    ]

-- and has the turn in every tick
spin_keeps : (plan : PlanModel) (c t : ℕ) (pre : List Row) (r : Row) (j : JobId) → IsCoreTurn plan c pre r → r.kind ≡ Spin → r.job ≡ Some j → choice plan c t (pre ++ r ∷ []) ≡ Some j
spin_keeps plan c t pre r j h k e =
    let on = subst (λ d. Contains (jobs_on plan d) j) h.core ((core_turn plan c pre r h).known j e) in
    let q = spin_queued plan c pre r j h k e in
    choice_same plan c t (pre ++ r ∷ []) pre (still plan c pre r (spin_still plan c pre r h k))
    ∙ kept_turn plan c t pre j (choice plan c t pre) (spin_runs plan c pre r j h k e) (λ x new. spin_firm plan c t pre j x on q new) refl

-- ---- the row again
choice_self : (o : Option JobId) → same_choice o o ≡ true
choice_self None = refl
choice_self (Some j) = same_self j

-- by the choice and the action
turn_again : (plan : PlanModel) (c : ℕ) (pre : List Row) (r : Row) → IsCoreTurn plan c pre r → choice plan c (r.tick + 1) (pre ++ r ∷ []) ≡ r.job → does_next plan (pre ++ r ∷ []) r.job (in_tick (r.tick + 1) r) ≡ true → IsCoreTurn plan c (pre ++ r ∷ []) (in_tick (r.tick + 1) r)
turn_again plan c pre r h turn action = record {
  tick = let t = h.tick in let l = length-append pre (r ∷ []) in omega (arith, t, l);
  core = h.core;
  own = h.own;
  chosen = ap (λ d. same_choice r.job (choice plan d (r.tick + 1) (pre ++ r ∷ []))) h.core ∙ (ap (same_choice r.job) turn ∙ choice_self r.job);
  action = action;
}

-- idle
idle_next : (plan : PlanModel) (pre : List Row) (r : Row) (o : Option JobId) → o ≡ None → r.kind ≡ Idle → does_next plan pre o (in_tick (r.tick + 1) r) ≡ true
idle_next plan pre r o e k = ap (λ o. does_next plan pre o (in_tick (r.tick + 1) r)) e ∙ ap is_idle k

idles_again : (plan : PlanModel) (c : ℕ) (pre : List Row) (r : Row) → IsCoreTurn plan c pre r → r.kind ≡ Idle → NoneReleased plan c (r.tick + 1) 1 → IsCoreTurn plan c (pre ++ r ∷ []) (in_tick (r.tick + 1) r)
idles_again plan c pre r h k none =
    turn_again plan c pre r h (choice_later plan c r.tick (pre ++ r ∷ []) none ∙ idle_chosen plan c pre r h k) (idle_next plan (pre ++ r ∷ []) r r.job (idle_job r k) k)

-- spin
spin_next : (plan : PlanModel) (c : ℕ) (pre : List Row) (r : Row) (j : JobId) → IsCoreTurn plan c pre r → r.kind ≡ Spin → r.job ≡ Some j → does_next plan (pre ++ r ∷ []) r.job (in_tick (r.tick + 1) r) ≡ true
spin_next plan c pre r j h k e =
    let s = in_tick (r.tick + 1) r in
    let d = (core_turn plan c pre r h).does j e in
    let was : does_unit_after plan j (is_queued pre j) (done j pre) r ≡ true = subst (λ o. does_next plan pre o r ≡ true) e h.action in
    let now : does_unit_after plan j (is_queued pre j) (done j pre) s ≡ true = ap (does_unit plan (is_queued pre j) s) d.unit ∙ (sym (ap (does_unit plan (is_queued pre j) r) d.unit) ∙ was) in
    ap (λ o. does_next plan (pre ++ r ∷ []) o s) e ∙ (ap (λ (x : JobState). does_unit_after plan j x.queued x.done s) (spin_still plan c pre r h k j e) ∙ now)

job_of_spin : (r : Row) → r.kind ≡ Spin → (j : JobId) × (r.job ≡ Some j)
job_of_spin r k = some_job r.job r.res (subst (λ kind. has_shape kind r.job r.res ≡ true) k r.shape)
  where
    some_job : (o : Option JobId) (res : Option ResId) → has_shape Spin o res ≡ true → (j : JobId) × (o ≡ Some j)
    some_job None res h = absurd (cc)
    some_job (Some j) res h = (j, refl)

spins_again : (plan : PlanModel) (c : ℕ) (pre : List Row) (r : Row) → IsCoreTurn plan c pre r → r.kind ≡ Spin → IsCoreTurn plan c (pre ++ r ∷ []) (in_tick (r.tick + 1) r)
spins_again plan c pre r h k =
    let j = job_of_spin r k in
    turn_again plan c pre r h (spin_keeps plan c (r.tick + 1) pre r j.0 h k j.1 ∙ sym j.1) (spin_next plan c pre r j.0 h k j.1)

-- run
run_res : (o : Option JobId) (res : Option ResId) → has_shape Run o res ≡ true → same_res res None ≡ true
run_res o None h = refl
run_res None (Some g) h = absurd (cc)
run_res (Some j) (Some g) h = absurd (cc)

allows_run : (queued : Bool) → allows false queued RunUnit Run ≡ true
allows_run true = refl
allows_run false = refl

work_next : (plan : PlanModel) (pre : List Row) (r : Row) (j : JobId) → r.kind ≡ Run → r.job ≡ Some j → slice_get (units plan j) (done j pre) ≡ Some RunUnit → does_next plan pre r.job (in_tick (r.tick + 1) r) ≡ true
work_next plan pre r j k e u =
    let s = in_tick (r.tick + 1) r in
    let res = run_res r.job r.res (subst (λ kind. has_shape kind r.job r.res ≡ true) k r.shape) in
    let kind : allows false (is_queued pre j) RunUnit r.kind ≡ true = ap (allows false (is_queued pre j) RunUnit) k ∙ allows_run (is_queued pre j) in
    ap (λ o. does_next plan pre o s) e ∙ (ap (does_unit plan (is_queued pre j) s) u ∙ both_true (same_res r.res None) (allows false (is_queued pre j) RunUnit r.kind) res kind)

unfinished : (plan : PlanModel) (pre : List Row) (j : JobId) (op : Op) → slice_get (units plan j) (done j pre) ≡ Some op → is_finished plan pre j ≡ false
unfinished plan pre j op u =
    let l = slice_get_within (units plan j) (done j pre) op u in
    false_from_ne_true (is_finished plan pre j) (λ f. let d = eqb-true (done j pre) (length (units plan j)) f in absurd (omega (arith, d, l)))

works_again : (plan : PlanModel) (c : ℕ) (pre : List Row) (r : Row) (j : JobId) → IsCoreTurn plan c pre r → r.kind ≡ Run → r.job ≡ Some j → is_queued pre j ≡ false → HasWork plan j (done j (pre ++ r ∷ [])) 1 → NoneReleased plan c (r.tick + 1) 1 → IsCoreTurn plan c (pre ++ r ∷ []) (in_tick (r.tick + 1) r)
works_again plan c pre r j h k e q work none =
    let w = works plan c pre r j h k e q in
    let u : slice_get (units plan j) (done j (pre ++ r ∷ [])) ≡ Some RunUnit = work (done j (pre ++ r ∷ [])) (omega arith) (omega arith) in
    turn_again plan c pre r h (choice_later plan c r.tick (pre ++ r ∷ []) none ∙ (work_chosen plan c pre r j w (unfinished plan (pre ++ r ∷ []) j RunUnit u) ∙ sym e)) (work_next plan (pre ++ r ∷ []) r j k e u)

-- ---- what a turn looks at
-- lists whose images are equal have equal images, element by element
images_same : {X Y : Type 0} (f g : X → Y) (xs : List X) → map f xs ≡ map g xs → AllByRecursion (λ x. f x ≡ g x) xs
images_same f g [] e = tt
images_same f g (x ∷ xs) e = let a : f x ≡ g x = cc in let b : map f xs ≡ map g xs = cc in (a, images_same f g xs b)

-- what a job of the core does next
next_by_states : (plan : PlanModel) (c : ℕ) (log other : List Row) (r : Row) (o : Option JobId) → SameStates plan c log other → ((j : JobId) → o ≡ Some j → Contains (jobs_on plan c) j) → does_next plan log o r ≡ does_next plan other o r
next_by_states plan c log other r None same on = refl
next_by_states plan c log other r (Some j) same on =
    let s = All-contains (λ j. state_after log j ≡ state_after other j) (jobs_on plan c) j (All-from_recursion (λ j. state_after log j ≡ state_after other j) (jobs_on plan c) same) (on j refl) in
    ap (λ (s : JobState). does_unit_after plan j s.queued s.done r) s

-- the choice, the action and the tick look at the states of the core's jobs and the number of its
-- rows alone
pub turns_by_states : (plan : PlanModel) (c : ℕ) (log other : List Row) (r : Row) → length log ≡ length other → map (state_after log) (jobs_on plan c) ≡ map (state_after other) (jobs_on plan c) → IsCoreTurn plan c log r → IsCoreTurn plan c other r
turns_by_states plan c log other r size states h =
    let same : SameStates plan c log other = images_same (state_after log) (state_after other) (jobs_on plan c) states in
    record {
      tick = h.tick ∙ size;
      core = h.core;
      own = h.own;
      chosen = ap (λ d. same_choice r.job (choice plan d r.tick other)) h.core ∙ (ap (same_choice r.job) (sym (choice_same plan c r.tick log other same)) ∙ (ap (λ d. same_choice r.job (choice plan d r.tick log)) (sym h.core) ∙ h.chosen));
      action = sym (next_by_states plan c log other r r.job same (λ j e. subst (λ d. Contains (jobs_on plan d) j) h.core ((core_turn plan c log r h).known j e))) ∙ h.action;
    }

-- ---- the three in one
less_released : (plan : PlanModel) (c t k : ℕ) → NoneReleased plan c t (k + 1) → NoneReleased plan c t 1
less_released plan c t k none i on a = let n = none i on a in omega (arith, n)

rest_released : (plan : PlanModel) (c t k : ℕ) → NoneReleased plan c t (k + 1) → NoneReleased plan c (t + 1) k
rest_released plan c t k none i on a = let n = none i on (omega (arith, a)) in omega (arith, n)

pub stays_again : (plan : PlanModel) → StaysAgain plan
stays_again plan c k pre r h stays =
    let post = pre ++ r ∷ [] in
    let s = in_tick (r.tick + 1) r in
    elim stays [
      | StayWorks j kind job q work none ↦
          let d = (work_state post s j kind job).2 in (
            works_again plan c pre r j h kind job q (λ i a b. work i a (omega (arith, b))) (less_released plan c (r.tick + 1) k none),
            StayWorks j kind job (work_state pre r j kind job).1 (λ i a b. work i (omega (arith, a, d)) (omega (arith, b, d))) (rest_released plan c (r.tick + 1) k none),
          )
      | StayIdles kind none ↦ (idles_again plan c pre r h kind (less_released plan c (r.tick + 1) k none), StayIdles kind (rest_released plan c (r.tick + 1) k none))
      | StayPolls kind ↦ (spins_again plan c pre r h kind, StayPolls kind)
    ]
