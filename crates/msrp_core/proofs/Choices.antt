-- The choice of a core's next job, from the jobs that are ready and those that are active.
use Rattle.msrp_plan.proofs.Common.{ℕ, Bool, true, false, cond, not, nat_eq, max, List, [], refl, ap, sym, subst, arith, length, map, take, inl, inr, list_any, filter, AllByRecursion, Contains, true≢false, or-true, cases_Bool, le-ltb, and_parts, and_from, false_from_ne_true, or_parts, All-contains, All-from_recursion, PlanModel, units, holds_after, jobs_on, same_job, is_released, is_started, is_queued, is_finished, done, holds, greatest, is_global, local_ceiling, resources, raised_with, ceiling_with, is_before, least, first_ready, first_unfinished, choice, JobState, state_after, IsPlan, same_is, same_self, same_symm, any_in, all_weaker, all_both, filter_same, all_of, any_map, any_from}
use Rattle.msrp_core.proofs.Common.{ActiveJob, AreActive, AreDistinct, AwaitsGlobal, Free, HoldSo, Holding, HoldsLocal, IsActiveJob, JobId, Phase, Queued, ResId, Row, StartedJob, active_of, chosen, done_in, eq-eqb, eqb-true, filter_agree, is_active, is_among, is_kept, is_newest, is_waiting_phase, running, started_job, state_in, units_balance}
use Rattle.std.proofs.Common.{◌≤◌, ◌≡◌, ◌<◌, ◌==◌, ◌&&◌, ◌||◌, ◌∷◌, ◌∙◌, take_all}
use Rattle.msrp_plan.specs.Levels as levels
use Rattle.msrp_plan.specs.Ceiling.{is_held_on, is_queued_on, ceiling}
use Rattle.msrp_plan.specs.Choice.{head}
use Rattle.msrp_plan.proofs.Lists.Filters.{any_same}
use Rattle.msrp_plan.proofs.Queues.QueueLocks.{global_named}
use Rattle.msrp_stack.specs.Stack as stack
use Rattle.msrp_core.proofs.HeldUnits.{held_test}
use Rattle.msrp_plan.proofs.Tests.{same_tests}

-- what holds of all elements of a list holds of each
pub at_in : {X : Type 0} (P : X → Type 0) (xs : List X) (x : X) → AllByRecursion P xs → Contains xs x → P x
at_in P xs x all there = All-contains P xs x (All-from_recursion P xs all) there

-- ---- active jobs
-- an active job is started, and has a unit left
pub active_left : (plan : PlanModel) (c : ℕ) (taken : List JobId) (active : List ActiveJob) (j : JobId) → AllByRecursion (IsActiveJob plan c taken) active → is_active active j ≡ true → (is_among taken j ≡ true) × (done_in plan active j < length (units plan j))
active_left plan c taken [] j all e = absurd (true≢false (sym e))
active_left plan c taken (s ∷ active) j all e = elim (cases_Bool (same_job j s.job)) [
  | inl hit ↦
      let same : j ≡ s.job = same_is j s.job hit in
      let d : done_in plan (s ∷ active) j ≡ s.done = ap (λ b. cond b s.done (done_in plan active j)) hit in
      let u : length (units plan j) ≡ length (units plan s.job) = ap (λ k. length (units plan k)) same in
      let l = all.0.left in
      (ap (is_among taken) same ∙ all.0.started, omega (arith, d, u, l))
  | inr miss ↦
      let rest = active_left plan c taken active j all.1 (sym (ap (λ b. b || is_active active j) miss) ∙ e) in
      let d : done_in plan (s ∷ active) j ≡ done_in plan active j = ap (λ b. cond b s.done (done_in plan active j)) miss in
      (rest.0, let l = rest.1 in omega (arith, d, l))
]

-- any other has done all units
pub others_done : (plan : PlanModel) (active : List ActiveJob) (j : JobId) → is_active active j ≡ false → done_in plan active j ≡ length (units plan j)
others_done plan [] j e = refl
others_done plan (s ∷ active) j e =
    let parts = or_parts (same_job j s.job) (is_active active j) e in
    ap (λ b. cond b s.done (done_in plan active j)) parts.0 ∙ others_done plan active j parts.1

-- where none passes each fails
each_fails : {X : Type 0} (p : X → Bool) (xs : List X) → list_any p xs ≡ false → AllByRecursion (λ x. p x ≡ false) xs
each_fails p [] e = tt
each_fails p (x ∷ xs) e = let parts = or_parts (p x) (list_any p xs) e in (parts.0, each_fails p xs parts.1)

-- each active job has done what it says
pub done_each : (plan : PlanModel) (active : List ActiveJob) → AreDistinct active → AllByRecursion (λ s. done_in plan active s.job ≡ s.done) active
done_each plan [] apart = tt
done_each plan (x ∷ active) apart = (
  ap (λ b. cond b x.done (done_in plan active x.job)) (same_self x.job),
  all_both (λ s. same_job x.job s.job ≡ false) (λ s. done_in plan active s.job ≡ s.done) (λ s. done_in plan (x ∷ active) s.job ≡ s.done)
      (λ s off is. ap (λ b. cond b x.done (done_in plan active s.job)) (same_symm s.job x.job ∙ off) ∙ is) active (each_fails (λ s. same_job x.job s.job) active apart.0) (done_each plan active apart.1),
)

-- a global resource that is kept raises the ceiling
pub kept_raised : (plan : PlanModel) (active : List ActiveJob) (g : ℕ) → IsPlan plan → is_global plan g ≡ true → is_kept active g ≡ true → raised_with plan false (is_kept active) ≡ true
kept_raised plan active g ok glob kept = any_in (λ g. is_global plan g && is_kept active g) (resources plan) g (global_named plan g ok glob) (and_from (is_global plan g) (is_kept active g) glob kept)

-- ---- the rows of a log that leave the jobs so
abbrev pub AreTold : PlanModel → ℕ → List Row → List JobId → Phase → List ActiveJob → Type 0
AreTold plan c log taken phase active = AllByRecursion (λ j. state_after log j ≡ state_in plan taken phase active j) (jobs_on plan c)

module _ (plan : PlanModel) (c : ℕ) (log : List Row) (taken : List JobId) (phase : Phase) (active : List ActiveJob) (ok : IsPlan plan) (are : AreActive plan c taken phase active) (told : AreTold plan c log taken phase active) where
  -- the head is the least that is released and not taken
  pub head_is : (t : ℕ) → head plan c t log ≡ first_ready plan c t (is_among taken)
  head_is t = ap (least (is_before plan)) (filter_same (λ j. is_released plan t j && not (is_started log j)) (λ j. is_released plan t j && not (is_among taken j)) (jobs_on plan c)
      (all_weaker (λ j. state_after log j ≡ state_in plan taken phase active j) (λ j. (is_released plan t j && not (is_started log j)) ≡ (is_released plan t j && not (is_among taken j))) (λ j e. ap (λ (s : JobState). is_released plan t j && not s.started) e) (jobs_on plan c) told))

  -- a job is started and unfinished exactly where it is active
  active_is : (j : JobId) → state_after log j ≡ state_in plan taken phase active j → (is_started log j && not (is_finished plan log j)) ≡ (is_active active j && not false)
  active_is j e =
      let a : (is_started log j && not (is_finished plan log j)) ≡ (is_among taken j && not (cond (is_among taken j) (done_in plan active j) 0 == length (units plan j))) = ap (λ (s : JobState). s.started && not (s.done == length (units plan j))) e in
      a ∙ by_case (is_active active j) refl
    where
      by_case : (b : Bool) → is_active active j ≡ b → (is_among taken j && not (cond (is_among taken j) (done_in plan active j) 0 == length (units plan j))) ≡ (is_active active j && not false)
      by_case true g =
          let l = active_left plan c taken active j are.each g in
          let t = l.0 in
          let d : cond (is_among taken j) (done_in plan active j) 0 ≡ done_in plan active j = ap (λ b. cond b (done_in plan active j) 0) t in
          let n : (cond (is_among taken j) (done_in plan active j) 0 == length (units plan j)) ≡ false = false_from_ne_true _ (λ h. let k = eqb-true _ _ h in let m = l.1 in absurd (omega (arith, k, d, m))) in
          ap (λ b. b && not (cond (is_among taken j) (done_in plan active j) 0 == length (units plan j))) t ∙ (ap not n ∙ sym (ap (λ b. b && not false) g))
      by_case false g = elim (cases_Bool (is_among taken j)) [
        | inl t ↦
            let d : cond (is_among taken j) (done_in plan active j) 0 ≡ length (units plan j) = ap (λ b. cond b (done_in plan active j) 0) t ∙ others_done plan active j g in
            ap (λ b. b && not (cond (is_among taken j) (done_in plan active j) 0 == length (units plan j))) t ∙ (ap not (eq-eqb _ _ d) ∙ sym (ap (λ b. b && not false) g))
        | inr n ↦ ap (λ b. b && not (cond (is_among taken j) (done_in plan active j) 0 == length (units plan j))) n ∙ sym (ap (λ b. b && not false) g)
      ]

  -- so who runs is the least of the active jobs
  pub running_is : running plan c log ≡ first_unfinished plan c (is_active active) (λ j. false)
  running_is = ap (least (is_before plan)) (filter_same (λ j. is_started log j && not (is_finished plan log j)) (λ j. is_active active j && not false) (jobs_on plan c)
      (all_weaker (λ j. state_after log j ≡ state_in plan taken phase active j) (λ j. (is_started log j && not (is_finished plan log j)) ≡ (is_active active j && not false)) active_is (jobs_on plan c) told))

  -- ---- what is held
  -- by its units so far
  abbrev holds_by : ℕ → ActiveJob → Bool
  holds_by g s = holds_after (take s.done (units plan s.job)) g

  -- nor do all units of a task
  all_free : (g : ℕ) (j : JobId) → holds_after (take (length (units plan j)) (units plan j)) g ≡ false
  all_free g j =
      let whole : take (length (units plan j)) (units plan j) ≡ units plan j = take_all (length (units plan j)) (units plan j) (omega arith) in
      ap (λ us. holds_after us g) whole ∙ le-ltb _ _ (let b = units_balance plan ok j.task.0 g in omega (arith, b))

  -- who holds it is active
  holder_goes : (g : ℕ) (j : JobId) → holds_after (take (cond (is_among taken j) (done_in plan active j) 0) (units plan j)) g ≡ true → (is_active active j ≡ true) × (is_among taken j ≡ true)
  holder_goes g j h = elim (cases_Bool (is_active active j)) [
    | inl y ↦ (y, (active_left plan c taken active j are.each y).0)
    | inr n ↦ elim (cases_Bool (is_among taken j)) [
      | inl t ↦
          let d : cond (is_among taken j) (done_in plan active j) 0 ≡ length (units plan j) = ap (λ b. cond b (done_in plan active j) 0) t ∙ others_done plan active j n in
          absurd (true≢false (sym h ∙ (ap (λ k. holds_after (take k (units plan j)) g) d ∙ all_free g j)))
      | inr f ↦ absurd (true≢false (sym h ∙ ap (λ b. holds_after (take (cond b (done_in plan active j) 0) (units plan j)) g) f))
    ]
  ]

  -- so one of the active jobs does
  active_holds : (g : ℕ) (rest : List ActiveJob) (j : JobId) → is_active rest j ≡ true → holds_after (take (done_in plan rest j) (units plan j)) g ≡ true → list_any (holds_by g) rest ≡ true
  active_holds g [] j e h = absurd (true≢false (sym e))
  active_holds g (s ∷ rest) j e h = elim (cases_Bool (same_job j s.job)) [
    | inl hit ↦
        let d : done_in plan (s ∷ rest) j ≡ s.done = ap (λ b. cond b s.done (done_in plan rest j)) hit in
        let q : holds_by g s ≡ true = ap (λ k. holds_after (take s.done (units plan k)) g) (sym (same_is j s.job hit)) ∙ (ap (λ k. holds_after (take k (units plan j)) g) (sym d) ∙ h) in
        ap (λ b. b || list_any (holds_by g) rest) q
    | inr miss ↦
        let d : done_in plan (s ∷ rest) j ≡ done_in plan rest j = ap (λ b. cond b s.done (done_in plan rest j)) miss in
        let more = active_holds g rest j (sym (ap (λ b. b || is_active rest j) miss) ∙ e) (ap (λ k. holds_after (take k (units plan j)) g) (sym d) ∙ h) in
        ap (λ b. holds_by g s || b) more ∙ or-true (holds_by g s)
  ]

  -- the units that a job has done after the log
  done_is : (j : JobId) → Contains (jobs_on plan c) j → done j log ≡ cond (is_among taken j) (done_in plan active j) 0
  done_is j there = ap (λ (s : JobState). s.done) (at_in (λ j. state_after log j ≡ state_in plan taken phase active j) (jobs_on plan c) j told there)

  -- a job of the core holds a resource exactly where an active job does by its units
  held_by_active : (g : ℕ) → is_held_on plan c log g ≡ list_any (holds_by g) active
  held_by_active g = same_tests (is_held_on plan c log g) (list_any (holds_by g) active) forth back
    where
      forth : is_held_on plan c log g ≡ true → list_any (holds_by g) active ≡ true
      forth h =
          let x = any_from (holds plan log g) (jobs_on plan c) h in
          let e : holds_after (take (cond (is_among taken x.0) (done_in plan active x.0) 0) (units plan x.0)) g ≡ true = ap (λ k. holds_after (take k (units plan x.0)) g) (sym (done_is x.0 x.1)) ∙ x.2 in
          let goes = holder_goes g x.0 e in
          active_holds g active x.0 goes.0 (ap (λ b. holds_after (take (cond b (done_in plan active x.0) 0) (units plan x.0)) g) (sym goes.1) ∙ e)

      back : list_any (holds_by g) active ≡ true → is_held_on plan c log g ≡ true
      back h =
          let s = any_from (holds_by g) active h in
          let is = at_in (IsActiveJob plan c taken) active s.0 are.each s.1 in
          let d : done s.0.job log ≡ s.0.done = done_is s.0.job is.known ∙ (ap (λ b. cond b (done_in plan active s.0.job) 0) is.started ∙ at_in (λ s. done_in plan active s.job ≡ s.done) active s.0 (done_each plan active are.apart) s.1) in
          any_in (holds plan log g) (jobs_on plan c) s.0.job is.known (ap (λ k. holds_after (take k (units plan s.0.job)) g) d ∙ s.2)

  -- a job of the core is queued exactly where the core awaits a resource
  queued_is : list_any (is_queued log) (jobs_on plan c) ≡ is_waiting_phase phase
  queued_is = same_tests (list_any (is_queued log) (jobs_on plan c)) (is_waiting_phase phase) forth (λ w. back phase refl w)
    where
      queued_at : (j : JobId) → Contains (jobs_on plan c) j → is_queued log j ≡ (is_waiting_phase phase && is_newest active j)
      queued_at j there = ap (λ (s : JobState). s.queued) (at_in (λ j. state_after log j ≡ state_in plan taken phase active j) (jobs_on plan c) j told there)

      forth : list_any (is_queued log) (jobs_on plan c) ≡ true → is_waiting_phase phase ≡ true
      forth h =
          let x = any_from (is_queued log) (jobs_on plan c) h in
          (and_parts (is_waiting_phase phase) (is_newest active x.0) (sym (queued_at x.0 x.1) ∙ x.2)).0

      newest_waits : (g : ResId) (rest : List ActiveJob) → phase ≡ Queued g → active ≡ rest → HoldSo plan (Queued g) rest → list_any (is_queued log) (jobs_on plan c) ≡ true
      newest_waits g [] e r h = absurd h
      newest_waits g (s ∷ below) e r h =
          let is = (subst (AllByRecursion (IsActiveJob plan c taken)) r are.each).0 in
          any_in (is_queued log) (jobs_on plan c) s.job is.known (queued_at s.job is.known ∙ (ap (λ p. is_waiting_phase p && is_newest active s.job) e ∙ (ap (λ l. is_newest l s.job) r ∙ same_self s.job)))

      back : (p : Phase) → phase ≡ p → is_waiting_phase p ≡ true → list_any (is_queued log) (jobs_on plan c) ≡ true
      back Free e w = absurd (true≢false (sym w))
      back (Queued g) e w = newest_waits g active e refl (subst (λ p. HoldSo plan p active) e are.holds)
      back (Holding g) e w = absurd (true≢false (sym w))

  -- ---- the ceiling
  -- it depends on the local resources that are held, and on whether it is raised
  ceiling_same : (q p : Bool) (h k : ℕ → Bool) → ((g : ℕ) → (not (is_global plan g) && h g) ≡ (not (is_global plan g) && k g)) → raised_with plan q h ≡ raised_with plan p k → ceiling_with plan c q h ≡ ceiling_with plan c p k
  ceiling_same q p h k locals raised =
      ap (λ gs. max (greatest (map (local_ceiling plan) gs)) (cond (raised_with plan q h) (levels.top plan c) 0)) (filter_agree (λ g. not (is_global plan g) && h g) (λ g. not (is_global plan g) && k g) locals (resources plan))
      ∙ ap (λ b. max (greatest (map (local_ceiling plan) (filter (λ g. not (is_global plan g) && k g) (resources plan)))) (cond b (levels.top plan c) 0)) raised

  -- what an active job holds by its units, it keeps
  abbrev IsKeptSo : ActiveJob → Type 0
  IsKeptSo s = (g : ℕ) → holds_by g s ≡ list_any (nat_eq g) s.held

  -- all but a global resource that it awaits
  abbrev AreLocalsKept : ActiveJob → Type 0
  AreLocalsKept s = (g : ℕ) → is_global plan g ≡ false → holds_by g s ≡ list_any (nat_eq g) s.held

  local_kept : (s : ActiveJob) → HoldsLocal plan s → IsKeptSo s
  local_kept s h g = held_test g (take s.done (units plan s.job)) s.held h.now

  awaiting_kept : (g : ResId) (s : ActiveJob) → AwaitsGlobal plan g s → AreLocalsKept s
  awaiting_kept g s h k l =
      let off : nat_eq k g.0 ≡ false = false_from_ne_true (nat_eq k g.0) (λ e. true≢false (sym h.global ∙ (ap (is_global plan) (sym (eqb-true k g.0 e)) ∙ l))) in
      held_test k (take s.done (units plan s.job)) h.rest h.now ∙ sym (ap (list_any (nat_eq k)) h.held ∙ ap (λ b. b || list_any (nat_eq k) h.rest) off)

  -- by what the core holds or awaits
  locals_kept : (p : Phase) (rest : List ActiveJob) → HoldSo plan p rest → AllByRecursion AreLocalsKept rest
  locals_kept Free rest h = all_weaker (HoldsLocal plan) AreLocalsKept (λ s k g l. local_kept s k g) rest h
  locals_kept (Queued g) [] h = absurd h
  locals_kept (Queued g) (s ∷ below) h = (awaiting_kept g s h.0, all_weaker (HoldsLocal plan) AreLocalsKept (λ s k g l. local_kept s k g) below h.1)
  locals_kept (Holding g) [] h = absurd h
  locals_kept (Holding g) (s ∷ below) h = (λ k l. held_test k (take s.done (units plan s.job)) s.held h.0.now, all_weaker (HoldsLocal plan) AreLocalsKept (λ s k g l. local_kept s k g) below h.1)

  same_by : (b h k : Bool) → (b ≡ false → h ≡ k) → (not b && h) ≡ (not b && k)
  same_by true h k e = refl
  same_by false h k e = e refl

  -- so the local ones that are kept are those that are held
  locals_same : (g : ℕ) → (not (is_global plan g) && is_held_on plan c log g) ≡ (not (is_global plan g) && is_kept active g)
  locals_same g = same_by (is_global plan g) (is_held_on plan c log g) (is_kept active g) (λ l.
      held_by_active g ∙ any_same (holds_by g) (λ s. list_any (nat_eq g) s.held) active (all_weaker AreLocalsKept (λ s. holds_by g s ≡ list_any (nat_eq g) s.held) (λ s k. k g l) active (locals_kept phase active are.holds)))

  -- where all are kept as they are held
  raised_same : AllByRecursion IsKeptSo active → is_waiting_phase phase ≡ false → raised_with plan (is_queued_on plan c log) (is_held_on plan c log) ≡ raised_with plan false (is_kept active)
  raised_same kept calm =
      ap (λ b. b || list_any (λ g. is_global plan g && is_held_on plan c log g) (resources plan)) (queued_is ∙ calm)
      ∙ any_same (λ g. is_global plan g && is_held_on plan c log g) (λ g. is_global plan g && is_kept active g) (resources plan)
      (all_of (λ g. (is_global plan g && is_held_on plan c log g) ≡ (is_global plan g && is_kept active g))
      (λ g. ap (λ b. is_global plan g && b) (held_by_active g ∙ any_same (holds_by g) (λ s. list_any (nat_eq g) s.held) active (all_weaker IsKeptSo (λ s. holds_by g s ≡ list_any (nat_eq g) s.held) (λ s k. k g) active kept))) (resources plan))

  -- by what the core holds or awaits
  raised_by : (p : Phase) (rest : List ActiveJob) → phase ≡ p → active ≡ rest → HoldSo plan p rest → raised_with plan (is_queued_on plan c log) (is_held_on plan c log) ≡ raised_with plan false (is_kept active)
  raised_by Free rest e r h = raised_same (subst (AllByRecursion IsKeptSo) (sym r) (all_weaker (HoldsLocal plan) IsKeptSo local_kept rest h)) (ap is_waiting_phase e)
  raised_by (Queued g) [] e r h = absurd h
  raised_by (Queued g) (s ∷ below) e r h =
      let kept : is_kept active g.0 ≡ true = ap (λ l. is_kept l g.0) r ∙ ap (λ b. b || is_kept below g.0) (ap (list_any (nat_eq g.0)) h.0.held ∙ ap (λ b. b || list_any (nat_eq g.0) h.0.rest) (eq-eqb g.0 g.0 refl)) in
      ap (λ b. b || list_any (λ g. is_global plan g && is_held_on plan c log g) (resources plan)) (queued_is ∙ ap is_waiting_phase e) ∙ sym (kept_raised plan active g.0 ok h.0.global kept)
  raised_by (Holding g) [] e r h = absurd h
  raised_by (Holding g) (s ∷ below) e r h =
      raised_same (subst (AllByRecursion IsKeptSo) (sym r) (λ k. held_test k (take s.done (units plan s.job)) s.held h.0.now, all_weaker (HoldsLocal plan) IsKeptSo local_kept below h.1)) (ap is_waiting_phase e)

  -- the ceiling is that of what the active jobs keep
  pub ceiling_is : ceiling plan c log ≡ ceiling_with plan c false (is_kept active)
  ceiling_is = ceiling_same (is_queued_on plan c log) false (is_held_on plan c log) (is_kept active) locals_same (raised_by phase active refl refl are.holds)

  -- ---- the choice
  pub choice_is : (t : ℕ) → choice plan c t log ≡ chosen plan (ceiling_with plan c false (is_kept active)) (first_ready plan c t (is_among taken)) (first_unfinished plan c (is_active active) (λ j. false))
  choice_is t =
      ap (λ n. chosen plan n (head plan c t log) (running plan c log)) ceiling_is
      ∙ (ap (λ o. chosen plan (ceiling_with plan c false (is_kept active)) o (running plan c log)) (head_is t)
      ∙ ap (chosen plan (ceiling_with plan c false (is_kept active)) (first_ready plan c t (is_among taken))) running_is)

-- ---- as the stack of started jobs says it
-- the started jobs, without the units that they have done
pub started_jobs : (started : List StartedJob) (done : List ℕ) → length started ≤ length done → map started_job (active_of started done) ≡ started
started_jobs [] done e = refl
started_jobs (s ∷ started) [] e = absurd (omega (arith, e))
started_jobs (s ∷ started) (n ∷ done) e = ap (λ l. s ∷ l) (started_jobs started done (omega (arith, e)))

pub active_among : (started : List StartedJob) (done : List ℕ) → length started ≤ length done → (j : JobId) → is_active (active_of started done) j ≡ stack.is_among started j
active_among started done e j = sym (any_map started_job (λ s. same_job j s.job) (active_of started done)) ∙ ap (λ l. stack.is_among l j) (started_jobs started done e)

pub kept_held : (started : List StartedJob) (done : List ℕ) → length started ≤ length done → (g : ℕ) → is_kept (active_of started done) g ≡ stack.is_held started g
kept_held started done e g = sym (any_map started_job (stack.holds g) (active_of started done)) ∙ ap (λ l. stack.is_held l g) (started_jobs started done e)

-- so who runs is on top, and the ceiling is the current one
pub top_is : (m : stack.StackModel) (done : List ℕ) → length m.started ≤ length done → first_unfinished m.plan m.core (is_active (active_of m.started done)) (λ j. false) ≡ stack.top m
top_is m done e = ap (least (is_before m.plan)) (filter_agree (λ j. is_active (active_of m.started done) j && not false) (λ j. stack.is_among m.started j && not false) (λ j. ap (λ b. b && not false) (active_among m.started done e j)) (jobs_on m.plan m.core))

pub current_is : (m : stack.StackModel) (done : List ℕ) → length m.started ≤ length done → ceiling_with m.plan m.core false (is_kept (active_of m.started done)) ≡ stack.current_ceiling m
current_is m done e =
    ap (λ gs. max (greatest (map (local_ceiling m.plan) gs)) (cond (raised_with m.plan false (is_kept (active_of m.started done))) (levels.top m.plan m.core) 0))
    (filter_agree (λ g. not (is_global m.plan g) && is_kept (active_of m.started done) g) (λ g. not (is_global m.plan g) && stack.is_held m.started g) (λ g. ap (λ b. not (is_global m.plan g) && b) (kept_held m.started done e g)) (resources m.plan))
    ∙ ap (λ b. max (greatest (map (local_ceiling m.plan) (filter (λ g. not (is_global m.plan g) && stack.is_held m.started g) (resources m.plan)))) (cond b (levels.top m.plan m.core) 0))
    (any_same (λ g. is_global m.plan g && is_kept (active_of m.started done) g) (λ g. is_global m.plan g && stack.is_held m.started g) (resources m.plan) (all_of (λ g. (is_global m.plan g && is_kept (active_of m.started done) g) ≡ (is_global m.plan g && stack.is_held m.started g)) (λ g. ap (λ b. is_global m.plan g && b) (kept_held m.started done e g)) (resources m.plan)))
