-- Which job has the turn, and what it does next, is told by the rows of its core alone.
use Rattle.msrp_plan.specs.Common.{ℕ, true, false, cond, not, List, map, Option, Some, None, length, max, take, filter, list_any, AllByRecursion, PlanModel, core_of, units, holds_after, jobs, jobs_on, is_row_of, is_waiting, same_job, is_started, is_queued, is_released, is_finished, holds, done, is_global, local_ceiling, greatest, top, ceiling, is_held_on, resources, is_before, least, head, running, chosen, choice, does_next, does_unit_after, is_of_core, is_chosen, is_next_action, same_choice, IsCoreTurn, is_of, log_of, JobState, state_after}
use Rattle.msrp_plan.specs.declared.ids.JobId.{JobId}
use Rattle.msrp_plan.specs.declared.rows.Row.{Row}
use Rattle.std.proofs.Common.{◌≡◌, ◌&&◌, ◌||◌, ◌==◌, refl, ap, sym, ◌∙◌, subst, eq-eqb}
use Rattle.std.specs.List.{fold}
use Rattle.std.proofs.lemmas.List.Elements.{recursion_from_All, All-contains, filter_passes, filter_agree}
use Rattle.std.proofs.lemmas.Map.Views.{Contains-from_any}
use Rattle.std.proofs.lemmas.Bool.{eqb-true, and_parts}
use Rattle.msrp_plan.specs.Runs.{is_on_core}
use Rattle.msrp_plan.proofs.Lists.AnyAll.{all_weaker}
use Rattle.msrp_plan.proofs.Levels.Ceilings.{is_raised}
use Rattle.msrp_plan.proofs.Jobs.JobTests.{same_is, is_job_is}
use Rattle.msrp_plan.proofs.Lists.Filters.{filter_within, any_within, count_within, filter_same, any_same, all_of}

-- each row's job, if it has one, is a job of its core
abbrev pub AreOwn : PlanModel → List Row → Type 0
AreOwn plan rows = AllByRecursion (λ r. is_of_core plan r ≡ true) rows

-- the jobs of a core are on it
pub on_core : (plan : PlanModel) (c : ℕ) → AllByRecursion (λ j. (core_of plan j == c) ≡ true) (jobs_on plan c)
on_core plan c = recursion_from_All (λ j. (core_of plan j == c) ≡ true) (jobs_on plan c) (filter_passes (λ j. core_of plan j == c) (jobs plan))

-- whom the test finds on the core is of a task of that core
pub listed_on : (plan : PlanModel) (c : ℕ) (j : JobId) → list_any (same_job j) (jobs_on plan c) ≡ true → core_of plan j ≡ c
listed_on plan c j h = eqb-true (core_of plan j) c (All-contains (λ i. (core_of plan i == c) ≡ true) (jobs_on plan c) j (filter_passes (λ i. core_of plan i == c) (jobs plan)) (Contains-from_any same_is j (jobs_on plan c) h))

-- a row of a job of core c is a row of core c
own_core : (plan : PlanModel) (c : ℕ) (j : JobId) → core_of plan j ≡ c → (r : Row) → is_of_core plan r ≡ true → is_row_of j r ≡ true → is_of c r ≡ true
own_core plan c j at r own mine =
    let listed : list_any (same_job j) (jobs_on plan r.core.0) ≡ true = subst (λ o. is_on_core plan r.core.0 o ≡ true) (is_job_is r.job j mine) own in
    eq-eqb r.core.0 c (sym (listed_on plan r.core.0 j listed) ∙ at)

-- how far a job is says its own core's log
pub state_local : (plan : PlanModel) (c : ℕ) (pre : List Row) (j : JobId) → AreOwn plan pre → core_of plan j ≡ c → state_after (log_of c pre) j ≡ state_after pre j
state_local plan c pre j own at =
    let mine = all_weaker (λ r. is_of_core plan r ≡ true) (λ r. is_row_of j r ≡ true → is_of c r ≡ true) (own_core plan c j at) pre own in
    let moving = all_weaker (λ r. is_of_core plan r ≡ true) (λ r. (is_row_of j r && not (is_waiting r.kind)) ≡ true → is_of c r ≡ true) (λ r h k. own_core plan c j at r h ((and_parts (is_row_of j r) (not (is_waiting r.kind)) k).0)) pre own in
    let a : is_started (log_of c pre) j ≡ is_started pre j = any_within (is_row_of j) (is_of c) pre mine in
    let b : is_queued (log_of c pre) j ≡ is_queued pre j = ap (fold (λ _ r. is_waiting r.kind) false) (filter_within (is_row_of j) (is_of c) pre mine) in
    let d : done j (log_of c pre) ≡ done j pre = count_within (λ r. is_row_of j r && not (is_waiting r.kind)) (is_of c) pre moving in
    cc

-- ---- the choice looks at the states of the core's jobs alone
abbrev pub SameStates : PlanModel → ℕ → List Row → List Row → Type 0
SameStates plan c pre other = AllByRecursion (λ j. state_after pre j ≡ state_after other j) (jobs_on plan c)

-- what a job holds is told by its state
holds_same : (plan : PlanModel) (pre other : List Row) (g : ℕ) (j : JobId) → state_after pre j ≡ state_after other j → holds plan pre g j ≡ holds plan other g j
holds_same plan pre other g j h =
    let d : done j pre ≡ done j other = ap (λ (s : JobState). s.done) h in
    ap (λ n. holds_after (take n (units plan j)) g) d

-- what the jobs of a core hold
held_same : (plan : PlanModel) (c : ℕ) (pre other : List Row) → SameStates plan c pre other → (g : ℕ) → is_held_on plan c pre g ≡ is_held_on plan c other g
held_same plan c pre other same g = any_same (holds plan pre g) (holds plan other g) (jobs_on plan c) (all_weaker (λ j. state_after pre j ≡ state_after other j) (λ j. holds plan pre g j ≡ holds plan other g j) (holds_same plan pre other g) (jobs_on plan c) same)

-- whether one of them is queued
queued_same : (plan : PlanModel) (c : ℕ) (pre other : List Row) → SameStates plan c pre other → list_any (is_queued pre) (jobs_on plan c) ≡ list_any (is_queued other) (jobs_on plan c)
queued_same plan c pre other same = any_same (is_queued pre) (is_queued other) (jobs_on plan c) (all_weaker (λ j. state_after pre j ≡ state_after other j) (λ j. is_queued pre j ≡ is_queued other j) (λ j h. ap (λ (s : JobState). s.queued) h) (jobs_on plan c) same)

-- whether the core's ceiling is raised
raised_same : (plan : PlanModel) (c : ℕ) (pre other : List Row) → SameStates plan c pre other → is_raised plan c pre ≡ is_raised plan c other
raised_same plan c pre other same =
    ap (λ b. b || list_any (λ g. is_global plan g && is_held_on plan c pre g) (resources plan)) (queued_same plan c pre other same)
    ∙ ap (λ b. list_any (is_queued other) (jobs_on plan c) || b) (any_same (λ g. is_global plan g && is_held_on plan c pre g) (λ g. is_global plan g && is_held_on plan c other g) (resources plan) (all_of (λ g. (is_global plan g && is_held_on plan c pre g) ≡ (is_global plan g && is_held_on plan c other g)) (λ g. ap (λ b. is_global plan g && b) (held_same plan c pre other same g)) (resources plan)))

-- the core's ceiling
pub ceiling_same : (plan : PlanModel) (c : ℕ) (pre other : List Row) → SameStates plan c pre other → ceiling plan c pre ≡ ceiling plan c other
ceiling_same plan c pre other same =
    ap (λ gs. max (greatest (map (local_ceiling plan) gs)) (cond (is_raised plan c pre) (top plan c) 0)) (filter_agree (λ g. not (is_global plan g) && is_held_on plan c pre g) (λ g. not (is_global plan g) && is_held_on plan c other g) (λ g. ap (λ b. not (is_global plan g) && b) (held_same plan c pre other same g)) (resources plan))
    ∙ ap (λ b. max (greatest (map (local_ceiling plan) (filter (λ g. not (is_global plan g) && is_held_on plan c other g) (resources plan)))) (cond b (top plan c) 0)) (raised_same plan c pre other same)

-- the head
pub head_same : (plan : PlanModel) (c t : ℕ) (pre other : List Row) → SameStates plan c pre other → head plan c t pre ≡ head plan c t other
head_same plan c t pre other same = ap (least (is_before plan)) (filter_same (λ j. is_released plan t j && not (is_started pre j)) (λ j. is_released plan t j && not (is_started other j)) (jobs_on plan c)
    (all_weaker (λ j. state_after pre j ≡ state_after other j) (λ j. (is_released plan t j && not (is_started pre j)) ≡ (is_released plan t j && not (is_started other j))) (λ j h. ap (λ (s : JobState). is_released plan t j && not s.started) h) (jobs_on plan c) same))

-- who runs
pub running_same : (plan : PlanModel) (c : ℕ) (pre other : List Row) → SameStates plan c pre other → running plan c pre ≡ running plan c other
running_same plan c pre other same = ap (least (is_before plan)) (filter_same (λ j. is_started pre j && not (is_finished plan pre j)) (λ j. is_started other j && not (is_finished plan other j)) (jobs_on plan c)
    (all_weaker (λ j. state_after pre j ≡ state_after other j) (λ j. (is_started pre j && not (is_finished plan pre j)) ≡ (is_started other j && not (is_finished plan other j))) (λ j h. ap (λ (s : JobState). s.started && not (s.done == length (units plan j))) h) (jobs_on plan c) same))

-- where the jobs of a core are as far after two lists of rows, the same one has the turn
pub choice_same : (plan : PlanModel) (c t : ℕ) (pre other : List Row) → SameStates plan c pre other → choice plan c t pre ≡ choice plan c t other
choice_same plan c t pre other same =
    ap (λ n. chosen plan n (head plan c t pre) (running plan c pre)) (ceiling_same plan c pre other same)
    ∙ (ap (λ o. chosen plan (ceiling plan c other) o (running plan c pre)) (head_same plan c t pre other same)
    ∙ ap (chosen plan (ceiling plan c other) (head plan c t other)) (running_same plan c pre other same))

-- ---- so a core's log says as much as all rows
pub states_local : (plan : PlanModel) (c : ℕ) (pre : List Row) → AreOwn plan pre → SameStates plan c (log_of c pre) pre
states_local plan c pre own = all_weaker (λ j. (core_of plan j == c) ≡ true) (λ j. state_after (log_of c pre) j ≡ state_after pre j) (λ j h. state_local plan c pre j own (eqb-true (core_of plan j) c h)) (jobs_on plan c) (on_core plan c)

-- the log of a core tells which of its jobs has the turn
pub choice_local : (plan : PlanModel) (c t : ℕ) (pre : List Row) → AreOwn plan pre → choice plan c t (log_of c pre) ≡ choice plan c t pre
choice_local plan c t pre own = choice_same plan c t (log_of c pre) pre (states_local plan c pre own)

-- what a job of the core does next
pub does_next_local : (plan : PlanModel) (c : ℕ) (pre : List Row) (o : Option JobId) (r : Row) → AreOwn plan pre → is_on_core plan c o ≡ true → does_next plan (log_of c pre) o r ≡ does_next plan pre o r
does_next_local plan c pre None r own at = refl
does_next_local plan c pre (Some j) r own at =
    let s = state_local plan c pre j own (listed_on plan c j at) in
    let d : done j (log_of c pre) ≡ done j pre = ap (λ (s : JobState). s.done) s in
    let q : is_queued (log_of c pre) j ≡ is_queued pre j = ap (λ (s : JobState). s.queued) s in
    ap (λ n. does_unit_after plan j (is_queued (log_of c pre) j) n r) d ∙ ap (λ b. does_unit_after plan j b (done j pre) r) q

-- so a core's next row after its log names the job that has the turn after all rows: the choice
pub chosen_local : (plan : PlanModel) (c : ℕ) (pre : List Row) (r : Row) → AreOwn plan pre → IsCoreTurn plan c (log_of c pre) r → is_chosen plan pre r ≡ true
chosen_local plan c pre r own turn =
    ap (λ d. same_choice r.job (choice plan d r.tick pre)) turn.core
    ∙ (ap (same_choice r.job) (sym (choice_local plan c r.tick pre own))
    ∙ (ap (λ d. same_choice r.job (choice plan d r.tick (log_of c pre))) (sym turn.core) ∙ turn.chosen))

-- the action
pub action_local : (plan : PlanModel) (c : ℕ) (pre : List Row) (r : Row) → AreOwn plan pre → IsCoreTurn plan c (log_of c pre) r → is_next_action plan pre r ≡ true
action_local plan c pre r own turn =
    sym (does_next_local plan c pre r.job r own (subst (λ d. is_on_core plan d r.job ≡ true) turn.core turn.own)) ∙ turn.action
