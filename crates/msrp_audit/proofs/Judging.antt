-- What an auditor's tests say of a row: whether it is in its turn, and whether its job is one of
-- its core.
use Rattle.std.proofs.Common.{◌≡◌, ◌≢◌, ◌+◌, ◌-◌, ◌*◌, ◌/◌, ◌<◌, ◌≤◌, ◌==◌, ◌&&◌, ◌||◌, ◌^◌, ◌∷◌, ◌++◌, ◌∙◌}
use Rattle.msrp_plan.proofs.Common.{ℕ, zero, suc, Bool, true, false, not, cond, nat_lt, List, [], Option, Some, None, refl, ap, sym, subst, arith, length, length-append, map, inl, inr, eq-eqb, eqb-true, slice_get, list_any, flat_map, range_with_len, AllByRecursion, ⊤, option_or, true≢false, or-true, cases_Bool, cases_lt, lt-ltb, le-ltb, ltb-true, false_from_ne_true, eqb-false, All-contains, All-from_recursion, list_any-append, same_Some, PlanModel, core_of, job_at, jobs_of, jobs, jobs_on, same_job, IsLegal, IsRunStart, EachAfter, had_turn, is_in_turn, is_on_core, is_of_core, is_chosen, is_next_action, is_fifo_reply, log_of, IsPlan, broken, refused, fault_in, fault_or, any_in, not_equal, same_is, same_self, jobs_of_are, core_jobs_below, kept_by, on_its_core, due, legal_due, same_res_is, same_choice_is, same_kind_is, turns_when_due, fault_push, fault_stays, unbroken_is_legal, mul-le-mul_left, div-mul-add, same_res, same_choice, IfSome, IfOk, and_parts}
use Rattle.msrp_plan.specs.declared.ids.JobId.{JobId}
use Rattle.msrp_plan.specs.declared.faults.Fault.{Fault}
use Rattle.msrp_plan.specs.declared.faults.Rule.{Rule}
use Rattle.msrp_plan.specs.declared.faults.Memory.{Memory}
use Rattle.msrp_plan.specs.declared.faults.Rule.TheVariants.{A1, A2, A7, A3, A4, A5}
use Rattle.msrp_plan.specs.declared.rows.Row.{Row}
use Rattle.msrp_plan.specs.declared.rows.Kind.{Kind}
use Rattle.msrp_plan.specs.declared.rows.Kind.TheVariants.{Idle, Run, Lock, Unlock, Take, Queue, Spin, Grant, Release}
use Rattle.msrp_plan.specs.declared.ids.ResId.{ResId}
use Rattle.std.specs.declared.result.Result.{Result}
use Rattle.std.specs.declared.result.Result.TheVariants.{Ok, Err}
use Rattle.std.specs.Option.{option_map, is_some}
use Rattle.std.proofs.lemmas.Map.Views.{Contains-from_any}
use Rattle.msrp_plan.proofs.Lists.AnyAll.{all_joined}
use Rattle.msrp_plan.proofs.Lists.Members.{in_filter}
use Rattle.msrp_plan.proofs.Jobs.CoreJobs.{job_on_core}
use Rattle.msrp_plan.proofs.Runs.CoreRuns.{due_by_log}
use Rattle.msrp_plan.proofs.Runs.Verdicts.{legal_is_unbroken}
use Rattle.msrp_core.specs.Machine.{MachineModel}
use Rattle.msrp_sim.specs.Cores.{CoresModel, StandFor, IsDueInRun, IsNextRow, MakesNext, StandOn, IsAs}
use Rattle.msrp_audit.specs.Audits.{AuditorModel, HasFed, IsDueInAudit, IsDueRow, Awaits, answer_of, due_in, has_turn, auditor_view, IsAuditorView, place_in}
use Rattle.msrp_audit.specs.declared.auditor.Auditor.TheInside.{Inside}
use Rattle.msrp_plan.specs.Kinds.{same_kind}
use Rattle.msrp_audit.specs.Foresight.{unlike, does_alike, replied_alike, same_action, same_ahead}
use Rattle.msrp_audit.proofs.Foresight.{broken_is}

pub none_of : {A : Type 0} (o : Option A) → is_some o ≡ false → o ≡ None
none_of None e = refl
none_of (Some a) e = absurd (cc)

-- ---- an answer that tells a fault, and one that tells none
pub fault_told : (o : Option Fault) (f : Fault) → Err f ≡ answer_of o → o ≡ Some f
fault_told None f h = absurd (cc)
fault_told (Some g) f h = cc

pub good_told : (o : Option Fault) (good : ⊤) → Ok good ≡ answer_of o → o ≡ None
good_told None good h = refl
good_told (Some f) good h = absurd (cc)

-- ---- A1
-- a core that had no turn in the tick that is due has as many turns as ticks are full
pub reached : (plan : PlanModel) (rows : List Row) (c : ℕ) → IsPlan plan → EachAfter (IsLegal plan) [] rows → c < plan.cores → had_turn c (length rows / plan.cores) rows ≡ false → length (log_of c rows) ≡ length rows / plan.cores
reached plan rows c ok all low had = turns_when_due plan rows c ok all (record { core = low; once = had })

-- so its machine's tick tells whether it had its turn
tick_tells : (plan : PlanModel) (rows : List Row) (c : ℕ) → IsPlan plan → EachAfter (IsLegal plan) [] rows → c < plan.cores → (b : Bool) → had_turn c (length rows / plan.cores) rows ≡ b → (length (log_of c rows) == length rows / plan.cores) ≡ not b
tick_tells plan rows c ok all low false had = eq-eqb (length (log_of c rows)) (length rows / plan.cores) (reached plan rows c ok all low had)
tick_tells plan rows c ok all low true had = not_equal (length (log_of c rows)) (length rows / plan.cores) (λ e. true≢false (sym had ∙ due_by_log plan rows c all low e))

-- the machine's tick, by the rows
machine_tick : (m : CoresModel) (rows : List Row) (c t : ℕ) → StandFor m rows → option_map (λ (x : MachineModel). x.tick) (slice_get m.machines c) ≡ Some t → t ≡ length (log_of c rows)
machine_tick m rows c t stands h = by_place (slice_get m.machines c) refl
  where
    by_place : (o : Option MachineModel) → slice_get m.machines c ≡ o → t ≡ length (log_of c rows)
    by_place None e = let no : None ≡ Some t = sym (ap (option_map (λ (x : MachineModel). x.tick)) e) ∙ h in absurd (cc)
    by_place (Some x) e = same_Some t x.tick (sym h ∙ ap (option_map (λ (x : MachineModel). x.tick)) e) ∙ (stands.logs c x e).tick

-- the core's turns so far tell whether a row in the tick that is due is in its turn
pub turn_by_tick : (plan : PlanModel) (rows : List Row) (r : Row) (t : ℕ) → IsPlan plan → EachAfter (IsLegal plan) [] rows → r.tick ≡ length rows / plan.cores → r.core.0 < plan.cores → t ≡ length (log_of r.core.0 rows) → (t == r.tick) ≡ is_in_turn plan rows r
turn_by_tick plan rows r t ok all now low turns =
    ap (λ n. n == r.tick) turns
    ∙ (ap (λ n. length (log_of r.core.0 rows) == n) now
    ∙ (tick_tells plan rows r.core.0 ok all low (had_turn r.core.0 (length rows / plan.cores) rows) refl
    ∙ (ap (λ n. not (had_turn r.core.0 n rows)) (sym now)
    ∙ sym (ap (λ b. b && (nat_lt r.core.0 plan.cores && not (had_turn r.core.0 r.tick rows))) (eq-eqb r.tick (length rows / plan.cores) now)
    ∙ ap (λ b. b && not (had_turn r.core.0 r.tick rows)) (lt-ltb r.core.0 plan.cores low)))))

-- and it tells whether the core has its turn still to come
pub has_turn_is : (m : CoresModel) (plan : PlanModel) (rows : List Row) (c now t : ℕ) → m.plan ≡ plan → IsPlan plan → StandFor m rows → now ≡ length rows / plan.cores → c < plan.cores
    → option_map (λ (x : MachineModel). x.tick) (slice_get m.machines c) ≡ Some t → (t == now) ≡ has_turn plan rows c
has_turn_is m plan rows c now t same ok stands is low has =
    let start : IsRunStart plan rows = subst (λ p. IsRunStart p rows) same stands.start in
    ap (λ n. n == now) (machine_tick m rows c t stands has)
    ∙ (ap (λ n. length (log_of c rows) == n) is
    ∙ (tick_tells plan rows c ok start.each low (had_turn c (length rows / plan.cores) rows) refl
    ∙ sym (ap (λ b. b && not (had_turn c (length rows / plan.cores) rows)) (lt-ltb c plan.cores low))))

-- a row is in its turn where it is in the tick that is due and its core has its turn still to come
pub in_turn_is : (plan : PlanModel) (rows : List Row) (r : Row) (now : ℕ) (b : Bool) → now ≡ length rows / plan.cores → b ≡ has_turn plan rows r.core.0 → ((r.tick == now) && b) ≡ is_in_turn plan rows r
in_turn_is plan rows r now b is has = by_tick (r.tick == length rows / plan.cores) refl
  where
    by_tick : (same : Bool) → (r.tick == length rows / plan.cores) ≡ same → ((r.tick == now) && b) ≡ is_in_turn plan rows r
    by_tick true e =
        ap (λ n. (r.tick == n) && b) is ∙ (ap (λ a. (r.tick == length rows / plan.cores) && a) has
        ∙ ap (λ n. (r.tick == length rows / plan.cores) && (nat_lt r.core.0 plan.cores && not (had_turn r.core.0 n rows))) (sym (eqb-true r.tick (length rows / plan.cores) e)))
    by_tick false e =
        ap (λ n. (r.tick == n) && b) is ∙ (ap (λ a. a && b) e
        ∙ sym (ap (λ a. a && (nat_lt r.core.0 plan.cores && not (had_turn r.core.0 r.tick rows))) e))

-- a row in its turn is of a core that is due
pub due_after : (plan : PlanModel) (rows : List Row) (r : Row) → length rows < plan.cores * plan.ticks → is_in_turn plan rows r ≡ true → IsDueInRun plan rows r.core.0
due_after plan rows r left turn =
    let d = due plan rows r turn in
    record { turn = record { core = d.core; once = subst (λ n. had_turn r.core.0 n rows ≡ false) d.tick d.once }; left = left }

-- ---- A2
-- each job of the plan is one of its task's
low : (n a m : ℕ) → a + m ≤ n → AllByRecursion (λ k. k < n) (range_with_len a m)
low n a zero h = tt
low n a (suc m) h = (omega (arith, h), low n (a + 1) m (omega (arith, h)))

abbrev IsNumbered : PlanModel → JobId → Type 0
IsNumbered plan j = j.k < length (jobs_of plan j.task.0)

numbered_map : (plan : PlanModel) (t : ℕ) (ks : List ℕ) → AllByRecursion (λ k. k < length (jobs_of plan t)) ks → AllByRecursion (IsNumbered plan) (map (job_at t) ks)
numbered_map plan t [] all = tt
numbered_map plan t (k ∷ ks) all = (all.0, numbered_map plan t ks all.1)

numbered_task : (plan : PlanModel) → IsPlan plan → (t : ℕ) → AllByRecursion (IsNumbered plan) (jobs_of plan t)
numbered_task plan ok t = subst (AllByRecursion (IsNumbered plan)) (sym (jobs_of_are plan ok t)) (numbered_map plan t (range_with_len 0 (length (jobs_of plan t))) (low (length (jobs_of plan t)) 0 (length (jobs_of plan t)) (omega arith)))

numbered_all : (plan : PlanModel) → IsPlan plan → (ts : List ℕ) → AllByRecursion (IsNumbered plan) (flat_map (jobs_of plan) ts)
numbered_all plan ok [] = tt
numbered_all plan ok (t ∷ ts) = all_joined (IsNumbered plan) (jobs_of plan t) (flat_map (jobs_of plan) ts) (numbered_task plan ok t) (numbered_all plan ok ts)

-- and each so numbered is a job of the plan
any_number : (t k a m : ℕ) → a ≤ k → k < a + m → list_any (same_job (job_at t k)) (map (job_at t) (range_with_len a m)) ≡ true
any_number t k a zero h l = absurd (omega (arith, h, l))
any_number t k a (suc m) h l = elim (cases_Bool (a == k)) [
  | inl e ↦ ap (λ b. b || list_any (same_job (job_at t k)) (map (job_at t) (range_with_len (a + 1) m))) (subst (λ n. same_job (job_at t k) (job_at t n) ≡ true) (sym (eqb-true a k e)) (same_self (job_at t k)))
  | inr e ↦
      let ne = eqb-false a k e in
      ap (λ b. same_job (job_at t k) (job_at t a) || b) (any_number t k (a + 1) m (omega (arith, h, ne)) (omega (arith, l))) ∙ or-true (same_job (job_at t k) (job_at t a))
]

any_task : (p : JobId → Bool) (f : ℕ → List JobId) (t a m : ℕ) → a ≤ t → t < a + m → list_any p (f t) ≡ true → list_any p (flat_map f (range_with_len a m)) ≡ true
any_task p f t a zero h l e = absurd (omega (arith, h, l))
any_task p f t a (suc m) h l e = list_any-append p (f a) (flat_map f (range_with_len (a + 1) m)) ∙ (elim (cases_Bool (a == t)) [
  | inl same ↦ ap (λ b. b || list_any p (flat_map f (range_with_len (a + 1) m))) (subst (λ n. list_any p (f n) ≡ true) (sym (eqb-true a t same)) e)
  | inr other ↦
      let ne = eqb-false a t other in
      ap (λ b. list_any p (f a) || b) (any_task p f t (a + 1) m (omega (arith, h, ne)) (omega (arith, l)) e) ∙ or-true (list_any p (f a))
])

on_core_from : (plan : PlanModel) (c : ℕ) (j : JobId) → IsPlan plan → j.task.0 < length plan.tasks → core_of plan j ≡ c → j.k < length (jobs_of plan j.task.0) → list_any (same_job j) (jobs_on plan c) ≡ true
on_core_from plan c j ok task core k =
    let own : list_any (same_job j) (jobs_of plan j.task.0) ≡ true = subst (λ l. list_any (same_job j) l ≡ true) (sym (jobs_of_are plan ok j.task.0)) (any_number j.task.0 j.k 0 (length (jobs_of plan j.task.0)) (omega arith) (omega (arith, k))) in
    let all : list_any (same_job j) (jobs plan) ≡ true = any_task (same_job j) (jobs_of plan) j.task.0 0 (length plan.tasks) (omega arith) (omega (arith, task)) own in
    any_in (same_job j) (jobs_on plan c) j (in_filter (λ i. core_of plan i == c) (jobs plan) j (Contains-from_any same_is j (jobs plan) all) (eq-eqb (core_of plan j) c core)) (same_self j)

-- the test on a job, by its parts
pub own_is : (plan : PlanModel) (r : Row) (j : JobId) → IsPlan plan → r.job ≡ Some j → j.task.0 < length plan.tasks → core_of plan j ≡ r.core.0 → nat_lt j.k (length (jobs_of plan j.task.0)) ≡ is_of_core plan r
own_is plan r j ok job task core = elim (cases_lt j.k (length (jobs_of plan j.task.0))) [
  | inl l ↦ lt-ltb j.k (length (jobs_of plan j.task.0)) l ∙ sym (ap (is_on_core plan r.core.0) job ∙ on_core_from plan r.core.0 j ok task core l)
  | inr g ↦ le-ltb j.k (length (jobs_of plan j.task.0)) g ∙ sym (false_from_ne_true (is_of_core plan r) (λ h.
      let there = (kept_by (λ i. core_of plan i == r.core.0) (jobs plan) j (job_on_core plan r.core.0 r.job j h job)).0 in
      let l = All-contains (IsNumbered plan) (jobs plan) j (All-from_recursion (IsNumbered plan) (jobs plan) (numbered_all plan ok (range_with_len 0 (length plan.tasks)))) there in
      omega (arith, l, g)))
]

pub no_task_is : (plan : PlanModel) (r : Row) (j : JobId) → r.job ≡ Some j → length plan.tasks ≤ j.task.0 → false ≡ is_of_core plan r
no_task_is plan r j job past = sym (false_from_ne_true (is_of_core plan r) (λ h.
    let l = All-contains (λ i. i.task.0 < length plan.tasks) (jobs_on plan r.core.0) j (All-from_recursion (λ i. i.task.0 < length plan.tasks) (jobs_on plan r.core.0) (core_jobs_below plan r.core.0)) (job_on_core plan r.core.0 r.job j h job) in
    omega (arith, l, past)))

pub other_core_is : (plan : PlanModel) (r : Row) (j : JobId) → r.job ≡ Some j → core_of plan j ≢ r.core.0 → false ≡ is_of_core plan r
other_core_is plan r j job ne = sym (false_from_ne_true (is_of_core plan r) (λ h. ne (on_its_core plan r.core.0 j (job_on_core plan r.core.0 r.job j h job))))

-- ---- the row against the one that is due
pub refused_is : (plan : PlanModel) (rows : List Row) (r s : Row) → length rows < plan.cores * plan.ticks → is_in_turn plan rows r ≡ true → is_of_core plan r ≡ true → IsNextRow plan rows r.core.0 s → unlike r s ≡ refused plan rows r
refused_is plan rows r s left turn own next =
    sym (ap (λ b. cond b (broken plan rows r) (Some A7)) (lt-ltb (length rows) (plan.cores * plan.ticks) left) ∙ broken_is plan rows r s next.legal next.carries turn own (sym next.core))

-- a row that breaks none of these rules is as the one that is due
unbroken : (a b d : Bool) → option_or (cond a (cond b None (Some A4)) (Some A3)) (cond d None (Some A5)) ≡ None → (a ≡ true) × (b ≡ true) × (d ≡ true)
unbroken true true true h = (refl, refl, refl)
unbroken true true false h = absurd (cc)
unbroken true false d h = absurd (cc)
unbroken false b d h = absurd (cc)

ahead_is : (o p : Option ℕ) → same_ahead o p ≡ true → IfSome o (λ n. p ≡ Some n)
ahead_is None p h = tt
ahead_is (Some n) None h = absurd (cc)
ahead_is (Some n) (Some m) h = ap (λ k. Some k) (sym (eqb-true n m h))

pub as_due : (r s : Row) → r.core.0 ≡ s.core.0 → unlike r s ≡ None → IsAs s r
as_due r s core h =
    let all = unbroken (same_choice r.job s.job) (does_alike r s) (replied_alike r s) h in
    let does = and_parts (same_res r.res s.res) (same_action r.kind s.kind) all.1 in
    let replied = and_parts (same_kind r.kind s.kind) (same_ahead r.ahead s.ahead) all.2 in
    record { core = core; kind = same_kind_is r.kind s.kind replied.0; job = same_choice_is r.job s.job all.0; res = same_res_is r.res s.res does.0; ahead = ahead_is r.ahead s.ahead replied.1 }

-- and the other way round
alike_res : (o : Option ResId) → same_res o o ≡ true
alike_res None = refl
alike_res (Some g) = eq-eqb g.0 g.0 refl

alike_choice : (o : Option JobId) → same_choice o o ≡ true
alike_choice None = refl
alike_choice (Some j) = same_self j

alike_kind : (k : Kind) → (same_action k k ≡ true) × (same_kind k k ≡ true)
alike_kind Idle = (refl, refl)
alike_kind Run = (refl, refl)
alike_kind Lock = (refl, refl)
alike_kind Unlock = (refl, refl)
alike_kind Take = (refl, refl)
alike_kind Queue = (refl, refl)
alike_kind Spin = (refl, refl)
alike_kind Grant = (refl, refl)
alike_kind Release = (refl, refl)

alike_ahead : (o p : Option ℕ) → IfSome o (λ n. p ≡ Some n) → same_ahead o p ≡ true
alike_ahead None p h = refl
alike_ahead (Some n) p h = ap (same_ahead (Some n)) h ∙ eq-eqb n n refl

alike : (r s : Row) → IsAs s r → unlike r s ≡ None
alike r s is =
    let job : same_choice r.job s.job ≡ true = ap (λ o. same_choice o s.job) is.job ∙ alike_choice s.job in
    let does : does_alike r s ≡ true = ap (λ o. same_res o s.res && same_action r.kind s.kind) is.res ∙ (ap (λ b. b && same_action r.kind s.kind) (alike_res s.res) ∙ (ap (λ k. same_action k s.kind) is.kind ∙ (alike_kind s.kind).0)) in
    let replied : replied_alike r s ≡ true = ap (λ k. same_kind k s.kind && same_ahead r.ahead s.ahead) is.kind ∙ (ap (λ b. b && same_ahead r.ahead s.ahead) (alike_kind s.kind).1 ∙ alike_ahead r.ahead s.ahead is.ahead) in
    ap (λ b. option_or (cond b (cond (does_alike r s) None (Some A4)) (Some A3)) (cond (replied_alike r s) None (Some A5))) job
    ∙ (ap (λ b. option_or (cond b None (Some A4)) (cond (replied_alike r s) None (Some A5))) does ∙ ap (λ b. cond b None (Some A5)) replied)

-- a row that is not unlike has a job of its core
own_as : (plan : PlanModel) (rows : List Row) (r s : Row) → IsNextRow plan rows r.core.0 s → unlike r s ≡ None → is_of_core plan r ≡ true
own_as plan rows r s next none =
    let is = as_due r s (sym next.core) none in
    ap (is_on_core plan r.core.0) is.job ∙ (ap (λ c. is_on_core plan c s.job) (sym next.core) ∙ next.legal.own)

-- and breaks no rule
pub unrefused : (plan : PlanModel) (rows : List Row) (r s : Row) → length rows < plan.cores * plan.ticks → is_in_turn plan rows r ≡ true → IsNextRow plan rows r.core.0 s → unlike r s ≡ None → None ≡ refused plan rows r
unrefused plan rows r s left turn next none = sym none ∙ refused_is plan rows r s left turn (own_as plan rows r s next none) next

-- it is in its turn where the other is, in the same tick and of the same core
in_turn_as : (plan : PlanModel) (rows : List Row) (r s : Row) → r.tick ≡ s.tick → r.core.0 ≡ s.core.0 → is_in_turn plan rows s ≡ true → is_in_turn plan rows r ≡ true
in_turn_as plan rows r s tick core h =
    ap (λ t. (t == length rows / plan.cores) && (nat_lt r.core.0 plan.cores && not (had_turn r.core.0 t rows))) tick
    ∙ (ap (λ c. (s.tick == length rows / plan.cores) && (nat_lt c plan.cores && not (had_turn c s.tick rows))) core ∙ h)

-- ---- one row more that is fed
-- the fault of the rows with it, where those before have none
pub fault_next : (plan : PlanModel) (rows : List Row) (r : Row) (o : Option Rule) (fed : ℕ) → fault_in plan rows ≡ None → fed ≡ length rows → o ≡ refused plan rows r → fault_in plan (rows ++ r ∷ []) ≡ fault_or o (fed + 1) None
fault_next plan rows r o fed good count is = fault_push plan rows r good ∙ (ap (λ p. fault_or p (length rows + 1) None) (sym is) ∙ ap (λ n. fault_or o (n + 1) None) (sym count))

-- behind a fault
pub stays_faulty : (a : AuditorModel) (rows : List Row) (r : Row) (f : Fault) → a.fault ≡ Some f → HasFed a rows → fault_in a.plan (rows ++ r ∷ []) ≡ Some f
stays_faulty a rows r f is h = fault_stays a.plan rows (r ∷ []) f (sym h.fault ∙ is)

pub faulty : (a : AuditorModel) (rows : List Row) (f : Fault) → a.fault ≡ Some f → fault_in a.plan rows ≡ Some f → HasFed a rows
faulty a rows f is h = record {
  fault = is ∙ sym h;
  stand = λ none. let no : None ≡ Some f = sym none ∙ is in absurd (cc);
  count = λ none. let no : None ≡ Some f = sym none ∙ is in absurd (cc);
}

-- a row that breaks a rule, where those before break none
pub fed_bad : (a b : AuditorModel) (f : Fault) (rows : List Row) (r : Row) (rule : Rule) → fault_in a.plan rows ≡ None → a.fed ≡ length rows → Some rule ≡ refused a.plan rows r
    → b ≡ record a { fault = Some f } → f ≡ record { row = a.fed + 1; rule = rule } → HasFed b (rows ++ r ∷ []) × (fault_in a.plan (rows ++ r ∷ []) ≡ Some f)
fed_bad a b f rows r rule good count is same told =
    let now : fault_in a.plan (rows ++ r ∷ []) ≡ Some f = fault_next a.plan rows r (Some rule) a.fed good count is ∙ ap (λ g. Some g) (sym told) in
    (subst (λ (x : AuditorModel). HasFed x (rows ++ r ∷ [])) (sym same) (faulty (record a { fault = Some f }) (rows ++ r ∷ []) f refl now), now)

-- it is one too many, or out of its turn
pub one_too_many : (plan : PlanModel) (rows : List Row) (r : Row) → plan.cores * plan.ticks ≤ length rows → Some A7 ≡ refused plan rows r
one_too_many plan rows r past = sym (ap (λ b. cond b (broken plan rows r) (Some A7)) (le-ltb (length rows) (plan.cores * plan.ticks) past))

pub out_of_turn : (plan : PlanModel) (rows : List Row) (r : Row) → length rows < plan.cores * plan.ticks → is_in_turn plan rows r ≡ false → Some A1 ≡ refused plan rows r
out_of_turn plan rows r left out =
    sym (ap (λ b. cond b (broken plan rows r) (Some A7)) (lt-ltb (length rows) (plan.cores * plan.ticks) left)
    ∙ ap (λ b. cond b (cond (is_of_core plan r) (cond (is_chosen plan rows r) (cond (is_next_action plan rows r) (cond (is_fifo_reply rows r) None (Some A5)) (Some A4)) (Some A3)) (Some A2)) (Some A1)) out)

-- ---- the turn of a core
-- the tick that is due, and whether it is one of the plan's
pub tick_now : (tick cores place fed : ℕ) → place < cores → tick * cores + place ≡ fed → tick ≡ fed / cores
tick_now tick cores place fed low is = sym (div-mul-add tick cores place low) ∙ ap (λ n. n / cores) is

pub left_in : (tick cores place ticks : ℕ) → place < cores → tick < ticks → tick * cores + place < cores * ticks
left_in tick cores place ticks low l = let a = mul-le-mul_left {m = tick + 1} {n = ticks} cores (omega (arith, l)) in omega (arith, low, a)

pub full_in : (tick cores place ticks : ℕ) → ticks ≤ tick → cores * ticks ≤ tick * cores + place
full_in tick cores place ticks l = let a = mul-le-mul_left {m = ticks} {n = tick} cores l in omega (arith, a)

pub tick_left : (tick cores place ticks : ℕ) → tick * cores + place < cores * ticks → tick < ticks
tick_left tick cores place ticks l = elim (cases_lt tick ticks) [
  | inl low ↦ low
  | inr past ↦ let a = full_in tick cores place ticks past in absurd (omega (arith, l, a))
]

pub place_low : (i : Inside) → IsAuditorView i → place_in i < i.plan.now.cores
place_low i keeps = let some = keeps.some in let most = keeps.most in omega (arith, some, most)

-- a core of that tick may have its turn only while there is no fault, and rows are left
pub due_told : (fault : Option Fault) (tick ticks t : ℕ) → t ≤ 20000 → t ≡ due_in fault tick ticks → (fault ≡ None) × (tick < ticks) × (t ≡ tick)
due_told (Some f) tick ticks t few is = absurd (omega (arith, few, is))
due_told None tick ticks t few is = let by = by_test (nat_lt tick ticks) refl in (refl, by.0, by.1)
  where
    by_test : (b : Bool) → nat_lt tick ticks ≡ b → (tick < ticks) × (t ≡ tick)
    by_test true e = (ltb-true tick ticks e, is ∙ ap (λ b. cond b tick (2 ^ 32 - 1)) e)
    by_test false e = let no = is ∙ ap (λ b. cond b tick (2 ^ 32 - 1)) e in absurd (omega (arith, few, no))

pub due_is : (fault : Option Fault) (tick ticks : ℕ) → fault ≡ None → tick < ticks → due_in fault tick ticks ≡ tick
due_is None tick ticks none l = ap (λ b. cond b tick (2 ^ 32 - 1)) (lt-ltb tick ticks l)
due_is (Some f) tick ticks none l = absurd (cc)

-- the same of an auditor that was fed rows without a fault
module _ (i : Inside) (a : AuditorModel) (rows : List Row) (keeps : IsAuditorView i) (is : auditor_view i ≡ a) (fed : HasFed a rows) (none : a.fault ≡ None) where
  size_is : i.tick * i.plan.now.cores + place_in i ≡ length rows
  size_is = ap (λ (b : AuditorModel). b.fed) is ∙ fed.count none

  pub tick_is : i.tick ≡ length rows / a.plan.cores
  tick_is = subst (λ (b : AuditorModel). i.tick ≡ length rows / b.plan.cores) is (tick_now i.tick i.plan.now.cores (place_in i) (length rows) (place_low i keeps) size_is)

  pub left_is : i.tick < i.plan.now.ticks → length rows < a.plan.cores * a.plan.ticks
  left_is l = subst (λ (b : AuditorModel). length rows < b.plan.cores * b.plan.ticks) is (subst (λ n. n < i.plan.now.cores * i.plan.now.ticks) size_is (left_in i.tick i.plan.now.cores (place_in i) i.plan.now.ticks (place_low i keeps) l))

  pub full_is : i.plan.now.ticks ≤ i.tick → a.plan.cores * a.plan.ticks ≤ length rows
  full_is l = subst (λ (b : AuditorModel). b.plan.cores * b.plan.ticks ≤ length rows) is (subst (λ n. i.plan.now.cores * i.plan.now.ticks ≤ n) size_is (full_in i.tick i.plan.now.cores (place_in i) i.plan.now.ticks l))

-- a core that is due now is due after the rows
due_now : (a : AuditorModel) (rows : List Row) (c : ℕ) → a.cores.plan ≡ a.plan → IsDueInAudit a c → HasFed a rows → IsDueInRun a.cores.plan rows c
due_now a rows c same is_due fed =
    let stands = fed.stand is_due.fault in
    let count = fed.count is_due.fault in
    let core : c < a.cores.plan.cores = subst (λ (p : PlanModel). c < p.cores) (sym same) is_due.core in
    let turns : length (log_of c rows) ≡ length rows / a.cores.plan.cores =
    sym (machine_tick a.cores rows c (a.fed / a.plan.cores) stands is_due.tick) ∙ (ap (λ n. n / a.plan.cores) count ∙ ap (λ (p : PlanModel). length rows / p.cores) (sym same)) in
    record {
      turn = record { core = core; once = due_by_log a.cores.plan rows c stands.start.each core turns };
      left = subst (λ (p : PlanModel). length rows < p.cores * p.ticks) (sym same) (subst (λ n. n < a.plan.cores * a.plan.ticks) count is_due.left);
    }

-- its turn makes the row that is awaited
pub awaited : (a : AuditorModel) (n : CoresModel) (rows : List Row) (c : ℕ) (due : Row) → IsDueInAudit a c → a.cores.plan ≡ a.plan → HasFed a rows
    → MakesNext a.cores c due
    → StandOn a.cores n c due
    → Awaits (record a { cores = n }) rows c due
awaited a n rows c due is_due same fed next stand =
    let stands = fed.stand is_due.fault in
    let is = due_now a rows c same is_due fed in
    let row : IsNextRow a.plan rows c due = subst (λ p. IsNextRow p rows c due) same (next rows stands is) in
    record {
      fault = is_due.fault;
      good = sym fed.fault ∙ is_due.fault;
      count = fed.count is_due.fault;
      next = row;
      tick = (legal_due a.plan rows due row.legal).tick;
      stand = λ r likewise legal. stand rows r stands is likewise (subst (λ p. IsLegal p rows r) (sym same) legal);
    }

pub awaited_if : (a : AuditorModel) (n : CoresModel) (c : ℕ) (o : Option Row) → IsDueInAudit a c → a.cores.plan ≡ a.plan
    → IfSome o (MakesNext a.cores c)
    → IfSome o (StandOn a.cores n c)
    → IfSome o (λ due. (rows : List Row) → HasFed a rows → Awaits (record a { cores = n }) rows c due)
awaited_if a n c None is_due same next stand = tt
awaited_if a n c (Some due) is_due same next stand = λ rows fed. awaited a n rows c due is_due same fed next stand

-- the row that its turn makes is the one that is due
fault_none : (o : Option Rule) (n : ℕ) → fault_or o n None ≡ None → o ≡ None
fault_none None n h = refl
fault_none (Some rule) n h = absurd (cc)

refused_left : (plan : PlanModel) (rows : List Row) (r : Row) → length rows < plan.cores * plan.ticks → refused plan rows r ≡ broken plan rows r
refused_left plan rows r left = ap (λ b. cond b (broken plan rows r) (Some A7)) (lt-ltb (length rows) (plan.cores * plan.ticks) left)

due_row : (a : AuditorModel) (rows : List Row) (c : ℕ) (due : Row) → IsDueInAudit a c → a.cores.plan ≡ a.plan → HasFed a rows → MakesNext a.cores c due → IsDueRow a.plan rows c due
due_row a rows c due is_due same fed makes =
    let plan = a.plan in
    let good = sym fed.fault ∙ is_due.fault in
    let left : length rows < plan.cores * plan.ticks = subst (λ n. n < plan.cores * plan.ticks) (fed.count is_due.fault) is_due.left in
    let row : IsNextRow plan rows c due = subst (λ p. IsNextRow p rows c due) same (makes rows (fed.stand is_due.fault) (due_now a rows c same is_due fed)) in
    record {
      next = row;
      good = fault_next plan rows due None (length rows) good refl (sym (refused_left plan rows due left ∙ legal_is_unbroken plan rows due row.legal));
      only = λ r core h.
          let none = fault_none (refused plan rows r) (length rows + 1) (sym (fault_push plan rows r good) ∙ h) in
          let legal = unbroken_is_legal plan rows r (sym (refused_left plan rows r left) ∙ none) in
          let next : IsNextRow plan rows r.core.0 due = record { core = row.core ∙ sym core; legal = row.legal; carries = row.carries } in
          ((legal_due plan rows r legal).tick ∙ sym (legal_due plan rows due row.legal).tick, as_due r due (core ∙ sym row.core) (refused_is plan rows r due left legal.turn legal.own next ∙ none));
    }

pub due_row_if : (a : AuditorModel) (c : ℕ) (o : Result Row Memory) → IsDueInAudit a c → a.cores.plan ≡ a.plan
    → IfOk o (MakesNext a.cores c)
    → IfOk o (λ due. (rows : List Row) → HasFed a rows → IsDueRow a.plan rows c due)
due_row_if a c (Err memory) is_due same makes = tt
due_row_if a c (Ok due) is_due same makes = λ rows fed. due_row a rows c due is_due same fed makes

-- the row that came in the turn of the one that is awaited: it is in its turn
pub came_in_turn : (a : AuditorModel) (rows : List Row) (due r : Row) → Awaits a rows r.core.0 due → r.tick ≡ due.tick → is_in_turn a.plan rows r ≡ true
came_in_turn a rows due r is tick = in_turn_as a.plan rows r due tick (sym is.next.core) is.next.legal.turn

-- and if it is as that one it is fed
pub came : (a : AuditorModel) (rows : List Row) (c : ℕ) (due r : Row) → Awaits a rows c due → a.fed < a.plan.cores * a.plan.ticks → r.tick ≡ due.tick → IsAs due r → HasFed (record a { fed = a.fed + 1 }) (rows ++ r ∷ [])
came a rows c due r is more tick likewise =
    let left : length rows < a.plan.cores * a.plan.ticks = subst (λ n. n < a.plan.cores * a.plan.ticks) is.count more in
    let turn = in_turn_as a.plan rows r due tick likewise.core is.next.legal.turn in
    let next : IsNextRow a.plan rows r.core.0 due = record { core = sym likewise.core; legal = is.next.legal; carries = is.next.carries } in
    let none = alike r due likewise in
    let own = own_as a.plan rows r due next none in
    let legal : IsLegal a.plan rows r = unbroken_is_legal a.plan rows r (broken_is a.plan rows r due is.next.legal is.next.carries turn own likewise.core ∙ none) in
    record {
      fault = is.fault ∙ sym (fault_next a.plan rows r None a.fed is.good is.count (unrefused a.plan rows r due left turn next none));
      stand = λ e. is.stand r likewise legal;
      count = λ e. ap (λ n. n + 1) is.count ∙ sym (length-append rows (r ∷ []));
    }
