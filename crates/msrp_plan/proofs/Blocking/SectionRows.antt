-- How many rows an outermost section has: counted along the run against what the units done so far
-- may take.
use Rattle.msrp_plan.specs.Common.{ℕ, zero, suc, Bool, true, false, cond, not, List, [], Some, length, slice_get, filter, range_with_len, sum_by, PlanModel, TaskModel, task_of, core_of, units, is_row_of, is_waiting, is_queued, done, is_global, is_global_unit, res_of_unit, is_on, spin_bound, in_section, section_start, count_after, is_amid, section_of, continues, IsWait, is_grant, is_grant_of, is_spin, is_spin_of, IsLegal, IsRunStart, EachAfter, JobState, IsPlan}
use Rattle.msrp_plan.specs.declared.ids.JobId.{JobId}
use Rattle.msrp_plan.specs.declared.ids.ResId.{ResId}
use Rattle.msrp_plan.specs.declared.rows.Kind.{Kind}
use Rattle.msrp_plan.specs.declared.rows.Kind.TheVariants.{Queue, Spin}
use Rattle.msrp_plan.specs.declared.rows.Row.{Row}
use Rattle.std.proofs.Common.{◌≡◌, ◌+◌, ◌-◌, ◌≤◌, ◌&&◌, ◌||◌, ◌==◌, ◌∷◌, ◌++◌, refl, ap, sym, ◌∙◌, subst, arith, append_assoc, append-nil, eq-eqb}
use Rattle.std.specs.List.{count_by}
use Rattle.std.proofs.Math.Bool.{true≢false, and-false}
use Rattle.std.proofs.lemmas.List.Elements.{filter-append}
use Rattle.std.proofs.lemmas.List.Sums.{sum_by_push}
use Rattle.std.proofs.lemmas.Option.{slice_get_within}
use Rattle.msrp_plan.specs.Bounds.{wait_bound, rows_from}
use Rattle.msrp_plan.specs.declared.units.Op.TheVariants.{Lock as LockUnit}
use Rattle.msrp_plan.proofs.Lists.AnyAll.{any_push}
use Rattle.msrp_plan.proofs.Lists.Ranges.{range_more}
use Rattle.msrp_plan.proofs.Jobs.JobTests.{is_job_is}
use Rattle.msrp_plan.proofs.Lists.Prefixes.{along, each_push}
use Rattle.msrp_plan.proofs.Jobs.States.{state_kept, state_moved}
use Rattle.msrp_plan.proofs.TaskUnits.UnitKinds.{Runs, Locks, Unlocks, Takes, Queues, Grants, Spins, Releases, step_of}
use Rattle.msrp_plan.proofs.Legality.LegalRows.{DoesUnit, legal_turn}
use Rattle.msrp_plan.proofs.Spinning.SpinBound.{spins_within}

-- ---- one row more
-- how many pass, with one element more at the end
pub count_after_push : {X : Type 0} (p : List X → X → Bool) (pre xs : List X) (x : X) → count_after p pre (xs ++ x ∷ []) ≡ count_after p pre xs + cond (p (pre ++ xs) x) 1 0
count_after_push p pre [] x = let e : cond {A = ℕ} (p pre x) 1 0 ≡ cond (p (pre ++ []) x) 1 0 = ap (λ ys. cond (p ys x) 1 0) (sym (append-nil pre)) in omega (arith, e)
count_after_push p pre (y ∷ xs) x =
    let rest = count_after_push p (pre ++ y ∷ []) xs x in
    let same : cond {A = ℕ} (p ((pre ++ y ∷ []) ++ xs) x) 1 0 ≡ cond (p (pre ++ y ∷ xs) x) 1 0 = ap (λ ys. cond (p ys x) 1 0) (append_assoc pre (y ∷ []) xs) in
    omega (arith, rest, same)

-- ---- what the units below n may take of the section that unit a begins
-- the rows of these units of a section: one for each unit after the lock, and the waits
abbrev rows_of : PlanModel → TaskModel → List ℕ → ℕ
rows_of plan task ns = count_by (in_section plan task.units) ns + sum_by (λ n. wait_bound plan task.core (slice_get task.units n)) ns

abbrev pub spent : PlanModel → TaskModel → ℕ → ℕ → ℕ
spent plan task a n = rows_of plan task (filter (λ i. section_start plan task.units i == a) (range_with_len 0 n))

-- the rows of one unit
abbrev pub rows_at : PlanModel → TaskModel → ℕ → ℕ
rows_at plan task n = cond (in_section plan task.units n) 1 0 + wait_bound plan task.core (slice_get task.units n)

-- a unit that may be of the section
rows_of_push : (plan : PlanModel) (task : TaskModel) (ns : List ℕ) (n : ℕ) (b : Bool) → rows_of plan task (ns ++ cond b (n ∷ []) []) ≡ rows_of plan task ns + cond b (rows_at plan task n) 0
rows_of_push plan task ns n true =
    let counted = sum_by_push (λ v. cond {A = ℕ} (in_section plan task.units v) 1 0) ns n in
    let waited = sum_by_push (λ v. wait_bound plan task.core (slice_get task.units v)) ns n in
    omega (arith, counted, waited)
rows_of_push plan task ns n false = let same = ap (rows_of plan task) (append-nil ns) in omega (arith, same)

-- one unit more
pub spent_more : (plan : PlanModel) (task : TaskModel) (a n : ℕ) → spent plan task a (n + 1) ≡ spent plan task a n + cond (section_start plan task.units n == a) (rows_at plan task n) 0
spent_more plan task a n =
    let test : ℕ → Bool = λ i. section_start plan task.units i == a in
    let last : 0 + n ≡ n = omega arith in
    let places : filter (λ i. section_start plan task.units i == a) (range_with_len 0 (n + 1)) ≡ filter (λ i. section_start plan task.units i == a) (range_with_len 0 n) ++ cond (section_start plan task.units n == a) (n ∷ []) [] =
    ap (filter test) (range_more 0 n ∙ ap (λ m. range_with_len 0 n ++ m ∷ []) last) ∙ filter-append test (range_with_len 0 n) (n ∷ []) in
    ap (rows_of plan task) places ∙ rows_of_push plan task (filter test (range_with_len 0 n)) n (section_start plan task.units n == a)

-- so more units take no less
spent_grows : (plan : PlanModel) (task : TaskModel) (a n d m : ℕ) → n + d ≡ m → spent plan task a n ≤ spent plan task a m
spent_grows plan task a n zero m e = let same : spent plan task a n ≡ spent plan task a m = ap (spent plan task a) (omega (arith, e)) in omega (arith, same)
spent_grows plan task a n (suc d) m e =
    let below = spent_grows plan task a n d (n + d) refl in
    let more = spent_more plan task a (n + d) in
    let same : spent plan task a (n + d + 1) ≡ spent plan task a m = ap (spent plan task a) (omega (arith, e)) in
    omega (arith, below, more, same)

pub spent_within : (plan : PlanModel) (task : TaskModel) (a n m : ℕ) → n ≤ m → spent plan task a n ≤ spent plan task a m
spent_within plan task a n m l = spent_grows plan task a n (m - n) m (omega (arith, l))

-- ---- a wait that goes on: the job stands at a lock of a global resource, and has spun s times
-- since it joined the queue
record IsInWait (plan : PlanModel) (pre : List Row) (k : JobId) (s : ℕ) : Type 0 where
  res : ResId
  unit : slice_get (units plan k) (done k pre) ≡ Some (LockUnit res)
  global : is_global plan res.0 ≡ true
  before : List Row
  row : Row
  since : List Row
  rows : pre ≡ before ++ row ∷ since
  wait : IsWait row since k res.0
  spins : count_by (is_spin_of k) since ≡ s

-- what it may take as a whole is one row more than it has spun, at least
wait_covers : (plan : PlanModel) (pre : List Row) (k : JobId) (s : ℕ) → IsPlan plan → EachAfter (IsLegal plan) [] pre → IsInWait plan pre k s → s + 1 ≤ wait_bound plan (core_of plan k) (slice_get (units plan k) (done k pre))
wait_covers plan pre k s ok legal w =
    let within = spins_within plan w.before w.row w.since k w.res.0 ok (subst (EachAfter (IsLegal plan) []) w.rows legal) w.wait in
    let spins = w.spins in
    let is : wait_bound plan (core_of plan k) (slice_get (units plan k) (done k pre)) ≡ 1 + spin_bound plan w.res.0 (core_of plan k) = ap (wait_bound plan (core_of plan k)) w.unit ∙ ap (λ b. cond b (1 + spin_bound plan w.res.0 (core_of plan k)) 0) w.global in
    omega (arith, within, spins, is)

-- one row more, which isn't k's grant
wait_more : (plan : PlanModel) (pre : List Row) (r : Row) (k : JobId) (s b : ℕ) → done k (pre ++ r ∷ []) ≡ done k pre → (w : IsInWait plan pre k s) → is_grant_of k w.res.0 r ≡ false → cond {A = ℕ} (is_spin_of k r) 1 0 ≡ b → IsInWait plan (pre ++ r ∷ []) k (s + b)
wait_more plan pre r k s b same w non spin =
    let spins = w.spins in
    let more = sum_by_push (λ v. cond {A = ℕ} (is_spin_of k v) 1 0) w.since r in
    record {
      res = w.res;
      unit = ap (slice_get (units plan k)) same ∙ w.unit;
      global = w.global;
      before = w.before;
      row = w.row;
      since = w.since ++ r ∷ [];
      rows = ap (λ rows. rows ++ r ∷ []) w.rows ∙ append_assoc w.before (w.row ∷ w.since) (r ∷ []);
      wait = record {
        job = w.wait.job;
        resource = w.wait.resource;
        joins = w.wait.joins;
        waits = any_push (is_grant_of k w.res.0) w.since r ∙ (ap (λ c. c || is_grant_of k w.res.0 r) w.wait.waits ∙ non);
      };
      spins = omega (arith, spins, more, spin);
    }

-- ---- a row in which k waits: it joins a queue, or polls
data WaitRow (plan : PlanModel) (pre : List Row) (r : Row) (k : JobId) : Type 0 where
  Joins : (h : ResId) → slice_get (units plan k) (done k pre) ≡ Some (LockUnit h) → is_global plan h.0 ≡ true → r.res ≡ Some h → is_queued pre k ≡ false → r.kind ≡ Queue → WaitRow plan pre r k
  Polls : is_queued pre k ≡ true → r.kind ≡ Spin → WaitRow plan pre r k

wait_row : (plan : PlanModel) (pre : List Row) (r : Row) (k : JobId) → DoesUnit plan pre k r → is_waiting r.kind ≡ true → WaitRow plan pre r k
wait_row plan pre r k d waits =
    let no : (kind : Kind) → r.kind ≡ kind → is_waiting kind ≡ false → WaitRow plan pre r k = λ kind e f. absurd (true≢false (sym waits ∙ (ap is_waiting e ∙ f))) in
    elim (step_of (is_global_unit plan d.op) (is_queued pre k) d.op r.kind d.kind) [
      | Runs eo ek ↦ no _ ek refl
      | Locks h eo ek eg ↦ no _ ek refl
      | Unlocks h eo ek eg ↦ no _ ek refl
      | Takes h eo ek eg eq ↦ no _ ek refl
      | Queues h eo ek eg eq ↦ Joins h (d.unit ∙ ap (λ o. Some o) eo) (sym (ap (is_global_unit plan) eo) ∙ eg) (d.res ∙ ap res_of_unit eo) eq ek
      | Grants h eo ek eg eq ↦ no _ ek refl
      | Spins h eo ek eg eq ↦ Polls eq ek
      | Releases h eo ek eg ↦ no _ ek refl
    ]

-- a wait begins
wait_begins : (plan : PlanModel) (pre : List Row) (r : Row) (k : JobId) (h : ResId) → done k (pre ++ r ∷ []) ≡ done k pre → r.job ≡ Some k → slice_get (units plan k) (done k pre) ≡ Some (LockUnit h) → is_global plan h.0 ≡ true → r.res ≡ Some h → r.kind ≡ Queue → IsInWait plan (pre ++ r ∷ []) k 0
wait_begins plan pre r k h same job unit glob res kind = record {
  res = h;
  unit = ap (slice_get (units plan k)) same ∙ unit;
  global = glob;
  before = pre;
  row = r;
  since = [];
  rows = refl;
  wait = record { job = job; resource = ap (is_on h.0) res ∙ eq-eqb h.0 h.0 refl; joins = kind; waits = refl };
  spins = refl;
}

-- ---- the rows of the section so far, against the n units done: q tells whether k is queued there,
-- s how often it has spun
-- the row counts
abbrev in_at : PlanModel → JobId → ℕ → ℕ → Bool → ℕ
in_at plan k a n q = cond ((q || in_section plan (units plan k) n) && (section_start plan (units plan k) n == a)) 1 0

-- what the units done may take, and the wait so far
abbrev waited : PlanModel → JobId → ℕ → ℕ → ℕ → ℕ
waited plan k a n s = spent plan (task_of plan k) a n + cond (section_start plan (units plan k) n == a) (cond (in_section plan (units plan k) n) 1 0 + s) 0

-- m rows are counted
data IsCounted (plan : PlanModel) (k : JobId) (a : ℕ) (pre : List Row) (m : ℕ) : Type 0 where
  Doing : is_queued pre k ≡ false → m ≤ spent plan (task_of plan k) a (done k pre) → IsCounted plan k a pre m
  Waiting : is_queued pre k ≡ true → (s : ℕ) → IsInWait plan pre k s → m ≤ waited plan k a (done k pre) s → IsCounted plan k a pre m

-- ---- the four kinds of row, as numbers: o tells whether something is held, e whether the unit is
-- of the section
joins_sum : (m n : ℕ) (o e : Bool) → m ≤ n → m + cond ((false || o) && e) 1 0 ≤ n + cond e (cond o 1 0 + 0) 0
joins_sum m n true true h = omega (arith, h)
joins_sum m n true false h = omega (arith, h)
joins_sum m n false true h = omega (arith, h)
joins_sum m n false false h = omega (arith, h)

polls_sum : (m n s : ℕ) (o e : Bool) → m ≤ n + cond e (cond o 1 0 + s) 0 → m + cond ((true || o) && e) 1 0 ≤ n + cond e (cond o 1 0 + (s + 1)) 0
polls_sum m n s true true h = omega (arith, h)
polls_sum m n s true false h = omega (arith, h)
polls_sum m n s false true h = omega (arith, h)
polls_sum m n s false false h = omega (arith, h)

does_sum : (m n w : ℕ) (o e : Bool) → m ≤ n → m + cond ((false || o) && e) 1 0 ≤ n + cond e (cond o 1 0 + w) 0
does_sum m n w true true h = omega (arith, h)
does_sum m n w true false h = omega (arith, h)
does_sum m n w false true h = omega (arith, h)
does_sum m n w false false h = omega (arith, h)

granted_sum : (m n w s : ℕ) (o e : Bool) → s + 1 ≤ w → m ≤ n + cond e (cond o 1 0 + s) 0 → m + cond ((true || o) && e) 1 0 ≤ n + cond e (cond o 1 0 + w) 0
granted_sum m n w s true true l h = omega (arith, l, h)
granted_sum m n w s true false l h = omega (arith, l, h)
granted_sum m n w s false true l h = omega (arith, l, h)
granted_sum m n w s false false l h = omega (arith, l, h)

-- ---- a row of k's own
-- over a row in which it joins a queue
counted_joins : (plan : PlanModel) (k : JobId) (a : ℕ) (pre : List Row) (r : Row) (m : ℕ) → is_queued pre k ≡ false → IsCounted plan k a pre m → m + in_at plan k a (done k pre) (is_queued pre k) ≤ waited plan k a (done k pre) 0
counted_joins plan k a pre r m q (Waiting q2 s w h) = absurd (true≢false (sym q2 ∙ q))
counted_joins plan k a pre r m q (Doing q2 h) =
    subst (λ b. m + in_at plan k a (done k pre) b ≤ waited plan k a (done k pre) 0) (sym q) (joins_sum m (spent plan (task_of plan k) a (done k pre)) (in_section plan (units plan k) (done k pre)) (section_start plan (units plan k) (done k pre) == a) h)

-- over one in which it polls in vain
counted_polls : (plan : PlanModel) (k : JobId) (a : ℕ) (pre : List Row) (r : Row) (m : ℕ) → is_queued pre k ≡ true → IsCounted plan k a pre m → (s : ℕ) × IsInWait plan pre k s × (m + in_at plan k a (done k pre) (is_queued pre k) ≤ waited plan k a (done k pre) (s + 1))
counted_polls plan k a pre r m q (Doing q2 h) = absurd (true≢false (sym q ∙ q2))
counted_polls plan k a pre r m q (Waiting q2 s w h) = (
  s,
  w,
  subst (λ b. m + in_at plan k a (done k pre) b ≤ waited plan k a (done k pre) (s + 1)) (sym q) (polls_sum m (spent plan (task_of plan k) a (done k pre)) s (in_section plan (units plan k) (done k pre)) (section_start plan (units plan k) (done k pre) == a) h),
)

-- over one in which it does its unit
counted_does : (plan : PlanModel) (k : JobId) (a : ℕ) (pre : List Row) (m : ℕ) → IsPlan plan → EachAfter (IsLegal plan) [] pre → IsCounted plan k a pre m → m + in_at plan k a (done k pre) (is_queued pre k) ≤ spent plan (task_of plan k) a (done k pre + 1)
counted_does plan k a pre m ok legal (Doing q h) =
    subst (λ x. m + in_at plan k a (done k pre) (is_queued pre k) ≤ x) (sym (spent_more plan (task_of plan k) a (done k pre)))
    (subst (λ b. m + in_at plan k a (done k pre) b ≤ spent plan (task_of plan k) a (done k pre) + cond (section_start plan (units plan k) (done k pre) == a) (rows_at plan (task_of plan k) (done k pre)) 0) (sym q)
    (does_sum m (spent plan (task_of plan k) a (done k pre)) (wait_bound plan (core_of plan k) (slice_get (units plan k) (done k pre))) (in_section plan (units plan k) (done k pre)) (section_start plan (units plan k) (done k pre) == a) h))
counted_does plan k a pre m ok legal (Waiting q s w h) =
    subst (λ x. m + in_at plan k a (done k pre) (is_queued pre k) ≤ x) (sym (spent_more plan (task_of plan k) a (done k pre)))
    (subst (λ b. m + in_at plan k a (done k pre) b ≤ spent plan (task_of plan k) a (done k pre) + cond (section_start plan (units plan k) (done k pre) == a) (rows_at plan (task_of plan k) (done k pre)) 0) (sym q)
    (granted_sum m (spent plan (task_of plan k) a (done k pre)) (wait_bound plan (core_of plan k) (slice_get (units plan k) (done k pre))) s (in_section plan (units plan k) (done k pre)) (section_start plan (units plan k) (done k pre) == a) (wait_covers plan pre k s ok legal w) h))

-- a spin is no grant
spin_no_grant : (k : JobId) (g : ℕ) (r : Row) → r.kind ≡ Spin → is_grant_of k g r ≡ false
spin_no_grant k g r e = ap (λ kind. is_row_of k r && (is_on g r.res && is_grant kind)) e ∙ (ap (λ b. is_row_of k r && b) (and-false (is_on g r.res)) ∙ and-false (is_row_of k r))

-- by what it does
counted_waits : (plan : PlanModel) (k : JobId) (a : ℕ) (pre : List Row) (r : Row) (m : ℕ) → is_row_of k r ≡ true → is_queued (pre ++ r ∷ []) k ≡ true → done k (pre ++ r ∷ []) ≡ done k pre → IsCounted plan k a pre m → WaitRow plan pre r k → IsCounted plan k a (pre ++ r ∷ []) (m + in_at plan k a (done k pre) (is_queued pre k))
counted_waits plan k a pre r m mine queued same old (Joins h unit glob res q kind) =
    Waiting queued 0 (wait_begins plan pre r k h same (is_job_is r.job k mine) unit glob res kind)
    (subst (λ n. m + in_at plan k a (done k pre) (is_queued pre k) ≤ waited plan k a n 0) (sym same) (counted_joins plan k a pre r m q old))
counted_waits plan k a pre r m mine queued same old (Polls q kind) =
    let c = counted_polls plan k a pre r m q old in
    let spin : cond {A = ℕ} (is_spin_of k r) 1 0 ≡ 1 = ap (λ b. cond {A = ℕ} (b && is_spin r.kind) 1 0) mine ∙ ap (λ kind. cond {A = ℕ} (is_spin kind) 1 0) kind in
    Waiting queued (c.0 + 1) (wait_more plan pre r k c.0 1 same c.1 (spin_no_grant k c.1.res.0 r kind) spin)
    (subst (λ n. m + in_at plan k a (done k pre) (is_queued pre k) ≤ waited plan k a n (c.0 + 1)) (sym same) c.2)

counted_mine : (plan : PlanModel) (k : JobId) (a : ℕ) (pre : List Row) (r : Row) (m : ℕ) (waits : Bool) → is_waiting r.kind ≡ waits → is_row_of k r ≡ true → IsPlan plan → EachAfter (IsLegal plan) [] pre → DoesUnit plan pre k r → IsCounted plan k a pre m → IsCounted plan k a (pre ++ r ∷ []) (m + in_at plan k a (done k pre) (is_queued pre k))
counted_mine plan k a pre r m true e mine ok legal d old =
    let s = state_moved pre r k (is_job_is r.job k mine) in
    let none : done k pre + cond (not (is_waiting r.kind)) 1 0 ≡ done k pre = ap (λ b. done k pre + cond (not b) 1 0) e ∙ omega arith in
    counted_waits plan k a pre r m mine (ap (λ (s : JobState). s.queued) s ∙ e) (ap (λ (s : JobState). s.done) s ∙ none) old (wait_row plan pre r k d e)
counted_mine plan k a pre r m false e mine ok legal d old =
    let s = state_moved pre r k (is_job_is r.job k mine) in
    let one : done k (pre ++ r ∷ []) ≡ done k pre + 1 = ap (λ (s : JobState). s.done) s ∙ ap (λ b. done k pre + cond (not b) 1 0) e in
    Doing (ap (λ (s : JobState). s.queued) s ∙ e) (subst (λ n. m + in_at plan k a (done k pre) (is_queued pre k) ≤ spent plan (task_of plan k) a n) (sym one) (counted_does plan k a pre m ok legal old))

-- ---- a row of another job, or of none
counted_other : (plan : PlanModel) (k : JobId) (a : ℕ) (pre : List Row) (r : Row) (m : ℕ) → is_row_of k r ≡ false → IsCounted plan k a pre m → IsCounted plan k a (pre ++ r ∷ []) m
counted_other plan k a pre r m other (Doing q h) =
    let s = state_kept pre r k other in
    Doing (ap (λ (s : JobState). s.queued) s ∙ q) (subst (λ n. m ≤ spent plan (task_of plan k) a n) (sym (ap (λ (s : JobState). s.done) s)) h)
counted_other plan k a pre r m other (Waiting q n w h) =
    let s = state_kept pre r k other in
    let same = ap (λ (s : JobState). s.done) s in
    let more = wait_more plan pre r k n 0 same w (ap (λ b. b && (is_on w.res.0 r.res && is_grant r.kind)) other) (ap (λ b. cond {A = ℕ} (b && is_spin r.kind) 1 0) other) in
    let as_many : n + 0 ≡ n = omega arith in
    Waiting (ap (λ (s : JobState). s.queued) s ∙ q) n (subst (IsInWait plan (pre ++ r ∷ []) k) as_many more) (subst (λ d. m ≤ waited plan k a d n) (sym same) h)

-- by whose row it is
counted_push : (plan : PlanModel) (k : JobId) (a : ℕ) (pre : List Row) (r : Row) (m : ℕ) (mine : Bool) → is_row_of k r ≡ mine → IsPlan plan → EachAfter (IsLegal plan) [] pre → IsLegal plan pre r → IsCounted plan k a pre m → IsCounted plan k a (pre ++ r ∷ []) (m + cond (continues plan k a pre r) 1 0)
counted_push plan k a pre r m true e ok legal now old =
    let d = (legal_turn plan pre r now).does k (is_job_is r.job k e) in
    let counts : cond {A = ℕ} (continues plan k a pre r) 1 0 ≡ in_at plan k a (done k pre) (is_queued pre k) = ap (λ b. cond {A = ℕ} (b && (is_amid plan pre k && (section_of plan pre k == a))) 1 0) e in
    subst (λ x. IsCounted plan k a (pre ++ r ∷ []) (m + x)) (sym counts) (counted_mine plan k a pre r m (is_waiting r.kind) refl e ok legal d old)
counted_push plan k a pre r m false e ok legal now old =
    let none : m + cond {A = ℕ} (continues plan k a pre r) 1 0 ≡ m = ap (λ b. m + cond {A = ℕ} (b && (is_amid plan pre k && (section_of plan pre k == a))) 1 0) e ∙ omega arith in
    subst (IsCounted plan k a (pre ++ r ∷ [])) (sym none) (counted_other plan k a pre r m e old)

-- ---- no more units are done than there are
few_push : (plan : PlanModel) (k : JobId) (pre : List Row) (r : Row) (mine : Bool) → is_row_of k r ≡ mine → IsLegal plan pre r → done k pre ≤ length (units plan k) → done k (pre ++ r ∷ []) ≤ length (units plan k)
few_push plan k pre r false e now old = subst (λ n. n ≤ length (units plan k)) (sym (ap (λ (s : JobState). s.done) (state_kept pre r k e))) old
few_push plan k pre r true e now old =
    let job = is_job_is r.job k e in
    let d = (legal_turn plan pre r now).does k job in
    let within = slice_get_within (units plan k) (done k pre) d.op d.unit in
    let one = at_most_one (not (is_waiting r.kind)) in
    let is : done k (pre ++ r ∷ []) ≡ done k pre + cond (not (is_waiting r.kind)) 1 0 = ap (λ (s : JobState). s.done) (state_moved pre r k job) in
    omega (arith, within, one, is)
  where
    at_most_one : (b : Bool) → cond {A = ℕ} b 1 0 ≤ 1
    at_most_one true = omega arith
    at_most_one false = omega arith

pub few_at : (plan : PlanModel) (k : JobId) (pre : List Row) → EachAfter (IsLegal plan) [] pre → done k pre ≤ length (units plan k)
few_at plan k pre all = along (λ rows. done k rows ≤ length (units plan k)) (IsLegal plan) (λ rows r old now. few_push plan k rows r (is_row_of k r) refl now old) [] pre (omega arith) all

-- ---- along the run
record IsTallied (plan : PlanModel) (k : JobId) (a : ℕ) (pre : List Row) : Type 0 where
  legal : EachAfter (IsLegal plan) [] pre
  few : done k pre ≤ length (units plan k)
  counted : IsCounted plan k a pre (count_after (continues plan k a) [] pre)

-- each legal row keeps it
tallied_push : (plan : PlanModel) (k : JobId) (a : ℕ) → IsPlan plan → (pre : List Row) (r : Row) → IsTallied plan k a pre → IsLegal plan pre r → IsTallied plan k a (pre ++ r ∷ [])
tallied_push plan k a ok pre r old now = record {
  legal = each_push (IsLegal plan) [] pre r old.legal now;
  few = few_push plan k pre r (is_row_of k r) refl now old.few;
  counted = subst (IsCounted plan k a (pre ++ r ∷ [])) (sym (count_after_push (continues plan k a) [] pre r)) (counted_push plan k a pre r (count_after (continues plan k a) [] pre) (is_row_of k r) refl ok old.legal now old.counted);
}

-- it holds before the first row
tallied_none : (plan : PlanModel) (k : JobId) (a : ℕ) → IsTallied plan k a []
tallied_none plan k a = record { legal = tt; few = omega arith; counted = Doing refl (omega arith) }

-- in the end: a wait that goes on is of a unit that is still to be done
at_the_end : (plan : PlanModel) (k : JobId) (a : ℕ) (pre : List Row) (m : ℕ) → IsPlan plan → EachAfter (IsLegal plan) [] pre → done k pre ≤ length (units plan k) → IsCounted plan k a pre m → m ≤ rows_from plan (task_of plan k) a
at_the_end plan k a pre m ok legal few (Doing q h) = let all = spent_within plan (task_of plan k) a (done k pre) (length (units plan k)) few in omega (arith, h, all)
at_the_end plan k a pre m ok legal few (Waiting q s w h) =
    let within = slice_get_within (units plan k) (done k pre) (LockUnit w.res) w.unit in
    let all = spent_within plan (task_of plan k) a (done k pre + 1) (length (units plan k)) (omega (arith, within)) in
    let now = counted_does plan k a pre m ok legal (Waiting q s w h) in
    omega (arith, all, now)

-- the rows of an outermost section after its first are within what its units may take
pub section_rows : (plan : PlanModel) (rows : List Row) (k : JobId) (a : ℕ) → IsPlan plan → IsRunStart plan rows → count_after (continues plan k a) [] rows ≤ rows_from plan (task_of plan k) a
section_rows plan rows k a ok run =
    let end = along (IsTallied plan k a) (IsLegal plan) (tallied_push plan k a ok) [] rows (tallied_none plan k a) run.each in
    at_the_end plan k a rows (count_after (continues plan k a) [] rows) ok end.legal end.few end.counted
