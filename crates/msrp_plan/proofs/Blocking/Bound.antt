-- The bound on blocking: one outermost section of one later job, and that is within the greatest of
-- the plan's.
use Rattle.msrp_plan.specs.Common.{ℕ, zero, suc, Bool, true, false, cond, List, [], length, nat_lt, Contains, range_with_len, PlanModel, TaskModel, task_of, core_of, jobs, done, section_start, out, blocked_bound, count_after, blocks, continues, IsLegal, IsRunStart, EachAfter, IsPlan}
use Rattle.msrp_plan.specs.declared.ids.JobId.{JobId}
use Rattle.msrp_plan.specs.declared.rows.Row.{Row}
use Rattle.std.proofs.Common.{◌≡◌, ◌+◌, ◌<◌, ◌≤◌, ◌&&◌, ◌==◌, ◌∷◌, ◌++◌, ◌⊎◌, refl, ap, sym, ◌∙◌, subst, arith, add-one, eq-eqb, inl, inr}
use Rattle.std.proofs.lemmas.Bool.{and_from, and_parts, cases_lt, lt-ltb}
use Rattle.msrp_plan.specs.Bounds.{rows_from}
use Rattle.msrp_plan.specs.Blocking.{IsBlocker, HasBlockers, BlocksFrom, BoundedSections, BoundedBlocking}
use Rattle.msrp_plan.proofs.Lists.AnyAll.{in_range}
use Rattle.msrp_plan.proofs.Lists.Ranges.{not_equal}
use Rattle.msrp_plan.proofs.Jobs.JobTests.{one_job}
use Rattle.msrp_plan.proofs.Lists.Prefixes.{each_both}
use Rattle.msrp_plan.proofs.TaskUnits.PlanUnits.{task_in}
use Rattle.msrp_plan.proofs.Lists.LeastKept.{greatest_above, greatest_over}
use Rattle.msrp_plan.proofs.Legality.LegalRows.{legal_turn, turn_core}
use Rattle.msrp_plan.proofs.Blocking.Heads.{blocking_row}
use Rattle.msrp_plan.proofs.Blocking.Sections.{start_within}
use Rattle.msrp_plan.proofs.Blocking.Begun.{blocked_by_begun_sections}
use Rattle.msrp_plan.proofs.Blocking.OneSection.{blocked_by_one_section}
use Rattle.msrp_plan.proofs.Blocking.SectionRows.{spent, rows_at, spent_more, section_rows}

-- ---- a section is within the greatest of its task's
-- no unit before a is of the section that a begins
pub spent_none : (plan : PlanModel) (task : TaskModel) (a n : ℕ) → n ≤ a → spent plan task a n ≡ 0
spent_none plan task a zero l = refl
spent_none plan task a (suc n) l =
    let more = spent_more plan task a n in
    let next : spent plan task a (suc n) ≡ spent plan task a (n + 1) = ap (spent plan task a) (sym (add-one n)) in
    let before = start_within plan task.units n in
    let off : cond {A = ℕ} (section_start plan task.units n == a) (rows_at plan task n) 0 ≡ 0 = ap (λ b. cond {A = ℕ} b (rows_at plan task n) 0) (not_equal (section_start plan task.units n) a (λ e. absurd (omega (arith, e, before, l)))) in
    let rest = spent_none plan task a n (omega (arith, l)) in
    omega (arith, more, next, off, rest)

-- by whether there is such a unit
pub from_within : (plan : PlanModel) (task : TaskModel) (a : ℕ) → rows_from plan task a ≤ out plan task
from_within plan task a =
    elim (cases_lt a (length task.units)) [
      | inl l ↦ greatest_over (rows_from plan task) (range_with_len 0 (length task.units)) a (in_range a (length task.units) l)
      | inr l ↦ let none = spent_none plan task a (length task.units) l in omega (arith, none)
    ]

-- so is each section of a job
pub bounded_sections : (plan : PlanModel) (rows : List Row) → IsPlan plan → IsRunStart plan rows → BoundedSections plan rows
bounded_sections plan rows ok run = λ k a. let rows_in = section_rows plan rows k a ok run in let within = from_within plan (task_of plan k) a in omega (arith, rows_in, within)

-- ---- counts over rows
-- what each element that passes says, unless none passes
count_cases : {X : Type 0} (p : List X → X → Bool) (Q : Type 0) (pre : List X) (x : X) (xs : List X) (b : Bool) → p pre x ≡ b → (p pre x ≡ true → Q) → (count_after p (pre ++ x ∷ []) xs ≡ 0) ⊎ Q → (count_after p pre (x ∷ xs) ≡ 0) ⊎ Q
count_cases p Q pre x xs true e h rest = inr (h e)
count_cases p Q pre x xs false e h (inr q) = inr q
count_cases p Q pre x xs false e h (inl z) = inl (ap (λ b. cond {A = ℕ} b 1 0 + count_after p (pre ++ x ∷ []) xs) e ∙ omega (arith, z))

count_or : {X : Type 0} (p : List X → X → Bool) (Q : Type 0) (pre xs : List X) → EachAfter (λ pre x. p pre x ≡ true → Q) pre xs → (count_after p pre xs ≡ 0) ⊎ Q
count_or p Q pre [] all = inl refl
count_or p Q pre (x ∷ xs) all = count_cases p Q pre x xs (p pre x) refl all.0 (count_or p Q (pre ++ x ∷ []) xs all.1)

-- no more elements pass a test that is stronger
stronger_go : (a b : Bool) (m n : ℕ) → (a ≡ true → b ≡ true) → m ≤ n → cond {A = ℕ} a 1 0 + m ≤ cond {A = ℕ} b 1 0 + n
stronger_go true true m n w h = omega (arith, h)
stronger_go false true m n w h = omega (arith, h)
stronger_go false false m n w h = omega (arith, h)
stronger_go true false m n w h = let e = w refl in absurd (cc)

count_stronger : {X : Type 0} (p q : List X → X → Bool) (pre xs : List X) → EachAfter (λ pre x. p pre x ≡ true → q pre x ≡ true) pre xs → count_after p pre xs ≤ count_after q pre xs
count_stronger p q pre [] all = omega arith
count_stronger p q pre (x ∷ xs) all = stronger_go (p pre x) (q pre x) _ _ all.0 (count_stronger p q (pre ++ x ∷ []) xs all.1)

-- ---- the job that gives the rows
-- its task is one of the core's with a longer relative deadline
record IsLonger (plan : PlanModel) (j k : JobId) : Type 0 where
  task : Contains plan.tasks (task_of plan k)
  core : core_of plan k ≡ core_of plan j
  longer : (task_of plan j).deadline < (task_of plan k).deadline

-- so its sections are within the bound of j
longer_within : (plan : PlanModel) (j k : JobId) → IsLonger plan j k → out plan (task_of plan k) ≤ blocked_bound plan (task_of plan j)
longer_within plan j k h =
    greatest_above (out plan) (λ u. (u.core == (task_of plan j).core) && nat_lt (task_of plan j).deadline u.deadline) plan.tasks (task_of plan k) h.task
    (and_from ((task_of plan k).core == (task_of plan j).core) _ (eq-eqb (task_of plan k).core (task_of plan j).core h.core) (lt-ltb (task_of plan j).deadline (task_of plan k).deadline h.longer))

-- of a row that blocks j and continues a section of k
longer_by : (plan : PlanModel) (j k x : JobId) (pre : List Row) (r : Row) → IsLegal plan pre r → IsBlocker plan pre r j x → x ≡ k → core_of plan x ≡ core_of plan j → IsLonger plan j k
longer_by plan j k x pre r legal d same at =
    let does = (legal_turn plan pre r legal).does x d.job in
    subst (IsLonger plan j) same (record { task = task_in plan x.task.0 (done x pre) does.op does.unit; core = at; longer = d.longer })

longer_row : (plan : PlanModel) (j k : JobId) (a : ℕ) (pre : List Row) (r : Row) → Contains (jobs plan) j → IsLegal plan pre r → HasBlockers plan pre r × BlocksFrom plan j k a pre r → blocks plan j pre r ≡ true → IsLonger plan j k
longer_row plan j k a pre r there legal both h =
    let d = both.0 j there h in
    let mine = (and_parts _ _ (both.1 h)).0 in
    let at : core_of plan d.0 ≡ core_of plan j = turn_core plan pre r d.0 (legal_turn plan pre r legal) d.1.job ∙ (blocking_row plan pre r j h).core in
    longer_by plan j k d.0 pre r legal d.1 (sym (one_job r d.0 k d.1.job mine)) at

-- ---- all together
pub bounded_blocking : (plan : PlanModel) (rows : List Row) → IsPlan plan → IsRunStart plan rows → BoundedBlocking plan rows
bounded_blocking plan rows ok run = λ j there.
    let one = blocked_by_one_section plan rows ok run j there in
    let k = one.0 in
    let a = one.1 in
    let begun = blocked_by_begun_sections plan rows ok run in
    let fewer = count_stronger (blocks plan j) (continues plan k a) [] rows one.2 in
    let within = bounded_sections plan rows ok run k a in
    let both = each_both (HasBlockers plan) (BlocksFrom plan j k a) (λ pre r. HasBlockers plan pre r × BlocksFrom plan j k a pre r) (λ pre r x y. (x, y)) [] rows begun one.2 in
    let each = each_both (IsLegal plan) (λ pre r. HasBlockers plan pre r × BlocksFrom plan j k a pre r) (λ pre r. blocks plan j pre r ≡ true → IsLonger plan j k) (λ pre r x y. longer_row plan j k a pre r there x y) [] rows run.each both in
    elim (count_or (blocks plan j) (IsLonger plan j k) [] rows each) [
      | inl none ↦ omega (arith, none)
      | inr longer ↦ let top = longer_within plan j k longer in omega (arith, fewer, within, top)
    ]
