-- Where the outermost section of a unit begins, unit by unit, and the section of a job over its
-- rows.
use Rattle.msrp_plan.specs.Common.{ℕ, zero, suc, Bool, true, false, cond, not, List, [], max, list_any, filter, range_with_len, AllByRecursion, PlanModel, units, holds_after, is_row_of, is_waiting, is_queued, done, greatest, resources, in_section, section_start, is_amid, section_of, JobState}
use Rattle.msrp_plan.specs.declared.ids.JobId.{JobId}
use Rattle.msrp_plan.specs.declared.units.Op.{Op}
use Rattle.msrp_plan.specs.declared.rows.Row.{Row}
use Rattle.std.proofs.Common.{◌≡◌, ◌+◌, ◌≤◌, ◌||◌, ◌∷◌, ◌++◌, refl, ap, sym, ◌∙◌, subst, arith, append-nil}
use Rattle.std.specs.List.{fold}
use Rattle.std.proofs.lemmas.List.Sums.{fold_push}
use Rattle.std.proofs.lemmas.List.Elements.{filter-append}
use Rattle.msrp_plan.proofs.Lists.Ranges.{range_more}
use Rattle.msrp_plan.proofs.Lists.Least.{all_filtered}
use Rattle.msrp_plan.proofs.Jobs.JobTests.{is_job_is}
use Rattle.msrp_plan.proofs.Jobs.States.{state_kept, state_moved}

-- ---- the greatest of a list, and of one number more
max_within : (a m : ℕ) (ns : List ℕ) → a ≤ m → AllByRecursion (λ n. n ≤ m) ns → fold max a ns ≤ m
max_within a m [] l all = l
max_within a m (n ∷ ns) l all = let k = all.0 in max_within (max a n) m ns (omega (arith, l, k)) all.1

pub greatest_within : (m : ℕ) (ns : List ℕ) → AllByRecursion (λ n. n ≤ m) ns → greatest ns ≤ m
greatest_within m ns all = max_within 0 m ns (omega arith) all

pub greatest_push : (ns : List ℕ) (n : ℕ) → greatest (ns ++ n ∷ []) ≡ max (greatest ns) n
greatest_push ns n = fold_push max 0 ns n

-- the numbers of a range are below its end
range_within : (a n m : ℕ) → a + n ≤ m + 1 → AllByRecursion (λ i. i ≤ m) (range_with_len a n)
range_within a zero m h = tt
range_within a (suc n) m h = (omega (arith, h), range_within (a + 1) n m (omega (arith, h)))

-- ---- before the first unit nothing is held
none_held : (gs : List ℕ) → list_any (holds_after []) gs ≡ false
none_held [] = refl
none_held (g ∷ gs) = none_held gs

pub outside_first : (plan : PlanModel) (us : List Op) → in_section plan us 0 ≡ false
outside_first plan us = none_held (resources plan)

-- ---- one unit more
-- the places up to one more at which nothing is held
abbrev pub outside : PlanModel → List Op → ℕ → List ℕ
outside plan us n = filter (λ i. not (in_section plan us i)) (range_with_len 0 n)

outside_more : (plan : PlanModel) (us : List Op) (n : ℕ) → outside plan us (n + 1) ≡ outside plan us n ++ cond (not (in_section plan us n)) (n ∷ []) []
outside_more plan us n =
    let last : 0 + n ≡ n = omega arith in
    ap (filter (λ i. not (in_section plan us i))) (range_more 0 n ∙ ap (λ m. range_with_len 0 n ++ m ∷ []) last) ∙ filter-append (λ i. not (in_section plan us i)) (range_with_len 0 n) (n ∷ [])

outside_within : (plan : PlanModel) (us : List Op) (n m : ℕ) → n ≤ m + 1 → greatest (outside plan us n) ≤ m
outside_within plan us n m l = greatest_within m (outside plan us n) (all_filtered (λ i. i ≤ m) (λ i. not (in_section plan us i)) (range_with_len 0 n) (range_within 0 n m (omega (arith, l))))

-- a section begins no later than its units
pub start_within : (plan : PlanModel) (us : List Op) (n : ℕ) → section_start plan us n ≤ n
start_within plan us n = outside_within plan us (n + 1) n (omega arith)

-- where nothing is held the unit begins its section, if it does begin one
pub start_outside : (plan : PlanModel) (us : List Op) (n : ℕ) → in_section plan us n ≡ false → section_start plan us n ≡ n
start_outside plan us n h =
    let e : section_start plan us n ≡ max (greatest (outside plan us n)) n = ap greatest (outside_more plan us n ∙ ap (λ b. outside plan us n ++ cond (not b) (n ∷ []) []) h) ∙ greatest_push (outside plan us n) n in
    let l = outside_within plan us n n (omega arith) in
    omega (arith, e, l)

-- where something is held the unit is in the section of the one before it
pub start_inside : (plan : PlanModel) (us : List Op) (n : ℕ) → in_section plan us (n + 1) ≡ true → section_start plan us (n + 1) ≡ section_start plan us n
start_inside plan us n h = ap greatest (outside_more plan us (n + 1) ∙ (ap (λ b. outside plan us (n + 1) ++ cond (not b) ((n + 1) ∷ []) []) h ∙ append-nil (outside plan us (n + 1))))

-- ---- the section of a job
-- a row of another job, or of none, leaves it
pub amid_kept : (plan : PlanModel) (pre : List Row) (r : Row) (k : JobId) → is_row_of k r ≡ false → is_amid plan (pre ++ r ∷ []) k ≡ is_amid plan pre k
amid_kept plan pre r k e = ap (λ (s : JobState). s.queued || in_section plan (units plan k) s.done) (state_kept pre r k e)

pub section_kept : (plan : PlanModel) (pre : List Row) (r : Row) (k : JobId) → is_row_of k r ≡ false → section_of plan (pre ++ r ∷ []) k ≡ section_of plan pre k
section_kept plan pre r k e = ap (λ (s : JobState). section_start plan (units plan k) s.done) (state_kept pre r k e)

-- by whether the row waits
stays_go : (plan : PlanModel) (us : List Op) (waits : Bool) (n m : ℕ) → m ≡ n + cond (not waits) 1 0 → (waits || in_section plan us m) ≡ true → section_start plan us m ≡ section_start plan us n
stays_go plan us true n m e h = ap (section_start plan us) (omega (arith, e))
stays_go plan us false n m e h = ap (section_start plan us) e ∙ start_inside plan us n (subst (λ x. in_section plan us x ≡ true) e h)

-- a row of its own that leaves it amid a section is of that section
pub section_stays : (plan : PlanModel) (pre : List Row) (r : Row) (k : JobId) → is_row_of k r ≡ true → is_amid plan (pre ++ r ∷ []) k ≡ true → section_of plan (pre ++ r ∷ []) k ≡ section_of plan pre k
section_stays plan pre r k e h =
    let s = state_moved pre r k (is_job_is r.job k e) in
    let q : is_queued (pre ++ r ∷ []) k ≡ is_waiting r.kind = ap (λ (s : JobState). s.queued) s in
    let d : done k (pre ++ r ∷ []) ≡ done k pre + cond (not (is_waiting r.kind)) 1 0 = ap (λ (s : JobState). s.done) s in
    stays_go plan (units plan k) (is_waiting r.kind) (done k pre) (done k (pre ++ r ∷ [])) d (sym (ap (λ b. b || in_section plan (units plan k) (done k (pre ++ r ∷ []))) q) ∙ h)
