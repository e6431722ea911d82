-- No section is longer than the units of a task may be.
use Rattle.std.proofs.Common.{◌+◌, ◌*◌, ◌<◌, ◌≤◌, ◌==◌, ◌&&◌, ◌∷◌, ◌∙◌}
use Rattle.msrp_plan.proofs.Common.{ℕ, zero, suc, Bool, true, false, cond, not, List, [], map, max, get_or, ap, sym, add-one, arith, length, AllByRecursion, filter, range_with_len, sum_by, PlanModel, TaskModel, no_task, task_at, is_lock_of, is_unlock_of, to_unlock, longest_section, section, spin_bound, IsPlan}
use Rattle.msrp_plan.specs.declared.units.Op.{Op}
use Rattle.std.specs.List.{fold}
use Rattle.msrp_plan.specs.Bounds.{is_used_on}
use Rattle.msrp_levels.proofs.Gathered.{sum_more_range}

to_unlock-le : (g : ℕ) (us : List Op) → to_unlock g us ≤ length us
to_unlock-le g [] = omega arith
to_unlock-le g (u ∷ us) = next (is_unlock_of g u) (to_unlock-le g us)
  where
    next : (b : Bool) → to_unlock g us ≤ length us → cond b 1 (1 + to_unlock g us) ≤ suc (length us)
    next true h = omega arith
    next false h = omega (arith, h)

longest-le : (g : ℕ) (us : List Op) → longest_section g us ≤ length us
longest-le g [] = omega arith
longest-le g (u ∷ us) = next (is_lock_of g u) (to_unlock-le g us) (longest-le g us)
  where
    next : (b : Bool) → to_unlock g us ≤ length us → longest_section g us ≤ length us → max (cond b (to_unlock g us) 0) (longest_section g us) ≤ suc (length us)
    next true h k = omega (arith, h, k)
    next false h k = omega (arith, h, k)

-- the greatest of numbers that are not above a bound is not above it
pub fold_max-le : (b a : ℕ) (ns : List ℕ) → a ≤ b → AllByRecursion (λ n. n ≤ b) ns → fold max a ns ≤ b
fold_max-le b a [] l all = l
fold_max-le b a (n ∷ ns) l all = let h = all.0 in fold_max-le b (max a n) ns (omega (arith, l, h)) all.1

below_all : (f : TaskModel → ℕ) (p : TaskModel → Bool) (b : ℕ) (ts : List TaskModel) → ((t : ℕ) → t < length ts → f (get_or ts t no_task) ≤ b) → AllByRecursion (λ n. n ≤ b) (map f (filter p ts))
below_all f p b [] each = tt
below_all f p b (x ∷ ts) each = keep (p x) (each 0 (omega arith)) (below_all f p b ts (λ t l. each (suc t) (omega (arith, l))))
  where
    keep : (c : Bool) → f x ≤ b → AllByRecursion (λ n. n ≤ b) (map f (filter p ts)) → AllByRecursion (λ n. n ≤ b) (map f (cond c (x ∷ filter p ts) (filter p ts)))
    keep true here rest = (here, rest)
    keep false here rest = rest

-- a section of a plan
pub section-le : (plan : PlanModel) → IsPlan plan → (g c : ℕ) → section plan g c ≤ 4096
section-le plan ok g c =
    fold_max-le 4096 0 (map (λ a. longest_section g a.units) (filter (λ a. a.core == c) plan.tasks)) (omega arith)
    (below_all (λ a. longest_section g a.units) (λ a. a.core == c) 4096 plan.tasks
    (λ t l. let a = longest-le g (task_at plan t).units in let b = (ok.draft.each t l).size in omega (arith, a, b)))

-- ---- waits
part-le : (b : Bool) (k m : ℕ) → k ≤ m → cond b k 0 ≤ m
part-le true k m l = l
part-le false k m l = omega arith

sum-le : (f : ℕ → ℕ) (p : ℕ → Bool) (n m : ℕ) → ((d : ℕ) → f d ≤ m) → sum_by f (filter p (range_with_len 0 n)) ≤ n * m
sum-le f p zero m each = omega arith
sum-le f p (suc n) m each =
    let more = ap (λ k. sum_by f (filter p (range_with_len 0 k))) (sym (add-one n)) ∙ sum_more_range f p n in
    let last = part-le (p n) (f n) m (each n) in
    let rest = sum-le f p n m each in
    omega (arith, more, last, rest)

-- a wait for a resource of a plan
pub spin_bound-le : (plan : PlanModel) → IsPlan plan → (g c : ℕ) → spin_bound plan g c ≤ 32776
spin_bound-le plan ok g c =
    let a = sum-le (λ d. 1 + section plan g d) (λ d. not (d == c) && is_used_on plan g d) plan.cores 4097 (λ d. let k = section-le plan ok g d in omega (arith, k)) in
    let b = ok.draft.cores.1 in
    omega (arith, a, b)
