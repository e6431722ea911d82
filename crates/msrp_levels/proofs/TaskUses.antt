-- What is told of a resource by the tasks is what the plan says.
use Rattle.std.proofs.Common.{◌≡◌, ◌+◌, ◌<◌, ◌≤◌, ◌==◌, ◌&&◌, ◌∙◌}
use Rattle.msrp_plan.proofs.Common.{ℕ, Bool, not, List, map, get_or, refl, ap, arith, length, filter, range_with_len, sum_by, get_or-map-range_with_len, length-map-range_with_len, map-map, PlanModel, TaskModel, greatest, level_of, uses, top, longest_section, section, spin_bound, IsPlan, all_of, filter_same, all_weaker, all_filtered}
use Rattle.msrp_plan.specs.Bounds.{is_used_on}
use Rattle.msrp_levels.specs.declared.footprints.Footprint.{Footprint}
use Rattle.msrp_levels.specs.declared.footprints.Use.{Use}
use Rattle.msrp_levels.specs.declared.usage.CoreUse.{CoreUse}
use Rattle.msrp_levels.specs.Footprints.{footprint_of, unused, locks_in, longest_in}
use Rattle.msrp_levels.specs.Usage.{core_use_at, is_other_user, spin_among}
use Rattle.msrp_levels.proofs.FirstTasks.{core_use, core_uses}
use Rattle.msrp_levels.proofs.Gathered.{range_below, map_agree, sum_agree, greatest_image}
use Rattle.msrp_levels.proofs.Longest.{section-le}
use Rattle.msrp_levels.proofs.PassedUnits.{get_or-uses_from}

-- ---- a task and a resource
-- the tasks as the resources see them
abbrev pub footprints : PlanModel → List Footprint
footprints plan = map (footprint_of plan) plan.tasks

pub locks_same : (plan : PlanModel) (g : ℕ) → g < 32 → (a : TaskModel) → locks_in g (footprint_of plan a) ≡ uses g a
locks_same plan g l a = ap (λ (x : Use). x.locked) (get_or-uses_from a.units 0 g unused l)

pub longest_same : (plan : PlanModel) (g : ℕ) → g < 32 → (a : TaskModel) → longest_in g (footprint_of plan a) ≡ longest_section g a.units
longest_same plan g l a = ap (λ (x : Use). x.longest) (get_or-uses_from a.units 0 g unused l)

pub top_same : (plan : PlanModel) (c : ℕ) → greatest (map (λ f. f.level) (filter (λ f. f.core.0 == c) (footprints plan))) ≡ top plan c
top_same plan c = greatest_image (footprint_of plan) (λ f. f.level) (λ f. f.core.0 == c) (level_of plan) (λ a. a.core == c) (λ a. refl) (λ a. refl) plan.tasks

-- ---- the cores
pub sections_same : (plan : PlanModel) (g : ℕ) → map (λ x. x.section) (core_uses plan.tasks g plan.cores) ≡ map (section plan g) (range_with_len 0 plan.cores)
sections_same plan g = map-map (λ (x : CoreUse). x.section) (core_use plan.tasks g) (range_with_len 0 plan.cores)

use_at_core : (plan : PlanModel) (g d : ℕ) → d < plan.cores → core_use_at (core_uses plan.tasks g plan.cores) d ≡ core_use plan.tasks g d
use_at_core plan g d l = get_or-map-range_with_len (core_use plan.tasks g) 0 plan.cores d d _ l (omega arith)

spin_same : (plan : PlanModel) (g c : ℕ) → spin_among (core_uses plan.tasks g plan.cores) c ≡ spin_bound plan g c
spin_same plan g c =
    let cores = core_uses plan.tasks g plan.cores in
    let size : length cores ≡ plan.cores = length-map-range_with_len (core_use plan.tasks g) 0 plan.cores in
    let range = range_with_len 0 plan.cores in
    let below = range_below 0 plan.cores plan.cores (omega arith) in
    let other : ℕ → Bool = λ d. not (d == c) && is_used_on plan g d in
    ap (λ n. sum_by (λ d. 1 + (core_use_at cores d).section) (filter (is_other_user cores c) (range_with_len 0 n))) size
    ∙ (ap (sum_by (λ d. 1 + (core_use_at cores d).section)) (filter_same (is_other_user cores c) other range
    (all_weaker (λ d. d < plan.cores) (λ d. is_other_user cores c d ≡ other d)
    (λ d within. ap (λ b. not (d == c) && b) (ap (λ (x : CoreUse). x.used) (use_at_core plan g d within))) range below))
    ∙ sum_agree (λ d. 1 + (core_use_at cores d).section) (λ d. 1 + section plan g d) (filter other range)
    (all_weaker (λ d. d < plan.cores) (λ d. 1 + (core_use_at cores d).section ≡ 1 + section plan g d)
    (λ d within. ap (λ n. 1 + n) (ap (λ (x : CoreUse). x.section) (use_at_core plan g d within))) (filter other range) (all_filtered (λ d. d < plan.cores) other range below)))

pub spins_same : (plan : PlanModel) (g n : ℕ) → n ≡ plan.cores → map (spin_among (core_uses plan.tasks g plan.cores)) (range_with_len 0 n) ≡ map (spin_bound plan g) (range_with_len 0 plan.cores)
spins_same plan g n e =
    ap (λ k. map (spin_among (core_uses plan.tasks g plan.cores)) (range_with_len 0 k)) e
    ∙ map_agree (spin_among (core_uses plan.tasks g plan.cores)) (spin_bound plan g) (range_with_len 0 plan.cores) (all_of (λ c. spin_among (core_uses plan.tasks g plan.cores) c ≡ spin_bound plan g c) (spin_same plan g) (range_with_len 0 plan.cores))

pub sections_short : (plan : PlanModel) → IsPlan plan → (g k : ℕ) (d : CoreUse) → k < plan.cores → (get_or (core_uses plan.tasks g plan.cores) k d).section ≤ 4096
sections_short plan ok g k d within =
    let at = ap (λ (x : CoreUse). x.section) (get_or-map-range_with_len (core_use plan.tasks g) 0 plan.cores k k d within (omega arith)) in
    let short = section-le plan ok g k in
    omega (arith, at, short)
