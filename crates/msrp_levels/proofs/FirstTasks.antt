-- What the first tasks of a plan tell of a resource.
use Rattle.std.proofs.Common.{◌≡◌, ◌+◌, ◌<◌, ◌==◌, ◌&&◌, ◌||◌, ◌∷◌, ◌++◌, ◌∙◌}
use Rattle.msrp_plan.proofs.Common.{ℕ, Bool, true, false, cond, List, [], map, max, set, take, replicate, get_or, refl, ap, sym, inl, inr, arith, length, append-nil, eq-eqb, filter, list_any, range_with_len, true≢false, or-false, cases_eq, length-set, get_or-set_same, get_or-set_other, map-append, take_all, take_more, filter-append, get_or-map-range_with_len, length-map-range_with_len, PlanModel, TaskModel, no_task, task_at, is_lock_of, greatest, level_of, local_ceiling, uses, to_unlock, longest_section, greatest_push, any_push, all_of, not_equal}
use Rattle.msrp_plan.specs.declared.ids.TaskId.{TaskId}
use Rattle.msrp_plan.specs.declared.units.Op.{Op}
use Rattle.std.proofs.lemmas.List.{ext_get_or}
use Rattle.msrp_levels.specs.declared.usage.CoreUse.{CoreUse}
use Rattle.msrp_levels.specs.Users.{users}
use Rattle.msrp_levels.specs.Usage.{with_user}
use Rattle.msrp_levels.proofs.Gathered.{gather_no, gather_yes, map_agree, map_constant}

-- ---- a core
-- how tasks use the resource, those of one core
abbrev pub core_use : List TaskModel → ℕ → ℕ → CoreUse
core_use ts g c = record { used = list_any (λ a. (a.core == c) && uses g a) ts; section = greatest (map (λ a. longest_section g a.units) (filter (λ a. a.core == c) ts)) }

-- how they do on each of n cores
abbrev pub core_uses : List TaskModel → ℕ → ℕ → List CoreUse
core_uses ts g n = map (core_use ts g) (range_with_len 0 n)

-- what isn't locked has no section
unlocked : (g : ℕ) (us : List Op) → list_any (is_lock_of g) us ≡ false → longest_section g us ≡ 0
unlocked g [] none = refl
unlocked g (u ∷ us) none = next (is_lock_of g u) none (unlocked g us)
  where
    next : (b : Bool) → (b || list_any (is_lock_of g) us) ≡ false → (list_any (is_lock_of g) us ≡ false → longest_section g us ≡ 0) → max (cond b (to_unlock g us) 0) (longest_section g us) ≡ 0
    next true none rest = absurd (true≢false none)
    next false none rest = let zero_rest = rest none in omega (arith, zero_rest)

-- the longest section with one task more
section_push : (h : TaskModel → ℕ) (ts : List TaskModel) (a : TaskModel) (c : ℕ) (own : Bool) → (a.core == c) ≡ own
    → greatest (map h (filter (λ x. x.core == c) (ts ++ a ∷ []))) ≡ max (greatest (map h (filter (λ x. x.core == c) ts))) (cond own (h a) 0)
section_push h ts a c own is =
    ap (λ xs. greatest (map h xs)) (filter-append (λ x. x.core == c) ts (a ∷ []) ∙ ap (λ b. filter (λ x. x.core == c) ts ++ cond b (a ∷ []) []) is) ∙ last own
  where
    last : (b : Bool) → greatest (map h (filter (λ x. x.core == c) ts ++ cond b (a ∷ []) [])) ≡ max (greatest (map h (filter (λ x. x.core == c) ts))) (cond b (h a) 0)
    last true = ap greatest (map-append h (filter (λ x. x.core == c) ts) (a ∷ [])) ∙ greatest_push (map h (filter (λ x. x.core == c) ts)) (h a)
    last false = let same = ap (λ xs. greatest (map h xs)) (append-nil (filter (λ x. x.core == c) ts)) in omega (arith, same)

-- the use of a core with one task more
use_push : (ts : List TaskModel) (a : TaskModel) (g c : ℕ) (own user : Bool) → (a.core == c) ≡ own → uses g a ≡ user
    → core_use (ts ++ a ∷ []) g c ≡ cond (own && user) (with_user (longest_section g a.units) (core_use ts g c)) (core_use ts g c)
use_push ts a g c own user here is =
    by_cases own user (any_push (λ x. (x.core == c) && uses g x) ts a ∙ (ap (λ b. (core_use ts g c).used || (b && uses g a)) here ∙ ap (λ b. (core_use ts g c).used || (own && b)) is)) (section_push (λ x. longest_section g x.units) ts a c own here)
    (λ none. unlocked g a.units (is ∙ none))
  where
    record_path : {b d : Bool} {k l : ℕ} → b ≡ d → k ≡ l → let x : CoreUse = record { used = b; section = k } in let y : CoreUse = record { used = d; section = l } in x ≡ y
    record_path e f = cc

    or_true : (b : Bool) → (b || true) ≡ true
    or_true true = refl
    or_true false = refl

    by_cases : (o u : Bool) → (core_use (ts ++ a ∷ []) g c).used ≡ ((core_use ts g c).used || (o && u)) → (core_use (ts ++ a ∷ []) g c).section ≡ max (core_use ts g c).section (cond o (longest_section g a.units) 0) → (u ≡ false → longest_section g a.units ≡ 0)
        → core_use (ts ++ a ∷ []) g c ≡ cond (o && u) (with_user (longest_section g a.units) (core_use ts g c)) (core_use ts g c)
    by_cases true true any longest none = record_path (any ∙ or_true (core_use ts g c).used) longest
    by_cases true false any longest none = let z = none refl in record_path (any ∙ or-false (core_use ts g c).used) (omega (arith, longest, z))
    by_cases false u any longest none = record_path (any ∙ or-false (core_use ts g c).used) (omega (arith, longest))

-- a user is written at its core
user_push : (ts : List TaskModel) (a : TaskModel) (g n : ℕ) (d : CoreUse) → a.core < n → uses g a ≡ true
    → set (core_uses ts g n) a.core (with_user (longest_section g a.units) (get_or (core_uses ts g n) a.core d)) ≡ core_uses (ts ++ a ∷ []) g n
user_push ts a g n d known is =
    let new = with_user (longest_section g a.units) (get_or (core_uses ts g n) a.core d) in
    let size = length-map-range_with_len (core_use ts g) 0 n in
    let sized = length-set (core_uses ts g n) a.core new ∙ size in
    ext_get_or d (set (core_uses ts g n) a.core new) (core_uses (ts ++ a ∷ []) g n) (sized ∙ sym (length-map-range_with_len (core_use (ts ++ a ∷ []) g) 0 n)) (λ c below.
    let within : c < n = omega (arith, below, sized) in
    elim (cases_eq c a.core) [
      | inl here ↦ ap (λ k. get_or (set (core_uses ts g n) a.core new) k d) here ∙ (get_or-set_same (core_uses ts g n) a.core new d (omega (arith, known, size))
          ∙ (ap (with_user (longest_section g a.units)) (at ts a.core known) ∙ (sym (use_push ts a g a.core true true (eq-eqb a.core a.core refl) is) ∙ (ap (core_use (ts ++ a ∷ []) g) (sym here) ∙ sym (at (ts ++ a ∷ []) c within)))))
      | inr other ↦ get_or-set_other (core_uses ts g n) a.core c new d other ∙ (at ts c within ∙ (sym (use_push ts a g c false true (not_equal a.core c (λ e. other (sym e))) is) ∙ sym (at (ts ++ a ∷ []) c within)))
    ])
  where
    at : (xs : List TaskModel) (k : ℕ) → k < n → get_or (core_uses xs g n) k d ≡ core_use xs g k
    at xs k l = get_or-map-range_with_len (core_use xs g) 0 n k k d l (omega arith)

-- another task changes nothing
other_push : (ts : List TaskModel) (a : TaskModel) (g n : ℕ) → uses g a ≡ false → core_uses ts g n ≡ core_uses (ts ++ a ∷ []) g n
other_push ts a g n is =
    map_agree (core_use ts g) (core_use (ts ++ a ∷ []) g) (range_with_len 0 n)
    (all_of (λ c. core_use ts g c ≡ core_use (ts ++ a ∷ []) g c) (λ c. sym (use_push ts a g c (a.core == c) false refl is ∙ ap (λ b. cond b (with_user (longest_section g a.units) (core_use ts g c)) (core_use ts g c)) (and_false (a.core == c)))) (range_with_len 0 n))
  where
    and_false : (b : Bool) → (b && false) ≡ false
    and_false true = refl
    and_false false = refl

-- ---- users, ceiling and cores
-- the users among the first n tasks, the ceiling, and the cores, as these tasks tell them
pub record AreTold (plan : PlanModel) (g n : ℕ) (us : List TaskId) (highest : ℕ) (cs : List CoreUse) : Type 0 where
  pub users : map (λ t. t.0) us ≡ filter (λ t. uses g (task_at plan t)) (range_with_len 0 n)
  pub ceiling : highest ≡ greatest (map (level_of plan) (filter (uses g) (take n plan.tasks)))
  pub cores : cs ≡ core_uses (take n plan.tasks) g plan.cores

pub told_first : (plan : PlanModel) (g n : ℕ) → n ≡ plan.cores → AreTold plan g 0 [] 0 (replicate n (record { used = false; section = 0 }))
told_first plan g n e = record { users = refl; ceiling = refl; cores = sym (map_constant (core_use [] g) (record { used = false; section = 0 }) (λ c. refl) 0 n) ∙ ap (core_uses [] g) e }

-- equal ones are told too
pub told_same : (plan : PlanModel) (g n : ℕ) (us vs : List TaskId) (k m : ℕ) (cs ds : List CoreUse) → vs ≡ us → m ≡ k → ds ≡ cs → AreTold plan g n us k cs → AreTold plan g n vs m ds
told_same plan g n us vs k m cs ds users ceiling cores h = record { users = ap (map (λ t. t.0)) users ∙ h.users; ceiling = ceiling ∙ h.ceiling; cores = cores ∙ h.cores }

-- the filtered tasks, with one more
kept_more : (plan : PlanModel) (g n : ℕ) (user : Bool) → n < length plan.tasks → uses g (task_at plan n) ≡ user
    → map (level_of plan) (filter (uses g) (take (n + 1) plan.tasks)) ≡ map (level_of plan) (filter (uses g) (take n plan.tasks)) ++ cond user (level_of plan (task_at plan n) ∷ []) []
kept_more plan g n user within is =
    ap (λ ts. map (level_of plan) (filter (uses g) ts)) (take_more plan.tasks n no_task within)
    ∙ (ap (map (level_of plan)) (filter-append (uses g) (take n plan.tasks) (task_at plan n ∷ []))
    ∙ (map-append (level_of plan) (filter (uses g) (take n plan.tasks)) (filter (uses g) (task_at plan n ∷ []))
    ∙ ap (λ ks. map (level_of plan) (filter (uses g) (take n plan.tasks)) ++ ks) (ap (λ b. map (level_of plan) (cond b (task_at plan n ∷ []) [])) is ∙ last user)))
  where
    last : (b : Bool) → map (level_of plan) (cond b (task_at plan n ∷ []) []) ≡ cond b (level_of plan (task_at plan n) ∷ []) []
    last true = refl
    last false = refl

-- a user
pub told_user : (plan : PlanModel) (g n : ℕ) (us : List TaskId) (highest : ℕ) (cs : List CoreUse) (d : CoreUse) → n < length plan.tasks → (task_at plan n).core < plan.cores → uses g (task_at plan n) ≡ true → AreTold plan g n us highest cs
    → AreTold plan g (n + 1) (us ++ (record { 0 = n }) ∷ []) (max highest (level_of plan (task_at plan n))) (set cs (task_at plan n).core (with_user (longest_section g (task_at plan n).units) (get_or cs (task_at plan n).core d)))
told_user plan g n us highest cs d within known is h =
    let a = task_at plan n in
    record {
      users = gather_yes (λ t. uses g (task_at plan t)) n (map (λ t. t.0) us) _ is h.users (map-append (λ (t : TaskId). t.0) us (record { 0 = n } ∷ []));
      ceiling = ap (λ k. max k (level_of plan a)) h.ceiling ∙ sym (ap greatest (kept_more plan g n true within is) ∙ greatest_push (map (level_of plan) (filter (uses g) (take n plan.tasks))) (level_of plan a));
      cores = ap (λ xs. set xs a.core (with_user (longest_section g a.units) (get_or xs a.core d))) h.cores
          ∙ (user_push (take n plan.tasks) a g plan.cores d known is ∙ ap (λ ts. core_uses ts g plan.cores) (sym (take_more plan.tasks n no_task within)));
    }

-- another task
pub told_other : (plan : PlanModel) (g n : ℕ) (us : List TaskId) (highest : ℕ) (cs : List CoreUse) → n < length plan.tasks → uses g (task_at plan n) ≡ false → AreTold plan g n us highest cs → AreTold plan g (n + 1) us highest cs
told_other plan g n us highest cs within is h =
    let a = task_at plan n in
    record {
      users = gather_no (λ t. uses g (task_at plan t)) n (map (λ t. t.0) us) is h.users;
      ceiling = h.ceiling ∙ sym (ap greatest (kept_more plan g n false within is ∙ append-nil (map (level_of plan) (filter (uses g) (take n plan.tasks)))));
      cores = h.cores ∙ (other_push (take n plan.tasks) a g plan.cores is ∙ ap (λ ts. core_uses ts g plan.cores) (sym (take_more plan.tasks n no_task within)));
    }

-- all tasks tell what the plan says
pub all_told : (plan : PlanModel) (g n : ℕ) (us : List TaskId) (highest : ℕ) (cs : List CoreUse) → n ≡ length plan.tasks → AreTold plan g n us highest cs
    → (map (λ t. t.0) us ≡ users plan g) × (highest ≡ local_ceiling plan g) × (cs ≡ core_uses plan.tasks g plan.cores)
all_told plan g n us highest cs e h =
    let all = take_all n plan.tasks (omega (arith, e)) in
    (h.users ∙ ap (λ k. filter (λ t. uses g (task_at plan t)) (range_with_len 0 k)) e, h.ceiling ∙ ap (λ ts. greatest (map (level_of plan) (filter (uses g) ts))) all, h.cores ∙ ap (λ ts. core_uses ts g plan.cores) all)
