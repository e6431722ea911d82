use Rattle.std.proofs.Common.{◌≡◌, ◌<◌, ◌+◌, ◌++◌, ◌∷◌, ◌∙◌}
use Rattle.msrp_plan.proofs.Common.{[], ℕ, Bool, List, max, length, map, take, refl, set, get_or, true, false, vec_len, rules, ap, sym, subst, arith, range_with_len, vec_capacity, get_or-map, length-map, length_push, length-map-range_with_len, PlanModel, no_task, task_at, uses, longest_section, IsPlan}
use Rattle.msrp_plan.specs.declared.ids.TaskId.{TaskId}
use Rattle.msrp_levels.specs.Usage.{spin_among, with_user, IsShort}
use Rattle.msrp_levels.specs.Footprints.{footprint_of, locks_in, longest_in}
use Rattle.msrp_levels.specs.declared.footprints.Footprint.{Footprint}
use Rattle.msrp_levels.specs.declared.usage.CoreUse.{CoreUse}
use Rattle.msrp_levels.proofs.FirstTasks.{AreTold, core_use, core_uses, told_first, told_same, told_user, told_other, all_told}
use Rattle.msrp_levels.proofs.TaskUses.{footprints, locks_same, longest_same, sections_same, spins_same, sections_short}
use Rattle.msrp_levels.proofs.usage.Usage.of.Goals as goal
use Rattle.msrp_levels.proofs.usage.Usage.of.Goals.{then-locks, else-locks}

-- what stands for a task that there isn't
abbrev nobody : Footprint
nobody = record { core = record { 0 = 0 }; level = 0; uses = [] }

-- the resource is one of 32
few : (plan : PlanModel) (g : ℕ) → IsPlan plan → g < length plan.resources → g < 32
few plan g ok known = let k = ok.draft.resources in omega (arith, k, known)

within : (plan : PlanModel) (tasks : List Footprint) (t : ℕ) → tasks ≡ footprints plan → t < length tasks → t < length plan.tasks
within plan tasks t same l = let size = ap length same ∙ length-map plan.tasks (footprint_of plan) in omega (arith, size, l)

-- a task by its number
seen : (plan : PlanModel) (tasks : List Footprint) (t : ℕ) (d : Footprint) → tasks ≡ footprints plan → t < length tasks → get_or tasks t d ≡ footprint_of plan (task_at plan t)
seen plan tasks t d same l = ap (λ fs. get_or fs t d) same ∙ get_or-map (footprint_of plan) plan.tasks t no_task d (within plan tasks t same l)

-- whether it locks the resource
used : (plan : PlanModel) (g : ℕ) (f : Footprint) (t : ℕ) (b c : Bool) → g < 32 → f ≡ footprint_of plan (task_at plan t) → b ≡ locks_in g f → b ≡ c → uses g (task_at plan t) ≡ c
used plan g f t b c l is locks e = sym (locks_same plan g l (task_at plan t)) ∙ (sym (ap (locks_in g) is) ∙ (sym locks ∙ e))

-- its core is there
core_stored : (plan : PlanModel) (tasks : List Footprint) (t : ℕ) (us : List TaskId) (k : ℕ) (cores : List CoreUse) (g : ℕ) → IsPlan plan → tasks ≡ footprints plan → t < length tasks → AreTold plan g t us k cores → (get_or tasks t nobody).core.0 < length cores
core_stored plan tasks t us k cores g ok same l told =
    let known = (ok.draft.each t (within plan tasks t same l)).core in
    let at = ap (λ (f : Footprint). f.core.0) (seen plan tasks t nobody same l) in
    let size = ap length told.cores ∙ length-map-range_with_len (core_use (take t plan.tasks) g) 0 plan.cores in
    omega (arith, known, at, size)

pub loop-t-init : goal.loop-t-init
loop-t-init c =
    let plan = c.args.plan.now in
    let cores = c.in_ok-cores.ensures.items_if_clones_equal (λ y e. e) in
    record {
      told = told_same plan c.args.res.0 0 [] c.in_ok-users.users.items 0 0 _ c.in_ok-cores.cores.items c.in_ok-users.ensures.items refl cores (told_first plan c.args.res.0 c.cores.result c.cores.ensures.value);
      room = c.in_ok-users.ensures.exact;
      few = omega (arith, ap length c.in_ok-users.ensures.items);
    }

pub index_mut-requires : goal.index_mut-requires
index_mut-requires c =
    let many : vec_len c.loop-t.cores ≡ length c.loop-t.cores.items = search rules in
    let known = core_stored c.args.plan.now c.args.tasks.now c.loop-t.t c.loop-t.users.items c.loop-t.ceiling c.loop-t.cores.items c.args.res.0 c.cores.ensures.plan c.requires.tasks c.loop-t-test.true c.loop-t.invariant.told in
    omega (arith, many, known)

pub loop-t-preserved : goal.loop-t-preserved
loop-t-preserved c =
    let plan = c.args.plan.now in
    let g = c.args.res.0 in
    let t = c.loop-t.t in
    let f = get_or c.args.tasks.now t nobody in
    let ok = c.cores.ensures.plan in
    let l = within plan c.args.tasks.now t c.requires.tasks c.loop-t-test.true in
    let is = seen plan c.args.tasks.now t nobody c.requires.tasks c.loop-t-test.true in
    let small = few plan g ok c.requires.res in
    elim c.if-locks.branch [
      | then-locks w ↦
          let task = task_at plan t in
          let old = c.loop-t.cores.items in
          let told = told_user plan g t c.loop-t.users.items c.loop-t.ceiling old w.index_mut.result.now l (ok.draft.each t l).core (used plan g f t c.locks.result true small is c.locks.ensures w.if-locks.true) c.loop-t.invariant.told in
          let users : c.if-locks.users.items ≡ c.loop-t.users.items ++ (record { 0 = t }) ∷ [] = ap (λ v. v.items) w.users-is ∙ w.push_reserved.ensures.items in
          let longest = w.longest.ensures ∙ (ap (longest_in g) is ∙ longest_same plan g small task) in
          let new : w.add_user.new.self ≡ with_user (longest_section g task.units) (get_or old f.core.0 w.index_mut.result.now) = w.add_user.ensures ∙ (ap (λ n. with_user n w.index_mut.result.now) longest ∙ ap (with_user (longest_section g task.units)) w.index_mut.ensures.value) in
          let cores : c.if-locks.cores.items ≡ set old f.core.0 w.add_user.new.self = ap (λ v. v.items) w.cores-is in
          let highest : w.max-ceiling.result ≡ max c.loop-t.ceiling f.level = search rules in
          record {
            told = told_same plan g (t + 1) _ c.if-locks.users.items _ c.if-locks.ceiling _ c.if-locks.cores.items users
                (w.ceiling-is ∙ (highest ∙ ap (λ (x : Footprint). max c.loop-t.ceiling x.level) is))
                (cores ∙ (ap (set old f.core.0) new ∙ ap (λ (x : Footprint). set old x.core.0 (with_user (longest_section g task.units) (get_or old x.core.0 w.index_mut.result.now))) is)) told;
            room = ap vec_capacity w.users-is ∙ (w.push_reserved.ensures.capacity ∙ c.loop-t.invariant.room);
            few = let size = ap length users ∙ length_push c.loop-t.users.items (record { 0 = t }) in omega (arith, size, c.loop-t.invariant.few);
          }
      | else-locks w ↦
          let told = told_other plan g t c.loop-t.users.items c.loop-t.ceiling c.loop-t.cores.items l (used plan g f t c.locks.result false small is c.locks.ensures w.if-locks.false) c.loop-t.invariant.told in
          record {
            told = told_same plan g (t + 1) _ c.if-locks.users.items _ c.if-locks.ceiling _ c.if-locks.cores.items (ap (λ v. v.items) w.users-is) w.ceiling-is (ap (λ v. v.items) w.cores-is) told;
            room = ap vec_capacity w.users-is ∙ c.loop-t.invariant.room;
            few = let size = ap (λ v. length v.items) w.users-is in omega (arith, size, c.loop-t.invariant.few);
          }
    ]

-- after the last task all is told
ended : (plan : PlanModel) (tasks : List Footprint) (t : ℕ) → tasks ≡ footprints plan → t ≡ length tasks → t ≡ length plan.tasks
ended plan tasks t same end = end ∙ (ap length same ∙ length-map plan.tasks (footprint_of plan))

pub spins_among-requires-clause-few : goal.spins_among-requires-clause-few
spins_among-requires-clause-few c =
    let plan = c.args.plan.now in
    let end = ended plan c.args.tasks.now c.loop-t.t c.requires.tasks (omega (arith, c.loop-t-test.false, c.loop-t.auto.t-end)) in
    let cores = (all_told plan c.args.res.0 c.loop-t.t c.loop-t.users.items c.loop-t.ceiling c.loop-t.cores.items end c.loop-t.invariant.told).2 in
    let size = ap length cores ∙ length-map-range_with_len (core_use plan.tasks c.args.res.0) 0 plan.cores in
    omega (arith, size, ap length c.deref.ensures.value, c.cores.ensures.plan.draft.cores.1)

pub spins_among-requires-clause-short : goal.spins_among-requires-clause-short
spins_among-requires-clause-short c = λ k d l.
    let plan = c.args.plan.now in
    let end = ended plan c.args.tasks.now c.loop-t.t c.requires.tasks (omega (arith, c.loop-t-test.false, c.loop-t.auto.t-end)) in
    let cores = c.deref.ensures.value ∙ (all_told plan c.args.res.0 c.loop-t.t c.loop-t.users.items c.loop-t.ceiling c.loop-t.cores.items end c.loop-t.invariant.told).2 in
    let size = ap length cores ∙ length-map-range_with_len (core_use plan.tasks c.args.res.0) 0 plan.cores in
    subst (λ (cs : List CoreUse). IsShort (get_or cs k d)) (sym cores) (sections_short plan c.cores.ensures.plan c.args.res.0 k d (omega (arith, l, size)))

pub returns : goal.returns
returns c =
    let plan = c.args.plan.now in
    let g = c.args.res.0 in
    let end = ended plan c.args.tasks.now c.loop-t.t c.requires.tasks (omega (arith, c.loop-t-test.false, c.loop-t.auto.t-end)) in
    let told = all_told plan g c.loop-t.t c.loop-t.users.items c.loop-t.ceiling c.loop-t.cores.items end c.loop-t.invariant.told in
    record {
      users = told.0;
      ceiling = told.1;
      cores = ap (map (λ (x : CoreUse). x.section)) told.2 ∙ sections_same plan g;
      spins = c.in_ok-spins.ensures ∙ (ap (λ cs. map (spin_among cs) (range_with_len 0 (length cs))) (c.deref.ensures.value ∙ told.2)
          ∙ spins_same plan g (length (core_uses plan.tasks g plan.cores)) (length-map-range_with_len (core_use plan.tasks g) 0 plan.cores));
    }
