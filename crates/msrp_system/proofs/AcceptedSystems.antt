-- A system that isn't refused is within its limits.
use Rattle.std.proofs.Common.{◌≡◌, ◌<◌, ◌≤◌, ◌∷◌}
use Rattle.msrp_plan.proofs.Common.{ℕ, zero, suc, Bool, true, false, cond, List, [], Option, Some, None, map, length, list_any, get_or, refl, arith, nat_le, nat_lt, nat_tests, TaskModel, no_task, length-map, or_parts, ltb-false}
use Rattle.std.specs.Prelude.{string_bytes}
use Rattle.std.specs.declared.alloc.Global.{Global}
use Rattle.std.specs.declared.string.String.{String}
use Rattle.msrp_system.specs.Systems.{task_view, system_of, system_fault, is_past_limits, is_long, is_beyond, most_cores, most_tasks, most_resources, most_steps}
use Rattle.msrp_system.specs.Inside.Views.{IsSystem}
use Rattle.msrp_system.specs.declared.parts.Task.{Task}
use Rattle.msrp_system.specs.declared.systems.SystemFault.{SystemFault}
use Rattle.msrp_system.specs.declared.systems.SystemFault.TheVariants.{Limit, Core}

-- what follows for each task where no task passes a test
each_task : (P : TaskModel → Type 0) (p : Task → Bool) → ((x : Task) → p x ≡ false → P (task_view x)) → (xs : List Task) → list_any p xs ≡ false → (t : ℕ) → t < length (map task_view xs) → P (get_or (map task_view xs) t no_task)
each_task P p f [] h t l = absurd (omega arith)
each_task P p f (x ∷ xs) h zero l = f x (or_parts (p x) (list_any p xs) h).0
each_task P p f (x ∷ xs) h (suc t) l = each_task P p f xs (or_parts (p x) (list_any p xs) h).1 t (omega arith)

chosen : (b : Bool) (x : SystemFault) (rest : Option SystemFault) → cond b (Some x) rest ≡ None → (b ≡ false) × (rest ≡ None)
chosen true x rest h = absurd (cc)
chosen false x rest h = (refl, h)

not_le : (a b : ℕ) → nat_le a b ≡ false → b < a
not_le a b h = grind (arith, nat_tests)

pub accepted : (cores : ℕ) (resources : List (String Global)) (tasks : List Task) → system_fault cores (length resources) tasks ≡ None → IsSystem (system_of cores resources tasks)
accepted cores resources tasks h =
    let first = chosen (is_past_limits cores (length resources) tasks) Limit _ h in
    let second = chosen (list_any (is_beyond cores) tasks) Core _ first.1 in
    let many = or_parts (nat_lt most_cores cores) _ first.0 in
    let more = or_parts (nat_lt most_resources (length resources)) _ many.1 in
    let most = or_parts (nat_lt most_tasks (length tasks)) _ more.1 in
    let few_cores : cores ≤ most_cores = ltb-false most_cores cores many.0 in
    let few_resources : length resources ≤ most_resources = ltb-false most_resources (length resources) more.0 in
    let few_tasks : length tasks ≤ most_tasks = ltb-false most_tasks (length tasks) most.0 in
    let names = length-map resources string_bytes in
    let views = length-map tasks task_view in
    record {
      cores = few_cores;
      resources = omega (arith, few_resources, names);
      tasks = omega (arith, few_tasks, views);
      core = each_task (λ t. t.core < cores) (is_beyond cores) (λ x e. not_le cores x.core.0 e) tasks second.0;
      steps = each_task (λ t. length t.units ≤ most_steps) is_long (λ x e. ltb-false most_steps (length x.steps.items) e) tasks most.1;
    }
