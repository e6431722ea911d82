-- The place of a name among names is that of its task or resource.
use Rattle.std.proofs.Common.{◌≡◌, ◌∙◌}
use Rattle.msrp_plan.proofs.Common.{ℕ, List, map, sym, TaskModel, bytes_eq, name_position}
use Rattle.msrp_plan.proofs.Building.Stored.{position_map}
use Rattle.std.specs.Prelude.{string_bytes}
use Rattle.std.specs.List.{position}
use Rattle.std.specs.declared.alloc.Global.{Global}
use Rattle.std.specs.declared.string.String.{String}
use Rattle.msrp_system.specs.Systems.{task_view}
use Rattle.msrp_system.specs.declared.parts.Task.{Task}

pub task_named : (tasks : List Task) (name : List ℕ) → position (λ (t : Task). bytes_eq name (string_bytes t.name)) tasks ≡ name_position (map (λ (t : TaskModel). t.name) (map task_view tasks)) name
task_named tasks name = sym (position_map (bytes_eq name) (λ (t : TaskModel). t.name) (map task_view tasks) ∙ position_map (λ (t : TaskModel). bytes_eq name t.name) task_view tasks)

pub res_named : (resources : List (String Global)) (name : List ℕ) → position (λ (r : String Global). bytes_eq name (string_bytes r)) resources ≡ name_position (map string_bytes resources) name
res_named resources name = sym (position_map (bytes_eq name) string_bytes resources)
