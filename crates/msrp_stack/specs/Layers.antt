-- The ceiling as it rises from one held resource to the next.
use Rattle.std.specs.Prelude.{◌∷◌, ◌≡◌, ◌<◌}
use Rattle.msrp_plan.specs.Common.{ℕ, List, [], max, reverse, length, flat_map, PlanModel}
use Rattle.msrp_levels.specs.Users.{ceiling_at}
use Rattle.msrp_stack.specs.declared.stack.Held.{Held}
use Rattle.msrp_stack.specs.declared.stack.Started.{Started}

-- held resources, the newest first: the current ceiling is the greater of the resource's and the
-- previous one; 0 if nothing is held
abbrev pub Layers : PlanModel → ℕ → ℕ → List Held → Type 0
Layers plan c current [] = current ≡ 0
Layers plan c current (h ∷ hs) = (h.res.0 < length plan.resources) × (current ≡ max (ceiling_at plan h.res.0 c) h.before) × Layers plan c h.before hs

-- all resources of the started jobs, the newest first
abbrev pub layers_of : List Started → List Held
layers_of items = flat_map (λ s. reverse s.held.items) (reverse items)
