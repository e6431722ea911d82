use Rattle.msrp_plan.specs.Common.{[], ℕ, List, map, None, false, string_bytes, has_name, resource_fault}
use Rattle.std.proofs.Common.{◌≡◌, ◌++◌, ◌∷◌, refl, sym, ap, ◌∙◌}
use Rattle.msrp_plan.specs.Inside.Views.{draft_view}
use Rattle.msrp_plan.proofs.Building.Stored.{name_push}
use Rattle.msrp_plan.proofs.Building.Drafts.{growing_resource, resource_new}
use Rattle.msrp_plan.proofs.builder.PlanBuilder.resource.Goals as goal

-- the resource is accepted
good : (c : goal.In_ok-insert) → resource_fault (draft_view c.self.inside) c.args.name.now ≡ None
good c = rw (← c.self.view_is) at (sym c.resource_fault.ensures ∙ c.in_default.is)

-- the names after it
names : (c : goal.In_ok-insert) → map string_bytes c.insert.new.self.keys ≡ map string_bytes c.self.inside.parts.resources.keys ++ c.args.name.now ∷ []
names c =
    let same = c.in_ok-name.ensures.ok in
    let new : has_name (map string_bytes c.self.inside.parts.resources.keys) (string_bytes c.in_ok-name.name) ≡ false = rw same (resource_new (draft_view c.self.inside) c.args.name.now (good c)) in
    ap (map string_bytes) c.in_ok-insert.ensures.keys ∙ name_push c.self.inside.parts.resources.keys c.in_ok-name.name new ∙ ap (λ (n : List ℕ). map string_bytes c.self.inside.parts.resources.keys ++ n ∷ []) same

pub invariant_of-self-2 : goal.invariant_of-self-2
invariant_of-self-2 c = rw (names c) (growing_resource (draft_view c.self.inside) _ c.args.name.now c.self.invariant (good c))

pub returns-clause-added : goal.returns-clause-added
returns-clause-added c = rw (names c, ← c.self.view_is) refl
