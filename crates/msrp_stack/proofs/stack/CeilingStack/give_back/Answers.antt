use Rattle.std.proofs.Common.{◌≡◌, ◌-◌, ◌++◌, ◌∙◌}
use Rattle.msrp_plan.proofs.Common.{slice_set, subst, sym, ap, refl, option_to_list}
use Rattle.msrp_stack.proofs.Common.{IsStack, SomeHeld, StackModel, Started, started_of, without_held}
use Rattle.msrp_stack.proofs.Changes.{give_back_keeps, some_items}
use Rattle.msrp_stack.proofs.stack.CeilingStack.give_back.Goals as goal

-- the newest without its innermost
abbrev left : goal.After-self-in-Some-1 → Started
left c = record { job = c.index_mut.result.now.job; held = c.pop.new.self }

kept : (c : goal.After-self-in-Some-1) → IsStack c.self.inside.plan.now c.self.inside.core.0 c.self.inside.ceilings (slice_set c.self.inside.started.items (c.len-last.result - 1) (left c)) c.self.inside.started.cap c.in-Some.held.before
    × (started_of (slice_set c.self.inside.started.items (c.len-last.result - 1) (left c)) ≡ without_held (started_of c.self.inside.started.items))
kept c =
    let items = c.self.inside.started.items in
    let held = subst (λ (s : StackModel). SomeHeld s.started) (sym c.self.view_is) c.requires in
    give_back_keeps c.self.inside.plan.now c.self.inside.core.0 c.self.inside.ceilings items c.len-last.result c.index_mut.result.now (left c) c.in-Some.held c.self.inside.started.cap c.self.inside.ceiling
    (c.len-last.ensures ∙ c.self.inside.started.ok.0) c.self.invariant (some_items items SomeHeld (λ h. h.1) held) c.index_mut.ensures.value (record { job = refl; held = c.pop.ensures.items ∙ ap (λ o. c.pop.new.self.items ++ option_to_list o) c.in-Some.is })

pub invariant_of-self : goal.invariant_of-self
invariant_of-self c = (kept c).0

pub returns-in-Some : goal.returns-in-Some
returns-in-Some c =
    let new = slice_set c.self.inside.started.items (c.len-last.result - 1) (left c) in
    let plan = c.self.inside.plan.now in
    let core = c.self.inside.core.0 in
    subst (λ (s : StackModel). record { plan = plan; core = core; started = started_of new } ≡ record { plan = s.plan; core = s.core; started = without_held s.started }) c.self.view_is
    (ap (λ l. record { plan = plan; core = core; started = l }) (kept c).1)
