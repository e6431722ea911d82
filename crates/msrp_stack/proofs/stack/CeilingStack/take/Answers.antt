use Rattle.std.proofs.Common.{◌≡◌, ◌-◌, ◌<◌, ◌∙◌}
use Rattle.msrp_plan.proofs.Common.{length, slice_set, subst, sym, ap, refl, arith}
use Rattle.msrp_stack.proofs.Common.{HasRoom, Held, IsStack, StackModel, Started, started_of, with_held}
use Rattle.msrp_stack.proofs.Changes.{take_keeps, some_items}
use Rattle.msrp_stack.proofs.stack.CeilingStack.take.Goals as goal

-- the newest with one resource more
abbrev grown : goal.After-self-2-1 → Started
grown c = record { job = c.index_mut.result.now.job; held = c.push.new.self }

abbrev held : goal.After-self-2-1 → Held
held c = record { res = c.args.res; before = c.self.inside.ceiling }

kept : (c : goal.After-self-2-1) → IsStack c.self.inside.plan.now c.self.inside.core.0 c.self.inside.ceilings (slice_set c.self.inside.started.items (c.len-last.result - 1) (grown c)) c.self.inside.started.cap c.max-self-inside.result
    × (started_of (slice_set c.self.inside.started.items (c.len-last.result - 1) (grown c)) ≡ with_held (started_of c.self.inside.started.items) c.args.res.0)
kept c =
    let items = c.self.inside.started.items in
    let room = subst (λ (s : StackModel). HasRoom s.started 8 c.args.res.0) (sym c.self.view_is) c.requires.room in
    let declared = subst (λ (s : StackModel). c.args.res.0 < length s.plan.resources) (sym c.self.view_is) c.requires.declared in
    let told = c.self.invariant.told c.args.res.0 declared in
    take_keeps c.self.inside.plan.now c.self.inside.core.0 c.self.inside.ceilings items c.len-last.result c.index_mut.result.now (grown c) (held c) c.self.inside.started.cap c.self.inside.ceiling c.max-self-inside.result
    (c.len-last.ensures ∙ c.self.inside.started.ok.0) c.self.invariant (some_items items (λ l. HasRoom l 8 c.args.res.0) (λ h. h) room) c.index_mut.ensures.value (record { job = refl; held = c.push.ensures.items })
    declared (omega (arith, told, c.max-self-inside.ensures)) refl

pub invariant_of-self : goal.invariant_of-self
invariant_of-self c = (kept c).0

pub returns : goal.returns
returns c =
    let new = slice_set c.self.inside.started.items (c.len-last.result - 1) (grown c) in
    let plan = c.self.inside.plan.now in
    let core = c.self.inside.core.0 in
    subst (λ (s : StackModel). record { plan = plan; core = core; started = started_of new } ≡ record { plan = s.plan; core = s.core; started = with_held s.started c.args.res.0 }) c.self.view_is
    (ap (λ l. record { plan = plan; core = core; started = l }) (kept c).1)
