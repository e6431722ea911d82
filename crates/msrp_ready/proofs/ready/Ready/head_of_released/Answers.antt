use Rattle.std.proofs.Common.{◌<◌, ◌-◌, ◌∙◌}
use Rattle.msrp_plan.proofs.Common.{Some, None, length, drop, subst, ap, sym, All}
use Rattle.msrp_ready.proofs.Common.{All-drop, All-take, Entry, ReadyModel, head}
use Rattle.msrp_ready.proofs.Entries.{known_tasks}
use Rattle.msrp_ready.proofs.Ahead.{ahead_of}
use Rattle.msrp_ready.proofs.ready.Ready.head_of_released.Goals as goal

pub first_of-requires : goal.first_of-requires
first_of-requires c =
    let r = c.self.inside in
    let of_plan : Entry → Type 0 = λ e. e.task < length r.plan.now.tasks in
    record { plan = c.self.invariant.0.accepted; tasks = All-take of_plan (c.released_to-until.result - r.next) (drop r.next c.deref-2.result.now) (All-drop of_plan r.next c.deref-2.result.now (subst (All of_plan) (sym c.deref-2.ensures.value) (known_tasks r.plan.now r.calendar.items r.core.0 r.tick r.next r.heap c.self.invariant.0))) }

pub returns-in_err-first : goal.returns-in_err-first
returns-in_err-first c =
    let r = c.self.inside in
    let until = c.released_to-until.ensures in
    let first = c.first.ensures in
    c.from_residual.ensures
    ∙ ahead_of r.plan.now r.core.0 r.tick r.calendar.items c.deref.result.now c.deref-2.result.now r.next r.heap c.args.tick c.released_to-until.result c.first.result None c.deref.ensures.value c.deref-2.ensures.value c.self.invariant.0
    (λ before e. c.requires before (sym (ap (λ (v : ReadyModel). v.tick) c.self.view_is) ∙ e)) until.from until.within until.released until.later (record { none = first.none; one = first.one; first = first.first })
    (record { none = c.in_err-first.ensures.none; one = tt; first = tt })
    ∙ ap (λ (v : ReadyModel). head (record v { tick = Some c.args.tick })) c.self.view_is

pub returns : goal.returns
returns c =
    let r = c.self.inside in
    let until = c.released_to-until.ensures in
    let first = c.first.ensures in
    let told = c.in_ok-first.ensures in
    ap (λ j. Some j) c.job.ensures
    ∙ ahead_of r.plan.now r.core.0 r.tick r.calendar.items c.deref.result.now c.deref-2.result.now r.next r.heap c.args.tick c.released_to-until.result c.first.result (Some c.in_ok-first.first) c.deref.ensures.value c.deref-2.ensures.value c.self.invariant.0
    (λ before e. c.requires before (sym (ap (λ (v : ReadyModel). v.tick) c.self.view_is) ∙ e)) until.from until.within until.released until.later (record { none = first.none; one = first.one; first = first.first })
    (record { none = tt; one = told.one; first = told.first })
    ∙ ap (λ (v : ReadyModel). head (record v { tick = Some c.args.tick })) c.self.view_is
