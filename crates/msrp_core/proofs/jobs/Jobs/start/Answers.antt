use Rattle.std.proofs.Common.{◌||◌, ◌∙◌}
use Rattle.msrp_plan.proofs.Common.{[], nat_lt, refl, ap, arith, and_parts, level, is_job, comes_first, known_task}
use Rattle.msrp_core.proofs.Common.{current_ceiling, is_among, newest, state_in}
use Rattle.msrp_core.proofs.Running.{ready_known, free_for, can_start, begun_room, begun_fits, begun_in, begun_states}
use Rattle.msrp_core.proofs.jobs.Jobs.start.Goals as goal

pub start-requires : goal.start-requires
start-requires c =
    let known = ready_known c.args.self.now c.args.job c.requires.jobs c.requires.head in
    let parts = and_parts (nat_lt (current_ceiling c.args.self.now.stack) (level c.args.self.now.plan.now c.args.job.task.0)) (comes_first c.args.self.now.plan.now c.args.job (newest c.args.self.now.stack.started)) c.requires.next in
    can_start c.args.self.now c.args.job c.requires.jobs known.0 parts.1

pub push_reserved-requires : goal.push_reserved-requires
push_reserved-requires c =
    let known = ready_known c.args.self.now c.args.job c.requires.jobs c.requires.head in
    let room = begun_room c.args.self.now c.args.job c.requires.jobs known.0 known.1 in
    let n = c.args.self.now.below.ok in
    omega (arith, room, n)

pub units_of-self-requires : goal.units_of-self-requires
units_of-self-requires c =
    let jobs = c.args.self.now in
    known_task jobs.plan.now jobs.core.0 c.args.job (ready_known jobs c.args.job c.requires.jobs c.requires.head).0

pub returns-clause-jobs : goal.returns-clause-jobs
returns-clause-jobs c =
    let known = ready_known c.args.self.now c.args.job c.requires.jobs c.requires.head in
    let parts = and_parts (nat_lt (current_ceiling c.args.self.now.stack) (level c.args.self.now.plan.now c.args.job.task.0)) (comes_first c.args.self.now.plan.now c.args.job (newest c.args.self.now.stack.started)) c.requires.next in
    begun_fits c.args.self.now c.args.job c.take_head-self.new.self c.start.new.self c.push_reserved.new.self c.requires.jobs known.0 known.1 (free_for c.args.self.now c.args.job c.requires.jobs known.0 parts.0) c.take_head-self.ensures.rest
    (λ k. c.take_head-self.ensures.taken k ∙ ap (λ o. is_among c.args.self.now.ready.taken k || is_job o k) (c.take_head-self.ensures.head ∙ c.requires.head)) c.start.ensures c.push_reserved.ensures.items c.push_reserved.ensures.capacity c.requires.head c.units_of-self.result c.units_of-self.ensures

pub returns-clause-running : goal.returns-clause-running
returns-clause-running c = record { newest = record { job = c.args.job; held = []; done = 0 }; below = _; active = begun_in c.args.self.now c.args.job c.start.new.self c.push_reserved.new.self.items c.start.ensures c.push_reserved.ensures.items; same = refl }

pub returns-clause-states : goal.returns-clause-states
returns-clause-states c = λ k.
    let known = ready_known c.args.self.now c.args.job c.requires.jobs c.requires.head in
    let parts = and_parts (nat_lt (current_ceiling c.args.self.now.stack) (level c.args.self.now.plan.now c.args.job.task.0)) (comes_first c.args.self.now.plan.now c.args.job (newest c.args.self.now.stack.started)) c.requires.next in
    ap (λ g. state_in c.args.self.now.plan.now c.take_head-self.new.self.taken c.args.self.now.phase g k) (begun_in c.args.self.now c.args.job c.start.new.self c.push_reserved.new.self.items c.start.ensures c.push_reserved.ensures.items)
    ∙ begun_states c.args.self.now c.args.job c.take_head-self.new.self.taken c.requires.jobs known.0 known.1 (free_for c.args.self.now c.args.job c.requires.jobs known.0 parts.0)
    (λ k. c.take_head-self.ensures.taken k ∙ ap (λ o. is_among c.args.self.now.ready.taken k || is_job o k) (c.take_head-self.ensures.head ∙ c.requires.head)) k
