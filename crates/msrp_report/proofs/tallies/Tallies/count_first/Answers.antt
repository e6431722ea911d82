use Rattle.std.proofs.Common.{◌==◌, ◌∙◌}
use Rattle.msrp_plan.proofs.Common.{true, false, slice_set, refl, ap, sym, arith, eq-eqb, eqb-true, false_from_ne_true, with_item, core_of}
use Rattle.msrp_report.proofs.Common.{JobCount, Over, counted_as}
use Rattle.msrp_report.proofs.ActiveRows.{begins, core_read, core_within, cores_kept, cores_set, may_begin, passes_by}
use Rattle.msrp_report.proofs.JobTallies.{job_known, job_read, room_read, task_read, told_number, told_task}
use Rattle.msrp_report.proofs.Releases.{releases_kept}
use Rattle.msrp_report.proofs.RowSteps.{job_on_core, row_in, row_last, row_told, tallies_counted}
use Rattle.msrp_report.proofs.tallies.Tallies.count_first.Goals as goal

pub blocked-blocked-requires : goal.blocked-blocked-requires
blocked-blocked-requires c = let t = c.requires.told in row_told c.args.plan.now t.0 c.args.job c.args.self.now c.requires.plan t.1.counts t.1.job

pub index_mut-task-requires : goal.index_mut-task-requires
index_mut-task-requires c = omega (arith, told_task c.args.self.now.tasks.items c.args.job (let t = c.requires.told in row_told c.args.plan.now t.0 c.args.job c.args.self.now c.requires.plan t.1.counts t.1.job))

pub index_mut-tally-requires : goal.index_mut-tally-requires
index_mut-tally-requires c =
    let told = (let t = c.requires.told in row_told c.args.plan.now t.0 c.args.job c.args.self.now c.requires.plan t.1.counts t.1.job) in
    omega (arith, told_number c.args.self.now.tasks.items c.args.job c.index_mut-task.result.now told (task_read c.args.self.now.tasks.items c.args.job c.index_mut-task.result.now told c.index_mut-task.ensures.value))

pub add-requires : goal.add-requires
add-requires c = room_read c.args.self.now.tasks.items c.args.job c.index_mut-task.result.now c.index_mut-tally.result.now (let t = c.requires.told in row_told c.args.plan.now t.0 c.args.job c.args.self.now c.requires.plan t.1.counts t.1.job) c.index_mut-task.ensures.value c.index_mut-tally.ensures.value

pub core_of-core-requires : goal.core_of-core-requires
core_of-core-requires c = let t = c.requires.told in (job_known c.args.plan.now c.args.job (row_in c.args.plan.now t.1.counts.0 t.0 c.args.job t.1.counts.2.start t.1.job)).task

pub index_mut-requires : goal.index_mut-requires
index_mut-requires c =
    let plan = c.args.plan.now in
    let t = c.requires.told in
    let within = core_within plan t.1.counts.0 c.args.job c.args.self.now.active.items c.requires.plan (row_in plan t.1.counts.0 t.0 c.args.job t.1.counts.2.start t.1.job) t.1.counts.3 in
    let core = c.core_of-core.ensures in
    let len = c.args.self.now.active.ok.0 in
    omega (arith, within, core, len)

pub start-requires : goal.start-requires
start-requires c =
    let plan = c.args.plan.now in
    let i = c.args.job in
    let t = c.requires.told in
    let rows = t.1.counts.0 in
    let start = t.1.counts.2.start in
    let active = t.1.counts.3 in
    let own = c.index_mut.result.now in
    let was = core_read plan rows i c.args.self.now.active.items c.core_of-core.result.0 own c.requires.plan (row_in plan rows t.0 i start t.1.job) active c.core_of-core.ensures c.index_mut.ensures.value in
    may_begin plan rows t.0 i own c.requires.plan start t.1.job (job_on_core plan rows t.0 i start t.1.job) (active.each (core_of plan i) own was) (c.requires.first rows t.1.counts.1)

-- ---- its only row
pub returns-then-tally-task-clause-told : goal.returns-then-tally-task-clause-told
returns-then-tally-task-clause-told c = λ row rows like are next.
    let plan = c.args.plan.now in
    let tasks = c.args.self.now.tasks.items in
    let x = c.index_mut-task.result.now in
    let s = c.index_mut-tally.result.now in
    let told = row_told plan row c.args.job c.args.self.now c.requires.plan like.counts like.job in
    let of_task = task_read tasks c.args.job x told c.index_mut-task.ensures.value in
    let of_job = job_read tasks c.args.job x s told c.index_mut-task.ensures.value c.index_mut-tally.ensures.value in
    let n = c.blocked-blocked.result in
    let made = c.add.ensures ∙ (ap (λ t. counted_as t c.args.kind s.count) (sym like.tick) ∙ ap (λ k. counted_as row.tick k s.count) (sym like.kind)) in
    tallies_counted plan rows row c.args.self.now.begun tasks _ c.args.job x (record { jobs = with_item x.jobs c.args.job.k (record { count = c.add.new.self; blocking = Over n }); units = x.units; released = x.released }) s n c.requires.plan like.job next are of_task refl
    (record {
      was = of_job;
      jobs_set = ap (λ (y : JobCount). slice_set x.jobs.items c.args.job.k (record { count = y; blocking = Over n })) made;
      units = refl;
      released = refl;
    })
    (c.blocked-blocked.ensures plan rows (λ _. c.args.self.now.begun) c.requires.plan are (row_in plan rows row c.args.job next.start like.job))

pub returns-then-tally-task-clause-releases : goal.returns-then-tally-task-clause-releases
returns-then-tally-task-clause-releases c = let t = c.requires.told in releases_kept c.args.plan.now _ _ c.args.job _ _ (row_told c.args.plan.now t.0 c.args.job c.args.self.now c.requires.plan t.1.counts t.1.job) c.index_mut-task.ensures.value refl

pub returns-then-tally-task-clause-active : goal.returns-then-tally-task-clause-active
returns-then-tally-task-clause-active c = λ row rows like are active next.
    let plan = c.args.plan.now in
    let tasks = c.args.self.now.tasks.items in
    let i = c.args.job in
    let x = c.index_mut-task.result.now in
    let s = c.index_mut-tally.result.now in
    let new = c.add.new.self in
    let told = row_told plan row i c.args.self.now c.requires.plan like.counts like.job in
    let of_task = task_read tasks i x told c.index_mut-task.ensures.value in
    let of_job = job_read tasks i x s told c.index_mut-task.ensures.value c.index_mut-tally.ensures.value in
    let made = c.add.ensures ∙ (ap (λ t. counted_as t c.args.kind s.count) (sym like.tick) ∙ ap (λ k. counted_as row.tick k s.count) (sym like.kind)) in
    let finished = row_last plan rows row i (λ _. c.args.self.now.begun) tasks x s new true are of_task of_job like.job made (eq-eqb new.done x.units c.if-tally-task.true) in
    cores_kept plan rows row i c.args.self.now.active.items like.job active (λ y is. passes_by plan rows row (core_of plan i) i y like.job (job_on_core plan rows row i next.start like.job) is (c.requires.first rows are) finished)

-- ---- the first of several
pub returns-clause-told : goal.returns-clause-told
returns-clause-told c = λ row rows like are next.
    let plan = c.args.plan.now in
    let tasks = c.args.self.now.tasks.items in
    let x = c.index_mut-task.result.now in
    let s = c.index_mut-tally.result.now in
    let told = row_told plan row c.args.job c.args.self.now c.requires.plan like.counts like.job in
    let of_task = task_read tasks c.args.job x told c.index_mut-task.ensures.value in
    let of_job = job_read tasks c.args.job x s told c.index_mut-task.ensures.value c.index_mut-tally.ensures.value in
    let n = c.blocked-blocked.result in
    let made = c.add.ensures ∙ (ap (λ t. counted_as t c.args.kind s.count) (sym like.tick) ∙ ap (λ k. counted_as row.tick k s.count) (sym like.kind)) in
    tallies_counted plan rows row c.args.self.now.begun tasks _ c.args.job x (record { jobs = with_item x.jobs c.args.job.k (record { count = c.add.new.self; blocking = Over n }); units = x.units; released = x.released }) s n c.requires.plan like.job next are of_task refl
    (record {
      was = of_job;
      jobs_set = ap (λ (y : JobCount). slice_set x.jobs.items c.args.job.k (record { count = y; blocking = Over n })) made;
      units = refl;
      released = refl;
    })
    (c.blocked-blocked.ensures plan rows (λ _. c.args.self.now.begun) c.requires.plan are (row_in plan rows row c.args.job next.start like.job))

pub returns-clause-releases : goal.returns-clause-releases
returns-clause-releases c = let t = c.requires.told in releases_kept c.args.plan.now _ _ c.args.job _ _ (row_told c.args.plan.now t.0 c.args.job c.args.self.now c.requires.plan t.1.counts t.1.job) c.index_mut-task.ensures.value refl

pub returns-clause-active : goal.returns-clause-active
returns-clause-active c = λ row rows like are active next.
    let plan = c.args.plan.now in
    let tasks = c.args.self.now.tasks.items in
    let i = c.args.job in
    let x = c.index_mut-task.result.now in
    let s = c.index_mut-tally.result.now in
    let new = c.add.new.self in
    let own = c.index_mut.result.now in
    let told = row_told plan row i c.args.self.now c.requires.plan like.counts like.job in
    let of_task = task_read tasks i x told c.index_mut-task.ensures.value in
    let of_job = job_read tasks i x s told c.index_mut-task.ensures.value c.index_mut-tally.ensures.value in
    let made = c.add.ensures ∙ (ap (λ t. counted_as t c.args.kind s.count) (sym like.tick) ∙ ap (λ k. counted_as row.tick k s.count) (sym like.kind)) in
    let there = row_in plan rows row i next.start like.job in
    let was = core_read plan rows i c.args.self.now.active.items c.core_of-core.result.0 own c.requires.plan there active c.core_of-core.ensures c.index_mut.ensures.value in
    let left = row_last plan rows row i (λ _. c.args.self.now.begun) tasks x s new false are of_task of_job like.job made (false_from_ne_true (new.done == x.units) (λ e. c.if-tally-task.false (eqb-true new.done x.units e))) in
    cores_set plan rows row i c.args.self.now.active.items c.core_of-core.result.0 own c.start.new.self like.job active c.core_of-core.ensures was
    (begins plan rows row i own c.start.new.self c.requires.plan next.start like.job (job_on_core plan rows row i next.start like.job) (active.each (core_of plan i) own was) (c.requires.first rows are) left c.start.ensures.jobs c.start.ensures.room)
