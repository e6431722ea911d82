use Rattle.std.proofs.Common.{◌==◌, ◌∙◌}
use Rattle.msrp_plan.proofs.Common.{true, false, not, slice_set, refl, ap, arith, eq-eqb, eqb-true, false_from_ne_true, with_item, core_of}
use Rattle.msrp_report.proofs.Common.{JobCount}
use Rattle.msrp_report.proofs.ActiveRows.{core_read, core_within, cores_kept, cores_set, ends, goes_on}
use Rattle.msrp_report.proofs.JobTallies.{job_known, job_read, room_read, task_read, told_number, told_task}
use Rattle.msrp_report.proofs.Releases.{releases_kept}
use Rattle.msrp_report.proofs.RowSteps.{job_on_core, row_in, row_last, row_told, tallies_grown}
use Rattle.msrp_report.proofs.tallies.Tallies.count.Goals as goal

pub is_unstarted-requires : goal.is_unstarted-requires
is_unstarted-requires c = row_told c.args.plan.now c.args.row c.args.job c.args.self.now c.requires.plan c.requires.told c.requires.job

pub index_mut-task-requires : goal.index_mut-task-requires
index_mut-task-requires c = omega (arith, told_task c.args.self.now.tasks.items c.args.job (row_told c.args.plan.now c.args.row c.args.job c.args.self.now c.requires.plan c.requires.told c.requires.job))

pub index_mut-tally-requires : goal.index_mut-tally-requires
index_mut-tally-requires c =
    let told = row_told c.args.plan.now c.args.row c.args.job c.args.self.now c.requires.plan c.requires.told c.requires.job in
    omega (arith, told_number c.args.self.now.tasks.items c.args.job c.index_mut-task.result.now told (task_read c.args.self.now.tasks.items c.args.job c.index_mut-task.result.now told c.index_mut-task.ensures.value))

pub add-requires : goal.add-requires
add-requires c = room_read c.args.self.now.tasks.items c.args.job c.index_mut-task.result.now c.index_mut-tally.result.now (row_told c.args.plan.now c.args.row c.args.job c.args.self.now c.requires.plan c.requires.told c.requires.job) c.index_mut-task.ensures.value c.index_mut-tally.ensures.value

pub core_of-core-requires : goal.core_of-core-requires
core_of-core-requires c = let t = c.requires.told in (job_known c.args.plan.now c.args.job (row_in c.args.plan.now t.0 c.args.row c.args.job t.2.start c.requires.job)).task

pub index_mut-requires : goal.index_mut-requires
index_mut-requires c =
    let plan = c.args.plan.now in
    let t = c.requires.told in
    let within = core_within plan t.0 c.args.job c.args.self.now.active.items c.requires.plan (row_in plan t.0 c.args.row c.args.job t.2.start c.requires.job) t.3 in
    let core = c.core_of-core.ensures in
    let len = c.args.self.now.active.ok.0 in
    omega (arith, within, core, len)

-- ---- a row of a job that goes on
pub returns-then-tally-task-clause-told : goal.returns-then-tally-task-clause-told
returns-then-tally-task-clause-told c = λ rows are next.
    let plan = c.args.plan.now in
    let tasks = c.args.self.now.tasks.items in
    let x = c.index_mut-task.result.now in
    let s = c.index_mut-tally.result.now in
    let told = row_told plan c.args.row c.args.job c.args.self.now c.requires.plan c.requires.told c.requires.job in
    let of_task = task_read tasks c.args.job x told c.index_mut-task.ensures.value in
    let of_job = job_read tasks c.args.job x s told c.index_mut-task.ensures.value c.index_mut-tally.ensures.value in
    let started = c.is_unstarted.ensures plan rows (λ _. c.args.self.now.begun) are ∙ ap not c.if-is_unstarted.false in
    tallies_grown plan rows c.args.row c.args.self.now.begun tasks _ c.args.job x (record { jobs = with_item x.jobs c.args.job.k (record { count = c.add.new.self; blocking = s.blocking }); units = x.units; released = x.released }) s c.requires.plan c.requires.job next are of_task refl started
    (record {
      was = of_job;
      jobs_set = ap (λ (y : JobCount). slice_set x.jobs.items c.args.job.k (record { count = y; blocking = s.blocking })) c.add.ensures;
      units = refl;
      released = refl;
    })

pub returns-then-tally-task-clause-releases : goal.returns-then-tally-task-clause-releases
returns-then-tally-task-clause-releases c = releases_kept c.args.plan.now _ _ c.args.job _ _ (row_told c.args.plan.now c.args.row c.args.job c.args.self.now c.requires.plan c.requires.told c.requires.job) c.index_mut-task.ensures.value refl

pub returns-then-tally-task-clause-active : goal.returns-then-tally-task-clause-active
returns-then-tally-task-clause-active c = λ rows are active next.
    let plan = c.args.plan.now in
    let tasks = c.args.self.now.tasks.items in
    let i = c.args.job in
    let x = c.index_mut-task.result.now in
    let s = c.index_mut-tally.result.now in
    let new = c.add.new.self in
    let told = row_told plan c.args.row i c.args.self.now c.requires.plan c.requires.told c.requires.job in
    let of_task = task_read tasks i x told c.index_mut-task.ensures.value in
    let of_job = job_read tasks i x s told c.index_mut-task.ensures.value c.index_mut-tally.ensures.value in
    let started = c.is_unstarted.ensures plan rows (λ _. c.args.self.now.begun) are ∙ ap not c.if-is_unstarted.false in
    let left = row_last plan rows c.args.row i (λ _. c.args.self.now.begun) tasks x s new false are of_task of_job c.requires.job c.add.ensures (false_from_ne_true (new.done == x.units) (λ e. c.if-tally-task.true (eqb-true new.done x.units e))) in
    cores_kept plan rows c.args.row i c.args.self.now.active.items c.requires.job active (λ y is. goes_on plan rows c.args.row (core_of plan i) i y next.start c.requires.job (job_on_core plan rows c.args.row i next.start c.requires.job) is started left)

-- ---- the last row of a job
pub returns-clause-told : goal.returns-clause-told
returns-clause-told c = λ rows are next.
    let plan = c.args.plan.now in
    let tasks = c.args.self.now.tasks.items in
    let x = c.index_mut-task.result.now in
    let s = c.index_mut-tally.result.now in
    let told = row_told plan c.args.row c.args.job c.args.self.now c.requires.plan c.requires.told c.requires.job in
    let of_task = task_read tasks c.args.job x told c.index_mut-task.ensures.value in
    let of_job = job_read tasks c.args.job x s told c.index_mut-task.ensures.value c.index_mut-tally.ensures.value in
    let started = c.is_unstarted.ensures plan rows (λ _. c.args.self.now.begun) are ∙ ap not c.if-is_unstarted.false in
    tallies_grown plan rows c.args.row c.args.self.now.begun tasks _ c.args.job x (record { jobs = with_item x.jobs c.args.job.k (record { count = c.add.new.self; blocking = s.blocking }); units = x.units; released = x.released }) s c.requires.plan c.requires.job next are of_task refl started
    (record {
      was = of_job;
      jobs_set = ap (λ (y : JobCount). slice_set x.jobs.items c.args.job.k (record { count = y; blocking = s.blocking })) c.add.ensures;
      units = refl;
      released = refl;
    })

pub returns-clause-releases : goal.returns-clause-releases
returns-clause-releases c = releases_kept c.args.plan.now _ _ c.args.job _ _ (row_told c.args.plan.now c.args.row c.args.job c.args.self.now c.requires.plan c.requires.told c.requires.job) c.index_mut-task.ensures.value refl

pub returns-clause-active : goal.returns-clause-active
returns-clause-active c = λ rows are active next.
    let plan = c.args.plan.now in
    let tasks = c.args.self.now.tasks.items in
    let i = c.args.job in
    let x = c.index_mut-task.result.now in
    let s = c.index_mut-tally.result.now in
    let new = c.add.new.self in
    let own = c.index_mut.result.now in
    let told = row_told plan c.args.row i c.args.self.now c.requires.plan c.requires.told c.requires.job in
    let of_task = task_read tasks i x told c.index_mut-task.ensures.value in
    let of_job = job_read tasks i x s told c.index_mut-task.ensures.value c.index_mut-tally.ensures.value in
    let there = row_in plan rows c.args.row i next.start c.requires.job in
    let was = core_read plan rows i c.args.self.now.active.items c.core_of-core.result.0 own c.requires.plan there active c.core_of-core.ensures c.index_mut.ensures.value in
    let finished = row_last plan rows c.args.row i (λ _. c.args.self.now.begun) tasks x s new true are of_task of_job c.requires.job c.add.ensures (eq-eqb new.done x.units c.if-tally-task.false) in
    cores_set plan rows c.args.row i c.args.self.now.active.items c.core_of-core.result.0 own c.finish.new.self c.requires.job active c.core_of-core.ensures was
    (ends plan rows c.args.row (core_of plan i) i own c.finish.new.self c.requires.job (active.each (core_of plan i) own was) finished c.finish.ensures.jobs c.finish.ensures.room)

-- ---- the first row of a job
pub count_first-requires-clause-told : goal.count_first-requires-clause-told
count_first-requires-clause-told c = (c.args.row, record { job = c.requires.job; tick = refl; kind = refl; counts = c.requires.told })

pub count_first-requires-clause-first : goal.count_first-requires-clause-first
count_first-requires-clause-first c = λ rows are. c.is_unstarted.ensures c.args.plan.now rows (λ _. c.args.self.now.begun) are ∙ ap not c.if-is_unstarted.true

pub returns-then-is_unstarted-clause-told : goal.returns-then-is_unstarted-clause-told
returns-then-is_unstarted-clause-told c = λ rows told next. c.count_first.ensures.told c.args.row rows (record { job = c.requires.job; tick = refl; kind = refl; counts = c.requires.told }) told next

pub returns-then-is_unstarted-clause-active : goal.returns-then-is_unstarted-clause-active
returns-then-is_unstarted-clause-active c = λ rows told active next. c.count_first.ensures.active c.args.row rows (record { job = c.requires.job; tick = refl; kind = refl; counts = c.requires.told }) told active next
