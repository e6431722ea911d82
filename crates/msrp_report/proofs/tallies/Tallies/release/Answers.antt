use Rattle.std.proofs.Common.{◌≡◌, ◌+◌, ◌∙◌}
use Rattle.msrp_plan.proofs.Common.{List, length, slice_set, refl, ap, subst, sym, arith, same_Some, slice_get_read, IsNonDecreasingBy, IsPermutation, with_item, first_later, job_at}
use Rattle.std.proofs.lemmas.List.{with_items_is}
use Rattle.std.specs.Vec.{with_items}
use Rattle.msrp_plan.specs.declared.rows.Row.{Row as TraceRow}
use Rattle.msrp_report.proofs.Common.{Blocking, HasReleased, IsTaskTally, NextRelease, TaskTally, job_in}
use Rattle.msrp_report.proofs.LineJobs.{jobs_few}
use Rattle.msrp_report.proofs.Releases.{one_less, tick_of}
use Rattle.msrp_report.proofs.TallySteps.{IsFirst, first_is, first_job, first_released, task_released}
use Rattle.msrp_report.proofs.tallies.Tallies.release.Goals as goal

pub index-requires-2 : goal.index-requires-2
index-requires-2 c =
    let t = c.requires.told in
    let first = first_is c.args.plan.now t.0 c.args.self.now c.index.result.now t.1 c.requires.due c.index.ensures in
    let within = first.within in
    let len = c.args.self.now.tasks.ok.0 in
    omega (arith, within, len)

pub blocking_of-blocking-requires-clause-job : goal.blocking_of-blocking-requires-clause-job
blocking_of-blocking-requires-clause-job c =
    let plan = c.args.plan.now in
    let t = c.requires.told in
    let r = c.index.result.now in
    let x = c.index-2.result.now in
    let first = first_is plan t.0 c.args.self.now r t.1 c.requires.due c.index.ensures in
    job_in plan r.task.0 x.released c.requires.plan first.task (first_job plan t.0 c.args.self.now r x first c.index-2.ensures c.requires.left)

pub index_mut-tally-requires : goal.index_mut-tally-requires
index_mut-tally-requires c =
    let t = c.requires.told in
    let first = first_is c.args.plan.now t.0 c.args.self.now c.index.result.now t.1 c.requires.due c.index.ensures in
    let within = first.within in
    let len = c.args.self.now.tasks.ok.0 in
    omega (arith, within, len)

pub index_mut-requires : goal.index_mut-requires
index_mut-requires c =
    let t = c.requires.told in
    let r = c.index.result.now in
    let z = c.index_mut-tally.result.now in
    let first = first_is c.args.plan.now t.0 c.args.self.now r t.1 c.requires.due c.index.ensures in
    let left = first_job c.args.plan.now t.0 c.args.self.now r c.index-2.result.now first c.index-2.ensures c.requires.left in
    let size = (first.told z c.index_mut-tally.ensures.value).size in
    let len = z.jobs.ok.0 in
    omega (arith, left, size, len)

pub overflow_add-tally : goal.overflow_add-tally
overflow_add-tally c =
    let plan = c.args.plan.now in
    let t = c.requires.told in
    let r = c.index.result.now in
    let first = first_is plan t.0 c.args.self.now r t.1 c.requires.due c.index.ensures in
    let left = first_job plan t.0 c.args.self.now r c.index-2.result.now first c.index-2.ensures c.requires.left in
    let few = jobs_few plan r.task.0 in
    let ticks = c.requires.plan.draft.ticks in
    omega (arith, left, few, ticks)

pub release_or_end-tick-requires-clause-task : goal.release_or_end-tick-requires-clause-task
release_or_end-tick-requires-clause-task c = let t = c.requires.told in (first_is c.args.plan.now t.0 c.args.self.now c.index.result.now t.1 c.requires.due c.index.ensures).task

pub release_or_end-tick-requires-clause-jobs : goal.release_or_end-tick-requires-clause-jobs
release_or_end-tick-requires-clause-jobs c =
    let t = c.requires.told in
    let z = c.index_mut-tally.result.now in
    let first = first_is c.args.plan.now t.0 c.args.self.now c.index.result.now t.1 c.requires.due c.index.ensures in
    let size = (first.told z c.index_mut-tally.ensures.value).size in
    let len = c.len.ensures in
    let held = z.jobs.ok.0 in
    omega (arith, len, held, size)

pub returns : goal.returns
returns c =
    let plan = c.args.plan.now in
    let old = c.args.self.now in
    let r = c.index.result.now in
    let n = r.task.0 in
    let x = c.index-2.result.now in
    let z = c.index_mut-tally.result.now in
    let k = x.released in
    let s = c.index_mut.result.now in
    let b = c.blocking_of-blocking.result in
    let read = c.index_mut-tally.ensures.value in
    let new : TaskTally = record { jobs = with_item z.jobs k (record { count = s.count; blocking = b }); units = z.units; released = k + 1 } in
    let first : (rows : List TraceRow) → HasReleased plan rows old → IsFirst plan rows old r = λ rows h. first_is plan rows old r h c.requires.due c.index.ensures in
    let told : (rows : List TraceRow) → HasReleased plan rows old → IsTaskTally plan rows (old.begun + 1) n new = λ rows h.
    let f = first rows h in
    let is = f.told z read in
    let number : k ≡ z.released = ap (λ (y : TaskTally). y.released) (same_Some x z (sym (f.at x c.index-2.ensures) ∙ f.at z read)) in
    let left = first_job plan rows old r z f read c.requires.left in
    let size = is.size in
    let was = slice_get_read z.jobs.items (length z.jobs.items) k s refl (omega (arith, left, size, number)) c.index_mut.ensures.value in
    let blocks = c.blocking_of-blocking.ensures rows h.begun h.tallies h.active in
    task_released plan rows old.begun n z new k s (first_later plan rows (job_at n k)) c.requires.plan f.task is (f.due z read) c.requires.left h.early refl
    (record { was = was; number = number; jobs_set = ap (λ (y : Blocking). slice_set z.jobs.items k (record { count = s.count; blocking = y })) blocks; units = refl; next = refl }) in
    let next : NextRelease = record { tick = c.release_or_end-tick.result; task = r.task } in
    let after = (with_items old.releases c.put_back.new.releases).items in
    let held : after ≡ c.put_back.new.releases = with_items_is old.releases c.put_back.new.releases (c.put_back.auto.releases ∙ (ap length c.deref_mut.ensures.value ∙ sym old.releases.ok.0)) in
    let same = subst (λ l. IsPermutation (slice_set l 0 next) after) c.deref_mut.ensures.value (subst (IsPermutation (slice_set c.deref_mut.result.now 0 next)) (sym held) c.put_back.ensures.same) in
    record {
      begun = refl;
      fewer =
          let t = c.requires.told in
          let later = (told t.0 t.1).later in
          let tick = c.release_or_end-tick.ensures in
          one_less old.begun old.releases.items next after c.requires.due (omega (arith, later, tick)) same;
      told = λ rows h. first_released plan rows old _ r z new next.tick h c.requires.due c.index.ensures ((first rows h).at z read) (told rows h) c.release_or_end-tick.ensures same (subst (IsNonDecreasingBy tick_of) (sym held) c.put_back.ensures.rising) refl refl refl;
    }
