use Rattle.msrp_plan.proofs.Common.{length, refl, arith, slice_get_read}
use Rattle.msrp_report.proofs.JobTallies.{task_read, told_task, told_number}
use Rattle.msrp_report.proofs.tallies.Tallies.tally_of.Goals as goal

pub index-requires : goal.index-requires
index-requires c = let l = told_task c.args.self.now.tasks.items c.args.job c.requires in let n = c.args.self.now.tasks.ok.0 in omega (arith, l, n)

pub index-requires-2 : goal.index-requires-2
index-requires-2 c =
    let l = told_number c.args.self.now.tasks.items c.args.job c.index.result.now c.requires (task_read c.args.self.now.tasks.items c.args.job c.index.result.now c.requires c.index.ensures) in
    let n = c.index.result.now.jobs.ok.0 in
    omega (arith, l, n)

pub returns : goal.returns
returns c =
    let at = task_read c.args.self.now.tasks.items c.args.job c.index.result.now c.requires c.index.ensures in
    record {
      task = c.index.result.now;
      of_task = at;
      of_job = slice_get_read c.index.result.now.jobs.items (length c.index.result.now.jobs.items) c.args.job.k c.index-2.result.now refl (told_number c.args.self.now.tasks.items c.args.job c.index.result.now c.requires at) c.index-2.ensures;
    }
