use Rattle.std.proofs.Common.{◌∙◌}
use Rattle.msrp_plan.proofs.Common.{ap, sym, arith, core_of}
use Rattle.msrp_report.proofs.Common.{By, JobCount, blocking_by}
use Rattle.msrp_report.proofs.Active.{all_known, later_known}
use Rattle.msrp_report.proofs.ActiveRows.{core_read, core_within}
use Rattle.msrp_report.proofs.JobTallies.{job_known}
use Rattle.msrp_report.proofs.tallies.Tallies.blocking_of.Goals as goal

pub core_of-core-requires : goal.core_of-core-requires
core_of-core-requires c = (job_known c.args.plan.now c.args.job c.requires.job).task

pub index-requires : goal.index-requires
index-requires c =
    let within = core_within c.args.plan.now c.requires.told.rows c.args.job c.args.self.now.active.items c.requires.plan c.requires.job c.requires.told.active in
    let core = c.core_of-core.ensures in
    let len = c.args.self.now.active.ok.0 in
    omega (arith, within, core, len)

pub first_later-requires-clause-known : goal.first_later-requires-clause-known
first_later-requires-clause-known c =
    let plan = c.args.plan.now in
    let j = c.args.job in
    let t = c.requires.told in
    let x = c.index.result.now in
    all_known plan (core_of plan j) x.jobs.items (t.active.each (core_of plan j) x (core_read plan t.rows j c.args.self.now.active.items c.core_of-core.result.0 x c.requires.plan c.requires.job t.active c.core_of-core.ensures c.index.ensures)).known

pub first_later-requires-clause-job : goal.first_later-requires-clause-job
first_later-requires-clause-job c = job_known c.args.plan.now c.args.job c.requires.job

pub count_of-requires : goal.count_of-requires
count_of-requires c =
    let plan = c.args.plan.now in
    let j = c.args.job in
    let t = c.requires.told in
    let x = c.index.result.now in
    let active = t.active.each (core_of plan j) x (core_read plan t.rows j c.args.self.now.active.items c.core_of-core.result.0 x c.requires.plan c.requires.job t.active c.core_of-core.ensures c.index.ensures) in
    record { plan = plan; rows = t.rows; begun = t.begun; accepted = c.requires.plan; tallies = t.tallies; known = later_known plan t.rows j c.in-Some.other (sym (c.first_later.ensures t.rows active) ∙ c.in-Some.is) }

pub returns-in-None : goal.returns-in-None
returns-in-None c = λ rows begun are active.
    let plan = c.args.plan.now in
    let j = c.args.job in
    let x = c.index.result.now in
    let here = active.each (core_of plan j) x (core_read plan rows j c.args.self.now.active.items c.core_of-core.result.0 x c.requires.plan c.requires.job active c.core_of-core.ensures c.index.ensures) in
    ap (blocking_by rows) (sym c.in-None.is ∙ c.first_later.ensures rows here)

pub returns-in-Some : goal.returns-in-Some
returns-in-Some c = λ rows begun are active.
    let plan = c.args.plan.now in
    let j = c.args.job in
    let x = c.index.result.now in
    let here = active.each (core_of plan j) x (core_read plan rows j c.args.self.now.active.items c.core_of-core.result.0 x c.requires.plan c.requires.job active c.core_of-core.ensures c.index.ensures) in
    ap (λ (y : JobCount). By c.in-Some.other y.rows) (c.count_of.ensures plan rows begun are) ∙ ap (blocking_by rows) (sym c.in-Some.is ∙ c.first_later.ensures rows here)
