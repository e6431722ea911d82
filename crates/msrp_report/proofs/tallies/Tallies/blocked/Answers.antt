use Rattle.msrp_plan.proofs.Common.{ap, arith}
use Rattle.msrp_report.proofs.Common.{JobCount}
use Rattle.msrp_report.proofs.JobTallies.{over_told, blocker_told}
use Rattle.msrp_report.proofs.tallies.Tallies.blocked.Goals as goal

pub count_of-requires : goal.count_of-requires
count_of-requires c =
    let t = c.requires in
    let b = blocker_told t.plan t.rows t.begun c.args.self.now.tasks.items c.args.job c.in-By.other c.tally_of.result c.in-By.before t.accepted t.tallies t.known c.tally_of.ensures c.in-By.is in
    record { plan = t.plan; rows = t.rows; begun = t.begun; accepted = t.accepted; tallies = t.tallies; known = b.0 }

pub overflow_sub-result : goal.overflow_sub-result
overflow_sub-result c =
    let t = c.requires in
    let b = blocker_told t.plan t.rows t.begun c.args.self.now.tasks.items c.args.job c.in-By.other c.tally_of.result c.in-By.before t.accepted t.tallies t.known c.tally_of.ensures c.in-By.is in
    let e = ap (λ (x : JobCount). x.rows) (c.count_of.ensures t.plan t.rows t.begun t.tallies) in
    let sum = b.1 in
    omega (arith, e, sum)

pub returns-in-Over : goal.returns-in-Over
returns-in-Over c = λ plan rows begun ok are there. over_told plan rows begun c.args.self.now.tasks.items c.args.job c.tally_of.result c.in-Over.rows are c.tally_of.ensures c.in-Over.is

pub returns-in-By : goal.returns-in-By
returns-in-By c = λ plan rows begun ok are there.
    let b = blocker_told plan rows begun c.args.self.now.tasks.items c.args.job c.in-By.other c.tally_of.result c.in-By.before ok are there c.tally_of.ensures c.in-By.is in
    let e = ap (λ (x : JobCount). x.rows) (c.count_of.ensures plan rows begun are) in
    let sum = b.1 in
    omega (arith, e, sum)
