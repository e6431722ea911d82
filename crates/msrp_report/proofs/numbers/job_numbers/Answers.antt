use Rattle.std.proofs.Common.{◌≡◌, ◌+◌, ◌-◌, ◌==◌, ◌∙◌}
use Rattle.msrp_plan.proofs.Common.{cond, nat_lt, nat_le, ap, arith, key, release, done, is_finished}
use Rattle.msrp_plan.specs.declared.ids.JobKey.{JobKey}
use Rattle.msrp_report.proofs.Common.{JobCount, last_tick, numbers_of}
use Rattle.msrp_report.proofs.JobCounts.{done_is, last_is, spins_is, longest_is}
use Rattle.msrp_report.proofs.JobTallies.{blocked_few, job_known, last_few, same_numbers, spins_few}
use Rattle.msrp_report.proofs.numbers.job_numbers.Goals as goal

pub count_of-count-requires : goal.count_of-count-requires
count_of-count-requires c = let t = c.requires.told in record { plan = c.args.plan.now; rows = t.0; begun = λ _. c.args.tallies.now.begun; accepted = c.requires.plan; tallies = t.1.tallies; known = c.requires.job }

pub units-requires : goal.units-requires
units-requires c = (job_known c.args.plan.now c.args.job c.requires.job).task

pub job_key-key-requires-clause-task : goal.job_key-key-requires-clause-task
job_key-key-requires-clause-task c = (job_known c.args.plan.now c.args.job c.requires.job).task

pub job_key-key-requires-clause-released : goal.job_key-key-requires-clause-released
job_key-key-requires-clause-released c = (job_known c.args.plan.now c.args.job c.requires.job).released

pub response_of-requires : goal.response_of-requires
response_of-requires c =
    let t = c.requires.told in
    let count = c.count_of-count.ensures c.args.plan.now t.0 (λ _. c.args.tallies.now.begun) t.1.tallies in
    let last = last_few c.args.plan.now t.0 c.args.job c.args.tallies.now c.count_of-count.result c.requires.plan t.1 count in
    let end = c.from-end.ensures in
    omega (arith, last, end)

pub returns-clause-numbers : goal.returns-clause-numbers
returns-clause-numbers c = λ rows told.
    let plan = c.args.plan.now in
    let j = c.args.job in
    let count = c.count_of-count.ensures plan rows (λ _. c.args.tallies.now.begun) told.tallies in
    let did : c.count_of-count.result.done ≡ done j rows = ap (λ (x : JobCount). x.done) count ∙ done_is rows j in
    let last : c.from-end.result ≡ last_tick j rows = c.from-end.ensures ∙ (ap (λ (x : JobCount). x.last_tick) count ∙ last_is rows j) in
    let finished : (c.count_of-count.result.done == c.units.result) ≡ is_finished plan rows j = ap (λ d. d == c.units.result) did ∙ ap (λ n. done j rows == n) c.units.ensures in
    let due = ap (λ (k : JobKey). k.deadline) c.job_key-key.ensures in
    let released = ap (λ (k : JobKey). k.release) c.job_key-key.ensures in
    same_numbers _ (numbers_of plan rows j)
    finished
    (c.is_late.ensures
    ∙ (ap (λ b. cond b (nat_lt c.job_key-key.result.deadline (c.from-end.result + 1)) (nat_le c.job_key-key.result.deadline c.ticks.result)) finished
    ∙ (ap (λ d. cond (is_finished plan rows j) (nat_lt d (c.from-end.result + 1)) (nat_le d c.ticks.result)) due
    ∙ (ap (λ l. cond (is_finished plan rows j) (nat_lt (key plan j).deadline (l + 1)) (nat_le (key plan j).deadline c.ticks.result)) last
    ∙ ap (λ h. cond (is_finished plan rows j) (nat_lt (key plan j).deadline (last_tick j rows + 1)) (nat_le (key plan j).deadline h)) c.ticks.ensures.value))))
    (c.response_of.ensures
    ∙ (ap (λ b. cond b ((c.from-end.result + 1) - c.job_key-key.result.release) 0) finished
    ∙ (ap (λ d. cond (is_finished plan rows j) ((c.from-end.result + 1) - d) 0) released
    ∙ ap (λ l. cond (is_finished plan rows j) ((l + 1) - release plan j) 0) last)))
    (ap (λ (x : JobCount). x.spins) count ∙ spins_is rows j)
    (ap (λ (x : JobCount). x.longest_wait) count ∙ longest_is rows j)
    (c.blocked.ensures plan rows (λ _. c.args.tallies.now.begun) c.requires.plan told.tallies c.requires.job)

pub returns-clause-spins : goal.returns-clause-spins
returns-clause-spins c =
    let t = c.requires.told in
    let few = spins_few c.args.plan.now t.0 c.args.job c.count_of-count.result c.requires.plan t.1.tallies.start (c.count_of-count.ensures c.args.plan.now t.0 (λ _. c.args.tallies.now.begun) t.1.tallies) in
    few

pub returns-clause-blocked : goal.returns-clause-blocked
returns-clause-blocked c =
    let t = c.requires.told in
    let few = blocked_few c.args.plan.now t.0 c.args.job c.requires.plan t.1.tallies.start in
    let e = c.blocked.ensures c.args.plan.now t.0 (λ _. c.args.tallies.now.begun) c.requires.plan t.1.tallies c.requires.job in
    omega (arith, few, e)
