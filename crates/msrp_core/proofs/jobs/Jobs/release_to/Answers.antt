use Rattle.std.proofs.Common.{◌∙◌}
use Rattle.msrp_plan.proofs.Common.{refl, sym}
use Rattle.msrp_core.proofs.Running.{core_before, released_fits, rising_stays}
use Rattle.msrp_core.proofs.jobs.Jobs.release_to.Goals as goal

pub next_rising-self-requires : goal.next_rising-self-requires
next_rising-self-requires c = core_before (record c.args.self.now { ready = c.release_to.new.self }) _ (released_fits c.args.self.now c.args.tick c.release_to.new.self _ c.requires.jobs c.release_to.ensures.tick refl)

pub returns-else-has_release_by-clause-jobs : goal.returns-else-has_release_by-clause-jobs
returns-else-has_release_by-clause-jobs c =
    let jobs = c.args.self.now in
    let m = c.release_to-else-has_release_by.new.self in
    let is = c.release_to-else-has_release_by.ensures.tick in
    released_fits jobs c.args.tick m jobs.rising c.requires.jobs is (rising_stays jobs c.args.tick m c.requires.jobs c.requires.tick (sym c.has_release_by.ensures ∙ c.if-has_release_by.false) is)
