use Rattle.msrp_plan.proofs.Common.{refl}
use Rattle.msrp_run.proofs.Common.{with_admission}
use Rattle.msrp_run.proofs.Working.{has_arrived, goes_on, has_done}
use Rattle.msrp_run.proofs.work.finish.Goals as goal

pub arrive-requires-clause-board : goal.arrive-requires-clause-board
arrive-requires-clause-board c = c.requires.turned.on

pub arrive-requires-clause-admitted : goal.arrive-requires-clause-admitted
arrive-requires-clause-admitted c = record { core = c.requires.before.machine.core; book = c.requires.turned.book; of_core = c.requires.turned.of_core; stands = c.requires.turned.admitted }

pub phase-requires : goal.phase-requires
phase-requires c =
    let q = c.requires in
    let a = has_arrived _ _ _ q.before.machine c.args._machine.now q.before.log c.args._log.now q.before.seat (with_admission q.before.seat) c.args.seat c.arrive.new.seat q.row q.at_work refl q.turned c.arrive.ensures in
    (c.args._machine.now.core, a.book, a.of_core)

pub returns-in-Done-clause-ended : goal.returns-in-Done-clause-ended
returns-in-Done-clause-ended c _ =
    let q = c.requires in
    let a = has_arrived _ _ _ q.before.machine c.args._machine.now q.before.log c.args._log.now q.before.seat (with_admission q.before.seat) c.args.seat c.arrive.new.seat q.row q.at_work refl q.turned c.arrive.ensures in
    has_done _ _ _ c.args._machine.now c.args._log.now c.arrive.new.seat c.phase.result a c.phase.ensures.value c.phase.ensures.seat c.in-Done.is

pub returns-in_default-clause-turned : goal.returns-in_default-clause-turned
returns-in_default-clause-turned c _ =
    let q = c.requires in
    let a = has_arrived _ _ _ q.before.machine c.args._machine.now q.before.log c.args._log.now q.before.seat (with_admission q.before.seat) c.args.seat c.arrive.new.seat q.row q.at_work refl q.turned c.arrive.ensures in
    goes_on _ _ _ c.args._machine.now c.args._log.now c.arrive.new.seat c.phase.result a c.phase.ensures.value c.in_default.not-Done
