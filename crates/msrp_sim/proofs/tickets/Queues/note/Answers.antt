use Rattle.msrp_plan.proofs.Common.{arith}
use Rattle.msrp_sim.proofs.Serving.{notes_ask, notes_leave, notes_poll}
use Rattle.msrp_sim.proofs.tickets.Queues.note.Goals as goal

pub returns-in-Ask : goal.returns-in-Ask
returns-in-Ask c = notes_ask c.args.call c.in-Ask.field-0 c.args.self.now c.in-Ask.is (let n = c.requires.resource in omega (arith, n)) (let n = c.requires.core in omega (arith, n))

pub returns-in-Poll : goal.returns-in-Poll
returns-in-Poll c = notes_poll c.args.call c.in-Poll.field-0 c.args.self.now c.in-Poll.is

pub returns-in-Leave : goal.returns-in-Leave
returns-in-Leave c = notes_leave c.args.call c.args.self.now c.in-Leave.is (let n = c.requires.resource in omega (arith, n))
