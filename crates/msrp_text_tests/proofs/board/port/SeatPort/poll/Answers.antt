use Rattle.msrp_plan.specs.declared.units.Phase.TheVariants.{Queued}
use Rattle.msrp_board.proofs.SeatPortLemmas.{port_acts, port_adds}
use Rattle.msrp_text_tests.proofs.board.port.SeatPort.poll.Goals as goal

pub poll-requires-clause-queued : goal.poll-requires-clause-queued
poll-requires-clause-queued c = (c.args.res, port_acts _ _ _ _ (Queued c.args.res) c.requires.port c.requires.room c.requires.queued)

pub returns-clause-call : goal.returns-clause-call
returns-clause-call c = (port_adds _ _ _ _ _ _ _ _ c.requires.port c.requires.room (c.poll.ensures.entry c.args.res (port_acts _ _ _ _ (Queued c.args.res) c.requires.port c.requires.room c.requires.queued))).0

pub returns-clause-port : goal.returns-clause-port
returns-clause-port c = (port_adds _ _ _ _ _ _ _ _ c.requires.port c.requires.room (c.poll.ensures.entry c.args.res (port_acts _ _ _ _ (Queued c.args.res) c.requires.port c.requires.room c.requires.queued))).1
