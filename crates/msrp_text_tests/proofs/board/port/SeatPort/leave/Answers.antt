use Rattle.msrp_plan.specs.declared.units.Phase.TheVariants.{Holding}
use Rattle.msrp_board.proofs.SeatPortLemmas.{port_acts, port_adds}
use Rattle.msrp_text_tests.proofs.board.port.SeatPort.leave.Goals as goal

pub leave-requires-clause-holding : goal.leave-requires-clause-holding
leave-requires-clause-holding c = (c.args.res, port_acts _ _ _ _ (Holding c.args.res) c.requires.port c.requires.room c.requires.holding)

pub returns-clause-call : goal.returns-clause-call
returns-clause-call c = (port_adds _ _ _ _ _ _ _ _ c.requires.port c.requires.room (c.leave.ensures.entry c.args.res (port_acts _ _ _ _ (Holding c.args.res) c.requires.port c.requires.room c.requires.holding))).0

pub returns-clause-port : goal.returns-clause-port
returns-clause-port c = (port_adds _ _ _ _ _ _ _ _ c.requires.port c.requires.room (c.leave.ensures.entry c.args.res (port_acts _ _ _ _ (Holding c.args.res) c.requires.port c.requires.room c.requires.holding))).1
