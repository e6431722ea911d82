use Rattle.msrp_plan.specs.declared.units.Phase.TheVariants.{Free}
use Rattle.msrp_board.proofs.SeatPortLemmas.{port_acts, port_adds}
use Rattle.msrp_text_tests.proofs.board.port.SeatPort.ask.Goals as goal

pub ask-requires-clause-free : goal.ask-requires-clause-free
ask-requires-clause-free c = port_acts _ _ _ _ Free c.requires.port c.requires.room c.requires.free

pub returns-clause-call : goal.returns-clause-call
returns-clause-call c = (port_adds _ _ _ _ _ _ _ _ c.requires.port c.requires.room c.ask.ensures.entry).0

pub returns-clause-port : goal.returns-clause-port
returns-clause-port c = (port_adds _ _ _ _ _ _ _ _ c.requires.port c.requires.room c.ask.ensures.entry).1
