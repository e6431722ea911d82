use Rattle.msrp_plan.proofs.Common.{arith}
use Rattle.msrp_board.proofs.TicketSteps.{polls_allowed}
use Rattle.msrp_board.proofs.Entering.{poll_entered}
use Rattle.msrp_board.proofs.steps.poll.Goals as goal

pub load-requires : goal.load-requires
load-requires c = let r = c.requires.queued in (c.requires.table, omega (arith, c.requires.res.0, c.requires.res.1), polls_allowed _ _ _ _ _ r.at.core c.args.ticket r.at.page c.requires.res.0 r.at.has r.at.admitted r.quiet r.claims)

pub returns-clause-polled : goal.returns-clause-polled
returns-clause-polled c = poll_entered c.args.words.now.table_id.slots c.args.res 0 c.args.ticket c.args.seat.now.me _ _ _ c.of.ensures c.requires.queued c.load.ensures.2
