use Rattle.msrp_plan.proofs.Common.{arith}
use Rattle.msrp_board.proofs.TicketSteps.{asks_allowed}
use Rattle.msrp_board.proofs.steps.ask.Goals as goal

pub fetch_add-requires : goal.fetch_add-requires
fetch_add-requires c = let r = c.requires.free in (c.requires.table, omega (arith, c.requires.res.0, c.requires.res.1), asks_allowed _ _ _ _ _ r.at.core r.at.page c.requires.res.0 r.at.has r.at.admitted r.quiet r.claims)
