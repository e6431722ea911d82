use Rattle.msrp_plan.proofs.Common.{arith}
use Rattle.msrp_board.proofs.TicketSteps.{leaves_allowed}
use Rattle.msrp_board.proofs.steps.leave.Goals as goal

pub fetch_add-requires : goal.fetch_add-requires
fetch_add-requires c = let r = c.requires.holding.1 in (c.requires.table, omega (arith, c.requires.res.0, c.requires.res.1), leaves_allowed _ _ _ _ _ r.at.core c.requires.holding.0 r.at.page c.requires.res.0 r.at.has r.at.admitted r.quiet r.claims)
