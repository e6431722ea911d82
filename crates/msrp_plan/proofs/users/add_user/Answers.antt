use Rattle.std.proofs.Common.{arith}
use Rattle.msrp_plan.proofs.Levels.CoreUsers.{user_more}
use Rattle.msrp_plan.proofs.users.add_user.Goals as goal

pub returns-then-place-lt-MOST_RESOURCES : goal.returns-then-place-lt-MOST_RESOURCES
returns-then-place-lt-MOST_RESOURCES c = λ on h.
    let room = c.told-users in
    user_more on c.args.users.now c.args.res.0 c.args.core.0 c.with.result (omega (arith, room, c.if-place-lt-MOST_RESOURCES.true)) (c.with.ensures (on c.args.res.0) (h c.args.res.0 c.if-place-lt-MOST_RESOURCES.true)) h
