use Rattle.std.proofs.Common.{◌≡◌, ◌∙◌}
use Rattle.msrp_plan.proofs.Common.{rules, subst, ap}
use Rattle.msrp_run.proofs.Common.{CoreId, IsPromise, SeatModel}
use Rattle.msrp_run.proofs.Threading.{rest_with}
use Rattle.msrp_run.proofs.threads.start.Goals as goal

pub returns-in-Err-clause-refused : goal.returns-in-Err-clause-refused
returns-in-Err-clause-refused g c =
    let given = c.of-given.ensures in
    let is : IsPromise c.args.board.now c.args.plan.now c.args.core.0 c.of-given.result = record { core = ap (λ (k : CoreId). k.0) given.0; on = ap (λ (s : SeatModel). s.board) given.1 ∙ c.requires.new.on; plan_is = given.2 } in
    let same : c.of-given.result ≡ c.in-Err.refused.value.1 = search rules in
    rest_with _ _ _ c.in-Err.refused.value.1 c.work-seat.result.0 c.work-seat.result.1 c.args.others c.abort.new.seat c.join.result c.requires.others c.abort.ensures (subst (IsPromise c.args.board.now c.args.plan.now c.args.core.0) same is) c.work-seat.ensures c.join.ensures.both
