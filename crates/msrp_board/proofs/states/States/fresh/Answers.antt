use Rattle.std.proofs.Common.{◌==◌, ◌≡◌, ◌+◌, if◌then◌else◌}
use Rattle.msrp_plan.proofs.Common.{Some, replicate, sym, subst, arith}
use Rattle.msrp_board.proofs.Common.{Kept, empty_page, kept_of, padded_value, state_at}
use Rattle.msrp_board.proofs.Start.{fresh_step}
use Rattle.msrp_board.proofs.states.States.fresh.Goals as goal

pub loop-core-preserved : goal.loop-core-preserved
loop-core-preserved c d =
    let next = c.loop-core.core + 1 in
    subst (λ (k : Kept). (if k.core.0 == d then Some (padded_value k.state) else kept_of k.more d) ≡ state_at (replicate next (Some empty_page)) d) (sym c.in_ok-new.ensures.ok) (subst (λ x. (if c.loop-core.core == d then Some x else kept_of c.loop-core.states d) ≡ state_at (replicate next (Some empty_page)) d) (sym c.new.ensures) (fresh_step c.loop-core.states c.loop-core.core next d (omega arith) c.loop-core.invariant))
