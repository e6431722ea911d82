use Rattle.std.proofs.Common.{◌≡◌, ◌*◌}
use Rattle.msrp_plan.proofs.Common.{ℕ, cond, nat_lt, get_or, length, sum_by}
use Rattle.msrp_sim.proofs.fifo.rooms_of.Given as goal

abbrev pub invariant-loop-core : goal.invariant-loop-core
invariant-loop-core l = record { size : length l.rooms ≡ 8; rooms : (c : ℕ) → get_or l.rooms c 0 ≡ cond (nat_lt c l.core) l.ticks 0; all : sum_by (λ n. n) l.rooms ≡ l.core * l.ticks }
