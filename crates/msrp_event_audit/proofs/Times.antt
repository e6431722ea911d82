-- What is tested of times by a difference is what the definitions test by a sum.
use Rattle.std.proofs.Common.{◌≡◌, ◌+◌, ◌-◌, ◌&&◌}
use Rattle.msrp_plan.proofs.Common.{ℕ, nat_lt, nat_le, arith, nat_tests}

pub past_is : (wait time now : ℕ) → nat_lt wait (now - time) ≡ nat_lt (time + wait) now
past_is wait time now = grind (arith, nat_tests)

pub reached_is : (wait time now : ℕ) → (nat_le time now && nat_le wait (now - time)) ≡ nat_le (time + wait) now
reached_is wait time now = grind (arith, nat_tests)
