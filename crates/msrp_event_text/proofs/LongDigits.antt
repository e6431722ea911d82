-- A number of 19 digits fits 64 bits.
use Rattle.std.proofs.Common.{◌≡◌, ◌^◌, ◌<◌, ◌≤◌}
use Rattle.msrp_plan.proofs.Common.{ℕ, List, true, length, arith, nat_tests, is_ascii_digit, list_all, is_within, and_parts}
use Rattle.std.proofs.Math.Nat.{pow-le-pow_right}
use Rattle.msrp_event_text.specs.Numbers.{is_long_number}

pub pow-nineteen : (i : ℕ) → i < 19 → 10 ^ i ≤ 1000000000000000000
pow-nineteen i h = pow-le-pow_right {n = 10} (omega arith) {i = i} {j = 18} (omega arith)

within-nineteen : (n : ℕ) → is_within 1 19 n ≡ true → n ≤ 19
within-nineteen n h = grind (arith, nat_tests)

-- a number has at most 19 bytes, and all are digits
pub long-digits : (xs : List ℕ) → is_long_number xs ≡ true → (length xs ≤ 19) × (list_all is_ascii_digit xs ≡ true)
long-digits xs h =
    let all = and_parts _ _ h in
    let size = and_parts _ _ all.0 in
    (within-nineteen (length xs) size.0, all.1)
