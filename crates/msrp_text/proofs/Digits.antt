-- The number that digits stand for, digit by digit.
use Rattle.std.proofs.Common.{◌≡◌, ◌+◌, ◌-◌, ◌*◌, ◌^◌, ◌<◌, ◌≤◌, ◌&&◌}
use Rattle.msrp_plan.proofs.Common.{ℕ, List, Bool, true, false, length, get_or, arith, refl, sym, fold, nat_tests, is_ascii_digit, list_all, is_within}
use Rattle.std.proofs.Math.Nat.{pow-le-pow_right}
use Rattle.std.proofs.lemmas.List.Folds.{list_all_at}
use Rattle.msrp_text.specs.Fields.{is_number}

-- what digits add to the number of those before them
abbrev pub digits_from : ℕ → List ℕ → ℕ
digits_from n digits = fold (λ n digit. n * 10 + (digit - 48)) n digits

pub pow-nine : (i : ℕ) → i < 9 → 10 ^ i ≤ 100000000
pow-nine i h = pow-le-pow_right {n = 10} (omega arith) {i = i} {j = 8} (omega arith)

is-digit : (xs : List ℕ) (i : ℕ) (b : Bool) → i < length xs → list_all is_ascii_digit xs ≡ true → b ≡ is_ascii_digit (get_or xs i 0) → b ≡ true
is-digit xs i true h all e = refl
is-digit xs i false h all e = let none = list_all_at is_ascii_digit xs i 0 h (sym e) in cc

digit-range : (b : ℕ) → is_ascii_digit b ≡ true → (48 ≤ b) × (b ≤ 57)
digit-range b h = grind (arith, nat_tests)

-- each byte of a number is a digit
pub digit-at : (xs : List ℕ) (i : ℕ) → i < length xs → list_all is_ascii_digit xs ≡ true → (48 ≤ get_or xs i 0) × (get_or xs i 0 ≤ 57)
digit-at xs i h all = digit-range (get_or xs i 0) (is-digit xs i _ h all refl)

and-true : (a b : Bool) → (a && b) ≡ true → (a ≡ true) × (b ≡ true)
and-true true b e = (refl, e)
and-true false b e = cc

within-nine : (n : ℕ) → is_within 1 9 n ≡ true → n ≤ 9
within-nine n h = grind (arith, nat_tests)

-- a number has at most nine bytes, and all are digits
pub number-digits : (xs : List ℕ) → is_number xs ≡ true → (length xs ≤ 9) × (list_all is_ascii_digit xs ≡ true)
number-digits xs h =
    let all = and-true _ _ h in
    let size = and-true _ _ all.0 in
    (within-nine (length xs) size.0, all.1)
