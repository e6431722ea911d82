-- Numbers as they are written, read again.
use Rattle.std.proofs.Common.{◌≡◌, ◌+◌, ◌-◌, ◌*◌, ◌/◌, ◌%◌, ◌^◌, ◌<◌, ◌≤◌, ◌==◌, ◌||◌, ◌∷◌, ◌++◌, ◌∙◌}
use Rattle.msrp_plan.proofs.Common.{ℕ, not, Bool, true, false, cond, List, [], length, get_or, decimal, Some, None, refl, ap, arith, inl, inr, is_ascii_digit, list_all, list_any, and_from, and_parts, cases_eq, nat_tests, decimal_digit, decimal_nonempty, list_all-append, fold-append, is_within}
use Rattle.std.proofs.lemmas.Fmt.{decimal_by_steps, first_decimal, length-decimal-le}
use Rattle.csv.specs.Writing.{default_writer, needs_byte}
use Rattle.msrp_text.specs.Fields.{digits_value, is_number, number_of}

-- digits, and the number that they stand for
abbrev Tells : ℕ → List ℕ → Type 0
Tells n ds = (list_all is_ascii_digit ds ≡ true) × (digits_value ds ≡ n)

tells_one : (n : ℕ) → n < 10 → Tells n ((48 + n) ∷ [])
tells_one n h = (grind (arith, nat_tests), omega arith)

tells_more : (n : ℕ) (ds : List ℕ) → 10 ≤ n → Tells (n / 10) ds → Tells n (ds ++ ((48 + n % 10) ∷ []))
tells_more n ds h t =
    let last : is_ascii_digit (48 + n % 10) ≡ true = grind (arith, nat_tests) in
    let value : digits_value (ds ++ ((48 + n % 10) ∷ [])) ≡ digits_value ds * 10 + (48 + n % 10 - 48) = fold-append (λ m d. m * 10 + (d - 48)) 0 ds ((48 + n % 10) ∷ []) in
    (list_all-append is_ascii_digit ds ((48 + n % 10) ∷ []) ∙ and_from _ _ t.0 (and_from _ _ last refl), omega (arith, value, t.1))

tells_decimal : (n : ℕ) → n < 2 ^ 64 → Tells n (decimal n)
tells_decimal n h = decimal_by_steps Tells tells_one tells_more n h

pub all_digits : (n : ℕ) → n < 2 ^ 64 → list_all is_ascii_digit (decimal n) ≡ true
all_digits n h = (tells_decimal n h).0

-- what the digits of a number stand for
pub decimal_value : (n : ℕ) → n < 2 ^ 64 → digits_value (decimal n) ≡ n
decimal_value n h = (tells_decimal n h).1

-- it doesn't begin with 0 unless it is 0
begins : (n : ℕ) → n < 2 ^ 64 → ((length (decimal n) == 1) || not (get_or (decimal n) 0 0 == 48)) ≡ true
begins n h = elim (cases_eq n 0) [
  | inl zero ↦ ap (λ k. (length (decimal k) == 1) || not (get_or (decimal k) 0 0 == 48)) zero ∙ ap (λ ds. (length ds == 1) || not (get_or ds 0 0 == 48)) (decimal_digit 0 (omega arith))
  | inr some ↦
      let first = first_decimal n (omega (arith, some)) h in
      let other : (get_or (decimal n) 0 0 == 48) ≡ false = grind (arith, nat_tests, first) in
      ap (λ b. (length (decimal n) == 1) || not b) other ∙ or_true (length (decimal n) == 1)
]
  where
    or_true : (b : Bool) → (b || true) ≡ true
    or_true true = refl
    or_true false = refl

-- a number of at most nine digits reads as it was written
pub number_again : (n : ℕ) → n ≤ 999999999 → number_of (decimal n) ≡ Some n
number_again n small =
    let fits : n < 2 ^ 64 = omega (arith, small) in
    let t = tells_decimal n fits in
    let low = decimal_nonempty n fits in
    let high = length-decimal-le 9 n (omega arith) (omega (arith, small)) fits in
    let size : is_within 1 9 (length (decimal n)) ≡ true = grind (arith, nat_tests, low, high) in
    let is : is_number (decimal n) ≡ true = and_from _ _ (and_from _ _ size (begins n fits)) t.0 in
    ap (λ b. cond b (Some (digits_value (decimal n))) None) is ∙ ap (λ k. Some k) t.1

-- a digit is no mark of the format
plain_digit : (b : ℕ) → is_ascii_digit b ≡ true → needs_byte default_writer b ≡ false
plain_digit b h = grind (arith, nat_tests, h)

pub plain_digits : (ds : List ℕ) → list_all is_ascii_digit ds ≡ true → list_any (needs_byte default_writer) ds ≡ false
plain_digits [] h = refl
plain_digits (d ∷ ds) h =
    let both = and_parts (is_ascii_digit d) (list_all is_ascii_digit ds) h in
    ap (λ b. b || list_any (needs_byte default_writer) ds) (plain_digit d both.0) ∙ plain_digits ds both.1

pub plain_decimal : (n : ℕ) → n < 2 ^ 64 → list_any (needs_byte default_writer) (decimal n) ≡ false
plain_decimal n h = plain_digits (decimal n) (all_digits n h)
