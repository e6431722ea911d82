-- Numbers as texts: the next one.
use Rattle.std.proofs.Common.{◌≡◌, ◌∷◌, ◌++◌, ◌+◌, ◌-◌, ◌/◌, ◌%◌, ◌<◌, ◌^◌, ◌∙◌}
use Rattle.msrp_plan.proofs.Common.{ℕ, List, [], slice_index, length, take, ap, sym, arith, inl, inr, decimal, cases_lt, get_or-append_seam, take-append-le, take_all, decimal_digit}
use Rattle.std.proofs.lemmas.List.{length-append}
use Rattle.std.proofs.lemmas.Fmt.{decimal_step}

without_last : (xs : List ℕ) (x : ℕ) → take (length (xs ++ x ∷ []) - 1) (xs ++ x ∷ []) ≡ xs
without_last xs x =
    let size = length-append xs (x ∷ []) in
    ap (λ k. take k (xs ++ x ∷ [])) (omega (arith, size)) ∙ (take-append-le (length xs) xs (x ∷ []) (omega arith) ∙ take_all (length xs) xs (omega arith))

-- a number that doesn't end in 0 is the one before with another last digit
pub next_decimal : (n m : ℕ) → n + 1 ≡ m → 0 < m % 10 → m < 2 ^ 64 → take (length (decimal n) - 1) (decimal n) ++ (48 + m % 10) ∷ [] ≡ decimal m
next_decimal n m next some small = elim (cases_lt m 10) [
  | inl low ↦
      let before = decimal_digit n (omega (arith, next, low)) in
      let digit : m % 10 ≡ m = omega (arith, low) in
      ap (λ l. take (length l - 1) l ++ (48 + m % 10) ∷ []) before ∙ (ap (λ d. (48 + d) ∷ []) digit ∙ sym (decimal_digit m low))
  | inr high ↦
      let before = decimal_step n (omega (arith, next, some, high)) (omega (arith, next, small)) in
      let front : n / 10 ≡ m / 10 = omega (arith, next, some) in
      ap (λ l. take (length l - 1) l ++ (48 + m % 10) ∷ []) before
      ∙ (ap (λ l. l ++ (48 + m % 10) ∷ []) (without_last (decimal (n / 10)) (48 + n % 10))
      ∙ (ap (λ k. decimal k ++ (48 + m % 10) ∷ []) front ∙ sym (decimal_step m high small)))
]

-- the last digit of a number
last_of : (xs : List ℕ) (x : ℕ) → slice_index (xs ++ x ∷ []) (length (xs ++ x ∷ []) - 1) ≡ x
last_of xs x = let size = length-append xs (x ∷ []) in ap (slice_index (xs ++ x ∷ [])) (omega (arith, size)) ∙ get_or-append_seam xs x [] 0

last_digit : (n : ℕ) → n < 2 ^ 64 → slice_index (decimal n) (length (decimal n) - 1) ≡ 48 + n % 10
last_digit n small = elim (cases_lt n 10) [
  | inl low ↦ ap (λ l. slice_index l (length l - 1)) (decimal_digit n low) ∙ omega (arith, low)
  | inr high ↦ ap (λ l. slice_index l (length l - 1)) (decimal_step n high small) ∙ last_of (decimal (n / 10)) (48 + n % 10)
]

-- a number that doesn't end in 9 counts up in its last digit
pub counted_up : (text : List ℕ) (n m digit : ℕ) → text ≡ decimal n → digit ≡ slice_index text (length text - 1) → digit < 57 → n + 1 ≡ m → m < 2 ^ 64
    → take (length text - 1) text ++ (digit + 1) ∷ [] ≡ decimal m
counted_up text n m digit fits here low next small =
    let last = here ∙ ap (λ t. slice_index t (length t - 1)) fits ∙ last_digit n (omega (arith, next, small)) in
    let more : digit + 1 ≡ 48 + m % 10 = omega (arith, last, low, next) in
    let some : 0 < m % 10 = omega (arith, last, low, next) in
    ap (λ t. take (length t - 1) t ++ (digit + 1) ∷ []) fits ∙ (ap (λ d. take (length (decimal n) - 1) (decimal n) ++ d ∷ []) more ∙ next_decimal n m next some small)
