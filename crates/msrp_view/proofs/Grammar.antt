-- What the parser was told, and what is made of what it found.
use Rattle.msrp_plan.proofs.Common.{ℕ, true, false, List, [], length, Some, Result, Ok, Err, refl, ap, sym, inl, inr, is_ascii_digit, list_all, cases_lt, le-ltb, lt-ltb}
use Rattle.std.proofs.Common.{◌≡◌, ◌∙◌, ◌&&◌, ◌<◌, ◌^◌, ◌∷◌, OkIff, MatchResult}
use Rattle.std.specs.Str.{all_ascii_digits}
use Rattle.std.specs.Str.Parse.{ParsesUnsigned, digits_value}
use Rattle.std.proofs.lemmas.Str.Parse.{numerals_by_value, parse_digits, tells_all_ascii_digits}
use Rattle.clap.proofs.OnLiterals.{clap_on_literals}
use Rattle.clap.specs.Words.{IsAmong, Kinds, Row, Text, is_simple, is_simple_and_free}
use Rattle.clap.specs.declared.error.kind.ErrorKind.{ErrorKind}
use Rattle.msrp_faults.specs.declared.faults.CliFault.{CliFault}
use Rattle.msrp_faults.specs.declared.faults.CliFault.TheVariants.{Usage}
use Rattle.msrp_view.specs.declared.cli.Cmd.{Cmd}
use Rattle.msrp_view.specs.CommandLine.{IsAnswered, answer_to, grammar, tick_of}

-- the parser can tell of all words what it gives for them
pub grammar_simple : is_simple grammar ≡ true
unfolding clap_on_literals grammar
grammar_simple = refl

pub grammar_free : is_simple_and_free grammar ≡ true
unfolding clap_on_literals grammar
grammar_free = refl

-- ---- what is answered
-- what refused words are answered
pub answered_fault : (kinds : Kinds) (rows : List Row) (k : ErrorKind) (result : Result Cmd CliFault) → IsAmong k kinds → result ≡ answer_to k → IsAnswered kinds rows result
answered_fault [] rows k result among e = absurd among
answered_fault (x ∷ kinds) rows k result among e = (k, among, e)

-- ---- ticks
same_digits : (word : Text) → all_ascii_digits word ≡ list_all is_ascii_digit word
same_digits [] = refl
same_digits (c ∷ cs) = ap (λ b. is_ascii_digit c && b) (same_digits cs)

-- std's parsing of digits alone reads exactly ticks
pub reads_tick : {E : Type 0} (word : Text) (r : Result ℕ E) → list_all is_ascii_digit word ≡ true → ParsesUnsigned 32 10 word r → MatchResult r (λ n. tick_of (Some word) ≡ Ok (Some n)) (λ _. tick_of (Some word) ≡ Err Usage)
reads_tick {E = E} word r digits parses = at r (parse_digits (numerals_by_value (λ ds. all_ascii_digits ds ≡ true) tells_all_ascii_digits) 32 word r parses (same_digits word ∙ digits))
  where
    at : (r : Result ℕ E) → OkIff r ((0 < length word) × (digits_value 10 word < 2 ^ 32)) (digits_value 10 word) → MatchResult r (λ n. tick_of (Some word) ≡ Ok (Some n)) (λ _. tick_of (Some word) ≡ Err Usage)
    at (Ok n) h = rw (lt-ltb 0 (length word) h.0.0, digits, lt-ltb (digits_value 10 word) (2 ^ 32) h.0.1) (ap (λ v. Ok (Some v)) (sym h.1))
    at (Err e) h = elim (cases_lt 0 (length word)) [
      | inl some ↦ elim (cases_lt (digits_value 10 word) (2 ^ 32)) [
        | inl fits ↦ absurd (h (some, fits))
        | inr past ↦ rw (lt-ltb 0 (length word) some, digits, le-ltb (digits_value 10 word) (2 ^ 32) past) refl
      ]
      | inr none ↦ rw (le-ltb 0 (length word) none) refl
    ]

pub no_tick : (word : Text) → list_all is_ascii_digit word ≡ false → tick_of (Some word) ≡ Err Usage
no_tick word other = elim (cases_lt 0 (length word)) [
  | inl some ↦ rw (lt-ltb 0 (length word) some, other) refl
  | inr none ↦ rw (le-ltb 0 (length word) none) refl
]
