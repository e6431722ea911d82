-- Numbers of up to 19 digits, as times in ns are.
use Rattle.std.specs.Prelude.{◌==◌, ◌&&◌, ◌||◌, if◌then◌else◌}
use Rattle.msrp_plan.specs.Common.{ℕ, Bool, not, List, [], length, Option, Some, None, slice_index, is_ascii_digit, list_all, option_and_then, option_map, is_within}
use Rattle.csv.specs.Records.{field_at}
use Rattle.msrp_text.specs.Fields.{digits_value, has_word}

-- a number is `0`, or a digit 1 to 9 and then digits, and has 19 digits at most
abbrev pub is_long_number : List ℕ → Bool
is_long_number text = is_within 1 19 (length text) && ((length text == 1) || not (slice_index text 0 == 48)) && list_all is_ascii_digit text

-- the value of such a number
abbrev pub long_number_of : List ℕ → Option ℕ
long_number_of text = if is_long_number text then Some (digits_value text) else None

-- the number that a record has at a place, if there is one
abbrev pub long_number_at : List (List ℕ) → ℕ → Option ℕ
long_number_at fields i = option_and_then long_number_of (field_at fields i)

-- the number that a record has at a place where the field may be empty
abbrev pub optional_number_at : List (List ℕ) → ℕ → Option (Option ℕ)
optional_number_at fields i = if has_word fields i [] then Some None else option_map (λ n. Some n) (long_number_at fields i)
