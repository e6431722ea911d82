-- What the fields of a record say: words, numbers and names.
use Rattle.std.specs.Prelude.{◌+◌, ◌-◌, ◌*◌, ◌==◌, ◌&&◌, ◌||◌, if◌then◌else◌}
use Rattle.msrp_plan.specs.Common.{ℕ, Bool, false, not, List, [], length, Option, Some, None, fold, slice_index, unwrap_or, is_ascii_digit, list_all, option_and_then, bytes_eq, is_within}
use Rattle.std.specs.Str.{is_utf8}
use Rattle.csv.specs.Records.{field_at}

-- a number is `0`, or a digit 1 to 9 and then digits, at most nine in all
abbrev pub is_number : List ℕ → Bool
is_number text = is_within 1 9 (length text) && ((length text == 1) || not (slice_index text 0 == 48)) && list_all is_ascii_digit text

-- the value of decimal digits, the first one the highest
abbrev pub digits_value : List ℕ → ℕ
digits_value digits = fold (λ n digit. n * 10 + (digit - 48)) 0 digits

-- the number that a text denotes, if it is one
abbrev pub number_of : List ℕ → Option ℕ
number_of text = if is_number text then Some (digits_value text) else None

-- a text of bytes, or the empty one if they aren't UTF-8
abbrev pub text_of : List ℕ → List ℕ
text_of bytes = if is_utf8 bytes then bytes else []

-- the field is there and is that word
abbrev pub is_word : List ℕ → Option (List ℕ) → Bool
is_word word None = false
is_word word (Some field) = bytes_eq field word

-- the record has that word at an index, from 0
abbrev pub has_word : List (List ℕ) → ℕ → List ℕ → Bool
has_word fields i word = is_word word (field_at fields i)

-- the number in a record's field at an index, if it is one
abbrev pub number_at : List (List ℕ) → ℕ → Option ℕ
number_at fields i = option_and_then number_of (field_at fields i)

-- the name in a record's field at an index: empty if the field is missing or isn't UTF-8
abbrev pub name_at : List (List ℕ) → ℕ → List ℕ
name_at fields i = text_of (unwrap_or (field_at fields i) [])
