-- Names of tasks and resources, as bytes.
use Rattle.std.specs.Prelude.{ℕ, List, [], ◌∷◌, Bool, false, ◌==◌, ◌&&◌, ◌||◌, nat_le, length, Option}
use Rattle.std.specs.List.{list_any, list_all, position}
use Rattle.std.specs.Char.{is_ascii_lowercase, is_ascii_digit}
use Rattle.std.specs.Str.{bytes_eq}

-- a byte that may stand in a name: a to z, 0 to 9 or _
abbrev pub is_name_byte : ℕ → Bool
is_name_byte b = is_ascii_lowercase b || (is_ascii_digit b || (b == 95))

-- a name is a letter a to z and then at most 15 such bytes
abbrev pub is_name : List ℕ → Bool
is_name [] = false
is_name (b ∷ bs) = is_ascii_lowercase b && (nat_le (length bs) 15 && list_all is_name_byte bs)

-- the name is in the list, and its first index there
abbrev pub has_name : List (List ℕ) → List ℕ → Bool
has_name names name = list_any (bytes_eq name) names

abbrev pub name_position : List (List ℕ) → List ℕ → Option ℕ
name_position names name = position (bytes_eq name) names
