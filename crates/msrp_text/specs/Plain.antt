-- Plain lines, whose fields are between commas.
use Rattle.msrp_plan.specs.Common.{ℕ, Bool, true, false, not, List, [], length, take, Option, is_ascii_digit, list_any}
use Rattle.std.specs.Prelude.{◌≡◌, ◌⊎◌, ◌≤◌, ◌<◌, ◌∷◌, ◌++◌, ◌==◌, ◌&&◌, ◌||◌, if◌then◌else◌, MatchOption}
use Rattle.msrp_text.specs.declared.front.Front.{Front}
use Rattle.msrp_text.specs.declared.front.PlainLine.{PlainLine}
use Rattle.msrp_text.specs.declared.front.TheConstants.{LONGEST}
use Rattle.msrp_text.specs.declared.front.Front.TheVariants as front

-- a quote, a carriage return or a line feed
abbrev pub is_mark : ℕ → Bool
is_mark b = (b == 34) || ((b == 13) || (b == 10))

-- a line that isn't empty, doesn't begin like a byte order mark, and has no quote and no line end
abbrev pub is_plain : List ℕ → Bool
is_plain [] = false
is_plain (b ∷ rest) = not (b == 239) && not (list_any is_mark (b ∷ rest))

-- the fields of a line, the first of which begins with these bytes
unfoldable pub split_from : List ℕ → List ℕ → List (List ℕ)
split_from field [] = field ∷ []
split_from field (b ∷ rest) = if b == 44 then field ∷ split_from [] rest else split_from (field ++ (b ∷ [])) rest

-- the fields of a line, between commas
abbrev pub split_commas : List ℕ → List (List ℕ)
split_commas line = split_from [] line

-- a text is a line and its end: a line feed, a carriage return, or both
abbrev pub EndsLine : List ℕ → List ℕ → Type 0
EndsLine line text = (text ≡ line ++ (10 ∷ [])) ⊎ (text ≡ line ++ (13 ∷ [])) ⊎ (text ≡ line ++ (13 ∷ 10 ∷ []))

-- a plain line is at the front of a text, and these are its fields
pub record IsFront (text : List ℕ) (line : PlainLine) (row : List (List ℕ)) : Type 0 where
  pub longer : line.length < line.taken
  pub within : line.taken ≤ length text
  pub ended : EndsLine (take line.length text) (take line.taken text)
  pub plain : is_plain (take line.length text) ≡ true
  pub fields : row ≡ split_commas (take line.length text)

-- a text begins with a line and its end
abbrev pub BeginsWith : List ℕ → List ℕ → Type 0
BeginsWith line text = (ended : List ℕ) × (after : List ℕ) × EndsLine line ended × (text ≡ ended ++ after)

-- a plain line that a text begins with isn't shorter than this
abbrev pub IsInLine : ℕ → List ℕ → Type 0
IsInLine at text = (line : List ℕ) → BeginsWith line text → is_plain line ≡ true → at ≤ length line

-- a text doesn't begin with a plain line of fewer bytes
abbrev pub NoLine : ℕ → List ℕ → Type 0
NoLine most text = (line : List ℕ) → BeginsWith line text → is_plain line ≡ true → length line < most → ⊥

-- what is at the front of a text: a plain line of these fields, or none that is short enough
abbrev pub Stands : List ℕ → List (List ℕ) → Front → Type 0
Stands text row (front.Line line) = IsFront text line row
Stands text row front.Part = NoLine LONGEST text
Stands text row front.Other = NoLine LONGEST text

-- the plain line of these fields at the front of a text, or none if there is none short enough
abbrev pub IsPeeked : List ℕ → List (List ℕ) → Option PlainLine → Type 0
IsPeeked text row found = MatchOption found (NoLine LONGEST text) (λ line. IsFront text line row)

-- a text begins with a field, then a field of one digit, each with a comma after it
abbrev pub BeginsWithDigit : List ℕ → ℕ → List ℕ → Type 0
BeginsWithDigit first digit text = (is_ascii_digit digit ≡ true) × ((after : List ℕ) × (text ≡ first ++ (44 ∷ digit ∷ 44 ∷ after)))

-- a plain line without a comma: one field of it
abbrev pub is_plain_field : List ℕ → Bool
is_plain_field field = is_plain field && not (list_any (λ b. b == 44) field)
