-- The line at the front of a text, as far as it was looked at.
use Rattle.msrp_plan.proofs.Common.{[], ℕ, List, Bool, true, false, length, slice_index, subst, take, drop, refl, sym, ap, inl, inr, append_assoc, eq-eqb, ne_eqb, length-append, length-drop, arith, get_or-append, get_or-append_seam, nat_tests, and_parts, or_from, or_parts, drop-append-le, take_all, take_at, take_more}
use Rattle.std.proofs.Common.{◌≡◌, ◌≤◌, ◌<◌, ◌+◌, ◌-◌, ◌==◌, ◌&&◌, ◌||◌, ◌⊎◌, ◌++◌, ◌∷◌, ◌∙◌, take-append-drop, length-take-le}
use Rattle.std.proofs.Math.Nat.{eq-or-lt_of_le}
use Rattle.std.proofs.lemmas.Bool.{and_right, eqb-true, or_cases}
use Rattle.std.proofs.lemmas.List.{drop_at}
use mathlib.Core.Bool.{true≢false}
use Rattle.msrp_text.specs.Lines.{is_break}
use Rattle.msrp_text.specs.Plain.{BeginsWith, EndsLine, IsInLine, NoLine, is_mark, is_plain}
use Rattle.msrp_text.proofs.AheadBytes.{between-bytes, none-left}
use Rattle.msrp_text.proofs.PlainLines.{IsSplit, plain-byte, plain-first, plain-more, split-joins, split-parts}

-- a byte that ends no plain line, where it isn't the first byte of a byte order mark
abbrev pub is_other : ℕ → ℕ → Bool
is_other byte at = (byte == 34) || ((at == 0) && (byte == 239))

first-other : (byte at : ℕ) → ((at == 0) && (byte == 239)) ≡ false → at ≡ 0 → (byte == 239) ≡ false
first-other byte at h zero = rw zero at h

-- a byte that is none of those that end a field, a line, or the plain lines
pub record IsInside (byte at : ℕ) : Type 0 where
  pub feed : byte ≡ 10 → ⊥
  pub return : byte ≡ 13 → ⊥
  pub comma : byte ≡ 44 → ⊥
  pub other : is_other byte at ≡ false

-- one above the comma, where it isn't the first byte of a byte order mark
pub inside-other : (byte at : ℕ) → 44 < byte → (byte == 239) ≡ false → IsInside byte at
inside-other byte at above first = record {
  feed = λ e. omega (arith, above, e);
  return = λ e. omega (arith, above, e);
  comma = λ e. omega (arith, above, e);
  other = or_from _ _ (ne_eqb byte 34 (λ e. omega (arith, above, e))) (and_right (at == 0) _ first);
}

-- a plain line goes on
pub plain-on : (text : List ℕ) (at : ℕ) → at < length text → (slice_index text at ≡ 10 → ⊥) → (slice_index text at ≡ 13 → ⊥) → is_other (slice_index text at) at ≡ false
    → (0 < at → is_plain (take at text) ≡ true) → is_plain (take (at + 1) text) ≡ true
plain-on text at within feed return other plain =
    let size : length (take at text) ≡ at = length-take-le at text (omega arith) in
    let mark : is_mark (slice_index text at) ≡ false = or_from _ _ (or_parts _ _ other).0 (or_from _ _ (ne_eqb _ 13 return) (ne_eqb _ 10 feed)) in
    ap is_plain (take_more text at 0 within)
    ∙ plain-more (take at text) (slice_index text at) (λ some. plain (omega (arith, size))) (λ none. first-other _ at (or_parts _ _ other).1 (omega (arith, size))) mark

-- its last field goes on
pub field-on : (text : List ℕ) (at start : ℕ) (fields : List (List ℕ)) → at < length text → start ≤ at → (slice_index text at ≡ 44 → ⊥) → IsSplit fields (drop start (take at text)) (take at text)
    → IsSplit fields (drop start (take (at + 1) text)) (take (at + 1) text)
field-on text at start fields within h other split =
    let size : length (take at text) ≡ at = length-take-le at text (omega arith) in
    let field : drop start (take at text ++ (slice_index text at ∷ [])) ≡ drop start (take at text) ++ (slice_index text at ∷ []) = drop-append-le start (take at text) _ (omega (arith, size)) in
    rw (take_more text at 0 within, field) (split-joins fields (drop start (take at text)) (take at text) (slice_index text at) split (ne_eqb _ 44 other))

-- a comma ends it
pub field-ends : (text : List ℕ) (at start : ℕ) (fields : List (List ℕ)) → at < length text → slice_index text at ≡ 44 → IsSplit fields (drop start (take at text)) (take at text)
    → IsSplit (fields ++ (drop start (take at text) ∷ [])) (drop (at + 1) (take (at + 1) text)) (take (at + 1) text)
field-ends text at start fields within comma split =
    rw (none-left text (at + 1) (at + 1) refl, take_more text at 0 within) (split-parts fields (drop start (take at text)) (take at text) (slice_index text at) split (eq-eqb _ 44 comma))

-- a field that was put after others
pub field-put : (new old : List (List ℕ)) (partial text : List ℕ) (start at : ℕ) → new ≡ old ++ ((partial ++ take (at - start) (drop start text)) ∷ []) → partial ≡ [] → start ≤ at
    → new ≡ old ++ (drop start (take at text) ∷ [])
field-put new old partial text start at e none h =
    e ∙ ap (λ (f : List ℕ). old ++ (f ∷ [])) (ap (λ (p : List ℕ). p ++ take (at - start) (drop start text)) none ∙ sym (between-bytes text start at h))

-- ---- the line that a text begins with
-- its bytes, and what comes after them
record Ended (line text : List ℕ) : Type 0 where
  less : length line < length text
  inside : (at : ℕ) → at < length line → slice_index text at ≡ slice_index line at
  ends : (slice_index text (length line) ≡ 10) ⊎ (slice_index text (length line) ≡ 13)

marked-text : (line after : List ℕ) (end : ℕ) → (end ≡ 10) ⊎ (end ≡ 13) → Ended line (line ++ (end ∷ after))
marked-text line after end mark =
    let here : slice_index (line ++ (end ∷ after)) (length line) ≡ end = get_or-append_seam line end after 0 in
    record {
      less = omega (arith, length-append line (end ∷ after));
      inside = λ at h. get_or-append line (end ∷ after) 0 at h;
      ends = rw here mark;
    }

ended-text : (line ended after text : List ℕ) → EndsLine line ended → text ≡ ended ++ after → Ended line text
ended-text line ended after text (inl e) same = rw (same, e, append_assoc line (10 ∷ []) after) (marked-text line after 10 (inl refl))
ended-text line ended after text (inr (inl e)) same = rw (same, e, append_assoc line (13 ∷ []) after) (marked-text line after 13 (inr refl))
ended-text line ended after text (inr (inr e)) same = rw (same, e, append_assoc line (13 ∷ 10 ∷ []) after) (marked-text line (10 ∷ after) 13 (inr refl))

begun-text : (line text : List ℕ) → BeginsWith line text → Ended line text
begun-text line text h = ended-text line h.0 h.1 text h.2 h.3

-- a byte that is no line end doesn't end it
pub line-on : (text : List ℕ) (at : ℕ) → (slice_index text at ≡ 10 → ⊥) → (slice_index text at ≡ 13 → ⊥) → IsInLine at text → IsInLine (at + 1) text
line-on text at feed return before = λ line begins plain. elim (eq-or-lt_of_le (before line begins plain)) [
  | inl here ↦ elim (begun-text line text begins).ends [
    | inl e ↦ absurd (feed (ap (slice_index text) here ∙ e))
    | inr e ↦ absurd (return (ap (slice_index text) here ∙ e))
  ]
  | inr inside ↦ omega (arith, inside)
]

-- a quote is in no plain line
quote-none : (text : List ℕ) (at most : ℕ) → slice_index text at ≡ 34 → IsInLine at text → NoLine most text
quote-none text at most quote before = λ line begins plain few. elim (eq-or-lt_of_le (before line begins plain)) [
  | inl here ↦ elim (begun-text line text begins).ends [
    | inl e ↦ let no : 34 ≡ 10 = sym quote ∙ ap (slice_index text) here ∙ e in omega (arith, no)
    | inr e ↦ let no : 34 ≡ 13 = sym quote ∙ ap (slice_index text) here ∙ e in omega (arith, no)
  ]
  | inr inside ↦ true≢false (sym (ap is_mark quote) ∙ ap is_mark ((begun-text line text begins).inside at inside) ∙ plain-byte line at plain inside)
]

-- it doesn't begin as a byte order mark does
bom-none : (text : List ℕ) (most : ℕ) → (slice_index text 0 == 239) ≡ true → NoLine most text
bom-none text most mark = λ line begins plain few.
    let first = plain-first line plain in
    true≢false (sym mark ∙ ap (λ b. b == 239) ((begun-text line text begins).inside 0 first.0) ∙ first.1)

-- a line end is in none
break-mark : (b : ℕ) → is_break b ≡ true → is_mark b ≡ true
break-mark b h = grind (arith, nat_tests, h)

pub break-none : (text rest : List ℕ) (b most : ℕ) → text ≡ b ∷ rest → is_break b ≡ true → NoLine most text
break-none text rest b most e is = λ line begins plain few.
    let some = (plain-first line plain).0 in
    let same : slice_index line 0 ≡ b = sym ((begun-text line text begins).inside 0 some) ∙ ap (λ (t : List ℕ). slice_index t 0) e in
    true≢false (sym (break-mark b is) ∙ ap is_mark (sym same) ∙ plain-byte line 0 plain some)

pub other-none : (text : List ℕ) (at most : ℕ) → is_other (slice_index text at) at ≡ true → IsInLine at text → NoLine most text
other-none text at most other before = elim (or_cases (slice_index text at == 34) _ other) [
  | inl quote ↦ quote-none text at most (eqb-true _ 34 quote) before
  | inr first ↦
      let both = and_parts (at == 0) (slice_index text at == 239) first in
      let zero : at ≡ 0 = eqb-true at 0 both.0 in
      bom-none text most (ap (λ n. slice_index text n == 239) (sym zero) ∙ both.1)
]

-- a line in two parts, and its end, at the front of a text
pub line-ends : (text front rest middle end mark after : List ℕ) → text ≡ front ++ middle → middle ≡ rest ++ end → end ≡ mark ++ after
    → (length front + length rest + length mark ≤ length text) × (take (length front + length rest + length mark) text ≡ (front ++ rest) ++ mark)
line-ends text front rest middle end mark after a b c =
    let all : text ≡ ((front ++ rest) ++ mark) ++ after =
    a ∙ ap (λ (t : List ℕ). front ++ t) (b ∙ ap (λ (t : List ℕ). rest ++ t) c) ∙ sym (append_assoc front rest (mark ++ after)) ∙ sym (append_assoc (front ++ rest) mark after) in
    let size : length ((front ++ rest) ++ mark) ≡ length front + length rest + length mark = length-append (front ++ rest) mark ∙ ap (λ n. n + length mark) (length-append front rest) in
    let whole : length text ≡ length ((front ++ rest) ++ mark) + length after = ap length all ∙ length-append ((front ++ rest) ++ mark) after in
    (omega (arith, size, whole), ap (λ (t : List ℕ). take (length front + length rest + length mark) t) all ∙ take_at ((front ++ rest) ++ mark) after _ size)

-- a line in two parts, of which the second has its line feed, at the front of a text
pub line-fed : (text front rest middle line after : List ℕ) → text ≡ front ++ middle → middle ≡ line ++ after → line ≡ rest ++ (10 ∷ []) → take (length front + length line) text ≡ (front ++ rest) ++ (10 ∷ [])
line-fed text front rest middle line after a b c =
    let all : text ≡ (front ++ line) ++ after = a ∙ ap (λ (t : List ℕ). front ++ t) b ∙ sym (append_assoc front line after) in
    ap (λ (t : List ℕ). take (length front + length line) t) all ∙ take_at (front ++ line) after _ (length-append front line) ∙ ap (λ (t : List ℕ). front ++ t) c ∙ sym (append_assoc front rest (10 ∷ []))

-- a line without its line feed
pub line-unfed : (line rest : List ℕ) → line ≡ rest ++ (10 ∷ []) → take (length line - 1) line ≡ rest
line-unfed line rest e = ap (λ (t : List ℕ). take (length t - 1) t) e ∙ take_at rest (10 ∷ []) _ (omega (arith, length-append rest (10 ∷ [])))

-- a line and its end, taken off the front of a text
pub begins-taken : (line text : List ℕ) (taken : ℕ) → EndsLine line (take taken text) → BeginsWith line text
begins-taken line text taken h = (take taken text, drop taken text, h, sym (take-append-drop taken text))

-- what comes after a line: its end
abbrev pub AfterLine : List ℕ → Type 0
AfterLine end = ((after : List ℕ) × (end ≡ (10 ∷ []) ++ after)) ⊎ ((after : List ℕ) × (end ≡ (13 ∷ []) ++ after))

after-ended : (line ended after text : List ℕ) → EndsLine line ended → text ≡ ended ++ after → (end : List ℕ) × (text ≡ line ++ end) × AfterLine end
after-ended line ended after text (inl e) same = (10 ∷ after, same ∙ ap (λ (t : List ℕ). t ++ after) e ∙ append_assoc line (10 ∷ []) after, inl (after, refl))
after-ended line ended after text (inr (inl e)) same = (13 ∷ after, same ∙ ap (λ (t : List ℕ). t ++ after) e ∙ append_assoc line (13 ∷ []) after, inr (after, refl))
after-ended line ended after text (inr (inr e)) same = (13 ∷ 10 ∷ after, same ∙ ap (λ (t : List ℕ). t ++ after) e ∙ append_assoc line (13 ∷ 10 ∷ []) after, inr (10 ∷ after, refl))

-- a text begins with a line in two parts
pub begins-parts : (front rest text : List ℕ) → BeginsWith (front ++ rest) text → (end : List ℕ) × (text ≡ front ++ (rest ++ end)) × AfterLine end
begins-parts front rest text begins =
    let after = after-ended (front ++ rest) begins.0 begins.1 text begins.2 begins.3 in
    (after.0, after.1 ∙ append_assoc front rest after.0, after.2)

-- what comes behind a front
pub front-behind : (text front : List ℕ) → ((after : List ℕ) × (text ≡ front ++ after)) → text ≡ front ++ take (length text - length front) (drop (length front) text)
front-behind text front h =
    let behind = drop (length front) text in
    let all : take (length text - length front) behind ≡ behind = take_all (length text - length front) behind (omega (arith, length-drop (length front) text)) in
    let same : behind ≡ h.0 = ap (λ (t : List ℕ). drop (length front) t) h.1 ∙ drop_at front h.0 (length front) refl in
    h.1 ∙ ap (λ (t : List ℕ). front ++ t) (sym (all ∙ same))

-- ---- a text of which more may come
-- of two texts that begin the same one, the one begins with the other

-- what begins with a line and its end does so whatever comes after it
pub begins-on : (line text more : List ℕ) → BeginsWith line text → BeginsWith line (text ++ more)
begins-on line text more begins = (begins.0, begins.1 ++ more, begins.2, ap (λ (t : List ℕ). t ++ more) begins.3 ∙ append_assoc begins.0 begins.1 more)

pub no-line-on : (text more all : List ℕ) (most : ℕ) → all ≡ text ++ more → NoLine most all → NoLine most text
no-line-on text more all most e none = λ line begins. none line (subst (λ (t : List ℕ). BeginsWith line t) (sym e) (begins-on line text more begins))
