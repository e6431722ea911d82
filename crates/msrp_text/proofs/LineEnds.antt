-- The lines of a text, counted as its bytes are taken.
use Rattle.std.proofs.Common.{◌≡◌, ◌≤◌, ◌<◌, ◌+◌, ◌-◌, ◌^◌, ◌==◌, ◌||◌, ◌++◌, ◌∷◌, ◌∙◌, if◌then◌else◌}
use Rattle.msrp_plan.proofs.Common.{[], ℕ, List, Bool, true, false, not, Option, Some, None, length, slice_index, take, drop, refl, sym, ap, subst, arith, inl, inr, append_assoc, length-append, length-drop, IsSome, option_map, Consumes, Keeps, list_any, and_parts, not-true, or_from, or_parts, drop-drop, get_or-drop, get_or-take, length-take-le, take_more, none-some, same_Some}
use Rattle.std.proofs.lemmas.Bool.{eqb-true, or_cases}
use Rattle.csv.specs.declared.parser.State.TheVariants as st
use Rattle.msrp_text.specs.Ahead.{lines_ahead, unread}
use Rattle.msrp_text.specs.Lines.{BeginsIn, HasTaken, HasTakenBy, begins_record, byte_before, empty_at, ends_behind, ends_line, is_break, last_behind}
use Rattle.msrp_text.specs.Plain.{EndsLine, is_mark, is_plain, split_commas}
use Rattle.msrp_text.specs.Records.{KeepsRecords, csv_records, is_csv, records_at, records_of}
use Rattle.msrp_text.specs.declared.lines.Lines.{Lines}
use Rattle.msrp_text.specs.declared.records.Way.{Way}
use Rattle.msrp_text.specs.declared.records.Way.TheVariants as way
use Rattle.msrp_text.proofs.AheadBytes.{ahead-first, kept-known, known-ahead}
use Rattle.msrp_text.proofs.PlainLines.{begins, csv-start, ended-first, records-empty, records-only}

-- ---- line ends
more-if : (t : Bool) (m n k : ℕ) → m ≡ n + k → (if t then m + 1 else m) ≡ (if t then n + 1 else n) + k
more-if true m n k e = omega (arith, e)
more-if false m n k e = e

few-if : (t : Bool) (n m : ℕ) → n ≤ m → (if t then n + 1 else n) ≤ m + 1
few-if true n m h = omega (arith, h)
few-if false n m h = omega (arith, h)

none-if : (t : Bool) (n : ℕ) → t ≡ false → (if t then n + 1 else n) ≡ n
none-if t n e = rw e refl

-- those of two texts, one behind the other
pub ends-more : (p : ℕ) (xs ys : List ℕ) → ends_behind p (xs ++ ys) ≡ ends_behind p xs + ends_behind (last_behind p xs) ys
unfolding ends_behind last_behind
ends-more p [] ys = omega arith
ends-more p (b ∷ xs) ys = more-if (ends_line p b) _ _ _ (ends-more b xs ys)

pub last-more : (p : ℕ) (xs ys : List ℕ) → last_behind p (xs ++ ys) ≡ last_behind (last_behind p xs) ys
unfolding last_behind
last-more p [] ys = refl
last-more p (b ∷ xs) ys = last-more b xs ys

pub last-one : (p : ℕ) (xs : List ℕ) (b : ℕ) → last_behind p (xs ++ (b ∷ [])) ≡ b
unfolding last_behind
last-one p xs b = last-more p xs (b ∷ [])

-- there are no more than bytes
pub ends-few : (p : ℕ) (xs : List ℕ) → ends_behind p xs ≤ length xs
unfolding ends_behind
ends-few p [] = omega arith
ends-few p (b ∷ xs) = let few = few-if (ends_line p b) _ _ (ends-few b xs) in omega (arith, few)

-- no line ends within a plain line
no-end : (p b : ℕ) → is_mark b ≡ false → ends_line p b ≡ false
no-end p b h =
    let ends = or_parts (b == 13) (b == 10) (or_parts (b == 34) ((b == 13) || (b == 10)) h).1 in
    rw (ends.0, ends.1) refl

ends-run : (p : ℕ) (line tail : List ℕ) → list_any is_mark line ≡ false → ends_behind p (line ++ tail) ≡ ends_behind (last_behind p line) tail
unfolding ends_behind last_behind
ends-run p [] tail none = refl
ends-run p (b ∷ line) tail none =
    let parts = or_parts (is_mark b) (list_any is_mark line) none in
    none-if (ends_line p b) _ (no-end p b parts.0) ∙ ends-run b line tail parts.1

last-unmarked : (p : ℕ) (line : List ℕ) → (p == 13) ≡ false → list_any is_mark line ≡ false → (last_behind p line == 13) ≡ false
unfolding last_behind
last-unmarked p [] h none = h
last-unmarked p (b ∷ line) h none =
    let parts = or_parts (is_mark b) (list_any is_mark line) none in
    last-unmarked b line (or_parts _ _ (or_parts _ _ parts.0).1).0 parts.1

end-feed : (p : ℕ) → (p == 13) ≡ false → ends_behind p (10 ∷ []) ≡ 1
unfolding ends_behind
end-feed p h = rw h refl

end-return : (p : ℕ) → ends_behind p (13 ∷ []) ≡ 1
unfolding ends_behind
end-return p = refl

end-both : (p : ℕ) → ends_behind p (13 ∷ 10 ∷ []) ≡ 1
unfolding ends_behind
end-both p = refl

-- one ends with it
pub plain-ends : (p : ℕ) (line text : List ℕ) → EndsLine line text → is_plain line ≡ true → ends_behind p text ≡ 1
unfolding last_behind
plain-ends p [] text ended plain = cc plain
plain-ends p (b ∷ line) text ended plain =
    let none : list_any is_mark (b ∷ line) ≡ false = not-true _ (and_parts _ _ plain).1 in
    let parts = or_parts (is_mark b) (list_any is_mark line) none in
    let last : (last_behind p (b ∷ line) == 13) ≡ false = last-unmarked b line (or_parts _ _ (or_parts _ _ parts.0).1).0 parts.1 in
    elim ended [
      | inl e ↦ ap (ends_behind p) e ∙ ends-run p (b ∷ line) (10 ∷ []) none ∙ end-feed _ last
      | inr (inl e) ↦ ap (ends_behind p) e ∙ ends-run p (b ∷ line) (13 ∷ []) none ∙ end-return _
      | inr (inr e) ↦ ap (ends_behind p) e ∙ ends-run p (b ∷ line) (13 ∷ 10 ∷ []) none ∙ end-both _
    ]

-- ---- a line end that comes next
pub break-records : (begun : Bool) (b : ℕ) (rest : List ℕ) → is_break b ≡ true → records_of begun (b ∷ rest) ≡ records_at st.StartRecord rest
break-records begun b rest h = elim (or_cases (b == 10) (b == 13) h) [
  | inl feed ↦ let same = eqb-true b 10 feed in ap (λ n. records_of begun (n ∷ rest)) same ∙ begins begun rest 10 refl ∙ records-empty rest
  | inr return ↦ let same = eqb-true b 13 return in ap (λ n. records_of begun (n ∷ rest)) same ∙ begins begun rest 13 refl ∙ records-only rest
]

-- one that was taken was no record
pub taken-break : (begun : Bool) (old new : Option (List ℕ)) (b : ℕ) → Consumes old new (b ∷ []) → is_break b ≡ true → KeepsRecords (option_map (records_of begun) old) (option_map (records_of true) new)
taken-break begun None new b h is left known = cc known
taken-break begun (Some xs) None b h is left known = absurd h
taken-break begun (Some xs) (Some ys) b h is left known =
    let from : records_of begun xs ≡ left = cc in
    ap (λ (rs : List (List (List ℕ))). Some rs) (sym (break-records begun b ys is) ∙ sym (ap (records_of begun) h) ∙ from)

-- ---- what was taken of a text
-- bytes that were consumed
pub consumed : (old new : Option (List ℕ)) (xs text : List ℕ) → Consumes old new text → old ≡ Some xs → (ys : List ℕ) × (new ≡ Some ys) × (xs ≡ text ++ ys)
consumed None new xs text h e = absurd (none-some xs e)
consumed (Some zs) None xs text h e = absurd h
consumed (Some zs) (Some ys) xs text h e = (ys, refl, sym (same_Some zs xs e) ∙ h)

some-is : (o : Option ℕ) → IsSome o → (n : ℕ) × (o ≡ Some n)
some-is None h = cc h
some-is (Some n) h = (n, refl)

-- no byte was taken
pub none-taken : {R : Type 0} (remaining : R → Option (List ℕ)) (lines : Lines R) (bytes : List ℕ) → unread remaining lines ≡ Some bytes → lines.begun ≡ false → lines.passed ≡ Some 0 → HasTaken remaining bytes 0 lines
unfolding ends_behind last_behind
none-taken remaining lines bytes known fresh passed = record {
  before = [];
  left = bytes;
  known = known;
  text_is = refl;
  records = ap (λ b. records_of b bytes) fresh ∙ sym (csv-start bytes);
  last = rw fresh refl;
  counted = λ empty is. (let same : 0 ≡ empty = same_Some 0 empty (sym passed ∙ is) in omega (arith, same));
  counts = λ fits. subst (λ (o : Option ℕ). IsSome o) (sym passed) refl;
}

-- none more was
pub kept-taken : {R : Type 0} (remaining : R → Option (List ℕ)) (old new : Lines R) (bytes : List ℕ) (number : ℕ)
    → Keeps (unread remaining old) (unread remaining new) → new.begun ≡ old.begun → byte_before new ≡ byte_before old → new.passed ≡ old.passed → HasTaken remaining bytes number old → HasTaken remaining bytes number new
kept-taken remaining old new bytes number keeps begun same passed h = record {
  before = h.before;
  left = h.left;
  known = kept-known _ _ h.left keeps h.known;
  text_is = h.text_is;
  records = ap (λ b. records_of b h.left) begun ∙ h.records;
  last = h.last ∙ sym same;
  counted = λ empty is. h.counted empty (sym passed ∙ is);
  counts = λ fits. subst (λ (o : Option ℕ). IsSome o) (sym passed) (h.counts fits);
}

-- what stands before, with bytes more
pub moved-text : (bytes before left taken rest : List ℕ) → bytes ≡ before ++ left → left ≡ taken ++ rest → bytes ≡ (before ++ taken) ++ rest
moved-text bytes before left taken rest e h = e ∙ ap (λ (t : List ℕ). before ++ t) h ∙ sym (append_assoc before taken rest)

-- the line of the next record
pub next-in : {R : Type 0} (remaining : R → Option (List ℕ)) (lines : Lines R) (bytes : List ℕ) (number empty b : ℕ) (tail : List ℕ) (h : HasTaken remaining bytes number lines)
    → lines.passed ≡ Some empty → h.left ≡ b ∷ tail → is_break b ≡ false → (b == 239) ≡ false → BeginsIn bytes (number + 1) (number + 1 + empty)
next-in remaining lines bytes number empty b tail h passed first other mark =
    let place : number ≡ number + 1 - 1 = omega arith in
    record {
      before = h.before;
      rest = h.left;
      text_is = h.text_is;
      begins = ap begins_record first ∙ ap not other;
      records = ap (records_at st.StartRecord) first ∙ sym (begins lines.begun tail b (ap not mark)) ∙ ap (records_of lines.begun) (sym first) ∙ h.records ∙ ap (λ n. drop n (csv_records bytes)) place;
      line_is = omega (arith, h.counted empty passed);
    }

-- a plain line with its end is taken
drop-next : (n : ℕ) (xs rest : List (List (List ℕ))) (x : List (List ℕ)) → x ∷ rest ≡ drop n xs → rest ≡ drop (n + 1) xs
drop-next n xs rest x e = ap (λ (t : List (List (List ℕ))). drop 1 t) e ∙ drop-drop 1 n xs

pub line-taken : {R : Type 0} (remaining : R → Option (List ℕ)) (old new : Lines R) (line taken front bytes : List ℕ) (number : ℕ)
    → Consumes (unread remaining old) (unread remaining new) taken → EndsLine line taken → is_plain line ≡ true → new.begun ≡ true → new.passed ≡ old.passed → taken ≡ front ++ (byte_before new ∷ [])
    → HasTaken remaining bytes number old → HasTaken remaining bytes (number + 1) new
line-taken remaining old new line taken front bytes number takes ended plain begun passed last h =
    let next = consumed _ _ h.left taken takes h.known in
    record {
      before = h.before ++ taken;
      left = next.0;
      known = next.1;
      text_is = moved-text bytes h.before h.left taken next.0 h.text_is next.2;
      records = ap (λ b. records_of b next.0) begun ∙ drop-next number (csv_records bytes) _ (split_commas line) (sym (ended-first old.begun line taken next.0 ended plain) ∙ ap (records_of old.begun) (sym next.2) ∙ h.records);
      last = last-more 0 h.before taken ∙ ap (last_behind _) last ∙ last-one _ front _;
      counted = λ empty is. omega (arith, ends-more 0 h.before taken, plain-ends (last_behind 0 h.before) line taken ended plain, h.counted empty (sym passed ∙ is));
      counts = λ fits. subst (λ (o : Option ℕ). IsSome o) (sym passed) (h.counts fits);
    }

-- its line is that of the next record
pub plain-head : (line text rest : List ℕ) → EndsLine line text → is_plain line ≡ true → (b : ℕ) × (tail : List ℕ) × (text ++ rest ≡ b ∷ tail) × (is_break b ≡ false) × ((b == 239) ≡ false)
plain-head [] text rest ended plain = cc plain
plain-head (b ∷ line) text rest ended plain =
    let mark = (or_parts (is_mark b) (list_any is_mark line) (not-true _ (and_parts _ _ plain).1)).0 in
    let ends = or_parts (b == 13) (b == 10) (or_parts (b == 34) ((b == 13) || (b == 10)) mark).1 in
    let other : is_break b ≡ false = or_from _ _ ends.1 ends.0 in
    let bom : (b == 239) ≡ false = not-true _ (and_parts _ _ plain).0 in
    elim ended [
      | inl e ↦ (b, (line ++ (10 ∷ [])) ++ rest, ap (λ (t : List ℕ). t ++ rest) e, other, bom)
      | inr (inl e) ↦ (b, (line ++ (13 ∷ [])) ++ rest, ap (λ (t : List ℕ). t ++ rest) e, other, bom)
      | inr (inr e) ↦ (b, (line ++ (13 ∷ 10 ∷ [])) ++ rest, ap (λ (t : List ℕ). t ++ rest) e, other, bom)
    ]

pub line-in : {R : Type 0} (remaining : R → Option (List ℕ)) (old : Lines R) (new : Option (List ℕ)) (line taken bytes : List ℕ) (number empty : ℕ)
    → Consumes (unread remaining old) new taken → EndsLine line taken → is_plain line ≡ true → old.passed ≡ Some empty → HasTaken remaining bytes number old → BeginsIn bytes (number + 1) (number + 1 + empty)
line-in remaining old new line taken bytes number empty takes ended plain passed h =
    let next = consumed _ _ h.left taken takes h.known in
    let head = plain-head line taken next.0 ended plain in
    next-in remaining old bytes number empty head.0 head.1 h passed (next.2 ∙ head.2) head.3 head.4

-- a line end is passed over
pub record IsCounted (ends : Bool) (old new : Option ℕ) : Type 0 where
  pub value : (now : ℕ) → new ≡ Some now → (was : ℕ) × (old ≡ Some was) × (now ≡ if ends then was + 1 else was)
  pub counts : (was : ℕ) → old ≡ Some was → was + 1 < 2 ^ 32 → IsSome new

one-end : (p b : ℕ) → ends_behind p (b ∷ []) ≡ if ends_line p b then 1 else 0
unfolding ends_behind
one-end p b = refl

added-if : (t : Bool) (m n was number now : ℕ) → m ≡ if t then 1 else 0 → n ≡ number + was → now ≡ (if t then was + 1 else was) → n + m ≡ number + now
added-if true m n was number now e h k = omega (arith, e, h, k)
added-if false m n was number now e h k = omega (arith, e, h, k)

pub end-passed : {R : Type 0} (remaining : R → Option (List ℕ)) (old new : Lines R) (b : ℕ) (bytes : List ℕ) (number : ℕ)
    → Consumes (unread remaining old) (unread remaining new) (b ∷ []) → is_break b ≡ true → new.begun ≡ true → byte_before new ≡ b → IsCounted (ends_line (byte_before old) b) old.passed new.passed
    → HasTaken remaining bytes number old → HasTaken remaining bytes number new
end-passed remaining old new b bytes number takes is begun last counted h =
    let next = consumed _ _ h.left (b ∷ []) takes h.known in
    let one : ends_behind (last_behind 0 h.before) (b ∷ []) ≡ if ends_line (byte_before old) b then 1 else 0 = one-end _ b ∙ ap (λ n. if ends_line n b then 1 else 0) h.last in
    record {
      before = h.before ++ (b ∷ []);
      left = next.0;
      known = next.1;
      text_is = moved-text bytes h.before h.left (b ∷ []) next.0 h.text_is next.2;
      records = ap (λ t. records_of t next.0) begun ∙ sym (break-records old.begun b next.0 is) ∙ ap (records_of old.begun) (sym next.2) ∙ h.records;
      last = last-one 0 h.before b ∙ sym last;
      counted = λ empty is. (
          let was = counted.value empty is in
          ends-more 0 h.before (b ∷ []) ∙ added-if (ends_line (byte_before old) b) _ _ was.0 number empty one (h.counted was.0 was.1) was.2
          );
      counts = λ fits. (
          let was = some-is old.passed (h.counts fits) in
          let text : length bytes ≡ length h.before + length h.left = ap length h.text_is ∙ length-append h.before h.left in
          let size : length h.left ≡ length (b ∷ next.0) = ap length next.2 in
          counted.counts was.0 was.1 (omega (arith, text, size, h.counted was.0 was.1, ends-few 0 h.before, fits))
          );
    }

-- ---- the bytes that were read ahead
-- the last of some that are taken
pub taken-last : (xs : List ℕ) (at end count : ℕ) → 0 < count → count ≤ length (drop at (take end xs)) → end ≤ length xs
    → take count (drop at (take end xs)) ≡ take (count - 1) (drop at (take end xs)) ++ (slice_index xs (at + count - 1) ∷ [])
taken-last xs at end count some most w =
    let ahead = drop at (take end xs) in
    let size = length-take-le end xs w in
    let room : length ahead ≡ length (take end xs) - at = length-drop at (take end xs) in
    let n : count ≡ count - 1 + 1 = omega (arith, some) in
    let place : at + (count - 1) ≡ at + count - 1 = omega (arith, some) in
    let byte : slice_index ahead (count - 1) ≡ slice_index xs (at + count - 1) =
    get_or-drop at (take end xs) (count - 1) 0 ∙ get_or-take end xs (at + (count - 1)) 0 (omega (arith, some, most, size, room)) ∙ ap (slice_index xs) place in
    ap (λ k. take k ahead) n ∙ take_more ahead (count - 1) 0 (omega (arith, some, most)) ∙ ap (λ b. take (count - 1) ahead ++ (b ∷ [])) byte

-- the first of the bytes that are left
pub first-left : {R : Type 0} (remaining : R → Option (List ℕ)) (lines : Lines R) (left : List ℕ) → unread remaining lines ≡ Some left → lines.at < lines.end → lines.end ≤ length lines.buffer
    → (tail : List ℕ) × (left ≡ slice_index lines.buffer lines.at ∷ tail)
first-left remaining lines left known some within =
    let rest = known-ahead (lines_ahead lines) (remaining lines.source) left known in
    let first = ahead-first lines.buffer lines.at lines.end some within in
    (drop (lines.at + 1) (take lines.end lines.buffer) ++ rest.0, rest.1 ∙ ap (λ (t : List ℕ). t ++ rest.0) first)

-- ---- the way by csv
pub csv-taken : {R : Type 0} (remaining : R → Option (List ℕ)) (text : List ℕ) (number : ℕ) (w : Way R) → is_csv w ≡ true → HasTakenBy remaining text number w
csv-taken remaining text number (way.Lines lines) h = cc h
csv-taken remaining text number (way.Csv records) h = tt

pub csv-empty : {R : Type 0} (first : Option ℕ) (w : Way R) → is_csv w ≡ true → empty_at first w ≡ first
csv-empty first (way.Lines lines) h = cc h
csv-empty first (way.Csv records) h = refl
