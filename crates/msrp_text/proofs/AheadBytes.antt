-- The bytes that are left, with some of them read ahead.
use Rattle.msrp_plan.proofs.Common.{subst, slice_index, Bool, true, false, [], ℕ, List, Option, Some, None, Result, length, drop, take, suc, refl, sym, ap, append_assoc, append-nil, arith, length-drop, set, drop-append-le, drop_more, get_or-take, drop-take, length-take-le, take-take, drop-drop, take-append-le, take_all, none-some, same_Some, Consumes, Keeps, prepend_known}
use Rattle.std.proofs.Common.{if◌then◌else◌, ◌≡◌, ◌++◌, ◌∷◌, ◌∙◌, ◌≤◌, ◌<◌, ◌+◌, ◌-◌, take-append-drop}
use Rattle.std.proofs.lemmas.List.{drop_at, drop-set}
use Rattle.std.proofs.lemmas.List.Edits.{take-paste}
use Rattle.std.specs.Io.KnownBytes.{ReadConsumes}
use Rattle.std.specs.List.{copy_within}
use borrow.Rule.Slice.PartMut.{put_mid}

pub none-ahead : (known : Option (List ℕ)) → prepend_known [] known ≡ known
none-ahead None = refl
none-ahead (Some bytes) = refl

-- bytes read ahead that are taken
pub taken-ahead : (known : Option (List ℕ)) (ahead text rest : List ℕ) → ahead ≡ text ++ rest → Consumes (prepend_known ahead known) (prepend_known rest known) text
taken-ahead None ahead text rest e = tt
taken-ahead (Some bytes) ahead text rest e = rw e (append_assoc text rest bytes)

-- bytes that a read gave, after those read ahead
pub read-ahead : (old new : Option (List ℕ)) (ahead more after : List ℕ) → Consumes old new more → after ≡ ahead ++ more → Keeps (prepend_known ahead old) (prepend_known after new)
read-ahead None new ahead more after h e = tt
read-ahead (Some xs) None ahead more after h e = absurd h
read-ahead (Some xs) (Some ys) ahead more after h e = rw (e, h) (append_assoc ahead more ys)

-- a read that failed, after the bytes read ahead were moved
pub moved-ahead : (old new : Option (List ℕ)) (ahead after : List ℕ) → Keeps old new → after ≡ ahead → Keeps (prepend_known ahead old) (prepend_known after new)
moved-ahead None new ahead after h e = tt
moved-ahead (Some xs) None ahead after h e = absurd h
moved-ahead (Some xs) (Some ys) ahead after h e = rw (e, h) refl

-- the bytes from a place to another
pub between-bytes : (xs : List ℕ) (at end : ℕ) → at ≤ end → drop at (take end xs) ≡ take (end - at) (drop at xs)
between-bytes xs at end h = ap (λ n. drop at (take n xs)) (omega arith) ∙ drop-take at (end - at) xs

-- a front that was moved down, and new bytes after it
pub moved-front : (xs d : List ℕ) (at end front : ℕ) → at ≤ end → end ≤ length xs → front ≤ at → d ≡ copy_within xs at end front
    → take (front + (end - at)) d ≡ take front xs ++ drop at (take end xs)
moved-front xs d at end front h w f e =
    let n : end - at ≤ length (drop at xs) = omega (arith, length-drop at xs) in
    let l : front ≤ length xs = omega arith in
    rw (e, between-bytes xs at end h) (take-paste xs front (drop at xs) (end - at) l n)

-- the bytes after a front
pub after-front : (xs ys : List ℕ) (front : ℕ) → front ≤ length xs → drop front (take front xs ++ ys) ≡ ys
after-front xs ys front h = drop_at (take front xs) ys front (length-take-le front xs h)

-- a front, and some of what comes after it
take-past : (p q : List ℕ) (m n : ℕ) → n ≡ length p + m → take n (p ++ q) ≡ p ++ take m q
take-past [] q m n e = ap (λ k. take k q) (omega arith)
take-past (x ∷ p) q m n e =
    let k : n ≡ suc (length p + m) = omega arith in
    rw k (ap (λ (t : List ℕ). x ∷ t) (take-past p q m (length p + m) refl))

-- a read behind a front that was moved down
filled-front : (xs d buf : List ℕ) (at end front k more : ℕ) → at ≤ end → end ≤ length xs → front ≤ at → d ≡ copy_within xs at end front → more ≤ length buf
    → drop front (take (front + (end - at) + more) (put_mid (front + (end - at)) k d buf)) ≡ drop at (take end xs) ++ take more buf
filled-front xs d buf at end front k more h w f e m =
    let ahead = drop at (take end xs) in
    let moved = moved-front xs d at end front h w f e in
    let size : length ahead ≡ end - at = omega (arith, length-drop at (take end xs), length-take-le end xs w) in
    let l : front ≤ length xs = omega arith in
    let a : front + (end - at) + more ≡ front + (end - at + more) = omega arith in
    rw (a, drop-take front (end - at + more), moved, append_assoc (take front xs) ahead, after-front xs _ front l)
    (take-past ahead _ more (end - at + more) (omega arith) ∙ ap (λ (t : List ℕ). ahead ++ t) (take-append-le more buf _ m))

-- the first of the bytes from a place to another
pub ahead-first : (xs : List ℕ) (at end : ℕ) → at < end → end ≤ length xs → drop at (take end xs) ≡ slice_index xs at ∷ drop (at + 1) (take end xs)
ahead-first xs at end h w =
    let within : at < length (take end xs) = omega (arith, h, length-take-le end xs w) in
    drop_more (take end xs) at 0 within ∙ ap (λ b. b ∷ drop (at + 1) (take end xs)) (get_or-take end xs at 0 h)

-- a read behind bytes that were moved to the front of the buffer, from one before the next on
moved-whole : (xs d buf : List ℕ) (start end k more : ℕ) → start ≤ end → end ≤ length xs → d ≡ copy_within xs start end 0 → more ≤ length buf
    → take (end - start + more) (put_mid (end - start) k d buf) ≡ drop start (take end xs) ++ take more buf
moved-whole xs d buf start end k more h w e m =
    let none : 0 + (end - start) ≡ end - start = omega arith in
    subst (λ n. take (n + more) (put_mid n k d buf) ≡ drop start (take end xs) ++ take more buf) none (filled-front xs d buf start end 0 k more h w (omega arith) e m)

pub filled-behind : (xs d buf : List ℕ) (at end front start k more : ℕ) → start + front ≡ at → at ≤ end → end ≤ length xs → d ≡ copy_within xs start end 0 → more ≤ length buf
    → drop front (take (end - start + more) (put_mid (end - start) k d buf)) ≡ drop at (take end xs) ++ take more buf
filled-behind xs d buf at end front start k more p h w e m =
    let size : length (drop start (take end xs)) ≡ end - start = omega (arith, length-drop start (take end xs), length-take-le end xs w) in
    ap (λ (t : List ℕ). drop front t) (moved-whole xs d buf start end k more (omega (arith, p, h)) w e m)
    ∙ drop-append-le front (drop start (take end xs)) (take more buf) (omega (arith, p, h, size))
    ∙ ap (λ (t : List ℕ). t ++ take more buf) (drop-drop front start (take end xs) ∙ ap (λ n. drop n (take end xs)) p)

-- where it failed
pub kept-behind : (xs d buf : List ℕ) (at end front start k : ℕ) → start + front ≡ at → at ≤ end → end ≤ length xs → d ≡ copy_within xs start end 0
    → drop front (take (end - start) (put_mid (end - start) k d buf)) ≡ drop at (take end xs)
kept-behind xs d buf at end front start k p h w e =
    let z : end - start ≡ end - start + 0 = omega arith in
    ap (λ n. drop front (take n (put_mid (end - start) k d buf))) z ∙ filled-behind xs d buf at end front start k 0 p h w e (omega arith) ∙ append-nil _

-- the byte before the next one is kept
pub before-kept : (xs d buf : List ℕ) (at end front start k : ℕ) → front ≡ 1 → start + front ≡ at → at ≤ end → end ≤ length xs → d ≡ copy_within xs start end 0
    → slice_index (put_mid (end - start) k d buf) (front - 1) ≡ slice_index xs (at - 1)
before-kept xs d buf at end front start k one p h w e =
    let new = put_mid (end - start) k d buf in
    let some : start < end = omega (arith, one, p, h) in
    let first : front - 1 ≡ 0 = omega (arith, one) in
    let last : start ≡ at - 1 = omega (arith, one, p) in
    let front_is = moved-whole xs d buf start end k 0 (omega (arith, some)) w e (omega arith) in
    ap (slice_index new) first
    ∙ sym (get_or-take (end - start + 0) new 0 0 (omega (arith, some)))
    ∙ ap (λ (t : List ℕ). slice_index t 0) (front_is ∙ ap (λ (t : List ℕ). t ++ take 0 buf) (ahead-first xs start end some w))
    ∙ ap (slice_index xs) last

pub before-same : (begun : Bool) (x y : ℕ) → (begun ≡ true → x ≡ y) → (if begun then x else 0) ≡ (if begun then y else 0)
before-same true x y h = h refl
before-same false x y h = refl

-- a read of the reader underneath, where nothing is read ahead
pub read-through : {E : Type 0} (old new : Option (List ℕ)) (ahead buf : List ℕ) (r : Result ℕ E) → ahead ≡ [] → ReadConsumes old new r buf → ReadConsumes (prepend_known ahead old) (prepend_known ahead new) r buf
read-through old new ahead buf r e h =
    rw (e, none-ahead old, none-ahead new) h

-- a place with nothing after it
pub none-left : (xs : List ℕ) (at end : ℕ) → at ≡ end → drop at (take end xs) ≡ []
none-left xs at end e = ap (λ n. drop at (take n xs)) (omega arith) ∙ drop-take at 0 xs

-- bytes read ahead that were met
pub met-ahead : (xs d text : List ℕ) (at end count : ℕ) → at ≤ end → d ≡ xs → count ≡ length text → count ≤ end - at → take (at + count - at) (drop at d) ≡ take count text
    → drop at (take end xs) ≡ text ++ drop (at + count) (take end xs)
met-ahead xs d text at end count h e n m t =
    let ahead = drop at (take end xs) in
    let one : at + count - at ≡ count = omega arith in
    let same : take count (drop at xs) ≡ take count text = rw (one, e) at t in
    let all : take count text ≡ text = take_all count text (omega arith) in
    let first : take count ahead ≡ text = ap (λ (l : List ℕ). take count l) (between-bytes xs at end h) ∙ take-take count (end - at) (drop at xs) m ∙ same ∙ all in
    sym (take-append-drop count ahead) ∙ ap (λ (l : List ℕ). l ++ drop count ahead) first ∙ ap (λ (l : List ℕ). text ++ l) (drop-drop count at (take end xs))

-- a line feed in front of the bytes read ahead
pub fed-front : (xs : List ℕ) (at end : ℕ) → 1 ≤ at → at ≤ end → end ≤ length xs → drop (at - 1) (take end (set xs (at - 1) 10)) ≡ 10 ∷ drop at (take end xs)
fed-front xs at end h k w =
    let n : end ≡ at - 1 + suc (end - at) = omega arith in
    let one : at - 1 + 1 ≡ at = omega arith in
    let lt : at - 1 < length xs = omega arith in
    ap (λ m. drop (at - 1) (take m (set xs (at - 1) 10))) n ∙ drop-take (at - 1) (suc (end - at)) (set xs (at - 1) 10)
    ∙ ap (λ (l : List ℕ). take (suc (end - at)) l) (drop-set xs (at - 1) 10 lt)
    ∙ ap (λ (l : List ℕ). 10 ∷ l) (ap (λ m. take (end - at) (drop m xs)) one ∙ sym (between-bytes xs at end k))

-- bytes taken off those that were read ahead
pub taken-bytes : (known : Option (List ℕ)) (xs : List ℕ) (at count : ℕ) → Consumes (prepend_known (drop at xs) known) (prepend_known (drop (at + count) xs) known) (take count (drop at xs))
taken-bytes known xs at count = taken-ahead known (drop at xs) (take count (drop at xs)) (drop (at + count) xs) (sym (take-append-drop count (drop at xs)) ∙ ap (λ (l : List ℕ). take count (drop at xs) ++ l) (drop-drop count at xs))

-- known bytes that stay, known by what they were
pub kept-known : (old new : Option (List ℕ)) (bytes : List ℕ) → Keeps old new → old ≡ Some bytes → new ≡ Some bytes
kept-known None new bytes h e = absurd (none-some bytes e)
kept-known (Some xs) None bytes h e = absurd h
kept-known (Some xs) (Some ys) bytes h e = rw h e

-- the known bytes begin with those that were read ahead
pub known-ahead : (ahead : List ℕ) (known : Option (List ℕ)) (bytes : List ℕ) → prepend_known ahead known ≡ Some bytes → (more : List ℕ) × (bytes ≡ ahead ++ more)
known-ahead ahead None bytes e = absurd (none-some bytes e)
known-ahead ahead (Some more) bytes e = (more, sym (same_Some (ahead ++ more) bytes e))
