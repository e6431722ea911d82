-- The queue of a resource after one row more: a request joins its end, a release takes its front
-- away.
use Rattle.msrp_plan.specs.Common.{ℕ, Bool, true, false, cond, List, [], Option, Some, None, length, drop, filter_map, cons_option, is_on, is_request, is_release, requester, is_release_of, fifo, is_free, is_first}
use Rattle.msrp_plan.specs.declared.ids.JobId.{JobId}
use Rattle.msrp_plan.specs.declared.rows.Kind.{Kind}
use Rattle.msrp_plan.specs.declared.rows.Row.{Row}
use Rattle.std.proofs.Common.{◌≡◌, ◌+◌, ◌≤◌, ◌<◌, ◌&&◌, ◌∷◌, ◌++◌, refl, ap, sym, ◌∙◌, arith, append-nil, length-append, length-drop}
use Rattle.std.specs.List.{count_by}
use Rattle.std.proofs.lemmas.List.{drop-append-le, drop-drop}
use Rattle.std.proofs.lemmas.List.Sums.{sum_by_push}
use Rattle.std.proofs.lemmas.List.Elements.{filter_map-append}
use Rattle.msrp_plan.proofs.Jobs.JobTests.{same_is, same_self}

-- how often the resource was released, and who requested it
abbrev pub released : ℕ → List Row → ℕ
released g pre = count_by (is_release_of g) pre

-- the jobs that requested it, in order
abbrev pub requested : ℕ → List Row → List JobId
requested g pre = filter_map (requester g) pre

-- no more releases than requests
abbrev pub IsFed : ℕ → List Row → Type 0
IsFed g pre = released g pre ≤ length (requested g pre)

-- the releases after one row more
released_push : (g : ℕ) (pre : List Row) (r : Row) (b : Bool) → is_release_of g r ≡ b → released g (pre ++ r ∷ []) ≡ released g pre + cond b 1 0
released_push g pre r b e = sum_by_push (λ w. cond (is_release_of g w) 1 0) pre r ∙ ap (λ c. released g pre + cond c 1 0) e

-- ---- a row that releases it not, or requests it not
pub not_releasing : (g : ℕ) (r : Row) (k : Kind) → r.kind ≡ k → is_release k ≡ false → is_release_of g r ≡ false
not_releasing g r k e n = any_place (is_on g r.res)
  where
    any_place : (b : Bool) → (b && is_release r.kind) ≡ false
    any_place true = ap is_release e ∙ n
    any_place false = refl

-- a release of it is one
pub releasing : (g : ℕ) (r : Row) (k : Kind) → is_on g r.res ≡ true → r.kind ≡ k → is_release k ≡ true → is_release_of g r ≡ true
releasing g r k on e n = ap (λ c. c && is_release r.kind) on ∙ (ap is_release e ∙ n)

-- a row that requests it tells who
pub requesting : (g : ℕ) (r : Row) (x : JobId) (k : Kind) → is_on g r.res ≡ true → r.kind ≡ k → is_request k ≡ true → r.job ≡ Some x → requester g r ≡ Some x
requesting g r x k on e n j = ap (λ c. cond (c && is_request r.kind) r.job None) on ∙ (ap (λ c. cond c r.job None) (ap is_request e ∙ n) ∙ j)

-- a row that is no request of it tells nobody
pub not_requesting : (g : ℕ) (r : Row) (k : Kind) → is_on g r.res ≡ true → r.kind ≡ k → is_request k ≡ false → requester g r ≡ None
not_requesting g r k on e n = ap (λ c. cond (c && is_request r.kind) r.job None) on ∙ ap (λ c. cond c r.job None) (ap is_request e ∙ n)

-- ---- the queue after the row
no_release : (g : ℕ) (pre : List Row) (r : Row) → is_release_of g r ≡ false → released g (pre ++ r ∷ []) ≡ released g pre
no_release g pre r e = let k : released g (pre ++ r ∷ []) ≡ released g pre + 0 = released_push g pre r false e in omega (arith, k)

-- no request more
requested_same : (g : ℕ) (pre : List Row) (r : Row) → requester g r ≡ None → requested g (pre ++ r ∷ []) ≡ requested g pre
requested_same g pre r e = filter_map-append (requester g) pre (r ∷ []) ∙ (ap (λ o. requested g pre ++ cons_option o []) e ∙ append-nil (requested g pre))

-- one request more
requested_more : (g : ℕ) (pre : List Row) (r : Row) (x : JobId) → requester g r ≡ Some x → requested g (pre ++ r ∷ []) ≡ requested g pre ++ x ∷ []
requested_more g pre r x e = filter_map-append (requester g) pre (r ∷ []) ∙ ap (λ o. requested g pre ++ cons_option o []) e

-- a row that neither requests nor releases it leaves the queue
pub fifo_same : (g : ℕ) (pre : List Row) (r : Row) → is_release_of g r ≡ false → requester g r ≡ None → fifo g (pre ++ r ∷ []) ≡ fifo g pre
fifo_same g pre r a b = ap (λ m. drop m (requested g (pre ++ r ∷ []))) (no_release g pre r a) ∙ ap (drop (released g pre)) (requested_same g pre r b)

-- a row of another resource, or of none
pub fifo_off : (g : ℕ) (pre : List Row) (r : Row) → is_on g r.res ≡ false → fifo g (pre ++ r ∷ []) ≡ fifo g pre
fifo_off g pre r e = fifo_same g pre r (ap (λ c. c && is_release r.kind) e) (ap (λ c. cond (c && is_request r.kind) r.job None) e)

-- who requests it joins the end
pub fifo_request : (g : ℕ) (pre : List Row) (r : Row) (x : JobId) → IsFed g pre → is_release_of g r ≡ false → requester g r ≡ Some x → fifo g (pre ++ r ∷ []) ≡ fifo g pre ++ x ∷ []
fifo_request g pre r x fed a b =
    ap (λ m. drop m (requested g (pre ++ r ∷ []))) (no_release g pre r a) ∙ (ap (drop (released g pre)) (requested_more g pre r x b) ∙ drop-append-le (released g pre) (requested g pre) (x ∷ []) fed)

-- a release takes the front away
pub fifo_release : (g : ℕ) (pre : List Row) (r : Row) → is_release_of g r ≡ true → requester g r ≡ None → fifo g (pre ++ r ∷ []) ≡ drop 1 (fifo g pre)
fifo_release g pre r a b =
    ap (λ m. drop m (requested g (pre ++ r ∷ []))) (released_push g pre r true a) ∙ (ap (drop (released g pre + 1)) (requested_same g pre r b) ∙ sym (drop-drop 1 (released g pre) (requested g pre)))

-- ---- no more releases than requests: a release comes while somebody stands in the queue
longer : (g : ℕ) (pre : List Row) (r : Row) → length (requested g pre) ≤ length (requested g (pre ++ r ∷ []))
longer g pre r = let e = ap length (filter_map-append (requester g) pre (r ∷ [])) ∙ length-append (requested g pre) (filter_map (requester g) (r ∷ [])) in omega (arith, e)

-- a queue that is not empty has somebody
queue_left : (f : List JobId) → is_free f ≡ false → 0 < length f
queue_left [] h = absurd (cc)
queue_left (x ∷ f) h = omega arith

-- by whether the row releases it
fed_cases : (g : ℕ) (pre : List Row) (r : Row) (b : Bool) → released g (pre ++ r ∷ []) ≡ released g pre + cond b 1 0 → IsFed g pre → (b ≡ true → is_free (fifo g pre) ≡ false) → IsFed g (pre ++ r ∷ [])
fed_cases g pre r false m fed h = let l = longer g pre r in let k : released g (pre ++ r ∷ []) ≡ released g pre + 0 = m in omega (arith, k, l, fed)
fed_cases g pre r true m fed h =
    let l = longer g pre r in
    let k : released g (pre ++ r ∷ []) ≡ released g pre + 1 = m in
    let q = queue_left (fifo g pre) (h refl) in
    let d : length (fifo g pre) ≡ _ = length-drop (released g pre) (requested g pre) in
    omega (arith, k, l, fed, q, d)

-- a release finds somebody in the queue, so releases stay within requests
pub fed_push : (g : ℕ) (pre : List Row) (r : Row) → IsFed g pre → (is_release_of g r ≡ true → is_free (fifo g pre) ≡ false) → IsFed g (pre ++ r ∷ [])
fed_push g pre r fed h = fed_cases g pre r (is_release_of g r) (released_push g pre r (is_release_of g r) refl) fed h

-- ---- the front of a queue
-- one job stands there
pub first_same : (f : List JobId) (i j : JobId) → is_first f (Some i) ≡ true → is_first f (Some j) ≡ true → i ≡ j
first_same [] i j h k = absurd (cc)
first_same (x ∷ f) i j h k = same_is i x h ∙ sym (same_is j x k)

-- it stays there when a job joins
pub first_push : (f : List JobId) (x : JobId) (j : Option JobId) → is_first f j ≡ true → is_first (f ++ x ∷ []) j ≡ true
first_push [] x j h = absurd (cc)
first_push (i ∷ f) x j h = h

-- nobody stands there while the resource is free
pub first_none : (f : List JobId) (j : Option JobId) → is_free f ≡ true → is_first f j ≡ true → ⊥
first_none [] j e h = cc
first_none (i ∷ f) j e h = cc

-- where somebody stands there it is not free
pub first_some : (f : List JobId) (j : Option JobId) → is_first f j ≡ true → is_free f ≡ false
first_some [] j h = absurd (cc)
first_some (i ∷ f) j h = refl

-- whoever joins an empty queue stands there
pub first_alone : (f : List JobId) (x : JobId) → is_free f ≡ true → is_first (f ++ x ∷ []) (Some x) ≡ true
first_alone [] x e = same_self x
first_alone (i ∷ f) x e = absurd (cc)
