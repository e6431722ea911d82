-- Cores in a queue, by their places.
use Rattle.std.proofs.Common.{◌≡◌, ◌≢◌, ◌+◌, ◌∷◌, ◌++◌, ◌∙◌, ◌⊎◌}
use Rattle.msrp_plan.proofs.Common.{ℕ, zero, suc, List, [], Some, refl, ap, sym, arith, length, slice_get, inl, inr, none-some, same_Some, IsAmong, IsFirst, without_first}

-- who stands at a place is among them
pub among_at : (q : List ℕ) (i c : ℕ) → slice_get q i ≡ Some c → IsAmong q c
among_at [] i c h = absurd (none-some c h)
among_at (d ∷ q) zero c h = inl (same_Some d c h)
among_at (d ∷ q) (suc i) c h = inr (among_at q i c h)

-- who is among them stands at a place
pub place_of : (q : List ℕ) (c : ℕ) → IsAmong q c → (i : ℕ) × (slice_get q i ≡ Some c)
place_of [] c h = absurd h
place_of (d ∷ q) c (inl e) = (zero, ap (λ n. Some n) e)
place_of (d ∷ q) c (inr h) = let rest = place_of q c h in (suc rest.0, rest.1)

-- the first place
pub first_at : (q : List ℕ) (c : ℕ) → slice_get q 0 ≡ Some c → IsFirst q c
first_at [] c h = absurd (none-some c h)
first_at (d ∷ q) c h = same_Some d c h

pub at_first : (q : List ℕ) (c : ℕ) → IsFirst q c → slice_get q 0 ≡ Some c
at_first [] c h = absurd h
at_first (d ∷ q) c h = ap (λ n. Some n) h

pub first_among : (q : List ℕ) (c : ℕ) → IsFirst q c → IsAmong q c
first_among [] c h = h
first_among (d ∷ q) c h = inl h

pub one_first : (q : List ℕ) (c d : ℕ) → IsFirst q c → IsFirst q d → c ≡ d
one_first [] c d h k = absurd h
one_first (e ∷ q) c d h k = sym h ∙ k

-- ---- one more at the end
pub among_push : (q : List ℕ) (c d : ℕ) → IsAmong q d → IsAmong (q ++ c ∷ []) d
among_push [] c d h = absurd h
among_push (e ∷ q) c d (inl h) = inl h
among_push (e ∷ q) c d (inr h) = inr (among_push q c d h)

pub among_pushed : (q : List ℕ) (c d : ℕ) → c ≢ d → IsAmong (q ++ c ∷ []) d → IsAmong q d
among_pushed [] c d ne (inl e) = absurd (ne e)
among_pushed [] c d ne (inr h) = absurd h
among_pushed (e ∷ q) c d ne (inl h) = inl h
among_pushed (e ∷ q) c d ne (inr h) = inr (among_pushed q c d ne h)

pub among_last : (q : List ℕ) (c : ℕ) → IsAmong (q ++ c ∷ []) c
among_last [] c = inl refl
among_last (d ∷ q) c = inr (among_last q c)

pub first_push : (q : List ℕ) (c d : ℕ) → IsFirst q d → IsFirst (q ++ c ∷ []) d
first_push [] c d h = absurd h
first_push (e ∷ q) c d h = h

-- who is first with somebody at the end was first, or is the one at the end of none
pub first_pushed : (q : List ℕ) (c d : ℕ) → IsFirst (q ++ c ∷ []) d → IsFirst q d ⊎ ((q ≡ []) × (c ≡ d))
first_pushed [] c d h = inr (refl, h)
first_pushed (e ∷ q) c d h = inl h

pub place_pushed : (q : List ℕ) (c d i : ℕ) → slice_get (q ++ c ∷ []) i ≡ Some d → (slice_get q i ≡ Some d) ⊎ ((i ≡ length q) × (c ≡ d))
place_pushed [] c d zero h = inr (refl, same_Some c d h)
place_pushed [] c d (suc i) h = absurd (none-some d h)
place_pushed (e ∷ q) c d zero h = inl h
place_pushed (e ∷ q) c d (suc i) h = place_more (place_pushed q c d i h)
  where
    place_more : (slice_get q i ≡ Some d) ⊎ ((i ≡ length q) × (c ≡ d)) → (slice_get (e ∷ q) (suc i) ≡ Some d) ⊎ ((suc i ≡ length (e ∷ q)) × (c ≡ d))
    place_more (inl h) = inl h
    place_more (inr h) = inr (ap suc h.0, h.1)

-- ---- without the first
pub place_rest : (q : List ℕ) (i d : ℕ) → slice_get (without_first q) i ≡ Some d → slice_get q (suc i) ≡ Some d
place_rest [] i d h = absurd (none-some d h)
place_rest (c ∷ q) i d h = h

pub among_rest : (q : List ℕ) (d : ℕ) → IsAmong (without_first q) d → IsAmong q d
among_rest [] d h = h
among_rest (c ∷ q) d h = inr h

pub rest_among : (q : List ℕ) (c d : ℕ) → IsFirst q c → c ≢ d → IsAmong q d → IsAmong (without_first q) d
rest_among [] c d f ne h = h
rest_among (e ∷ q) c d f ne (inl h) = absurd (ne (sym f ∙ h))
rest_among (e ∷ q) c d f ne (inr h) = h

pub length_rest : (q : List ℕ) (c : ℕ) → IsFirst q c → length q ≡ length (without_first q) + 1
length_rest [] c h = absurd h
length_rest (d ∷ q) c h = omega arith
