-- Texts that are compared by the bytes at their ends.
use Rattle.msrp_plan.proofs.Common.{ℕ, List, length, take, drop, refl, sym, ap, arith, take-take, take_at}
use Rattle.std.proofs.Common.{◌≡◌, ◌≤◌, ◌+◌, ◌-◌, ◌++◌, ◌∙◌, take-append-drop}
use Rattle.std.proofs.lemmas.List.{length-append}

-- two lists of one length, which is twice that of a chunk at most, are the same where their first
-- and their last chunks are
pub ends-same : (k : ℕ) (a b : List ℕ) → length a ≡ length b → length a ≤ k + k → take k a ≡ take k b → drop (length a - k) a ≡ drop (length b - k) b → a ≡ b
ends-same k a b size few first last =
    let m = length a - k in
    let front : take m a ≡ take m b = sym (take-take m k a (omega (arith, few))) ∙ ap (take m) first ∙ take-take m k b (omega (arith, few)) in
    let back : drop m a ≡ drop m b = last ∙ ap (λ n. drop (n - k) b) (sym size) in
    sym (take-append-drop m a) ∙ ap (λ (t : List ℕ). t ++ drop m a) front ∙ ap (λ (t : List ℕ). take m b ++ t) back ∙ take-append-drop m b

-- a text whose first bytes are those of another begins with it
pub front-met : (text front : List ℕ) → take (length front) text ≡ front → (after : List ℕ) × (text ≡ front ++ after)
front-met text front same = (drop (length front) text, sym (take-append-drop (length front) text) ∙ ap (λ (t : List ℕ). t ++ drop (length front) text) same)

pub front-same : (text front after : List ℕ) → text ≡ front ++ after → take (length front) text ≡ front
front-same text front after is = ap (take (length front)) is ∙ take_at front after (length front) refl

pub front-fits : (text front after : List ℕ) → text ≡ front ++ after → length front ≤ length text
front-fits text front after is = let size = ap length is ∙ length-append front after in omega (arith, size)
