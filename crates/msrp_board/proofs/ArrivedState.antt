-- What a seat keeps of a core after its arrival.
use Rattle.std.proofs.Common.{◌==◌, ◌||◌, ◌≡◌, ◌∷◌, ◌∙◌}
use Rattle.msrp_plan.proofs.Common.{ℕ, suc, List, [], Bool, false, refl, sym, ap, arith, ne_eqb, list_any}
use Rattle.msrp_board.proofs.Common.{CoreState, Entry, Page, TicksNewest, page_with_arrival, state_of}
use Rattle.msrp_board.proofs.Kept.{ticks_more}

-- none of them is r
pub none_at : (r : ℕ) (es : List Entry) → TicksNewest r es → list_any (λ e. e.tick == r) es ≡ false
none_at r [] k = refl
none_at r (e ∷ es) k = let h = k.0 in ap (λ b. b || list_any (λ e. e.tick == r) es) (ne_eqb e.tick r (λ q. omega (arith, h, q))) ∙ none_at r es (ticks_more e.tick r es k.1 (omega (arith, h)))

-- after an arrival the core has not acted in its next tick
pub arrived_state : (x : CoreState) (b : Page) (t : ℕ) → t ≡ suc x.tick → x ≡ state_of b → TicksNewest (suc b.tick) b.newest
    → record { tick = t; claim = x.claim; admitted = false; stopped = x.stopped; acted = false } ≡ state_of (page_with_arrival b)
arrived_state x b t is e k = ap (λ (n : ℕ). state n false x) is ∙ ap (λ (y : CoreState). state (suc y.tick) false y) e ∙ ap (λ (a : Bool). state (suc b.tick) a (state_of b)) (sym (none_at (suc b.tick) b.newest k))
  where
    state : ℕ → Bool → CoreState → CoreState
    state n a y = record { tick = n; claim = y.claim; admitted = false; stopped = y.stopped; acted = a }
