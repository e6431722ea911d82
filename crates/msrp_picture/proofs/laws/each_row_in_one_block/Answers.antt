-- Blocks, taken apart into their ticks.
use Rattle.std.proofs.Common.{◌≡◌, ◌+◌, ◌-◌, ◌≤◌, ◌∷◌, ◌++◌, ◌∙◌}
use Rattle.msrp_plan.proofs.Common.{option_map, ℕ, Bool, true, false, cond, List, [], Option, Some, None, map, append_assoc, ap, refl, sym, arith, and_parts, map-append, AllByRecursion, cons_option, flat_map, range_with_len, same_choice_is, same_res_is, range_more, same_kind_is}
use Rattle.msrp_picture.proofs.Common.{Block, JobId, Lane, Look, ResId, Row, eqb-true, goes_on, joined, look_of, merged, same_look, shown_rows, ticks_of}
use Rattle.msrp_picture.specs.declared.shapes.Look.TheVariants.{Ceiling, Does, First, Runs}
use Rattle.msrp_picture.proofs.laws.each_row_in_one_block.Goals as goal

-- what shows the same
same_look_is : (a b : Look) → same_look a b ≡ true → a ≡ b
same_look_is Runs Runs e = refl
same_look_is (Does k) (Does l) e = ap Does (same_kind_is k l e)
same_look_is (First n) (First m) e = ap First (eqb-true n m e)
same_look_is (Ceiling n) (Ceiling m) e = ap Ceiling (eqb-true n m e)
same_look_is _ _ e = absurd (cc)

-- ---- one tick of a lane
record IsTickOf (there : Lane) (shade : Bool) (s : Block) : Type 0 where
  whole : s.end ≡ s.first + 1
  lane : s.lane ≡ there
  legal : s.is_legal ≡ shade

-- a block by its parts
abbrev whole_of : ℕ → ℕ → Lane → Look → Bool → Option JobId → Option ResId → Block
whole_of a b lane look legal job res = record { first = a; end = b; lane = lane; look = look; is_legal = legal; job = job; res = res }

one-tick : (a b n : ℕ) (s : Block) → n ≡ 1 → b ≡ a + 1 → map (λ t. record s { first = t; end = t + 1 }) (range_with_len a n) ≡ record s { first = a; end = b } ∷ []
one-tick a b n s e f = ap (λ k. map (λ t. record s { first = t; end = t + 1 }) (range_with_len a k)) e ∙ ap (λ k. record s { first = a; end = k } ∷ []) (sym f)

one : (s : Block) → s.end ≡ s.first + 1 → ticks_of s ≡ s ∷ []
one s e = one-tick s.first s.end (s.end - s.first) s (omega (arith, e)) e

-- ---- a block that a tick continues
same-parts : (a b e : ℕ) (lane there : Lane) (look what : Look) (legal shade : Bool) (job who : Option JobId) (res on : Option ResId) → lane ≡ there → look ≡ what → legal ≡ shade → job ≡ who → res ≡ on → b ≡ e
    → whole_of a b lane look legal job res ≡ whole_of a e there what shade who on
same-parts a b e lane there look what legal shade job who res on l k s j g n = cc

more-ticks : {X : Type 0} (f : ℕ → X) (a n m b : ℕ) → m ≡ n + 1 → b ≡ a + n → map f (range_with_len a m) ≡ map f (range_with_len a n) ++ f b ∷ []
more-ticks f a n m b e h =
    ap (λ k. map f (range_with_len a k)) e
    ∙ (ap (map f) (range_more a n)
    ∙ (map-append f (range_with_len a n) ((a + n) ∷ [])
    ∙ ap (λ k. map f (range_with_len a n) ++ f k ∷ []) (sym h)))

grown : (s t : Block) → s.first ≤ s.end → s.lane ≡ t.lane → s.is_legal ≡ t.is_legal → t.end ≡ t.first + 1 → goes_on s t ≡ true → ticks_of (record s { end = t.end }) ≡ ticks_of s ++ t ∷ []
grown s t low lane legal whole e =
    let parts = and_parts _ _ e in
    let rest = and_parts _ _ parts.1 in
    let last = and_parts _ _ rest.1 in
    let next = eqb-true s.end t.first parts.0 in
    more-ticks (λ k. record s { first = k; end = k + 1 }) s.first (s.end - s.first) (t.end - s.first) t.first (omega (arith, next, whole, low)) (omega (arith, next, low))
    ∙ ap (λ x. ticks_of s ++ x ∷ []) (same-parts t.first (t.first + 1) t.end s.lane t.lane s.look t.look s.is_legal t.is_legal s.job t.job s.res t.res lane (same_look_is s.look t.look rest.0) legal (same_choice_is s.job t.job last.0) (same_res_is s.res t.res last.1) (sym whole))

-- ---- stretches
step : (s t : Block) (rest : List Block) (b : Bool) → goes_on s t ≡ b → t.end ≡ t.first + 1
    → (goes_on s t ≡ true → flat_map ticks_of (joined (record s { end = t.end }) rest) ≡ ticks_of s ++ (t ∷ rest)) → flat_map ticks_of (joined t rest) ≡ ticks_of t ++ rest
    → flat_map ticks_of (cond b (joined (record s { end = t.end }) rest) (s ∷ joined t rest)) ≡ ticks_of s ++ (t ∷ rest)
step s t rest true e whole further before = further e
step s t rest false e whole further before = ap (λ xs. ticks_of s ++ xs) (before ∙ ap (λ xs. xs ++ rest) (one t whole))

joined-apart : (lane : Lane) (legal : Bool) (s : Block) (rest : List Block) → s.first ≤ s.end → s.lane ≡ lane → s.is_legal ≡ legal → AllByRecursion (IsTickOf lane legal) rest → flat_map ticks_of (joined s rest) ≡ ticks_of s ++ rest
unfolding joined
joined-apart lane legal s [] low r l all = refl
joined-apart lane legal s (t ∷ rest) low r l all =
    let tick = all.0 in
    let alike = r ∙ sym tick.lane in
    let shaded = l ∙ sym tick.legal in
    step s t rest (goes_on s t) refl tick.whole
    (λ e. let next = eqb-true s.end t.first (and_parts _ _ e).0 in
    let whole = tick.whole in
    joined-apart lane legal (record s { end = t.end }) rest (omega (arith, next, whole, low)) r l all.1
    ∙ (ap (λ xs. xs ++ rest) (grown s t low alike shaded tick.whole e) ∙ append_assoc (ticks_of s) (t ∷ []) rest))
    (let whole = tick.whole in joined-apart lane legal t rest (omega (arith, whole)) tick.lane tick.legal all.1)

merged-apart : (lane : Lane) (legal : Bool) (blocks : List Block) → AllByRecursion (IsTickOf lane legal) blocks → flat_map ticks_of (merged blocks) ≡ blocks
merged-apart lane legal [] all = refl
merged-apart lane legal (s ∷ rest) all =
    let tick = all.0 in
    let whole = tick.whole in
    joined-apart lane legal s rest (omega (arith, whole)) tick.lane tick.legal all.1 ∙ ap (λ xs. xs ++ rest) (one s tick.whole)

-- ---- rows
each-tick : (lane : Lane) (legal : Bool) (rows : List Row) → AllByRecursion (IsTickOf lane legal) (shown_rows lane legal rows)
each-tick lane legal [] = tt
each-tick lane legal (r ∷ rows) = by_look (look_of lane r) (each-tick lane legal rows)
  where
    by_look : (o : Option (Look × Option ResId)) → AllByRecursion (IsTickOf lane legal) (shown_rows lane legal rows)
        → AllByRecursion (IsTickOf lane legal) (cons_option (option_map (λ (shown : Look × Option ResId). whole_of r.tick (r.tick + 1) lane shown.0 legal r.job shown.1) o) (shown_rows lane legal rows))
    by_look None all = all
    by_look (Some shown) all = (record { whole = refl; lane = refl; legal = refl }, all)

pub returns : goal.returns
returns c lane legal rows = merged-apart lane legal (shown_rows lane legal rows) (each-tick lane legal rows)
