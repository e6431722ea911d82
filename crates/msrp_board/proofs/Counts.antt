-- What a core's book says of its stand at each resource.
use Rattle.std.proofs.Common.{◌≡◌, ◌≢◌, ◌+◌, ◌*◌, ◌≤◌, ◌∷◌, ◌∙◌}
use Rattle.msrp_plan.proofs.Common.{cond, ℕ, zero, suc, List, [], length, set, Bool, true, false, refl, sym, ap, arith, eqb, eq-eqb, ne_eqb, some, some-ne-none, some-injective, dite, ℕ_discrete, get_elem?}
use Rattle.msrp_board.proofs.Common.{Ask, Call, Claim, Entry, Holds, IsClaimInTurn, IsRegularNewest, Leave, Nothing, Page, Poll, TicksNewest, Waits, arrivals, claim_of, claim_with_call, entry_count, on_resource, page_with, ticket_at, ticket_of}

abbrev pub pick : Bool → Claim → Claim
pick true l = l
pick false l = Nothing

-- the part of a claim state that is about g
abbrev pub at : ℕ → Claim → Claim
at g Nothing = Nothing
at g (Waits r t) = pick (eqb r g) (Waits r t)
at g (Holds r t) = pick (eqb r g) (Holds r t)

pick_same : (r g : ℕ) (l : Claim) → r ≡ g → pick (eqb r g) l ≡ l
pick_same r g l e = ap (λ b. pick b l) (eq-eqb r g e)

pick_other : (r g : ℕ) (l : Claim) → r ≢ g → pick (eqb r g) l ≡ Nothing
pick_other r g l e = ap (λ b. pick b l) (ne_eqb r g e)

ticket_at_same : (l : Claim) (r g t : ℕ) → r ≡ g → l ≡ Waits r t → ticket_of (at g l) ≡ ticket_of l
ticket_at_same l r g t e q = ap (λ x. ticket_of (at g x)) q ∙ ap ticket_of (pick_same r g (Waits r t) e) ∙ ap ticket_of (sym q)

same_after : (l m : Claim) (g r p : ℕ) (k : Call) → r ≡ g → m ≡ at g l → IsClaimInTurn l r k → claim_with_call m r p k ≡ at g (claim_with_call l r p k)
same_after l m g r p (Ask zero) e is ok = sym (pick_same r g (Holds r (ticket_at p 0)) e)
same_after l m g r p (Ask (suc a)) e is ok = sym (pick_same r g (Waits r (ticket_at p (suc a))) e)
same_after l m g r p (Poll true) e is ok = ap (Holds r) (ap ticket_of is ∙ ticket_at_same l r g ok.0 e ok.1) ∙ sym (pick_same r g (Holds r (ticket_of l)) e)
same_after l m g r p (Poll false) e is ok = is
same_after l m g r p Leave e is ok = refl

other_after : (l m : Claim) (g r p : ℕ) (k : Call) → r ≢ g → m ≡ at g l → IsClaimInTurn l r k → m ≡ at g (claim_with_call l r p k)
other_after l m g r p (Ask zero) e is ok = is ∙ ap (at g) ok ∙ sym (pick_other r g (Holds r (ticket_at p 0)) e)
other_after l m g r p (Ask (suc a)) e is ok = is ∙ ap (at g) ok ∙ sym (pick_other r g (Waits r (ticket_at p (suc a))) e)
other_after l m g r p (Poll true) e is ok = is ∙ ap (at g) ok.1 ∙ pick_other r g (Waits r ok.0) e ∙ sym (pick_other r g (Holds r (ticket_of l)) e)
other_after l m g r p (Poll false) e is ok = is
other_after l m g r p Leave e is ok = is ∙ ap (at g) ok.1 ∙ pick_other r g (Holds r ok.0) e

pub on_same : (g : ℕ) (e : Entry) (es : List Entry) → e.res.0 ≡ g → on_resource g (e ∷ es) ≡ e ∷ on_resource g es
on_same g e es q = ap (λ b. cond b (e ∷ on_resource g es) (on_resource g es)) (eq-eqb e.res.0 g q)

pub on_other : (g : ℕ) (e : Entry) (es : List Entry) → e.res.0 ≢ g → on_resource g (e ∷ es) ≡ on_resource g es
on_other g e es q = ap (λ b. cond b (e ∷ on_resource g es) (on_resource g es)) (ne_eqb e.res.0 g q)

pub claim_on : (g : ℕ) (es : List Entry) → IsRegularNewest es → claim_of (on_resource g es) ≡ at g (claim_of es)
claim_on g [] o = refl
claim_on g (e ∷ es) o = dite (ℕ_discrete e.res.0 g)
    (λ q. ap claim_of (on_same g e es q) ∙ same_after (claim_of es) (claim_of (on_resource g es)) g e.res.0 e.place e.call q (claim_on g es o.0) o.1)
    (λ n. ap claim_of (on_other g e es n) ∙ other_after (claim_of es) (claim_of (on_resource g es)) g e.res.0 e.place e.call n (claim_on g es o.0) o.1)

pub total_more : (books : List Page) (c : ℕ) (b : Page) (e : Entry) → get_elem? books c ≡ some b → entry_count (set books c (page_with e b)) ≡ suc (entry_count books)
total_more [] c b e h = absurd (some-ne-none b (sym h))
total_more (x ∷ xs) zero b e h = let q : length x.newest ≡ length b.newest = ap (λ (y : Page). length y.newest) (some-injective x b h) in omega (arith, q)
total_more (x ∷ xs) (suc c) b e h = let q = total_more xs c b e h in omega (arith, q)

pub total_bound : (books : List Page) (m : ℕ) → ((c : ℕ) (b : Page) → get_elem? books c ≡ some b → length b.newest ≤ m) → entry_count books ≤ length books * m
total_bound [] m h = omega arith
total_bound (x ∷ xs) m h = let a = h 0 x refl in let q = total_bound xs m (λ c b e. h (suc c) b e) in omega (arith, a, q)

pub ticks_length : (r : ℕ) (es : List Entry) → TicksNewest r es → length es ≤ r
ticks_length r [] t = omega arith
ticks_length r (e ∷ es) t = let h = ticks_length e.tick es t.1 in let l = t.0 in omega (arith, h, l)

pub arrivals_set : (books : List Page) (c : ℕ) (b d : Page) → get_elem? books c ≡ some b → arrivals (set books c d) + b.tick ≡ arrivals books + d.tick
arrivals_set [] c b d h = absurd (some-ne-none b (sym h))
arrivals_set (x ∷ xs) zero b d h = let q = ap (λ (y : Page). y.tick) (some-injective x b h) in omega (arith, q)
arrivals_set (x ∷ xs) (suc c) b d h = let q = arrivals_set xs c b d h in omega (arith, q)

pub total_same : (books : List Page) (c : ℕ) (b d : Page) → get_elem? books c ≡ some b → d.newest ≡ b.newest → entry_count (set books c d) ≡ entry_count books
total_same [] c b d h e = absurd (some-ne-none b (sym h))
total_same (x ∷ xs) zero b d h e = let q : length x.newest ≡ length d.newest = ap (λ (y : Page). length y.newest) (some-injective x b h) ∙ ap length (sym e) in omega (arith, q)
total_same (x ∷ xs) (suc c) b d h e = let q = total_same xs c b d h e in omega (arith, q)
