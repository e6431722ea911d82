-- Turns that are given as a list, one by one.
use Rattle.std.proofs.Common.{◌≡◌, ◌≢◌, ◌+◌, ◌/◌, ◌<◌, ◌≤◌, ◌==◌, ◌∷◌, ◌++◌, ◌∙◌}
use Rattle.msrp_plan.proofs.Common.{ℕ, suc, Bool, true, false, cond, List, [], refl, ap, sym, subst, arith, length, add-one, get_or, set, take, drop, inl, inr, take-suc, drop-cons, true≢false, cases_Bool, eqb-false, get_or-set_same, get_or-set_other, length-set, length-take-le, take-append-drop, sum_by_push, PlanModel, EachAfter, IsDueInOrder, IsOrder, each_push, each_at}
use Rattle.std.specs.List.{count_by}
use Rattle.std.proofs.lemmas.Bool.{eqb-true}
use Rattle.msrp_sim.specs.TurnCounts.{AreCounted}

-- each turn of an order is of a core that is due
pub next_in : (plan : PlanModel) (order : List ℕ) (n : ℕ) → IsOrder plan order → n < length order → IsDueInOrder plan (take n order) (get_or order n 0)
next_in plan order n o l =
    each_at (IsDueInOrder plan) [] (take n order) (get_or order n 0) (drop (suc n) order)
    (subst (EachAfter (IsDueInOrder plan) []) (sym (take-append-drop n order) ∙ ap (λ l. take n order ++ l) (drop-cons order n 0 l)) o.each)

-- the first n turns, and one more
pub take_more : (order : List ℕ) (n : ℕ) → n < length order → take (n + 1) order ≡ take n order ++ get_or order n 0 ∷ []
take_more order n l = ap (λ k. take k order) (add-one n) ∙ take-suc order n 0 l

abbrev counted : Bool → ℕ
counted b = cond b 1 0

one_more : (b : Bool) → b ≡ true → counted b ≡ 1
one_more true h = refl
one_more false h = absurd (true≢false (sym h))

no_more : (b : Bool) → b ≡ false → counted b ≡ 0
no_more true h = absurd (true≢false h)
no_more false h = refl

-- one turn more, of a core that is due
pub counted_more : (plan : PlanModel) (cores turns : List ℕ) (n c : ℕ) → AreCounted plan cores n turns → n < length cores → get_or cores n 0 ≡ c → plan.cores ≤ 8 → c < plan.cores → get_or turns c 0 ≡ n / plan.cores → AreCounted plan cores (n + 1) (set turns c (get_or turns c 0 + 1))
counted_more plan cores turns n c h l at most low due = record {
  size = length-set turns c (get_or turns c 0 + 1) ∙ h.size;
  counts = λ d ld.
      let a = ap (count_by (λ k. k == d)) (take_more cores n l) in
      let b = sum_by_push (λ k. cond (k == d) 1 0) (take n cores) (get_or cores n 0) in
      let e = h.counts d ld in
      elim (cases_Bool (get_or cores n 0 == d)) [
        | inl hit ↦
            let same : c ≡ d = sym at ∙ eqb-true (get_or cores n 0) d hit in
            let room : c < length turns = let s = h.size in omega (arith, s, most, low) in
            let f : get_or (set turns c (get_or turns c 0 + 1)) d 0 ≡ get_or turns c 0 + 1 = ap (λ k. get_or (set turns c (get_or turns c 0 + 1)) k 0) (sym same) ∙ get_or-set_same turns c (get_or turns c 0 + 1) 0 room in
            let g : get_or turns c 0 ≡ get_or turns d 0 = ap (λ k. get_or turns k 0) same in
            let one = one_more (get_or cores n 0 == d) hit in
            omega (arith, a, b, e, f, g, one)
        | inr miss ↦
            let ne : d ≢ c = λ z. eqb-false (get_or cores n 0) d miss (at ∙ sym z) in
            let f = get_or-set_other turns c d (get_or turns c 0 + 1) 0 ne in
            let none = no_more (get_or cores n 0 == d) miss in
            omega (arith, a, b, e, f, none)
      ];
  each = subst (EachAfter (IsDueInOrder plan) []) (sym (take_more cores n l)) (each_push (IsDueInOrder plan) [] (take n cores) (get_or cores n 0) h.each
      (record {
        core = subst (λ k. k < plan.cores) (sym at) low;
        turns =
            let e = h.counts c (omega (arith, most, low)) in
            ap (λ k. count_by (λ d. d == k) (take n cores)) at ∙ (sym e ∙ (due ∙ ap (λ k. k / plan.cores) (sym (length-take-le n cores (omega (arith, l))))));
      }));
}

-- a turn of a core that isn't due is in no order
pub due_in : (plan : PlanModel) (cores turns : List ℕ) (n c : ℕ) → AreCounted plan cores n turns → plan.cores ≤ 8 → n < length cores → get_or cores n 0 ≡ c → IsOrder plan cores → (c < plan.cores) × (get_or turns c 0 ≡ n / plan.cores)
due_in plan cores turns n c h most l at o =
    let next : IsDueInOrder plan (take n cores) c = subst (IsDueInOrder plan (take n cores)) at (next_in plan cores n o l) in
    (next.core, h.counts c (let k = next.core in omega (arith, k, most)) ∙ (next.turns ∙ ap (λ k. k / plan.cores) (length-take-le n cores (omega (arith, l)))))
