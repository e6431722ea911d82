-- What seats hold between them, when one is cut in two, and when two are joined.
use Rattle.std.proofs.Common.{◌≡◌, ◌≢◌, ◌⊎◌, ◌<◌, ◌∷◌, ◌++◌, ◌∙◌}
use Rattle.msrp_plan.proofs.Common.{inl, inr, ⊎_elim, ℕ, zero, suc, List, [], length, set, refl, sym, ap, subst, arith, some, some-injective, some-ne-none, dite, ℕ_discrete, get_elem?, length-set}
use Rattle.msrp_board.proofs.Common.{OwnsBy, SharedBy, at_last, at_longer, at_set, set_else, set_here}
use Rattle.msrp_board.proofs.Queue.{in_range}

at_end : {A : Type 0} (l : List A) (a b : A) (j : ℕ) → get_elem? (l ++ a ∷ []) j ≡ some b → ((j < length l) × (get_elem? l j ≡ some b)) ⊎ ((j ≡ length l) × (a ≡ b))
at_end [] a b zero e = inr (refl, some-injective a b e)
at_end [] a b (suc j) e = absurd (some-ne-none b (sym e))
at_end (x ∷ xs) a b zero e = inl (omega arith, e)
at_end (x ∷ xs) a b (suc j) e = ⊎_elim (λ t. let h = t.0 in inl (omega (arith, h), t.1)) (λ t. inr (ap suc t.0, t.1)) (at_end xs a b j e)

module _ {V A : Type 0} (has : V → ℕ → A → Type 0) where
  pub split_shared : (views : List V) (truth : ℕ → A → Type 0) (id : ℕ) (v l r : V) → get_elem? views id ≡ some v
      → ((k : ℕ) (a : A) → has l k a → has v k a) → ((k : ℕ) (a : A) → has r k a → has v k a) → ((k : ℕ) (a d : A) → has l k a → has r k d → ⊥) → ((k : ℕ) (a : A) → has v k a → has l k a ⊎ has r k a)
      → SharedBy has views truth → SharedBy has (set views id l ++ r ∷ []) truth
  split_shared views truth id v l r at_id of_l of_r apart either_of sh = record { true_of = good; with_no_other = one; with_one = there }
    where
      Mine : ℕ → ℕ → A → Type 0
      Mine i k a = ((i ≡ id) × has l k a) ⊎ (((i ≡ length views) × has r k a) ⊎ ((i ≢ id) × (i < length views) × OwnsBy has views i k a))

      mine : (i k : ℕ) (a : A) → OwnsBy has (set views id l ++ r ∷ []) i k a → Mine i k a
      mine i k a o = ⊎_elim
          (λ (t : (i < length (set views id l)) × (get_elem? (set views id l) i ≡ some o.0)). ⊎_elim
          (λ (u : (i ≡ id) × (l ≡ o.0)). inl (u.0, subst (λ x. has x k a) (sym u.1) o.2))
          (λ (u : (i ≢ id) × (get_elem? views i ≡ some o.0)). inr (inr (u.0, in_range views i o.0 u.1, (o.0, u.1, o.2))))
          (at_set views id i l o.0 t.1))
          (λ (t : (i ≡ length (set views id l)) × (r ≡ o.0)). inr (inl (t.0 ∙ length-set views id l, subst (λ x. has x k a) (sym t.1) o.2)))
          (at_end (set views id l) r o.0 i o.1)

      good : (i k : ℕ) (a : A) → OwnsBy has (set views id l ++ r ∷ []) i k a → truth k a
      good i k a o = ⊎_elim (λ t. sh.true_of id k a (v, at_id, of_l k a t.1)) (λ x. ⊎_elim (λ t. sh.true_of id k a (v, at_id, of_r k a t.1)) (λ t. sh.true_of i k a t.2) x) (mine i k a o)

      one_of : (i j k : ℕ) (a d : A) → Mine i k a → Mine j k d → i ≡ j
      one_of i j k a d (inl x) (inl y) = x.0 ∙ sym y.0
      one_of i j k a d (inl x) (inr (inl y)) = absurd (apart k a d x.1 y.1)
      one_of i j k a d (inl x) (inr (inr y)) = absurd (y.0 (sh.with_no_other j id k d a y.2 (v, at_id, of_l k a x.1)))
      one_of i j k a d (inr (inl x)) (inl y) = absurd (apart k d a y.1 x.1)
      one_of i j k a d (inr (inl x)) (inr (inl y)) = x.0 ∙ sym y.0
      one_of i j k a d (inr (inl x)) (inr (inr y)) = absurd (y.0 (sh.with_no_other j id k d a y.2 (v, at_id, of_r k a x.1)))
      one_of i j k a d (inr (inr x)) (inl y) = absurd (x.0 (sh.with_no_other i id k a d x.2 (v, at_id, of_l k d y.1)))
      one_of i j k a d (inr (inr x)) (inr (inl y)) = absurd (x.0 (sh.with_no_other i id k a d x.2 (v, at_id, of_r k d y.1)))
      one_of i j k a d (inr (inr x)) (inr (inr y)) = sh.with_no_other i j k a d x.2 y.2

      one : (i j k : ℕ) (a d : A) → OwnsBy has (set views id l ++ r ∷ []) i k a → OwnsBy has (set views id l ++ r ∷ []) j k d → i ≡ j
      one i j k a d o p = one_of i j k a d (mine i k a o) (mine j k d p)

      there : (k : ℕ) (a : A) → truth k a → (i : ℕ) × OwnsBy has (set views id l ++ r ∷ []) i k a
      there k a t = let o = sh.with_one k a t in dite (ℕ_discrete o.0 id)
          (λ e. ⊎_elim
          (λ h. (id, (l, at_longer (set views id l) (r ∷ []) id l (set_here views id l (in_range views id v at_id)), h)))
          (λ h. (length views, (r, at_last (set views id l) r (length views) (length-set views id l), h)))
          (either_of k a (subst (λ x. has x k a) (some-injective o.1.0 v (sym o.1.1 ∙ ap (get_elem? views) e ∙ at_id)) o.1.2)))
          (λ n. (o.0, (o.1.0, at_longer (set views id l) (r ∷ []) o.0 o.1.0 (set_else views id o.0 l n ∙ o.1.1), o.1.2)))

  pub join_shared : (views : List V) (truth : ℕ → A → Type 0) (id other : ℕ) (v w both spent : V) → get_elem? views id ≡ some v → other ≢ id → get_elem? (set views id both) other ≡ some w
      → ((k : ℕ) (a : A) → has both k a → has v k a ⊎ has w k a) → ((k : ℕ) (a : A) → has v k a → has both k a) → ((k : ℕ) (a : A) → has w k a → ((d : A) → ¬ has v k d) → has both k a) → ((k : ℕ) (a : A) → ¬ has spent k a)
      → SharedBy has views truth → SharedBy has (set (set views id both) other spent) truth
  join_shared views truth id other v w both spent at_id apart at_other of_both left right none_spent sh = record { true_of = good; with_no_other = one; with_one = there }
    where
      late : List V
      late = set (set views id both) other spent

      was : get_elem? views other ≡ some w
      was = sym (set_else views id other both apart) ∙ at_other

      Mine : ℕ → ℕ → A → Type 0
      Mine i k a = ((i ≡ id) × (has v k a ⊎ has w k a)) ⊎ ((i ≢ id) × (i ≢ other) × OwnsBy has views i k a)

      mine : (i k : ℕ) (a : A) → OwnsBy has late i k a → Mine i k a
      mine i k a o = ⊎_elim
          (λ (t : (i ≡ other) × (spent ≡ o.0)). absurd (none_spent k a (subst (λ x. has x k a) (sym t.1) o.2)))
          (λ (t : (i ≢ other) × (get_elem? (set views id both) i ≡ some o.0)). ⊎_elim
          (λ (u : (i ≡ id) × (both ≡ o.0)). inl (u.0, of_both k a (subst (λ x. has x k a) (sym u.1) o.2)))
          (λ (u : (i ≢ id) × (get_elem? views i ≡ some o.0)). inr (u.0, t.0, (o.0, u.1, o.2)))
          (at_set views id i both o.0 t.1))
          (at_set (set views id both) other i spent o.0 o.1)

      good : (i k : ℕ) (a : A) → OwnsBy has late i k a → truth k a
      good i k a o = ⊎_elim (λ t. ⊎_elim (λ h. sh.true_of id k a (v, at_id, h)) (λ h. sh.true_of other k a (w, was, h)) t.1) (λ t. sh.true_of i k a t.2) (mine i k a o)

      alone : (i k : ℕ) (a d : A) → i ≢ id → i ≢ other → OwnsBy has views i k a → has v k d ⊎ has w k d → ⊥
      alone i k a d n m o (inl h) = n (sh.with_no_other i id k a d o (v, at_id, h))
      alone i k a d n m o (inr h) = m (sh.with_no_other i other k a d o (w, was, h))

      one_of : (i j k : ℕ) (a d : A) → Mine i k a → Mine j k d → i ≡ j
      one_of i j k a d (inl x) (inl y) = x.0 ∙ sym y.0
      one_of i j k a d (inl x) (inr y) = absurd (alone j k d a y.0 y.1 y.2 x.1)
      one_of i j k a d (inr x) (inl y) = absurd (alone i k a d x.0 x.1 x.2 y.1)
      one_of i j k a d (inr x) (inr y) = sh.with_no_other i j k a d x.2 y.2

      one : (i j k : ℕ) (a d : A) → OwnsBy has late i k a → OwnsBy has late j k d → i ≡ j
      one i j k a d o p = one_of i j k a d (mine i k a o) (mine j k d p)

      both_there : get_elem? late id ≡ some both
      both_there = set_else (set views id both) other id spent (λ e. apart (sym e)) ∙ set_here views id both (in_range views id v at_id)

      there : (k : ℕ) (a : A) → truth k a → (i : ℕ) × OwnsBy has late i k a
      there k a t = let o = sh.with_one k a t in dite (ℕ_discrete o.0 id)
          (λ e. (id, (both, both_there, left k a (subst (λ x. has x k a) (some-injective o.1.0 v (sym o.1.1 ∙ ap (get_elem? views) e ∙ at_id)) o.1.2))))
          (λ n. dite (ℕ_discrete o.0 other)
          (λ e. (id, (both, both_there, right k a (subst (λ x. has x k a) (some-injective o.1.0 w (sym o.1.1 ∙ ap (get_elem? views) e ∙ was)) o.1.2) (λ d h. n (sh.with_no_other o.0 id k a d o.1 (v, at_id, h))))))
          (λ m. (o.0, (o.1.0, set_else (set views id both) other o.0 spent m ∙ set_else views id o.0 both n ∙ o.1.1, o.1.2))))

  -- what a seat holds is as before
  pub same_shared : (views : List V) (truth : ℕ → A → Type 0) (id : ℕ) (v w : V) → get_elem? views id ≡ some v → ((k : ℕ) (a : A) → has w k a → has v k a) → ((k : ℕ) (a : A) → has v k a → has w k a) → SharedBy has views truth → SharedBy has (set views id w) truth
  same_shared views truth id v w at_id down up sh = record { true_of = λ i k a o. sh.true_of i k a (old i k a o); with_no_other = λ i j k a d o p. sh.with_no_other i j k a d (old i k a o) (old j k d p); with_one = there }
    where
      old : (i k : ℕ) (a : A) → OwnsBy has (set views id w) i k a → OwnsBy has views i k a
      old i k a o = ⊎_elim
          (λ (t : (i ≡ id) × (w ≡ o.0)). (v, ap (get_elem? views) t.0 ∙ at_id, down k a (subst (λ x. has x k a) (sym t.1) o.2)))
          (λ (t : (i ≢ id) × (get_elem? views i ≡ some o.0)). (o.0, t.1, o.2))
          (at_set views id i w o.0 o.1)

      there : (k : ℕ) (a : A) → truth k a → (i : ℕ) × OwnsBy has (set views id w) i k a
      there k a t = let o = sh.with_one k a t in dite (ℕ_discrete o.0 id)
          (λ e. (id, (w, set_here views id w (in_range views id v at_id), up k a (subst (λ x. has x k a) (some-injective o.1.0 v (sym o.1.1 ∙ ap (get_elem? views) e ∙ at_id)) o.1.2))))
          (λ n. (o.0, (o.1.0, set_else views id o.0 w n ∙ o.1.1, o.1.2)))
