-- The rule at the start.
use Rattle.msrp_plan.proofs.Common.{ℕ, zero, suc, List, [], length, take, replicate, Some, None, eq-eqb, ne_eqb, refl, sym, ap, subst, arith, slice_index, some, some-injective, some-ne-none, dite, ℕ_discrete, get_elem?, same_Some}
use Rattle.std.proofs.Common.{◌==◌, ◌≡◌, ◌≢◌, ◌+◌, ◌<◌, ◌≤◌, ◌∷◌, if◌then◌else◌, ◌∙◌, true≢false}
use Rattle.msrp_board.proofs.Common.{AreStates, BoardSize, HasPage, IsKeptNewest, IsSize, Page, Ruled, States, Unopened, View, arrivals, dec_lt, empty_page, first_view, kept_of, on_resource, opening, page_admissions, state_at, state_of}
use Rattle.msrp_board.proofs.Kept.{kept_empty}

now_in : (n c : ℕ) → c < n → state_at (replicate n (Some empty_page)) c ≡ Some (state_of empty_page)
now_in zero c h = absurd (omega (arith, h))
now_in (suc n) zero h = refl
now_in (suc n) (suc c) h = now_in n c (omega (arith, h))

now_out : (n c : ℕ) → n ≤ c → state_at (replicate n (Some empty_page)) c ≡ None
now_out zero c h = refl
now_out (suc n) zero h = absurd (omega (arith, h))
now_out (suc n) (suc c) h = now_out n c (omega (arith, h))

now_more : (n c : ℕ) → Dec (c < n) → c ≢ n → state_at (replicate n (Some empty_page)) c ≡ state_at (replicate (suc n) (Some empty_page)) c
now_more n c (yes h) d = now_in n c h ∙ sym (now_in (suc n) c (omega (arith, h)))
now_more n c (no h) d = now_out n c (omega (arith, h)) ∙ sym (now_out (suc n) c (omega (arith, h, d)))

-- a node more, of the next core
pub fresh_step : (held : States) (n m c : ℕ) → m ≡ suc n → AreStates held (replicate n (Some empty_page)) → (if n == c then Some (state_of empty_page) else kept_of held c) ≡ state_at (replicate m (Some empty_page)) c
fresh_step held n m c is tie = subst (λ k. (if n == c then Some (state_of empty_page) else kept_of held c) ≡ state_at (replicate k (Some empty_page)) c) (sym is) (dite (ℕ_discrete n c)
    (λ q. ap (λ k. if k then Some (state_of empty_page) else kept_of held c) (eq-eqb n c q) ∙ sym (now_in (suc n) c (omega (arith, q))))
    (λ d. ap (λ k. if k then Some (state_of empty_page) else kept_of held c) (ne_eqb n c d) ∙ tie c ∙ now_more n c (dec_lt c n) (λ q. d (sym q))))

same_there : (n c : ℕ) (b : Page) → get_elem? (replicate n (Some empty_page)) c ≡ some (Some b) → get_elem? (replicate n empty_page) c ≡ some b
same_there zero c b e = absurd (some-ne-none (Some b) (sym e))
same_there (suc n) zero b e = let f : some (Some empty_page) ≡ some (Some b) = e in ap some (same_Some empty_page b (some-injective (Some empty_page) (Some b) f))
  where
    same_Some : (x y : Page) → Some x ≡ Some y → x ≡ y
    same_Some x y h = cc
same_there (suc n) (suc c) b e = same_there n c b e

same_back : (n c : ℕ) (b : Page) → get_elem? (replicate n empty_page) c ≡ some b → (get_elem? (replicate n (Some empty_page)) c ≡ some (Some b)) × (empty_page ≡ b) × (c < n)
same_back zero c b e = absurd (some-ne-none b (sym e))
same_back (suc n) zero b e = let f : empty_page ≡ b = some-injective empty_page b e in (ap (λ x. some (Some x)) f, f, omega arith)
same_back (suc n) (suc c) b e = let r = same_back n c b e in let h = r.2 in (r.0, r.1, omega (arith, h))

zero_at : {A : Type 0} (a : A) (i : ℕ) (v : A) → get_elem? (a ∷ []) i ≡ some v → (0 ≡ i) × (a ≡ v)
zero_at a zero v e = (refl, some-injective a v e)
zero_at a (suc i) v e = absurd (some-ne-none v (sym e))

length_rep : {A : Type 0} (n : ℕ) (a : A) → length (replicate n a) ≡ n
length_rep zero a = refl
length_rep (suc n) a = let r = length_rep n a in omega (arith, r)

-- a page of the first view is empty, and of a core of the board
pub first_page : (z : BoardSize) (c : ℕ) (b : Page) → HasPage (first_view z) c b → (empty_page ≡ b) × (c < z.cores)
first_page z c b h = let r = same_back z.cores c b (same_there z.cores c b h) in (r.1, r.2)

zero_arrivals : (n : ℕ) → arrivals (replicate n empty_page) ≡ 0
zero_arrivals zero = refl
zero_arrivals (suc n) = let h = zero_arrivals n in omega (arith, h)

pub begins : (z : BoardSize) (words : List ℕ) → ((g : ℕ) → slice_index words g ≡ 0) → length words ≡ z.resources + 1 → IsSize z → Ruled z (opening words [] (first_view z))
begins z words zeros len limits = record {
  pages = replicate z.cores empty_page;
  conductor = Unopened;
  shared = record {
    true_of = λ i c b o. same_there z.cores c b (subst (λ (v : View). HasPage v c b) (sym (zero_at (first_view z) i o.0 o.1).1) o.2);
    with_no_other = λ i j c b d o p. sym (zero_at (first_view z) i o.0 o.1).0 ∙ (zero_at (first_view z) j p.0 p.1).0;
    with_one = λ c b e. (0, (first_view z, refl, (same_back z.cores c b e).0));
  };
  shared_conductor = record {
    true_of = λ i k x o. (o.2.0, same_Some Unopened x (ap (λ (v : View). v.conductor) (zero_at (first_view z) i o.0 o.1).1 ∙ o.2.1));
    with_no_other = λ i j k x y o p. sym (zero_at (first_view z) i o.0 o.1).0 ∙ (zero_at (first_view z) j p.0 p.1).0;
    with_one = λ k x e. (0, (first_view z, refl, (e.0, ap Some e.1)));
  };
  tied = record {
    cores = length_rep z.cores empty_page;
    served = λ g in_g. record {
      log = [];
      history = record { entries = λ c b e. subst (λ (x : Page). [] ≡ on_resource g x.newest) (same_back z.cores c b e).1 refl; none_past = λ c far. refl; placed = tt };
      legal = tt;
      counts = zeros g;
      short = omega arith;
      rising = tt;
      polls = tt;
    };
    kept = λ c b e. subst (IsKeptNewest z) (same_back z.cores c b e).1 (kept_empty z);
    gathered = record {
      counts = let w = zeros z.resources in let a = zero_arrivals z.cores in omega (arith, w, a);
      told = λ c b e h. absurd (true≢false (sym h ∙ sym (ap (λ (x : Page). x.stopped) (same_back z.cores c b e).1)));
      met = λ c b e h. absurd (let r = ap page_admissions (same_back z.cores c b e).1 in omega (arith, h, r));
    };
  };
  limits = limits;
  words = len;
}

abbrev nils : ℕ → List ℕ
nils n = replicate n 0

take_zeros : (k n g : ℕ) → slice_index (take k (nils n)) g ≡ 0
take_zeros zero n g = refl
take_zeros (suc k) zero g = refl
take_zeros (suc k) (suc n) zero = refl
take_zeros (suc k) (suc n) (suc g) = take_zeros k n g

take_length : (k n : ℕ) → k ≤ n → length (take k (nils n)) ≡ k
take_length zero n h = refl
take_length (suc k) zero h = absurd (omega (arith, h))
take_length (suc k) (suc n) h = let r = take_length k n (omega (arith, h)) in omega (arith, r)

pub begins_at : (z : BoardSize) → IsSize z → Ruled z (opening (take (z.resources + 1) (nils 33)) [] (first_view z))
begins_at z limits = begins z (take (z.resources + 1) (nils 33)) (take_zeros (z.resources + 1) 33) (take_length (z.resources + 1) 33 (let few = limits.resources in omega (arith, few))) limits
