-- What a seat keeps of its cores is what its pages say, also after a step.
use Rattle.std.proofs.Common.{◌≡◌, ◌⊎◌, ◌∷◌, if◌then◌else◌, ◌∙◌}
use Rattle.msrp_plan.proofs.Common.{inl, inr, ⊎_elim, ℕ, zero, suc, List, [], map, get_or, Some, None, refl, sym, ap, subst, eq-eqb, ne_eqb, some, some-injective, some-ne-none, dite, ℕ_discrete, get_elem?, same_Some}
use Rattle.msrp_board.proofs.Common.{AreStates, BoardSize, Conductor, CoreState, End, HasOnly, IsHeld, IsKeptNewest, IsOwn, Me, Of', Option, Page, States, View, kept_of, option_map, padded_value, page_at, state_at, state_of, with_own, with_pages}

pub get_or_at : {A : Type 0} (l : List A) (i : ℕ) (a d : A) → get_elem? l i ≡ some a → get_or l i d ≡ a
get_or_at [] i a d e = absurd (some-ne-none a (sym e))
get_or_at (x ∷ xs) zero a d e = some-injective x a e
get_or_at (x ∷ xs) (suc i) a d e = get_or_at xs i a d e

-- a page of a seat, looked up
pub page_has : (l : List (Option Page)) (c : ℕ) (b : Page) → get_elem? l c ≡ some (Some b) → page_at l c ≡ Some b
page_has l c b e = get_or_at l c (Some b) None e

pub has_page : (l : List (Option Page)) (c : ℕ) (b : Page) → page_at l c ≡ Some b → get_elem? l c ≡ some (Some b)
has_page [] c b e = absurd (cc)
has_page (x ∷ xs) zero b e = ap some e
has_page (x ∷ xs) (suc c) b e = has_page xs c b e

state_has : (l : List (Option Page)) (c : ℕ) (b : Page) → get_elem? l c ≡ some (Some b) → state_at l c ≡ Some (state_of b)
state_has l c b e = ap (option_map state_of) (page_has l c b e)

-- a seat has a page of the core, or keeps no state of it
pub page_or_none : (o : Option Page) → ((b : Page) × (o ≡ Some b)) ⊎ (o ≡ None)
page_or_none None = inr refl
page_or_none (Some b) = inl (b, refl)

none_each : (f : Page → Page) (o : Option Page) → o ≡ None → option_map f o ≡ None
none_each f None e = refl
none_each f (Some b) e = absurd (cc)

page_each : (f : Page → Page) (l : List (Option Page)) (c : ℕ) → page_at (map (option_map f) l) c ≡ option_map f (page_at l c)
page_each f [] c = refl
page_each f (x ∷ xs) zero = refl
page_each f (x ∷ xs) (suc c) = page_each f xs c

pub each_some : (f : Page → Page) (l : List (Option Page)) (c : ℕ) (b : Page) → get_elem? (map (option_map f) l) c ≡ some (Some b) → (d : Page) × (get_elem? l c ≡ some (Some d)) × (f d ≡ b)
each_some f [] c b e = absurd (some-ne-none (Some b) (sym e))
each_some f (None ∷ xs) zero b e = absurd (cc)
each_some f (Some d ∷ xs) zero b e = (d, refl, cc)
each_some f (x ∷ xs) (suc c) b e = each_some f xs c b e

pub each_at : (f : Page → Page) (l : List (Option Page)) (c : ℕ) (b : Page) → get_elem? l c ≡ some (Some b) → get_elem? (map (option_map f) l) c ≡ some (Some (f b))
each_at f [] c b e = absurd (some-ne-none (Some b) (sym e))
each_at f (x ∷ xs) zero b e = ap (λ o. some (option_map f o)) (some-injective x (Some b) e)
each_at f (x ∷ xs) (suc c) b e = each_at f xs c b e

-- the first node of a chain is of this core, with this state
abbrev pub IsFirst : States → ℕ → CoreState → Type 0
IsFirst End c x = ⊥
IsFirst (Of' p core state more) c x = (core.0 ≡ c) × (padded_value state ≡ x)

none_now : (x : CoreState) → None ≡ Some x → ⊥
none_now x e = cc

-- where a state is kept there is a page
page_behind : (l : List (Option Page)) (c : ℕ) (x : CoreState) → state_at l c ≡ Some x → (b : Page) × (get_elem? l c ≡ some (Some b))
page_behind l c x e = ⊎_elim
    (λ h. (h.0, has_page l c h.0 h.1))
    (λ n. absurd (none_now x (sym (ap (option_map state_of) n) ∙ e)))
    (page_or_none (page_at l c))

-- in a core's seat the first node is the core's
pub own_first : (held : States) (v : View) (c : ℕ) (b : Page) → IsOwn held v c b → IsFirst held c (state_of b)
own_first End v c b own = none_now (state_of b) (own.states c ∙ state_has v.pages c b own.only.page)
own_first (Of' p core state more) v c b own =
    let has : state_at v.pages core.0 ≡ Some (padded_value state) = sym (own.states core.0) ∙ ap (λ k. if k then Some (padded_value state) else kept_of more core.0) (eq-eqb core.0 core.0 refl) in
    let page = page_behind v.pages core.0 (padded_value state) has in
    let same = own.only.only core.0 page.0 page.1 in
    (same, same_Some (padded_value state) (state_of b) (sym has ∙ ap (state_at v.pages) same ∙ state_has v.pages c b own.only.page))

-- a core that has no page has none after a change of each page
none_after : (f : Page → Page) (l : List (Option Page)) (d : ℕ) → ((b : Page) → ¬ (get_elem? l d ≡ some (Some b))) → state_at l d ≡ state_at (map (option_map f) l) d
none_after f l d lacks = ⊎_elim
    (λ h. absurd (lacks h.0 (has_page l d h.0 h.1)))
    (λ e. ap (option_map state_of) (e ∙ sym (page_each f l d ∙ none_each f (page_at l d) e)))
    (page_or_none (page_at l d))

-- what is kept where the core's page has changed
tie_change : (held : States) (v : View) (c : ℕ) (b : Page) (f : Page → Page) (x : CoreState) → IsOwn held v c b → x ≡ state_of (f b) → AreStates (with_own x held) (with_pages f v).pages
tie_change End v c b f x own is d = absurd (own_first End v c b own)
tie_change (Of' p core state more) v c b f x own is d =
    let first = (own_first (Of' p core state more) v c b own).0 in
    dite (ℕ_discrete core.0 d)
    (λ q. ap (λ k. if k then Some x else kept_of more d) (eq-eqb core.0 d q) ∙ ap Some is
    ∙ sym (state_has (map (option_map f) v.pages) d (f b) (each_at f v.pages d b (subst (λ k. get_elem? v.pages k ≡ some (Some b)) (sym first ∙ q) own.only.page))))
    (λ n. ap (λ k. if k then Some x else kept_of more d) (ne_eqb core.0 d n) ∙ sym (ap (λ k. if k then Some (padded_value state) else kept_of more d) (ne_eqb core.0 d n)) ∙ own.states d
    ∙ none_after f v.pages d (λ e h. n (first ∙ sym (own.only.only d e h))))

-- the only page of a core's seat has changed
pub seat_step : (z : BoardSize) (held next : States) (o : Option Conductor) (me now : Me (Unit {0}) View) (c : ℕ) (b : Page) (f : Page → Page) (x : CoreState)
    → IsHeld z held o me → HasOnly me.0 c b → now ≡ (with_pages f me.0, me.1) → next ≡ with_own x held → x ≡ state_of (f b) → IsKeptNewest z (f b) → IsHeld z next o now
seat_step z held next o me now c b f x s sole is set step kept = subst (IsHeld z next o) (sym is) (record {
  no_slot = s.no_slot;
  limits = s.limits;
  states = subst (λ k. AreStates k (with_pages f me.0).pages) (sym set) (tie_change held me.0 c b f x (record { states = s.states; only = sole }) step);
  conducts = s.conducts;
  cores = λ d e h. let u = each_some f me.0.pages d e h in s.cores d u.0 u.1;
  kept = λ d e h. let u = each_some f me.0.pages d e h in
      let same : some (Some b) ≡ some (Some u.0) = sym sole.page ∙ subst (λ j. get_elem? me.0.pages j ≡ some (Some u.0)) (sole.only d u.0 u.1) u.1 in
      subst (IsKeptNewest z) (ap f (page_of b u.0 same) ∙ u.2) kept;
})
  where
    page_of : (p q : Page) → some (Some p) ≡ some (Some q) → p ≡ q
    page_of p q e = cc
