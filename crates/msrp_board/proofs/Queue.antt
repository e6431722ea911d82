-- What a legal history says of each core.
use Rattle.msrp_plan.proofs.Common.{div-mul-add, cond, inl, inr, ⊎_elim, ℕ, zero, suc, List, [], length, Bool, true, false, refl, sym, ap, subst, arith, eq-eqb, ne_eqb, length-append, some, none, some-injective, some-ne-none, dite, ℕ_discrete, get_elem?, IsAmong, IsFirst, without_first, Answers}
use Rattle.msrp_board.proofs.Common.{Ask, Call, Claim, Entry, Event, Holds, Leave, LegalNewest, Nothing, PlacedNewest, Poll, Waits, asks, at_last, at_longer, by_core, claim_of, granted, granted_after, leaves, lock, queue, ticket_at, ticket_of}
use Rattle.std.proofs.Common.{◌/◌, ◌≡◌, ◌≢◌, ◌⊎◌, ◌+◌, ◌*◌, ◌<◌, ◌∷◌, ◌++◌, ◌∙◌, true≢false}
use mathlib.Core.Option.{Option}

abbrev pub ticket : Claim → Option ℕ
ticket Nothing = none
ticket (Waits g t) = some t
ticket (Holds g t) = some t

abbrev pub held : Claim → Bool
held Nothing = false
held (Waits g t) = false
held (Holds g t) = true

pub record Coupled (h : List Event) : Type 0 where
  pub counted : asks h ≡ leaves h + length (queue h)
  pub tickets : (c i : ℕ) → get_elem? (queue h) i ≡ some c → ticket (claim_of (by_core c h)) ≡ some ((leaves h + i))
  pub stands : (c t : ℕ) → ticket (claim_of (by_core c h)) ≡ some t → (i : ℕ) × (get_elem? (queue h) i ≡ some c) × (t ≡ (leaves h + i))
  pub holds : (c : ℕ) → held (claim_of (by_core c h)) ≡ true → (granted h ≡ true) × (get_elem? (queue h) 0 ≡ some c)
  pub holder : granted h ≡ true → (c : ℕ) × (get_elem? (queue h) 0 ≡ some c) × (held (claim_of (by_core c h)) ≡ true)

pub by_same : (c : ℕ) (e : Entry) (h : List Event) → by_core c ((c, e) ∷ h) ≡ e ∷ by_core c h
by_same c e h = ap (λ b. cond b (e ∷ by_core c h) (by_core c h)) (eq-eqb c c refl)

pub by_other : (d c : ℕ) (e : Entry) (h : List Event) → d ≢ c → by_core c ((d, e) ∷ h) ≡ by_core c h
by_other d c e h n = ap (λ b. cond b (e ∷ by_core c h) (by_core c h)) (ne_eqb d c n)

-- a fact about the entries of c after one more entry of d
pub by_cases : (d c : ℕ) (e : Entry) (h : List Event) (F : List Entry → Type 0) → (d ≡ c → F (e ∷ by_core c h)) → (d ≢ c → F (by_core c h)) → F (by_core c ((d, e) ∷ h))
by_cases d c e h F same other = dite (ℕ_discrete d c) (λ q. subst (λ b. F (cond b (e ∷ by_core c h) (by_core c h))) (sym (eq-eqb d c q)) (same q)) (λ n. subst (λ b. F (cond b (e ∷ by_core c h) (by_core c h))) (sym (ne_eqb d c n)) (other n))

abbrev entry : ℕ → ℕ → ℕ → Call → Entry
entry t g p k = record { tick = t; res = record { 0 = g }; place = p; call = k }

no : {A : Type 0} → false ≡ true → A
no e = absurd (true≢false (sym e))

pub in_range : {A : Type 0} (l : List A) (i : ℕ) (a : A) → get_elem? l i ≡ some a → i < length l
in_range [] i a e = absurd (some-ne-none a (sym e))
in_range (x ∷ xs) zero a e = omega arith
in_range (x ∷ xs) (suc i) a e = let h = in_range xs i a e in omega (arith, h)

at_snoc_i : {A : Type 0} (l : List A) (a b : A) (j : ℕ) → get_elem? (l ++ a ∷ []) j ≡ some b → (get_elem? l j ≡ some b) ⊎ ((j ≡ length l) × (a ≡ b))
at_snoc_i [] a b zero e = inr (refl, some-injective a b e)
at_snoc_i [] a b (suc j) e = absurd (some-ne-none b (sym e))
at_snoc_i (x ∷ xs) a b zero e = inl e
at_snoc_i (x ∷ xs) a b (suc j) e = ⊎_elim (λ t. inl t) (λ t. inr (ap suc t.0, t.1)) (at_snoc_i xs a b j e)

-- a poll that isn't granted changes nothing
polled_no : (c0 t g p : ℕ) (h : List Event) → Coupled h → Coupled ((c0, entry t g p (Poll false)) ∷ h)
polled_no c0 t g p h k = record {
  counted = k.counted;
  tickets = λ c i e. subst (λ l. ticket l ≡ some ((leaves h + i))) (sym (same c)) (k.tickets c i e);
  stands = λ c u e. k.stands c u (subst (λ l. ticket l ≡ some u) (same c) e);
  holds = λ c e. k.holds c (subst (λ l. held l ≡ true) (same c) e);
  holder = λ e. let x = k.holder e in (x.0, x.1, subst (λ l. held l ≡ true) (sym (same x.0)) x.2);
}
  where
    same : (c : ℕ) → claim_of (by_core c ((c0, entry t g p (Poll false)) ∷ h)) ≡ claim_of (by_core c h)
    same c = by_cases c0 c (entry t g p (Poll false)) h (λ l. claim_of l ≡ claim_of (by_core c h)) (λ _. refl) (λ _. refl)

ticket_some : (l : Claim) (t : ℕ) → ticket l ≡ some t → ticket_of l ≡ t
ticket_some Nothing t e = absurd (some-ne-none t (sym e))
ticket_some (Waits g u) t e = some-injective u t e
ticket_some (Holds g u) t e = some-injective u t e

-- a poll that is granted
polled_yes : (c0 t g p : ℕ) (h : List Event) → Coupled h → get_elem? (queue h) 0 ≡ some c0 → granted h ≡ false → Coupled ((c0, entry t g p (Poll true)) ∷ h)
polled_yes c0 t g p h k first free = record {
  counted = k.counted;
  tickets = λ c i e. by_cases c0 c new h (λ l. ticket (claim_of l) ≡ some ((leaves h + i)))
      (λ q. ap some (ticket_some (claim_of (by_core c h)) ((leaves h + i)) (k.tickets c i e)))
      (λ _. k.tickets c i e);
  stands = λ c u. by_cases c0 c new h (λ l. ticket (claim_of l) ≡ some u → (i : ℕ) × (get_elem? (queue h) i ≡ some c) × (u ≡ (leaves h + i)))
      (λ q e. (0, first ∙ ap some q, sym (some-injective (ticket_of (claim_of (by_core c h))) u e) ∙ ticket_some (claim_of (by_core c h)) ((leaves h + 0)) (k.tickets c 0 (first ∙ ap some q))))
      (λ _ e. k.stands c u e);
  holds = λ c. by_cases c0 c new h (λ l. held (claim_of l) ≡ true → (true ≡ true) × (get_elem? (queue h) 0 ≡ some c))
      (λ q e. (refl, first ∙ ap some q))
      (λ _ e. (refl, (k.holds c e).1));
  holder = λ e. (c0, first, subst (λ l. held (claim_of l) ≡ true) (sym (by_same c0 new h)) refl);
}
  where
    new : Entry
    new = entry t g p (Poll true)

-- the ticket of a request is the number of requests before it
pub ticket_found : (place ahead n : ℕ) → place + ahead ≡ 2 * n → ticket_at place ahead ≡ n
ticket_found place ahead n e = ap (λ k. k / 2) (e ∙ twice n) ∙ div-mul-add n 2 0 (omega arith)
  where
    twice : (k : ℕ) → 2 * k ≡ k * 2 + 0
    twice k = omega arith

-- an ask, which answers how many stand there
asked_one : (c0 t g p a : ℕ) (k : Call) (h : List Event) → Coupled h → ((i : ℕ) → ¬ (get_elem? (queue h) i ≡ some c0)) → p ≡ asks h + leaves h → k ≡ Ask a → a ≡ length (queue h) → ticket (claim_of (by_core c0 ((c0, entry t g p (Ask a)) ∷ h))) ≡ some ((leaves h + length (queue h)))
asked_one c0 t g p zero k h c out is _ n = subst (λ l. ticket (claim_of l) ≡ some ((leaves h + length (queue h)))) (sym (by_same c0 (entry t g p (Ask zero)) h)) (ap some (ticket_found p 0 (leaves h + length (queue h)) (let x = c.counted in omega (arith, x, is, n))))
asked_one c0 t g p (suc a) k h c out is _ n = subst (λ l. ticket (claim_of l) ≡ some ((leaves h + length (queue h)))) (sym (by_same c0 (entry t g p (Ask (suc a))) h)) (ap some (ticket_found p (suc a) (leaves h + length (queue h)) (let x = c.counted in omega (arith, x, is, n))))

empty_queue : {A : Type 0} (l : List A) → 0 ≡ length l → l ≡ []
empty_queue [] e = refl
empty_queue (x ∷ xs) e = absurd (omega (arith, e))

-- what the claim of the asker holds, and who was granted before
asked_held : (c0 t g p a : ℕ) (h : List Event) → Coupled h → a ≡ length (queue h) → held (claim_of (by_core c0 ((c0, entry t g p (Ask a)) ∷ h))) ≡ true → (granted_after (granted h) (Ask a) ≡ true) × (get_elem? (queue h ++ c0 ∷ []) 0 ≡ some c0)
asked_held c0 t g p zero h c n e = (refl, subst (λ q. get_elem? (q ++ c0 ∷ []) 0 ≡ some c0) (sym (empty_queue (queue h) n)) refl)
asked_held c0 t g p (suc a) h c n e = no (subst (λ l. held (claim_of l) ≡ true) (by_same c0 (entry t g p (Ask (suc a))) h) e)

asked_kept : (c0 c t g p a : ℕ) (h : List Event) → Coupled h → a ≡ length (queue h) → held (claim_of (by_core c h)) ≡ true → (granted_after (granted h) (Ask a) ≡ true) × (get_elem? (queue h ++ c0 ∷ []) 0 ≡ some c)
asked_kept c0 c t g p zero h k n e = let x = in_range (queue h) 0 c (k.holds c e).1 in absurd (omega (arith, x, n))
asked_kept c0 c t g p (suc a) h k n e = let x = k.holds c e in (x.0, at_longer (queue h) (c0 ∷ []) 0 c x.1)

asked_holder : (c0 t g p a : ℕ) (h : List Event) → Coupled h → ((i : ℕ) → ¬ (get_elem? (queue h) i ≡ some c0)) → a ≡ length (queue h) → granted_after (granted h) (Ask a) ≡ true → (c : ℕ) × (get_elem? (queue h ++ c0 ∷ []) 0 ≡ some c) × (held (claim_of (by_core c ((c0, entry t g p (Ask a)) ∷ h))) ≡ true)
asked_holder c0 t g p zero h k out n e = (c0, subst (λ q. get_elem? (q ++ c0 ∷ []) 0 ≡ some c0) (sym (empty_queue (queue h) n)) refl, subst (λ l. held (claim_of l) ≡ true) (sym (by_same c0 (entry t g p (Ask zero)) h)) refl)
asked_holder c0 t g p (suc a) h k out n e = let x = k.holder e in (x.0, at_longer (queue h) (c0 ∷ []) 0 x.0 x.1, subst (λ l. held (claim_of l) ≡ true) (sym (by_other c0 x.0 (entry t g p (Ask (suc a))) h (λ q. out 0 (x.1 ∙ ap some (sym q))))) x.2)

asked : (c0 t g p a : ℕ) (h : List Event) → Coupled h → ((i : ℕ) → ¬ (get_elem? (queue h) i ≡ some c0)) → a ≡ length (queue h) → p ≡ asks h + leaves h → Coupled ((c0, entry t g p (Ask a)) ∷ h)
asked c0 t g p a h k out n is = record {
  counted = let x = k.counted in let y = length-append (queue h) (c0 ∷ []) in omega (arith, x, y);
  tickets = λ c i e. ⊎_elim
      (λ old. subst (λ l. ticket (claim_of l) ≡ some ((leaves h + i))) (sym (by_other c0 c new h (λ q. out i (old ∙ ap some (sym q))))) (k.tickets c i old))
      (λ last. subst (λ d. ticket (claim_of (by_core d (((c0, new) ∷ h)))) ≡ some ((leaves h + i))) last.1 (subst (λ j. ticket (claim_of (by_core c0 ((c0, new) ∷ h))) ≡ some ((leaves h + j))) (sym last.0) mine))
      (at_snoc_i (queue h) c0 c i e);
  stands = λ c u e. dite (ℕ_discrete c0 c)
      (λ q. (length (queue h), at_last (queue h) c0 (length (queue h)) refl ∙ ap some q, some-injective u ((leaves h + length (queue h))) (sym (subst (λ d. ticket (claim_of (by_core d ((c0, new) ∷ h))) ≡ some u) (sym q) e) ∙ mine)))
      (λ ne. let x = k.stands c u (subst (λ l. ticket (claim_of l) ≡ some u) (by_other c0 c new h ne) e) in (x.0, at_longer (queue h) (c0 ∷ []) x.0 c x.1, x.2));
  holds = λ c e. dite (ℕ_discrete c0 c)
      (λ q. let x = asked_held c0 t g p a h k n (subst (λ d. held (claim_of (by_core d ((c0, new) ∷ h))) ≡ true) (sym q) e) in (x.0, x.1 ∙ ap some q))
      (λ ne. asked_kept c0 c t g p a h k n (subst (λ l. held (claim_of l) ≡ true) (by_other c0 c new h ne) e));
  holder = asked_holder c0 t g p a h k out n;
}
  where
    new : Entry
    new = entry t g p (Ask a)

    mine : ticket (claim_of (by_core c0 ((c0, new) ∷ h))) ≡ some ((leaves h + length (queue h)))
    mine = asked_one c0 t g p a (Ask a) h k out is refl n

tail_at : (l : List ℕ) (i : ℕ) → get_elem? (without_first l) i ≡ get_elem? l (suc i)
tail_at [] i = refl
tail_at (x ∷ xs) i = refl

tail_length : (l : List ℕ) (x : ℕ) → get_elem? l 0 ≡ some x → length l ≡ suc (length (without_first l))
tail_length [] x e = absurd (some-ne-none x (sym e))
tail_length (y ∷ ys) x e = omega arith

left : (c0 t g p : ℕ) (h : List Event) → Coupled h → get_elem? (queue h) 0 ≡ some c0 → granted h ≡ true → Coupled ((c0, entry t g p Leave) ∷ h)
left c0 t g p h k first given = record {
  counted = let x = k.counted in let y = tail_length (queue h) c0 first in omega (arith, x, y);
  tickets = λ c i e. let old = sym (tail_at (queue h) i) ∙ e in
      by_cases c0 c new h (λ l. ticket (claim_of l) ≡ some ((suc (leaves h) + i)))
      (λ q. absurd (twice c i q old))
      (λ ne. k.tickets c (suc i) old ∙ ap some (omega arith));
  stands = λ c u. by_cases c0 c new h (λ l. ticket (claim_of l) ≡ some u → (i : ℕ) × (get_elem? (without_first (queue h)) i ≡ some c) × (u ≡ (suc (leaves h) + i)))
      (λ q e. absurd (some-ne-none u (sym e)))
      (λ ne e. let x = k.stands c u e in later c u ne x.0 x.1 x.2);
  holds = λ c. by_cases c0 c new h (λ l. held (claim_of l) ≡ true → (false ≡ true) × (get_elem? (without_first (queue h)) 0 ≡ some c))
      (λ q e. no e)
      (λ ne e. absurd (ne (some-injective c0 c (sym first ∙ (k.holds c e).1))));
  holder = λ e. no e;
}
  where
    new : Entry
    new = entry t g p Leave

    twice : (c i : ℕ) → c0 ≡ c → get_elem? (queue h) (suc i) ≡ some c → ⊥
    twice c i q e = let x = some-injective ((leaves h + 0)) ((leaves h + suc i)) (sym (k.tickets c 0 (first ∙ ap some q)) ∙ k.tickets c (suc i) e) in omega (arith, x)

    later : (c u : ℕ) → c0 ≢ c → (i : ℕ) → get_elem? (queue h) i ≡ some c → u ≡ (leaves h + i) → (j : ℕ) × (get_elem? (without_first (queue h)) j ≡ some c) × (u ≡ (suc (leaves h) + j))
    later c u ne zero e is = absurd (ne (some-injective c0 c (sym first ∙ e)))
    later c u ne (suc i) e is = (i, tail_at (queue h) i ∙ e, omega (arith, is))

-- who stands in a queue, and who stands first
at_among : (q : List ℕ) (c i : ℕ) → get_elem? q i ≡ some c → IsAmong q c
at_among [] c i e = absurd (some-ne-none c (sym e))
at_among (d ∷ q) c zero e = inl (some-injective d c e)
at_among (d ∷ q) c (suc i) e = inr (at_among q c i e)

pub among_at : (q : List ℕ) (c : ℕ) → IsAmong q c → (i : ℕ) × (get_elem? q i ≡ some c)
among_at [] c h = absurd h
among_at (d ∷ q) c (inl e) = (0, ap some e)
among_at (d ∷ q) c (inr h) = let r = among_at q c h in (suc r.0, r.1)

pub not_among : (q : List ℕ) (c : ℕ) → ((i : ℕ) → ¬ (get_elem? q i ≡ some c)) → ¬ IsAmong q c
not_among q c out h = let r = among_at q c h in out r.0 r.1

pub among : (q : List ℕ) (c : ℕ) → (i : ℕ) × (get_elem? q i ≡ some c) → IsAmong q c
among q c r = at_among q c r.0 r.1

first_at : (q : List ℕ) (c : ℕ) → IsFirst q c → get_elem? q 0 ≡ some c
first_at [] c h = absurd h
first_at (d ∷ q) c e = ap some e

pub at_first : (q : List ℕ) (c : ℕ) → get_elem? q 0 ≡ some c → IsFirst q c
at_first [] c e = absurd (some-ne-none c (sym e))
at_first (d ∷ q) c e = some-injective d c e

pub not_first : (q : List ℕ) (c : ℕ) → ¬ (get_elem? q 0 ≡ some c) → ¬ IsFirst q c
not_first q c n h = n (first_at q c h)

-- one event more
one : (c0 t g p : ℕ) (k : Call) (h : List Event) → Coupled h → Answers (lock h) c0 k → p ≡ asks h + leaves h → Coupled ((c0, entry t g p k) ∷ h)
one c0 t g p (Ask a) h k ok is = asked c0 t g p a h k (λ i e. ok.0 (at_among (queue h) c0 i e)) ok.1 is
one c0 t g p (Poll true) h k ok is = polled_yes c0 t g p h k (first_at (queue h) c0 ok.0) ok.1
one c0 t g p (Poll false) h k ok is = polled_no c0 t g p h k
one c0 t g p Leave h k ok is = left c0 t g p h k (first_at (queue h) c0 ok.0) ok.1

-- the state of each core is its stand in the queue
pub coupled : (h : List Event) → LegalNewest h → PlacedNewest h → Coupled h
coupled [] l p = record {
  counted = refl;
  tickets = λ c i e. absurd (some-ne-none c (sym e));
  stands = λ c t e. absurd (some-ne-none t (sym e));
  holds = λ c e. no e;
  holder = λ e. no e;
}
coupled (r ∷ h) l p = one r.0 r.1.tick r.1.res.0 r.1.place r.1.call h (coupled h l.0 p.0) l.1 p.1
