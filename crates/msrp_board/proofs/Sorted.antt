-- Polls of one place stand by tick, then core: a new poll is put in among the newest.
use Rattle.msrp_plan.proofs.Common.{eqb, cond, ltb, eq-eqb, ne_eqb, eqb-true, inl, inr, ℕ, suc, List, [], length, Bool, true, false, refl, sym, ap, subst, arith, dite, ℕ_discrete, Answers}
use Rattle.msrp_board.proofs.Common.{Ask, Call, Event, IsPollAfter, Leave, LegalNewest, NoneLater, OnTrue, PlacedNewest, Poll, PollsNewest, RisingNewest, asks, by_core, granted, granted_after, is_poll, leaves, queue}
use Rattle.std.proofs.Common.{◌&&◌, ◌≡◌, ◌≢◌, ◌⊎◌, ◌<◌, ◌≤◌, ◌∷◌, ◌∙◌, ltb-true, ltb-false, true≢false}
use Rattle.msrp_board.proofs.Queue.{by_other}

abbrev pub jumps : Event → Event → Bool
jumps r x = (is_poll r.1.call && is_poll x.1.call) && (eqb r.1.tick x.1.tick && ltb r.0 x.0)

abbrev choose : Bool → Event → Event → List Event → List Event → List Event
choose true r x h l = x ∷ l
choose false r x h l = r ∷ x ∷ h

abbrev pub insert : Event → List Event → List Event
insert r [] = r ∷ []
insert r (x ∷ h) = choose (jumps r x) r x h (insert r h)

pub record Inserted (r : Event) (h l : List Event) : Type 0 where
  pub same : (d : ℕ) → by_core d l ≡ by_core d (r ∷ h)
  pub ask_count : asks l ≡ asks (r ∷ h)
  pub leave_count : leaves l ≡ leaves (r ∷ h)
  pub in_queue : queue l ≡ queue (r ∷ h)
  pub grant : granted l ≡ granted (r ∷ h)
  pub longer : length l ≡ suc (length h)
  pub legal : LegalNewest l
  pub placed : PlacedNewest l
  pub rising : RisingNewest l
  pub later : (t : ℕ) → NoneLater t (r ∷ h) → NoneLater t l
  pub tidy : PollsNewest l
  pub under : (x : Event) → IsPollAfter x h → IsPollAfter x (r ∷ []) → IsPollAfter x l

here : (r : Event) (h : List Event) → LegalNewest (r ∷ h) → PlacedNewest (r ∷ h) → RisingNewest (r ∷ h) → PollsNewest (r ∷ h) → Inserted r h (r ∷ h)
here r h a b c d = record { same = λ _. refl; ask_count = refl; leave_count = refl; in_queue = refl; grant = refl; longer = refl; legal = a; placed = b; rising = c; later = λ _ k. k; tidy = d; under = λ _ _ k. k }

and_left : (a b : Bool) → (a && b) ≡ true → a ≡ true
and_left true b e = refl
and_left false b e = absurd (true≢false (sym e))

and_right : (a b : Bool) → (a && b) ≡ true → b ≡ true
and_right true b e = e
and_right false b e = absurd (true≢false (sym e))

abbrev row : ℕ → ℕ → ℕ → ℕ → Bool → Event
row c t g p b = (c, record { tick = t; res = record { 0 = g }; place = p; call = Poll b })

abbrev any : ℕ → ℕ → ℕ → ℕ → Call → Event
any c t g p k = (c, record { tick = t; res = record { 0 = g }; place = p; call = k })

-- what a poll asks for, before another poll of that place
poll_earlier : (q : List ℕ) (b : Bool) (c : ℕ) (p k : Bool) → Answers (record { queue = q; granted = granted_after b (Poll k) }) c (Poll p) → Answers (record { queue = q; granted = b }) c (Poll p)
poll_earlier q b c true true a = absurd (true≢false a.1)
poll_earlier q b c true false a = a
poll_earlier q b c false k a = a

poll_later : (q : List ℕ) (b : Bool) (c d : ℕ) (p k : Bool) → Answers (record { queue = q; granted = granted_after b (Poll k) }) c (Poll p) → Answers (record { queue = q; granted = b }) d (Poll k) → Answers (record { queue = q; granted = granted_after b (Poll p) }) d (Poll k)
poll_later q b c d true true a e = absurd (true≢false a.1)
poll_later q b c d true false a e = e
poll_later q b c d false k a e = e

grant_swap : (b p k : Bool) → granted_after (granted_after b (Poll p)) (Poll k) ≡ granted_after (granted_after b (Poll k)) (Poll p)
grant_swap b true true = refl
grant_swap b true false = refl
grant_swap b false k = refl

by_swap : (r x : Event) (l h : List Event) → r.0 ≢ x.0 → ((d : ℕ) → by_core d l ≡ by_core d (r ∷ h)) → (d : ℕ) → by_core d (x ∷ l) ≡ by_core d (r ∷ x ∷ h)
by_swap r x l h n same d = dite (ℕ_discrete x.0 d)
    (λ e. ap (λ b. cond b (x.1 ∷ by_core d l) (by_core d l)) (eq-eqb x.0 d e) ∙ ap (λ k. x.1 ∷ k) (same d ∙ by_other r.0 d r.1 h (λ q. n (q ∙ sym e))) ∙ sym (by_other r.0 d r.1 (x ∷ h) (λ q. n (q ∙ sym e)) ∙ ap (λ b. cond b (x.1 ∷ by_core d h) (by_core d h)) (eq-eqb x.0 d e)))
    (λ m. ap (λ b. cond b (x.1 ∷ by_core d l) (by_core d l)) (ne_eqb x.0 d m) ∙ same d ∙ ap (λ k. cond (eqb r.0 d) (r.1 ∷ k) k) (sym (ap (λ b. cond b (x.1 ∷ by_core d h) (by_core d h)) (ne_eqb x.0 d m))))

-- one poll moved behind another
past : (c t g p : ℕ) (b : Bool) (c' t' g' p' : ℕ) (b' : Bool) (h l : List Event) → t ≡ t' → c < c' → LegalNewest (row c t g p b ∷ row c' t' g' p' b' ∷ h) → PlacedNewest (row c t g p b ∷ row c' t' g' p' b' ∷ h) → RisingNewest (row c t g p b ∷ row c' t' g' p' b' ∷ h) → PollsNewest (row c' t' g' p' b' ∷ h)
    → Inserted (row c t g p b) h l → Inserted (row c t g p b) (row c' t' g' p' b' ∷ h) (row c' t' g' p' b' ∷ l)
past c t g p b c' t' g' p' b' h l now low legal placed rising tidy i = record {
  same = by_swap (row c t g p b) (row c' t' g' p' b') l h (λ e. omega (arith, e, low)) i.same;
  ask_count = i.ask_count;
  leave_count = i.leave_count;
  in_queue = i.in_queue;
  grant = ap (λ k. granted_after k (Poll b')) i.grant ∙ grant_swap (granted h) b b';
  longer = ap suc i.longer;
  legal = (i.legal, subst (λ q. Answers (record { queue = q; granted = granted l }) c' (Poll b')) (sym i.in_queue) (subst (λ k. Answers (record { queue = queue h; granted = k }) c' (Poll b')) (sym i.grant) (poll_later (queue h) (granted h) c c' b b' legal.1 legal.0.1)));
  placed = (i.placed, placed.0.1 ∙ (let x = i.ask_count in let y = i.leave_count in omega (arith, x, y)));
  rising = (i.rising, i.later t' (omega (arith, now), rising.0.1));
  later = λ u k. (k.1.0, i.later u (k.0, k.1.1));
  tidy = (i.tidy, i.under (row c' t' g' p' b') tidy.1 (inr (now, omega (arith, low))));
  under = λ x a e. a;
}

moved : (c t g p : ℕ) (k : Call) (c' t' g' p' : ℕ) (j : Call) (h l : List Event) → (is_poll k && is_poll j) ≡ true → t ≡ t' → c < c' → LegalNewest (any c t g p k ∷ any c' t' g' p' j ∷ h) → PlacedNewest (any c t g p k ∷ any c' t' g' p' j ∷ h) → RisingNewest (any c t g p k ∷ any c' t' g' p' j ∷ h) → PollsNewest (any c' t' g' p' j ∷ h)
    → (LegalNewest (any c t g p k ∷ h) → PlacedNewest (any c t g p k ∷ h) → RisingNewest (any c t g p k ∷ h) → PollsNewest h → Inserted (any c t g p k) h l) → Inserted (any c t g p k) (any c' t' g' p' j ∷ h) (any c' t' g' p' j ∷ l)
moved c t g p (Ask a) c' t' g' p' j h l e now low legal placed rising tidy ih = absurd (true≢false (sym e))
moved c t g p (Poll b) c' t' g' p' (Ask a) h l e now low legal placed rising tidy ih = absurd (true≢false (sym e))
moved c t g p (Poll b) c' t' g' p' Leave h l e now low legal placed rising tidy ih = absurd (true≢false (sym e))
moved c t g p Leave c' t' g' p' j h l e now low legal placed rising tidy ih = absurd (true≢false (sym e))
moved c t g p (Poll b) c' t' g' p' (Poll b') h l e now low legal placed rising tidy ih =
    past c t g p b c' t' g' p' b' h l now low legal placed rising tidy
    (ih (legal.0.0, poll_earlier (queue h) (granted h) c b b' legal.1) (placed.0.0, placed.1) (rising.0.0, rising.1.1) tidy.0)

not_jump : (k j : Call) (t u c d : ℕ) → u ≤ t → ((is_poll k && is_poll j) && (eqb t u && ltb c d)) ≡ false → OnTrue (is_poll k && is_poll j) ((u < t) ⊎ ((u ≡ t) × (d ≤ c)))
not_jump (Ask a) j t u c d le e = tt
not_jump (Poll p) (Ask a) t u c d le e = tt
not_jump (Poll p) Leave t u c d le e = tt
not_jump Leave j t u c d le e = tt
not_jump (Poll p) (Poll q) t u c d le e = dite (ℕ_discrete t u)
    (λ s. inr (sym s, ltb-false c d (sym (ap (λ b. b && ltb c d) (eq-eqb t u s)) ∙ e)))
    (λ n. inl (omega (arith, n, le)))

pub inserted : (r : Event) (h : List Event) → LegalNewest (r ∷ h) → PlacedNewest (r ∷ h) → RisingNewest (r ∷ h) → PollsNewest h → Inserted r h (insert r h)
inserted r [] legal placed rising tidy = here r [] legal placed rising (tt, tt)
inserted r (x ∷ h) legal placed rising tidy = by_test (jumps r x) refl (inserted r h)
  where
    by_test : (b : Bool) → jumps r x ≡ b → (LegalNewest (r ∷ h) → PlacedNewest (r ∷ h) → RisingNewest (r ∷ h) → PollsNewest h → Inserted r h (insert r h)) → Inserted r (x ∷ h) (choose b r x h (insert r h))
    by_test false e ih = here r (x ∷ h) legal placed rising (tidy, not_jump r.1.call x.1.call r.1.tick x.1.tick r.0 x.0 rising.1.0 e)
    by_test true e ih =
        let k = and_left (is_poll r.1.call && is_poll x.1.call) (eqb r.1.tick x.1.tick && ltb r.0 x.0) e in
        let m = and_right (is_poll r.1.call && is_poll x.1.call) (eqb r.1.tick x.1.tick && ltb r.0 x.0) e in
        let now = eqb-true r.1.tick x.1.tick (and_left (eqb r.1.tick x.1.tick) (ltb r.0 x.0) m) in
        let low = ltb-true r.0 x.0 (and_right (eqb r.1.tick x.1.tick) (ltb r.0 x.0) m) in
        moved r.0 r.1.tick r.1.res.0 r.1.place r.1.call x.0 x.1.tick x.1.res.0 x.1.place x.1.call h (insert r h) k now low legal placed rising tidy ih
