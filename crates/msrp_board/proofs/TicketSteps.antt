-- A request, a poll and a release keep the rule.
use Rattle.msrp_plan.proofs.Common.{cond, eq-eqb, ne_eqb, inl, inr, ⊎_elim, ℕ, zero, suc, List, [], length, set, Some, Bool, true, false, refl, sym, ap, subst, arith, slice_index, some, none, some-injective, some-ne-none, dite, ℕ_discrete, get_elem?, mul-le, mod-mul-add, div-mul-add, length-set, get_or-set_same, get_or-set_other, Answers, IsAmong, IsFirst, AllByRecursion}
use Rattle.msrp_board.proofs.Common.{Allows, AreBefore, Ask, BoardSize, Call, Claim, Conductor, Entry, Event, Gathered, HasConductor, HasOnly, HasPage, Holds, IsBefore, IsClaimInTurn, IsKeptNewest, IsRegularNewest, IsServedNewest, IsTicketWord, Leave, Me, NoneLater, Nothing, Owns, Page, PlacedNewest, Poll, Ruled, Shared, State, Tells, TicksNewest, View, ViewIsBehind, Waits, abort_count, admissions_of, arrivals, asks, at_set, by_core, claim_of, dec_lt, granted, high, is_release, is_request, keeps, leaves, lock, low, on_resource, opening_count, page_admissions, page_has_acted, page_with, page_with_ask, page_with_leave, page_with_poll, queue, set_else, set_here, step, stepped, ticket_of, with_pages}
use Rattle.std.proofs.Common.{◌==◌, ◌≡◌, ◌≢◌, ◌⊎◌, ◌+◌, ◌*◌, ◌%◌, ◌^◌, ◌-◌, ◌<◌, ◌≤◌, ◌∷◌, ◌∙◌, true≢false}
use Rattle.msrp_board.proofs.Queue.{at_first, among, not_among, not_first, Coupled, coupled, ticket, held, by_same, by_other, by_cases, in_range}
use Rattle.msrp_board.proofs.Counts.{at, pick, claim_on, on_same, on_other, total_more, total_bound, ticks_length, arrivals_set}
use Rattle.msrp_board.proofs.Sharing.{same_shared}
use Rattle.msrp_board.proofs.CoreStates.{each_some, each_at}
use Rattle.msrp_board.proofs.Kept.{kept_more, fresh_page}
use Rattle.msrp_board.proofs.Sorted.{insert, inserted}

steps_more : (k : Call) (h : List Event) (r : Event) → asks h + leaves h ≤ length h → cond (is_request k) (suc (asks h)) (asks h) + cond (is_release k) (suc (leaves h)) (leaves h) ≤ length (r ∷ h)
steps_more (Ask a) h r q = omega (arith, q)
steps_more (Poll p) h r q = omega (arith, q)
steps_more Leave h r q = omega (arith, q)

pub steps_length : (log : List Event) → asks log + leaves log ≤ length log
steps_length [] = omega arith
steps_length (r ∷ h) = steps_more r.1.call h r (steps_length h)

-- one more entry of the core c in the history of its resource
served_more : (g n m c : ℕ) (books : List Page) (b : Page) (e : Entry) → get_elem? books c ≡ some b → e.res.0 ≡ g → (s : IsServedNewest g n books)
    → (e.place ≡ asks s.log + leaves s.log) → Answers (lock s.log) c e.call → IsTicketWord m ((c, e) ∷ s.log) → NoneLater e.tick s.log → IsServedNewest g m (set books c (page_with e b))
served_more g n m c books b e has res s place ok word later =
    let log = s.log in
    let hist = s.history in
    let i = inserted (c, e) log (s.legal, ok) (hist.placed, place) (s.rising, later) s.polls in
    record {
      log = insert (c, e) log;
      history = record {
        entries = λ d x q. ⊎_elim
            (λ (t : (d ≡ c) × (page_with e b ≡ x)). subst (λ y. by_core y (insert (c, e) log) ≡ on_resource g x.newest) (sym t.0) (i.same c ∙ by_same c e log ∙ ap (λ es. e ∷ es) (hist.entries c b has) ∙ sym (on_same g e b.newest res) ∙ ap (λ (y : Page). on_resource g y.newest) t.1))
            (λ (t : (d ≢ c) × (get_elem? books d ≡ some x)). i.same d ∙ by_other c d e log (λ k. t.0 (sym k)) ∙ hist.entries d x t.1)
            (at_set books c d (page_with e b) x q);
        none_past = λ d far. let l = in_range books c b has in let w = length-set books c (page_with e b) in i.same d ∙ by_other c d e log (λ k. omega (arith, k, l, w, far)) ∙ hist.none_past d (omega (arith, w, far));
        placed = i.placed;
      };
      legal = i.legal;
      counts = word ∙ (let x = i.ask_count in let y = i.leave_count in ap (λ k. k * 4294967296 + leaves ((c, e) ∷ log)) (sym x) ∙ ap (λ k. asks (insert (c, e) log) * 4294967296 + k) (sym y));
      short = let t = total_more books c b e has in let old = s.short in let l = i.longer in omega (arith, t, old, l);
      rising = i.rising;
      polls = i.tidy;
    }

served_else : (g n c : ℕ) (books : List Page) (b : Page) (e : Entry) → get_elem? books c ≡ some b → e.res.0 ≢ g → IsServedNewest g n books → IsServedNewest g n (set books c (page_with e b))
served_else g n c books b e has res s =
    let hist = s.history in
    record {
      log = s.log;
      history = record {
        entries = λ d x q. ⊎_elim
            (λ (t : (d ≡ c) × (page_with e b ≡ x)). subst (λ y. by_core y s.log ≡ on_resource g x.newest) (sym t.0) (hist.entries c b has ∙ sym (on_other g e b.newest res) ∙ ap (λ (y : Page). on_resource g y.newest) t.1))
            (λ (t : (d ≢ c) × (get_elem? books d ≡ some x)). hist.entries d x t.1)
            (at_set books c d (page_with e b) x q);
        none_past = λ d far. let w = length-set books c (page_with e b) in hist.none_past d (omega (arith, w, far));
        placed = hist.placed;
      };
      legal = s.legal;
      counts = s.counts;
      short = let t = total_more books c b e has in let old = s.short in omega (arith, t, old);
      rising = s.rising;
      polls = s.polls;
    }

-- the core's claim state, read from the history of g
stand : (g n c : ℕ) (books : List Page) (b : Page) → get_elem? books c ≡ some b → IsRegularNewest b.newest → (s : IsServedNewest g n books) → claim_of (by_core c s.log) ≡ at g (claim_of b.newest)
stand g n c books b has ok s = ap claim_of (s.history.entries c b has) ∙ claim_on g b.newest ok

-- the seat's only book has changed
pub shared_step : (views : List View) (books : List Page) (id c : ℕ) (v : View) (b d : Page) (f : Page → Page) → get_elem? views id ≡ some v → HasOnly v c b → f b ≡ d → get_elem? books c ≡ some b → Shared views books → Shared (set views id (with_pages f v)) (set books c d)
shared_step views books id c v b d f at_id sole is has sh = record { true_of = good; with_no_other = one; with_one = there }
  where
    w : View
    w = with_pages f v

    mine : (i x : ℕ) (y : Page) → Owns (set views id w) i x y → ((i ≡ id) × (x ≡ c) × (y ≡ d)) ⊎ ((i ≢ id) × Owns views i x y)
    mine i x y o = ⊎_elim
        (λ (t : (i ≡ id) × (w ≡ o.0)).
        let u = each_some f v.pages x y (subst (λ (k : View). get_elem? k.pages x ≡ some (Some y)) (sym t.1) o.2) in
        let same : x ≡ c = sole.only x u.0 u.1 in
        let got : get_elem? v.pages c ≡ some (Some u.0) = subst (λ k. get_elem? v.pages k ≡ some (Some u.0)) same u.1 in
        let eq : u.0 ≡ b = some_book u.0 b (sym got ∙ sole.page) in
        inl (t.0, same, sym u.2 ∙ ap f eq ∙ is))
        (λ (t : (i ≢ id) × (get_elem? views i ≡ some o.0)). inr (t.0, (o.0, t.1, o.2)))
        (at_set views id i w o.0 o.1)
      where
        some_book : (x y : Page) → some (Some x) ≡ some (Some y) → x ≡ y
        some_book x y e = cc

    -- no other seat has a book of c
    apart : (i : ℕ) (y : Page) → i ≢ id → Owns views i c y → ⊥
    apart i y n o = n (sh.with_no_other i id c y b o (v, at_id, sole.page))

    good : (i x : ℕ) (y : Page) → Owns (set views id w) i x y → get_elem? (set books c d) x ≡ some y
    good i x y o = ⊎_elim
        (λ t. subst (λ k. get_elem? (set books c d) k ≡ some y) (sym t.1) (set_here books c d (in_range books c b has) ∙ ap some (sym t.2)))
        (λ t. set_else books c x d (λ k. apart i y t.0 (subst (λ j. Owns views i j y) k t.1)) ∙ sh.true_of i x y t.1)
        (mine i x y o)

    one : (i j x : ℕ) (y z : Page) → Owns (set views id w) i x y → Owns (set views id w) j x z → i ≡ j
    one i j x y z o p = ⊎_elim
        (λ t. ⊎_elim (λ u. t.0 ∙ sym u.0) (λ u. absurd (apart j z u.0 (subst (λ k. Owns views j k z) t.1 u.1))) (mine j x z p))
        (λ t. ⊎_elim (λ u. absurd (apart i y t.0 (subst (λ k. Owns views i k y) u.1 t.1))) (λ u. sh.with_no_other i j x y z t.1 u.1) (mine j x z p))
        (mine i x y o)

    there : (x : ℕ) (y : Page) → get_elem? (set books c d) x ≡ some y → (i : ℕ) × Owns (set views id w) i x y
    there x y e = ⊎_elim
        (λ (t : (x ≡ c) × (d ≡ y)). (id, (w, set_here views id w (in_range views id v at_id), subst (λ k. get_elem? w.pages k ≡ some (Some y)) (sym t.0) (each_at f v.pages c b sole.page ∙ ap (λ k. some (Some k)) (is ∙ t.1)))))
        (λ (t : (x ≢ c) × (get_elem? books x ≡ some y)). let o = sh.with_one x y t.1 in (o.0, (o.1.0, kept o.0 o.1.0 x y t.0 o.1.1 o.1.2, o.1.2)))
        (at_set books c x d y e)
      where
        kept : (i : ℕ) (u : View) (x : ℕ) (y : Page) → x ≢ c → get_elem? views i ≡ some u → get_elem? u.pages x ≡ some (Some y) → get_elem? (set views id w) i ≡ some u
        kept i u x y n at_i h = set_else views id i w (λ q. n (sole.only x y (subst (λ (k : View). get_elem? k.pages x ≡ some (Some y)) (some-injective u v (sym at_i ∙ ap (get_elem? views) q ∙ at_id)) h))) ∙ at_i

-- what a word of a history says
pub split_word : (n : ℕ) (log : List Event) → IsTicketWord n log → asks log + leaves log ≤ 160000 → (high n ≡ asks log) × (low n ≡ leaves log)
split_word n log is small = (ap high is ∙ div-mul-add (asks log) 4294967296 (leaves log) (omega (arith, small)), ap low is ∙ mod-mul-add (asks log) 4294967296 (leaves log) (omega (arith, small)))

kept_step : (z : BoardSize) (books : List Page) (c : ℕ) (b : Page) (e : Entry) → IsKeptNewest z (page_with e b) → ((d : ℕ) (x : Page) → get_elem? books d ≡ some x → IsKeptNewest z x)
    → (d : ℕ) (x : Page) → get_elem? (set books c (page_with e b)) d ≡ some x → IsKeptNewest z x
kept_step z books c b e kept all d x q = ⊎_elim
    (λ (t : (d ≡ c) × (page_with e b ≡ x)). subst (IsKeptNewest z) t.1 kept)
    (λ (t : (d ≢ c) × (get_elem? books d ≡ some x)). all d x t.1)
    (at_set books c d (page_with e b) x q)

-- the barrier's part, where a book keeps its tick and its admissions
gathered_same : (n c : ℕ) (books : List Page) (b d : Page) (o : Conductor) → get_elem? books c ≡ some b → d.tick ≡ b.tick → d.admitted ≡ b.admitted → d.stopped ≡ b.stopped → Gathered n books o → Gathered n (set books c d) o
gathered_same n c books b d o has tick adm stop g = record {
  counts = g.counts ∙ (let q = arrivals_set books c b d has in let same : arrivals books ≡ arrivals (set books c d) = omega (arith, q, tick) in ap (λ k. abort_count o * 4294967296 + (k + opening_count o)) same);
  told = λ x y h s. let u = was x y h in g.told x u.0 u.1 (u.4 ∙ s);
  met = λ x y h p. let u = was x y h in let rs = u.3 in let up = g.met x u.0 u.1 (omega (arith, p, rs)) in (up.0, λ w e j. let v = was w e j in let le = up.1 w v.0 v.1 in let t = v.2 in omega (arith, le, rs, t));
}
  where
    -- the book as it was: its place, tick, admission and stop
    was : (x : ℕ) (y : Page) → get_elem? (set books c d) x ≡ some y → (u : Page) × (get_elem? books x ≡ some u) × (y.tick ≡ u.tick) × (page_admissions y ≡ page_admissions u) × (u.stopped ≡ y.stopped)
    was x y h = ⊎_elim
        (λ (t : (x ≡ c) × (d ≡ y)). (b, ap (get_elem? books) t.0 ∙ has, subst (λ (k : Page). k.tick ≡ b.tick) t.1 tick, subst (λ (k : Page). page_admissions k ≡ page_admissions b) t.1 (ap (λ a. admissions_of a d.tick) adm ∙ ap (admissions_of b.admitted) tick), subst (λ (k : Page). b.stopped ≡ k.stopped) t.1 (sym stop)))
        (λ (t : (x ≢ c) × (get_elem? books x ≡ some y)). (y, t.1, refl, refl, refl))
        (at_set books c x d y h)

abbrev EachUpTo : ℕ → List Entry → Type 0
EachUpTo t es = AllByRecursion (λ e. e.tick ≤ t) es

-- no entry of g is later than the tick to which a core is admitted
ticks_on : (t r g : ℕ) (es : List Entry) → TicksNewest r es → r ≤ suc t → EachUpTo t (on_resource g es)
ticks_on t r g [] k le = tt
ticks_on t r g (e ∷ es) k le = let h = k.0 in dite (ℕ_discrete e.res.0 g)
    (λ q. subst (EachUpTo t) (sym (on_same g e es q)) (omega (arith, h, le), ticks_on t e.tick g es k.1 (omega (arith, h, le))))
    (λ n. subst (EachUpTo t) (sym (on_other g e es n)) (ticks_on t e.tick g es k.1 (omega (arith, h, le))))

from_by : (t : ℕ) (h : List Event) → ((d : ℕ) → EachUpTo t (by_core d h)) → NoneLater t h
from_by t [] k = tt
from_by t (r ∷ h) k = ((subst (EachUpTo t) (by_same r.0 r.1 h) (k r.0)).0, from_by t h (λ d. by_cases r.0 d r.1 h (λ l. EachUpTo t l → EachUpTo t (by_core d h)) (λ _ x. x.1) (λ _ x. x) (k d)))

none_later : (z : BoardSize) (g n c : ℕ) (books : List Page) (b : Page) (o : Conductor) (w : ℕ) → get_elem? books c ≡ some b → ((d : ℕ) (x : Page) → get_elem? books d ≡ some x → IsKeptNewest z x) → Gathered w books o → (s : IsServedNewest g n books) → NoneLater b.tick s.log
none_later z g n c books b o w has all gat s = from_by b.tick s.log (λ d. each d (dec_lt d (length books)))
  where
    each : (d : ℕ) → Dec (d < length books) → EachUpTo b.tick (by_core d s.log)
    each d (no far) = subst (EachUpTo b.tick) (sym (s.history.none_past d (omega (arith, far)))) tt
    each d (yes h) = let x = there books d h in subst (EachUpTo b.tick) (sym (s.history.entries d x.0 x.1)) (bounded x.0 d x.1 (page_admissions x.0) refl)
      where
        there : (l : List Page) (i : ℕ) → i < length l → (y : Page) × (get_elem? l i ≡ some y)
        there [] i h = absurd (omega (arith, h))
        there (y ∷ ys) zero h = (y, refl)
        there (y ∷ ys) (suc i) h = there ys i (omega (arith, h))

        bounded : (x : Page) (d : ℕ) → get_elem? books d ≡ some x → (r : ℕ) → page_admissions x ≡ r → EachUpTo b.tick (on_resource g x.newest)
        bounded x d at zero is = ticks_on b.tick (page_admissions x) g x.newest (all d x at).ticks (omega (arith, is))
        bounded x d at (suc r) is = ticks_on b.tick (page_admissions x) g x.newest (all d x at).ticks ((gat.met d x at (omega (arith, is))).1 c b has)

-- the rule after one more entry of the core of a seat
acts : (z : BoardSize) (s : State (Unit {0}) View) (id g m c : ℕ) (v : View) (b : Page) (e : Entry) (f : Page → Page) (r : Ruled z s) → get_elem? s.views id ≡ some v → g < z.resources → HasOnly v c b → b.admitted ≡ true → TicksNewest b.tick b.newest
    → f b ≡ page_with e b → e.res.0 ≡ g → e.tick ≡ b.tick → IsClaimInTurn (claim_of b.newest) e.res.0 e.call → AreBefore e.place (on_resource g b.newest)
    → ((sv : IsServedNewest g (slice_index s.words g) r.pages) → (e.place ≡ asks sv.log + leaves sv.log) × Answers (lock sv.log) c e.call × IsTicketWord m ((c, e) ∷ sv.log))
    → Ruled z (stepped s g m id [] (with_pages f v) keeps)
acts z s id g m c v b e f r at_id in_g sole in_tick fresh is res now ok before fits =
    let books = r.pages in
    let tied = r.tied in
    let has : get_elem? books c ≡ some b = r.shared.true_of id c b (v, at_id, sole.page) in
    record {
      pages = set books c (page_with e b);
      conductor = r.conductor;
      shared = shared_step s.views books id c v b (page_with e b) f at_id sole is has r.shared;
      shared_conductor = same_shared HasConductor s.views (λ k x. (k ≡ 0) × (r.conductor ≡ x)) id v (with_pages f v) at_id (λ k o h. h) (λ k o h. h) r.shared_conductor;
      tied = record {
        cores = length-set books c (page_with e b) ∙ tied.cores;
        served = λ h in_h. dite (ℕ_discrete h g)
            (λ q. let sv = tied.served g in_g in let x = fits sv in subst (λ k. IsServedNewest k (slice_index (set s.words g m) k) (set books c (page_with e b))) (sym q)
            (subst (λ k. IsServedNewest g k (set books c (page_with e b))) (sym (get_or-set_same s.words g m 0 (let l = r.words in omega (arith, l, in_g)))) (served_more g (slice_index s.words g) m c books b e has res sv x.0 x.1 x.2 (subst (λ t. NoneLater t sv.log) (sym now) (none_later z g (slice_index s.words g) c books b r.conductor (slice_index s.words z.resources) has tied.kept tied.gathered sv)))))
            (λ n. subst (λ k. IsServedNewest h k (set books c (page_with e b))) (sym (get_or-set_other s.words g h m 0 n)) (served_else h (slice_index s.words h) c books b e has (λ q. n (sym q ∙ res)) (tied.served h in_h)));
        kept = kept_step z books c b e (kept_more z b e (tied.kept c b has) (subst (λ k. k < z.resources) (sym res) in_g) (subst (λ k. AreBefore e.place (on_resource k b.newest)) (sym res) before) ok in_tick fresh now) tied.kept;
        gathered = subst (λ k. Gathered k (set books c (page_with e b)) r.conductor) (sym (get_or-set_other s.words g z.resources m 0 (λ q. omega (arith, q, in_g)))) (gathered_same (slice_index s.words z.resources) c books b (page_with e b) r.conductor has refl refl refl tied.gathered);
      };
      limits = r.limits;
      words = length-set s.words g m ∙ r.words;
    }

before_more : (p q : ℕ) (es : List Entry) → p ≤ q → AreBefore p es → AreBefore q es
before_more p q [] h a = tt
before_more p q (e ∷ es) h a = (one e.place e.call a.0, before_more p q es h a.1)
  where
    one : (x : ℕ) (k : Call) → IsBefore k x p → IsBefore k x q
    one x (Ask n) b = omega (arith, b, h)
    one x (Poll n) b = omega (arith, b, h)
    one x Leave b = omega (arith, b, h)

before_one : (h : List Event) (c t g p : ℕ) (k : Call) → p ≡ asks h + leaves h → ((d : ℕ) → AreBefore (asks h + leaves h) (by_core d h))
    → (d : ℕ) → AreBefore (cond (is_request k) (suc (asks h)) (asks h) + cond (is_release k) (suc (leaves h)) (leaves h)) (by_core d ((c, record { tick = t; res = record { 0 = g }; place = p; call = k }) ∷ h))
before_one h c t g p k is old d = by_cases c d new h (AreBefore now)
    (λ _. ((up k).1, before_more (asks h + leaves h) now (by_core d h) (up k).0 (old d)))
    (λ _. before_more (asks h + leaves h) now (by_core d h) (up k).0 (old d))
  where
    new : Entry
    new = record { tick = t; res = record { 0 = g }; place = p; call = k }

    now : ℕ
    now = cond (is_request k) (suc (asks h)) (asks h) + cond (is_release k) (suc (leaves h)) (leaves h)

    up : (j : Call) → (asks h + leaves h ≤ cond (is_request j) (suc (asks h)) (asks h) + cond (is_release j) (suc (leaves h)) (leaves h)) × IsBefore j p (cond (is_request j) (suc (asks h)) (asks h) + cond (is_release j) (suc (leaves h)) (leaves h))
    up (Ask a) = (omega arith, omega (arith, is))
    up (Poll a) = (omega arith, omega (arith, is))
    up Leave = (omega arith, omega (arith, is))

-- every entry stands before the place that is found next
pub all_before : (h : List Event) → PlacedNewest h → (d : ℕ) → AreBefore (asks h + leaves h) (by_core d h)
all_before [] p d = tt
all_before (r ∷ h) p d = before_one h r.0 r.1.tick r.1.res.0 r.1.place r.1.call p.1 (all_before h p.0) d

-- what each of the three steps finds at the word of g
pub record Found (z : BoardSize) (s : State (Unit {0}) View) (id g c : ℕ) (b : Page) (r : Ruled z s) (sv : IsServedNewest g (slice_index s.words g) r.pages) : Type 0 where
  pub next_is : high (slice_index s.words g) ≡ asks sv.log
  pub serving_is : low (slice_index s.words g) ≡ leaves sv.log
  pub queue_of : Coupled sv.log
  pub small : asks sv.log + leaves sv.log < 160000
  pub stands : claim_of (by_core c sv.log) ≡ at g (claim_of b.newest)
  pub before : AreBefore (asks sv.log + leaves sv.log) (on_resource g b.newest)

found : (z : BoardSize) (s : State (Unit {0}) View) (id g c : ℕ) (v : View) (b : Page) (r : Ruled z s) (sv : IsServedNewest g (slice_index s.words g) r.pages) → get_elem? s.views id ≡ some v → HasOnly v c b → b.admitted ≡ true → TicksNewest b.tick b.newest → Found z s id g c b r sv
found z s id g c v b r sv at_id sole in_tick fresh = record {
  next_is = parts.0;
  serving_is = parts.1;
  queue_of = coupled sv.log sv.legal sv.history.placed;
  small = less;
  stands = stand g (slice_index s.words g) c r.pages b has (r.tied.kept c b has).regular sv;
  before = subst (AreBefore (asks sv.log + leaves sv.log)) (sv.history.entries c b has) (all_before sv.log sv.history.placed c);
}
  where
    has : get_elem? r.pages c ≡ some b
    has = r.shared.true_of id c b (v, at_id, sole.page)

    -- with one more entry the books are still small
    less : asks sv.log + leaves sv.log < 160000
    less = let new : Entry = record { tick = 0; res = record { 0 = 0 }; place = 0; call = Leave } in
        let t = total_more r.pages c b new has in
        let full = (r.tied.kept c b has).within in
        let fl = ticks_length b.tick b.newest fresh in
        let rs : page_admissions b ≡ suc b.tick = ap (λ k. admissions_of k b.tick) in_tick in
        let m = total_bound (set r.pages c (page_with new b)) z.ticks (λ d x q. ⊎_elim (λ (t : (d ≡ c) × (page_with new b ≡ x)). subst (λ (y : Page). length y.newest ≤ z.ticks) t.1 (omega (arith, full, fl, rs))) (λ (t : (d ≢ c) × (get_elem? r.pages d ≡ some x)). let u = (r.tied.kept d x t.1) in let l = ticks_length (page_admissions x) x.newest u.ticks in let le = u.within in omega (arith, l, le)) (at_set r.pages c d (page_with new b) x q)) in
        let n = length-set r.pages c (page_with new b) in
        let y = mul-le (length (set r.pages c (page_with new b))) z.ticks 8 20000 (let x = r.limits.cores.1 in let w = r.tied.cores in omega (arith, n, x, w)) r.limits.ticks.1 in
        let l = steps_length sv.log in let o = sv.short in omega (arith, t, m, y, l, o)

    parts : (high (slice_index s.words g) ≡ asks sv.log) × (low (slice_index s.words g) ≡ leaves sv.log)
    parts = split_word (slice_index s.words g) sv.log sv.counts (omega (arith, less))

tells : (z : BoardSize) (s : State (Unit {0}) View) (id g c : ℕ) (v : View) (b : Page) (r : Ruled z s) (sv : IsServedNewest g (slice_index s.words g) r.pages) → HasOnly v c b → Found z s id g c b r sv
    → (low (slice_index s.words g) ≤ high (slice_index s.words g)) × (high (slice_index s.words g) + low (slice_index s.words g) < 160000) × ViewIsBehind v g (high (slice_index s.words g) + low (slice_index s.words g))
tells z s id g c v b r sv sole k =
    let n = k.next_is in let m = k.serving_is in let q = k.queue_of.counted in let l = k.small in (
      omega (arith, n, m, q),
      omega (arith, n, m, l),
      λ d x h. subst (λ p. AreBefore p (on_resource g x.newest)) (let sum : asks sv.log + leaves sv.log ≡ high (slice_index s.words g) + low (slice_index s.words g) = omega (arith, n, m) in sum)
          (subst (λ (y : Page). AreBefore (asks sv.log + leaves sv.log) (on_resource g y.newest)) (same x d h) k.before),
    )
  where
    same : (x : Page) (d : ℕ) → HasPage v d x → b ≡ x
    same x d h = let e : get_elem? v.pages c ≡ some (Some x) = subst (λ j. get_elem? v.pages j ≡ some (Some x)) (sole.only d x h) h in let f : some (Some b) ≡ some (Some x) = sym sole.page ∙ e in cc

unacted : (z : BoardSize) (id c : ℕ) (v : View) (b : Page) (s : State (Unit {0}) View) (r : Ruled z s) → get_elem? s.views id ≡ some v → HasOnly v c b → b.admitted ≡ true → page_has_acted b ≡ false → TicksNewest b.tick b.newest
unacted z id c v b s r at_id sole room quiet = fresh_page z b (r.tied.kept c b (r.shared.true_of id c b (v, at_id, sole.page))) room quiet

pub asks_allowed : (z : BoardSize) (slots id : ℕ) (me : Me (Unit {0}) View) (g c : ℕ) (b : Page) → g < z.resources → HasOnly me.0 c b → b.admitted ≡ true → page_has_acted b ≡ false → claim_of b.newest ≡ Nothing
    → Allows (Ruled z) slots id me g (λ n. (n + 4294967296) % 2 ^ 64) (Tells page_with_ask (step slots g 4294967296 0 none) me)
asks_allowed z slots id me g c b in_g sole room quiet free s r _ at_id fits =
    let fresh = unacted z id c me.0 b s r at_id sole room quiet in
    let n = slice_index s.words g in
    let t : (sv : IsServedNewest g n r.pages) → Found z s id g c b r sv = λ sv. found z s id g c me.0 b r sv at_id sole room fresh in
    let sv = r.tied.served g in_g in
    (with_pages (page_with_ask g n) me.0, keeps, tt, acts z s id g ((n + 4294967296) % 2 ^ 64) c me.0 b (record { tick = b.tick; res = record { 0 = g }; place = high n + low n; call = Ask (high n - low n) }) (page_with_ask g n) r at_id in_g sole room fresh refl refl refl free ((tells z s id g c me.0 b r sv sole (t sv)).2 c b sole.page) (λ sv. step_ok sv (t sv)), let x = tells z s id g c me.0 b r sv sole (t sv) in record { changed = refl; order = x.0; small = let few = x.1 in omega (arith, few); behind = x.2 })
  where
    step_ok : (sv : IsServedNewest g (slice_index s.words g) r.pages) → Found z s id g c b r sv → (high (slice_index s.words g) + low (slice_index s.words g) ≡ asks sv.log + leaves sv.log)
        × (¬ IsAmong (queue sv.log) c × (high (slice_index s.words g) - low (slice_index s.words g) ≡ length (queue sv.log)))
        × ((slice_index s.words g + 4294967296) % 2 ^ 64 ≡ suc (asks sv.log) * 4294967296 + leaves sv.log)
    step_ok sv k = let a = k.next_is in let d = k.serving_is in let q = k.queue_of.counted in let l = k.small in let w = sv.counts in (
      omega (arith, a, d),
      (not_among (queue sv.log) c out, omega (arith, a, d, q)),
      omega (arith, w, l),
    )
      where
        out : (i : ℕ) → get_elem? (queue sv.log) i ≡ some c → ⊥
        out i e = some-ne-none ((leaves sv.log + i)) (sym (k.queue_of.tickets c i e) ∙ ap ticket (k.stands ∙ ap (at g) free))

at_own : (l : Claim) (g : ℕ) (m : Claim) → l ≡ at g m → ((t : ℕ) × (m ≡ Waits g t)) ⊎ ((t : ℕ) × (m ≡ Holds g t)) → l ≡ m
at_own l g m e (inl q) = e ∙ ap (at g) q.1 ∙ ap (λ x. pick x (Waits g q.0)) (eq-eqb g g refl) ∙ sym q.1
at_own l g m e (inr q) = e ∙ ap (at g) q.1 ∙ ap (λ x. pick x (Holds g q.0)) (eq-eqb g g refl) ∙ sym q.1

poll_answers : (q : List ℕ) (b : Bool) (c x t : ℕ) → (t ≡ x → (get_elem? q 0 ≡ some c) × (b ≡ false)) → (t ≢ x → ((i : ℕ) × (get_elem? q i ≡ some c)) × ¬ (get_elem? q 0 ≡ some c)) → Answers (record { queue = q; granted = b }) c (Poll (x == t))
poll_answers q b c x t same other = dite (ℕ_discrete x t)
    (λ e. subst (λ k. Answers (record { queue = q; granted = b }) c (Poll k)) (sym (eq-eqb x t e)) (let r = same (sym e) in (at_first q c r.0, r.1)))
    (λ n. subst (λ k. Answers (record { queue = q; granted = b }) c (Poll k)) (sym (ne_eqb x t n)) (let r = other (λ e. n (sym e)) in (among q c r.0, not_first q c r.1)))

not_held : (h : List Event) (c g t : ℕ) → Coupled h → claim_of (by_core c h) ≡ Waits g t → get_elem? (queue h) 0 ≡ some c → (x : Bool) → granted h ≡ x → x ≡ false
not_held h c g t k is first false e = refl
not_held h c g t k is first true e = let y = k.holder e in absurd (true≢false (sym y.2 ∙ ap (λ d. held (claim_of (by_core d h))) (some-injective y.0 c (sym y.1 ∙ first)) ∙ ap held is))

pub polls_allowed : (z : BoardSize) (slots id : ℕ) (me : Me (Unit {0}) View) (g c t : ℕ) (b : Page) → g < z.resources → HasOnly me.0 c b → b.admitted ≡ true → page_has_acted b ≡ false → claim_of b.newest ≡ Waits g t
    → Allows (Ruled z) slots id me g (λ n. n) (Tells page_with_poll (step slots g 0 0 none) me)
polls_allowed z slots id me g c t b in_g sole room quiet waits s r _ at_id fits =
    let fresh = unacted z id c me.0 b s r at_id sole room quiet in
    let n = slice_index s.words g in
    let k : (sv : IsServedNewest g n r.pages) → Found z s id g c b r sv = λ sv. found z s id g c me.0 b r sv at_id sole room fresh in
    let sv = r.tied.served g in_g in
    (with_pages (page_with_poll g n) me.0, keeps, tt, acts z s id g n c me.0 b (record { tick = b.tick; res = record { 0 = g }; place = high n + low n; call = Poll (low n == ticket_of (claim_of b.newest)) }) (page_with_poll g n) r at_id in_g sole room fresh refl refl refl (t, waits) ((tells z s id g c me.0 b r sv sole (k sv)).2 c b sole.page) (λ sv. step_ok sv (k sv)), let x = tells z s id g c me.0 b r sv sole (k sv) in record { changed = refl; order = x.0; small = let few = x.1 in omega (arith, few); behind = x.2 })
  where
    step_ok : (sv : IsServedNewest g (slice_index s.words g) r.pages) → Found z s id g c b r sv → (high (slice_index s.words g) + low (slice_index s.words g) ≡ asks sv.log + leaves sv.log)
        × Answers (lock sv.log) c (Poll (low (slice_index s.words g) == ticket_of (claim_of b.newest)))
        × (slice_index s.words g ≡ asks sv.log * 4294967296 + leaves sv.log)
    step_ok sv k = let a = k.next_is in let d = k.serving_is in (
      omega (arith, a, d),
      poll_answers (queue sv.log) (granted sv.log) c (low (slice_index s.words g)) (ticket_of (claim_of b.newest))
          (λ e. let i = where_is.0 in let first = subst (λ j. get_elem? (queue sv.log) j ≡ some c) (let w = where_is.2 in let u = ap ticket_of waits in let zero_is : i ≡ 0 = omega (arith, w, u, e, d) in zero_is) where_is.1 in (first, not_held sv.log c g t k.queue_of mine first (granted sv.log) refl))
          (λ ne. ((where_is.0, where_is.1), λ first. ne (ap ticket_of waits ∙ some-injective t ((leaves sv.log + 0)) (sym (ap ticket mine) ∙ k.queue_of.tickets c 0 first) ∙ omega (arith, d)))),
      sv.counts,
    )
      where
        mine : claim_of (by_core c sv.log) ≡ Waits g t
        mine = at_own (claim_of (by_core c sv.log)) g (claim_of b.newest) k.stands (inl (t, waits)) ∙ waits

        where_is : (i : ℕ) × (get_elem? (queue sv.log) i ≡ some c) × (t ≡ (leaves sv.log + i))
        where_is = k.queue_of.stands c t (ap ticket mine)

pub leaves_allowed : (z : BoardSize) (slots id : ℕ) (me : Me (Unit {0}) View) (g c t : ℕ) (b : Page) → g < z.resources → HasOnly me.0 c b → b.admitted ≡ true → page_has_acted b ≡ false → claim_of b.newest ≡ Holds g t
    → Allows (Ruled z) slots id me g (λ n. (n + 1) % 2 ^ 64) (Tells page_with_leave (step slots g 1 0 none) me)
leaves_allowed z slots id me g c t b in_g sole room quiet holds s r _ at_id fits =
    let fresh = unacted z id c me.0 b s r at_id sole room quiet in
    let n = slice_index s.words g in
    let k : (sv : IsServedNewest g n r.pages) → Found z s id g c b r sv = λ sv. found z s id g c me.0 b r sv at_id sole room fresh in
    let sv = r.tied.served g in_g in
    (with_pages (page_with_leave g n) me.0, keeps, tt, acts z s id g ((n + 1) % 2 ^ 64) c me.0 b (record { tick = b.tick; res = record { 0 = g }; place = high n + low n; call = Leave }) (page_with_leave g n) r at_id in_g sole room fresh refl refl refl (t, holds) ((tells z s id g c me.0 b r sv sole (k sv)).2 c b sole.page) (λ sv. step_ok sv (k sv)), let x = tells z s id g c me.0 b r sv sole (k sv) in record { changed = refl; order = x.0; small = let few = x.1 in omega (arith, few); behind = x.2 })
  where
    step_ok : (sv : IsServedNewest g (slice_index s.words g) r.pages) → Found z s id g c b r sv → (high (slice_index s.words g) + low (slice_index s.words g) ≡ asks sv.log + leaves sv.log)
        × (IsFirst (queue sv.log) c × (granted sv.log ≡ true))
        × ((slice_index s.words g + 1) % 2 ^ 64 ≡ asks sv.log * 4294967296 + suc (leaves sv.log))
    step_ok sv k = let a = k.next_is in let d = k.serving_is in let l = k.small in let w = sv.counts in let h = k.queue_of.holds c (ap held (at_own (claim_of (by_core c sv.log)) g (claim_of b.newest) k.stands (inr (t, holds)) ∙ holds)) in
        (omega (arith, a, d), (at_first (queue sv.log) c h.1, h.0), omega (arith, w, l))
