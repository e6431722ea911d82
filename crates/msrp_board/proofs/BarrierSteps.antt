-- A look and an arrival keep the rule.
use Rattle.msrp_plan.proofs.Common.{ltb, leb, ⊎_elim, ℕ, zero, suc, List, [], length, set, Bool, true, false, refl, sym, ap, subst, arith, slice_index, some, none, get_elem?, mul-le, mod-mul-add, div-mul-add, length-set, get_or-set_same, get_or-set_other}
use Rattle.std.proofs.Common.{◌≡◌, ◌≢◌, ◌+◌, ◌*◌, ◌/◌, ◌%◌, ◌^◌, ◌<◌, ◌≤◌, ◌∙◌, ltb-true, leb-true}
use Rattle.msrp_board.proofs.Common.{Aborted, Allows, BoardSize, Conductor, Gathered, HasConductor, HasOnly, IsKeptNewest, IsServedNewest, Me, Opened, Page, Ruled, State, TellsChange, TellsLook, Unopened, View, abort_count, admissions_of, arrivals, at_set, by_core, keeps, on_resource, opening_count, page_admissions, page_after_look, page_after_look_if, page_with_arrival, step, stepped, with_pages}
use Rattle.msrp_board.proofs.Sharing.{same_shared}
use Rattle.msrp_board.proofs.Counts.{arrivals_set, total_same}
use Rattle.msrp_board.proofs.TicketSteps.{shared_step}
use Rattle.msrp_board.proofs.Kept.{kept_arrival, kept_look}
use Rattle.msrp_board.proofs.Arrivals.{above, all_full, arrivals_bound}

served_same : (g n c : ℕ) (books : List Page) (b d : Page) → get_elem? books c ≡ some b → d.newest ≡ b.newest → IsServedNewest g n books → IsServedNewest g n (set books c d)
served_same g n c books b d has same s =
    let hist = s.history in
    record {
      log = s.log;
      history = record {
        entries = λ x y q. ⊎_elim
            (λ (t : (x ≡ c) × (d ≡ y)). subst (λ k. by_core k s.log ≡ on_resource g y.newest) (sym t.0) (hist.entries c b has ∙ ap (on_resource g) (sym same) ∙ ap (λ (k : Page). on_resource g k.newest) t.1))
            (λ (t : (x ≢ c) × (get_elem? books x ≡ some y)). hist.entries x y t.1)
            (at_set books c x d y q);
        none_past = λ x far. let w = length-set books c d in hist.none_past x (omega (arith, w, far));
        placed = hist.placed;
      };
      legal = s.legal;
      counts = s.counts;
      short = let t = total_same books c b d has same in let old = s.short in omega (arith, t, old);
      rising = s.rising;
      polls = s.polls;
    }

pub reach_high : (b : Page) → b.tick ≤ page_admissions b
reach_high b = of b.admitted
  where
    of : (a : Bool) → b.tick ≤ admissions_of a b.tick
    of true = omega arith
    of false = omega arith

reach_low : (b : Page) → page_admissions b ≤ suc b.tick
reach_low b = of b.admitted
  where
    of : (a : Bool) → admissions_of a b.tick ≤ suc b.tick
    of true = omega arith
    of false = omega arith

gathered_step : (n m c : ℕ) (books : List Page) (b d : Page) (o : Conductor) → get_elem? books c ≡ some b → b.tick ≤ d.tick → (d.stopped ≡ true → o ≡ Aborted)
    → (0 < page_admissions d → (o ≡ Opened) × ((x : ℕ) (e : Page) → get_elem? books x ≡ some e → page_admissions d ≤ suc e.tick))
    → m ≡ abort_count o * 4294967296 + (arrivals (set books c d) + opening_count o) → Gathered n books o → Gathered m (set books c d) o
gathered_step n m c books b d o has up stop may word g = record {
  counts = word;
  told = λ x y h s. ⊎_elim
      (λ (t : (x ≡ c) × (d ≡ y)). stop (ap (λ (k : Page). k.stopped) t.1 ∙ s))
      (λ (t : (x ≢ c) × (get_elem? books x ≡ some y)). g.told x y t.1 s)
      (at_set books c x d y h);
  met = λ x y h p. ⊎_elim
      (λ (t : (x ≡ c) × (d ≡ y)). let rs = ap page_admissions t.1 in let k = may (omega (arith, p, rs)) in (k.0, λ w e j. all (page_admissions y) (λ z f at. let l = k.1 z f at in omega (arith, l, rs)) (let l = reach_low d in omega (arith, l, rs)) w e j))
      (λ (t : (x ≢ c) × (get_elem? books x ≡ some y)). let k = g.met x y t.1 p in (k.0, all (page_admissions y) k.1 (let l = k.1 c b has in omega (arith, l, up))))
      (at_set books c x d y h);
}
  where
    all : (r : ℕ) → ((z : ℕ) (f : Page) → get_elem? books z ≡ some f → r ≤ suc f.tick) → r ≤ suc d.tick → (w : ℕ) (e : Page) → get_elem? (set books c d) w ≡ some e → r ≤ suc e.tick
    all r old mine w e j = ⊎_elim
        (λ (t : (w ≡ c) × (d ≡ e)). let q = ap (λ (k : Page). k.tick) t.1 in omega (arith, q, mine))
        (λ (t : (w ≢ c) × (get_elem? books w ≡ some e)). old w e t.1)
        (at_set books c w d e j)

meets : (z : BoardSize) (s : State (Unit {0}) View) (id m c : ℕ) (v : View) (b d : Page) (f : Page → Page) (r : Ruled z s) → get_elem? s.views id ≡ some v → HasOnly v c b → f b ≡ d → d.newest ≡ b.newest → IsKeptNewest z d
    → Gathered m (set r.pages c d) r.conductor → Ruled z (stepped s z.resources m id [] (with_pages f v) keeps)
meets z s id m c v b d f r at_id sole is same kept gat =
    let books = r.pages in
    let tied = r.tied in
    let has : get_elem? books c ≡ some b = r.shared.true_of id c b (v, at_id, sole.page) in
    record {
      pages = set books c d;
      conductor = r.conductor;
      shared = shared_step s.views books id c v b d f at_id sole is has r.shared;
      shared_conductor = same_shared HasConductor s.views (λ k x. (k ≡ 0) × (r.conductor ≡ x)) id v (with_pages f v) at_id (λ k o h. h) (λ k o h. h) r.shared_conductor;
      tied = record {
        cores = length-set books c d ∙ tied.cores;
        served = λ h in_h. subst (λ k. IsServedNewest h k (set books c d)) (sym (get_or-set_other s.words z.resources h m 0 (λ q. omega (arith, q, in_h)))) (served_same h (slice_index s.words h) c books b d has same (tied.served h in_h));
        kept = λ x y q. ⊎_elim (λ (t : (x ≡ c) × (d ≡ y)). subst (IsKeptNewest z) t.1 kept) (λ (t : (x ≢ c) × (get_elem? books x ≡ some y)). tied.kept x y t.1) (at_set books c x d y q);
        gathered = subst (λ k. Gathered k (set books c d) r.conductor) (sym (get_or-set_same s.words z.resources m 0 (let l = r.words in omega (arith, l)))) gat;
      };
      limits = r.limits;
      words = length-set s.words z.resources m ∙ r.words;
    }

pub few_arrivals : (z : BoardSize) (s : State (Unit {0}) View) (r : Ruled z s) → arrivals r.pages ≤ 160000
few_arrivals z s r =
    let t = arrivals_bound r.pages z.ticks (λ c b e. let k = (r.tied.kept c b e).within in let l = reach_high b in omega (arith, k, l)) in
    let m = mul-le (length r.pages) z.ticks 8 20000 (let x = r.limits.cores.1 in let n = r.tied.cores in omega (arith, n, x)) r.limits.ticks.1 in omega (arith, t, m)

pub arrive_allowed : (z : BoardSize) (slots id : ℕ) (me : Me (Unit {0}) View) (c : ℕ) (b : Page) → HasOnly me.0 c b → b.admitted ≡ true → Allows (Ruled z) slots id me z.resources (λ n. (n + 1) % 2 ^ 64) (TellsChange (with_pages page_with_arrival) (step slots z.resources 1 0 none) me)
arrive_allowed z slots id me c b sole in_tick s r _ at_id fits =
    let n = slice_index s.words z.resources in
    let m = (n + 1) % 2 ^ 64 in
    let books = r.pages in
    let has : get_elem? books c ≡ some b = r.shared.true_of id c b (me.0, at_id, sole.page) in
    let rs : page_admissions b ≡ suc b.tick = ap (λ k. admissions_of k b.tick) in_tick in
    let d = page_with_arrival b in
    let k = r.tied.kept c b has in
    let g = r.tied.gathered in
    let open_now = g.met c b has (omega (arith, rs)) in
    let one = ap opening_count open_now.0 in
    let none_aborted = ap abort_count open_now.0 in
    let few = few_arrivals z s r in
    let more = arrivals_set books c b d has in (
      with_pages page_with_arrival me.0,
      keeps,
      tt,
      meets z s id m c me.0 b d page_with_arrival r at_id sole refl refl (kept_arrival z b k in_tick)
          (gathered_step n m c books b d r.conductor has (omega arith) (g.told c b has) (λ _. (open_now.0, λ x e h. let l = open_now.1 x e h in omega (arith, l, rs))) (let w = g.counts in omega (arith, w, one, none_aborted, few, more)) g),
      refl,
    )

pub bit : (o : Conductor) → opening_count o ≤ 1
bit Unopened = omega arith
bit Opened = omega arith
bit Aborted = omega arith

is_open : (o : Conductor) → opening_count o ≡ 1 → o ≡ Opened
is_open Unopened e = absurd (omega (arith, e))
is_open Opened e = refl
is_open Aborted e = absurd (omega (arith, e))

is_aborted : (o : Conductor) → 0 < abort_count o → o ≡ Aborted
is_aborted Unopened e = absurd (omega (arith, e))
is_aborted Opened e = absurd (omega (arith, e))
is_aborted Aborted e = refl

-- enough arrivals let a core into its tick
let_in : (books : List Page) (n t : ℕ) (o : Conductor) → Gathered n books o → 1 + length books * t ≤ arrivals books + opening_count o → (o ≡ Opened) × ((x : ℕ) (e : Page) → get_elem? books x ≡ some e → t ≤ e.tick)
let_in books n t o g enough = ⊎_elim
    (λ (u : (c : ℕ) × (b : Page) × (get_elem? books c ≡ some b) × (t < b.tick)).
    let past = u.3 in
    let high = reach_high u.1 in
    let up = g.met u.0 u.1 u.2 (omega (arith, past, high)) in
    (up.0, λ x e at. let l = up.1 x e at in omega (arith, past, high, l)))
    (λ up.
    let few = arrivals_bound books t up in
    let one = bit o in
    (is_open o (omega (arith, few, enough, one)), all_full books t up (omega (arith, enough, one))))
    (above books t)

looks : (z : BoardSize) (s : State (Unit {0}) View) (id n c : ℕ) (v : View) (b : Page) (f : Page → Page) (r : Ruled z s) (h q : Bool) → get_elem? s.views id ≡ some v → HasOnly v c b → b.admitted ≡ false → b.tick < z.ticks → f b ≡ page_after_look_if h q b → n ≡ slice_index s.words z.resources
    → (h ≡ true → r.conductor ≡ Aborted) → (q ≡ true → (r.conductor ≡ Opened) × ((x : ℕ) (e : Page) → get_elem? r.pages x ≡ some e → b.tick ≤ e.tick))
    → Ruled z (stepped s z.resources n id [] (with_pages f v) keeps)
looks z s id n c v b f r true q at_id sole out room is word stop let_go =
    let has : get_elem? r.pages c ≡ some b = r.shared.true_of id c b (v, at_id, sole.page) in
    let d : Page = record { newest = b.newest; tick = b.tick; admitted = b.admitted; stopped = true } in
    let same = arrivals_set r.pages c b d has in let eq : arrivals r.pages ≡ arrivals (set r.pages c d) = omega (arith, same) in
    meets z s id n c v b d f r at_id sole is refl (kept_look z true q b (r.tied.kept c b has) out room) (gathered_step n n c r.pages b d r.conductor has (omega arith) (λ _. stop refl) (r.tied.gathered.met c b has) (word ∙ r.tied.gathered.counts ∙ ap (λ k. abort_count r.conductor * 4294967296 + (k + opening_count r.conductor)) eq) (subst (λ k. Gathered k r.pages r.conductor) (sym word) r.tied.gathered))
looks z s id n c v b f r false true at_id sole out room is word stop let_go =
    let has : get_elem? r.pages c ≡ some b = r.shared.true_of id c b (v, at_id, sole.page) in
    let d : Page = record { newest = b.newest; tick = b.tick; admitted = true; stopped = b.stopped } in
    let same = arrivals_set r.pages c b d has in let eq : arrivals r.pages ≡ arrivals (set r.pages c d) = omega (arith, same) in
    let go = let_go refl in
    meets z s id n c v b d f r at_id sole is refl (kept_look z false true b (r.tied.kept c b has) out room)
    (gathered_step n n c r.pages b d r.conductor has (omega arith) (r.tied.gathered.told c b has) (λ _. (go.0, λ x e h. let t = go.1 x e h in omega (arith, t))) (word ∙ r.tied.gathered.counts ∙ ap (λ k. abort_count r.conductor * 4294967296 + (k + opening_count r.conductor)) eq) (subst (λ k. Gathered k r.pages r.conductor) (sym word) r.tied.gathered))
looks z s id n c v b f r false false at_id sole out room is word stop let_go =
    let has : get_elem? r.pages c ≡ some b = r.shared.true_of id c b (v, at_id, sole.page) in
    let same = arrivals_set r.pages c b b has in let eq : arrivals r.pages ≡ arrivals (set r.pages c b) = omega (arith, same) in
    meets z s id n c v b b f r at_id sole is refl (r.tied.kept c b has) (gathered_step n n c r.pages b b r.conductor has (omega arith) (r.tied.gathered.told c b has) (r.tied.gathered.met c b has) (word ∙ r.tied.gathered.counts ∙ ap (λ k. abort_count r.conductor * 4294967296 + (k + opening_count r.conductor)) eq) (subst (λ k. Gathered k r.pages r.conductor) (sym word) r.tied.gathered))

lt_says : (a b : ℕ) → ltb a b ≡ true → a < b
lt_says a b e = ltb-true a b e

le_says : (a b : ℕ) → leb a b ≡ true → a ≤ b
le_says a b e = leb-true a b e

pub look_allowed : (z : BoardSize) (slots id : ℕ) (me : Me (Unit {0}) View) (c : ℕ) (b : Page) → HasOnly me.0 c b → b.admitted ≡ false → b.tick < z.ticks → Allows (Ruled z) slots id me z.resources (λ n. n) (TellsLook z.cores (step slots z.resources 0 0 none) me)
look_allowed z slots id me c b sole out room s r _ at_id fits =
    let n = slice_index s.words z.resources in
    let few = few_arrivals z s r in
    let o_bit = bit r.conductor in
    let low : arrivals r.pages + opening_count r.conductor < 4294967296 = omega (arith, few, o_bit) in
    let high_is : n / 4294967296 ≡ abort_count r.conductor = ap (λ k. k / 4294967296) r.tied.gathered.counts ∙ div-mul-add (abort_count r.conductor) 4294967296 (arrivals r.pages + opening_count r.conductor) low in
    let low_is : n % 4294967296 ≡ arrivals r.pages + opening_count r.conductor = ap (λ k. k % 4294967296) r.tied.gathered.counts ∙ mod-mul-add (abort_count r.conductor) 4294967296 (arrivals r.pages + opening_count r.conductor) low in
    let len : length r.pages * b.tick ≡ z.cores * b.tick = ap (λ k. k * b.tick) r.tied.cores in (
      with_pages (page_after_look z.cores n) me.0,
      keeps,
      tt,
      looks z s id n c me.0 b (page_after_look z.cores n) r (ltb 0 (n / 4294967296)) (leb (1 + z.cores * b.tick) (n % 4294967296)) at_id sole out room refl refl
          (λ e. is_aborted r.conductor (let h = lt_says 0 (n / 4294967296) e in omega (arith, h, high_is)))
          (λ e. let_in r.pages n b.tick r.conductor r.tied.gathered (let h = le_says (1 + z.cores * b.tick) (n % 4294967296) e in omega (arith, h, low_is, len))),
      (refl, λ x e h high. at_start e x (r.shared.true_of id x e (me.0, at_id, h)) (is_aborted r.conductor (let l = lt_says 0 (n / 4294967296) high in omega (arith, l, high_is)))),
    )
  where
    -- after an abort nobody is or was admitted
    at_start : (e : Page) (x : ℕ) → get_elem? r.pages x ≡ some e → r.conductor ≡ Aborted → e.tick ≡ 0
    at_start e x at off = by_reach (page_admissions e) refl
      where
        by_reach : (k : ℕ) → page_admissions e ≡ k → e.tick ≡ 0
        by_reach zero is = let l = reach_high e in omega (arith, l, is)
        by_reach (suc k) is = absurd (clash (sym (r.tied.gathered.met x e at (omega (arith, is))).0 ∙ off))
          where
            clash : Opened ≡ Aborted → ⊥
            clash q = cc
