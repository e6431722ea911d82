-- How often a waiting job spins: at the end of each tick the spins so far and the work ahead are
-- within the work that was ahead at first.
use Rattle.msrp_plan.specs.Common.{ℕ, Bool, true, false, cond, List, [], Some, drop, slice_get, AllByRecursion, Contains, list_any, resources, is_row_of, done, is_grant, is_grant_of, is_spin, is_spin_of, is_global, PlanModel, core_of, units, is_lock_of, res_of_unit, fifo, is_first, is_on, EachAfter, IsLegal, IsPlan}
use Rattle.msrp_plan.specs.declared.ids.JobId.{JobId}
use Rattle.msrp_plan.specs.declared.rows.Kind.{Kind}
use Rattle.msrp_plan.specs.declared.rows.Kind.TheVariants.{Grant, Queue, Release, Spin, Take}
use Rattle.msrp_plan.specs.declared.rows.Row.{Row}
use Rattle.msrp_plan.specs.declared.units.Op.{Op}
use Rattle.std.proofs.Common.{◌≡◌, ◌≢◌, ◌+◌, ◌<◌, ◌≤◌, ◌||◌, ◌==◌, ◌∷◌, ◌++◌, ◌⊎◌, refl, ap, sym, ◌∙◌, subst, arith, append_assoc, inl, inr, eq-eqb}
use Rattle.std.specs.List.{count_by}
use Rattle.std.proofs.Math.Bool.{true≢false}
use Rattle.std.proofs.lemmas.Bool.{eqb-true, and_parts, or_parts}
use Rattle.std.proofs.lemmas.List.Sums.{sum_by-cons}
use Rattle.msrp_plan.specs.declared.units.Op.TheVariants.{Run as RunUnit, Lock as LockUnit, Unlock as UnlockUnit}
use Rattle.msrp_plan.proofs.Lists.Apart.{ApartBy}
use Rattle.msrp_plan.proofs.Queues.Effects.{Effect, Got, IsMove, Joined, Left, Quiet, Spun, Took, effect, mover_is}
use Rattle.msrp_plan.proofs.Jobs.JobTests.{is_job_is, same_is, same_self}
use Rattle.msrp_plan.proofs.Legality.LegalRows.{DoesUnit, legal_turn, turn_core}
use Rattle.msrp_plan.proofs.Queues.Overtaking.{not_mine, still_waits, same_queue}
use Rattle.msrp_plan.proofs.Queues.QueueMembers.{IsMember, IsQueueOf}
use Rattle.msrp_plan.proofs.Spinning.QueueWork.{IsFair, fair_push, work_first, works, works_le}
use Rattle.msrp_plan.proofs.Spinning.SectionWork.{work, work_some}
use Rattle.msrp_plan.proofs.TaskUnits.Stands.{Holds, Out, Waits, holds_waits, waits_out, holder_stands, locks_at, up_cases, stand}
use Rattle.msrp_plan.proofs.Runs.Ticks.{IsFull, IsTick, fresh, full, not_turned, row_tick, rows_in, tick_push, turned, turned_push}
use Rattle.msrp_plan.proofs.Lists.AnyAll.{all_mid}
use Rattle.msrp_plan.proofs.Tests.{or_off, one_at_most}

-- ---- the pace: at the end of a tick the spins so far and the work ahead are within the total
abbrev pub Behind : ℕ → ℕ → ℕ → Bool → Bool → Type 0
Behind s w total tc ty = (s + w + 1 ≤ total + cond {A = ℕ} tc 1 0) ⊎ ((ty ≡ false) × (s + w ≤ total + cond {A = ℕ} tc 1 0))

-- of the jobs ahead
abbrev pub Pace : PlanModel → ℕ → List Row → (ℕ → Bool) → ℕ → ℕ → ℕ → List JobId → Type 0
Pace plan g pre T c total s [] = s ≤ total
Pace plan g pre T c total s (y ∷ ys) = Behind s (works plan g pre (y ∷ ys)) total (T c) (T (core_of plan y))

-- no turn more
or_keep : (b : Bool) → b ≡ false → b || false ≡ false
or_keep b e = ap (λ c. c || false) e

-- over one row: a spin uses the turn of the job's core, and the first's row takes one off the work
pace_go : (tc b c ty : Bool) (s s2 w w2 total : ℕ) → (b ≡ true → tc ≡ false) → (b ≡ true → c ≡ true → ⊥) → s2 ≤ s + cond {A = ℕ} b 1 0 → w2 ≤ w → (c ≡ true → w2 + 1 ≤ w) → Behind s w total tc ty → Behind s2 w2 total (tc || b) (ty || c)
pace_go tc true true ty s s2 w w2 total h1 h2 hs hw hc old = absurd (h2 refl refl)
pace_go true true false ty s s2 w w2 total h1 h2 hs hw hc old = let e = h1 refl in absurd (cc)
pace_go false true false ty s s2 w w2 total h1 h2 hs hw hc old =
    elim old [ inl k ↦ inl (omega (arith, k, hs, hw)) | inr k ↦ let l = k.1 in inr (or_keep ty k.0, omega (arith, l, hs, hw)) ]
pace_go true false true ty s s2 w w2 total h1 h2 hs hw hc old =
    let d = hc refl in elim old [ inl k ↦ inl (omega (arith, k, hs, d)) | inr k ↦ let l = k.1 in inl (omega (arith, l, hs, d)) ]
pace_go false false true ty s s2 w w2 total h1 h2 hs hw hc old =
    let d = hc refl in elim old [ inl k ↦ inl (omega (arith, k, hs, d)) | inr k ↦ let l = k.1 in inl (omega (arith, l, hs, d)) ]
pace_go true false false ty s s2 w w2 total h1 h2 hs hw hc old =
    elim old [ inl k ↦ inl (omega (arith, k, hs, hw)) | inr k ↦ let l = k.1 in inr (or_keep ty k.0, omega (arith, l, hs, hw)) ]
pace_go false false false ty s s2 w w2 total h1 h2 hs hw hc old =
    elim old [ inl k ↦ inl (omega (arith, k, hs, hw)) | inr k ↦ let l = k.1 in inr (or_keep ty k.0, omega (arith, l, hs, hw)) ]

-- x waits behind others, with s spins so far
pub record IsSpinning (plan : PlanModel) (g : ℕ) (x : JobId) (t : ℕ) (pre : List Row) (total s : ℕ) : Type 0 where
  pub ahead : List JobId
  pub behind : List JobId
  pub queue : fifo g pre ≡ ahead ++ x ∷ behind
  pub waits : stand plan g pre x ≡ Waits
  pub pace : Pace plan g pre (turned t pre) (core_of plan x) total s ahead

-- ---- parts of the queue
pub all_left : {X : Type 0} (P : X → Type 0) (xs ys : List X) → AllByRecursion P (xs ++ ys) → AllByRecursion P xs
all_left P [] ys all = tt
all_left P (x ∷ xs) ys all = (all.0, all_left P xs ys all.1)

-- all before one are apart from it
pub apart_mid : {X : Type 0} (f : X → ℕ) (xs : List X) (x : X) (ys : List X) → ApartBy f (xs ++ x ∷ ys) → AllByRecursion (λ z. f z ≢ f x) xs
apart_mid f [] x ys a = tt
apart_mid f (z ∷ xs) x ys a = (all_mid (λ w. f z ≢ f w) xs x ys a.0, apart_mid f xs x ys a.1)

-- the first part is apart
pub apart_left : {X : Type 0} (f : X → ℕ) (xs ys : List X) → ApartBy f (xs ++ ys) → ApartBy f xs
apart_left f [] ys a = tt
apart_left f (x ∷ xs) ys a = (all_left (λ z. f x ≢ f z) xs ys a.0, apart_left f xs ys a.1)

-- ---- spins
spin_core_go : (b : Bool) (n m : ℕ) (s : ℕ) → (b ≡ true → (n == m) ≡ true) → s + cond {A = ℕ} b 1 0 ≤ s + cond {A = ℕ} (n == m) 1 0
spin_core_go true n m s h = let e : cond {A = ℕ} (n == m) 1 0 ≡ 1 = ap (λ c. cond {A = ℕ} c 1 0) (h refl) in omega (arith, e)
spin_core_go false n m s h = omega arith

-- a spin row of x is its core's
spin_core : (plan : PlanModel) (g : ℕ) (pre : List Row) (r : Row) (x : JobId) (s : ℕ) → IsLegal plan pre r → s + cond {A = ℕ} (is_spin_of x r) 1 0 ≤ s + cond {A = ℕ} (r.core.0 == core_of plan x) 1 0
spin_core plan g pre r x s h =
    spin_core_go (is_spin_of x r) r.core.0 (core_of plan x) s (λ e.
    let both = and_parts (is_row_of x r) (is_spin r.kind) e in
    eq-eqb r.core.0 (core_of plan x) (sym (turn_core plan pre r x (legal_turn plan pre r h) (is_job_is r.job x both.0))))

-- what is not true is false
no_spin_go : (b : Bool) → (b ≡ true → ⊥) → b ≡ false
no_spin_go true h = absurd (h refl)
no_spin_go false h = refl

-- a row of another kind is no spin
is_kind : (r : Row) (k : Kind) → r.kind ≡ k → is_spin k ≡ false → is_spin r.kind ≡ true → ⊥
is_kind r k e f h = true≢false (sym h ∙ (ap is_spin e ∙ f))

-- who waits is at a lock of it
waits_at : (plan : PlanModel) (g : ℕ) (pre : List Row) (x : JobId) → stand plan g pre x ≡ Waits → locks_at g (slice_get (units plan x) (done x pre)) ≡ true
waits_at plan g pre x w =
    elim (up_cases plan g pre x (λ h. waits_out (sym w ∙ h))) [
      | inl h ↦ absurd (holds_waits (sym (holder_stands plan g pre x h) ∙ w))
      | inr q ↦ q.1
    ]

-- a lock of it is on it
lock_on : (g : ℕ) (op : Op) → is_lock_of g op ≡ true → is_on g (res_of_unit op) ≡ true
lock_on g RunUnit l = absurd (cc)
lock_on g (LockUnit h) l = l
lock_on g (UnlockUnit h) l = absurd (cc)

-- so each of its rows is on it
pub waits_on : (plan : PlanModel) (g : ℕ) (pre : List Row) (r : Row) (x : JobId) → stand plan g pre x ≡ Waits → DoesUnit plan pre x r → is_on g r.res ≡ true
waits_on plan g pre r x w d = ap (is_on g) d.res ∙ lock_on g d.op (sym (ap (locks_at g) d.unit) ∙ waits_at plan g pre x w)

-- who waits and is first doesn't spin
no_spin : (plan : PlanModel) (g : ℕ) (pre : List Row) (r : Row) (x : JobId) → stand plan g pre x ≡ Waits → is_first (fifo g pre) (Some x) ≡ true → IsLegal plan pre r → Effect plan g pre r → is_spin_of x r ≡ false
no_spin plan g pre r x w first legal e =
    no_spin_go (is_spin_of x r) (λ h.
    let both = and_parts (is_row_of x r) (is_spin r.kind) h in
    let on = waits_on plan g pre r x w ((legal_turn plan pre r legal).does x (is_job_is r.job x both.0)) in
    elim e [
      | Quiet off fs st ↦ true≢false (sym on ∙ off)
      | Took z m empty fs ↦ is_kind r Take m.kind refl both.1
      | Joined z m some fs ↦ is_kind r Queue m.kind refl both.1
      | Got z m f fs ↦ is_kind r Grant m.kind refl both.1
      | Spun z m back fs ↦ true≢false (sym first ∙ subst (λ v. is_first (fifo g pre) (Some v) ≡ false) (sym (mover_is plan g pre r z x Spin Waits Waits m both.0)) back)
      | Left z m fs ↦ is_kind r Release m.kind refl both.1
    ])

-- ---- a row that leaves those ahead
record Stays (plan : PlanModel) (g : ℕ) (x : JobId) (t : ℕ) (pre : List Row) (r : Row) : Type 0 where
  ok : IsPlan plan
  glob : is_global plan g ≡ true
  there : Contains (resources plan) g
  fair : IsFair plan g pre
  legal : IsLegal plan pre r
  eff : Effect plan g pre r
  tick : IsTick plan t pre

-- keeps the pace
pace_stays : (plan : PlanModel) (g : ℕ) (x : JobId) (t : ℕ) (pre : List Row) (r : Row) (total s : ℕ) (ahead behind : List JobId) → Stays plan g x t pre r → fifo g pre ≡ ahead ++ x ∷ behind → stand plan g pre x ≡ Waits → Pace plan g pre (turned t pre) (core_of plan x) total s ahead → Pace plan g (pre ++ r ∷ []) (turned t (pre ++ r ∷ [])) (core_of plan x) total (s + cond {A = ℕ} (is_spin_of x r) 1 0) ahead
pace_stays plan g x t pre r total s [] behind w q st old =
    let e : cond {A = ℕ} (is_spin_of x r) 1 0 ≡ 0 = ap (λ b. cond {A = ℕ} b 1 0) (no_spin plan g pre r x st (ap (λ f. is_first f (Some x)) q ∙ same_self x) w.legal w.eff) in
    omega (arith, old, e)
pace_stays plan g x t pre r total s (y ∷ ys) behind w q st old =
    let tick = row_tick plan t pre r w.tick w.legal in
    let nt = not_turned plan t pre r w.tick w.legal in
    let members : AllByRecursion (IsMember plan g pre) (y ∷ (ys ++ x ∷ behind)) = subst (AllByRecursion (IsMember plan g pre)) q w.fair.queue.each in
    let apart : ApartBy (core_of plan) (y ∷ (ys ++ x ∷ behind)) = subst (ApartBy (core_of plan)) q w.fair.queue.apart in
    let ne : core_of plan y ≢ core_of plan x = all_mid (λ z. core_of plan y ≢ core_of plan z) ys x behind apart.0 in
    let front : is_first (fifo g pre) (Some y) ≡ true = ap (λ f. is_first f (Some y)) q ∙ same_self y in
    let le = works_le plan g pre r w.ok w.glob w.legal w.eff (y ∷ ys) (all_left (IsMember plan g pre) (y ∷ ys) (x ∷ behind) members) in
    let rest = works_le plan g pre r w.ok w.glob w.legal w.eff ys (all_left (IsMember plan g pre) ys (x ∷ behind) members.1) in
    let c1 = sum_by-cons (work plan g (pre ++ r ∷ [])) y ys in
    let c2 = sum_by-cons (work plan g pre) y ys in
    let less : (r.core.0 == core_of plan y) ≡ true → works plan g (pre ++ r ∷ []) (y ∷ ys) + 1 ≤ works plan g pre (y ∷ ys) = λ e.
    let k = work_first plan g pre r y w.ok w.glob w.there w.fair.queue w.legal w.eff members.0 front (sym (eqb-true r.core.0 (core_of plan y) e)) in omega (arith, k, rest, c1, c2) in
    let new = pace_go (turned t pre (core_of plan x)) (r.core.0 == core_of plan x) (r.core.0 == core_of plan y) (turned t pre (core_of plan y)) s (s + cond {A = ℕ} (is_spin_of x r) 1 0) (works plan g pre (y ∷ ys)) (works plan g (pre ++ r ∷ []) (y ∷ ys)) total
    (λ e. subst (λ n. turned t pre n ≡ false) (eqb-true r.core.0 (core_of plan x) e) nt)
    (λ a b. ne (sym (eqb-true r.core.0 (core_of plan y) b) ∙ eqb-true r.core.0 (core_of plan x) a))
    (spin_core plan g pre r x s w.legal) le less old in
    subst (λ b. Behind (s + cond {A = ℕ} (is_spin_of x r) 1 0) (works plan g (pre ++ r ∷ []) (y ∷ ys)) total b (turned t (pre ++ r ∷ []) (core_of plan y))) (sym (turned_push t pre r (core_of plan x) tick))
    (subst (λ b. Behind (s + cond {A = ℕ} (is_spin_of x r) 1 0) (works plan g (pre ++ r ∷ []) (y ∷ ys)) total (turned t pre (core_of plan x) || (r.core.0 == core_of plan x)) b) (sym (turned_push t pre r (core_of plan y) tick)) new)

-- and the invariant
spin_stays : (plan : PlanModel) (g : ℕ) (x : JobId) (t : ℕ) (pre : List Row) (r : Row) (total s : ℕ) (more : List JobId) → Stays plan g x t pre r → IsSpinning plan g x t pre total s → fifo g (pre ++ r ∷ []) ≡ fifo g pre ++ more → stand plan g (pre ++ r ∷ []) x ≡ Waits → IsSpinning plan g x t (pre ++ r ∷ []) total (s + cond {A = ℕ} (is_spin_of x r) 1 0)
spin_stays plan g x t pre r total s more w old fs st =
    record {
      ahead = old.ahead;
      behind = old.behind ++ more;
      queue = fs ∙ (ap (λ f. f ++ more) old.queue ∙ append_assoc old.ahead (x ∷ old.behind) more);
      waits = st;
      pace = pace_stays plan g x t pre r total s old.ahead old.behind w old.queue old.waits old.pace;
    }

-- ---- the first leaves
drop_go : (tc : Bool) (ty : Bool) (s w1 w v total : ℕ) → 1 ≤ w1 → w ≡ w1 + v → Behind s w total tc ty → s + v + 1 ≤ total + cond {A = ℕ} tc 1 0
drop_go tc ty s w1 w v total some e old = elim old [ inl k ↦ omega (arith, k, some, e) | inr k ↦ let l = k.1 in omega (arith, l, some, e) ]

-- so the rest has the pace
rest_pace : (plan : PlanModel) (g : ℕ) (pre : List Row) (T : ℕ → Bool) (c total s : ℕ) (ys : List JobId) (b : Bool) → T c ≡ b → s + works plan g pre ys + 1 ≤ total + cond {A = ℕ} b 1 0 → Pace plan g pre T c total s ys
rest_pace plan g pre T c total s [] b e h = let k = one_at_most b in omega (arith, h, k)
rest_pace plan g pre T c total s (y ∷ ys) b e h = inl (subst (λ v. s + works plan g pre (y ∷ ys) + 1 ≤ total + cond {A = ℕ} v 1 0) (sym e) h)

-- numbers that differ fail the test
ne_eqb : (a b : ℕ) (c : Bool) → (a == b) ≡ c → a ≢ b → (a == b) ≡ false
ne_eqb a b true e ne = absurd (ne (eqb-true a b e))
ne_eqb a b false e ne = e

-- keeps the invariant
spin_left : (plan : PlanModel) (g : ℕ) (x : JobId) (t : ℕ) (pre : List Row) (r : Row) (total s : ℕ) (z : JobId) (ahead behind : List JobId) → Stays plan g x t pre r → fifo g pre ≡ ahead ++ x ∷ behind → stand plan g pre x ≡ Waits → Pace plan g pre (turned t pre) (core_of plan x) total s ahead → IsMove plan g pre r z Release Holds Out → is_first (fifo g pre) (Some z) ≡ true → fifo g (pre ++ r ∷ []) ≡ drop 1 (fifo g pre) → IsSpinning plan g x t (pre ++ r ∷ []) total (s + cond {A = ℕ} (is_spin_of x r) 1 0)
spin_left plan g x t pre r total s z [] behind w q st old m first fs =
    let e : z ≡ x = same_is z x (sym (ap (λ f. is_first f (Some z)) q) ∙ first) in
    absurd (holds_waits (sym (subst (λ v. stand plan g pre v ≡ Holds) e m.before) ∙ st))
spin_left plan g x t pre r total s z (y ∷ ys) behind w q st old m first fs =
    let e : z ≡ y = same_is z y (sym (ap (λ f. is_first f (Some z)) q) ∙ first) in
    let tick = row_tick plan t pre r w.tick w.legal in
    let members : AllByRecursion (IsMember plan g pre) (y ∷ (ys ++ x ∷ behind)) = subst (AllByRecursion (IsMember plan g pre)) q w.fair.queue.each in
    let apart : ApartBy (core_of plan) (y ∷ (ys ++ x ∷ behind)) = subst (ApartBy (core_of plan)) q w.fair.queue.apart in
    let ne : core_of plan y ≢ core_of plan x = all_mid (λ v. core_of plan y ≢ core_of plan v) ys x behind apart.0 in
    let at : core_of plan y ≡ r.core.0 = subst (λ v. core_of plan v ≡ r.core.0) e (turn_core plan pre r z (legal_turn plan pre r w.legal) m.job) in
    let other : (r.core.0 == core_of plan x) ≡ false = ne_eqb r.core.0 (core_of plan x) (r.core.0 == core_of plan x) refl (λ k. ne (at ∙ k)) in
    let sc : s + cond {A = ℕ} (is_spin_of x r) 1 0 ≤ s + 0 = subst (λ b. s + cond {A = ℕ} (is_spin_of x r) 1 0 ≤ s + cond {A = ℕ} b 1 0) other (spin_core plan g pre r x s w.legal) in
    let rest = works_le plan g pre r w.ok w.glob w.legal w.eff ys (all_left (IsMember plan g pre) ys (x ∷ behind) members.1) in
    let k = drop_go (turned t pre (core_of plan x)) (turned t pre (core_of plan y)) s (work plan g pre y) (works plan g pre (y ∷ ys)) (works plan g pre ys) total (work_some plan g pre y w.ok members.0.up) (sum_by-cons (work plan g pre) y ys) old in
    let k2 : (s + cond {A = ℕ} (is_spin_of x r) 1 0) + works plan g (pre ++ r ∷ []) ys + 1 ≤ total + cond {A = ℕ} (turned t pre (core_of plan x)) 1 0 = omega (arith, sc, rest, k) in
    record {
      ahead = ys;
      behind = behind;
      queue = fs ∙ ap (drop 1) q;
      waits = still_waits plan g pre r x z Release Holds Out m (λ h. absurd (holds_waits h)) (is_row_of x r) refl st;
      pace = rest_pace plan g (pre ++ r ∷ []) (turned t (pre ++ r ∷ [])) (core_of plan x) total (s + cond {A = ℕ} (is_spin_of x r) 1 0) ys (turned t pre (core_of plan x)) (turned_push t pre r (core_of plan x) tick ∙ or_off (turned t pre (core_of plan x)) (r.core.0 == core_of plan x) other) k2;
    }

-- being out is not waiting
out_waits : Out ≡ Waits → ⊥
out_waits h = cc

-- each effect but a grant to x keeps it
spin_by : (plan : PlanModel) (g : ℕ) (x : JobId) (t : ℕ) (pre : List Row) (r : Row) (total s : ℕ) → Stays plan g x t pre r → IsSpinning plan g x t pre total s → is_grant_of x g r ≡ false → IsSpinning plan g x t (pre ++ r ∷ []) total (s + cond {A = ℕ} (is_spin_of x r) 1 0)
spin_by plan g x t pre r total s w old non =
    elim w.eff [
      | Quiet off fs st ↦ spin_stays plan g x t pre r total s [] w old (same_queue (fifo g pre) (fifo g (pre ++ r ∷ [])) fs) (st x ∙ old.waits)
      | Took z m empty fs ↦ spin_stays plan g x t pre r total s (z ∷ []) w old fs (still_waits plan g pre r x z Take Out Holds m (λ h. absurd (out_waits h)) (is_row_of x r) refl old.waits)
      | Joined z m some fs ↦ spin_stays plan g x t pre r total s (z ∷ []) w old fs (still_waits plan g pre r x z Queue Out Waits m (λ _. refl) (is_row_of x r) refl old.waits)
      | Got z m first fs ↦ spin_stays plan g x t pre r total s [] w old (same_queue (fifo g pre) (fifo g (pre ++ r ∷ [])) fs) (m.others x (not_mine x g r m.on (ap is_grant m.kind) non) ∙ old.waits)
      | Spun z m back fs ↦ spin_stays plan g x t pre r total s [] w old (same_queue (fifo g pre) (fifo g (pre ++ r ∷ [])) fs) (still_waits plan g pre r x z Spin Waits Waits m (λ _. refl) (is_row_of x r) refl old.waits)
      | Left z m fs ↦ spin_left plan g x t pre r total s z old.ahead old.behind w old.queue old.waits old.pace m (w.fair.queue.orderly.first z m.before) fs
    ]

-- ---- the end of a tick
tick_go : (tc ty : Bool) (s w total : ℕ) (tc2 ty2 : Bool) → tc ≡ true → ty ≡ true → tc2 ≡ false → ty2 ≡ false → Behind s w total tc ty → Behind s w total tc2 ty2
tick_go tc ty s w total tc2 ty2 a b a2 b2 old =
    elim old [
      | inl k ↦
          let k1 : s + w + 1 ≤ total + 1 = subst (λ v. s + w + 1 ≤ total + cond {A = ℕ} v 1 0) a k in
          let k2 : s + w ≤ total + 0 = omega (arith, k1) in
          inr (b2, subst (λ v. s + w ≤ total + cond {A = ℕ} v 1 0) (sym a2) k2)
      | inr k ↦ absurd (true≢false (sym b ∙ k.0))
    ]

-- so the pace is kept over the end of a tick
tick_pace : (plan : PlanModel) (g : ℕ) (x : JobId) (t : ℕ) (pre : List Row) (total s : ℕ) (ahead : List JobId) → IsFull plan t pre → rows_in (t + 1) pre ≡ [] → AllByRecursion (IsMember plan g pre) ahead → core_of plan x < plan.cores → Pace plan g pre (turned t pre) (core_of plan x) total s ahead → Pace plan g pre (turned (t + 1) pre) (core_of plan x) total s ahead
tick_pace plan g x t pre total s [] full none members lx old = old
tick_pace plan g x t pre total s (y ∷ ys) full none members lx old =
    tick_go (turned t pre (core_of plan x)) (turned t pre (core_of plan y)) s (works plan g pre (y ∷ ys)) total (turned (t + 1) pre (core_of plan x)) (turned (t + 1) pre (core_of plan y)) (full (core_of plan x) lx) (full (core_of plan y) members.0.core) (fresh (t + 1) pre (core_of plan x) none) (fresh (t + 1) pre (core_of plan y) none) old

-- and the invariant
pub next_tick : (plan : PlanModel) (g : ℕ) (x : JobId) (t : ℕ) (pre : List Row) (total s : ℕ) → IsFull plan t pre → rows_in (t + 1) pre ≡ [] → IsQueueOf plan g pre → IsSpinning plan g x t pre total s → IsSpinning plan g x (t + 1) pre total s
next_tick plan g x t pre total s full none q old =
    let members : AllByRecursion (IsMember plan g pre) (old.ahead ++ x ∷ old.behind) = subst (AllByRecursion (IsMember plan g pre)) old.queue q.each in
    let mine : IsMember plan g pre x = all_mid (IsMember plan g pre) old.ahead x old.behind members in
    record {
      ahead = old.ahead;
      behind = old.behind;
      queue = old.queue;
      waits = old.waits;
      pace = tick_pace plan g x t pre total s old.ahead full none (all_left (IsMember plan g pre) old.ahead (x ∷ old.behind) members) mine.core old.pace;
    }

-- ---- the spins are within the total
few_now : (plan : PlanModel) (g : ℕ) (x : JobId) (pre : List Row) (T : ℕ → Bool) (c total s : ℕ) (ahead : List JobId) → IsPlan plan → AllByRecursion (IsMember plan g pre) ahead → Pace plan g pre T c total s ahead → s ≤ total
few_now plan g x pre T c total s [] ok members old = old
few_now plan g x pre T c total s (y ∷ ys) ok members old =
    let k = drop_go (T c) (T (core_of plan y)) s (work plan g pre y) (works plan g pre (y ∷ ys)) (works plan g pre ys) total (work_some plan g pre y ok members.0.up) (sum_by-cons (work plan g pre) y ys) old in
    let b = one_at_most (T c) in
    omega (arith, k, b)

-- along the wait
pub spins_from : (plan : PlanModel) (g : ℕ) (x : JobId) (t : ℕ) (pre mid : List Row) (total s : ℕ) → IsPlan plan → is_global plan g ≡ true → Contains (resources plan) g → IsFair plan g pre → IsTick plan t pre → IsSpinning plan g x t pre total s → EachAfter (IsLegal plan) pre mid → list_any (is_grant_of x g) mid ≡ false → s + count_by (is_spin_of x) mid ≤ total
spins_from plan g x t pre [] total s p glob there fair tick old all non =
    let members : AllByRecursion (IsMember plan g pre) (old.ahead ++ x ∷ old.behind) = subst (AllByRecursion (IsMember plan g pre)) old.queue fair.queue.each in
    let k = few_now plan g x pre (turned t pre) (core_of plan x) total s old.ahead p (all_left (IsMember plan g pre) old.ahead (x ∷ old.behind) members) old.pace in
    omega (arith, k)
spins_from plan g x t pre (r ∷ mid) total s p glob there fair tick old all non =
    let both = or_parts (is_grant_of x g r) (list_any (is_grant_of x g) mid) non in
    let w : Stays plan g x t pre r = record { ok = p; glob = glob; there = there; fair = fair; legal = all.0; eff = effect plan g pre r p glob fair.queue.orderly.fed all.0; tick = tick } in
    let next = fair_push plan g p glob there pre r fair all.0 in
    let now = spin_by plan g x t pre r total s w old both.0 in
    let c = sum_by-cons (λ v. cond {A = ℕ} (is_spin_of x v) 1 0) r mid in
    elim (tick_push plan t pre r tick all.0) [
      | inl k ↦ let ih = spins_from plan g x t (pre ++ r ∷ []) mid total (s + cond {A = ℕ} (is_spin_of x r) 1 0) p glob there next k now all.1 both.1 in omega (arith, ih, c)
      | inr k ↦ let ih = spins_from plan g x (t + 1) (pre ++ r ∷ []) mid total (s + cond {A = ℕ} (is_spin_of x r) 1 0) p glob there next k.0 (next_tick plan g x t (pre ++ r ∷ []) total (s + cond {A = ℕ} (is_spin_of x r) 1 0) k.1 k.2 next.queue now) all.1 both.1 in omega (arith, ih, c)
    ]
