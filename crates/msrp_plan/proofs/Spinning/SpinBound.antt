-- The bound on spinning: in one wait a job spins no more often than the plan tells.
use Rattle.msrp_plan.specs.Common.{ℕ, Bool, true, false, cond, not, List, [], Some, AllByRecursion, sum_by, filter, range_with_len, section, spin_bound, IsWait, is_spin_of, PlanModel, core_of, fifo, is_on, EachAfter, IsLegal, IsRunStart, IsPlan}
use Rattle.msrp_plan.specs.declared.ids.JobId.{JobId}
use Rattle.msrp_plan.specs.declared.rows.Kind.TheVariants.{Grant, Queue, Release, Spin, Take}
use Rattle.msrp_plan.specs.declared.rows.Row.{Row}
use Rattle.std.proofs.Common.{◌≡◌, ◌≢◌, ◌+◌, ◌<◌, ◌≤◌, ◌&&◌, ◌||◌, ◌==◌, ◌∷◌, ◌++◌, refl, ap, sym, ◌∙◌, subst, arith, append_assoc, inl, inr, eq-eqb}
use Rattle.std.specs.List.{count_by}
use Rattle.std.proofs.Math.Bool.{true≢false}
use Rattle.std.proofs.lemmas.Bool.{eqb-true}
use Rattle.std.proofs.lemmas.List.Sums.{sum_by-cons}
use Rattle.msrp_plan.specs.Bounds.{is_used_on}
use Rattle.msrp_plan.specs.Laws.{BoundedSpinning}
use Rattle.msrp_plan.proofs.Lists.Apart.{ApartBy, fits, has, has_range}
use Rattle.msrp_plan.proofs.Queues.Effects.{Effect, Got, Joined, Left, Quiet, Spun, Took, effect}
use Rattle.msrp_plan.proofs.Legality.LegalRows.{legal_due, legal_turn, turn_core}
use Rattle.msrp_plan.proofs.Queues.Overtaking.{queued_for}
use Rattle.msrp_plan.proofs.Lists.Prefixes.{along, each_at, each_before, each_rest}
use Rattle.msrp_plan.proofs.Queues.QueueMembers.{IsMember}
use Rattle.msrp_plan.proofs.Spinning.QueueWork.{IsFair, IsLight, fair_at, fair_push, works}
use Rattle.msrp_plan.proofs.Spinning.SectionWork.{work}
use Rattle.msrp_plan.proofs.Spinning.Spins.{IsSpinning, Pace, all_left, apart_left, apart_mid, next_tick, spins_from}
use Rattle.msrp_plan.proofs.TaskUnits.Stands.{Waits, stand}
use Rattle.msrp_plan.proofs.Runs.Ticks.{AnyTick, IsTick, any_tick_push, row_tick, tick_none, tick_push, turned, turned_push}

-- ---- the work ahead is within the bound
has_filter_go : (p : ℕ → Bool) (n d : ℕ) (ds : List ℕ) (b c : Bool) → (n == d) ≡ b → p d ≡ c → p n ≡ true → (b || has n ds) ≡ true → (has n ds ≡ true → has n (filter p ds) ≡ true) → has n (cond c (d ∷ filter p ds) (filter p ds)) ≡ true
has_filter_go p n d ds true true e f h a ih = ap (λ v. v || has n (filter p ds)) e
has_filter_go p n d ds true false e f h a ih = absurd (true≢false (sym (subst (λ k. p k ≡ true) (eqb-true n d e) h) ∙ f))
has_filter_go p n d ds false true e f h a ih = ap (λ v. v || has n (filter p ds)) e ∙ ih a
has_filter_go p n d ds false false e f h a ih = ih a

-- a number that passes stays in the list
pub has_filter : (p : ℕ → Bool) (n : ℕ) (ds : List ℕ) → p n ≡ true → has n ds ≡ true → has n (filter p ds) ≡ true
has_filter p n [] h a = a
has_filter p n (d ∷ ds) h a = has_filter_go p n d ds (n == d) (p d) refl refl h a (has_filter p n ds h)

-- numbers that differ fail the test
ne_not : (a b : ℕ) (c : Bool) → (a == b) ≡ c → a ≢ b → not (a == b) ≡ true
ne_not a b true e ne = absurd (ne (eqb-true a b e))
ne_not a b false e ne = ap not e

-- the cores of those ahead are among the others that use it
shares : (plan : PlanModel) (g c : ℕ) (pre : List Row) (ys : List JobId) → AllByRecursion (IsMember plan g pre) ys → AllByRecursion (IsLight plan g pre) ys → AllByRecursion (λ y. core_of plan y ≢ c) ys → AllByRecursion (λ y. has (core_of plan y) (filter (λ d. not (d == c) && is_used_on plan g d) (range_with_len 0 plan.cores)) ≡ true) ys
shares plan g c pre [] m l n = tt
shares plan g c pre (y ∷ ys) m l n = (
  has_filter (λ d. not (d == c) && is_used_on plan g d) (core_of plan y) (range_with_len 0 plan.cores)
      (ap (λ b. b && is_used_on plan g (core_of plan y)) (ne_not (core_of plan y) c (core_of plan y == c) refl n.0) ∙ l.0.used)
      (has_range (core_of plan y) plan.cores m.0.core),
  shares plan g c pre ys m.1 l.1 n.1,
)

-- the work of each is within its core's share
works_share : (plan : PlanModel) (g : ℕ) (pre : List Row) (ys : List JobId) → AllByRecursion (IsLight plan g pre) ys → works plan g pre ys ≤ sum_by (λ y. 1 + section plan g (core_of plan y)) ys
works_share plan g pre [] l = omega arith
works_share plan g pre (y ∷ ys) l =
    let ih = works_share plan g pre ys l.1 in
    let k = l.0.light in
    let a = sum_by-cons (work plan g pre) y ys in
    let b = sum_by-cons (λ v. 1 + section plan g (core_of plan v)) y ys in
    omega (arith, ih, k, a, b)

-- so the work of those ahead is within the bound
works_bound : (plan : PlanModel) (g : ℕ) (pre : List Row) (x : JobId) (ahead behind : List JobId) → IsFair plan g pre → fifo g pre ≡ ahead ++ x ∷ behind → works plan g pre ahead ≤ spin_bound plan g (core_of plan x)
works_bound plan g pre x ahead behind fair q =
    let members : AllByRecursion (IsMember plan g pre) (ahead ++ x ∷ behind) = subst (AllByRecursion (IsMember plan g pre)) q fair.queue.each in
    let lights : AllByRecursion (IsLight plan g pre) (ahead ++ x ∷ behind) = subst (AllByRecursion (IsLight plan g pre)) q fair.each in
    let apart : ApartBy (core_of plan) (ahead ++ x ∷ behind) = subst (ApartBy (core_of plan)) q fair.queue.apart in
    let light = all_left (IsLight plan g pre) ahead (x ∷ behind) lights in
    let a = works_share plan g pre ahead light in
    let b = fits (core_of plan) (λ d. 1 + section plan g d) ahead (filter (λ d. not (d == core_of plan x) && is_used_on plan g d) (range_with_len 0 plan.cores)) (apart_left (core_of plan) ahead (x ∷ behind) apart)
    (shares plan g (core_of plan x) pre ahead (all_left (IsMember plan g pre) ahead (x ∷ behind) members) light (apart_mid (core_of plan) ahead x behind apart)) in
    omega (arith, a, b)

-- ---- the queue row
first_pace : (plan : PlanModel) (g : ℕ) (pre : List Row) (T : ℕ → Bool) (c : ℕ) (ys : List JobId) → T c ≡ true → Pace plan g pre T c (works plan g pre ys) 0 ys
first_pace plan g pre T c [] e = omega arith
first_pace plan g pre T c (y ∷ ys) e =
    let k : 0 + works plan g pre (y ∷ ys) + 1 ≤ works plan g pre (y ∷ ys) + 1 = omega arith in
    inl (subst (λ v. 0 + works plan g pre (y ∷ ys) + 1 ≤ works plan g pre (y ∷ ys) + cond {A = ℕ} v 1 0) (sym e) k)

-- a turn more
or_on : (a b : Bool) → b ≡ true → a || b ≡ true
or_on true b e = refl
or_on false b e = e

-- when x joins the queue
begin : (plan : PlanModel) (g : ℕ) (x : JobId) (t : ℕ) (pre : List Row) (r : Row) → IsTick plan t pre → IsLegal plan pre r → r.job ≡ Some x → is_on g r.res ≡ true → r.kind ≡ Queue → Effect plan g pre r → IsSpinning plan g x t (pre ++ r ∷ []) (works plan g (pre ++ r ∷ []) (fifo g pre)) 0
begin plan g x t pre r tick h job on kind e =
    elim e [
      | Quiet off fs st ↦ absurd (true≢false (sym on ∙ off))
      | Took z m empty fs ↦ absurd (let k : Take ≡ Queue = sym m.kind ∙ kind in cc)
      | Joined z m some fs ↦
          let s : Some z ≡ Some x = sym m.job ∙ job in
          let i : z ≡ x = cc in
          let mine : (r.core.0 == core_of plan x) ≡ true = eq-eqb r.core.0 (core_of plan x) (sym (turn_core plan pre r x (legal_turn plan pre r h) job)) in
          record {
            ahead = fifo g pre;
            behind = [];
            queue = fs ∙ ap (λ v. fifo g pre ++ v ∷ []) i;
            waits = subst (λ v. stand plan g (pre ++ r ∷ []) v ≡ Waits) i m.after;
            pace = first_pace plan g (pre ++ r ∷ []) (turned t (pre ++ r ∷ [])) (core_of plan x) (fifo g pre) (turned_push t pre r (core_of plan x) (row_tick plan t pre r tick h) ∙ or_on (turned t pre (core_of plan x)) (r.core.0 == core_of plan x) mine);
          }
      | Got z m first fs ↦ absurd (let k : Grant ≡ Queue = sym m.kind ∙ kind in cc)
      | Spun z m back fs ↦ absurd (let k : Spin ≡ Queue = sym m.kind ∙ kind in cc)
      | Left z m fs ↦ absurd (let k : Release ≡ Queue = sym m.kind ∙ kind in cc)
    ]

-- the queue then
pub joined_queue : (plan : PlanModel) (g : ℕ) (x : JobId) (pre : List Row) (r : Row) → r.job ≡ Some x → is_on g r.res ≡ true → r.kind ≡ Queue → Effect plan g pre r → fifo g (pre ++ r ∷ []) ≡ fifo g pre ++ x ∷ []
joined_queue plan g x pre r job on kind e =
    elim e [
      | Quiet off fs st ↦ absurd (true≢false (sym on ∙ off))
      | Took z m empty fs ↦ absurd (let k : Take ≡ Queue = sym m.kind ∙ kind in cc)
      | Joined z m some fs ↦ let s : Some z ≡ Some x = sym m.job ∙ job in let i : z ≡ x = cc in fs ∙ ap (λ v. fifo g pre ++ v ∷ []) i
      | Got z m first fs ↦ absurd (let k : Grant ≡ Queue = sym m.kind ∙ kind in cc)
      | Spun z m back fs ↦ absurd (let k : Spin ≡ Queue = sym m.kind ∙ kind in cc)
      | Left z m fs ↦ absurd (let k : Release ≡ Queue = sym m.kind ∙ kind in cc)
    ]

-- while a job waits for a resource, it spins no more often than the bound of its core
pub spins_within : (plan : PlanModel) (pre : List Row) (r : Row) (since : List Row) (j : JobId) (g : ℕ) → IsPlan plan → EachAfter (IsLegal plan) [] (pre ++ r ∷ since) → IsWait r since j g → count_by (is_spin_of j) since ≤ spin_bound plan g (core_of plan j)
spins_within plan pre r since j g ok legal w =
    let before = each_before (IsLegal plan) [] pre (r ∷ since) legal in
    let rest : EachAfter (IsLegal plan) pre (r ∷ since) = each_rest (IsLegal plan) [] pre (r ∷ since) legal in
    let h = rest.0 in
    let due = legal_due plan pre r h in
    let low : 0 < plan.cores = let l = due.core in omega (arith, l) in
    let q = queued_for plan pre r j g ok ((legal_turn plan pre r h).does j w.job) w.resource w.joins in
    let fair = fair_at plan g pre ok q.0 q.1 before in
    let next = fair_push plan g ok q.0 q.1 pre r fair h in
    let tick = along (AnyTick plan) (IsLegal plan) (any_tick_push plan) [] pre (0, tick_none plan low) before in
    let e = effect plan g pre r ok q.0 fair.queue.orderly.fed h in
    let b = begin plan g j tick.0 pre r tick.1 h w.job w.resource w.joins e in
    let total = works plan g (pre ++ r ∷ []) (fifo g pre) in
    let k : 0 + count_by (is_spin_of j) since ≤ works plan g (pre ++ r ∷ []) (fifo g pre) =
    elim (tick_push plan tick.0 pre r tick.1 h) [
      | inl s ↦ spins_from plan g j tick.0 (pre ++ r ∷ []) since total 0 ok q.0 q.1 next s b rest.1 w.waits
      | inr n ↦ spins_from plan g j (tick.0 + 1) (pre ++ r ∷ []) since total 0 ok q.0 q.1 next n.0 (next_tick plan g j tick.0 (pre ++ r ∷ []) total 0 n.1 n.2 next.queue b) rest.1 w.waits
    ] in
    let l = works_bound plan g (pre ++ r ∷ []) j (fifo g pre) [] next (joined_queue plan g j pre r w.job w.resource w.joins e) in
    omega (arith, k, l)

-- in each wait of a run
pub bounded_spinning : (plan : PlanModel) (rows : List Row) → IsPlan plan → IsRunStart plan rows → BoundedSpinning plan rows
bounded_spinning plan rows ok run = λ pre r since post j g same w.
    let whole : rows ≡ (pre ++ r ∷ since) ++ post = same ∙ sym (append_assoc pre (r ∷ since) post) in
    let legal = each_before (IsLegal plan) [] (pre ++ r ∷ since) post (subst (EachAfter (IsLegal plan) []) whole run.each) in
    let k = spins_within plan pre r since j g ok legal w in
    let at : core_of plan j ≡ r.core.0 = turn_core plan pre r j (legal_turn plan pre r (each_at (IsLegal plan) [] pre r since legal)) w.job in
    subst (λ c. count_by (is_spin_of j) since ≤ spin_bound plan g c) at k
