-- The releases of a task rise, so those before a tick are the first few.
use Rattle.msrp_plan.specs.Common.{ℕ, zero, suc, nat_lt, Bool, true, false, cond, List, [], Option, Some, None, length, map, unwrap_or, slice_get, slice_index_or, filter, range_with_len, PlanModel, TaskModel, task_at, no_task, release, ReleaseTimes, Every, Listed, AreTimes, job_at, jobs_of}
use Rattle.std.proofs.Common.{◌≡◌, ◌+◌, ◌-◌, ◌*◌, ◌<◌, ◌≤◌, ◌∷◌, refl, ap, sym, ◌∙◌, subst, inl, inr, arith}
use Rattle.std.specs.List.Sorted.{IsPartitionPoint, IsPartitionedBy, IsStrictlyIncreasing}
use Rattle.std.proofs.Math.Nat.{mul-le-mul_right}
use Rattle.std.proofs.lemmas.Bool.{cases_eq, cases_lt, lt-ltb, le-ltb, ltb-true, ltb-false, true≢false, false_from_ne_true}
use Rattle.std.proofs.lemmas.List.{length-map, get_or_past}
use Rattle.std.proofs.lemmas.List.Kept.{AllPairs-from_increasing}
use Rattle.std.proofs.lemmas.Option.{same_Some, slice_get_within, slice_get-get_or, get_or_from_slice_get, unwrap_or-slice_get}
use Rattle.msrp_plan.specs.ReleaseTimes.{tick_of}
use Rattle.msrp_plan.specs.Inside.Tasks.{comes_before}
use Rattle.msrp_plan.specs.WellFormed.{IsDraft}
use Rattle.msrp_plan.proofs.Lists.Filters.{all_of, filter_map_same}

-- ---- the releases of a task rise strictly
listed_rise : (ticks : List ℕ) → IsStrictlyIncreasing ticks → (a b x y : ℕ) → a < b → slice_get ticks a ≡ Some x → slice_get ticks b ≡ Some y → x < y
listed_rise ticks rising a b x y less at later =
    let pair = AllPairs-from_increasing ticks rising a b 0 less (slice_get_within ticks b y later) in
    omega (arith, pair, get_or_from_slice_get ticks a x 0 at, get_or_from_slice_get ticks b y 0 later)

pub releases_rise : (times : ReleaseTimes) → AreTimes times → (a b x y : ℕ) → a < b → tick_of times a ≡ Some x → tick_of times b ≡ Some y → x < y
releases_rise (Every period offset) h a b x y less at later =
    let more : (a + 1) * period ≤ b * period = mul-le-mul_right period (omega (arith, less)) in
    let split : (a + 1) * period ≡ a * period + period = omega arith in
    omega (arith, more, split, h.positive, same_Some (offset + a * period) x at, same_Some (offset + b * period) y later)
releases_rise (Listed ticks) h a b x y less at later = listed_rise ticks h.rising a b x y less at later

-- before a release are all those of lesser numbers
pub has_earlier : (times : ReleaseTimes) (a b y : ℕ) → a ≤ b → tick_of times b ≡ Some y → (x : ℕ) × (tick_of times a ≡ Some x)
has_earlier (Every period offset) a b y less later = (offset + a * period, refl)
has_earlier (Listed ticks) a b y less later =
    let within = slice_get_within ticks b y later in
    (slice_index_or ticks a 0, slice_get-get_or ticks a 0 (omega (arith, less, within)))

-- the k-th release comes in tick k at the earliest
pub not_before_number : (times : ReleaseTimes) → AreTimes times → (k x : ℕ) → tick_of times k ≡ Some x → k ≤ x
not_before_number times h zero x at = omega arith
not_before_number times h (suc k) x at =
    let before = has_earlier times k (suc k) x (omega arith) at in
    let rise = releases_rise times h k (suc k) before.0 x (omega arith) before.1 at in
    let least = not_before_number times h k before.0 before.1 in
    omega (arith, rise, least)

-- ---- those before a tick
-- what comes before the tick is there
pub before_is : (o : Option ℕ) (tick : ℕ) → nat_lt (unwrap_or o tick) tick ≡ true → (x : ℕ) × ((o ≡ Some x) × (x < tick))
before_is None tick e = let l = ltb-true tick tick e in absurd (omega (arith, l))
before_is (Some x) tick e = (x, (refl, ltb-true x tick e))

-- a release before the tick is one
pub before_from : (o : Option ℕ) (x tick : ℕ) → o ≡ Some x → x < tick → nat_lt (unwrap_or o tick) tick ≡ true
before_from o x tick at l = ap (λ p. nat_lt (unwrap_or p tick) tick) at ∙ lt-ltb x tick l

-- where a release comes before the tick, so does the one before it
earlier_before : (times : ReleaseTimes) → AreTimes times → (tick k : ℕ) → comes_before times tick (k + 1) ≡ true → comes_before times tick k ≡ true
earlier_before times h tick k e =
    let next = before_is (tick_of times (k + 1)) tick e in
    let this = has_earlier times k (k + 1) next.0 (omega arith) next.1.0 in
    let rise = releases_rise times h k (k + 1) this.0 next.0 (omega arith) this.1 next.1.0 in
    before_from (tick_of times k) this.0 tick this.1 (omega (arith, rise, next.1.1))

later_past : (times : ReleaseTimes) → AreTimes times → (tick k : ℕ) → comes_before times tick k ≡ false → comes_before times tick (k + 1) ≡ false
later_past times h tick k e = false_from_ne_true _ (λ next. true≢false (sym (earlier_before times h tick k next) ∙ e))

-- after the first number that fails, all fail
none_later : (p : ℕ → Bool) → ((k : ℕ) → p k ≡ false → p (k + 1) ≡ false) → (a n : ℕ) → p a ≡ false → filter p (range_with_len a n) ≡ []
none_later p falls a zero e = refl
none_later p falls a (suc n) e =
    let rest = filter p (range_with_len (a + 1) n) in
    ap (λ b. cond b (a ∷ rest) rest) e ∙ none_later p falls (a + 1) n (falls a e)

-- by whether the first number passes
first_cases : (a : ℕ) (b : Bool) (rest : List ℕ) → (b ≡ false → rest ≡ []) → rest ≡ range_with_len (a + 1) (length rest) → cond b (a ∷ rest) rest ≡ range_with_len a (length (cond b (a ∷ rest) rest))
first_cases a true rest none all = ap (λ ks. a ∷ ks) all
first_cases a false rest none all = none refl ∙ sym (ap (λ ks. range_with_len a (length ks)) (none refl))

-- so those that pass are the first few
first_few : (p : ℕ → Bool) → ((k : ℕ) → p k ≡ false → p (k + 1) ≡ false) → (a n : ℕ) → filter p (range_with_len a n) ≡ range_with_len a (length (filter p (range_with_len a n)))
first_few p falls a zero = refl
first_few p falls a (suc n) = first_cases a (p a) (filter p (range_with_len (a + 1) n)) (λ e. none_later p falls (a + 1) n (falls a e)) (first_few p falls (a + 1) n)

-- ---- the jobs of a task
-- the releases of a task that come before the last tick has passed, by their numbers
numbered : (plan : PlanModel) (t : ℕ) → jobs_of plan t ≡ map (job_at t) (filter (comes_before (task_at plan t).times plan.ticks) (range_with_len 0 plan.ticks))
numbered plan t =
    let before = comes_before (task_at plan t).times plan.ticks in
    filter_map_same (job_at t) before (λ j. nat_lt (release plan j) plan.ticks) (λ k. Unit {0}) (λ k h. refl) (range_with_len 0 plan.ticks) (all_of (λ k. Unit {0}) (λ k. tt) (range_with_len 0 plan.ticks))

-- they are as many as they are, from the first on
pub first_jobs : (plan : PlanModel) (t : ℕ) → AreTimes (task_at plan t).times → jobs_of plan t ≡ map (job_at t) (range_with_len 0 (length (jobs_of plan t)))
first_jobs plan t h =
    let times = (task_at plan t).times in
    let few = filter (comes_before times plan.ticks) (range_with_len 0 plan.ticks) in
    let size : length (jobs_of plan t) ≡ length few = ap length (numbered plan t) ∙ length-map few (job_at t) in
    numbered plan t ∙ (ap (map (job_at t)) (first_few (comes_before times plan.ticks) (later_past times h plan.ticks) 0 plan.ticks) ∙ ap (λ n. map (job_at t) (range_with_len 0 n)) (sym size))

-- how many of the numbers of a range are below a bound
below_bound : (p : ℕ → Bool) (q : ℕ) → ((k : ℕ) → p k ≡ nat_lt k q) → (a n : ℕ) → a ≤ q → q ≤ a + n → length (filter p (range_with_len a n)) ≡ q - a
below_bound p q tests a zero low high = omega arith
below_bound p q tests a (suc n) low high =
    let rest = filter p (range_with_len (a + 1) n) in
    elim (cases_lt a q) [
      | inl before ↦ ap (λ b. length (cond b (a ∷ rest) rest)) (tests a ∙ lt-ltb a q before) ∙ (ap suc (below_bound p q tests (a + 1) n (omega arith) (omega arith)) ∙ omega arith)
      | inr past ↦
          let none = none_later p (λ k e. let l = ltb-false k q (sym (tests k) ∙ e) in tests (k + 1) ∙ le-ltb (k + 1) q (omega (arith, l))) a (suc n) (tests a ∙ le-ltb a q past) in
          ap length none ∙ omega arith
    ]

-- what comes before the last tick are no more releases than there are ticks
few_releases : (times : ReleaseTimes) → AreTimes times → (ticks q : ℕ) → ((k : ℕ) → comes_before times ticks k ≡ nat_lt k q) → q ≤ ticks
few_releases times h ticks q tests = elim (cases_lt ticks q) [
  | inl over ↦
      let last = before_is (tick_of times ticks) ticks (tests ticks ∙ lt-ltb ticks q over) in
      let late = not_before_number times h ticks last.0 last.1.0 in
      absurd (omega (arith, late, last.1.1))
  | inr fits ↦ fits
]

-- so a task has q jobs, where those of its releases are the first q
pub job_count : (plan : PlanModel) (t q : ℕ) → AreTimes (task_at plan t).times → ((k : ℕ) → comes_before (task_at plan t).times plan.ticks k ≡ nat_lt k q) → (length (jobs_of plan t) ≡ q) × (q ≤ plan.ticks)
job_count plan t q h tests =
    let times = (task_at plan t).times in
    let few = few_releases times h plan.ticks q tests in
    let kept = filter (comes_before times plan.ticks) (range_with_len 0 plan.ticks) in
    (ap length (numbered plan t) ∙ (length-map kept (job_at t) ∙ (below_bound (comes_before times plan.ticks) q tests 0 plan.ticks (omega arith) (omega (arith, few)) ∙ omega arith)), few)

-- ---- by a search
-- releases of a list before a tick are those that the search finds
pub listed_first : (ticks : List ℕ) (tick q k : ℕ) → q ≤ length ticks → IsPartitionPoint (λ y. nat_lt y tick ≡ true) (λ y. nat_lt y tick ≡ false) ticks q → comes_before (Listed ticks) tick k ≡ nat_lt k q
listed_first ticks tick q k fits parts = ap (λ x. nat_lt x tick) (unwrap_or-slice_get ticks k tick) ∙ elim (cases_lt k q) [
  | inl before ↦ parts.0 k tick (omega arith) before ∙ sym (lt-ltb k q before)
  | inr past ↦ elim (cases_lt k (length ticks)) [
    | inl within ↦ parts.1 k tick past within ∙ sym (le-ltb k q past)
    | inr over ↦ ap (λ x. nat_lt x tick) (get_or_past ticks k tick over) ∙ (le-ltb tick tick (omega arith) ∙ sym (le-ltb k q past))
  ]
]

-- a list that rises can be searched
pub listed_parts : (ticks : List ℕ) (tick : ℕ) → IsStrictlyIncreasing ticks → IsPartitionedBy (λ y. nat_lt y tick) ticks
listed_parts ticks tick rising i j d less within e = elim (cases_eq i j) [
  | inl same ↦ ap (λ n. nat_lt (slice_index_or ticks n d) tick) same ∙ e
  | inr other ↦
      let rise = AllPairs-from_increasing ticks rising i j d (omega (arith, less, other)) within in
      lt-ltb _ _ (omega (arith, rise, ltb-true (slice_index_or ticks j d) tick e))
]

-- ---- in a plan
-- the release times of each task, also of one that the plan lacks
pub task_times : (plan : PlanModel) → IsDraft plan → (t : ℕ) → AreTimes (task_at plan t).times
task_times plan h t = elim (cases_lt t (length plan.tasks)) [
  | inl within ↦ (h.each t within).times
  | inr past ↦
      let none : AreTimes no_task.times = record { positive = omega arith; short = omega arith; soon = omega arith } in
      subst (λ (task : TaskModel). AreTimes task.times) (sym (get_or_past plan.tasks t no_task past)) none
]
