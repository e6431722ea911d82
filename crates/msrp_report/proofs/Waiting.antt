-- How long a job is blocked, told at its release and at its start.
use Rattle.std.proofs.Common.{◌≡◌, ◌<◌, ◌≤◌, ◌+◌, ◌&&◌, ◌||◌, ◌∷◌, ◌++◌, ◌∙◌}
use Rattle.msrp_plan.proofs.Common.{ℕ, Bool, true, false, not, cond, List, [], Option, Some, None, refl, ap, sym, subst, arith, count_by, append_assoc, append-nil, AllByRecursion, Contains, true≢false, sum_by-append, sum_by-cons, false_from_ne_true, PlanModel, release, jobs, is_row_of, is_started, blocked, count_after, first_later, is_before, IsLegal, IsRunStart, IsPlan, some_is, before_order, all_push, any_push, or_parts, irrefl, each_before, each_at, start_before}
use Rattle.msrp_report.proofs.Common.{Blocking, By, ComesAfter, ComesBefore, IsBlocking, IsOver, IsSinceRelease, JobId, Over, Row, WaitsFor, blocking_by, blocks, count_of, is_by, unstarted}
use Rattle.msrp_plan.proofs.Blocking.FromRelease.{blocked_since_release, started_unblocked, early_unblocked}
use Rattle.msrp_plan.proofs.Blocking.Heads.{blocking_row}
use Rattle.msrp_plan.proofs.Blocking.SectionRows.{count_after_push}
use Rattle.msrp_report.proofs.JobCounts.{rows_is}

-- ---- rows since the release
-- one more
pub since_more : (plan : PlanModel) (rows : List Row) (r : Row) (j : JobId) (o : Option JobId) → ComesAfter plan j r → IsSinceRelease plan rows j o → IsSinceRelease plan (rows ++ r ∷ []) j o
since_more plan rows r j o after s = record {
  before = s.before;
  since = s.since ++ r ∷ [];
  whole = ap (λ l. l ++ r ∷ []) s.whole ∙ append_assoc s.before s.since (r ∷ []);
  early = s.early;
  late = all_push (ComesAfter plan j) s.since r s.late after;
  first = s.first;
}

-- a job that has no row in all has none in the first
unstarted_first : (pre rest : List Row) (j : JobId) → is_started (pre ++ rest) j ≡ false → is_started pre j ≡ false
unstarted_first [] rest j e = refl
unstarted_first (r ∷ pre) rest j e =
    let parts = or_parts (is_row_of j r) (is_started (pre ++ rest) j) e in
    ap (λ b. b || is_started pre j) parts.0 ∙ unstarted_first pre rest j parts.1

-- as long as the job isn't started each of the blocker's rows counts
waiting_rows : (j : JobId) (o : Option JobId) (pre rest : List Row) → is_started (pre ++ rest) j ≡ false → count_after (λ before r. not (is_started before j) && is_by o r) pre rest ≡ count_by (is_by o) rest
waiting_rows j o pre [] e = refl
waiting_rows j o pre (r ∷ rest) e =
    let fresh : is_started pre j ≡ false = unstarted_first pre (r ∷ rest) j e in
    let one : cond {A = ℕ} (not (is_started pre j) && is_by o r) 1 0 ≡ cond (is_by o r) 1 0 = ap (λ b. cond {A = ℕ} (not b && is_by o r) 1 0) fresh in
    let more = waiting_rows j o (pre ++ r ∷ []) rest (ap (λ l. is_started l j) (append_assoc pre (r ∷ []) rest) ∙ e) in
    let sum : count_by (is_by o) (r ∷ rest) ≡ cond (is_by o r) 1 0 + count_by (is_by o) rest = sum_by-cons (λ x. cond (is_by o x) 1 0) r rest in
    omega (arith, one, more, sum)

pub since_blocked : (plan : PlanModel) (rows : List Row) (j : JobId) (o : Option JobId) → IsPlan plan → IsRunStart plan rows → Contains (jobs plan) j → is_started rows j ≡ false → (s : IsSinceRelease plan rows j o) → blocked plan rows j ≡ count_by (is_by o) s.since
since_blocked plan rows j o ok start there fresh s =
    blocked_since_release plan rows ok start j s.before s.since s.whole there (record { early = s.early; late = s.late })
    ∙ (ap (λ p. count_after (λ before r. not (is_started before j) && is_by p r) s.before s.since) s.first
    ∙ waiting_rows j o s.before s.since (ap (λ l. is_started l j) (sym s.whole) ∙ fresh))

-- nobody has no row
none_rows : (rows : List Row) → count_by (is_by None) rows ≡ 0
none_rows [] = refl
none_rows (r ∷ rows) = let more = none_rows rows in let sum : count_by (is_by None) (r ∷ rows) ≡ 0 + count_by (is_by None) rows = sum_by-cons (λ x. cond (is_by None x) 1 0) r rows in omega (arith, more, sum)

-- ---- what a waiting job's blocker tells
pub waits_told : (plan : PlanModel) (rows : List Row) (released : Bool) (j k : JobId) (n : ℕ) → IsPlan plan → IsRunStart plan rows → Contains (jobs plan) j → WaitsFor plan rows released j k n → (count_of rows k).rows ≡ n + blocked plan rows j
waits_told plan rows released j k n ok start there w =
    let s = w.since in
    let all : (count_of rows k).rows ≡ count_by (is_row_of k) (s.before ++ s.since) = rows_is rows k ∙ ap (count_by (is_row_of k)) s.whole in
    let parts : count_by (is_row_of k) (s.before ++ s.since) ≡ count_by (is_row_of k) s.before + count_by (is_row_of k) s.since = sum_by-append (λ x. cond (is_row_of k x) 1 0) s.before s.since in
    let then_ : count_by (is_row_of k) s.before ≡ n = sym (rows_is s.before k) ∙ w.rows_then in
    let since : blocked plan rows j ≡ count_by (is_row_of k) s.since = since_blocked plan rows j (Some k) ok start there w.unstarted s in
    omega (arith, all, parts, then_, since)

-- ---- one row more
pub blocked_push : (plan : PlanModel) (rows : List Row) (r : Row) (j : JobId) → blocked plan (rows ++ r ∷ []) j ≡ blocked plan rows j + cond (blocks plan j rows r) 1 0
blocked_push plan rows r j = count_after_push (blocks plan j) [] rows r

quiet_push : (plan : PlanModel) (rows : List Row) (r : Row) (j : JobId) (n : ℕ) → blocks plan j rows r ≡ false → blocked plan rows j ≡ n → blocked plan (rows ++ r ∷ []) j ≡ n
quiet_push plan rows r j n e old =
    let push = blocked_push plan rows r j in
    let none : cond {A = ℕ} (blocks plan j rows r) 1 0 ≡ 0 = ap (λ b. cond {A = ℕ} b 1 0) e in
    omega (arith, push, none, old)

-- who has started, or not, by one row more
fresh_push : (rows : List Row) (r : Row) (j : JobId) → is_row_of j r ≡ false → is_started rows j ≡ false → is_started (rows ++ r ∷ []) j ≡ false
fresh_push rows r j other e = any_push (is_row_of j) rows r ∙ (ap (λ b. b || is_row_of j r) e ∙ other)

pub started_push : (rows : List Row) (r : Row) (j : JobId) → is_row_of j r ≡ true → is_started (rows ++ r ∷ []) j ≡ true
started_push rows r j mine = any_push (is_row_of j) rows r ∙ (ap (λ b. is_started rows j || b) mine ∙ or_true (is_started rows j))
  where
    or_true : (b : Bool) → (b || true) ≡ true
    or_true true = refl
    or_true false = refl

fresh_before : (rows : List Row) (r : Row) (j : JobId) → is_started (rows ++ r ∷ []) j ≡ false → is_started rows j ≡ false
fresh_before rows r j e = (unstarted rows r j e).0

-- a row of another job, or of none
pub record IsTimely (plan : PlanModel) (rows : List Row) (r : Row) (released : Bool) (j : JobId) : Type 0 where
  pub ok : IsPlan plan
  pub start : IsRunStart plan (rows ++ r ∷ [])
  pub there : Contains (jobs plan) j
  pub come : released ≡ true → release plan j ≤ r.tick
  pub ahead : released ≡ false → r.tick < release plan j

over_count : (plan : PlanModel) (rows : List Row) (r : Row) (released started : Bool) (j : JobId) (n : ℕ) → is_started rows j ≡ started → IsTimely plan rows r released j → is_row_of j r ≡ false → IsOver plan rows released j n → blocked plan (rows ++ r ∷ []) j ≡ n
over_count plan rows r released true j n s t other over =
    quiet_push plan rows r j n (started_unblocked plan rows r j t.ok (each_before (IsLegal plan) [] rows (r ∷ []) t.start.each) (each_at (IsLegal plan) [] rows r [] t.start.each) t.there s) over.count
over_count plan rows r false false j n s t other over = quiet_push plan rows r j n (early_unblocked plan rows r j (λ _. t.ahead refl)) over.count
over_count plan rows r true false j n s t other over =
    let first = start_before plan rows (r ∷ []) t.start in
    let since = over.nobody refl s in
    let was = since_blocked plan rows j None t.ok first t.there s since in
    let more = since_more plan rows r j None (λ _. t.come refl) since in
    let now = since_blocked plan (rows ++ r ∷ []) j None t.ok t.start t.there (fresh_push rows r j other s) more in
    let a = none_rows since.since in
    let b = none_rows more.since in
    let old = over.count in
    omega (arith, was, now, a, b, old)

pub blocking_more : (plan : PlanModel) (rows : List Row) (r : Row) (released : Bool) (j : JobId) (b : Blocking) → IsTimely plan rows r released j → is_row_of j r ≡ false → IsBlocking plan rows released j b → IsBlocking plan (rows ++ r ∷ []) released j b
unfolding since_more
blocking_more plan rows r released j (Over n) t other over = record {
  count = over_count plan rows r released (is_started rows j) j n refl t other over;
  ahead = λ e. ((over.ahead e).0, fresh_push rows r j other (over.ahead e).1);
  nobody = λ e fresh. since_more plan rows r j None (λ _. t.come e) (over.nobody e (fresh_before rows r j fresh));
}
blocking_more plan rows r released j (By k n) t other w = record {
  come = w.come;
  unstarted = fresh_push rows r j other w.unstarted;
  since = since_more plan rows r j (Some k) (λ _. t.come w.come) w.since;
  rows_then = w.rows_then;
}

-- a row of its own
own_quiet : (plan : PlanModel) (rows : List Row) (r : Row) (j : JobId) → r.job ≡ Some j → blocks plan j rows r ≡ false
own_quiet plan rows r j job = false_from_ne_true (blocks plan j rows r) (λ h.
    let d = blocking_row plan rows r j h in
    let same = some_is d.other j (sym d.job ∙ job) in
    true≢false (sym d.later ∙ subst (λ i. is_before plan j i ≡ false) (sym same) (irrefl (is_before plan) (before_order plan) j)))

pub own_over : (plan : PlanModel) (rows : List Row) (r : Row) (released : Bool) (j : JobId) (n : ℕ) → r.job ≡ Some j → is_row_of j r ≡ true → released ≡ true → blocked plan rows j ≡ n → IsBlocking plan (rows ++ r ∷ []) released j (Over n)
own_over plan rows r released j n job mine come old = record {
  count = quiet_push plan rows r j n (own_quiet plan rows r j job) old;
  ahead = λ e. absurd (true≢false (sym come ∙ e));
  nobody = λ e fresh. absurd (true≢false (sym (started_push rows r j mine) ∙ fresh));
}

-- a job that is started is blocked by no later row
pub started_over : (plan : PlanModel) (rows : List Row) (released : Bool) (j : JobId) (b : Blocking) → is_started rows j ≡ true → IsBlocking plan rows released j b → b ≡ Over (blocked plan rows j)
started_over plan rows released j (Over n) s over = ap (λ m. Over m) (sym over.count)
started_over plan rows released j (By k n) s w = absurd (true≢false (sym s ∙ w.unstarted))

-- ---- at the release
pub released_by : (plan : PlanModel) (rows : List Row) (j : JobId) → IsOver plan rows false j 0 → AllByRecursion (λ r. r.tick < release plan j) rows → (o : Option JobId) → first_later plan rows j ≡ o → IsBlocking plan rows true j (blocking_by rows o)
released_by plan rows j old early o first = by_job o first
  where
    all_early : (l : List Row) → AllByRecursion (λ r. r.tick < release plan j) l → AllByRecursion (ComesBefore plan j) l
    all_early [] all = tt
    all_early (r ∷ l) all = ((λ _. all.0), all_early l all.1)

    here : (p : Option JobId) → first_later plan rows j ≡ p → IsSinceRelease plan rows j p
    here p e = record { before = rows; since = []; whole = sym (append-nil rows); early = all_early rows early; late = tt; first = e }

    by_job : (p : Option JobId) → first_later plan rows j ≡ p → IsBlocking plan rows true j (blocking_by rows p)
    by_job None e = record { count = old.count; ahead = λ f. absurd (true≢false f); nobody = λ _ _. here None e }
    by_job (Some k) e = record { come = refl; unstarted = (old.ahead refl).1; since = here (Some k) e; rows_then = refl }
