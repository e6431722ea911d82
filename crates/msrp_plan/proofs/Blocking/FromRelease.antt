-- Who blocks a job is known at its release: the first of the later jobs that are live then. So how
-- long a job is blocked is counted in one pass, by the rows that this one job makes until the
-- blocked job starts.
use Rattle.msrp_plan.specs.Common.{ℕ, Bool, true, false, not, cond, List, [], Option, Some, None, length, AllByRecursion, Contains, PlanModel, task_of, core_of, release, units, jobs, jobs_on, is_job, is_row_of, is_released, is_started, is_finished, done, level, is_before, count_after, blocks, blocked, first_later, IsLegal, IsRunStart, EachAfter, IsPlan}
use Rattle.msrp_plan.specs.declared.ids.JobId.{JobId}
use Rattle.msrp_plan.specs.declared.rows.Row.{Row}
use Rattle.std.proofs.Common.{◌≡◌, ◌<◌, ◌&&◌, ◌==◌, ◌||◌, ◌∷◌, ◌++◌, refl, ap, sym, ◌∙◌, subst, arith, append_assoc, append-nil, eq-eqb}
use Rattle.std.proofs.Math.Bool.{true≢false}
use Rattle.std.proofs.lemmas.Bool.{and_from, and_parts, false_from_ne_true, le-leb, ne_eqb}
use Rattle.msrp_plan.specs.Blocking.{is_later, is_by, delays_start, ComesBefore, ComesAfter, BlockedSinceRelease}
use Rattle.msrp_plan.proofs.Levels.LevelOrder.{level_falls}
use Rattle.msrp_plan.proofs.Lists.AnyAll.{any_push}
use Rattle.msrp_plan.proofs.Lists.Prefixes.{each_before, each_push, each_rest}
use Rattle.msrp_plan.proofs.Jobs.JobTests.{is_job_is, row_of_job, same_is, same_self}
use Rattle.msrp_plan.proofs.Jobs.Keys.{before_order}
use Rattle.msrp_plan.proofs.Lists.LeastKept.{least_in, least_passes, least_of_those, least_some}
use Rattle.msrp_plan.proofs.Jobs.JobLists.{has_unit}
use Rattle.msrp_plan.proofs.Choosing.Live.{is_live, nothing_done}
use Rattle.msrp_plan.proofs.Legality.LegalRows.{legal_turn, turn_core}
use Rattle.msrp_plan.proofs.Jobs.CoreJobs.{on_its_core}
use Rattle.msrp_plan.proofs.Holding.LocalLocks.{turn_on}
use Rattle.msrp_plan.proofs.Blocking.Pressing.{Presses, press_kept, press_live, press_lower}
use Rattle.msrp_plan.proofs.Blocking.Sound.{IsSound, sound_at, shielded, shorter, unstarted}
use Rattle.msrp_plan.proofs.Blocking.Heads.{IsBehind, held_up, behind_row, blocking_row, no_later, job_on}
use Rattle.msrp_plan.proofs.Tests.{same_tests}

-- ---- job o, if there is one, is later than j; no other later job presses on the level of a job
-- that isn't started and comes no later than j
pub record IsBlockedBy (plan : PlanModel) (pre : List Row) (j : JobId) (o : Option JobId) : Type 0 where
  pub later : (k : JobId) → o ≡ Some k → Contains (jobs_on plan (core_of plan j)) k × (is_before plan j k ≡ true)
  pub quiet : (i h : JobId) → Contains (jobs_on plan (core_of plan j)) i → Contains (jobs_on plan (core_of plan j)) h → is_job o i ≡ false → is_before plan j i ≡ true → is_started pre h ≡ false → is_before plan j h ≡ false → Presses plan pre i (level plan h.task.0) → ⊥

-- what a live, later job is not before
later_live : (plan : PlanModel) (pre : List Row) (j k : JobId) → is_live plan pre k ≡ true → is_before plan j k ≡ true → (is_live plan pre k && is_before plan j k) ≡ true
later_live plan pre j k l b = and_from (is_live plan pre k) (is_before plan j k) l b

-- where there is such a job
quiet_some : (plan : PlanModel) (pre : List Row) (j k i h : JobId) → IsPlan plan → IsSound plan pre → first_later plan pre j ≡ Some k → Contains (jobs_on plan (core_of plan j)) i → Contains (jobs_on plan (core_of plan j)) h → is_job (Some k) i ≡ false → is_before plan j i ≡ true → is_started pre h ≡ false → is_before plan j h ≡ false → Presses plan pre i (level plan h.task.0) → ⊥
quiet_some plan pre j k i h ok sound e ini inh other b s nb p =
    let c = core_of plan j in
    let test : JobId → Bool = λ x. is_live plan pre x && is_before plan j x in
    let ink = least_in (is_before plan) test (jobs_on plan c) k e in
    let both = and_parts (is_live plan pre k) (is_before plan j k) (least_passes (is_before plan) test (jobs_on plan c) k e) in
    let started = (and_parts (is_started pre k) (not (is_finished plan pre k)) both.0).0 in
    let first = least_of_those (is_before plan) (before_order plan) test (jobs_on plan c) k i e ini (later_live plan pre j i (press_live plan pre i (level plan h.task.0) ok p) b) in
    let sooner = shorter plan c pre k h sound ink inh started s (no_later plan j h k both.1 nb) in
    let low = level_falls plan (task_of plan k) (task_of plan h) (omega (arith, sooner)) in
    shielded plan c pre k i sound ink ini (λ z. true≢false (sym (subst (λ y. is_job (Some k) y ≡ true) z (same_self k)) ∙ other)) both.0 first (press_lower plan pre i (level plan h.task.0) (level plan k.task.0) low p)

-- before the job's release, and as long as it isn't started
blocked_by_cases : (plan : PlanModel) (pre : List Row) (j : JobId) (o : Option JobId) → first_later plan pre j ≡ o → IsPlan plan → IsSound plan pre → IsBlockedBy plan pre j o
blocked_by_cases plan pre j None e ok sound = record {
  later = λ k s. absurd (none_some k s);
  quiet = λ i h ini inh other b s nb p. least_some (is_before plan) (λ x. is_live plan pre x && is_before plan j x) (jobs_on plan (core_of plan j)) i e ini (later_live plan pre j i (press_live plan pre i (level plan h.task.0) ok p) b);
}
  where
    none_some : (k : JobId) → None ≡ Some k → ⊥
    none_some k s = cc
blocked_by_cases plan pre j (Some x) e ok sound = record { later = later; quiet = λ i h ini inh other b s nb p. quiet_some plan pre j x i h ok sound e ini inh other b s nb p }
  where
    later : (k : JobId) → Some x ≡ Some k → Contains (jobs_on plan (core_of plan j)) k × (is_before plan j k ≡ true)
    later k s =
        let test : JobId → Bool = λ y. is_live plan pre y && is_before plan j y in
        let z : x ≡ k = cc in
        subst (λ y. Contains (jobs_on plan (core_of plan j)) y × (is_before plan j y ≡ true)) z (least_in (is_before plan) test (jobs_on plan (core_of plan j)) x e, (and_parts (is_live plan pre x) (is_before plan j x) (least_passes (is_before plan) test (jobs_on plan (core_of plan j)) x e)).1)

-- (a) at any place, so at the release too
pub blocked_by_first : (plan : PlanModel) (pre : List Row) (j : JobId) → IsPlan plan → EachAfter (IsLegal plan) [] pre → IsBlockedBy plan pre j (first_later plan pre j)
blocked_by_first plan pre j ok all = blocked_by_cases plan pre j (first_later plan pre j) refl ok (sound_at plan pre ok all)

-- ---- one row more, from the release on
-- a row of a job of the core is one of the core
core_row : (plan : PlanModel) (pre : List Row) (r : Row) (i j : JobId) → IsLegal plan pre r → Contains (jobs_on plan (core_of plan j)) i → r.job ≡ Some i → r.core.0 ≡ core_of plan j
core_row plan pre r i j legal ini job = sym (turn_core plan pre r i (legal_turn plan pre r legal) job) ∙ on_its_core plan (core_of plan j) i ini

-- who has the turn presses on the level of a job that isn't started and comes no later than j
quiet_cases : (plan : PlanModel) (pre : List Row) (r : Row) (j : JobId) (o : Option JobId) (i h : JobId) (mine : Bool) → is_row_of i r ≡ mine → IsPlan plan → IsSound plan pre → IsLegal plan pre r → Contains (jobs plan) j → ComesAfter plan j r → is_started pre j ≡ false → IsBlockedBy plan pre j o
    → Contains (jobs_on plan (core_of plan j)) i → Contains (jobs_on plan (core_of plan j)) h → is_job o i ≡ false → is_before plan j i ≡ true → is_started pre h ≡ false → is_before plan j h ≡ false → Presses plan (pre ++ r ∷ []) i (level plan h.task.0) → ⊥
quiet_cases plan pre r j o i h false m ok sound legal there after s old ini inh other b sh nb p = old.quiet i h ini inh other b sh nb (press_kept plan pre r i (level plan h.task.0) m p)
quiet_cases plan pre r j o i h true m ok sound legal there after s old ini inh other b sh nb p =
    let c = core_of plan j in
    let job = is_job_is r.job i m in
    let on = job_on plan c j there refl in
    let held = held_up plan c r.tick pre j i ok sound on (after (core_row plan pre r i j legal ini job)) s b (turn_on plan c pre r i (legal_turn plan pre r legal) job ini) in
    old.quiet i held.first ini held.on other b held.unstarted held.not_later held.presses

-- (b) while j isn't started the job that blocks it stays the same
pub blocked_by_stays : (plan : PlanModel) (pre : List Row) (r : Row) (j : JobId) (o : Option JobId) → IsPlan plan → EachAfter (IsLegal plan) [] pre → IsLegal plan pre r → Contains (jobs plan) j → ComesAfter plan j r → is_started (pre ++ r ∷ []) j ≡ false → IsBlockedBy plan pre j o → IsBlockedBy plan (pre ++ r ∷ []) j o
blocked_by_stays plan pre r j o ok all legal there after s old =
    let sound = sound_at plan pre ok all in
    record { later = old.later; quiet = λ i h ini inh other b sh. quiet_cases plan pre r j o i h (is_row_of i r) refl ok sound legal there after (unstarted pre r j s).0 old ini inh other b (unstarted pre r h sh).0 }

-- ---- which rows block j
-- a row that blocks j is of that job
by_cases : (plan : PlanModel) (pre : List Row) (r : Row) (j : JobId) (o : Option JobId) (x : JobId) (b : Bool) → is_job o x ≡ b → core_of plan j ≡ r.core.0 → IsBlockedBy plan pre j o → IsBehind plan pre r j x → is_by o r ≡ true
by_cases plan pre r j None x b e at old d = absurd (old.quiet x d.held.first (subst (λ n. Contains (jobs_on plan n) x) (sym at) d.other) (subst (λ n. Contains (jobs_on plan n) d.held.first) (sym at) d.held.on) refl d.later d.held.unstarted d.held.not_later d.held.presses)
by_cases plan pre r j (Some k) x true e at old d = subst (λ y. is_row_of y r ≡ true) (sym (same_is k x e)) (row_of_job r x d.job)
by_cases plan pre r j (Some k) x false e at old d = absurd (old.quiet x d.held.first (subst (λ n. Contains (jobs_on plan n) x) (sym at) d.other) (subst (λ n. Contains (jobs_on plan n) d.held.first) (sym at) d.held.on) e d.later d.held.unstarted d.held.not_later d.held.presses)

-- and each row of that job does
rows_block : (plan : PlanModel) (pre : List Row) (r : Row) (j k : JobId) → IsPlan plan → IsLegal plan pre r → Contains (jobs plan) j → ComesAfter plan j r → is_started pre j ≡ false → Contains (jobs_on plan (core_of plan j)) k → is_before plan j k ≡ true → is_row_of k r ≡ true → blocks plan j pre r ≡ true
rows_block plan pre r j k ok legal there after s on b mine =
    let job = is_job_is r.job k mine in
    let at = core_row plan pre r k j legal on job in
    let some = has_unit plan (core_of plan j) j ok (job_on plan (core_of plan j) j there refl) in
    let none = nothing_done pre j s in
    let unfinished : not (is_finished plan pre j) ≡ true = ap not (ne_eqb (done j pre) (length (units plan j)) (λ e. absurd (omega (arith, e, some, none)))) in
    and_from (r.core.0 == core_of plan j) _ (eq-eqb r.core.0 (core_of plan j) at)
    (and_from (is_released plan r.tick j) _ (le-leb (release plan j) r.tick (after at))
    (and_from (not (is_finished plan pre j)) (is_later plan j r.job) unfinished (ap (is_later plan j) job ∙ b)))

-- (c) before j starts just the rows of that job block it
pub blocks_by : (plan : PlanModel) (pre : List Row) (r : Row) (j : JobId) (o : Option JobId) → IsPlan plan → EachAfter (IsLegal plan) [] pre → IsLegal plan pre r → Contains (jobs plan) j → ComesAfter plan j r → is_started pre j ≡ false → IsBlockedBy plan pre j o → blocks plan j pre r ≡ is_by o r
blocks_by plan pre r j o ok all legal there after s old =
    same_tests (blocks plan j pre r) (is_by o r) (λ h.
    let p = behind_row plan pre r j ok (sound_at plan pre ok all) (legal_turn plan pre r legal) there h in
    by_cases plan pre r j o p.0 (is_job o p.0) refl (sym (blocking_row plan pre r j h).core) old p.1)
    (back o old)
  where
    back : (o : Option JobId) → IsBlockedBy plan pre j o → is_by o r ≡ true → blocks plan j pre r ≡ true
    back None old h = absurd (cc)
    back (Some k) old h = let l = old.later k refl in rows_block plan pre r j k ok legal there after s l.0 l.1 h

-- (d) once it is started no row does
pub started_unblocked : (plan : PlanModel) (pre : List Row) (r : Row) (j : JobId) → IsPlan plan → EachAfter (IsLegal plan) [] pre → IsLegal plan pre r → Contains (jobs plan) j → is_started pre j ≡ true → blocks plan j pre r ≡ false
started_unblocked plan pre r j ok all legal there s =
    false_from_ne_true (blocks plan j pre r) (λ h. true≢false (sym s ∙ (behind_row plan pre r j ok (sound_at plan pre ok all) (legal_turn plan pre r legal) there h).1.unstarted))

-- (e) nor does one before its release
pub early_unblocked : (plan : PlanModel) (pre : List Row) (r : Row) (j : JobId) → (r.core.0 ≡ core_of plan j → r.tick < release plan j) → blocks plan j pre r ≡ false
early_unblocked plan pre r j early =
    false_from_ne_true (blocks plan j pre r) (λ h. let d = blocking_row plan pre r j h in let a = early d.core in let b = d.released in absurd (omega (arith, a, b)))

-- ---- over the rows
-- tests that agree count as many
same_counts : {X : Type 0} (p q : List X → X → Bool) (pre : List X) (x : X) (xs : List X) → p pre x ≡ q pre x → count_after p (pre ++ x ∷ []) xs ≡ count_after q (pre ++ x ∷ []) xs → count_after p pre (x ∷ xs) ≡ count_after q pre (x ∷ xs)
same_counts p q pre x xs e rest = let one : cond {A = ℕ} (p pre x) 1 0 ≡ cond (q pre x) 1 0 = ap (λ b. cond {A = ℕ} b 1 0) e in omega (arith, one, rest)

-- once the job is started nothing counts
started_counts : (plan : PlanModel) (j : JobId) (o : Option JobId) (pre rest : List Row) → IsPlan plan → Contains (jobs plan) j → EachAfter (IsLegal plan) [] pre → EachAfter (IsLegal plan) pre rest → is_started pre j ≡ true → count_after (blocks plan j) pre rest ≡ count_after (delays_start j o) pre rest
started_counts plan j o pre [] ok there before all s = refl
started_counts plan j o pre (r ∷ rest) ok there before all s =
    same_counts (blocks plan j) (delays_start j o) pre r rest (started_unblocked plan pre r j ok before all.0 there s ∙ sym (ap (λ b. not b && is_by o r) s))
    (started_counts plan j o (pre ++ r ∷ []) rest ok there (each_push (IsLegal plan) [] pre r before all.0) all.1 (any_push (is_row_of j) pre r ∙ ap (λ b. b || is_row_of j r) s))

-- before it the rows of the one job count
waiting_counts : (plan : PlanModel) (j : JobId) (o : Option JobId) (pre rest : List Row) (s : Bool) → is_started pre j ≡ s → IsPlan plan → Contains (jobs plan) j → EachAfter (IsLegal plan) [] pre → EachAfter (IsLegal plan) pre rest → AllByRecursion (ComesAfter plan j) rest → (is_started pre j ≡ false → IsBlockedBy plan pre j o) → count_after (blocks plan j) pre rest ≡ count_after (delays_start j o) pre rest
waiting_counts plan j o pre rest true e ok there before all after by = started_counts plan j o pre rest ok there before all e
waiting_counts plan j o pre [] false e ok there before all after by = refl
waiting_counts plan j o pre (r ∷ rest) false e ok there before all after by =
    same_counts (blocks plan j) (delays_start j o) pre r rest (blocks_by plan pre r j o ok before all.0 there after.0 e (by e) ∙ sym (ap (λ b. not b && is_by o r) e))
    (waiting_counts plan j o (pre ++ r ∷ []) rest (is_started (pre ++ r ∷ []) j) refl ok there (each_push (IsLegal plan) [] pre r before all.0) all.1 after.1 (λ s. blocked_by_stays plan pre r j o ok before all.0 there after.0 s (by e)))

-- before the release nothing does
early_counts : (plan : PlanModel) (j : JobId) (first pre rest : List Row) → AllByRecursion (ComesBefore plan j) pre → count_after (blocks plan j) first (pre ++ rest) ≡ count_after (blocks plan j) (first ++ pre) rest
early_counts plan j first [] rest all = ap (λ rows. count_after (blocks plan j) rows rest) (sym (append-nil first))
early_counts plan j first (r ∷ pre) rest all =
    let none : cond {A = ℕ} (blocks plan j first r) 1 0 ≡ 0 = ap (λ b. cond {A = ℕ} b 1 0) (early_unblocked plan first r j all.0) in
    let more = early_counts plan j (first ++ r ∷ []) pre rest all.1 in
    let same : count_after (blocks plan j) ((first ++ r ∷ []) ++ pre) rest ≡ count_after (blocks plan j) (first ++ r ∷ pre) rest = ap (λ rows. count_after (blocks plan j) rows rest) (append_assoc first (r ∷ []) pre) in
    omega (arith, none, more, same)

-- over a whole start
pub blocked_since_release : (plan : PlanModel) (rows : List Row) → IsPlan plan → IsRunStart plan rows → BlockedSinceRelease plan rows
blocked_since_release plan rows ok run = λ j pre rest same there split.
    let all = subst (EachAfter (IsLegal plan) []) same run.each in
    let first = each_before (IsLegal plan) [] pre rest all in
    ap (λ ws. blocked plan ws j) same ∙ (early_counts plan j [] pre rest split.early ∙ waiting_counts plan j (first_later plan pre j) pre rest (is_started pre j) refl ok there first (each_rest (IsLegal plan) [] pre rest all) split.late (λ s. blocked_by_first plan pre j ok first))
