-- One section of one later job gives all the rows that block a job: from the first such row on no
-- other later job presses on the level of a job that is still to start before, and its own job
-- makes no row past its section.
use Rattle.msrp_plan.specs.Common.{ℕ, Bool, true, false, List, [], Some, length, Contains, PlanModel, task_of, core_of, release, jobs, jobs_on, same_job, is_row_of, is_started, level, is_before, is_amid, section_of, blocks, continues, IsLegal, IsRunStart, EachAfter, IsPlan}
use Rattle.msrp_plan.specs.declared.ids.JobId.{JobId}
use Rattle.msrp_plan.specs.declared.rows.Row.{Row}
use Rattle.std.proofs.Common.{◌≡◌, ◌≢◌, ◌+◌, ◌<◌, ◌≤◌, ◌/◌, ◌&&◌, ◌==◌, ◌∷◌, ◌++◌, refl, ap, sym, ◌∙◌, subst, arith, length-append, eq-eqb}
use Rattle.std.proofs.Math.Bool.{true≢false}
use Rattle.std.proofs.Math.Nat.{div-mul-le_self}
use Rattle.std.proofs.lemmas.Bool.{and_from}
use Rattle.std.proofs.lemmas.Nat.{le-div}
use Rattle.msrp_plan.specs.Blocking.{BlocksFrom, BlockedByOneSection}
use Rattle.msrp_plan.proofs.Levels.LevelOrder.{level_falls}
use Rattle.msrp_plan.proofs.Jobs.JobTests.{is_job_is, row_of_job, same_is, same_self}
use Rattle.msrp_plan.proofs.Lists.Prefixes.{each_along}
use Rattle.msrp_plan.proofs.Choosing.Live.{live}
use Rattle.msrp_plan.proofs.Choosing.Turns.{runs_live, runs_least}
use Rattle.msrp_plan.proofs.Legality.LegalRows.{IsTurn, legal_turn, legal_due}
use Rattle.msrp_plan.proofs.Holding.LocalLocks.{turn_on}
use Rattle.msrp_plan.proofs.Blocking.Pressing.{Presses, press_amid, press_kept, press_live, press_lower}
use Rattle.msrp_plan.proofs.Blocking.Sound.{IsSound, sound_push, sound_none, shielded, shorter, unstarted}
use Rattle.msrp_plan.proofs.Blocking.Heads.{IsBehind, held_up, behind_row, blocking_row, no_later}
use Rattle.msrp_plan.proofs.Blocking.Sections.{amid_kept, section_kept, section_stays}

-- ---- once a row of k in its section at unit a has blocked j
pub record IsSettled (plan : PlanModel) (c : ℕ) (pre : List Row) (j k : JobId) (a : ℕ) : Type 0 where
  pub on : Contains (jobs_on plan c) k
  pub later : is_before plan j k ≡ true
  -- no other later job presses on the level of a job that isn't started and comes no later than j
  pub quiet : (i h : JobId) → Contains (jobs_on plan c) i → Contains (jobs_on plan c) h → i ≢ k → is_before plan j i ≡ true → is_started pre h ≡ false → is_before plan j h ≡ false → Presses plan pre i (level plan h.task.0) → ⊥
  -- k stands in that section, or in none
  pub section : is_amid plan pre k ≡ true → section_of plan pre k ≡ a

-- while j isn't started
abbrev pub Settled : PlanModel → ℕ → List Row → JobId → JobId → ℕ → Type 0
Settled plan c pre j k a = is_started pre j ≡ false → IsSettled plan c pre j k a

-- ---- the first row that blocks j settles it
settles : (plan : PlanModel) (pre : List Row) (r : Row) (j k : JobId) → IsPlan plan → IsSound plan pre → IsBehind plan pre r j k → IsSettled plan r.core.0 pre j k (section_of plan pre k)
settles plan pre r j k ok sound d = record { on = d.other; later = d.later; quiet = quiet; section = λ h. refl }
  where
    quiet : (i h : JobId) → Contains (jobs_on plan r.core.0) i → Contains (jobs_on plan r.core.0) h → i ≢ k → is_before plan j i ≡ true → is_started pre h ≡ false → is_before plan j h ≡ false → Presses plan pre i (level plan h.task.0) → ⊥
    quiet i h ini inh other b s nb p =
        let l = runs_live plan r.core.0 pre k d.held.runs in
        let sooner = shorter plan r.core.0 pre k h sound d.other inh l.0 s (no_later plan j h k d.later nb) in
        let low = level_falls plan (task_of plan k) (task_of plan h) (omega (arith, sooner)) in
        shielded plan r.core.0 pre k i sound d.other ini (λ z. other (sym z)) (live plan pre k l.0 l.1) (runs_least plan r.core.0 pre k i d.held.runs ini (press_live plan pre i (level plan h.task.0) ok p)) (press_lower plan pre i (level plan h.task.0) (level plan k.task.0) low p)

-- ---- then each row that blocks j is of k, in that section
continues_at : (plan : PlanModel) (k : JobId) (a : ℕ) (pre : List Row) (r : Row) → r.job ≡ Some k → is_amid plan pre k ≡ true → section_of plan pre k ≡ a → continues plan k a pre r ≡ true
continues_at plan k a pre r job amid at = and_from (is_row_of k r) (is_amid plan pre k && (section_of plan pre k == a)) (row_of_job r k job) (and_from (is_amid plan pre k) (section_of plan pre k == a) amid (eq-eqb (section_of plan pre k) a at))

settled_row : (plan : PlanModel) (pre : List Row) (r : Row) (j k x : JobId) (a : ℕ) (same : Bool) → same_job x k ≡ same → IsSettled plan r.core.0 pre j k a → IsBehind plan pre r j x → continues plan k a pre r ≡ true
settled_row plan pre r j k x a true e old d =
    let z = same_is x k e in
    let amid : is_amid plan pre k ≡ true = subst (λ y. is_amid plan pre y ≡ true) z (press_amid plan pre x (level plan d.held.first.task.0) d.held.presses) in
    continues_at plan k a pre r (d.job ∙ ap (λ y. Some y) z) amid (old.section amid)
settled_row plan pre r j k x a false e old d =
    absurd (old.quiet x d.held.first d.other d.held.on (λ z. true≢false (sym (subst (λ y. same_job y k ≡ true) (sym z) (same_self k)) ∙ e)) d.later d.held.unstarted d.held.not_later d.held.presses)

-- ---- one row more
-- a later job that has the turn presses on the level of some job that isn't started and comes no
-- later than j
quiet_cases : (plan : PlanModel) (c : ℕ) (pre : List Row) (r : Row) (j k i h : JobId) (a : ℕ) (mine : Bool) → is_row_of i r ≡ mine → IsPlan plan → IsSound plan pre → IsTurn plan pre r → Contains (jobs_on plan c) j → release plan j ≤ r.tick → is_started pre j ≡ false → IsSettled plan c pre j k a
    → Contains (jobs_on plan c) i → Contains (jobs_on plan c) h → i ≢ k → is_before plan j i ≡ true → is_started pre h ≡ false → is_before plan j h ≡ false → Presses plan (pre ++ r ∷ []) i (level plan h.task.0) → ⊥
quiet_cases plan c pre r j k i h a false m ok sound turn inj l s old ini inh other b sh nb p = old.quiet i h ini inh other b sh nb (press_kept plan pre r i (level plan h.task.0) m p)
quiet_cases plan c pre r j k i h a true m ok sound turn inj l s old ini inh other b sh nb p =
    let held = held_up plan c r.tick pre j i ok sound inj l s b (turn_on plan c pre r i turn (is_job_is r.job i m) ini) in
    old.quiet i held.first ini held.on other b held.unstarted held.not_later held.presses

-- k's own rows stay in the section
section_cases : (plan : PlanModel) (c : ℕ) (pre : List Row) (r : Row) (j k : JobId) (a : ℕ) (mine : Bool) → is_row_of k r ≡ mine → IsPlan plan → IsSound plan pre → IsTurn plan pre r → Contains (jobs_on plan c) j → release plan j ≤ r.tick → is_started pre j ≡ false → IsSettled plan c pre j k a
    → is_amid plan (pre ++ r ∷ []) k ≡ true → section_of plan (pre ++ r ∷ []) k ≡ a
section_cases plan c pre r j k a false m ok sound turn inj l s old h = section_kept plan pre r k m ∙ old.section (sym (amid_kept plan pre r k m) ∙ h)
section_cases plan c pre r j k a true m ok sound turn inj l s old h =
    let held = held_up plan c r.tick pre j k ok sound inj l s old.later (turn_on plan c pre r k turn (is_job_is r.job k m) old.on) in
    section_stays plan pre r k m h ∙ old.section (press_amid plan pre k (level plan held.first.task.0) held.presses)

settled_push : (plan : PlanModel) (c : ℕ) (pre : List Row) (r : Row) (j k : JobId) (a : ℕ) → IsPlan plan → IsSound plan pre → IsTurn plan pre r → Contains (jobs_on plan c) j → release plan j ≤ r.tick → Settled plan c pre j k a → Settled plan c (pre ++ r ∷ []) j k a
settled_push plan c pre r j k a ok sound turn inj l old s =
    let z = (unstarted pre r j s).0 in
    let now = old z in
    record {
      on = now.on;
      later = now.later;
      quiet = λ i h ini inh other b sh. quiet_cases plan c pre r j k i h a (is_row_of i r) refl ok sound turn inj l z now ini inh other b (unstarted pre r h sh).0;
      section = section_cases plan c pre r j k a (is_row_of k r) refl ok sound turn inj l z now;
    }

-- ---- over the rows
-- the tick that is due never falls
pub tick_grows : (plan : PlanModel) (pre : List Row) (r : Row) → IsLegal plan pre r → length pre / plan.cores ≤ length (pre ++ r ∷ []) / plan.cores
tick_grows plan pre r legal =
    let low : 0 < plan.cores = let k = (legal_due plan pre r legal).core in omega (arith, k) in
    let more : length (pre ++ r ∷ []) ≡ length pre + 1 = length-append pre (r ∷ []) in
    let below = div-mul-le_self (length pre) plan.cores in
    le-div (length pre / plan.cores) (length (pre ++ r ∷ [])) plan.cores low (omega (arith, more, below))

-- from the first row on that blocks j
record IsFollowed (plan : PlanModel) (c : ℕ) (j k : JobId) (a : ℕ) (pre : List Row) : Type 0 where
  sound : IsSound plan pre
  on : Contains (jobs_on plan c) j
  released : release plan j ≤ length pre / plan.cores
  settled : Settled plan c pre j k a

followed_push : (plan : PlanModel) (c : ℕ) (j k : JobId) (a : ℕ) → IsPlan plan → (pre : List Row) (r : Row) → IsFollowed plan c j k a pre → IsLegal plan pre r → IsFollowed plan c j k a (pre ++ r ∷ [])
followed_push plan c j k a ok pre r old legal =
    let tick = (legal_due plan pre r legal).tick in
    let now = old.released in
    let grows = tick_grows plan pre r legal in
    record {
      sound = sound_push plan ok pre r old.sound legal;
      on = old.on;
      released = omega (arith, now, grows);
      settled = settled_push plan c pre r j k a ok old.sound (legal_turn plan pre r legal) old.on (omega (arith, now, tick)) old.settled;
    }

followed_row : (plan : PlanModel) (c : ℕ) (j k : JobId) (a : ℕ) → IsPlan plan → Contains (jobs plan) j → c ≡ core_of plan j → (pre : List Row) (r : Row) → IsFollowed plan c j k a pre → IsLegal plan pre r → BlocksFrom plan j k a pre r
followed_row plan c j k a ok there at pre r old legal = λ h.
    let p = behind_row plan pre r j ok old.sound (legal_turn plan pre r legal) there h in
    let same : c ≡ r.core.0 = at ∙ sym (blocking_row plan pre r j h).core in
    settled_row plan pre r j k p.0 a (same_job p.0 k) refl (subst (λ n. IsSettled plan n pre j k a) same (old.settled p.1.unstarted)) p.1

-- ---- all rows that block j
abbrev HasOneSection : PlanModel → JobId → List Row → List Row → Type 0
HasOneSection plan j pre rows = (k : JobId) × (a : ℕ) × EachAfter (BlocksFrom plan j k a) pre rows

-- by whether the next row is the first
first_cases : (plan : PlanModel) (pre : List Row) (r : Row) (rows : List Row) (j : JobId) (b : Bool) → blocks plan j pre r ≡ b → IsPlan plan → IsSound plan pre → Contains (jobs plan) j → EachAfter (IsLegal plan) pre (r ∷ rows) → HasOneSection plan j (pre ++ r ∷ []) rows → HasOneSection plan j pre (r ∷ rows)
first_cases plan pre r rows j false e ok sound there all rest = (rest.0, rest.1, (λ h. absurd (true≢false (sym h ∙ e)), rest.2))
first_cases plan pre r rows j true e ok sound there all rest =
    let p = behind_row plan pre r j ok sound (legal_turn plan pre r all.0) there e in
    let row = blocking_row plan pre r j e in
    let tick = (legal_due plan pre r all.0).tick in
    let early = row.released in
    let a = section_of plan pre p.0 in
    let start : IsFollowed plan r.core.0 j p.0 a pre = record { sound = sound; on = p.1.on; released = omega (arith, early, tick); settled = λ s. settles plan pre r j p.0 ok sound p.1 } in
    (p.0, a, each_along (IsFollowed plan r.core.0 j p.0 a) (IsLegal plan) (BlocksFrom plan j p.0 a) (followed_push plan r.core.0 j p.0 a ok) (followed_row plan r.core.0 j p.0 a ok there row.core) pre (r ∷ rows) start all)

one_section_from : (plan : PlanModel) (pre rows : List Row) (j : JobId) → IsPlan plan → IsSound plan pre → Contains (jobs plan) j → EachAfter (IsLegal plan) pre rows → HasOneSection plan j pre rows
one_section_from plan pre [] j ok sound there all = (j, 0, tt)
one_section_from plan pre (r ∷ rows) j ok sound there all = first_cases plan pre r rows j (blocks plan j pre r) refl ok sound there all (one_section_from plan (pre ++ r ∷ []) rows j ok (sound_push plan ok pre r sound all.0) there all.1)

-- over a whole start
pub blocked_by_one_section : (plan : PlanModel) (rows : List Row) → IsPlan plan → IsRunStart plan rows → BlockedByOneSection plan rows
blocked_by_one_section plan rows ok run = λ j there. one_section_from plan [] rows j ok (sound_none plan) there run.each
