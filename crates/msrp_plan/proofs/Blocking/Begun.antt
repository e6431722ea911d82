-- A row that blocks a job is of whoever runs, in an outermost section that began before the job's
-- release: had it begun later, the job would have held it up.
use Rattle.msrp_plan.specs.Common.{ℕ, Bool, true, false, List, [], Contains, PlanModel, units, release, jobs_on, is_row_of, is_started, is_queued, done, level, is_before, in_section, is_amid, section_of, IsLegal, IsRunStart, IsPlan}
use Rattle.msrp_plan.specs.declared.ids.JobId.{JobId}
use Rattle.msrp_plan.specs.declared.rows.Row.{Row}
use Rattle.std.proofs.Common.{◌≡◌, ◌<◌, ◌∷◌, ◌++◌, refl, ap, sym, ◌∙◌, append_assoc, inl, inr}
use Rattle.std.proofs.Math.Bool.{true≢false}
use Rattle.std.proofs.lemmas.Bool.{cases_lt, or_parts}
use Rattle.msrp_plan.specs.Blocking.{IsBegun, HasBlockers, BlockedByBegunSections}
use Rattle.msrp_plan.proofs.Jobs.JobTests.{is_job_is}
use Rattle.msrp_plan.proofs.Lists.Prefixes.{each_along}
use Rattle.msrp_plan.proofs.Choosing.Turns.{runs_live}
use Rattle.msrp_plan.proofs.Legality.LegalRows.{IsTurn, legal_turn}
use Rattle.msrp_plan.proofs.Holding.LocalLocks.{turn_on}
use Rattle.msrp_plan.proofs.Blocking.Pressing.{press_amid}
use Rattle.msrp_plan.proofs.Blocking.Sound.{IsSound, sound_push, sound_none, shorter, unstarted}
use Rattle.msrp_plan.proofs.Blocking.Heads.{held_up, behind_row}
use Rattle.msrp_plan.proofs.Blocking.Sections.{outside_first, start_outside, amid_kept, section_kept, section_stays}

-- ---- the invariant: who stands in a section began it before the release of each earlier job that
-- isn't started
abbrev pub AreBegun : PlanModel → List Row → Type 0
AreBegun plan pre = (c : ℕ) (k j : JobId) → Contains (jobs_on plan c) k → Contains (jobs_on plan c) j → is_amid plan pre k ≡ true → is_started pre j ≡ false → is_before plan j k ≡ true → IsBegun plan pre k (release plan j)

-- one row more, after which k is still in the section
begun_more : (plan : PlanModel) (pre : List Row) (r : Row) (k : JobId) (t : ℕ) → section_of plan (pre ++ r ∷ []) k ≡ section_of plan pre k → IsBegun plan pre k t → IsBegun plan (pre ++ r ∷ []) k t
begun_more plan pre r k t e old = record {
  before = old.before;
  first = old.first;
  after = old.after ++ r ∷ [];
  rows = ap (λ rows. rows ++ r ∷ []) old.rows ∙ append_assoc old.before (old.first ∷ old.after) (r ∷ []);
  job = old.job;
  outside = old.outside;
  unit = old.unit ∙ sym e;
  early = old.early;
}

-- the first row of the section, before tick t
begins : (plan : PlanModel) (pre : List Row) (r : Row) (k : JobId) (t : ℕ) → is_row_of k r ≡ true → is_amid plan pre k ≡ false → is_amid plan (pre ++ r ∷ []) k ≡ true → r.tick < t → IsBegun plan (pre ++ r ∷ []) k t
begins plan pre r k t mine out amid early =
    let shut = (or_parts (is_queued pre k) (in_section plan (units plan k) (done k pre)) out).1 in
    record {
      before = pre;
      first = r;
      after = [];
      rows = refl;
      job = is_job_is r.job k mine;
      outside = out;
      unit = sym (section_stays plan pre r k mine amid ∙ start_outside plan (units plan k) (done k pre) shut);
      early = early;
    }

-- a row of k's own
begun_mine : (plan : PlanModel) (c : ℕ) (pre : List Row) (r : Row) (k j : JobId) (amid : Bool) → is_amid plan pre k ≡ amid → is_row_of k r ≡ true → IsPlan plan → IsSound plan pre → AreBegun plan pre → IsTurn plan pre r
    → Contains (jobs_on plan c) k → Contains (jobs_on plan c) j → is_amid plan (pre ++ r ∷ []) k ≡ true → is_started pre j ≡ false → is_before plan j k ≡ true → IsBegun plan (pre ++ r ∷ []) k (release plan j)
begun_mine plan c pre r k j true e m ok sound old turn ink inj h s b = begun_more plan pre r k (release plan j) (section_stays plan pre r k m h) (old c k j ink inj e s b)
begun_mine plan c pre r k j false e m ok sound old turn ink inj h s b =
    elim (cases_lt r.tick (release plan j)) [
      | inl l ↦ begins plan pre r k (release plan j) m e h l
      | inr l ↦
          let held = held_up plan c r.tick pre j k ok sound inj l s b (turn_on plan c pre r k turn (is_job_is r.job k m) ink) in
          absurd (true≢false (sym (press_amid plan pre k (level plan held.first.task.0) held.presses) ∙ e))
    ]

-- by whose row it is
begun_cases : (plan : PlanModel) (c : ℕ) (pre : List Row) (r : Row) (k j : JobId) (mine : Bool) → is_row_of k r ≡ mine → IsPlan plan → IsSound plan pre → AreBegun plan pre → IsTurn plan pre r
    → Contains (jobs_on plan c) k → Contains (jobs_on plan c) j → is_amid plan (pre ++ r ∷ []) k ≡ true → is_started pre j ≡ false → is_before plan j k ≡ true → IsBegun plan (pre ++ r ∷ []) k (release plan j)
begun_cases plan c pre r k j true m ok sound old turn ink inj h s b = begun_mine plan c pre r k j (is_amid plan pre k) refl m ok sound old turn ink inj h s b
begun_cases plan c pre r k j false m ok sound old turn ink inj h s b = begun_more plan pre r k (release plan j) (section_kept plan pre r k m) (old c k j ink inj (sym (amid_kept plan pre r k m) ∙ h) s b)

-- ---- along the run
record IsFollowed (plan : PlanModel) (pre : List Row) : Type 0 where
  sound : IsSound plan pre
  begun : AreBegun plan pre

-- each legal row keeps it
followed_push : (plan : PlanModel) → IsPlan plan → (pre : List Row) (r : Row) → IsFollowed plan pre → IsLegal plan pre r → IsFollowed plan (pre ++ r ∷ [])
followed_push plan ok pre r old legal = record {
  sound = sound_push plan ok pre r old.sound legal;
  begun = λ c k j ink inj h sj. begun_cases plan c pre r k j (is_row_of k r) refl ok old.sound old.begun (legal_turn plan pre r legal) ink inj h (unstarted pre r j sj).0;
}

-- it holds before the first row
followed_none : (plan : PlanModel) → IsFollowed plan []
followed_none plan = record { sound = sound_none plan; begun = λ c k j ink inj h. absurd (true≢false (sym h ∙ outside_first plan (units plan k))) }

-- the job of a row that blocks j
has_blockers : (plan : PlanModel) → IsPlan plan → (pre : List Row) (r : Row) → IsFollowed plan pre → IsLegal plan pre r → HasBlockers plan pre r
has_blockers plan ok pre r old legal = λ j there h.
    let p = behind_row plan pre r j ok old.sound (legal_turn plan pre r legal) there h in
    let k = p.0 in
    let d = p.1 in
    let amid = press_amid plan pre k (level plan d.held.first.task.0) d.held.presses in (
      k,
      record {
        job = d.job;
        runs = d.held.runs;
        longer = shorter plan r.core.0 pre k j old.sound d.other d.on (runs_live plan r.core.0 pre k d.held.runs).0 d.unstarted d.later;
        amid = amid;
        begun = old.begun r.core.0 k j d.other d.on amid d.unstarted d.later;
      },
    )

-- over a whole start
pub blocked_by_begun_sections : (plan : PlanModel) (rows : List Row) → IsPlan plan → IsRunStart plan rows → BlockedByBegunSections plan rows
blocked_by_begun_sections plan rows ok run = each_along (IsFollowed plan) (IsLegal plan) (HasBlockers plan) (followed_push plan ok) (has_blockers plan ok) [] rows (followed_none plan) run.each
