-- Who keeps a head from starting: a job presses on a level where it holds a local resource whose
-- ceiling isn't below the level, or holds a global resource or waits for one.
use Rattle.msrp_plan.specs.Common.{ℕ, Bool, true, false, cond, not, List, [], map, take, Contains, list_any, filter, PlanModel, units, holds_after, jobs_on, is_row_of, is_queued, holds, done, is_global, local_ceiling, greatest, top, resources, is_held_on, is_queued_on, ceiling, in_section, is_amid, IsPlan}
use Rattle.msrp_plan.specs.declared.ids.JobId.{JobId}
use Rattle.msrp_plan.specs.declared.rows.Row.{Row}
use Rattle.std.proofs.Common.{◌≡◌, ◌<◌, ◌≤◌, ◌&&◌, ◌||◌, ◌∷◌, ◌++◌, refl, sym, ◌∙◌, arith, inl, inr}
use Rattle.std.proofs.lemmas.Bool.{and_parts, cases_lt, or_left, or_right, not-true}
use Rattle.msrp_plan.proofs.Lists.AnyAll.{any_in}
use Rattle.msrp_plan.proofs.Lists.Members.{any_from, kept_by, reached}
use Rattle.msrp_plan.proofs.TaskUnits.Stands.{IsUp, up_cases, holder_stands, holds_out}
use Rattle.msrp_plan.proofs.Choosing.Live.{is_live, holder_live, up_live, holds_kept}
use Rattle.msrp_plan.proofs.Choosing.OwnTurns.{up_kept}

-- ---- what presses
pub data Presses (plan : PlanModel) (pre : List Row) (i : JobId) (l : ℕ) : Type 0 where
  Local : (g : ℕ) → Contains (resources plan) g → is_global plan g ≡ false → holds plan pre g i ≡ true → l ≤ local_ceiling plan g → Presses plan pre i l
  Global : (g : ℕ) → Contains (resources plan) g → is_global plan g ≡ true → IsUp plan g pre i → Presses plan pre i l

-- on a lower level too
pub press_lower : (plan : PlanModel) (pre : List Row) (i : JobId) (l n : ℕ) → n ≤ l → Presses plan pre i l → Presses plan pre i n
press_lower plan pre i l n low (Local g named local held high) = Local g named local held (omega (arith, low, high))
press_lower plan pre i l n low (Global g named glob up) = Global g named glob up

-- a row of another job, or of none, adds nothing
pub press_kept : (plan : PlanModel) (pre : List Row) (r : Row) (i : JobId) (l : ℕ) → is_row_of i r ≡ false → Presses plan (pre ++ r ∷ []) i l → Presses plan pre i l
press_kept plan pre r i l other (Local g named local held high) = Local g named local (sym (holds_kept plan pre r g i other) ∙ held) high
press_kept plan pre r i l other (Global g named glob up) = Global g named glob (up_kept plan g pre r i other up)

-- who presses is started and unfinished
pub press_live : (plan : PlanModel) (pre : List Row) (i : JobId) (l : ℕ) → IsPlan plan → Presses plan pre i l → is_live plan pre i ≡ true
press_live plan pre i l ok (Local g named local held high) = holder_live plan pre g i ok held
press_live plan pre i l ok (Global g named glob up) = up_live plan g pre i ok up

-- who holds a resource stands in a section
holder_amid : (plan : PlanModel) (pre : List Row) (g : ℕ) (i : JobId) → Contains (resources plan) g → holds plan pre g i ≡ true → is_amid plan pre i ≡ true
holder_amid plan pre g i named held = or_right (is_queued pre i) (in_section plan (units plan i) (done i pre)) (any_in (holds_after (take (done i pre) (units plan i))) (resources plan) g named held)

-- and so does who presses
pub press_amid : (plan : PlanModel) (pre : List Row) (i : JobId) (l : ℕ) → Presses plan pre i l → is_amid plan pre i ≡ true
press_amid plan pre i l (Local g named local held high) = holder_amid plan pre g i named held
press_amid plan pre i l (Global g named glob up) =
    elim (up_cases plan g pre i up) [
      | inl held ↦ holder_amid plan pre g i named held
      | inr q ↦ or_left (is_queued pre i) (in_section plan (units plan i) (done i pre)) q.0
    ]

-- ---- where the ceiling of a core isn't below a level, a job of the core presses on it
pub record IsPressed (plan : PlanModel) (c : ℕ) (pre : List Row) (l : ℕ) : Type 0 where
  pub job : JobId
  pub on : Contains (jobs_on plan c) job
  pub presses : Presses plan pre job l

-- who is queued waits for a global resource of the plan
abbrev pub AreAsking : PlanModel → List Row → Type 0
AreAsking plan pre = (j : JobId) → is_queued pre j ≡ true → (g : ℕ) × Contains (resources plan) g × (is_global plan g ≡ true) × IsUp plan g pre j

-- by a local resource
pressed_locally : (plan : PlanModel) (c l : ℕ) (pre : List Row) → 0 < l → l ≤ greatest (map (local_ceiling plan) (filter (λ g. not (is_global plan g) && is_held_on plan c pre g) (resources plan))) → IsPressed plan c pre l
pressed_locally plan c l pre low h =
    let test : ℕ → Bool = λ g. not (is_global plan g) && is_held_on plan c pre g in
    let g = reached (local_ceiling plan) l (filter test (resources plan)) low h in
    let named = kept_by test (resources plan) g.0 g.1 in
    let both = and_parts (not (is_global plan g.0)) (is_held_on plan c pre g.0) named.1 in
    let j = any_from (holds plan pre g.0) (jobs_on plan c) both.1 in
    record { job = j.0; on = j.1; presses = Local g.0 named.0 (not-true (is_global plan g.0) both.0) j.2 g.2 }

-- by a global one that a job holds
pressed_by_holder : (plan : PlanModel) (c l : ℕ) (pre : List Row) → list_any (λ g. is_global plan g && is_held_on plan c pre g) (resources plan) ≡ true → IsPressed plan c pre l
pressed_by_holder plan c l pre h =
    let g = any_from (λ g. is_global plan g && is_held_on plan c pre g) (resources plan) h in
    let both = and_parts (is_global plan g.0) (is_held_on plan c pre g.0) g.2 in
    let j = any_from (holds plan pre g.0) (jobs_on plan c) both.1 in
    record { job = j.0; on = j.1; presses = Global g.0 g.1 both.0 (λ out. holds_out (sym (holder_stands plan g.0 pre j.0 j.2) ∙ out)) }

-- by one that a job waits for
pressed_by_waiter : (plan : PlanModel) (c l : ℕ) (pre : List Row) → AreAsking plan pre → is_queued_on plan c pre ≡ true → IsPressed plan c pre l
pressed_by_waiter plan c l pre asking h =
    let j = any_from (is_queued pre) (jobs_on plan c) h in
    let g = asking j.0 j.2 in
    record { job = j.0; on = j.1; presses = Global g.0 g.1 g.2 g.3 }

-- by whether the core is raised
pressed_raised : (plan : PlanModel) (c l : ℕ) (pre : List Row) (queued held : Bool) → AreAsking plan pre → is_queued_on plan c pre ≡ queued → list_any (λ g. is_global plan g && is_held_on plan c pre g) (resources plan) ≡ held → 0 < l → l ≤ cond (queued || held) (top plan c) 0 → IsPressed plan c pre l
pressed_raised plan c l pre true held asking eq eh low h = pressed_by_waiter plan c l pre asking eq
pressed_raised plan c l pre false true asking eq eh low h = pressed_by_holder plan c l pre eh
pressed_raised plan c l pre false false asking eq eh low h = absurd (omega (arith, low, h))

-- one of the three
pub pressed : (plan : PlanModel) (c l : ℕ) (pre : List Row) → AreAsking plan pre → 0 < l → l ≤ ceiling plan c pre → IsPressed plan c pre l
pressed plan c l pre asking low h =
    elim (cases_lt (greatest (map (local_ceiling plan) (filter (λ g. not (is_global plan g) && is_held_on plan c pre g) (resources plan)))) l) [
      | inl k ↦ pressed_raised plan c l pre (is_queued_on plan c pre) (list_any (λ g. is_global plan g && is_held_on plan c pre g) (resources plan)) asking refl refl low (omega (arith, h, k))
      | inr k ↦ pressed_locally plan c l pre low k
    ]
