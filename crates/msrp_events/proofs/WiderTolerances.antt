-- Greater tolerances find no more: they enter tests of time alone, and never what the state is.
use Rattle.std.proofs.Common.{◌≡◌, ℕ, ◌≤◌, ◌+◌, Bool, true, false, cond, List, [], ◌∷◌, Option, Some, None, refl, ap, sym, ◌∙◌, subst, arith, nat_lt, nat_le}
use Rattle.std.proofs.lemmas.Bool.{lt-ltb, ltb-true, le-leb, leb-true}
use Rattle.std.specs.Prelude.{◌&&◌, ◌||◌, is_some, length}
use Rattle.std.specs.List.{list_any}
use Rattle.std.specs.Option.{option_or}
use Rattle.msrp_plan.specs.Plan.{PlanModel}
use Rattle.msrp_plan.specs.declared.ids.JobId.{JobId}
use Rattle.msrp_events.specs.Changes.{LogState, core_at, next_at, state_with}
use Rattle.msrp_events.specs.Rules.{is_past, is_reached, is_overdue, is_late, allowance, any_overdue, any_late, acts_late}
use Rattle.msrp_events.specs.Findings.{fault_if, lacks_if, time_finding, release_finding, step_finding, action_finding, finding_of, finding_from}
use Rattle.msrp_events.specs.Laws.{AreWider}
use Rattle.msrp_events.specs.declared.events.Action.{Action}
use Rattle.msrp_events.specs.declared.events.Action.TheVariants.{Boot, Release, Switch, Step, End, Stop, Lost}
use Rattle.msrp_events.specs.declared.events.LockAction.{LockAction}
use Rattle.msrp_events.specs.declared.events.Event.{Event}
use Rattle.msrp_events.specs.declared.findings.Finding.{Finding}
use Rattle.msrp_events.specs.declared.findings.LogRule.{LogRule}
use Rattle.msrp_events.specs.declared.findings.LogRule.TheVariants.{E3, E7}
use Rattle.msrp_events.specs.declared.findings.Missing.{Missing}
use Rattle.msrp_events.specs.declared.findings.Missing.TheVariants as missing
use Rattle.msrp_events.specs.declared.states.CoreLog.{CoreLog}
use Rattle.msrp_events.specs.declared.states.Tolerances.{Tolerances}

-- ---- a chain of tests shows nothing where another one, which tests no more, shows nothing
fault_keeps : (b b' : Bool) (rule : LogRule) (rest rest' : Option Finding) → (b' ≡ true → b ≡ true) → (rest ≡ None → rest' ≡ None) → fault_if b rule rest ≡ None → fault_if b' rule rest' ≡ None
fault_keeps true b' rule rest rest' hb hr h = absurd (cc)
fault_keeps false false rule rest rest' hb hr h = hr h
fault_keeps false true rule rest rest' hb hr h = let k = hb refl in absurd (cc)

lacks_keeps : (b b' : Bool) (what : Missing) (rest rest' : Option Finding) → (b' ≡ true → b ≡ true) → (rest ≡ None → rest' ≡ None) → lacks_if b what rest ≡ None → lacks_if b' what rest' ≡ None
lacks_keeps true b' what rest rest' hb hr h = absurd (cc)
lacks_keeps false false what rest rest' hb hr h = hr h
lacks_keeps false true what rest rest' hb hr h = let k = hb refl in absurd (cc)

or_keeps : {X : Type 0} (a a' b b' : Option X) → (a ≡ None → a' ≡ None) → (b ≡ None → b' ≡ None) → option_or a b ≡ None → option_or a' b' ≡ None
or_keeps None a' b b' ha hb h = ap (λ x. option_or x b') (ha refl) ∙ hb h
or_keeps (Some x) a' b b' ha hb h = absurd (cc)

and_keeps : (a b b' : Bool) → (b' ≡ true → b ≡ true) → (a && b') ≡ true → (a && b) ≡ true
and_keeps true b b' hb h = hb h
and_keeps false b b' hb h = h

ands_keep : (a a' b b' : Bool) → (a' ≡ true → a ≡ true) → (b' ≡ true → b ≡ true) → (a' && b') ≡ true → (a && b) ≡ true
ands_keep a true b b' ha hb h = subst (λ x. (x && b) ≡ true) (sym (ha refl)) (hb h)
ands_keep a false b b' ha hb h = absurd (cc)

any_keeps : {X : Type 0} (p p' : X → Bool) → ((x : X) → p' x ≡ true → p x ≡ true) → (xs : List X) → list_any p' xs ≡ true → list_any p xs ≡ true
any_keeps p p' f [] h = h
any_keeps p p' f (x ∷ xs) h = ors_keep (p x) (p' x) (list_any p xs) (list_any p' xs) (f x) (any_keeps p p' f xs) h where
  ors_keep : (a a' b b' : Bool) → (a' ≡ true → a ≡ true) → (b' ≡ true → b ≡ true) → (a' || b') ≡ true → (a || b) ≡ true
  ors_keep true a' b b' ha hb h = refl
  ors_keep false true b b' ha hb h = let k = ha refl in absurd (cc)
  ors_keep false false b b' ha hb h = hb h

-- ---- the tests of time
past_keeps : (clock : Option ℕ) (narrow wide now : ℕ) → narrow ≤ wide → is_past clock wide now ≡ true → is_past clock narrow now ≡ true
past_keeps None narrow wide now l h = refl
past_keeps (Some t) narrow wide now l h = let k = ltb-true (t + wide) now h in lt-ltb (t + narrow) now (omega arith)

reached_keeps : (clock : Option ℕ) (narrow wide now : ℕ) → narrow ≤ wide → is_reached clock wide now ≡ true → is_reached clock narrow now ≡ true
reached_keeps None narrow wide now l h = refl
reached_keeps (Some t) narrow wide now l h = let k = leb-true (t + wide) now h in le-leb (t + narrow) now (omega arith)

late_keeps : (narrow wide now : ℕ) (clock : Option ℕ) → narrow ≤ wide → is_late wide now clock ≡ true → is_late narrow now clock ≡ true
late_keeps narrow wide now None l h = h
late_keeps narrow wide now (Some t) l h = let k = ltb-true (t + wide) now h in lt-ltb (t + narrow) now (omega arith)

overdue_keeps : (narrow wide : Tolerances) → AreWider narrow wide → (now : ℕ) (c : CoreLog) → is_overdue wide now c ≡ true → is_overdue narrow now c ≡ true
overdue_keeps narrow wide w now c h =
    let a = w.operation in let b = w.slack in let d = w.skew in
    let wait : allowance narrow ≤ allowance wide = omega arith in
    let sum : narrow.operation + allowance narrow ≤ wide.operation + allowance wide = omega arith in
    and_keeps (is_some c.since) _ _ (ands_keep _ _ _ _ (past_keeps c.since _ _ now wait) (past_keeps c.acted _ _ now sum)) h

any_overdue_keeps : (narrow wide : Tolerances) → AreWider narrow wide → (cores : List CoreLog) (now : ℕ) → any_overdue wide cores now ≡ true → any_overdue narrow cores now ≡ true
any_overdue_keeps narrow wide w cores now = any_keeps (is_overdue narrow now) (is_overdue wide now) (overdue_keeps narrow wide w now) cores

any_late_keeps : (narrow wide : Tolerances) → AreWider narrow wide → (free : List (Option ℕ)) (now : ℕ) → any_late wide free now ≡ true → any_late narrow free now ≡ true
any_late_keeps narrow wide w free now =
    let a = w.operation in let b = w.slack in let c = w.skew in
    let sum : narrow.operation + narrow.slack + narrow.skew ≤ wide.operation + wide.slack + wide.skew = omega arith in
    any_keeps _ _ (λ clock. late_keeps (narrow.operation + narrow.slack + narrow.skew) (wide.operation + wide.slack + wide.skew) now clock sum) free

acts_late_keeps : (narrow wide : Tolerances) → AreWider narrow wide → (now : ℕ) (c : CoreLog) → acts_late wide now c ≡ true → acts_late narrow now c ≡ true
acts_late_keeps narrow wide w now c h =
    let a = w.operation in let b = w.slack in let d = w.skew in
    let wait : allowance narrow ≤ allowance wide = omega arith in
    let sum : narrow.operation + allowance narrow ≤ wide.operation + allowance wide = omega arith in
    and_keeps (is_some c.since) _ _ (ands_keep _ _ _ _ (reached_keeps c.since _ _ now wait) (reached_keeps c.acted _ _ now sum)) h

room_keeps : (narrow wide n : ℕ) → narrow ≤ wide → nat_le wide n ≡ true → nat_le narrow n ≡ true
room_keeps narrow wide n l h = let k = leb-true wide n h in le-leb narrow n (omega arith)

-- ---- one event
time_keeps : (narrow wide : Tolerances) → AreWider narrow wide → (s : LogState) (e : Event) → time_finding narrow s e ≡ None → time_finding wide s e ≡ None
time_keeps narrow wide w s e = fault_keeps _ _ _ _ _ (any_overdue_keeps narrow wide w s.cores e.time) (fault_keeps _ _ _ _ _ (any_late_keeps narrow wide w s.free e.time) (λ h. h))

release_keeps : (system : PlanModel) (narrow wide : Tolerances) → AreWider narrow wide → (s : LogState) (j : JobId) → release_finding system narrow s j ≡ None → release_finding system wide s j ≡ None
release_keeps system narrow wide w s j =
    let unknown = nat_le (length system.tasks) j.task.0 in
    let again = nat_lt j.k (next_at s.next j.task.0) in
    let early = nat_lt (next_at s.next j.task.0) j.k in
    let room : Tolerances → Bool = λ t. nat_le t.backlog (length s.jobs) in
    let last : Tolerances → Option Finding = λ t. lacks_if (room t) missing.Room None in
    let third : Tolerances → Option Finding = λ t. lacks_if early missing.Release (last t) in
    let second : Tolerances → Option Finding = λ t. fault_if again E7 (third t) in
    let keeps_last : last narrow ≡ None → last wide ≡ None = lacks_keeps (room narrow) (room wide) missing.Room None None (room_keeps narrow.backlog wide.backlog (length s.jobs) w.backlog) (λ h. h) in
    let keeps_third : third narrow ≡ None → third wide ≡ None = lacks_keeps early early missing.Release (last narrow) (last wide) (λ h. h) keeps_last in
    let keeps_second : second narrow ≡ None → second wide ≡ None = fault_keeps again again E7 (third narrow) (third wide) (λ h. h) keeps_third in
    fault_keeps unknown unknown E3 (second narrow) (second wide) (λ h. h) keeps_second

step_keeps : (system : PlanModel) (narrow wide : Tolerances) → AreWider narrow wide → (s : LogState) (e : Event) (kind : LockAction) (j : JobId) (g : ℕ)
    → step_finding system narrow s e kind j g ≡ None → step_finding system wide s e kind j g ≡ None
step_keeps system narrow wide w s e kind j g =
    or_keeps _ _ _ _ (λ h. h) (fault_keeps _ _ _ _ _ (λ h. h) (fault_keeps _ _ _ _ _ (acts_late_keeps narrow wide w e.time (core_at s.cores e.core.0)) (λ h. h)))

action_keeps : (system : PlanModel) (narrow wide : Tolerances) → AreWider narrow wide → (s : LogState) (e : Event) (action : Action)
    → action_finding system narrow s e action ≡ None → action_finding system wide s e action ≡ None
action_keeps system narrow wide w s e (Release j deadline) h = release_keeps system narrow wide w s j h
action_keeps system narrow wide w s e (Switch j) h = h
action_keeps system narrow wide w s e (Step kind j r) h = step_keeps system narrow wide w s e kind j r.0 h
action_keeps system narrow wide w s e (End j) h = h
action_keeps system narrow wide w s e Boot h = h
action_keeps system narrow wide w s e Stop h = h
action_keeps system narrow wide w s e Lost h = h

unless_stopped : {X : Type 0} (stopped : Bool) (a a' : Option X) → (a ≡ None → a' ≡ None) → cond stopped None a ≡ None → cond stopped None a' ≡ None
unless_stopped true a a' f h = refl
unless_stopped false a a' f h = f h

pub event_keeps : (system : PlanModel) (narrow wide : Tolerances) → AreWider narrow wide → (s : LogState) (e : Event) → finding_of system narrow s e ≡ None → finding_of system wide s e ≡ None
event_keeps system narrow wide w s e =
    unless_stopped s.stopped _ _ (or_keeps _ _ _ _ (λ h. h) (or_keeps _ _ _ _ (time_keeps narrow wide w s e) (action_keeps system narrow wide w s e e.action)))

-- ---- all events
pub log_keeps : (system : PlanModel) (narrow wide : Tolerances) → AreWider narrow wide → (s : LogState) (events : List Event)
    → finding_from system narrow s events ≡ None → finding_from system wide s events ≡ None
log_keeps system narrow wide w s [] h = refl
log_keeps system narrow wide w s (e ∷ events) h = or_keeps _ _ _ _ (event_keeps system narrow wide w s e) (log_keeps system narrow wide w (state_with system s e) events) h
