-- In a legal log nobody preempts a job that waits for a global resource or holds one.
use Rattle.std.proofs.Common.{◌≡◌, ◌<◌, ◌≤◌, ◌+◌, ◌&&◌, ◌||◌, ◌==◌, ◌⊎◌, ◌∷◌, ◌++◌, ◌∙◌}
use Rattle.std.specs.Prelude.{remove}
use Rattle.msrp_plan.proofs.Common.{ℕ, Bool, true, false, cond, not, List, [], Option, Some, None, refl, ap, sym, subst, arith, inl, inr, max, length, set, slice_get, nat_lt, nat_tests, list_any, option_map, Contains, All-contains, All-contains_itself, Contains-append_left, kept_by, any_in, any_from, least_in, least_passes, least_some, least_of_those, irrefl, core_of, level, top, is_global, resources, raised_with, length-set, slice_get_within, cases_lt, replicate, length-replicate, get_or-replicate, get_or_past, some_is, no_task, get_or-set_same, eq-eqb, eqb-true, same_choice_is, same_choice, PlanModel}
use Rattle.msrp_plan.proofs.Lists.Members.{in_filter}
use Rattle.msrp_plan.proofs.Levels.Ceilings.{top_above}
use Rattle.msrp_plan.proofs.Jobs.Keys.{key_total, then_equal, nat_equal}
use Rattle.std.specs.Cmp.{IsStrictWeakOrder}
use Rattle.std.specs.Ordering.{is_lt, ordering_reverse}
use Rattle.std.specs.declared.cmp.Ordering.{Ordering}
use Rattle.std.specs.declared.cmp.Ordering.TheVariants.{Less, Equal, Greater}
use Rattle.std.proofs.lemmas.List.MinMax.{ranks_by}
use Rattle.std.proofs.lemmas.List.Elements.{All-set, All-weaker, Contains-push, Contains-push_cases, Contains-get_or}
use Rattle.msrp_plan.specs.Choice.{key_cmp}
use Rattle.msrp_plan.specs.declared.ids.CoreId.{CoreId}
use Rattle.msrp_plan.specs.declared.ids.JobId.{JobId}
use Rattle.msrp_events.specs.LiveJobs.{live_key, is_on, holds, place_of}
use Rattle.msrp_events.specs.Choices.{is_before, is_among, head, running, ceiling, comes_first, chosen, choice}
use Rattle.msrp_events.specs.Changes.{LogState, core_at, idle_core, changed_at, last_at, released, as_started, as_waiting, as_stepped, jobs_with, cores_acted, core_with, core_touched, since_with, moved, first_state}
use Rattle.msrp_events.specs.Findings.{action_finding, switch_finding, finding_of}
use Rattle.msrp_events.specs.Laws.{is_engaged, IsEngagedOn, IsLegalLog, state_after}
use Rattle.msrp_events.specs.declared.findings.LogRule.TheVariants.{E8}
use Rattle.msrp_events.proofs.FirstFindings.{finding-append}
use Rattle.msrp_events.specs.declared.events.Action.{Action}
use Rattle.msrp_events.specs.declared.events.Action.TheVariants.{Boot, Release, Switch, Step, End, Stop, Lost}
use Rattle.msrp_events.specs.declared.events.Event.{Event}
use Rattle.msrp_events.specs.declared.events.LockAction.TheVariants.{Lock, Unlock, Request, Acquire, Poll, Freed}
use Rattle.msrp_events.specs.declared.states.CoreLog.{CoreLog}
use Rattle.msrp_events.specs.declared.states.LiveJob.{LiveJob}
use Rattle.msrp_events.specs.declared.states.Tolerances.{Tolerances}
use Rattle.msrp_events.proofs.LegalEvents.{IsOwn, accepted, kept_along, legal_step, legal_switch, legal_end, changed_own, last_own, without_own, or_parts, fault_parts, not_false, left_true, right_true}
use Rattle.msrp_events.proofs.OwnCore.{of_core, same_part, untouched, event_at}
use Rattle.msrp_events.proofs.Names.{AreNamed, IsPast, same_live, All-remove, moved_named, first_named}
use Rattle.msrp_events.proofs.OneHolder.{holds_none}

-- ---- the order of live jobs
before_order : (system : PlanModel) → IsStrictWeakOrder (is_before system)
before_order system = ranks_by key_total (live_key system)

neither : (a b : Ordering) → a ≡ ordering_reverse b → is_lt a ≡ false → is_lt b ≡ false → a ≡ Equal
neither Less b r h k = absurd (cc)
neither Equal b r h k = refl
neither Greater Less r h k = absurd (cc)
neither Greater Equal r h k = absurd (cc)
neither Greater Greater r h k = absurd (cc)

-- of two jobs of different names one is before the other
tied : (system : PlanModel) (x y : LiveJob) → is_before system x y ≡ false → is_before system y x ≡ false → x.job ≡ y.job
tied system x y h k =
    let a = then_equal _ _ (neither _ _ (key_total.antisymm (live_key system x) (live_key system y)) h k) in
    let b = then_equal _ _ a.1 in
    let c = then_equal _ _ b.1 in
    let mk : ℕ → ℕ → JobId = λ t n. record { task = record { 0 = t }; k = n } in
    ap (λ t. mk t x.job.k) (nat_equal x.job.task.0 y.job.task.0 c.0) ∙ ap (mk y.job.task.0) (nat_equal x.job.k y.job.k c.1)

-- ---- the first of a core's started jobs
pub record IsFront (system : PlanModel) (mine : List LiveJob) (x : LiveJob) : Type 0 where
  pub there : Contains mine x
  pub started : x.started ≡ true
  pub first : (y : LiveJob) → Contains mine y → y.started ≡ true → is_before system y x ≡ false

-- who runs, waits for a global resource or holds one is that job
pub record IsLed (system : PlanModel) (mine : List LiveJob) (run : Option JobId) : Type 0 where
  pub runs : (j : JobId) → run ≡ Some j → (x : LiveJob) × (x.job ≡ j) × IsFront system mine x
  pub engaged : (x : LiveJob) → Contains mine x → is_engaged system x ≡ true → IsFront system mine x

-- each started job of the second list is one of the first, as far as the order goes
abbrev AreAmong : PlanModel → List LiveJob → List LiveJob → Type 0
AreAmong system mine more = (y : LiveJob) → Contains more y → y.started ≡ true → (z : LiveJob) × Contains mine z × (z.started ≡ true) × (live_key system y ≡ live_key system z)

front_kept : (system : PlanModel) (mine more : List LiveJob) → AreAmong system mine more → (x y : LiveJob) → IsFront system mine x → Contains more y → y.started ≡ true → live_key system y ≡ live_key system x → IsFront system more y
front_kept system mine more among x y front there started key = record {
  there = there;
  started = started;
  first = λ w at s. let z = among w at s in ap (λ k. is_lt (key_cmp k (live_key system y))) z.3 ∙ (ap (λ k. is_lt (key_cmp (live_key system z.0) k)) key ∙ front.first z.0 z.1 z.2);
}

-- a list whose started jobs are among these: who was first in it still is
led_less : (system : PlanModel) (mine more : List LiveJob) (run : Option JobId) → IsLed system mine run → AreAmong system mine more → ((x : LiveJob) → Contains more x → is_engaged system x ≡ true → Contains mine x) → ((j : JobId) → run ≡ Some j → (x : LiveJob) → IsFront system mine x → x.job ≡ j → Contains more x) → IsLed system more run
led_less system mine more run led among engaged stays = record {
  runs = λ j is. let x = led.runs j is in (x.0, x.1, front_kept system mine more among x.0 x.0 x.2 (stays j is x.0 x.2 x.1) x.2.started refl);
  engaged = λ x there e. let front = led.engaged x (engaged x there e) e in front_kept system mine more among x x front there front.started refl;
}

-- ---- elements of a changed list
in_set : {X : Type 0} (xs : List X) (i : ℕ) (y u : X) → Contains (set xs i y) u → (u ≡ y) ⊎ Contains xs u
in_set xs i y u there = All-contains (λ z. (z ≡ y) ⊎ Contains xs z) (set xs i y) u (All-set (λ z. (z ≡ y) ⊎ Contains xs z) xs i y (inl refl) (All-weaker (Contains xs) (λ z. (z ≡ y) ⊎ Contains xs z) (λ z c. inr c) xs (All-contains_itself xs))) there

in_remove : {X : Type 0} (xs : List X) (i : ℕ) (u : X) → Contains (remove xs i) u → Contains xs u
in_remove xs i u there = All-contains (Contains xs) (remove xs i) u (All-remove (Contains xs) xs i (All-contains_itself xs)) there

set_in : {X : Type 0} (xs : List X) (i : ℕ) (x y : X) → slice_get xs i ≡ Some x → Contains (set xs i y) y
set_in xs i x y at = let l = slice_get_within xs i x at in let n = length-set xs i y in (i, omega (arith, l, n), get_or-set_same xs i y y l)

-- the job is changed, and stays what it is for the order
module _ (system : PlanModel) (s : LogState) (c : ℕ) (j : JobId) (own : IsOwn system s c j) (names : AreNamed system s) (led : IsLed system (of_core system c s.jobs) (Some j)) where
  on_core : is_on system c own.x ≡ true
  on_core = ap (λ i. core_of system i == c) own.name ∙ eq-eqb (core_of system j) c own.core

  own_front : IsFront system (of_core system c s.jobs) own.x
  own_front =
      let x = led.runs j refl in
      let there = (kept_by (is_on system c) s.jobs x.0 x.2.there).0 in
      subst (IsFront system (of_core system c s.jobs)) (sym (same_live system s c j own names x.0 there x.1)) x.2

  led_changed : (jobs : List LiveJob) (y : LiveJob) → Contains jobs y → ((u : LiveJob) → Contains jobs u → (u ≡ y) ⊎ Contains s.jobs u) → y.job ≡ own.x.job → y.started ≡ own.x.started → live_key system y ≡ live_key system own.x → IsLed system (of_core system c jobs) (Some j)
  led_changed jobs y there from name started key =
      let mine = of_core system c s.jobs in
      let more = of_core system c jobs in
      let front : IsFront system more y = front_kept system mine more among own.x y own_front (in_filter (is_on system c) jobs y there (ap (λ i. core_of system i == c) name ∙ on_core)) (started ∙ own_front.started) key in
      record {
        runs = λ i is. (y, name ∙ (own.name ∙ some_is j i is), front);
        engaged = λ x at e. elim (of_more x at) [
          | inl same ↦ subst (IsFront system more) (sym same) front
          | inr old ↦ let f = led.engaged x old e in front_kept system mine more among x x f at f.started refl
        ];
      }
    where
      of_more : (x : LiveJob) → Contains (of_core system c jobs) x → (x ≡ y) ⊎ Contains (of_core system c s.jobs) x
      of_more x at = let k = kept_by (is_on system c) jobs x at in elim (from x k.0) [ inl same ↦ inl same | inr old ↦ inr (in_filter (is_on system c) s.jobs x old k.1) ]

      among : AreAmong system (of_core system c s.jobs) (of_core system c jobs)
      among x at st = elim (of_more x at) [
        | inl same ↦ (own.x, own_front.there, own_front.started, ap (live_key system) same ∙ key)
        | inr old ↦ (x, old, st, refl)
      ]

  led_set : (change : LiveJob → LiveJob) → (change own.x).job ≡ own.x.job → (change own.x).started ≡ own.x.started → live_key system (change own.x) ≡ live_key system own.x → IsLed system (of_core system c (changed_at (place_of s.jobs j) change s.jobs)) (Some j)
  led_set change name started key = subst (λ js. IsLed system (of_core system c js) (Some j)) (sym (changed_own system s c j own change))
      (led_changed (set s.jobs own.i (change own.x)) (change own.x) (set_in s.jobs own.i own.x (change own.x) own.at) (in_set s.jobs own.i (change own.x)) name started key)

  led_last : IsLed system (of_core system c (last_at (place_of s.jobs j) as_waiting s.jobs)) (Some j)
  led_last = subst (λ js. IsLed system (of_core system c js) (Some j)) (sym (last_own system s c j own as_waiting))
      (led_changed (remove s.jobs own.i ++ as_waiting own.x ∷ []) (as_waiting own.x) (Contains-push (remove s.jobs own.i) (as_waiting own.x)) from refl refl refl)
    where
      from : (u : LiveJob) → Contains (remove s.jobs own.i ++ as_waiting own.x ∷ []) u → (u ≡ as_waiting own.x) ⊎ Contains s.jobs u
      from u at = elim (Contains-push_cases (remove s.jobs own.i) (as_waiting own.x) u at) [ inl old ↦ inr (in_remove s.jobs own.i u old) | inr same ↦ inl (sym same) ]

-- ---- the ceiling while a job is engaged
or_left : (a b : Bool) → a ≡ true → (a || b) ≡ true
or_left true b h = refl
or_left false b h = absurd (cc)

or_right : (a b : Bool) → b ≡ true → (a || b) ≡ true
or_right true b h = refl
or_right false b h = h

both : (a b : Bool) → a ≡ true → b ≡ true → (a && b) ≡ true
both true b h k = k
both false b h k = absurd (cc)

raised : (system : PlanModel) (jobs : List LiveJob) (c : ℕ) (x : LiveJob) → Contains jobs x → is_on system c x ≡ true → (w : Bool) → x.waits ≡ w → (w || list_any (λ g. is_global system g && holds system g x) (resources system)) ≡ true
    → raised_with system (list_any (λ j. is_on system c j && j.waits) jobs) (λ g. list_any (λ j. is_on system c j && holds system g j) jobs) ≡ true
raised system jobs c x there on true waits h = or_left _ _ (any_in (λ j. is_on system c j && j.waits) jobs x there (both _ _ on waits))
raised system jobs c x there on false waits h =
    let g = any_from (λ g. is_global system g && holds system g x) (resources system) h in
    let is = left_true (is_global system g.0) _ g.2 in
    let held = any_in (λ j. is_on system c j && holds system g.0 j) jobs x there (both _ _ on (right_true (is_global system g.0) _ g.2)) in
    or_right _ _ (any_in (λ g. is_global system g && list_any (λ j. is_on system c j && holds system g j) jobs) (resources system) g.0 g.1 (both _ _ is held))

high : (b : Bool) (a n : ℕ) → b ≡ true → n ≤ max a (cond b n 0)
high true a n h = omega arith
high false a n h = absurd (cc)

top_reached : (system : PlanModel) (jobs : List LiveJob) (c : ℕ) (x : LiveJob) → Contains jobs x → is_on system c x ≡ true → is_engaged system x ≡ true → top system c ≤ ceiling system jobs c
top_reached system jobs c x there on e = high _ _ (top system c) (raised system jobs c x there on x.waits refl e)

-- no job starts
not_above : (system : PlanModel) (s : LogState) (c : ℕ) (x : LiveJob) → AreNamed system s → Contains s.jobs x → is_on system c x ≡ true → is_engaged system x ≡ true → (h : LiveJob) → Contains s.jobs h → is_on system c h ≡ true → nat_lt (ceiling system s.jobs c) (level system h.job.task.0) ≡ false
not_above system s c x names there on e h at mine =
    let high = top_reached system s.jobs c x there on e in
    let known = (All-contains (IsPast system s.next) s.jobs h names.past at).0 in
    let low = top_above system c h.job (Contains-get_or system.tasks h.job.task.0 no_task known) (eqb-true (core_of system h.job) c mine) in
    le_not (ceiling system s.jobs c) (level system h.job.task.0) (omega (arith, high, low))
  where
    le_not : (a b : ℕ) → b ≤ a → nat_lt a b ≡ false
    le_not a b l = grind (arith, nat_tests)

-- so the core's choice is the first of its started jobs
engaged_choice : (system : PlanModel) (s : LogState) (c : ℕ) (x : LiveJob) → AreNamed system s → Contains s.jobs x → is_on system c x ≡ true → is_engaged system x ≡ true → choice system s.jobs c ≡ option_map (λ j. j.job) (running system s.jobs c)
engaged_choice system s c x names there on e = by_head (head system s.jobs c) refl where
  by_head : (o : Option LiveJob) → head system s.jobs c ≡ o → option_map (λ j. j.job) (chosen system (ceiling system s.jobs c) o (running system s.jobs c)) ≡ option_map (λ j. j.job) (running system s.jobs c)
  by_head None is = refl
  by_head (Some h) is =
      let at = least_in (is_before system) (is_among system c false) s.jobs h is in
      let mine = left_true _ _ (least_passes (is_before system) (is_among system c false) s.jobs h is) in
      ap (λ b. option_map (λ (j : LiveJob). j.job) (cond (b && comes_first system h (running system s.jobs c)) (Some h) (running system s.jobs c))) (not_above system s c x names there on e h at mine)

-- ---- a switch
running_front : (system : PlanModel) (jobs : List LiveJob) (c : ℕ) (r : LiveJob) → running system jobs c ≡ Some r → IsFront system (of_core system c jobs) r
running_front system jobs c r is =
    let among = is_among system c true in
    let passes = least_passes (is_before system) among jobs r is in
    record {
      there = in_filter (is_on system c) jobs r (least_in (is_before system) among jobs r is) (left_true _ _ passes);
      started = right_true (is_on system c r) _ passes;
      first = λ y at st. let k = kept_by (is_on system c) jobs y at in least_of_those (is_before system) (before_order system) among jobs r y is k.0 (both _ _ k.1 st);
    }

-- nobody who is started comes before a head that comes first
head_first : (system : PlanModel) (jobs : List LiveJob) (c : ℕ) (h : LiveJob) (o : Option LiveJob) → running system jobs c ≡ o → comes_first system h o ≡ true → (y : LiveJob) → Contains jobs y → is_on system c y ≡ true → y.started ≡ true → is_before system y h ≡ false
head_first system jobs c h None is first y at on st = absurd (least_some (is_before system) (is_among system c true) jobs y is at (both _ _ on st))
head_first system jobs c h (Some r) is first y at on st =
    (before_order system).chain y r h (least_of_those (is_before system) (before_order system) (is_among system c true) jobs r y is at (both _ _ on st)) ((before_order system).one_way h r first)

-- the choice is the first of the started jobs, or a head that may start
abbrev Starts : PlanModel → LogState → ℕ → LiveJob → Type 0
Starts system s c h = (head system s.jobs c ≡ Some h) × (nat_lt (ceiling system s.jobs c) (level system h.job.task.0) ≡ true) × (comes_first system h (running system s.jobs c) ≡ true)

choice_cases : (system : PlanModel) (s : LogState) (c : ℕ) (j : JobId) → choice system s.jobs c ≡ Some j → ((r : LiveJob) × (running system s.jobs c ≡ Some r) × (r.job ≡ j)) ⊎ ((h : LiveJob) × (h.job ≡ j) × Starts system s c h)
choice_cases system s c j is = by_head (head system s.jobs c) (running system s.jobs c) refl refl is where
  by_running : (o : Option LiveJob) → running system s.jobs c ≡ o → option_map (λ x. x.job) o ≡ Some j → (r : LiveJob) × (running system s.jobs c ≡ Some r) × (r.job ≡ j)
  by_running None e is = absurd (cc)
  by_running (Some r) e is = (r, e, some_is r.job j is)

  by_test : (h : LiveJob) (o : Option LiveJob) (a b : Bool) → nat_lt (ceiling system s.jobs c) (level system h.job.task.0) ≡ a → comes_first system h o ≡ b → head system s.jobs c ≡ Some h → running system s.jobs c ≡ o → option_map (λ x. x.job) (cond (a && b) (Some h) o) ≡ Some j
      → ((r : LiveJob) × (running system s.jobs c ≡ Some r) × (r.job ≡ j)) ⊎ ((h : LiveJob) × (h.job ≡ j) × Starts system s c h)
  by_test h o true true a b e f is = inr (h, some_is h.job j is, (e, a, ap (comes_first system h) f ∙ b))
  by_test h o true false a b e f is = inl (by_running o f is)
  by_test h o false b' a b e f is = inl (by_running o f is)

  by_head : (p o : Option LiveJob) → head system s.jobs c ≡ p → running system s.jobs c ≡ o → option_map (λ x. x.job) (chosen system (ceiling system s.jobs c) p o) ≡ Some j
      → ((r : LiveJob) × (running system s.jobs c ≡ Some r) × (r.job ≡ j)) ⊎ ((h : LiveJob) × (h.job ≡ j) × Starts system s c h)
  by_head None o e f is = inl (by_running o f is)
  by_head (Some h) o e f is = by_test h o _ _ refl refl e f is

true_not_false : (b : Bool) → b ≡ true → b ≡ false → ⊥
true_not_false true a b = absurd (cc)
true_not_false false a b = absurd (cc)

switch_led : (system : PlanModel) (s : LogState) (c : ℕ) (j : JobId) (own : IsOwn system s c j) → choice system s.jobs c ≡ Some j → AreNamed system s → (run : Option JobId) → IsLed system (of_core system c s.jobs) run → IsLed system (of_core system c (changed_at (place_of s.jobs j) as_started s.jobs)) (Some j)
switch_led system s c j own is names run led = elim (choice_cases system s c j is) [
  | inl w ↦
      let front = running_front system s.jobs c w.0 w.1 in
      let same = same_live system s c j own names w.0 (kept_by (is_on system c) s.jobs w.0 front.there).0 w.2 in
      let resumed : IsLed system (of_core system c s.jobs) (Some j) = record { runs = λ i e. (w.0, w.2 ∙ some_is j i e, front); engaged = led.engaged } in
      led_set system s c j own names resumed as_started refl (sym (ap (λ (x : LiveJob). x.started) same ∙ front.started)) refl
  | inr w ↦ subst (λ js. IsLed system (of_core system c js) (Some j)) (sym (changed_own system s c j own as_started)) (started w.0 w.1 w.2)
]
  where
    started : (h : LiveJob) → h.job ≡ j → Starts system s c h → IsLed system (of_core system c (set s.jobs own.i (as_started own.x))) (Some j)
    started h name starts =
        let at = least_in (is_before system) (is_among system c false) s.jobs h starts.0 in
        let mine = left_true _ _ (least_passes (is_before system) (is_among system c false) s.jobs h starts.0) in
        let same : own.x ≡ h = same_live system s c j own names h at name in
        let y = as_started own.x in
        let on : is_on system c y ≡ true = ap (λ (x : LiveJob). is_on system c x) same ∙ mine in
        let blocks : (x : LiveJob) → Contains s.jobs x → is_on system c x ≡ true → is_engaged system x ≡ true → ⊥ = λ x there here e. true_not_false _ starts.1 (not_above system s c x names there here e h at mine) in
        let jobs = set s.jobs own.i y in
        let from = in_set s.jobs own.i y in
        record {
          runs = λ i e. (
            y,
            own.name ∙ some_is j i e,
            record {
              there = in_filter (is_on system c) jobs y (set_in s.jobs own.i own.x y own.at) on;
              started = refl;
              first = λ x there st. let k = kept_by (is_on system c) jobs x there in elim (from x k.0) [
                | inl e ↦ ap (λ z. is_before system z y) e ∙ irrefl (is_before system) (before_order system) y
                | inr old ↦ subst (λ (z : LiveJob). is_before system x z ≡ false) (sym same) (head_first system s.jobs c h (running system s.jobs c) refl starts.2 x old k.1 st)
              ];
            },
          );
          engaged = λ x there e. let k = kept_by (is_on system c) jobs x there in absurd (elim (from x k.0) [
            | inl f ↦ blocks own.x (subst (Contains s.jobs) (sym same) at) (ap (λ (x : LiveJob). is_on system c x) same ∙ mine) (sym (ap (is_engaged system) f) ∙ e)
            | inr old ↦ blocks x old k.1 e
          ]);
        }

-- ---- an event
abbrev run_on : LogState → ℕ → Option JobId
run_on s c = (core_at s.cores c).run

module _ (system : PlanModel) (tolerances : Tolerances) (s : LogState) (time : ℕ) (core : CoreId) (number : Option ℕ) (names : AreNamed system s) (within : core.0 < length s.cores) (c : ℕ) (led : IsLed system (of_core system c s.jobs) (run_on s c)) where
  abbrev After : Action → Type 0
  After a = IsLed system (of_core system c (jobs_with a s.jobs)) (run_on (moved system s (event_at time core number a)) c)

  timed_run : (a : Action) → run_on (moved system s (event_at time core number a)) c ≡ (core_at (cores_acted (event_at time core number a) s.cores) c).run
  timed_run a =
      let e = event_at time core number a in
      same_part (λ (x : CoreLog). x.run) (cores_acted e s.cores) (core_touched system e) c (since_with system (jobs_with a s.jobs) (core_touched system e) time (core_at (cores_acted e s.cores) (core_touched system e))) refl

  -- the event's own core, on which this runs after it
  own_core : (a : Action) → (c == core.0) ≡ true → (o : Option JobId) → (core_with (event_at time core number a) (core_at s.cores core.0)).run ≡ o → IsLed system (of_core system c (jobs_with a s.jobs)) o → After a
  own_core a here o runs after =
      let e = event_at time core number a in
      let is = eqb-true c core.0 here in
      let acted : (core_at (cores_acted e s.cores) c).run ≡ o = ap (λ n. (core_at (cores_acted e s.cores) n).run) is ∙ (ap (λ (x : CoreLog). x.run) (get_or-set_same s.cores core.0 (core_with e (core_at s.cores core.0)) idle_core within) ∙ runs) in
      subst (IsLed system (of_core system c (jobs_with a s.jobs))) (sym (timed_run a ∙ acted)) after

  same_run : (c == core.0) ≡ true → (core_at s.cores core.0).run ≡ run_on s c
  same_run here = ap (λ n. run_on s n) (sym (eqb-true c core.0 here))

  own_of : (j : JobId) → (c == core.0) ≡ true → IsOwn system s core.0 j → IsOwn system s c j
  own_of j here own = subst (λ n. IsOwn system s n j) (sym (eqb-true c core.0 here)) own

  stepped : (a : Action) (j : JobId) → (c == core.0) ≡ true → (core_at s.cores core.0).run ≡ Some j → (core_with (event_at time core number a) (core_at s.cores core.0)).run ≡ (core_at s.cores core.0).run → (IsLed system (of_core system c s.jobs) (Some j) → IsLed system (of_core system c (jobs_with a s.jobs)) (Some j)) → After a
  stepped a j here runs keeps go = own_core a here (Some j) (keeps ∙ runs) (go (subst (IsLed system (of_core system c s.jobs)) (sym (same_run here) ∙ runs) led))

  released_led : (j : JobId) (deadline : ℕ) → IsLed system (of_core system c (s.jobs ++ released j deadline ∷ [])) (run_on s c)
  released_led j deadline =
      let fresh = released j deadline in
      let more = s.jobs ++ fresh ∷ [] in
      let on = is_on system c in
      led_less system (of_core system c s.jobs) (of_core system c more) (run_on s c) led
      (λ y at st. let k = kept_by on more y at in elim (Contains-push_cases s.jobs fresh y k.0) [
        | inl old ↦ (y, in_filter on s.jobs y old k.1, st, refl)
        | inr same ↦ absurd (let e = ap (λ (x : LiveJob). x.started) same in let f : false ≡ true = e ∙ st in cc)
      ])
      (λ y at e. let k = kept_by on more y at in elim (Contains-push_cases s.jobs fresh y k.0) [
        | inl old ↦ in_filter on s.jobs y old k.1
        | inr same ↦ absurd (idle (ap (is_engaged system) same ∙ e))
      ])
      (λ i is x front name. let k = kept_by on s.jobs x front.there in in_filter on more x (Contains-append_left s.jobs (fresh ∷ []) x k.0) k.1)
    where
      idle : is_engaged system (released j deadline) ≡ true → ⊥
      idle e =
          let g = any_from (λ g. is_global system g && holds system g (released j deadline)) (resources system) e in
          let held = right_true (is_global system g.0) _ g.2 in
          let none = holds_none system g.0 (released j deadline) refl in
          let f : true ≡ false = sym held ∙ none in
          absurd (cc)

  led_action : (a : Action) → action_finding system tolerances s (event_at time core number a) a ≡ None → (c == core_touched system (event_at time core number a)) ≡ true → After a
  led_action (Release j deadline) h here =
      let e = event_at time core number (Release j deadline) in
      subst (IsLed system (of_core system c (s.jobs ++ released j deadline ∷ []))) (sym (timed_run (Release j deadline) ∙ same_part (λ (x : CoreLog). x.run) s.cores core.0 c (core_with e (core_at s.cores core.0)) refl)) (released_led j deadline)
  led_action (Switch None) h here = own_core (Switch None) here None refl (record { runs = λ j is. absurd (cc); engaged = led.engaged })
  led_action (Switch (Some j)) h here =
      let legal = legal_switch system s core.0 j h in
      own_core (Switch (Some j)) here (Some j) refl (switch_led system s c j (own_of j here legal.0) (ap (choice system s.jobs) (eqb-true c core.0 here) ∙ legal.1) names (run_on s c) led)
  led_action (Step Lock j r) h here = let it = legal_step system tolerances s (event_at time core number (Step Lock j r)) Lock j r.0 h in stepped (Step Lock j r) j here it.runs refl (λ l. led_set system s c j (own_of j here it.own) names l as_stepped refl refl refl)
  led_action (Step Unlock j r) h here = let it = legal_step system tolerances s (event_at time core number (Step Unlock j r)) Unlock j r.0 h in stepped (Step Unlock j r) j here it.runs refl (λ l. led_set system s c j (own_of j here it.own) names l as_stepped refl refl refl)
  led_action (Step Request j r) h here = let it = legal_step system tolerances s (event_at time core number (Step Request j r)) Request j r.0 h in stepped (Step Request j r) j here it.runs refl (λ l. led_last system s c j (own_of j here it.own) names l)
  led_action (Step Acquire j r) h here = let it = legal_step system tolerances s (event_at time core number (Step Acquire j r)) Acquire j r.0 h in stepped (Step Acquire j r) j here it.runs refl (λ l. led_set system s c j (own_of j here it.own) names l as_stepped refl refl refl)
  led_action (Step Poll j r) h here = own_core (Step Poll j r) here (run_on s c) (same_run here) led
  led_action (Step Freed j r) h here = let it = legal_step system tolerances s (event_at time core number (Step Freed j r)) Freed j r.0 h in stepped (Step Freed j r) j here it.runs refl (λ l. led_set system s c j (own_of j here it.own) names l as_stepped refl refl refl)
  led_action (End j) h here =
      let own = (legal_end system s core.0 j h).0 in
      let on = is_on system c in
      let less : (y : LiveJob) → Contains (of_core system c (remove s.jobs own.i)) y → Contains (of_core system c s.jobs) y = λ y at. let k = kept_by on (remove s.jobs own.i) y at in in_filter on s.jobs y (in_remove s.jobs own.i y k.0) k.1 in
      let after : IsLed system (of_core system c (remove s.jobs own.i)) None =
      led_less system (of_core system c s.jobs) (of_core system c (remove s.jobs own.i)) None (record { runs = λ i is. absurd (cc); engaged = led.engaged }) (λ y at st. (y, less y at, st, refl)) (λ y at e. less y at) (λ i is x front name. absurd (cc)) in
      own_core (End j) here None refl (subst (λ js. IsLed system (of_core system c js) None) (sym (without_own system s core.0 j own)) after)
  led_action Boot h here = own_core Boot here (run_on s c) (same_run here) led
  led_action Stop h here = own_core Stop here (run_on s c) (same_run here) led
  led_action Lost h here = own_core Lost here (run_on s c) (same_run here) led

-- ---- all events
pub record IsOrderly (system : PlanModel) (s : LogState) : Type 0 where
  pub names : AreNamed system s
  pub led : (c : ℕ) → IsLed system (of_core system c s.jobs) (run_on s c)

moved_orderly : (system : PlanModel) (tolerances : Tolerances) (s : LogState) (e : Event) → s.stopped ≡ false → finding_of system tolerances s e ≡ None → IsOrderly system s → IsOrderly system (moved system s e)
moved_orderly system tolerances s e runs h before = record { names = moved_named system tolerances s e runs h before.names; led = λ c. by_core c (c == core_touched system e) refl } where
  by_core : (c : ℕ) (b : Bool) → (c == core_touched system e) ≡ b → IsLed system (of_core system c (moved system s e).jobs) (run_on (moved system s e) c)
  by_core c true here = let legal = accepted system tolerances s e runs h in led_action system tolerances s e.time e.core e.number before.names legal.core c (before.led c) e.action legal.action here
  by_core c false other =
      let u = untouched system tolerances s e c (accepted system tolerances s e runs h).action other in
      subst (λ js. IsLed system js (run_on (moved system s e) c)) (sym u.jobs) (subst (IsLed system (of_core system c s.jobs)) (sym u.run) (before.led c))

first_orderly : (system : PlanModel) → IsOrderly system (first_state system)
first_orderly system = record {
  names = first_named system;
  led = λ c. record { runs = λ j is. absurd (let e = ap (λ (x : CoreLog). x.run) (idle c) in let f : Some j ≡ None = sym is ∙ e in cc); engaged = λ x there e. absurd (let l = there.1 in omega arith) };
}
  where
    idle : (c : ℕ) → core_at (first_state system).cores c ≡ idle_core
    idle c = elim (cases_lt c system.cores) [
      | inl l ↦ get_or-replicate system.cores c idle_core idle_core l
      | inr g ↦ let n = length-replicate system.cores idle_core in get_or_past (replicate system.cores idle_core) c idle_core (omega (arith, n, g))
    ]

-- a legal switch goes to an engaged job of the core, if there is one
switched : (system : PlanModel) (s : LogState) (c : ℕ) (o : Option JobId) → switch_finding system s c o ≡ None → o ≡ choice system s.jobs c
switched system s c None h = same_choice_is None (choice system s.jobs c) (not_false _ (fault_parts (not (same_choice None (choice system s.jobs c))) E8 None h).0)
switched system s c (Some j) h = sym (legal_switch system s c j h).1

pub unpreempted : (system : PlanModel) (tolerances : Tolerances) (events : List Event) (e : Event) (o : Option JobId) (x : LiveJob) → IsLegalLog system tolerances (events ++ e ∷ []) → (state_after system events).stopped ≡ false → e.action ≡ Switch o → IsEngagedOn system (state_after system events) e.core.0 x → o ≡ Some x.job
unpreempted system tolerances events e o x legal runs is engaged =
    let s = state_after system events in
    let c = e.core.0 in
    let parts = or_parts _ _ (sym (finding-append system tolerances (first_state system) events (e ∷ [])) ∙ legal) in
    let orderly = kept_along system tolerances (IsOrderly system) (moved_orderly system tolerances) (first_state system) events parts.0 (first_orderly system) in
    let event = accepted system tolerances s e runs (or_parts (finding_of system tolerances s e) None parts.1).0 in
    let to = switched system s c o (subst (λ a. action_finding system tolerances s e a ≡ None) is event.action) in
    let front = (orderly.led c).engaged x (in_filter (is_on system c) s.jobs x engaged.there engaged.core) engaged.engaged in
    to ∙ (engaged_choice system s c x orderly.names engaged.there engaged.core engaged.engaged ∙ by_running front (running system s.jobs c) refl)
  where
    by_running : IsFront system (of_core system e.core.0 (state_after system events).jobs) x → (r : Option LiveJob) → running system (state_after system events).jobs e.core.0 ≡ r → option_map (λ j. j.job) (running system (state_after system events).jobs e.core.0) ≡ Some x.job
    by_running front None none = absurd (least_some (is_before system) (is_among system e.core.0 true) (state_after system events).jobs x none engaged.there (both _ _ engaged.core front.started))
    by_running front (Some r) some =
        let first = running_front system (state_after system events).jobs e.core.0 r some in
        ap (option_map (λ j. j.job)) some ∙ ap (λ j. Some j) (tied system r x (front.first r first.there first.started) (first.first x front.there front.started))
