-- A core whose last row stands again.
use Rattle.std.proofs.Common.{◌%◌, ◌^◌, ◌≡◌, ◌+◌, ◌-◌, ◌<◌, ◌≤◌, ◌==◌, ◌&&◌, ◌∷◌, ◌++◌, ◌∙◌}
use Rattle.msrp_plan.proofs.Common.{reverse, ℕ, Some, None, Option, slice_get, Bool, false, not, cond, List, [], nat_le, refl, ap, sym, subst, arith, length, length-append, true, IfSome, ForSome, option_or, true≢false, and-true, eqb-false, leb-false, lt-leb, false_from_ne_true, none-some, same_Some, PlanModel, units, release, jobs_on, is_queued, done, choice, phase_with, IsCoreTurn, has_shape, may_carry, JobState, state_after, in_tick, is_global, known_task, same_row, any_in}
use Rattle.msrp_core.proofs.Common.{Acts, ActsFor, AreJobs, AreToldBy, CanAct, CanRepeat, CoreId, HasWorkLeft, HoldSo, Inside, IsMachineView, IsRunning, IsSamePlace, JobId, Jobs, Kind, Poll, Polls, Queued, ReadyModel, Repeats, RepeatsOnly, ResId, Row, Spins, StandsAfter, active_in, advanced, eqb-true, has_come, has_release_by, is_waiting_phase, kind_again, machine_view, row_again, spin_again, spin_of, started_with, state_of}
use Rattle.msrp_plan.specs.Stretches.{NoneReleased, Stays, Works as StayWorks, Idles as StayIdles, Polls as StayPolls}
use Rattle.msrp_plan.specs.declared.rows.Kind.TheVariants as kinds
use Rattle.msrp_plan.specs.declared.units.Op.TheVariants.{Lock, Run}
use Rattle.msrp_plan.proofs.Legality.LegalRows as legal
use Rattle.msrp_plan.proofs.Legality.SameRow.{parts}
use Rattle.msrp_plan.proofs.Scheduling.Stretches.{stays_again, turns_by_states}
use Rattle.msrp_core.proofs.Acting.{waiting_global, working}
use Rattle.msrp_core.proofs.Choices.{at_in}
use Rattle.msrp_core.proofs.Running.{advanced_on, newest_done, running_done, running_known, running_queued, running_states}
use Rattle.msrp_core.proofs.Turning.{acts_job, chosen_known, core_after, plan_after, ready_after, fits_after, told_from, turn_of, turn_row, turn_told, turn_phase, phase_after_turn}

-- ---- the row that stands again
same_parts : (r s : Row) → r.tick ≡ s.tick → r.core ≡ s.core → r.kind ≡ s.kind → r.job ≡ s.job → r.res ≡ s.res → r.ahead ≡ s.ahead → parts r ≡ parts s
same_parts r s t c k j g a = cc

-- it has no resource, and carries no ahead
no_res : (o job : Option JobId) (res : Option ResId) → has_shape (kind_again o) job res ≡ true → res ≡ None
no_res None None None h = refl
no_res None None (Some g) h = absurd (cc)
no_res None (Some j) res h = absurd (cc)
no_res (Some i) None res h = absurd (cc)
no_res (Some i) (Some j) None h = refl
no_res (Some i) (Some j) (Some g) h = absurd (cc)

no_ahead : (o : Option JobId) (ahead : Option ℕ) → may_carry (kind_again o) ahead ≡ true → ahead ≡ None
no_ahead o None h = refl
no_ahead None (Some n) h = absurd (cc)
no_ahead (Some j) (Some n) h = absurd (cc)

pub is_again : (r : Row) (t : ℕ) (core : CoreId) (o : Option JobId) → r.tick ≡ t → r.core ≡ core → r.kind ≡ kind_again o → r.job ≡ o → r ≡ row_again t core o
is_again r t core o tick c kind job =
    let res = no_res o r.job r.res (subst (λ k. has_shape k r.job r.res ≡ true) kind r.shape) in
    let ahead = no_ahead o r.ahead (subst (λ k. may_carry k r.ahead ≡ true) kind r.carrier) in
    by_job o kind job res ahead
  where
    by_job : (o : Option JobId) → r.kind ≡ kind_again o → r.job ≡ o → r.res ≡ None → r.ahead ≡ None → r ≡ row_again t core o
    by_job None k j g a = same_row r (row_again t core None) (same_parts r (row_again t core None) tick c k j g a)
    by_job (Some i) k j g a = same_row r (row_again t core (Some i)) (same_parts r (row_again t core (Some i)) tick c k j g a)

-- a poll in vain carries no ahead
no_spin_ahead : (ahead : Option ℕ) → may_carry kinds.Spin ahead ≡ true → ahead ≡ None
no_spin_ahead None h = refl
no_spin_ahead (Some n) h = absurd (cc)

pub is_spin : (r : Row) (t : ℕ) (core : CoreId) (p : Poll) → r.tick ≡ t → r.core ≡ core → r.kind ≡ kinds.Spin → r.job ≡ Some p.job → r.res ≡ Some p.res → r ≡ spin_of t core p
is_spin r t core p tick c kind job res = same_row r (spin_of t core p) (same_parts r (spin_of t core p) tick c kind job res (no_spin_ahead r.ahead (subst (λ k. may_carry k r.ahead ≡ true) kind r.carrier)))

-- where a machine's last row stands again, its next one is known
pub known_row : (m : Inside) (r : Row) → 0 < m.again → r.tick ≡ m.tick → r.core ≡ m.jobs.core → r.kind ≡ kind_again m.job → r.job ≡ m.job → Some r ≡ (machine_view m).again
known_row m r some tick core kind job = by_flag (m.again == 0) refl
  where
    by_flag : (b : Bool) → (m.again == 0) ≡ b → Some r ≡ cond b None (Some (row_again m.tick m.jobs.core m.job))
    by_flag true e = let none = eqb-true m.again 0 e in absurd (omega (arith, some, none))
    by_flag false e = ap (λ x. Some x) (is_again r m.tick m.jobs.core m.job tick core kind job)

-- and it is the last one in the next tick
pub repeats_only : (m : Inside) (r : Row) → (0 < m.again → (r.kind ≡ kind_again m.job) × (r.job ≡ m.job)) → ForSome m.poll (Polls m.jobs r) → r.core ≡ m.jobs.core → RepeatsOnly (machine_view m) r
repeats_only m r works polls core = by_flag (m.again == 0) refl
  where
    by_poll : (o : Option Poll) → m.poll ≡ o → IfSome (spin_again m.tick m.jobs.core o) (λ next. next ≡ in_tick m.tick r)
    by_poll None e = tt
    by_poll (Some p) e = let w = polls p e in sym (is_spin (in_tick m.tick r) m.tick m.jobs.core p refl core w.kind w.job w.res)

    by_flag : (b : Bool) → (m.again == 0) ≡ b → IfSome (option_or (cond b None (Some (row_again m.tick m.jobs.core m.job))) (spin_again m.tick m.jobs.core m.poll)) (λ next. next ≡ in_tick m.tick r)
    by_flag true e = by_poll m.poll refl
    by_flag false e = let some = eqb-false m.again 0 e in let w = works (omega (arith, some)) in sym (is_again (in_tick m.tick r) m.tick m.jobs.core m.job refl core w.0 w.1)

-- a row that polls isn't one of these
pub apart_by : (jobs : Jobs) (r : Row) (o : Option JobId) (poll : Option Poll) → ForSome poll (Polls jobs r) → r.kind ≡ kind_again o → poll ≡ None
apart_by jobs r o None polls kind = refl
apart_by jobs r None (Some p) polls kind = let k = (polls p refl).kind in absurd (cc)
apart_by jobs r (Some j) (Some p) polls kind = let k = (polls p refl).kind in absurd (cc)

-- the kind of a row that stands again
pub can_kind : (jobs : Jobs) (kind : Kind) (o : Option JobId) (k : ℕ) → CanRepeat jobs kind o k → kind ≡ kind_again o
can_kind jobs kind None k can = can.0
can_kind jobs kind (Some j) k can = can.0

-- ---- one unit of work more, of those that the job has left
pub work_left : (old new : Jobs) (job : JobId) (k : ℕ) → HasWorkLeft old job (k + 1) → active_in new ≡ advanced old.plan.now (active_in old) → new.plan.now ≡ old.plan.now → HasWorkLeft new job k
work_left old new job k has active plan =
    let s = has.running.newest in
    let off : (s.done + 1 == length (units old.plan.now s.job)) ≡ false = false_from_ne_true _ (λ t.
    let e = eqb-true _ _ t in
    let u = ap (λ j. length (units old.plan.now j)) has.running.same in
    let m = has.more in
    absurd (omega (arith, e, u, m))) in
    record {
      running = record {
        newest = record s { done = s.done + 1 };
        below = has.running.below;
        active = active ∙ (ap (advanced old.plan.now) has.running.active ∙ ap (λ b. cond b has.running.below (record s { done = s.done + 1 } ∷ has.running.below)) off);
        same = has.running.same;
      };
      work = subst (λ p. (i : ℕ) → s.done + 1 ≤ i → i < s.done + 1 + k → slice_get (units p job) i ≡ Some Run) (sym plan) (λ i a b. has.work i (omega (arith, a)) (omega (arith, b)));
      more = subst (λ p. s.done + 1 + k < length (units p job)) (sym plan) (let m = has.more in omega (arith, m));
    }

-- less of it
less_left : (jobs : Jobs) (job : JobId) (k n : ℕ) → n ≤ k → HasWorkLeft jobs job k → HasWorkLeft jobs job n
less_left jobs job k n l has = record { running = has.running; work = λ i a b. has.work i a (omega (arith, b, l)); more = let m = has.more in omega (arith, m, l) }

-- its next unit is work
pub next_work : (jobs : Jobs) (job : JobId) (k : ℕ) → 0 < k → AreJobs jobs → HasWorkLeft jobs job k → CanAct jobs job Run
next_work jobs job k l fit has = record {
  jobs_fit = fit;
  running = has.running;
  unit = has.work has.running.newest.done (omega arith) (omega (arith, l));
}

-- a count of it is told by the number alone
pub counted_on : (old new : Jobs) (job : JobId) → AreJobs old → HasWorkLeft old job 1 → new ≡ record old { progress = (old.progress + 1) % 2 ^ 32 } → active_in new ≡ advanced old.plan.now (active_in old)
counted_on old new job fit has is =
    let s = has.running.newest in
    let d = newest_done old.stack.started (reverse old.below.items) old.progress s has.running.below has.running.active in
    let more = has.more in
    let u = ap (λ j. length (units old.plan.now j)) has.running.same in
    let few = (fit.accepted.draft.each job.task.0 (known_task old.plan.now old.core.0 job (running_known old job fit has.running).0)).size in
    let n : (old.progress + 1) % 2 ^ 32 ≡ s.done + 1 = omega (arith, d, more, few) in
    ap active_in is ∙ advanced_on old ((old.progress + 1) % 2 ^ 32) s has.running.below has.running.active (λ e. absurd (omega (arith, e, u, more))) n

-- so the core doesn't wait
pub calm : (jobs : Jobs) (job : JobId) (k : ℕ) → 0 < k → AreJobs jobs → HasWorkLeft jobs job k → is_waiting_phase jobs.phase ≡ false
calm jobs job k l fit has = (working jobs job (next_work jobs job k l fit has)).step.calm

pub can_less : (jobs : Jobs) (kind : Kind) (o : Option JobId) (k n : ℕ) → n ≤ k → CanRepeat jobs kind o k → CanRepeat jobs (kind_again o) o n
can_less jobs kind None k n l can = (refl, can.1)
can_less jobs kind (Some j) k n l can = (refl, less_left jobs j k n l can.1)

-- ---- nobody is released in this tick, where no release comes by it
none_released : (ready : ReadyModel) (since tick : ℕ) → ready.tick ≡ Some since → since < tick → has_release_by ready tick ≡ false → NoneReleased ready.plan ready.core tick 1
none_released ready since tick at before none j on late =
    let comes : JobId → Bool = λ i. nat_le (release ready.plan i) tick && not (has_come ready.tick (release ready.plan i)) in
    let off : comes j ≡ false = false_from_ne_true (comes j) (λ t. absurd (true≢false (sym (any_in comes (jobs_on ready.plan ready.core) j on t) ∙ none))) in
    let waits : has_come ready.tick (release ready.plan j) ≡ false = ap (λ o. has_come o (release ready.plan j)) at ∙ lt-leb (release ready.plan j) since (omega (arith, before, late)) in
    let later : nat_le (release ready.plan j) tick ≡ false = sym (and-true (nat_le (release ready.plan j) tick)) ∙ (ap (λ b. nat_le (release ready.plan j) tick && not b) (sym waits) ∙ off) in
    let l = leb-false (release ready.plan j) tick later in omega (arith, l)

-- ---- a turn: its row is the next one of whatever log the machine stands after
module _ (m : Inside) (mid new : Jobs) (chosen : Option JobId) (row : Row) (fit : AreJobs mid) (same : IsSamePlace m.jobs mid) (runs : ForSome chosen (IsRunning mid)) (states : (j : JobId) → state_of mid j ≡ started_with chosen (state_of m.jobs j)) (acts : ActsFor mid new chosen m.tick row) where
  told_by : (log : List Row) → StandsAfter (machine_view m) log → AreToldBy m.jobs log
  told_by log stands = told_from (state_of m.jobs) (state_after log) (jobs_on m.jobs.plan.now m.jobs.core.0) stands.states

  pub row_by : (log : List Row) → StandsAfter (machine_view m) log → chosen ≡ choice m.jobs.plan.now m.jobs.core.0 m.tick log → IsCoreTurn m.jobs.plan.now m.jobs.core.0 log row
  row_by log stands is = turn_row m.jobs chosen m.tick row log (chosen_known m.jobs mid fit same chosen runs) (turn_of m.jobs mid fit same new chosen m.tick row runs states acts) (told_by log stands) stands.tick is

  pub stands_by : (again : ℕ) (job : Option JobId) (poll : Option Poll) (log : List Row) → StandsAfter (machine_view m) log → StandsAfter (machine_view (record { tick = m.tick + 1; jobs = new; again = again; job = job; poll = poll })) (log ++ row ∷ [])
  stands_by again job poll log stands = record {
    tick = let n = stands.tick in omega (arith, n, length-append log (row ∷ []));
    phase = turn_phase m.jobs mid new chosen m.tick row log fit same states acts (told_by log stands) stands.tick stands.phase;
    states = turn_told m.jobs mid new chosen m.tick row log fit same states acts (told_by log stands) stands.tick;
  }

  pub turn_after : (log : List Row) → IsCoreTurn m.jobs.plan.now m.jobs.core.0 log row → IsCoreTurn new.plan.now new.core.0 log row
  turn_after log turn =
      subst (λ p. IsCoreTurn p new.core.0 log row) (sym (plan_after mid new chosen m.tick row acts ∙ ap (λ p. p.now) same.plan))
      (subst (λ (k : CoreId). IsCoreTurn m.jobs.plan.now k.0 log row) (sym (core_after mid new chosen m.tick row acts ∙ same.core)) turn)

  -- a row of work was of a job that wasn't queued, where it has work left
  unqueued : (k : ℕ) (log : List Row) → StandsAfter (machine_view m) log → 0 < k → (j : JobId) → row.job ≡ Some j → row.kind ≡ kinds.Run → HasWorkLeft new j k → is_queued log j ≡ false
  unqueued k log stands some j e work has =
      let c : chosen ≡ Some j = sym (acts_job mid new chosen m.tick row acts) ∙ e in
      let on = chosen_known m.jobs mid fit same chosen runs j c in
      let phase : new.phase ≡ mid.phase = phase_after_turn mid new chosen m.tick row acts ∙ ap (λ k. phase_with mid.phase k row.res) work in
      ap (λ (s : JobState). s.queued) (at_in (λ j. state_after log j ≡ state_of m.jobs j) (jobs_on m.jobs.plan.now m.jobs.core.0) j (told_by log stands) on)
      ∙ (sym (ap (λ (s : JobState). s.queued) (states j))
      ∙ (running_queued mid j (runs j c) ∙ (ap is_waiting_phase (sym phase) ∙ calm new j k some (fits_after mid new chosen m.tick row fit acts) has)))

  -- the row stands again so often
  pub repeats_by : (k since : ℕ) (poll : Option Poll) (log : List Row) → StandsAfter (machine_view m) log → chosen ≡ choice m.jobs.plan.now m.jobs.core.0 m.tick log → mid.ready.tick ≡ Some since → since ≤ m.tick
      → 0 < k → CanRepeat new row.kind row.job k → m.tick + 1 + k ≤ new.plan.now.ticks → ((t : ℕ) → t < m.tick + 1 + k → has_release_by new.ready t ≡ false) → Repeats (record { tick = m.tick + 1; jobs = new; again = k; job = row.job; poll = poll })
  repeats_by k since poll log stands is at before some can within quiet = record {
    pre = log;
    row = row;
    stands = stands_by k row.job poll log stands;
    turn = turn_after log (row_by log stands is);
    job = refl;
    can = can;
    ready = λ j e. let work = subst (λ o. CanRepeat new row.kind o k) e can in unqueued k log stands some j e work.0 work.1;
    left = within;
    since = since;
    released = ap (λ (x : ReadyModel). x.tick) (ready_after mid new chosen m.tick row acts) ∙ at;
    before = omega (arith, before);
    quiet = quiet;
  }

  -- the row polled in vain
  pub spins_by : (k : ℕ) (left : Option JobId) (poll : Option Poll) (p : Poll) (log : List Row) → StandsAfter (machine_view m) log → chosen ≡ choice m.jobs.plan.now m.jobs.core.0 m.tick log → Polls new row p → Spins (record { tick = m.tick + 1; jobs = new; again = k; job = left; poll = poll }) p
  spins_by k left poll p log stands is polls = record {
    pre = log;
    row = row;
    stands = stands_by k left poll log stands;
    turn = turn_after log (row_by log stands is);
    polls = polls;
    awaits = phase_after_turn mid new chosen m.tick row acts ∙ (ap (λ k. phase_with mid.phase k row.res) polls.kind ∙ ap (phase_with mid.phase kinds.Spin) polls.res);
  }

-- ---- a machine after its last row
next_tick : (m : Inside) (pre : List Row) (r : Row) → StandsAfter (machine_view m) (pre ++ r ∷ []) → IsCoreTurn m.jobs.plan.now m.jobs.core.0 pre r → r.tick + 1 ≡ m.tick
next_tick m pre r stands turn = let a = turn.tick in let b = stands.tick in let l = length-append pre (r ∷ []) in omega (arith, a, b, l)

same_place : (jobs : Jobs) → IsSamePlace jobs jobs
same_place jobs = record { plan = refl; levels = refl; core = refl; phase = refl }

-- where that row stays, its choice is that of the next turn, whatever log the machine stands after
module _ (m : Inside) (fit : AreJobs m.jobs) (o : Option JobId) (runs : ForSome o (IsRunning m.jobs)) (pre : List Row) (r : Row) (after : StandsAfter (machine_view m) (pre ++ r ∷ [])) (turn : IsCoreTurn m.jobs.plan.now m.jobs.core.0 pre r) (job : r.job ≡ o) (stays : Stays m.jobs.plan.now m.jobs.core.0 pre r 1) where
  chosen_on : (log : List Row) → StandsAfter (machine_view m) log → o ≡ choice m.jobs.plan.now m.jobs.core.0 m.tick log
  chosen_on log stands =
      let plan = m.jobs.plan.now in
      let s = in_tick (r.tick + 1) r in
      let next = (stays_again plan m.jobs.core.0 0 pre r turn stays).0 in
      let here : IsCoreTurn plan m.jobs.core.0 log s = turns_by_states plan m.jobs.core.0 (pre ++ r ∷ []) log s (sym after.tick ∙ stands.tick) (sym after.states ∙ stands.states) next in
      subst (λ t. o ≡ choice plan m.jobs.core.0 t log) (next_tick m pre r after turn) (subst (λ d. o ≡ choice plan d s.tick log) here.core (sym job ∙ (legal.turn_of plan log s here.own here.chosen here.action).job))

  states_on : (j : JobId) → state_of m.jobs j ≡ started_with o (state_of m.jobs j)
  states_on = running_states m.jobs m.jobs.ready o refl (λ x e. (running_known m.jobs x fit (runs x e)).1)

  module _ (new : Jobs) (row : Row) (acts : ActsFor m.jobs new o m.tick row) where
    row_on : (log : List Row) → StandsAfter (machine_view m) log → IsCoreTurn m.jobs.plan.now m.jobs.core.0 log row
    row_on log stands = row_by m m.jobs new o row fit (same_place m.jobs) runs states_on acts log stands (chosen_on log stands)

    stands_on : (again : ℕ) (left : Option JobId) (poll : Option Poll) (log : List Row) → StandsAfter (machine_view m) log → StandsAfter (machine_view (record { tick = m.tick + 1; jobs = new; again = again; job = left; poll = poll })) (log ++ row ∷ [])
    stands_on = stands_by m m.jobs new o row fit (same_place m.jobs) runs states_on acts

-- ---- a machine whose last row stands again
module _ (m : Inside) (fit : AreJobs m.jobs) (r : Repeats m) (some : 0 < m.again) where
  abbrev plan : PlanModel
  plan = m.jobs.plan.now

  abbrev c : ℕ
  c = m.jobs.core.0

  abbrev last : List Row
  last = r.pre ++ r.row ∷ []

  told_last : AreToldBy m.jobs last
  told_last = told_from (state_of m.jobs) (state_after last) (jobs_on plan c) r.stands.states

  quiet_next : NoneReleased plan c (r.row.tick + 1) 1
  quiet_next =
      subst (λ t. NoneReleased plan c t 1) (sym (next_tick m r.pre r.row r.stands r.turn))
      (subst (λ p. NoneReleased p c m.tick 1) fit.ready_plan (subst (λ k. NoneReleased m.jobs.ready.plan k m.tick 1) fit.ready_core
      (none_released m.jobs.ready r.since m.tick r.released r.before (r.quiet m.tick (omega (arith, some))))))

  -- the job of the row, where it has one
  left_of : (j : JobId) → m.job ≡ Some j → HasWorkLeft m.jobs j m.again
  left_of j e = (subst (λ o. CanRepeat m.jobs r.row.kind o m.again) e r.can).1

  state_last : (j : JobId) → m.job ≡ Some j → state_after last j ≡ state_of m.jobs j
  state_last j e = at_in (λ j. state_after last j ≡ state_of m.jobs j) (jobs_on plan c) j told_last (running_known m.jobs j fit (left_of j e).running).0

  stays : (o : Option JobId) → m.job ≡ o → Stays plan c r.pre r.row 1
  stays None e = StayIdles (subst (λ o. CanRepeat m.jobs r.row.kind o m.again) e r.can).0 quiet_next
  stays (Some j) e =
      let has = left_of j e in
      let d : done j last ≡ has.running.newest.done = ap (λ (s : JobState). s.done) (state_last j e) ∙ running_done m.jobs j fit has.running in
      StayWorks j (subst (λ o. CanRepeat m.jobs r.row.kind o m.again) e r.can).0 (r.job ∙ e) (r.ready j e) (λ i a b. has.work i (omega (arith, a, d)) (omega (arith, b, d, some))) quiet_next

  running_now : ForSome m.job (IsRunning m.jobs)
  running_now j e = (left_of j e).running

  module _ (new : Jobs) (row : Row) (acts : ActsFor m.jobs new m.job m.tick row) where
    pub row_next : (log : List Row) → StandsAfter (machine_view m) log → IsCoreTurn plan c log row
    row_next = row_on m fit m.job running_now r.pre r.row r.stands r.turn r.job (stays m.job refl) new row acts

    pub stands_next : (log : List Row) → StandsAfter (machine_view m) log → StandsAfter (machine_view (record { tick = m.tick + 1; jobs = new; again = m.again - 1; job = m.job; poll = m.poll })) (log ++ row ∷ [])
    stands_next = stands_on m fit m.job running_now r.pre r.row r.stands r.turn r.job (stays m.job refl) new row acts (m.again - 1) m.job m.poll

    pub view_next : m.poll ≡ None → row.kind ≡ kind_again m.job → ((k : ℕ) → CanRepeat m.jobs (kind_again m.job) m.job (k + 1) → CanRepeat new (kind_again m.job) m.job k) → IsMachineView (record { tick = m.tick + 1; jobs = new; again = m.again - 1; job = m.job; poll = m.poll })
    view_next none kind left = record {
      jobs_fit = fits_after m.jobs new m.job m.tick row fit acts;
      released = λ x e. let b = r.before in let s : r.since ≡ x = same_Some r.since x (sym (ap (λ (x : ReadyModel). x.tick) (ready_after m.jobs new m.job m.tick row acts) ∙ r.released) ∙ e) in omega (arith, b, s);
      log = last ++ row ∷ [];
      stands = stands_next last r.stands;
      repeats = λ more.
          let can = left (m.again - 1) (can_less m.jobs r.row.kind m.job m.again (m.again - 1 + 1) (omega (arith, some)) r.can) in
          let job = acts_job m.jobs new m.job m.tick row acts in
          subst (λ o. Repeats (record { tick = m.tick + 1; jobs = new; again = m.again - 1; job = o; poll = m.poll })) job
          (repeats_by m m.jobs new m.job row fit (same_place m.jobs) running_now (states_on m fit m.job running_now r.pre r.row r.stands r.turn r.job (stays m.job refl)) acts (m.again - 1) r.since m.poll last r.stands (chosen_on m fit m.job running_now r.pre r.row r.stands r.turn r.job (stays m.job refl) last r.stands) r.released (let b = r.before in omega (arith, b)) more
          (subst (λ o. CanRepeat new row.kind o (m.again - 1)) (sym job) (subst (λ k. CanRepeat new k m.job (m.again - 1)) (sym kind) can))
          (subst (λ (p : PlanModel). m.tick + 1 + (m.again - 1) ≤ p.ticks) (sym (plan_after m.jobs new m.job m.tick row acts)) (let l = r.left in omega (arith, l, some)))
          (λ t l. ap (λ x. has_release_by x t) (ready_after m.jobs new m.job m.tick row acts) ∙ r.quiet t (omega (arith, l, some))));
      spins = λ p e. absurd (none-some p (sym none ∙ e));
      apart = λ more. none;
    }

-- ---- a machine whose last row polled in vain
module _ (m : Inside) (fit : AreJobs m.jobs) (p : Poll) (s : Spins m p) where
  pub can_spin : CanAct m.jobs p.job (Lock p.res)
  can_spin =
      let run = s.polls.running in
      let holds = subst (HoldSo m.jobs.plan.now (Queued p.res)) run.active (subst (λ q. HoldSo m.jobs.plan.now q (active_in m.jobs)) s.awaits fit.are.holds) in
      record { jobs_fit = fit; running = run; unit = subst (λ j. slice_get (units m.jobs.plan.now j) run.newest.done ≡ Some (Lock p.res)) run.same holds.0.unit }

  pub awaits_global : is_global m.jobs.plan.now p.res.0 ≡ true
  awaits_global = waiting_global m.jobs.plan.now m.jobs.phase s.polls.running.newest s.polls.running.below p.res s.awaits (subst (HoldSo m.jobs.plan.now m.jobs.phase) s.polls.running.active fit.are.holds)

  runs_poll : ForSome (Some p.job) (IsRunning m.jobs)
  runs_poll j e = subst (IsRunning m.jobs) (same_Some p.job j e) s.polls.running

  module _ (row : Row) (acts : Acts m.jobs m.jobs p.job m.tick row) where
    pub row_spins : (log : List Row) → StandsAfter (machine_view m) log → IsCoreTurn m.jobs.plan.now m.jobs.core.0 log row
    row_spins = row_on m fit (Some p.job) runs_poll s.pre s.row s.stands s.turn s.polls.job (StayPolls s.polls.kind) m.jobs row acts

    pub stands_spins : (log : List Row) → StandsAfter (machine_view m) log → StandsAfter (machine_view (record { tick = m.tick + 1; jobs = m.jobs; again = m.again; job = m.job; poll = m.poll })) (log ++ row ∷ [])
    stands_spins = stands_on m fit (Some p.job) runs_poll s.pre s.row s.stands s.turn s.polls.job (StayPolls s.polls.kind) m.jobs row acts m.again m.job m.poll

    pub polls_on : row.kind ≡ kinds.Spin → row.res ≡ Some p.res → Polls m.jobs row p
    polls_on kind res = record { kind = kind; job = acts.row_job; res = res; running = s.polls.running }

    pub view_spins : m.poll ≡ Some p → row.kind ≡ kinds.Spin → row.res ≡ Some p.res → ForSome m.jobs.ready.tick (λ before. before ≤ m.tick) → (0 < m.again → m.poll ≡ None) → IsMachineView (record { tick = m.tick + 1; jobs = m.jobs; again = m.again; job = m.job; poll = m.poll })
    view_spins is kind res released apart = record {
      jobs_fit = fit;
      released = λ x e. let b = released x e in omega (arith, b);
      log = (s.pre ++ s.row ∷ []) ++ row ∷ [];
      stands = stands_spins (s.pre ++ s.row ∷ []) s.stands;
      repeats = λ some. absurd (none-some p (sym (apart some) ∙ is));
      spins = λ q e. subst (Spins (record { tick = m.tick + 1; jobs = m.jobs; again = m.again; job = m.job; poll = m.poll })) (same_Some p q (sym is ∙ e))
          (spins_by m m.jobs m.jobs (Some p.job) row fit (same_place m.jobs) runs_poll (states_on m fit (Some p.job) runs_poll s.pre s.row s.stands s.turn s.polls.job (StayPolls s.polls.kind)) acts m.again m.job m.poll p (s.pre ++ s.row ∷ []) s.stands
          (chosen_on m fit (Some p.job) runs_poll s.pre s.row s.stands s.turn s.polls.job (StayPolls s.polls.kind) (s.pre ++ s.row ∷ []) s.stands) (polls_on kind res));
      apart = apart;
    }
