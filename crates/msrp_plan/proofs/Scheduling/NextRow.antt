-- A core that is due has a legal next row: its job has a unit left, and the queue answers what that
-- unit asks.
use Rattle.msrp_plan.specs.Common.{ℕ, Bool, true, false, not, List, [], Option, Some, None, length, nat_lt, slice_get, get_or, is_some, Contains, PlanModel, units, is_lock_of, has_shape, is_queue, may_carry, jobs_on, same_job, is_queued, done, is_before, choice, allows, same_res, res_of_unit, is_global_unit, does_unit, fifo, replies, counts, is_free, is_first, IsLegal, EachAfter, had_turn, same_choice, replies_on, log_of, IsDueCore, IsPlan}
use Rattle.msrp_plan.specs.declared.ids.JobId.{JobId}
use Rattle.msrp_plan.specs.declared.ids.ResId.{ResId}
use Rattle.msrp_plan.specs.declared.units.Op.{Op}
use Rattle.msrp_plan.specs.declared.rows.Kind.{Kind}
use Rattle.msrp_plan.specs.declared.rows.Kind.TheVariants.{Run, Lock, Unlock, Take, Queue, Spin, Grant, Release}
use Rattle.msrp_plan.specs.declared.rows.Row.{Row}
use Rattle.std.proofs.Common.{◌≡◌, ◌<◌, ◌/◌, ◌&&◌, ◌||◌, ◌==◌, refl, ap, sym, ◌∙◌, subst, arith, eq-eqb, inl, inr}
use Rattle.std.proofs.lemmas.Bool.{and_from, lt-ltb, eqb-false}
use Rattle.std.proofs.lemmas.Option.{slice_get-get_or}
use Rattle.msrp_plan.specs.Examples.Notation.{idle}
use Rattle.msrp_plan.specs.Scheduling.{HasNext}
use Rattle.msrp_plan.specs.declared.units.Op.TheVariants.{Run as RunUnit, Lock as LockUnit, Unlock as UnlockUnit}
use Rattle.msrp_plan.proofs.Lists.AnyAll.{any_in}
use Rattle.msrp_plan.proofs.Jobs.JobLists.{has_unit}
use Rattle.msrp_plan.proofs.Jobs.JobTests.{same_self}
use Rattle.msrp_plan.proofs.TaskUnits.PlanUnits.{units_lock}
use Rattle.msrp_plan.proofs.TaskUnits.UnitCounts.{held_lock}
use Rattle.msrp_plan.proofs.TaskUnits.Stands.{Waits, stand, stand_in, stand_waits}
use Rattle.msrp_plan.proofs.Choosing.Live.{is_live, nothing_done}
use Rattle.msrp_plan.proofs.Lists.LeastKept.{least_in}
use Rattle.msrp_plan.proofs.Choosing.Turns.{has_turn, runs_live}
use Rattle.msrp_plan.proofs.Legality.LegalRows.{legal_due}
use Rattle.msrp_plan.proofs.Runs.CoreRuns.{reached_tick}
use Rattle.msrp_plan.proofs.Runs.RoundRobin.{in_turn_of}
use Rattle.msrp_plan.proofs.Blocking.Sound.{head_ready, is_ready}
use Rattle.msrp_plan.proofs.Blocking.SectionRows.{few_at}
use Rattle.msrp_plan.proofs.Scheduling.Waiters.{stands_in, queued_at}

-- ---- what a unit asks, and the answer of a queue
pub record HasAnswer (global queued : Bool) (op : Op) (queue : List JobId) (x : JobId) : Type 0 where
  pub kind : Kind
  pub ahead : Option ℕ
  pub shape : has_shape kind (Some x) (res_of_unit op) ≡ true
  pub carrier : may_carry kind ahead ≡ true
  pub allowed : allows global queued op kind ≡ true
  pub reply : (replies queue (Some x) kind && counts queue ahead) ≡ true
  pub carries : (not (is_queue kind) || is_some ahead) ≡ true

-- a request: it is free or it isn't
ask_of : (h : ResId) (queue : List JobId) (x : JobId) (free : Bool) → is_free queue ≡ free → HasAnswer true false (LockUnit h) queue x
ask_of h queue x true e = record { kind = Take; ahead = None; shape = refl; carrier = refl; allowed = refl; reply = and_from (is_free queue) true e refl; carries = refl }
ask_of h queue x false e = record { kind = Queue; ahead = Some (length queue); shape = refl; carrier = refl; allowed = refl; reply = and_from (not (is_free queue)) (length queue == length queue) (ap not e) (eq-eqb (length queue) (length queue) refl); carries = refl }

-- a poll: the job stands first or it doesn't
poll_of : (h : ResId) (queue : List JobId) (x : JobId) (first : Bool) → is_first queue (Some x) ≡ first → stands_in queue x ≡ true → HasAnswer true true (LockUnit h) queue x
poll_of h queue x true e there = record { kind = Grant; ahead = None; shape = refl; carrier = refl; allowed = refl; reply = and_from (is_first queue (Some x)) true e refl; carries = refl }
poll_of h queue x false e there = record { kind = Spin; ahead = None; shape = refl; carrier = refl; allowed = refl; reply = and_from _ true (and_from (stands_in queue x) (not (is_first queue (Some x))) there (ap not e)) refl; carries = refl }

-- whether the job is queued makes no difference to other units
allows_run : (global queued : Bool) → allows global queued RunUnit Run ≡ true
allows_run true true = refl
allows_run true false = refl
allows_run false true = refl
allows_run false false = refl

allows_lock : (queued : Bool) (h : ResId) → allows false queued (LockUnit h) Lock ≡ true
allows_lock true h = refl
allows_lock false h = refl

allows_unlock : (queued : Bool) (h : ResId) → allows false queued (UnlockUnit h) Unlock ≡ true
allows_unlock true h = refl
allows_unlock false h = refl

allows_release : (queued : Bool) (h : ResId) → allows true queued (UnlockUnit h) Release ≡ true
allows_release true h = refl
allows_release false h = refl

-- who polls stands in the queue
abbrev Stands : Bool → Bool → Op → List JobId → JobId → Type 0
Stands global queued op queue x = (h : ResId) → op ≡ LockUnit h → global ≡ true → queued ≡ true → stands_in queue x ≡ true

pub answer_of : (global queued : Bool) (op : Op) (queue : List JobId) (x : JobId) → Stands global queued op queue x → HasAnswer global queued op queue x
answer_of global queued RunUnit queue x s = record { kind = Run; ahead = None; shape = refl; carrier = refl; allowed = allows_run global queued; reply = refl; carries = refl }
answer_of false queued (LockUnit h) queue x s = record { kind = Lock; ahead = None; shape = refl; carrier = refl; allowed = allows_lock queued h; reply = refl; carries = refl }
answer_of true false (LockUnit h) queue x s = ask_of h queue x (is_free queue) refl
answer_of true true (LockUnit h) queue x s = poll_of h queue x (is_first queue (Some x)) refl (s h refl refl refl)
answer_of false queued (UnlockUnit h) queue x s = record { kind = Unlock; ahead = None; shape = refl; carrier = refl; allowed = allows_unlock queued h; reply = refl; carries = refl }
answer_of true queued (UnlockUnit h) queue x s = record { kind = Release; ahead = None; shape = refl; carrier = refl; allowed = allows_release queued h; reply = refl; carries = refl }

-- ---- whoever has the turn has a unit left
-- it is unfinished
turn_within : (plan : PlanModel) (c t : ℕ) (pre : List Row) (x : JobId) → IsPlan plan → EachAfter (IsLegal plan) [] pre → Contains (jobs_on plan c) x → choice plan c t pre ≡ Some x → done x pre < length (units plan x)
turn_within plan c t pre x ok all on turn =
    let few = few_at plan x pre all in
    elim (has_turn plan c t pre x turn) [
      | inl new ↦ let none = nothing_done pre x (head_ready plan c t pre x new.first).1 in let some = has_unit plan c x ok on in omega (arith, none, some)
      | inr runs ↦ let ne = eqb-false (done x pre) (length (units plan x)) (runs_live plan c pre x runs).1 in omega (arith, few, ne)
    ]

-- whoever has the turn is a job of the core
turn_on_core : (plan : PlanModel) (c t : ℕ) (pre : List Row) (x : JobId) → choice plan c t pre ≡ Some x → Contains (jobs_on plan c) x
turn_on_core plan c t pre x turn =
    elim (has_turn plan c t pre x turn) [
      | inl new ↦ least_in (is_before plan) (is_ready plan t pre) (jobs_on plan c) x new.first
      | inr runs ↦ least_in (is_before plan) (is_live plan pre) (jobs_on plan c) x runs
    ]

-- who is queued at a lock of a global resource stands in its queue
polls_in : (plan : PlanModel) (pre : List Row) (x : JobId) (op : Op) → IsPlan plan → EachAfter (IsLegal plan) [] pre → slice_get (units plan x) (done x pre) ≡ Some op → (h : ResId) → op ≡ LockUnit h → is_global_unit plan op ≡ true → is_queued pre x ≡ true → stands_in (fifo h.0 pre) x ≡ true
polls_in plan pre x op ok all unit h is glob q =
    let at : slice_get (units plan x) (done x pre) ≡ Some (LockUnit h) = unit ∙ ap (λ o. Some o) is in
    let lock : is_lock_of h.0 (LockUnit h) ≡ true = eq-eqb h.0 h.0 refl in
    let free = (held_lock plan (units plan x) h.0 (done x pre) (LockUnit h) (units_lock plan ok x.task.0) at lock).0 in
    let waits : stand plan h.0 pre x ≡ Waits = ap (λ b. stand_in (units plan x) h.0 b (done x pre)) q ∙ stand_waits (units plan x) h.0 (done x pre) (LockUnit h) free at lock in
    queued_at plan h.0 pre ok (sym (ap (is_global_unit plan) is) ∙ glob) all x waits

-- ---- the row
-- the queue of the resource that a unit names
abbrev queue_of : List Row → Op → List JobId
queue_of pre RunUnit = []
queue_of pre (LockUnit g) = fifo g.0 pre
queue_of pre (UnlockUnit g) = fifo g.0 pre

-- a row of job x that does the unit, answered so
abbrev answered : ℕ → ℕ → (global queued : Bool) (op : Op) (queue : List JobId) (x : JobId) → HasAnswer global queued op queue x → Row
answered t c global queued op queue x a = record { tick = t; core = record { 0 = c }; kind = a.kind; job = Some x; res = res_of_unit op; ahead = a.ahead; shape = a.shape; carrier = a.carrier }

-- a unit names its own resource
same_named : (op : Op) → same_res (res_of_unit op) (res_of_unit op) ≡ true
same_named RunUnit = refl
same_named (LockUnit h) = eq-eqb h.0 h.0 refl
same_named (UnlockUnit h) = eq-eqb h.0 h.0 refl

-- the reply is that of its queue
reply_by : (pre : List Row) (r : Row) (op : Op) → (replies (queue_of pre op) r.job r.kind && counts (queue_of pre op) r.ahead) ≡ true → replies_on pre (res_of_unit op) r ≡ true
reply_by pre r RunUnit h = refl
reply_by pre r (LockUnit g) h = h
reply_by pre r (UnlockUnit g) h = h

-- such a row is legal
answered_legal : (plan : PlanModel) (pre : List Row) (c : ℕ) (x : JobId) (op : Op) → IsDueCore plan pre c → choice plan c (length pre / plan.cores) pre ≡ Some x → Contains (jobs_on plan c) x → slice_get (units plan x) (done x pre) ≡ Some op → (a : HasAnswer (is_global_unit plan op) (is_queued pre x) op (queue_of pre op) x)
    → IsLegal plan pre (answered (length pre / plan.cores) c (is_global_unit plan op) (is_queued pre x) op (queue_of pre op) x a)
answered_legal plan pre c x op due turn on unit a =
    let t = length pre / plan.cores in
    let r = answered t c (is_global_unit plan op) (is_queued pre x) op (queue_of pre op) x a in
    record {
      turn = in_turn_of t t (nat_lt c plan.cores) (had_turn c t pre) refl (lt-ltb c plan.cores due.core) due.once;
      own = any_in (same_job x) (jobs_on plan c) x on (same_self x);
      chosen = ap (same_choice (Some x)) turn ∙ same_self x;
      action = ap (does_unit plan (is_queued pre x) r) unit ∙ and_from (same_res (res_of_unit op) (res_of_unit op)) (allows (is_global_unit plan op) (is_queued pre x) op a.kind) (same_named op) a.allowed;
      reply = reply_by pre r op a.reply;
    }

-- an idle row, where nobody has the turn
idle_legal : (plan : PlanModel) (pre : List Row) (c : ℕ) → IsDueCore plan pre c → choice plan c (length pre / plan.cores) pre ≡ None → IsLegal plan pre (idle (length pre / plan.cores) c)
idle_legal plan pre c due turn =
    let t = length pre / plan.cores in
    record { turn = in_turn_of t t (nat_lt c plan.cores) (had_turn c t pre) refl (lt-ltb c plan.cores due.core) due.once; own = refl; chosen = ap (same_choice None) turn; action = refl; reply = refl }

-- by whether somebody has the turn
next_by : (plan : PlanModel) (pre : List Row) (c : ℕ) (o : Option JobId) → choice plan c (length pre / plan.cores) pre ≡ o → IsPlan plan → EachAfter (IsLegal plan) [] pre → IsDueCore plan pre c → HasNext plan pre c
next_by plan pre c None turn ok all due = record { row = idle (length pre / plan.cores) c; core = refl; legal = idle_legal plan pre c due turn; carries = refl }
next_by plan pre c (Some x) turn ok all due =
    let t = length pre / plan.cores in
    let on = turn_on_core plan c t pre x turn in
    let op = get_or (units plan x) (done x pre) RunUnit in
    let unit = slice_get-get_or (units plan x) (done x pre) RunUnit (turn_within plan c t pre x ok all on turn) in
    let a = answer_of (is_global_unit plan op) (is_queued pre x) op (queue_of pre op) x (λ h is glob q. subst (λ u. stands_in (queue_of pre u) x ≡ true) (sym is) (polls_in plan pre x op ok all unit h is glob q)) in
    record { row = answered t c (is_global_unit plan op) (is_queued pre x) op (queue_of pre op) x a; core = refl; legal = answered_legal plan pre c x op due turn on unit a; carries = a.carries }

-- after each start a core that is due has one
pub next_row : (plan : PlanModel) (pre : List Row) (c : ℕ) → IsPlan plan → EachAfter (IsLegal plan) [] pre → IsDueCore plan pre c → HasNext plan pre c
next_row plan pre c ok all due = next_by plan pre c (choice plan c (length pre / plan.cores) pre) refl ok all due

-- and has had one turn in each full tick
pub turns_when_due : (plan : PlanModel) (pre : List Row) (c : ℕ) → IsPlan plan → EachAfter (IsLegal plan) [] pre → IsDueCore plan pre c → length (log_of c pre) ≡ length pre / plan.cores
turns_when_due plan pre c ok all due =
    let next = next_row plan pre c ok all due in
    subst (λ n. length (log_of n pre) ≡ length pre / plan.cores) next.core (sym (reached_tick plan pre next.row all next.legal) ∙ (legal_due plan pre next.row next.legal).tick)
