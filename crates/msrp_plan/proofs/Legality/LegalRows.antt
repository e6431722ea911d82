-- What a legal row is, in relations: the tests of the rules, read as facts on its tick, core, job,
-- unit and reply.
use Rattle.msrp_plan.specs.Common.{ℕ, true, false, not, nat_lt, List, Option, Some, None, length, slice_get, Contains, PlanModel, units, core_of, jobs_on, done, is_queued, choice, has_shape, same_res, res_of_unit, is_global_unit, allows, does_unit, does_next, fifo, replies, counts, had_turn, is_in_turn, is_of_core, same_choice, is_chosen, is_next_action, replies_on, IsLegal}
use Rattle.msrp_plan.specs.declared.ids.JobId.{JobId}
use Rattle.msrp_plan.specs.declared.ids.ResId.{ResId}
use Rattle.msrp_plan.specs.declared.units.Op.{Op}
use Rattle.msrp_plan.specs.declared.rows.Kind.{Kind}
use Rattle.msrp_plan.specs.declared.rows.Kind.TheVariants.{Idle}
use Rattle.msrp_plan.specs.declared.rows.Row.{Row}
use Rattle.std.proofs.Common.{◌≡◌, ◌<◌, ◌/◌, ◌&&◌, ◌==◌, refl, ap, sym, ◌∙◌, subst}
use Rattle.std.proofs.lemmas.Bool.{eqb-true, ltb-true, and_parts, not-true}
use Rattle.msrp_plan.specs.Actions.{is_idle}
use Rattle.msrp_plan.proofs.Jobs.JobTests.{same_is}
use Rattle.msrp_plan.proofs.Jobs.CoreJobs.{on_its_core, job_on_core}

-- ---- tests of options
pub same_res_is : (a b : Option ResId) → same_res a b ≡ true → a ≡ b
same_res_is None None h = refl
same_res_is (Some a) (Some b) h = let mk : ℕ → ResId = λ n. record { 0 = n } in ap (λ n. Some (mk n)) (eqb-true a.0 b.0 h)
same_res_is None (Some b) h = absurd (cc)
same_res_is (Some a) None h = absurd (cc)

-- choices that pass the test are equal
pub same_choice_is : (a b : Option JobId) → same_choice a b ≡ true → a ≡ b
same_choice_is None None h = refl
same_choice_is (Some i) (Some j) h = ap (λ k. Some k) (same_is i j h)
same_choice_is None (Some j) h = absurd (cc)
same_choice_is (Some i) None h = absurd (cc)

-- a kind that passes the test is idle
idle_is : (k : Kind) → is_idle k ≡ true → k ≡ Idle
idle_is Idle h = refl
idle_is _ h = absurd (cc)

-- ---- shape
-- an idle row has no resource
pub idle_res : (r : Row) → r.kind ≡ Idle → r.res ≡ None
idle_res r e = none r.job r.res (subst (λ k. has_shape k r.job r.res ≡ true) e r.shape)
  where
    none : (o : Option JobId) (res : Option ResId) → has_shape Idle o res ≡ true → res ≡ None
    none None None h = refl
    none None (Some g) h = absurd (cc)
    none (Some j) res h = absurd (cc)

-- ---- A1: the tick that is due, on a core that has not had its turn
pub record IsDue (plan : PlanModel) (pre : List Row) (r : Row) : Type 0 where
  pub tick : r.tick ≡ length pre / plan.cores
  pub core : r.core.0 < plan.cores
  pub once : had_turn r.core.0 r.tick pre ≡ false

-- the test says just that
pub due : (plan : PlanModel) (pre : List Row) (r : Row) → is_in_turn plan pre r ≡ true → IsDue plan pre r
due plan pre r h =
    let a = and_parts (r.tick == length pre / plan.cores) (nat_lt r.core.0 plan.cores && not (had_turn r.core.0 r.tick pre)) h in
    let b = and_parts (nat_lt r.core.0 plan.cores) (not (had_turn r.core.0 r.tick pre)) a.1 in
    record { tick = eqb-true r.tick (length pre / plan.cores) a.0; core = ltb-true r.core.0 plan.cores b.0; once = not-true (had_turn r.core.0 r.tick pre) b.1 }

-- ---- A4: the unit of its job that a row does, or polls for
pub record DoesUnit (plan : PlanModel) (pre : List Row) (j : JobId) (r : Row) : Type 0 where
  pub op : Op
  pub unit : slice_get (units plan j) (done j pre) ≡ Some op
  pub res : r.res ≡ res_of_unit op
  pub kind : allows (is_global_unit plan op) (is_queued pre j) op r.kind ≡ true

-- by the unit that stands at the place that the job has reached
does_it : (plan : PlanModel) (pre : List Row) (j : JobId) (r : Row) (o : Option Op) → slice_get (units plan j) (done j pre) ≡ o → does_unit plan (is_queued pre j) r o ≡ true → DoesUnit plan pre j r
does_it plan pre j r None e h = absurd (cc)
does_it plan pre j r (Some u) e h =
    let a = and_parts (same_res r.res (res_of_unit u)) (allows (is_global_unit plan u) (is_queued pre j) u r.kind) h in
    record { op = u; unit = e; res = same_res_is r.res (res_of_unit u) a.0; kind = a.1 }

-- ---- A2, A3 and A4 together: a turn of the row's core
pub record IsTurn (plan : PlanModel) (pre : List Row) (r : Row) : Type 0 where
  -- its job, if it has one, is one of the core's
  pub known : (j : JobId) → r.job ≡ Some j → Contains (jobs_on plan r.core.0) j
  -- it is the one that has the turn
  pub job : r.job ≡ choice plan r.core.0 r.tick pre
  -- it is idle, or does the job's next unit
  pub idle : r.job ≡ None → r.kind ≡ Idle
  pub does : (j : JobId) → r.job ≡ Some j → DoesUnit plan pre j r

-- the three tests say just that
pub turn_of : (plan : PlanModel) (pre : List Row) (r : Row) → is_of_core plan r ≡ true → is_chosen plan pre r ≡ true → is_next_action plan pre r ≡ true → IsTurn plan pre r
turn_of plan pre r own chosen action = record {
  known = λ j e. job_on_core plan r.core.0 r.job j own e;
  job = same_choice_is r.job (choice plan r.core.0 r.tick pre) chosen;
  idle = λ e. idle_is r.kind (subst (λ o. does_next plan pre o r ≡ true) e action);
  does = λ j e. does_it plan pre j r (slice_get (units plan j) (done j pre)) refl (subst (λ o. does_next plan pre o r ≡ true) e action);
}

-- a legal row is a turn of its core
pub legal_turn : (plan : PlanModel) (pre : List Row) (r : Row) → IsLegal plan pre r → IsTurn plan pre r
legal_turn plan pre r h = turn_of plan pre r h.own h.chosen h.action

-- and it is due
pub legal_due : (plan : PlanModel) (pre : List Row) (r : Row) → IsLegal plan pre r → IsDue plan pre r
legal_due plan pre r h = due plan pre r h.turn

-- the job of a turn is of a task of the core
pub turn_core : (plan : PlanModel) (pre : List Row) (r : Row) (j : JobId) → IsTurn plan pre r → r.job ≡ Some j → core_of plan j ≡ r.core.0
turn_core plan pre r j h e = on_its_core plan r.core.0 j (h.known j e)

-- the choice of its core names it
pub turn_chosen : (plan : PlanModel) (pre : List Row) (r : Row) (j : JobId) → IsTurn plan pre r → r.job ≡ Some j → choice plan r.core.0 r.tick pre ≡ Some j
turn_chosen plan pre r j h e = sym h.job ∙ e

-- ---- A5: what the queue of the row's resource replies
both_replies : (plan : PlanModel) (pre : List Row) (r : Row) (g : ResId) → IsLegal plan pre r → r.res ≡ Some g → (replies (fifo g.0 pre) r.job r.kind ≡ true) × (counts (fifo g.0 pre) r.ahead ≡ true)
both_replies plan pre r g h e =
    let P : Option ResId → Type 0 = λ o. replies_on pre o r ≡ true in
    and_parts (replies (fifo g.0 pre) r.job r.kind) (counts (fifo g.0 pre) r.ahead) (subst P e h.reply)

-- the reply
pub legal_reply : (plan : PlanModel) (pre : List Row) (r : Row) (g : ResId) → IsLegal plan pre r → r.res ≡ Some g → replies (fifo g.0 pre) r.job r.kind ≡ true
legal_reply plan pre r g h e = (both_replies plan pre r g h e).0

-- the ahead that it carries, if it does, is the number of jobs in that queue
pub legal_count : (plan : PlanModel) (pre : List Row) (r : Row) (g : ResId) → IsLegal plan pre r → r.res ≡ Some g → counts (fifo g.0 pre) r.ahead ≡ true
legal_count plan pre r g h e = (both_replies plan pre r g h e).1
