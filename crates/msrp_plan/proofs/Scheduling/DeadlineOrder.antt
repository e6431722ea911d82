-- Earliest deadline first: whoever starts is the head, above the ceiling and before whoever runs;
-- whoever goes on runs, and a head before it isn't above the ceiling.
use Rattle.msrp_plan.specs.Common.{ℕ, Bool, true, false, cond, List, [], Option, Some, None, nat_lt, PlanModel, jobs_on, is_started, level, ceiling, is_before, head, running, chosen, choice, IsLegal, IsRunStart}
use Rattle.msrp_plan.specs.declared.ids.JobId.{JobId}
use Rattle.msrp_plan.specs.declared.rows.Row.{Row}
use Rattle.std.proofs.Common.{◌≡◌, ◌≢◌, ◌≤◌, ◌&&◌, refl, ap, sym, ◌∙◌, subst, inl, inr}
use Rattle.std.proofs.Math.Bool.{true≢false}
use Rattle.std.proofs.lemmas.Bool.{ltb-false, true_from_ne_false}
use Rattle.msrp_plan.specs.Scheduling.{IsReady, IsHead, IsActive, MayStart, MayGoOn, IsOfFirst, EarliestDeadlineFirst}
use Rattle.msrp_plan.proofs.Jobs.JobTests.{some_is}
use Rattle.msrp_plan.proofs.Lists.Prefixes.{each_weaker}
use Rattle.msrp_plan.proofs.Jobs.Keys.{tied}
use Rattle.msrp_plan.proofs.Lists.LeastKept.{least_some, least_in}
use Rattle.msrp_plan.proofs.Choosing.Live.{is_live, live}
use Rattle.msrp_plan.proofs.Choosing.Turns.{has_turn, runs_live, runs_least, turn_least}
use Rattle.msrp_plan.proofs.Legality.LegalRows.{legal_turn, turn_chosen}
use Rattle.msrp_plan.proofs.Blocking.Sound.{is_ready, ready, head_ready, head_least}

-- of two jobs that differ one comes first
other_before : (plan : PlanModel) (x j : JobId) → j ≢ x → is_before plan j x ≡ false → is_before plan x j ≡ true
other_before plan x j other b = true_from_ne_false (is_before plan x j) (λ e. other (tied plan j x b e))

-- ---- whoever starts
open_live : (plan : PlanModel) (pre : List Row) (r : Row) (j : JobId) → IsActive plan pre r j → is_live plan pre j ≡ true
open_live plan pre r j o = live plan pre j o.started o.unfinished

-- comes before whoever is active
preempts : (plan : PlanModel) (pre : List Row) (r : Row) (x j : JobId) → is_started pre x ≡ false → choice plan r.core.0 r.tick pre ≡ Some x → IsActive plan pre r j → is_before plan x j ≡ true
preempts plan pre r x j fresh turn o =
    other_before plan x j (λ e. true≢false (sym o.started ∙ subst (λ y. is_started pre y ≡ false) (sym e) fresh)) (turn_least plan r.core.0 r.tick pre x j turn o.on (open_live plan pre r j o))

may_start : (plan : PlanModel) (pre : List Row) (r : Row) (x : JobId) → choice plan r.core.0 r.tick pre ≡ Some x → is_started pre x ≡ false → MayStart plan pre r x
may_start plan pre r x turn fresh =
    elim (has_turn plan r.core.0 r.tick pre x turn) [
      | inl new ↦ record {
        first = λ j rj other. other_before plan x j other (head_least plan r.core.0 r.tick pre x j new.first rj.on rj.released rj.unstarted);
        preempts = λ j o. preempts plan pre r x j fresh turn o;
        above = new.above;
      }
      | inr runs ↦ absurd (true≢false (sym (runs_live plan r.core.0 pre x runs).0 ∙ fresh))
    ]

-- ---- whoever goes on
-- a head that is before whoever runs and has the turn isn't above the ceiling
blocked_go : (plan : PlanModel) (n : ℕ) (h x : JobId) (b : Bool) → nat_lt n (level plan h.task.0) ≡ b → h ≢ x → is_before plan h x ≡ true → chosen plan n (Some h) (Some x) ≡ Some x → level plan h.task.0 ≤ n
blocked_go plan n h x true e other b c =
    let both : (nat_lt n (level plan h.task.0) && is_before plan h x) ≡ true = ap (λ v. v && is_before plan h x) e ∙ b in
    absurd (other (some_is h x (sym (ap (λ v. cond v (Some h) (Some x)) both) ∙ c)))
blocked_go plan n h x false e other b c = ltb-false n (level plan h.task.0) e

-- the first of those that are ready is the head
first_is_head : (plan : PlanModel) (pre : List Row) (r : Row) (h : JobId) (o : Option JobId) → head plan r.core.0 r.tick pre ≡ o → IsHead plan pre r h → o ≡ Some h
first_is_head plan pre r h None e is = absurd (least_some (is_before plan) (is_ready plan r.tick pre) (jobs_on plan r.core.0) h e is.ready.on (ready plan r.tick pre h is.ready.released is.ready.unstarted))
first_is_head plan pre r h (Some g) e is =
    let both = head_ready plan r.core.0 r.tick pre g e in
    let rg : IsReady plan pre r g = record { on = least_in (is_before plan) (is_ready plan r.tick pre) (jobs_on plan r.core.0) g e; released = both.0; unstarted = both.1 } in
    ap (λ j. Some j) (tied plan g h (is.first g rg) (head_least plan r.core.0 r.tick pre g h e is.ready.on is.ready.released is.ready.unstarted))

blocked_head : (plan : PlanModel) (pre : List Row) (r : Row) (x h : JobId) → choice plan r.core.0 r.tick pre ≡ Some x → running plan r.core.0 pre ≡ Some x → is_started pre x ≡ true → IsHead plan pre r h → is_before plan h x ≡ true → level plan h.task.0 ≤ ceiling plan r.core.0 pre
blocked_head plan pre r x h turn runs started first b =
    let above = ceiling plan r.core.0 pre in
    let is = first_is_head plan pre r h (head plan r.core.0 r.tick pre) refl first in
    let has : chosen plan (ceiling plan r.core.0 pre) (Some h) (Some x) ≡ Some x = sym (ap (λ o. chosen plan (ceiling plan r.core.0 pre) o (running plan r.core.0 pre)) is ∙ ap (chosen plan (ceiling plan r.core.0 pre) (Some h)) runs) ∙ turn in
    blocked_go plan above h x (nat_lt above (level plan h.task.0)) refl (λ e. true≢false (sym started ∙ subst (λ y. is_started pre y ≡ false) e first.ready.unstarted)) b has

may_go_on : (plan : PlanModel) (pre : List Row) (r : Row) (x : JobId) → choice plan r.core.0 r.tick pre ≡ Some x → is_started pre x ≡ true → MayGoOn plan pre r x
may_go_on plan pre r x turn started =
    elim (has_turn plan r.core.0 r.tick pre x turn) [
      | inl new ↦ absurd (true≢false (sym started ∙ (head_ready plan r.core.0 r.tick pre x new.first).1))
      | inr runs ↦ record {
        first = λ j o. runs_least plan r.core.0 pre x j runs o.on (open_live plan pre r j o);
        blocked = λ h first b. blocked_head plan pre r x h turn runs started first b;
      }
    ]

-- ---- over a whole start
of_first : (plan : PlanModel) (pre : List Row) (r : Row) → IsLegal plan pre r → IsOfFirst plan pre r
of_first plan pre r legal = λ x job. let turn = turn_chosen plan pre r x (legal_turn plan pre r legal) job in (may_start plan pre r x turn, may_go_on plan pre r x turn)

pub earliest_deadline_first : (plan : PlanModel) (rows : List Row) → IsRunStart plan rows → EarliestDeadlineFirst plan rows
earliest_deadline_first plan rows run = each_weaker (IsLegal plan) (IsOfFirst plan) (of_first plan) [] rows run.each
