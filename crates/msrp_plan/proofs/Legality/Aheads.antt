-- No rule looks at an ahead of the rows before: what is legal stays legal without aheads.
use Rattle.msrp_plan.specs.Common.{ℕ, Bool, true, false, not, nat_lt, List, [], map, length, Option, Some, None, drop, slice_get, filter, filter_map, PlanModel, units, jobs_on, is_row_of, is_waiting, is_started, is_queued, done, state_after, without_ahead, does_next, does_unit, does_unit_after, fifo, requester, is_release_of, replies, counts, EachAfter, IsLegal, IsRun, IsRunStart, is_in_turn, is_chosen, had_turn, same_choice, replies_on}
use Rattle.msrp_plan.specs.declared.ids.JobId.{JobId}
use Rattle.msrp_plan.specs.declared.ids.ResId.{ResId}
use Rattle.msrp_plan.specs.declared.units.Op.{Op}
use Rattle.msrp_plan.specs.declared.rows.Row.{Row}
use Rattle.std.proofs.Common.{◌≡◌, ◌&&◌, ◌==◌, ◌/◌, ◌∷◌, ◌++◌, ◌≤◌, ◌*◌, refl, ap, sym, ◌∙◌, subst}
use Rattle.std.specs.List.{fold, count_by}
use Rattle.std.proofs.Math.Bool.{and-true}
use Rattle.std.proofs.lemmas.Bool.{and_parts, eqb-true}
use Rattle.std.proofs.lemmas.List.{length-map, map-append}
use Rattle.std.proofs.lemmas.List.Folds.{fold-map}
use Rattle.msrp_plan.proofs.Lists.Filters.{any_map, count_map, gathered_map, filter_map_same, all_of}
use Rattle.msrp_plan.proofs.Legality.LegalRows.{legal_count}
use Rattle.msrp_plan.proofs.Legality.Locality.{choice_same}

-- the rows without their aheads
abbrev pub bare : List Row → List Row
bare rows = map without_ahead rows

-- ---- what rows tell without their aheads
pub started_bare : (pre : List Row) (j : JobId) → is_started (bare pre) j ≡ is_started pre j
started_bare pre j = any_map without_ahead (is_row_of j) pre

pub queued_bare : (pre : List Row) (j : JobId) → is_queued (bare pre) j ≡ is_queued pre j
queued_bare pre j =
    ap (fold (λ _ r. is_waiting r.kind) false) (filter_map_same without_ahead (is_row_of j) (is_row_of j) (λ _. Unit {0}) (λ r _. refl) pre (all_of _ (λ _. tt) pre))
    ∙ fold-map (λ _ r. is_waiting r.kind) without_ahead false (filter (is_row_of j) pre)

pub done_bare : (pre : List Row) (j : JobId) → done j (bare pre) ≡ done j pre
done_bare pre j = count_map without_ahead (λ r. is_row_of j r && not (is_waiting r.kind)) pre

-- how far a job is
pub state_bare : (pre : List Row) (j : JobId) → state_after (bare pre) j ≡ state_after pre j
state_bare pre j =
    let a = started_bare pre j in
    let b = queued_bare pre j in
    let d = done_bare pre j in
    cc

-- the queue of a resource
pub fifo_bare : (g : ℕ) (pre : List Row) → fifo g (bare pre) ≡ fifo g pre
fifo_bare g pre =
    ap (λ n. drop n (filter_map (requester g) (bare pre))) (count_map without_ahead (is_release_of g) pre)
    ∙ ap (drop (count_by (is_release_of g) pre)) (gathered_map without_ahead (requester g) pre)

-- ---- each rule judges a row alike, before and after
turn_bare : (plan : PlanModel) (pre : List Row) (r : Row) → is_in_turn plan (bare pre) r ≡ is_in_turn plan pre r
turn_bare plan pre r =
    ap (λ n. (r.tick == n / plan.cores) && (nat_lt r.core.0 plan.cores && not (had_turn r.core.0 r.tick (bare pre)))) (length-map pre without_ahead)
    ∙ ap (λ b. (r.tick == length pre / plan.cores) && (nat_lt r.core.0 plan.cores && not b)) (any_map without_ahead (λ s. (s.tick == r.tick) && (s.core.0 == r.core.0)) pre)

chosen_bare : (plan : PlanModel) (pre : List Row) (r : Row) → is_chosen plan (bare pre) r ≡ is_chosen plan pre r
chosen_bare plan pre r = ap (same_choice r.job) (choice_same plan r.core.0 r.tick (bare pre) pre (all_of _ (state_bare pre) (jobs_on plan r.core.0)))

unit_bare : (plan : PlanModel) (queued : Bool) (r : Row) (o : Option Op) → does_unit plan queued (without_ahead r) o ≡ does_unit plan queued r o
unit_bare plan queued r None = refl
unit_bare plan queued r (Some u) = refl

action_bare : (plan : PlanModel) (pre : List Row) (o : Option JobId) (r : Row) → does_next plan (bare pre) o (without_ahead r) ≡ does_next plan pre o r
action_bare plan pre None r = refl
action_bare plan pre (Some j) r =
    ap (λ n. does_unit_after plan j (is_queued (bare pre) j) n (without_ahead r)) (done_bare pre j)
    ∙ (ap (λ b. does_unit_after plan j b (done j pre) (without_ahead r)) (queued_bare pre j)
    ∙ unit_bare plan (is_queued pre j) r (slice_get (units plan j) (done j pre)))

-- a row whose own ahead is left out has its queue's reply all the same
reply_bare : (pre : List Row) (o : Option ResId) (r : Row) → replies_on pre o r ≡ true → replies_on (bare pre) o (without_ahead r) ≡ true
reply_bare pre None r h = refl
reply_bare pre (Some g) r h =
    and-true (replies (fifo g.0 (bare pre)) r.job r.kind)
    ∙ (ap (λ q. replies q r.job r.kind) (fifo_bare g.0 pre) ∙ (and_parts (replies (fifo g.0 pre) r.job r.kind) (counts (fifo g.0 pre) r.ahead) h).0)

-- so a legal row is legal without any ahead
pub legal_bare : (plan : PlanModel) (pre : List Row) (r : Row) → IsLegal plan pre r → IsLegal plan (bare pre) (without_ahead r)
legal_bare plan pre r h = record {
  turn = turn_bare plan pre r ∙ h.turn;
  own = h.own;
  chosen = chosen_bare plan pre r ∙ h.chosen;
  action = action_bare plan pre r.job r ∙ h.action;
  reply = reply_bare pre r.res r h.reply;
}

-- ---- runs
pub each_bare : (plan : PlanModel) (pre rows : List Row) → EachAfter (IsLegal plan) pre rows → EachAfter (IsLegal plan) (bare pre) (bare rows)
each_bare plan pre [] h = tt
each_bare plan pre (r ∷ rows) h =
    (legal_bare plan pre r h.0, subst (λ l. EachAfter (IsLegal plan) l (bare rows)) (map-append without_ahead pre (r ∷ [])) (each_bare plan (pre ++ r ∷ []) rows h.1))

pub start_bare : (plan : PlanModel) (rows : List Row) → IsRunStart plan rows → IsRunStart plan (bare rows)
start_bare plan rows h = record {
  size = subst (λ n. n ≤ plan.cores * plan.ticks) (sym (length-map rows without_ahead)) h.size;
  each = each_bare plan [] rows h.each;
}

pub run_bare : (plan : PlanModel) (rows : List Row) → IsRun plan rows → IsRun plan (bare rows)
run_bare plan rows h = record { size = length-map rows without_ahead ∙ h.size; each = each_bare plan [] rows h.each }

-- ---- what an ahead says
-- the number of jobs in the queue of its resource
pub ahead_is : (plan : PlanModel) (pre : List Row) (r : Row) (g : ResId) (n : ℕ) → IsLegal plan pre r → r.res ≡ Some g → r.ahead ≡ Some n → n ≡ length (fifo g.0 pre)
ahead_is plan pre r g n h e a =
    let P : Option ℕ → Type 0 = λ o. counts (fifo g.0 pre) o ≡ true in
    eqb-true n (length (fifo g.0 pre)) (subst P a (legal_count plan pre r g h e))
