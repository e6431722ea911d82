-- The next turn of a simulation: its core is due, and what the cores promise of it goes on the run.
use Rattle.std.proofs.Common.{◌≡◌, ◌+◌, ◌*◌, ◌/◌, ◌<◌, ◌&&◌, ◌∷◌, ◌++◌, ◌∙◌}
use Rattle.msrp_plan.proofs.Common.{ℕ, true, Some, IfSome, Option, None, List, [], ap, sym, subst, arith, length, get_or, take, slice_get, refl, take-length, and_from, length-take-le, map-append, length-map, list_all-append, PlanModel, carries_its_ahead, carries_ahead, log_of, IsRunStart, IsDueInOrder, IsOrder}
use Rattle.msrp_plan.specs.declared.rows.Row.{Row}
use Rattle.msrp_plan.specs.Logs.{core_order}
use Rattle.msrp_plan.proofs.Runs.CoreRuns.{due_by_log}
use Rattle.msrp_plan.proofs.Scheduling.Orders.{turns_of}
use Rattle.msrp_core.specs.Machine.{MachineModel}
use Rattle.msrp_sim.specs.Cores.{CoresModel, IsDueInRun, IsAs, MakesNext, StandOn}
use Rattle.msrp_sim.specs.SimView.{sim_view}
use Rattle.msrp_sim.specs.Simulated.{SimModel, HasMade, IsRunIn}
use Rattle.msrp_sim.specs.declared.simulation.Simulation.TheInside.{Inside}
use Rattle.msrp_sim.proofs.Given.{next_in, take_more}
use Rattle.msrp_sim.proofs.Rounds.{before_last}

-- a row is as itself
told : (o : Option ℕ) → IfSome o (λ n. o ≡ Some n)
told None = tt
told (Some n) = refl

as_itself : (r : Row) → IsAs r r
as_itself r = record { core = refl; kind = refl; job = refl; res = refl; ahead = told r.ahead }

-- ---- turns are left, as the fields of a simulation tell
pub turns_left : (s : Inside) (now : SimModel) → sim_view s ≡ now → now.turn < now.plan.cores * now.plan.ticks → (sim_view s).turn < s.plan.now.cores * s.plan.now.ticks
turns_left s now is = subst (λ (x : SimModel). x.turn < x.plan.cores * x.plan.ticks) (sym is)

-- ---- the core that has it
module _ (s : SimModel) (rows : List Row) (c : ℕ) (order : IsOrder s.plan s.order) (l : s.turn < s.plan.cores * s.plan.ticks) (at : c ≡ get_or s.order s.turn 0) (made : HasMade s rows) where
  within : s.turn < length s.order
  within = let e = order.size in omega (arith, e, l)

  next_core : IsDueInOrder s.plan (core_order rows) c
  next_core = subst (λ k. IsDueInOrder s.plan (core_order rows) k) (sym at) (subst (λ p. IsDueInOrder s.plan p (get_or s.order s.turn 0)) (sym made.order) (next_in s.plan s.order s.turn order within))

  made_length : length (core_order rows) ≡ s.turn
  made_length = ap length made.order ∙ length-take-le s.turn s.order (let w = within in omega (arith, w))

  rows_length : length rows ≡ s.turn
  rows_length = sym (length-map rows (λ (r : Row). r.core.0)) ∙ made_length

  turns_due : length (log_of c rows) ≡ length rows / s.plan.cores
  turns_due = sym (turns_of rows c) ∙ (next_core.turns ∙ ap (λ n. n / s.plan.cores) (length-map rows (λ (r : Row). r.core.0)))

  pub low_core : c < s.cores.plan.cores
  low_core = subst (λ (p : PlanModel). c < p.cores) (sym made.plan) next_core.core

  -- it is due
  pub is_due : IsDueInRun s.cores.plan rows c
  is_due = record {
    turn = record { core = low_core; once = due_by_log s.cores.plan rows c made.stands.start.each low_core (turns_due ∙ ap (λ (p : PlanModel). length rows / p.cores) (sym made.plan)) };
    left = subst (λ (p : PlanModel). length rows < p.cores * p.ticks) (sym made.plan) (let e = rows_length in omega (arith, e, l));
  }

  -- a tick is left to it
  pub tick_left : (x : MachineModel) → slice_get s.cores.machines c ≡ Some x → x.tick < s.cores.plan.ticks
  tick_left x has =
      let a = (made.stands.logs c x has).tick in
      let b : length (log_of c rows) ≡ s.turn / s.plan.cores = turns_due ∙ ap (λ n. n / s.plan.cores) rows_length in
      let d = before_last s.plan.cores s.plan.ticks s.turn l in
      subst (λ (p : PlanModel). x.tick < p.ticks) (sym made.plan) (omega (arith, a, b, d))

  -- and its row goes on the run
  pub made_turn : (after : CoresModel) (r : Row) (n : ℕ) → n ≡ s.turn + 1 → after.plan ≡ s.cores.plan
      → MakesNext s.cores c r → StandOn s.cores after c r
      → HasMade (record { plan = s.plan; order = s.order; turn = n; cores = after }) (rows ++ r ∷ [])
  made_turn after r n next plan is stands =
      let row = is rows made.stands is_due in
      record {
        order = map-append (λ (w : Row). w.core.0) rows (r ∷ [])
            ∙ (ap (λ l. l ++ r.core.0 ∷ []) made.order ∙ (ap (λ k. take s.turn s.order ++ k ∷ []) (row.core ∙ at) ∙ (sym (take_more s.order s.turn within) ∙ ap (λ k. take k s.order) (sym next))));
        plan = plan ∙ made.plan;
        stands = stands rows r made.stands is_due (as_itself r) row.legal;
        carries = list_all-append carries_its_ahead rows (r ∷ []) ∙ and_from (carries_ahead rows) (carries_its_ahead r && true) made.carries (and_from (carries_its_ahead r) true row.carries refl);
      }

-- ---- after the last turn
made_all : (s : SimModel) (rows : List Row) → IsOrder s.plan s.order → s.turn ≡ s.plan.cores * s.plan.ticks → HasMade s rows → IsRunIn s.plan s.order rows
made_all s rows order last made =
    let whole : core_order rows ≡ s.order = made.order ∙ (ap (λ n. take n s.order) (last ∙ sym order.size) ∙ take-length s.order) in
    let start : IsRunStart s.plan rows = subst (λ p. IsRunStart p rows) made.plan made.stands.start in
    record {
      run = record { size = sym (length-map rows (λ (r : Row). r.core.0)) ∙ (ap length whole ∙ order.size); each = start.each };
      turns = whole;
      carries = made.carries;
    }

-- so it is a run of the plan in the order
pub run_in : (plan : PlanModel) (order : List ℕ) (s : SimModel) (rows : List Row) → IsOrder plan order → s.plan ≡ plan → s.order ≡ order → s.turn ≡ plan.cores * plan.ticks → HasMade s rows → IsRunIn plan order rows
run_in plan order s rows o p q last made =
    let whole : IsRunIn s.plan s.order rows = made_all s rows (subst (λ k. IsOrder s.plan k) (sym q) (subst (λ k. IsOrder k order) (sym p) o)) (last ∙ ap (λ (k : PlanModel). k.cores * k.ticks) (sym p)) made in
    subst (λ k. IsRunIn plan k rows) q (subst (λ k. IsRunIn k s.order rows) p whole)
