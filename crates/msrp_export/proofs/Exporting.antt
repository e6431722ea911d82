-- What an exporter keeps, with one more row.
use Rattle.std.proofs.Common.{◌≡◌, ◌≢◌, ◌+◌, ◌-◌, ◌*◌, ◌<◌, ◌∷◌, ◌++◌, ◌≤◌, ◌^◌}
use Rattle.msrp_plan.proofs.Common.{ℕ, List, [], sym, subst, arith, length, PlanModel, length-append, take-append-le, take_all}
use Rattle.msrp_plan.specs.declared.rows.Row.{Row}
use Rattle.msrp_export.specs.Signals.{HasTaken, Summarizes, TellTick, rows_before}
use Rattle.msrp_export.specs.declared.exporter.Exporter.{Exporter}
use Rattle.msrp_export.specs.declared.signals.Signals.{Signals}
use Rattle.msrp_export.specs.declared.summary.Summary.{Summary}

more : (tick m : ℕ) → (tick + 1) * m ≡ tick * m + m
more tick m = grind arith

earlier : (tick m : ℕ) → (tick - 1) * m ≤ tick * m
earlier tick m = grind arith

ticks_fit : (tick m : ℕ) → 0 < m → tick ≤ tick * m
ticks_fit tick m some = grind arith

-- all rows are in the ticks up to this one
all_in : (plan : PlanModel) (rows : List Row) (tick : ℕ) → length rows ≤ tick * plan.cores + plan.cores → rows_before plan rows (tick + 1) ≡ rows
all_in plan rows tick few = take_all ((tick + 1) * plan.cores) rows (let next = more tick plan.cores in omega arith)

-- the latest summary is that of all rows
pub all_told : (e : Exporter) (rows : List Row) → HasTaken e rows → Summarizes e.signals.latest rows
all_told e rows h = subst (Summarizes e.signals.latest) (all_in e.signals.plan.now rows e.signals.tick (omega arith)) h.signals.latest

-- one more row of the tick
told : (e : Exporter) (l : Summary) (rows : List Row) (r : Row) → HasTaken e rows → Summarizes l (rows ++ r ∷ []) → TellTick (record e.signals { latest = l }) (rows ++ r ∷ [])
told e l rows r h latest =
    let plan = e.signals.plan.now in
    let tick = e.signals.tick in
    let less = earlier tick plan.cores in
    let longer = length-append rows (r ∷ []) in
    record {
      earlier = subst (Summarizes e.signals.earlier) (sym (take-append-le ((tick - 1) * plan.cores) rows (r ∷ []) (omega arith))) h.signals.earlier;
      before = subst (Summarizes e.signals.before) (sym (take-append-le (tick * plan.cores) rows (r ∷ []) (omega arith))) h.signals.before;
      latest = subst (Summarizes l) (sym (all_in plan (rows ++ r ∷ []) tick (omega arith))) latest;
    }

-- one more row that isn't the last one of the tick
pub went : (e : Exporter) (l : Summary) (n : ℕ) (rows : List Row) (r : Row) → HasTaken e rows → Summarizes l (rows ++ r ∷ []) → n ≡ e.turns + 1 → n ≢ e.signals.plan.now.cores
    → HasTaken (record e { signals = record e.signals { latest = l }; turns = n }) (rows ++ r ∷ [])
went e l n rows r h latest next other =
    let longer = length-append rows (r ∷ []) in
    record {
      plan = h.plan;
      size = omega arith;
      turns = omega arith;
      signals = told e l rows r h latest;
    }

-- the last row of the tick, and the next tick
pub ended : (e : Exporter) (l : Summary) (t : Signals) (rows : List Row) (r : Row) (x : Exporter) → HasTaken e rows → length rows + 1 < 2 ^ 32 → Summarizes l (rows ++ r ∷ []) → e.turns + 1 ≡ e.signals.plan.now.cores
    → (e.signals.tick + 1 < 2 ^ 32 → t ≡ record e.signals { tick = e.signals.tick + 1; earlier = e.signals.before; before = l; latest = l }) → HasTaken (record e { signals = t; turns = 0; text = x.text }) (rows ++ r ∷ [])
ended e l t rows r x h few latest last next =
    let plan = e.signals.plan.now in
    let tick = e.signals.tick in
    let all = rows ++ r ∷ [] in
    let longer = length-append rows (r ∷ []) in
    let least = ticks_fit tick plan.cores (omega arith) in
    let product = more tick plan.cores in
    let full = told e l rows r h latest in
    let before : tick ≡ tick + 1 - 1 = omega arith in
    subst (λ (u : Signals). HasTaken (record e { signals = u; turns = 0; text = x.text }) all) (sym (next (omega arith))) (record {
      plan = h.plan;
      size = omega arith;
      turns = omega arith;
      signals = record {
        earlier = subst (λ n. Summarizes e.signals.before (rows_before plan all n)) before full.before;
        before = full.latest;
        latest = subst (Summarizes l) (sym (all_in plan all (tick + 1) (omega arith))) latest;
      };
    })
