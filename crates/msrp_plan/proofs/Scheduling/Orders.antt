-- Each order of turns is that of one legal run, and the turns of each legal run are such an order.
use Rattle.msrp_plan.specs.Common.{ℕ, zero, suc, true, List, [], map, length, filter, range_with_len, PlanModel, carries_its_ahead, carries_ahead, log_of, core_order, ascending, IsLegal, IsRun, EachAfter, IsDueCore, IsOrder, IsPlan}
use Rattle.msrp_plan.specs.declared.rows.Row.{Row}
use Rattle.std.proofs.Common.{◌≡◌, ◌+◌, ◌*◌, ◌<◌, ◌≤◌, ◌/◌, ◌&&◌, ◌==◌, ◌∷◌, ◌++◌, refl, ap, sym, ◌∙◌, subst, arith, length-append, append_assoc, append-nil, add-one, mul_comm}
use Rattle.std.specs.List.{count_by}
use Rattle.std.proofs.lemmas.Bool.{and_from}
use Rattle.std.proofs.lemmas.List.{map-append, length-map}
use Rattle.std.proofs.lemmas.List.Folds.{list_all-append}
use Rattle.std.proofs.lemmas.List.Sums.{length-filter}
use Rattle.std.proofs.lemmas.List.Elements.{filter-append}
use Rattle.std.proofs.lemmas.List.FromFn.{length-range_with_len}
use Rattle.std.proofs.lemmas.Nat.{div-mul-add}
use Rattle.msrp_plan.specs.Scheduling.{IsDueInOrder, HasOneRun}
use Rattle.msrp_plan.proofs.Lists.Prefixes.{along, each_along, each_push}
use Rattle.msrp_plan.proofs.Lists.Ranges.{length_filter_map, range_more, flat_more, past_range}
use Rattle.msrp_plan.proofs.Runs.RoundRobin.{ascending_length, ascending_count}
use Rattle.msrp_plan.proofs.Legality.LegalRows.{legal_due}
use Rattle.msrp_plan.proofs.Runs.CoreRuns.{reached_tick, due_by_log}
use Rattle.msrp_plan.proofs.Runs.Determinacy.{same_carrying_runs}
use Rattle.msrp_plan.proofs.Scheduling.NextRow.{next_row}

-- how often a core stands in the order of the turns is how long its log is
pub turns_of : (rows : List Row) (c : ℕ) → count_by (λ d. d == c) (core_order rows) ≡ length (log_of c rows)
turns_of rows c = sym (length-filter (λ d. d == c) (core_order rows)) ∙ length_filter_map (λ (r : Row). r.core.0) (λ d. d == c) rows

-- ---- a legal start in the order of these turns
record IsBuilt (plan : PlanModel) (order : List ℕ) : Type 0 where
  rows : List Row
  turns : core_order rows ≡ order
  legal : EachAfter (IsLegal plan) [] rows
  carries : carries_ahead rows ≡ true

-- there are as many rows as turns
built_length : (plan : PlanModel) (order : List ℕ) → (b : IsBuilt plan order) → length b.rows ≡ length order
built_length plan order b = sym (length-map b.rows (λ (r : Row). r.core.0)) ∙ ap length b.turns

-- a core that is due after the turns is due after their rows
next_due : (plan : PlanModel) (order : List ℕ) (c : ℕ) → (b : IsBuilt plan order) → IsDueInOrder plan order c → IsDueCore plan b.rows c
next_due plan order c b next =
    let log : length (log_of c b.rows) ≡ length b.rows / plan.cores = sym (turns_of b.rows c) ∙ (ap (count_by (λ d. d == c)) b.turns ∙ (next.turns ∙ ap (λ n. n / plan.cores) (sym (built_length plan order b)))) in
    record { core = next.core; once = due_by_log plan b.rows c b.legal next.core log }

-- so the start goes on with its row
built_push : (plan : PlanModel) → IsPlan plan → (order : List ℕ) (c : ℕ) → IsBuilt plan order → IsDueInOrder plan order c → IsBuilt plan (order ++ c ∷ [])
built_push plan ok order c b next =
    let now = next_row plan b.rows c ok b.legal (next_due plan order c b next) in
    record {
      rows = b.rows ++ now.row ∷ [];
      turns = map-append (λ (r : Row). r.core.0) b.rows (now.row ∷ []) ∙ (ap (λ cs. cs ++ now.row.core.0 ∷ []) b.turns ∙ ap (λ d. order ++ d ∷ []) now.core);
      legal = each_push (IsLegal plan) [] b.rows now.row b.legal now.legal;
      carries = list_all-append carries_its_ahead b.rows (now.row ∷ []) ∙ and_from (carries_ahead b.rows) (carries_its_ahead now.row && true) b.carries (and_from (carries_its_ahead now.row) true now.carries refl);
    }

-- each order has one run
pub one_run : (plan : PlanModel) (order : List ℕ) → IsPlan plan → IsOrder plan order → HasOneRun plan order
one_run plan order ok o =
    let b = along (IsBuilt plan) (IsDueInOrder plan) (built_push plan ok) [] order (record { rows = []; turns = refl; legal = tt; carries = refl }) o.each in
    let run : IsRun plan b.rows = record { size = built_length plan order b ∙ o.size; each = b.legal } in
    record { rows = b.rows; turns = b.turns; run = run; carries = b.carries; only = λ other turns its carries. same_carrying_runs plan other b.rows its run (turns ∙ sym b.turns) carries b.carries }

-- ---- the other way round
-- what each element meets over images is met by the images
each_map : {X Y : Type 0} (f : X → Y) (P : List Y → Y → Type 0) (pre xs : List X) → EachAfter (λ ys x. P (map f ys) (f x)) pre xs → EachAfter P (map f pre) (map f xs)
each_map f P pre [] all = tt
each_map f P pre (x ∷ xs) all = (all.0, subst (λ ys. EachAfter P ys (map f xs)) (map-append f pre (x ∷ [])) (each_map f P (pre ++ x ∷ []) xs all.1))

-- a legal row is of a core that is due
row_next : (plan : PlanModel) (pre : List Row) (r : Row) → EachAfter (IsLegal plan) [] pre → IsLegal plan pre r → IsDueInOrder plan (core_order pre) r.core.0
row_next plan pre r all legal =
    let due = legal_due plan pre r legal in
    let same : length (core_order pre) ≡ length pre = length-map pre (λ (w : Row). w.core.0) in
    record { core = due.core; turns = turns_of pre r.core.0 ∙ (sym (reached_tick plan pre r all legal) ∙ (due.tick ∙ ap (λ n. n / plan.cores) (sym same))) }

-- the turns of a run are an order
pub order_of_run : (plan : PlanModel) (rows : List Row) → IsRun plan rows → IsOrder plan (core_order rows)
order_of_run plan rows run = record {
  size = length-map rows (λ (r : Row). r.core.0) ∙ run.size;
  each = each_map (λ (r : Row). r.core.0) (IsDueInOrder plan) [] rows
      (each_along (λ pre. EachAfter (IsLegal plan) [] pre) (IsLegal plan) (λ pre r. IsDueInOrder plan (core_order pre) r.core.0) (λ pre r all legal. each_push (IsLegal plan) [] pre r all legal) (row_next plan) [] rows tt run.each);
}

-- ---- the cores in rising order
-- the first c cores of tick t have had their turns
abbrev rising : PlanModel → ℕ → ℕ → List ℕ
rising plan t c = ascending plan.cores t ++ range_with_len 0 c

rising_length : (plan : PlanModel) (t c : ℕ) → length (rising plan t c) ≡ t * plan.cores + c
rising_length plan t c =
    let a = length-append (ascending plan.cores t) (range_with_len 0 c) in
    let b = ascending_length plan.cores t in
    let d = length-range_with_len 0 c in
    omega (arith, a, b, d)

-- the next one has had a turn in each full tick
rising_turns : (plan : PlanModel) (t c : ℕ) → c < plan.cores → count_by (λ d. d == c) (rising plan t c) ≡ t
rising_turns plan t c l =
    let a = length-filter (λ d. d == c) (rising plan t c) in
    let b = ap length (filter-append (λ d. d == c) (ascending plan.cores t) (range_with_len 0 c)) in
    let e = length-append (filter (λ d. d == c) (ascending plan.cores t)) (filter (λ d. d == c) (range_with_len 0 c)) in
    let none = ap length (past_range c 0 c (omega arith)) in
    let full = ascending_count plan.cores t c l in
    omega (arith, a, b, e, none, full)

rising_next : (plan : PlanModel) (t c : ℕ) → c < plan.cores → IsDueInOrder plan (rising plan t c) c
rising_next plan t c l = record { core = l; turns = rising_turns plan t c l ∙ sym (ap (λ n. n / plan.cores) (rising_length plan t c) ∙ div-mul-add t plan.cores c l) }

-- within a tick
rising_within : (plan : PlanModel) (t c : ℕ) → c ≤ plan.cores → EachAfter (IsDueInOrder plan) [] (ascending plan.cores t) → EachAfter (IsDueInOrder plan) [] (rising plan t c)
rising_within plan t zero l all = subst (EachAfter (IsDueInOrder plan) []) (sym (append-nil (ascending plan.cores t))) all
rising_within plan t (suc c) l all =
    let more : rising plan t c ++ c ∷ [] ≡ rising plan t (c + 1) =
    append_assoc (ascending plan.cores t) (range_with_len 0 c) (c ∷ []) ∙ ap (λ cs. ascending plan.cores t ++ cs) (ap (λ d. range_with_len 0 c ++ d ∷ []) (omega arith) ∙ sym (range_more 0 c)) in
    subst (EachAfter (IsDueInOrder plan) []) (more ∙ ap (rising plan t) (add-one c)) (each_push (IsDueInOrder plan) [] (rising plan t c) c (rising_within plan t c (omega (arith, l)) all) (rising_next plan t c (omega (arith, l))))

-- tick by tick
rising_each : (plan : PlanModel) (t : ℕ) → EachAfter (IsDueInOrder plan) [] (ascending plan.cores t)
rising_each plan zero = tt
rising_each plan (suc t) =
    subst (EachAfter (IsDueInOrder plan) []) (sym (flat_more (λ k. range_with_len 0 plan.cores) t) ∙ ap (ascending plan.cores) (add-one t)) (rising_within plan t plan.cores (omega arith) (rising_each plan t))

-- so they are an order
pub ascending_is_order : (plan : PlanModel) → IsOrder plan (ascending plan.cores plan.ticks)
ascending_is_order plan = record { size = ascending_length plan.cores plan.ticks ∙ mul_comm plan.ticks plan.cores; each = rising_each plan plan.ticks }
