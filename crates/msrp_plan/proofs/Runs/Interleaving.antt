-- The runs of the cores, put together tick by tick in whatever order of the cores, are a legal run
-- where the queues reply so.
use Rattle.msrp_plan.specs.Common.{ℕ, true, cond, List, [], length, AllByRecursion, PlanModel, EachAfter, IsLegal, IsRun, IsCoreTurn, CoreRun, is_fifo_reply, is_of, log_of}
use Rattle.msrp_plan.specs.declared.rows.Row.{Row}
use Rattle.std.proofs.Common.{◌≡◌, ◌*◌, ◌/◌, ◌<◌, ◌∷◌, ◌++◌, refl, ap, sym, ◌∙◌, subst, eq-eqb, append_assoc}
use Rattle.std.proofs.lemmas.List.Elements.{filter-append}
use Rattle.msrp_plan.specs.Logs.{IsNextTurn, AreInterleaved}
use Rattle.msrp_plan.proofs.Lists.Prefixes.{each_at, each_push}
use Rattle.msrp_plan.proofs.Runs.RoundRobin.{due_rows_legal}
use Rattle.msrp_plan.proofs.Lists.AnyAll.{all_mid}

-- a row of the core stands between the parts of its log
log_around : (c : ℕ) (pre : List Row) (r : Row) (post : List Row) → r.core.0 ≡ c → log_of c (pre ++ r ∷ post) ≡ log_of c pre ++ r ∷ log_of c post
log_around c pre r post at = filter-append (is_of c) pre (r ∷ post) ∙ ap (λ b. log_of c pre ++ cond b (r ∷ log_of c post) (log_of c post)) (eq-eqb r.core.0 c at)

-- each row is the next one of its core after the core's log
turn_at : (plan : PlanModel) (rows : List Row) → AreInterleaved plan rows → (pre : List Row) (r : Row) (post : List Row) → rows ≡ pre ++ r ∷ post → r.core.0 < plan.cores → IsCoreTurn plan r.core.0 (log_of r.core.0 pre) r
turn_at plan rows h pre r post e low =
    let run : CoreRun plan r.core.0 (log_of r.core.0 pre ++ r ∷ log_of r.core.0 post) = subst (CoreRun plan r.core.0) (ap (log_of r.core.0) e ∙ log_around r.core.0 pre r post refl) (h.runs r.core.0 low) in
    each_at (IsCoreTurn plan r.core.0) [] (log_of r.core.0 pre) r (log_of r.core.0 post) run

-- each row replies as the queue of its resource, where it is the next one of its core and the rows
-- before it are legal
abbrev pub AreAnswered : PlanModel → List Row → Type 0
AreAnswered plan rows = (pre : List Row) (r : Row) (post : List Row) → rows ≡ pre ++ r ∷ post → EachAfter (IsLegal plan) [] pre → IsCoreTurn plan r.core.0 (log_of r.core.0 pre) r → is_fifo_reply pre r ≡ true

-- each of them is then the next row of a due core
due_at : (plan : PlanModel) (rows : List Row) → AreInterleaved plan rows → AreAnswered plan rows → (pre : List Row) (r : Row) (post : List Row) → rows ≡ pre ++ r ∷ post → EachAfter (IsNextTurn plan) [] pre → IsNextTurn plan pre r
due_at plan rows h answered pre r post e dues =
    let low : r.core.0 < plan.cores = all_mid (λ r. r.core.0 < plan.cores) pre r post (subst (AllByRecursion (λ r. r.core.0 < plan.cores)) e h.cores) in
    let turn = turn_at plan rows h pre r post e low in
    let tick : r.tick ≡ length pre / plan.cores = each_at (λ pre r. r.tick ≡ length pre / plan.cores) [] pre r post (subst (EachAfter (λ pre r. r.tick ≡ length pre / plan.cores) []) e h.ticks) in
    record { core = low; due = sym turn.tick ∙ tick; turn = turn; reply = answered pre r post e (due_rows_legal plan pre dues) turn }

dues_from : (plan : PlanModel) (rows : List Row) → AreInterleaved plan rows → AreAnswered plan rows → (pre rest : List Row) → rows ≡ pre ++ rest → EachAfter (IsNextTurn plan) [] pre → EachAfter (IsNextTurn plan) pre rest
dues_from plan rows h answered pre [] e dues = tt
dues_from plan rows h answered pre (r ∷ rest) e dues =
    let due = due_at plan rows h answered pre r rest e dues in
    (due, dues_from plan rows h answered (pre ++ r ∷ []) rest (e ∙ sym (append_assoc pre (r ∷ []) rest)) (each_push (IsNextTurn plan) [] pre r dues due))

-- such rows are legal
pub interleaved_legal : (plan : PlanModel) (rows : List Row) → AreInterleaved plan rows → AreAnswered plan rows → EachAfter (IsLegal plan) [] rows
interleaved_legal plan rows h answered = due_rows_legal plan rows (dues_from plan rows h answered [] rows refl tt)

-- and where each core has had each of its turns they are a run
pub interleaved_run : (plan : PlanModel) (rows : List Row) → AreInterleaved plan rows → AreAnswered plan rows → length rows ≡ plan.cores * plan.ticks → IsRun plan rows
interleaved_run plan rows h answered size = record { size = size; each = interleaved_legal plan rows h answered }
