-- The newest row of a simulation names what the plan has; the text of one row more.
use Rattle.std.proofs.Common.{◌≡◌, ◌∷◌, ◌++◌, ◌∙◌}
use Rattle.msrp_plan.proofs.Common.{true, List, [], ap, sym, subst, append-nil, PlanModel, IsPlan, IsLegal, IsRun, IsRunStart, legal_turn, each_at}
use Rattle.msrp_plan.specs.declared.rows.Row.{Row}
use Rattle.msrp_plan.specs.declared.rows.TextVersion.{TextVersion}
use Rattle.msrp_sim.specs.Simulated.{SimModel, HasMade}
use Rattle.msrp_trace.specs.TraceText.{is_named, row_text, trace_text}
use Rattle.msrp_trace.proofs.NamedRows.{turn_named}
use Rattle.msrp_trace.proofs.Records.{trace-more}

-- the newest row of a simulation
pub made_named : (s : SimModel) (rows : List Row) (r : Row) → IsPlan s.plan → HasMade s (rows ++ r ∷ []) → is_named s.plan r ≡ true
made_named s rows r ok made =
    let start : IsRunStart s.plan (rows ++ r ∷ []) = subst (λ p. IsRunStart p (rows ++ r ∷ [])) made.plan made.stands.start in
    turn_named s.plan rows r ok (legal_turn s.plan rows r (each_at (IsLegal s.plan) [] rows r [] start.each))

-- a row of a run
pub run_row_named : (plan : PlanModel) (rows rest : List Row) (r : Row) → IsPlan plan → IsRun plan (rows ++ r ∷ rest) → is_named plan r ≡ true
run_row_named plan rows rest r ok run = turn_named plan rows r ok (legal_turn plan rows r (each_at (IsLegal plan) [] rows r rest run.each))

-- the text of one row more
pub row_more : (version : TextVersion) (plan : PlanModel) (rows : List Row) (r : Row) → trace_text version plan rows ++ row_text version plan r ≡ trace_text version plan (rows ++ r ∷ [])
row_more version plan rows r = ap (λ t. trace_text version plan rows ++ t) (sym (append-nil (row_text version plan r))) ∙ trace-more version plan rows (r ∷ [])
