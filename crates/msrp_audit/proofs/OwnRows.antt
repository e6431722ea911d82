-- The piece of a core goes over the rows: those of the core, and the others.
use Rattle.std.proofs.Common.{◌≡◌, ◌≢◌, ◌+◌, ◌<◌, ◌&&◌, ◌∷◌, ◌++◌, ◌∙◌}
use Rattle.msrp_plan.proofs.Common.{ℕ, Bool, true, false, cond, List, [], Option, Some, None, refl, ap, sym, subst, length, take, get_or, eq-eqb, true≢false, PlanModel, log_of, IsRunStart, is_in_turn, not_equal, log_other, start_before}
use Rattle.msrp_plan.specs.declared.ids.CoreId.{CoreId}
use Rattle.msrp_plan.specs.declared.faults.Rule.{Rule}
use Rattle.msrp_plan.specs.declared.rows.Row.{Row}
use Rattle.msrp_core.specs.Machine.{MachineModel, StandsAfter}
use Rattle.msrp_audit.specs.Inside.Pieces.{broken_action, broken_on_core, TellsFirst}
use Rattle.msrp_audit.specs.declared.pieces.Piece.TheVariants.{Core}
use Rattle.msrp_audit.proofs.Scanning.{PassesTo, one_more, passes_more, ends_at, finds_at}
use Rattle.msrp_audit.proofs.Merging.{sound}

module _ (plan : PlanModel) (core : CoreId) (rows : List Row) (i : ℕ) (x : Row) (within : i < length rows) (at : x ≡ get_or rows i x) (passes : PassesTo plan (broken_on_core plan core.0) rows i) where
  by_turn : (b : Bool) (o : Option Rule) → x.core.0 ≡ core.0 → is_in_turn plan (take i rows) x ≡ b → broken_action plan (take i rows) x ≡ o → broken_on_core plan core.0 (take i rows) x ≡ cond b o None
  by_turn b o own turn action =
      ap (λ c. cond (c && is_in_turn plan (take i rows) x) (broken_action plan (take i rows) x) None) (eq-eqb x.core.0 core.0 own)
      ∙ (ap (λ t. cond t (broken_action plan (take i rows) x) None) turn ∙ ap (λ r. cond b r None) action)

  -- a row that is not in its turn
  pub ends_here : x.core.0 ≡ core.0 → (IsRunStart plan (take i rows) → false ≡ is_in_turn plan (take i rows) x) → TellsFirst plan (broken_on_core plan core.0) rows None
  ends_here own late = ends_at plan (broken_on_core plan core.0) rows i x passes at (λ start. by_turn false (broken_action plan (take i rows) x) own (sym (late start)) refl) (λ start legal. true≢false (sym legal.turn ∙ sym (late start)))

  -- one that breaks a rule
  pub breaks_here : (rule : Rule) → x.core.0 ≡ core.0 → (IsRunStart plan (take i rows) → is_in_turn plan (take i rows) x ≡ true) → (IsRunStart plan (take i rows) → broken_action plan (take i rows) x ≡ Some rule) → TellsFirst plan (broken_on_core plan core.0) rows (Some (record { row = i + 1; rule = rule }))
  breaks_here rule own turn action = finds_at plan (broken_on_core plan core.0) rows i x rule (sound plan (Core core)) within passes at (λ start. by_turn true (Some rule) own (turn start) (action start))

  -- one that breaks none
  pub passes_here : x.core.0 ≡ core.0 → (IsRunStart plan (take i rows) → is_in_turn plan (take i rows) x ≡ true) → (IsRunStart plan (take i rows) → broken_action plan (take i rows) x ≡ None) → PassesTo plan (broken_on_core plan core.0) rows (i + 1)
  passes_here own turn action = passes_more plan (broken_on_core plan core.0) rows i x passes at (λ start. by_turn true None own (turn start) (action start))

  start_here : IsRunStart plan (take (i + 1) rows) → IsRunStart plan (take i rows)
  start_here start = start_before plan (take i rows) (x ∷ []) (subst (IsRunStart plan) (one_more rows i x within at) start)

  pub stands_here : (m : MachineModel) → (IsRunStart plan (take i rows) → StandsAfter m (log_of core.0 (take i rows ++ x ∷ []))) → IsRunStart plan (take (i + 1) rows) → StandsAfter m (log_of core.0 (take (i + 1) rows))
  stands_here m stands start = subst (λ l. StandsAfter m (log_of core.0 l)) (sym (one_more rows i x within at)) (stands (start_here start))

  -- and a row of another core
  pub passes_by : x.core.0 ≢ core.0 → PassesTo plan (broken_on_core plan core.0) rows (i + 1)
  passes_by ne = passes_more plan (broken_on_core plan core.0) rows i x passes at (λ start. ap (λ c. cond (c && is_in_turn plan (take i rows) x) (broken_action plan (take i rows) x) None) (not_equal x.core.0 core.0 ne))

  pub stands_by : (m : MachineModel) → x.core.0 ≢ core.0 → (IsRunStart plan (take i rows) → StandsAfter m (log_of core.0 (take i rows))) → IsRunStart plan (take (i + 1) rows) → StandsAfter m (log_of core.0 (take (i + 1) rows))
  stands_by m ne stands start = stands_here m (λ before. subst (StandsAfter m) (sym (log_other (take i rows) x core.0 ne)) (stands before)) start
