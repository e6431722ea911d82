-- The words on the fault that an auditor found.
use Rattle.std.proofs.Common.{◌≡◌, ◌∙◌, ◌+◌}
use Rattle.msrp_plan.proofs.Common.{ℕ, true, List, Option, Some, None, Ok, Err, IfOk, IfErr, Result, ap, sym, subst, refl, inl, inr, map, filter_map, option_and_then, slice_get, PlanModel, fault_in}
use Rattle.msrp_plan.specs.declared.rows.Row.{Row}
use Rattle.std.specs.List.{prefix_len, take_while}
use Rattle.std.specs.Result.{is_ok, result_ok}
use Rattle.msrp_engine.specs.Answered.{OrUnread}
use Rattle.msrp_engine.specs.Findings.{found_first}
use Rattle.msrp_text.specs.declared.reading.TextError.{TextError}
use Rattle.msrp_trace.specs.declared.faults.TraceFault.{TraceFault}
use Rattle.msrp_plan.specs.declared.faults.Fault.{Fault}
use Rattle.msrp_faults.specs.declared.faults.CliFault.{CliFault}
use Rattle.msrp_faults.specs.declared.faults.CliFault.TheVariants.{Memory}
use Rattle.msrp_view_engine.specs.Answers.{AreOnTrace, BeginsWith}
use Rattle.msrp_view_engine.specs.declared.words.Words.{Words}
use Rattle.msrp_c.specs.Feeding.{Finding}
use Rattle.msrp_c.specs.Answers.{unfailed}
use Rattle.msrp_c.specs.Turns.{finding_in, refusal_at, row_of, told_in}
use Rattle.msrp_c.specs.Whys.{AreReasons, AreReasonsFor, AreReasonsOf, refusal_in}
use Rattle.msrp_c.specs.declared.turns.MsrpRow.{MsrpRow}

pub on-row : (found : Finding) (f g : Fault) (words : Result Words CliFault) → found ≡ Ok (Err f) → g ≡ f → IfOk words (λ w. w.found ≡ Ok (Err g)) → IfOk words AreOnTrace → IfErr words (λ e. e ≡ Memory) → AreReasons found words
on-row found f g (Ok w) is same told on memory =
    let w-is : w.found ≡ Ok (Err f) = told ∙ ap (λ x. Ok (Err x)) same in
    (w-is ∙ sym is, subst (λ x. AreReasonsFor x w.text.items) (sym is) (subst (λ x. BeginsWith x w.text.items) w-is on.begins))
on-row found f g (Err e) is same told on memory = memory

-- ---- of rows that are numbers
kept-first : (fault : Option Fault) (number : ℕ) (row : Option (Result Row TraceFault)) → found_first fault (option_and_then (refusal_at number) row) None ≡ unfailed (found_first fault (option_and_then (refusal_at number) row) None)
kept-first (Some fault) number row = refl
kept-first None number None = refl
kept-first None number (Some (Ok r)) = refl
kept-first None number (Some (Err fault)) = refl

kept-told : (plan : PlanModel) (turns : List (Result Row TraceFault)) → finding_in true plan (told_in turns) ≡ unfailed (finding_in true plan (told_in turns))
unfolding told_in
kept-told plan turns = kept-first (fault_in plan (filter_map result_ok (take_while is_ok turns))) (prefix_len is_ok turns + 1) (slice_get turns (prefix_len is_ok turns))

-- what is found in rows is no read or write that failed
pub reasons-unfailed : (read : Result PlanModel TextError) (turns : List MsrpRow) (words : Result Words CliFault) → OrUnread words (AreReasonsOf read turns words) → refusal_in (unfailed words) ≡ unfailed (refusal_in words)
reasons-unfailed read turns (Err fault) are = refl
reasons-unfailed (Ok plan) turns (Ok words) are = elim are [
  | inl read ↦ absurd (cc)
  | inr rest ↦ elim rest [
    | inl memory ↦ absurd (cc)
    | inr reasons ↦ subst (λ found. found ≡ unfailed found) (sym reasons.0) (kept-told plan (map (row_of plan) turns))
  ]
]
reasons-unfailed (Err error) turns (Ok words) are = elim are [
  | inl read ↦ absurd (cc)
  | inr rest ↦ elim rest [
    | inl memory ↦ absurd (cc)
    | inr refused ↦ absurd (cc)
  ]
]
