-- A turn of a core that is in a handle.
use Rattle.std.proofs.Common.{◌≡◌, ◌++◌, ◌∷◌}
use Rattle.msrp_plan.proofs.Common.{ℕ, [], Option, Some, None, IfSome}
use Rattle.msrp_hosted.specs.Hosted.{HostedCoreModel}
use Rattle.msrp_hosted.specs.declared.steps.CoreStep.TheVariants.{Waiting, InTurn}
use Rattle.msrp_hosted.specs.declared.steps.Turned.{Turned}
use Rattle.msrp_merge.specs.declared.logs.Turn.{Turn}
use Rattle.msrp_c.specs.Hosting.{TakesTurn}
use Rattle.msrp_c.specs.RowNumbers.{numbers_of_row, place_number}
use Rattle.msrp_c.specs.declared.turns.MsrpRow.{MsrpRow}

pub takes : (Good : Type 0) (was now : Option HostedCoreModel) (turned : Turned) (turn : Turn) (row : MsrpRow) (place : ℕ) → turned ≡ Turned.Turn turn → IfSome was (λ old. (t : Turn) → turned ≡ Turned.Turn t → old.step ≡ Waiting)
    → IfSome was (λ old. (t : Turn) → turned ≡ Turned.Turn t → now ≡ Some (record old { turns = old.turns ++ t ∷ []; step = InTurn })) → row ≡ numbers_of_row turn.row → place ≡ place_number turn.place → IfSome was (λ old. Good → TakesTurn old now row place)
takes Good None now turned turn row place is waited took rows places = tt
takes Good (Some old) now turned turn row place is waited took rows places = λ good. record { waited = waited turn is; turn = turn; new_is = took turn is; row_is = rows; place_is = places }
