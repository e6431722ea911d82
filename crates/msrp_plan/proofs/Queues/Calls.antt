-- The rows that calls make leave a core as the calls do.
use Rattle.msrp_plan.specs.Common.{zero, suc, true, false, Some, claim_with, IsDueCall, kind_of_call}
use Rattle.msrp_plan.specs.declared.ids.ResId.{ResId}
use Rattle.msrp_plan.specs.declared.units.Call.{Call}
use Rattle.msrp_plan.specs.declared.units.Call.TheVariants.{Ask, Poll, Leave}
use Rattle.msrp_plan.specs.declared.units.Phase.{Phase}
use Rattle.std.proofs.Common.{◌≡◌, refl, sym}
use Rattle.msrp_plan.specs.Phases.{phase_with}

-- a call that is due, and the row of its kind
pub call_as_row : (claim : Phase) (g : ResId) (call : Call) → IsDueCall claim g call → phase_with claim (kind_of_call call) (Some g) ≡ claim_with claim g call
call_as_row claim g (Ask zero) turn = refl
call_as_row claim g (Ask (suc n)) turn = refl
call_as_row claim g (Poll true) turn = refl
call_as_row claim g (Poll false) turn = sym turn
call_as_row claim g Leave turn = refl
