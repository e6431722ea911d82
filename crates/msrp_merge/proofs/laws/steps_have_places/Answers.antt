use Rattle.std.proofs.Common.{◌≡◌, ◌∙◌, ◌∷◌, ◌++◌}
use Rattle.msrp_plan.proofs.Common.{is_some, ap, sym, List, [], AllByRecursion, true≢false}
use Rattle.msrp_merge.proofs.Common.{Turn, has_place, is_step}
use Rattle.msrp_merge.proofs.laws.steps_have_places.Goals as goal

-- what holds of all holds of the one in the middle
in_middle : (P : Turn → Type 0) (turns more : List Turn) (x : Turn) → AllByRecursion P (turns ++ x ∷ more) → P x
in_middle P [] more x all = all.0
in_middle P (y ∷ turns) more x all = in_middle P turns more x all.1

pub returns : goal.returns
returns c = λ turns more x entries step bare fits. true≢false (sym step ∙ (sym (in_middle (λ x. has_place x ≡ is_step x.row.kind) turns more x fits.places) ∙ ap is_some bare))
