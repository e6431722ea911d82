use Rattle.std.proofs.Common.{◌≡◌, ◌&&◌, ◌∷◌, ◌∙◌}
use Rattle.msrp_plan.proofs.Common.{not, false, List, [], None, refl, ap, sym, list_any, is_job, is_behind, is_first}
use Rattle.msrp_plan.specs.declared.ids.JobId.{JobId}
use Rattle.msrp_audit.proofs.queues.is_behind.Goals as goal

none_among : (q : List JobId) → list_any (is_job None) q ≡ false
none_among [] = refl
none_among (i ∷ q) = none_among q

pub returns-in-None : goal.returns-in-None
returns-in-None c =
    let q = c.args.queue.now in
    sym (ap (is_behind q) c.in-None.is ∙ ap (λ b. b && not (is_first q None)) (none_among q))
