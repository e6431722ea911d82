-- The records of a check, as they are written.
use Rattle.std.proofs.Common.{◌≡◌, ◌+◌, ◌∷◌, ◌++◌, ◌∙◌, if◌then◌else◌}
use Rattle.msrp_plan.proofs.Common.{ℕ, true, false, cond, List, [], Option, ap, sym, codes, decimal, slice_index_or, Wrote, is_global, local_ceiling, top, PlanModel, flat_more, wrote-more}
use Rattle.msrp_plan.specs.declared.bytes.Sink.{Sink}
use Rattle.msrp_levels.specs.Users.{ceiling_at}
use Rattle.msrp_text.specs.PlanText.{record_text}
use Rattle.msrp_text.proofs.Written.{wrote-as}
use Rattle.msrp_engine.specs.CheckText.{ceiling_record, told_each}

-- one record more
pub wrote-told : {W : Type 0} (contents : W → Option (List ℕ)) (a b c : Sink W) (told : ℕ → List (List ℕ)) (n : ℕ) → Wrote contents a b (told_each told n) → Wrote contents b c (record_text (told n)) → Wrote contents a c (told_each told (n + 1))
wrote-told contents a b c told n before next = wrote-as contents a c _ _ (sym (flat_more (λ i. record_text (told i)) n)) (wrote-more contents a b c _ _ before next)

-- the record of a global resource
pub global-is : (plan : PlanModel) (g : ℕ) → is_global plan g ≡ true → codes "ceiling" ++ ((codes "," ++ slice_index_or plan.resources g []) ++ codes ",global,-\n") ≡ record_text (ceiling_record plan g)
global-is plan g e = ap (λ b. record_text (codes "ceiling" ∷ slice_index_or plan.resources g [] ∷ (if b then codes "global" ∷ codes "-" ∷ [] else codes "local" ∷ decimal (local_ceiling plan g) ∷ []))) (sym e)

-- the record of a local resource
pub local-is : (plan : PlanModel) (g : ℕ) → is_global plan g ≡ false
    → codes "ceiling" ++ ((codes "," ++ slice_index_or plan.resources g []) ++ ((codes "," ++ codes "local") ++ ((codes "," ++ decimal (local_ceiling plan g)) ++ codes "\n"))) ≡ record_text (ceiling_record plan g)
local-is plan g e = ap (λ b. record_text (codes "ceiling" ∷ slice_index_or plan.resources g [] ∷ (if b then codes "global" ∷ codes "-" ∷ [] else codes "local" ∷ decimal (local_ceiling plan g) ∷ []))) (sym e)

-- the ceiling of a local resource is the same at each core
pub local-ceiling : (levels plan : PlanModel) (g c : ℕ) → levels ≡ plan → is_global plan g ≡ false → ceiling_at levels g c ≡ local_ceiling plan g
local-ceiling levels plan g c e h = ap (λ p. ceiling_at p g c) e ∙ ap (λ b. cond b (top plan c) (local_ceiling plan g)) h
