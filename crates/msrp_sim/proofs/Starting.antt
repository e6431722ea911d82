-- The cores before the first tick.
use Rattle.std.proofs.Common.{◌≡◌, ◌+◌, ◌∷◌, ◌++◌, ◌∙◌}
use Rattle.msrp_plan.proofs.Common.{ℕ, Bool, true, false, cond, List, [], Option, Some, None, slice_get, refl, ap, arith, length-append, PlanModel, free_lock, is_global, IsPlan, places_push}
use Rattle.msrp_plan.specs.declared.units.Phase.TheVariants.{Free}
use Rattle.msrp_core.specs.Machine.{MachineModel}
use Rattle.msrp_sim.specs.Cores.{CoresModel, AreCores, AreNew, IsNew, StandFor, again_of, known_row, locks_at, phases_at}
use Rattle.msrp_sim.specs.Serving.{AreDrawn, IsServing}
use Rattle.msrp_sim.proofs.Serving.{serving_as}

either_free : (b : Bool) → cond b free_lock free_lock ≡ free_lock
either_free true = refl
either_free false = refl

pub new_cores : (m : CoresModel) → IsPlan m.plan → AreNew m.plan m.plan.cores m.machines → AreDrawn m.queues 0 → AreCores m
new_cores m ok new drawn = record {
  accepted = ok;
  size = new.size;
  each = λ c x has. let n = new.each c x has in record { same_plan = n.plan_is; core = n.core; log = []; stands = n.stands; left = let t = n.stands.tick in omega (arith, t) };
  drawn = λ g. let d = drawn g in (omega (arith, d.0), omega (arith, d.1));
}

pub new_stand : (m : CoresModel) → AreNew m.plan m.plan.cores m.machines → IsServing (λ _. free_lock) (λ _. Free) m.queues → StandFor m []
new_stand m new serving = record {
  start = record { size = omega arith; each = tt };
  logs = λ c x has. (new.each c x has).stands;
  serving = serving_as (λ _. free_lock) (locks_at m.plan []) (λ _. Free) (phases_at []) m.queues (λ g. either_free (is_global m.plan g)) (λ c. refl) serving;
}

-- one machine more
pub new_more : (plan : PlanModel) (n : ℕ) (machines : List MachineModel) (m : MachineModel) → AreNew plan n machines → IsNew plan n m → AreNew plan (n + 1) (machines ++ m ∷ [])
new_more plan n machines m all new = record {
  size = length-append machines (m ∷ []) ∙ ap (λ k. k + 1) all.size;
  each = places_push (IsNew plan) machines m all.each (rw all.size new);
}

-- nothing is known of a core before its first turn
pub none_known : (m : CoresModel) (n : ℕ) → AreNew m.plan n m.machines → (c : ℕ) → known_row m c ≡ None
none_known m n new c = by_place (slice_get m.machines c) refl
  where
    by_place : (o : Option MachineModel) → slice_get m.machines c ≡ o → again_of o ≡ None
    by_place None e = refl
    by_place (Some x) e = (new.each c x e).known
