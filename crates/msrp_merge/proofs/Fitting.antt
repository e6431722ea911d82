-- A log that fits its book, and one turn more.
use Rattle.std.proofs.Common.{◌≡◌, ◌∷◌, ◌++◌, ◌∙◌}
use Rattle.msrp_plan.proofs.Common.{true, false, cond, is_some, List, [], None, refl, ap, sym, subst, zero, suc, append-nil, filter, filter-append, kind_of_call, all_push}
use Rattle.msrp_merge.proofs.Common.{Call, Entry, Fits, IsTurnOf, Paired, Turn, has_place, is_step}
use Rattle.msrp_plan.specs.declared.units.Call.TheVariants.{Ask, Poll, Leave}

-- each call makes a step
call_is_step : (call : Call) → is_step (kind_of_call call) ≡ true
call_is_step (Ask zero) = refl
call_is_step (Ask (suc n)) = refl
call_is_step (Poll true) = refl
call_is_step (Poll false) = refl
call_is_step Leave = refl

-- one pair more
paired_push : {X Y : Type 0} (R : X → Y → Type 0) (xs : List X) (ys : List Y) (x : X) (y : Y) → Paired R xs ys → R x y → Paired R (xs ++ x ∷ []) (ys ++ y ∷ [])
paired_push R [] [] x y all h = (h, tt)
paired_push R [] (w ∷ ys) x y all h = absurd all
paired_push R (z ∷ xs) [] x y all h = absurd all
paired_push R (z ∷ xs) (w ∷ ys) x y all h = (all.0, paired_push R xs ys x y all.1 h)

-- a turn that is no step
pub fits_quiet : (turns : List Turn) (entries : List Entry) (x : Turn) → Fits turns entries → x.place ≡ None → is_step x.row.kind ≡ false → Fits (turns ++ x ∷ []) entries
fits_quiet turns entries x fits bare quiet = record {
  places = all_push (λ x. has_place x ≡ is_step x.row.kind) turns x fits.places (ap is_some bare ∙ sym quiet);
  steps = subst (λ l. Paired IsTurnOf l entries) (sym (filter-append has_place turns (x ∷ []) ∙ (ap (λ b. filter has_place turns ++ cond b (x ∷ []) []) (ap is_some bare) ∙ append-nil (filter has_place turns)))) fits.steps;
}

-- a step, and the entry that it made
pub fits_step : (turns : List Turn) (entries : List Entry) (x : Turn) (e : Entry) → Fits turns entries → IsTurnOf x e → Fits (turns ++ x ∷ []) (entries ++ e ∷ [])
fits_step turns entries x e fits step = record {
  places = all_push (λ x. has_place x ≡ is_step x.row.kind) turns x fits.places (ap is_some step.place ∙ sym (ap is_step step.row.kind ∙ call_is_step e.call));
  steps = subst (λ l. Paired IsTurnOf l (entries ++ e ∷ [])) (sym (filter-append has_place turns (x ∷ []) ∙ ap (λ b. filter has_place turns ++ cond b (x ∷ []) []) (ap is_some step.place))) (paired_push IsTurnOf (filter has_place turns) entries x e fits.steps step);
}
