-- The texts that are kept of the rows that cores are known to make.
use Rattle.std.proofs.Common.{◌≡◌, ◌≢◌, ◌<◌, ◌≤◌, ◌%◌, ◌==◌, ◌∷◌, ◌++◌, ◌∙◌}
use Rattle.msrp_plan.proofs.Common.{ℕ, Bool, true, false, List, [], Option, Some, None, IfSome, ap, sym, subst, arith, eqb-true, slice_set, refl, mod-eq_of_lt, eqb-false, get_or-set_other, PlanModel, IsLegal, IsRunStart, in_tick, legal_due, each_at}
use Rattle.msrp_plan.specs.declared.rows.Row.{Row}
use Rattle.msrp_sim.specs.Cores.{Leaves, known_row}
use Rattle.msrp_sim.specs.Simulated.{SimModel, HasMade}
use Rattle.msrp_trace.specs.Gathering.{after_tick}
use Rattle.msrp_trace.specs.Texts.{TextsModel, text_of_core}
use Rattle.msrp_engine.specs.Inside.Known.{KeepKnown}

-- the newest row of a simulation is one of a core of the plan
pub made_core : (s : SimModel) (rows : List Row) (r : Row) → HasMade s (rows ++ r ∷ []) → r.core.0 < s.plan.cores
made_core s rows r made =
    let start : IsRunStart s.plan (rows ++ r ∷ []) = subst (λ p. IsRunStart p (rows ++ r ∷ [])) made.plan made.stands.start in
    (legal_due s.plan rows r (each_at (IsLegal s.plan) [] rows r [] start.each)).core

-- a text doesn't tell the tick
text_in_tick : (texts : TextsModel) (c : ℕ) (o : Option Row) (r : Row) → IfSome o (λ next. next ≡ in_tick next.tick r) → text_of_core texts c ≡ after_tick texts.version texts.plan r → IfSome o (λ row. text_of_core texts c ≡ after_tick texts.version texts.plan row)
text_in_tick texts c None r h e = tt
text_in_tick texts c (Some next) r h e = e ∙ ap (after_tick texts.version texts.plan) (sym h)

-- the text of a core is written over that of no other
pub other_text : (texts : TextsModel) (ts : List (List ℕ)) (k : ℕ) (text : List ℕ) → ts ≡ slice_set texts.texts (k % 8) text → (c : ℕ) → c % 8 ≢ k % 8 → text_of_core (record texts { texts = ts }) c ≡ text_of_core texts c
other_text texts ts k text is c ne = ap (λ l. text_of_core (record texts { texts = l }) c) is ∙ get_or-set_other texts.texts (k % 8) (c % 8) text [] ne

-- one turn more, whose text is kept
module _ (old new : SimModel) (before after : TextsModel) (r : Row) (plan : new.plan ≡ old.plan) (few : old.plan.cores ≤ 8) (low : r.core.0 < old.plan.cores) (leaves : Leaves old.cores new.cores r) (version : after.version ≡ before.version) (same : after.plan ≡ before.plan)
    (text : text_of_core after r.core.0 ≡ after_tick after.version after.plan r) (others : (c : ℕ) → c % 8 ≢ r.core.0 % 8 → text_of_core after c ≡ text_of_core before c) (kept : KeepKnown old before) where
  by_core : (c : ℕ) → c < old.plan.cores → (b : Bool) → (c == r.core.0) ≡ b → IfSome (known_row new.cores c) (λ row. text_of_core after c ≡ after_tick after.version after.plan row)
  by_core c l true e =
      let at : c ≡ r.core.0 = eqb-true c r.core.0 e in
      subst (λ k. IfSome (known_row new.cores k) (λ row. text_of_core after k ≡ after_tick after.version after.plan row)) (sym at) (text_in_tick after r.core.0 (known_row new.cores r.core.0) r leaves.own text)
  by_core c l false e =
      let ne : c ≢ r.core.0 = eqb-false c r.core.0 e in
      let apart : c % 8 ≢ r.core.0 % 8 = λ h. ne (sym (mod-eq_of_lt (omega (arith, l, few))) ∙ (h ∙ mod-eq_of_lt (omega (arith, low, few)))) in
      subst (λ o. IfSome o (λ row. text_of_core after c ≡ after_tick after.version after.plan row)) (sym (leaves.others c ne))
      (subst (λ v. IfSome (known_row old.cores c) (λ row. text_of_core after c ≡ after_tick v after.plan row)) (sym version)
      (subst (λ p. IfSome (known_row old.cores c) (λ row. text_of_core after c ≡ after_tick before.version p row)) (sym same)
      (subst (λ t. IfSome (known_row old.cores c) (λ row. t ≡ after_tick before.version before.plan row)) (sym (others c apart)) (kept c l))))

  pub keep_on : KeepKnown new after
  keep_on c l = by_core c (subst (λ (p : PlanModel). c < p.cores) plan l) (c == r.core.0) refl

-- the row that a core is known to make has its text
pub known_text : (s : SimModel) (texts : TextsModel) (r : Row) → KeepKnown s texts → r.core.0 < s.plan.cores → known_row s.cores r.core.0 ≡ Some r → text_of_core texts r.core.0 ≡ after_tick texts.version texts.plan r
known_text s texts r kept low is = subst (λ o. IfSome o (λ row. text_of_core texts r.core.0 ≡ after_tick texts.version texts.plan row)) is (kept r.core.0 low)

-- before the first turn no row is known
pub keep_none : (s : SimModel) (texts : TextsModel) → ((c : ℕ) → known_row s.cores c ≡ None) → KeepKnown s texts
keep_none s texts none c l = subst (λ o. IfSome o (λ row. text_of_core texts c ≡ after_tick texts.version texts.plan row)) (sym (none c)) tt
