-- The rows before a fault, and the cores that have a turn after them.
use Rattle.msrp_plan.proofs.Common.{ℕ, [], Bool, true, false, cond, nat_lt, List, Option, Some, None, length, refl, ap, sym, subst, arith, append-nil, append_assoc, length-append, range_with_len, PlanModel, IsLegal, IsRunStart, EachAfter, broken, fault_in, fault_or, unbroken_is_legal}
use Rattle.msrp_plan.specs.declared.faults.Fault.{Fault}
use Rattle.msrp_plan.specs.declared.faults.Rule.{Rule}
use Rattle.msrp_plan.specs.declared.faults.Rule.TheVariants.{A7}
use Rattle.msrp_why.proofs.Common.{Row, has_turn}
use Rattle.std.proofs.Common.{◌≡◌, ◌+◌, ◌*◌, ◌≤◌, ◌++◌, ◌∷◌, ◌∙◌, ltb-true, filter}
use Rattle.msrp_plan.specs.Verdict.{fault_from}
use Rattle.msrp_levels.proofs.Gathered.{gather_no, gather_yes}

-- a row without a fault is expected, and breaks no rule
good_next : (n : ℕ) (later : Option Fault) (due : Bool) (o : Option Rule) → fault_or (cond due o (Some A7)) n later ≡ None → (due ≡ true) × (o ≡ None) × (later ≡ None)
good_next n later true None h = (refl, refl, h)
good_next n later true (Some rule) h = absurd (cc)
good_next n later false o h = absurd (cc)

-- rows without a fault are legal
legal_after : (plan : PlanModel) (pre rows : List Row) → length pre ≤ plan.cores * plan.ticks → fault_from plan pre rows ≡ None → EachAfter (IsLegal plan) pre rows × (length (pre ++ rows) ≤ plan.cores * plan.ticks)
legal_after plan pre [] within h = (tt, subst (λ l. length l ≤ plan.cores * plan.ticks) (sym (append-nil pre)) within)
legal_after plan pre (r ∷ rows) within h =
    let now = good_next (length pre + 1) (fault_from plan (pre ++ r ∷ []) rows) (nat_lt (length pre) (plan.cores * plan.ticks)) (broken plan pre r) h in
    let rest = legal_after plan (pre ++ r ∷ []) rows (omega (arith, length-append pre (r ∷ []), ltb-true (length pre) (plan.cores * plan.ticks) now.0)) now.2 in
    ((unbroken_is_legal plan pre r now.1, rest.0), subst (λ l. length l ≤ plan.cores * plan.ticks) (append_assoc pre (r ∷ []) rows) rest.1)

pub good_start : (plan : PlanModel) (rows : List Row) → fault_in plan rows ≡ None → IsRunStart plan rows
good_start plan rows h = let all = legal_after plan [] rows (omega arith) h in record { size = all.1; each = all.0 }

-- the cores that have a turn, one more
pub turns_more : (plan : PlanModel) (rows : List Row) (n : ℕ) (b : Bool) (old new : List ℕ) → b ≡ has_turn plan rows n → new ≡ cond b (old ++ n ∷ []) old → old ≡ filter (has_turn plan rows) (range_with_len 0 n)
    → new ≡ filter (has_turn plan rows) (range_with_len 0 (n + 1))
turns_more plan rows n true old new is step was = gather_yes (has_turn plan rows) n old new (sym is) was step
turns_more plan rows n false old new is step was = step ∙ gather_no (has_turn plan rows) n old (sym is) was

pub turns_few : (b : Bool) (n : ℕ) (old new : List ℕ) → new ≡ cond b (old ++ n ∷ []) old → length old ≤ n → length new ≤ n + 1
turns_few true n old new step few = let l = ap length step in omega (arith, l, length-append old (n ∷ []), few)
turns_few false n old new step few = let l = ap length step in omega (arith, l, few)
