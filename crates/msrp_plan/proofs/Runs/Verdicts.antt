-- What the verdict on a list of rows says of it.
use Rattle.msrp_plan.specs.Common.{ℕ, Bool, true, false, cond, List, [], length, Option, Some, None, nat_lt, PlanModel, EachAfter, IsLegal, IsRun, IsRunStart, is_in_turn, is_of_core, is_chosen, is_next_action, is_fifo_reply, option_or, fault_in, verdict}
use Rattle.msrp_plan.specs.declared.faults.Fault.{Fault}
use Rattle.msrp_plan.specs.declared.faults.Rule.{Rule}
use Rattle.msrp_plan.specs.declared.faults.Rule.TheVariants.{A1, A2, A3, A4, A5, A6, A7}
use Rattle.msrp_plan.specs.declared.rows.Row.{Row}
use Rattle.std.proofs.Common.{◌≡◌, ◌+◌, ◌*◌, ◌<◌, ◌≤◌, ◌∷◌, ◌++◌, ◌⊎◌, refl, inl, inr, ap, sym, subst, ◌∙◌, arith, ltb-true, ltb-false, lt-ltb, le-ltb, length-append, append-nil, append_assoc}
use Rattle.msrp_plan.specs.Verdict.{broken, fault_or, refused, fault_from, missing}
use Rattle.msrp_plan.specs.Faults.{IsBroken, IsCutShort, IsOneTooMany, IsFault}
use Rattle.msrp_plan.proofs.Lists.Prefixes.{each_push, each_before, each_at}

-- a chain of tests in which none fails
passes_all : {X : Type 0} (a b c d e : Bool) (v w x y z : X) → cond a (cond b (cond c (cond d (cond e None (Some v)) (Some w)) (Some x)) (Some y)) (Some z) ≡ None
    → (a ≡ true) × (b ≡ true) × (c ≡ true) × (d ≡ true) × (e ≡ true)
passes_all true true true true true v w x y z h = (refl, refl, refl, refl, refl)
passes_all true true true true false v w x y z h = absurd (cc)
passes_all true true true false e v w x y z h = absurd (cc)
passes_all true true false d e v w x y z h = absurd (cc)
passes_all true false c d e v w x y z h = absurd (cc)
passes_all false b c d e v w x y z h = absurd (cc)

-- a row that breaks no rule is legal
pub unbroken_is_legal : (plan : PlanModel) (pre : List Row) (r : Row) → broken plan pre r ≡ None → IsLegal plan pre r
unbroken_is_legal plan pre r h =
    let all = passes_all (is_in_turn plan pre r) (is_of_core plan r) (is_chosen plan pre r) (is_next_action plan pre r) (is_fifo_reply pre r) A5 A4 A3 A2 A1 h in
    record { turn = all.0; own = all.1; chosen = all.2; action = all.3; reply = all.4 }

-- and a legal row breaks none
pub legal_is_unbroken : (plan : PlanModel) (pre : List Row) (r : Row) → IsLegal plan pre r → broken plan pre r ≡ None
legal_is_unbroken plan pre r h = rw (h.turn, h.own, h.chosen, h.action, h.reply) refl

abbrev all_rows : PlanModel → ℕ
all_rows plan = plan.cores * plan.ticks

-- ---- the verdict row by row
-- the verdict on the rows that follow pre, in one recursion
abbrev pub verdict_after : PlanModel → List Row → List Row → Option Fault
verdict_after plan pre [] = missing plan pre
verdict_after plan pre (r ∷ rows) =
    cond (nat_lt (length pre) (plan.cores * plan.ticks))
    (fault_or (broken plan pre r) (length pre + 1) (verdict_after plan (pre ++ r ∷ []) rows))
    (Some (record { row = length pre + 1; rule = A7 }))

-- the next row's fault, or what is behind it
row_then : (due : Bool) (o : Option Rule) (n : ℕ) (later end rest : Option Fault) → option_or later end ≡ rest
    → option_or (fault_or (cond due o (Some A7)) n later) end ≡ cond due (fault_or o n rest) (Some (record { row = n; rule = A7 }))
row_then true None n later end rest h = h
row_then true (Some rule) n later end rest h = refl
row_then false o n later end rest h = refl

rows_then : (plan : PlanModel) (pre rows : List Row) → option_or (fault_from plan pre rows) (missing plan (pre ++ rows)) ≡ verdict_after plan pre rows
rows_then plan pre [] = ap (missing plan) (append-nil pre)
rows_then plan pre (r ∷ rows) =
    row_then (nat_lt (length pre) (all_rows plan)) (broken plan pre r) (length pre + 1) (fault_from plan (pre ++ r ∷ []) rows) (missing plan (pre ++ r ∷ rows)) (verdict_after plan (pre ++ r ∷ []) rows)
    (ap (λ l. option_or (fault_from plan (pre ++ r ∷ []) rows) (missing plan l)) (sym (append_assoc pre (r ∷ []) rows)) ∙ rows_then plan (pre ++ r ∷ []) rows)

-- the verdict is that recursion from the first row on
pub verdict_is : (plan : PlanModel) (rows : List Row) → verdict plan rows ≡ verdict_after plan [] rows
verdict_is plan rows = rows_then plan [] rows

-- ---- the fault of the rows that stand, as rows are added
-- the first fault of some rows, else of those behind them
parts_then : (o : Option Rule) (n : ℕ) (one other all : Option Fault) → all ≡ option_or one other → fault_or o n all ≡ option_or (fault_or o n one) other
parts_then None n one other all h = h
parts_then (Some rule) n one other all h = refl

pub fault_append : (plan : PlanModel) (pre rows more : List Row) → fault_from plan pre (rows ++ more) ≡ option_or (fault_from plan pre rows) (fault_from plan (pre ++ rows) more)
fault_append plan pre [] more = ap (λ l. fault_from plan l more) (sym (append-nil pre))
fault_append plan pre (r ∷ rows) more =
    parts_then (refused plan pre r) (length pre + 1) (fault_from plan (pre ++ r ∷ []) rows) (fault_from plan (pre ++ r ∷ rows) more) (fault_from plan (pre ++ r ∷ []) (rows ++ more))
    (fault_append plan (pre ++ r ∷ []) rows more ∙ ap (λ l. option_or (fault_from plan (pre ++ r ∷ []) rows) (fault_from plan l more)) (append_assoc pre (r ∷ []) rows))

-- a row more after rows without a fault: its own fault, if it has one
pub fault_push : (plan : PlanModel) (pre : List Row) (r : Row) → fault_in plan pre ≡ None → fault_in plan (pre ++ r ∷ []) ≡ fault_or (refused plan pre r) (length pre + 1) None
fault_push plan pre r h = fault_append plan [] pre (r ∷ []) ∙ ap (λ o. option_or o (fault_from plan pre (r ∷ []))) h

-- a fault stays, whatever comes behind it
pub fault_stays : (plan : PlanModel) (pre more : List Row) (f : Fault) → fault_in plan pre ≡ Some f → fault_in plan (pre ++ more) ≡ Some f
fault_stays plan pre more f h = fault_append plan [] pre more ∙ ap (λ o. option_or o (fault_from plan pre more)) h

-- ---- verdicts without a fault

-- an end without a fault comes after all rows that are due
good_end : (plan : PlanModel) (n : ℕ) (f : Fault) (short : Bool) → short ≡ nat_lt n (all_rows plan) → n ≤ all_rows plan → cond short (Some f) None ≡ None → n ≡ all_rows plan
good_end plan n f true e within h = absurd (cc)
good_end plan n f false e within h = omega (arith, ltb-false n (all_rows plan) (sym e))

-- a row without a fault is due, breaks no rule, and has none behind it
good_row : (plan : PlanModel) (n : ℕ) (later : Option Fault) (f : Fault) (due : Bool) (o : Option Rule) → cond due (fault_or o (n + 1) later) (Some f) ≡ None → (due ≡ true) × (o ≡ None) × (later ≡ None)
good_row plan n later f true None h = (refl, refl, h)
good_row plan n later f true (Some rule) h = absurd (cc)
good_row plan n later f false o h = absurd (cc)

-- one row more is one longer
one_more : (pre : List Row) (r : Row) → length (pre ++ r ∷ []) ≡ length pre + 1
one_more pre r = length-append pre (r ∷ [])

-- rows behind without a fault are legal, and all that are due
pub good_after : (plan : PlanModel) (pre rows : List Row) → length pre ≤ all_rows plan → verdict_after plan pre rows ≡ None → EachAfter (IsLegal plan) pre rows × (length (pre ++ rows) ≡ all_rows plan)
good_after plan pre [] within h = (tt, ap length (append-nil pre) ∙ good_end plan (length pre) _ (nat_lt (length pre) (all_rows plan)) refl within h)
good_after plan pre (r ∷ rows) within h =
    let now = good_row plan (length pre) (verdict_after plan (pre ++ r ∷ []) rows) _ (nat_lt (length pre) (all_rows plan)) (broken plan pre r) h in
    let rest = good_after plan (pre ++ r ∷ []) rows (omega (arith, one_more pre r, ltb-true (length pre) (all_rows plan) now.0)) now.2 in
    ((unbroken_is_legal plan pre r now.1, rest.0), ap length (sym (append_assoc pre (r ∷ []) rows)) ∙ rest.1)

-- rows without a fault are a legal run
pub good_is_run : (plan : PlanModel) (rows : List Row) → verdict plan rows ≡ None → IsRun plan rows
good_is_run plan rows h = let all = good_after plan [] rows (omega arith) (sym (verdict_is plan rows) ∙ h) in record { size = all.1; each = all.0 }

-- ---- legal rows are passed over
pub verdict_over : (plan : PlanModel) (pre rows more : List Row) → EachAfter (IsLegal plan) pre rows → length (pre ++ rows) ≤ all_rows plan → verdict_after plan pre (rows ++ more) ≡ verdict_after plan (pre ++ rows) more
verdict_over plan pre [] more each within = ap (λ l. verdict_after plan l more) (sym (append-nil pre))
verdict_over plan pre (r ∷ rows) more each within =
    let due : nat_lt (length pre) (all_rows plan) ≡ true = lt-ltb (length pre) (all_rows plan) (omega (arith, length-append pre (r ∷ rows))) in
    rw (due, legal_is_unbroken plan pre r each.0) (verdict_over plan (pre ++ r ∷ []) rows more each.1 (subst (λ l. length l ≤ all_rows plan) (sym (append_assoc pre (r ∷ []) rows)) within) ∙ ap (λ l. verdict_after plan l more) (append_assoc pre (r ∷ []) rows))

-- a legal run has no fault
pub run_is_good : (plan : PlanModel) (rows : List Row) → IsRun plan rows → verdict plan rows ≡ None
run_is_good plan rows h =
    let over : verdict_after plan [] (rows ++ []) ≡ verdict_after plan rows [] = verdict_over plan [] rows [] h.each (omega (arith, h.size)) in
    let whole : nat_lt (length rows) (all_rows plan) ≡ false = le-ltb (length rows) (all_rows plan) (omega (arith, h.size)) in
    verdict_is plan rows ∙ (ap (verdict_after plan []) (sym (append-nil rows)) ∙ (over ∙ rw whole refl))

-- ---- what a fault says
fault_end : (plan : PlanModel) (rows : List Row) (f : Fault) (short : Bool) → short ≡ nat_lt (length rows) (all_rows plan) → IsRunStart plan rows → cond short (Some (record { row = length rows + 1; rule = A6 })) None ≡ Some f → IsFault plan rows f
fault_end plan rows f true e start h =
    let is : record { row = length rows + 1; rule = A6 } ≡ f = cc in
    inr (inl (record { start = start; due = ltb-true (length rows) (all_rows plan) (sym e); number = ap (λ (g : Fault). g.row) (sym is); rule = ap (λ (g : Fault). g.rule) (sym is) }))
fault_end plan rows f false e start h = absurd (cc)

-- a fault of the rows before it and of the next, or of the rows behind
fault_row : (plan : PlanModel) (pre : List Row) (r : Row) (rows : List Row) (f : Fault) (due : Bool) (o : Option Rule) → due ≡ nat_lt (length pre) (all_rows plan) → o ≡ broken plan pre r → IsRunStart plan pre
    → cond due (fault_or o (length pre + 1) (verdict_after plan (pre ++ r ∷ []) rows)) (Some (record { row = length pre + 1; rule = A7 })) ≡ Some f
    → IsFault plan (pre ++ r ∷ rows) f ⊎ (IsRunStart plan (pre ++ r ∷ []) × (verdict_after plan (pre ++ r ∷ []) rows ≡ Some f))
fault_row plan pre r rows f true None d e start h =
    inr (
      record {
        size = omega (arith, one_more pre r, ltb-true (length pre) (all_rows plan) (sym d));
        each = each_push (IsLegal plan) [] pre r start.each (unbroken_is_legal plan pre r (sym e));
      },
      h,
    )
fault_row plan pre r rows f true (Some rule) d e start h =
    let is : record { row = length pre + 1; rule = rule } ≡ f = cc in
    inl (inl (record {
      before = pre;
      broke = r;
      behind = rows;
      place = refl;
      start = start;
      due = ltb-true (length pre) (all_rows plan) (sym d);
      number = ap (λ (g : Fault). g.row) (sym is);
      rule = sym e ∙ ap (λ (g : Fault). Some g.rule) is;
    }))
fault_row plan pre r rows f false o d e start h =
    let is : record { row = length pre + 1; rule = A7 } ≡ f = cc in
    inl (inr (inr (record {
      before = pre;
      extra = r;
      behind = rows;
      place = refl;
      run = record { size = omega (arith, start.size, ltb-false (length pre) (all_rows plan) (sym d)); each = start.each };
      number = ap (λ (g : Fault). g.row) (sym is);
      rule = ap (λ (g : Fault). g.rule) (sym is);
    })))

-- a fault of the rows behind is what its rule and number say, of all rows
pub fault_after : (plan : PlanModel) (pre rows : List Row) (f : Fault) → IsRunStart plan pre → verdict_after plan pre rows ≡ Some f → IsFault plan (pre ++ rows) f
fault_after plan pre [] f start h = subst (λ l. IsFault plan l f) (sym (append-nil pre)) (fault_end plan pre f (nat_lt (length pre) (all_rows plan)) refl start h)
fault_after plan pre (r ∷ rows) f start h =
    elim (fault_row plan pre r rows f (nat_lt (length pre) (all_rows plan)) (broken plan pre r) refl refl start h) [
      | inl found ↦ found
      | inr later ↦ subst (λ l. IsFault plan l f) (append_assoc pre (r ∷ []) rows) (fault_after plan (pre ++ r ∷ []) rows f later.0 later.1)
    ]

-- a fault of the verdict is what its rule and number say
pub fault_is : (plan : PlanModel) (rows : List Row) (f : Fault) → verdict plan rows ≡ Some f → IsFault plan rows f
fault_is plan rows f h = fault_after plan [] rows f (record { size = omega arith; each = tt }) (sym (verdict_is plan rows) ∙ h)

-- faults of one row and one rule are one
pub fault_of : (f g : Fault) → f.row ≡ g.row → f.rule ≡ g.rule → Some f ≡ Some g
fault_of f g row rule =
    let at : ℕ → Rule → Option Fault = λ n u. Some (record { row = n; rule = u }) in
    ap (λ n. at n f.rule) row ∙ ap (at g.row) rule

-- the first row that breaks a rule is found
broken_found : (plan : PlanModel) (rows : List Row) (f : Fault) → IsBroken plan rows f → verdict plan rows ≡ Some f
broken_found plan rows f h =
    let over : verdict_after plan [] (h.before ++ h.broke ∷ h.behind) ≡ verdict_after plan h.before (h.broke ∷ h.behind) = verdict_over plan [] h.before (h.broke ∷ h.behind) h.start.each h.start.size in
    let due : nat_lt (length h.before) (all_rows plan) ≡ true = lt-ltb (length h.before) (all_rows plan) h.due in
    verdict_is plan rows ∙ (ap (verdict_after plan []) h.place ∙ (over ∙ rw (due, h.rule) (fault_of _ f (sym h.number) refl)))

-- a missing row is found
cut_found : (plan : PlanModel) (rows : List Row) (f : Fault) → IsCutShort plan rows f → verdict plan rows ≡ Some f
cut_found plan rows f h =
    let over : verdict_after plan [] (rows ++ []) ≡ verdict_after plan rows [] = verdict_over plan [] rows [] h.start.each h.start.size in
    let due : nat_lt (length rows) (all_rows plan) ≡ true = lt-ltb (length rows) (all_rows plan) h.due in
    verdict_is plan rows ∙ (ap (verdict_after plan []) (sym (append-nil rows)) ∙ (over ∙ rw due (fault_of _ f (sym h.number) (sym h.rule))))

-- a row too many is found
extra_found : (plan : PlanModel) (rows : List Row) (f : Fault) → IsOneTooMany plan rows f → verdict plan rows ≡ Some f
extra_found plan rows f h =
    let over : verdict_after plan [] (h.before ++ h.extra ∷ h.behind) ≡ verdict_after plan h.before (h.extra ∷ h.behind) = verdict_over plan [] h.before (h.extra ∷ h.behind) h.run.each (omega (arith, h.run.size)) in
    let whole : nat_lt (length h.before) (all_rows plan) ≡ false = le-ltb (length h.before) (all_rows plan) (omega (arith, h.run.size)) in
    verdict_is plan rows ∙ (ap (verdict_after plan []) h.place ∙ (over ∙ rw whole (fault_of _ f (sym h.number) (sym h.rule))))

-- and it is found where it is one
pub fault_found : (plan : PlanModel) (rows : List Row) (f : Fault) → IsFault plan rows f → verdict plan rows ≡ Some f
fault_found plan rows f (inl h) = broken_found plan rows f h
fault_found plan rows f (inr (inl h)) = cut_found plan rows f h
fault_found plan rows f (inr (inr h)) = extra_found plan rows f h

-- ---- starts of legal runs
pub start_before : (plan : PlanModel) (pre post : List Row) → IsRunStart plan (pre ++ post) → IsRunStart plan pre
start_before plan pre post h = record { size = omega (arith, h.size, length-append pre post); each = each_before (IsLegal plan) [] pre post h.each }

-- a legal run's first part is the start of one
pub run_before : (plan : PlanModel) (pre post : List Row) → IsRun plan (pre ++ post) → IsRunStart plan pre
run_before plan pre post h = start_before plan pre post (record { size = omega (arith, h.size); each = h.each })

-- one legal row more, if one is left, is a start again
pub start_push : (plan : PlanModel) (pre : List Row) (r : Row) → IsRunStart plan pre → length pre < all_rows plan → IsLegal plan pre r → IsRunStart plan (pre ++ r ∷ [])
start_push plan pre r h due legal = record { size = omega (arith, one_more pre r); each = each_push (IsLegal plan) [] pre r h.each legal }

-- the last row of a start is legal
pub start_last : (plan : PlanModel) (pre : List Row) (r : Row) → IsRunStart plan (pre ++ r ∷ []) → IsLegal plan pre r
start_last plan pre r h = each_at (IsLegal plan) [] pre r [] h.each

-- ---- the fault of the rows that stand is the verdict's, but for a missing row
-- a fault of them is the verdict
pub early_is : (plan : PlanModel) (rows : List Row) (f : Fault) → fault_in plan rows ≡ Some f → verdict plan rows ≡ Some f
early_is plan rows f h = ap (λ o. option_or o (missing plan rows)) h

-- the start of a legal run has none
start_over : (plan : PlanModel) (pre rows : List Row) → EachAfter (IsLegal plan) pre rows → length (pre ++ rows) ≤ all_rows plan → fault_from plan pre rows ≡ None
start_over plan pre [] each within = refl
start_over plan pre (r ∷ rows) each within =
    let due : nat_lt (length pre) (all_rows plan) ≡ true = lt-ltb (length pre) (all_rows plan) (omega (arith, length-append pre (r ∷ rows), within)) in
    rw (due, legal_is_unbroken plan pre r each.0) (start_over plan (pre ++ r ∷ []) rows each.1 (subst (λ l. length l ≤ all_rows plan) (sym (append_assoc pre (r ∷ []) rows)) within))

pub start_is_good : (plan : PlanModel) (rows : List Row) → IsRunStart plan rows → fault_in plan rows ≡ None
start_is_good plan rows h = start_over plan [] rows h.each h.size

-- so a fault of them is a broken rule or a row too many
early_not_cut : (plan : PlanModel) (rows : List Row) (f : Fault) → fault_in plan rows ≡ Some f → IsFault plan rows f → IsBroken plan rows f ⊎ IsOneTooMany plan rows f
early_not_cut plan rows f h (inl broke) = inl broke
early_not_cut plan rows f h (inr (inl cut)) = let none = start_is_good plan rows cut.start in absurd (cc)
early_not_cut plan rows f h (inr (inr extra)) = inr extra

pub early_fault : (plan : PlanModel) (rows : List Row) (f : Fault) → fault_in plan rows ≡ Some f → IsBroken plan rows f ⊎ IsOneTooMany plan rows f
early_fault plan rows f h = early_not_cut plan rows f h (fault_is plan rows f (early_is plan rows f h))

-- and such a fault is found before the end is known
next_found : (plan : PlanModel) (before behind : List Row) (r : Row) (f : Fault) (rule : Rule) → IsRunStart plan before → refused plan before r ≡ Some rule → f.row ≡ length before + 1 → f.rule ≡ rule → fault_in plan (before ++ r ∷ behind) ≡ Some f
next_found plan before behind r f rule start e row is =
    fault_append plan [] before (r ∷ behind)
    ∙ (ap (λ o. option_or o (fault_from plan before (r ∷ behind))) (start_is_good plan before start)
    ∙ (ap (λ o. fault_or o (length before + 1) (fault_from plan (before ++ r ∷ []) behind)) e ∙ fault_of _ f (sym row) (sym is)))

pub early_found : (plan : PlanModel) (rows : List Row) (f : Fault) → IsBroken plan rows f ⊎ IsOneTooMany plan rows f → fault_in plan rows ≡ Some f
early_found plan rows f (inl h) =
    let due : nat_lt (length h.before) (all_rows plan) ≡ true = lt-ltb (length h.before) (all_rows plan) h.due in
    ap (fault_in plan) h.place ∙ next_found plan h.before h.behind h.broke f f.rule h.start (ap (λ b. cond b (broken plan h.before h.broke) (Some A7)) due ∙ h.rule) h.number refl
early_found plan rows f (inr h) =
    let whole : nat_lt (length h.before) (all_rows plan) ≡ false = le-ltb (length h.before) (all_rows plan) (omega (arith, h.run.size)) in
    ap (fault_in plan) h.place ∙ next_found plan h.before h.behind h.extra f A7 (record { size = omega (arith, h.run.size); each = h.run.each }) (ap (λ b. cond b (broken plan h.before h.extra) (Some A7)) whole) h.number h.rule
