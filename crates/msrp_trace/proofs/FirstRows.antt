-- The row of the next record, where its tick and its core are known.
use Rattle.std.proofs.Common.{◌≡◌, ◌+◌, ◌-◌, ◌^◌, ◌<◌, ◌||◌, ◌∷◌, ◌∙◌, if◌then◌else◌}
use Rattle.msrp_plan.proofs.Common.{ℕ, Bool, true, false, not, List, [], decimal, Option, Some, None, is_none, unwrap_or, refl, sym, ap, arith, subst, option_map, or_parts, same_Some, PlanModel, has_shape, may_carry}
use Rattle.msrp_plan.specs.declared.ids.CoreId.{CoreId}
use Rattle.msrp_plan.specs.declared.ids.JobId.{JobId}
use Rattle.msrp_plan.specs.declared.ids.ResId.{ResId}
use Rattle.msrp_plan.specs.declared.rows.Kind.{Kind}
use Rattle.msrp_plan.specs.declared.rows.Kind.TheVariants.{Idle}
use Rattle.msrp_plan.specs.declared.rows.Row.{Row}
use Rattle.msrp_plan.specs.declared.rows.TextVersion.{TextVersion}
use Rattle.csv.specs.Records.{field_at}
use Rattle.msrp_text.specs.Fields.{digits_value, is_number, number_at, number_of}
use Rattle.msrp_text.specs.Plain.{BeginsWithDigit, is_plain_field}
use Rattle.msrp_text.specs.Records.{FirstBegins, KeepsRecords}
use Rattle.msrp_text.proofs.MetLines.{decimal-field}
use Rattle.msrp_text.proofs.Numerals.{decimal_value}
use Rattle.msrp_trace.specs.Readers.{BeginsAt, left_at}
use Rattle.msrp_trace.specs.Reading.{Told, told_after}
use Rattle.msrp_trace.specs.Rows.{ahead_told, fault_if, is_shaped, job_told, job_with, kind_fault, kind_told, lacks_name, lacks_number, res_told, row_fault, row_told, row_with, task_told}
use Rattle.msrp_trace.specs.declared.reading.ReaderState.{ReaderState}
use Rattle.msrp_trace.specs.declared.reading.ReaderState.TheVariants.{Rows}
use Rattle.msrp_trace.specs.declared.faults.TraceFault.{TraceFault}
use Rattle.msrp_trace.proofs.Fields.{has_told_shape, may_carry_told, row_is}
use Rattle.msrp_trace.proofs.Telling.{left_rows, told_more, told_refused}

-- ---- a record that breaks no rule tells a row
rule_kept : (test : Bool) (fault : TraceFault) (rest : Option TraceFault) → fault_if test fault rest ≡ None → (test ≡ false) × (rest ≡ None)
rule_kept true fault rest e = absurd (cc)
rule_kept false fault rest e = (refl, e)

not_false : (b : Bool) → not b ≡ false → b ≡ true
not_false true e = refl
not_false false e = absurd (cc)

kind_kept : (version : TextVersion) (plan : PlanModel) (fields : List (List ℕ)) (o : Option Kind) → kind_fault version plan fields o ≡ None → (k : Kind) × (o ≡ Some k) × (is_shaped version fields k ≡ true) × (lacks_name plan fields ≡ false)
kind_kept version plan fields None e = absurd (cc)
kind_kept version plan fields (Some k) e =
    let shape = rule_kept _ _ _ e in
    (k, refl, not_false _ shape.0, (rule_kept _ _ _ shape.1).0)

row_there : (tick core : ℕ) (k : Kind) (job : Option JobId) (res : Option ResId) (ahead : Option ℕ) → has_shape k job res ≡ true → may_carry k ahead ≡ true → (r : Row) × (row_with tick core k job res ahead ≡ Some r) × (r.tick ≡ tick) × (r.core.0 ≡ core)
row_there tick core k job res ahead shape carrier =
    let r : Row = record { tick = tick; core = record { 0 = core }; kind = k; job = job; res = res; ahead = ahead; shape = shape; carrier = carrier } in
    (r, row_is r, refl, refl)

-- the row, and the numbers that its tick and its core are
record Tells (version : TextVersion) (plan : PlanModel) (fields : List (List ℕ)) : Type 0 where
  row : Row
  told : row_told version plan fields ≡ Some row
  tick : row.tick ≡ unwrap_or (number_at fields 0) 0
  core : row.core.0 ≡ unwrap_or (number_at fields 1) 0
  numbers : lacks_number version fields ≡ false

kept_tells : (version : TextVersion) (plan : PlanModel) (fields : List (List ℕ)) → row_fault version plan fields ≡ None → Tells version plan fields
unfolding row_fault row_told
kept_tells version plan fields e =
    let count = rule_kept _ _ _ e in
    let numbers = rule_kept _ _ _ count.1 in
    let kind = kind_kept version plan fields (kind_told fields) numbers.1 in
    let shape = has_told_shape version plan fields kind.0 kind.2 numbers.0 kind.3 in
    let carrier = may_carry_told version plan fields kind.0 kind.2 numbers.0 in
    let same : unwrap_or (kind_told fields) Idle ≡ kind.0 = ap (λ (o : Option Kind). unwrap_or o Idle) kind.1 in
    let job = job_with (unwrap_or (task_told plan fields) None) (unwrap_or (job_told fields) None) in
    let res = unwrap_or (res_told plan fields) None in
    let ahead = unwrap_or (ahead_told version fields) None in
    let there = row_there (unwrap_or (number_at fields 0) 0) (unwrap_or (number_at fields 1) 0) kind.0 job res ahead shape carrier in
    record {
      row = there.0;
      told = ap (λ (k : Kind). row_with (unwrap_or (number_at fields 0) 0) (unwrap_or (number_at fields 1) 0) k job res ahead) same ∙ there.1;
      tick = there.2;
      core = there.3;
      numbers = numbers.0;
    }

-- ---- its tick and its core
value_if : (b : Bool) (v : ℕ) → is_none (if b then Some v else None) ≡ false → unwrap_or (if b then Some v else None) 0 ≡ v
value_if true v h = refl
value_if false v h = absurd (cc)

value_at : (o : Option ℕ) (text : List ℕ) → o ≡ number_of text → is_none o ≡ false → unwrap_or o 0 ≡ digits_value text
value_at o text e h = ap (λ (n : Option ℕ). unwrap_or n 0) e ∙ value_if (is_number text) (digits_value text) (ap is_none (sym e) ∙ h)

numbers_at : (a b : List ℕ) (more : List (List ℕ)) → (number_at (a ∷ b ∷ more) 0 ≡ number_of a) × (number_at (a ∷ b ∷ more) 1 ≡ number_of b)
unfolding field_at
numbers_at a b more = (refl, refl)

same_core : (a b : CoreId) → a.0 ≡ b.0 → a ≡ b
same_core a b e = let of : ℕ → CoreId = λ n. record { 0 = n } in ap of e

first_row : (version : TextVersion) (plan : PlanModel) (n tick digit : ℕ) (core : CoreId) (fields : List (List ℕ)) (rest : List (List (List ℕ))) (more : List (List ℕ)) → fields ≡ decimal tick ∷ (digit ∷ []) ∷ more → tick < 2 ^ 64 → core.0 ≡ digit - 48
    → (o : Option TraceFault) → row_fault version plan fields ≡ o → BeginsAt tick core (told_after version plan n (fields ∷ rest))
first_row version plan n tick digit core fields rest more e fits is (Some fault) f = subst (BeginsAt tick core) (sym (told_refused version plan n fields rest fault f)) refl
first_row version plan n tick digit core fields rest more e fits is None f =
    let row = kept_tells version plan fields f in
    let numbers = numbers_at (decimal tick) (digit ∷ []) more in
    let at_0 : number_at fields 0 ≡ number_of (decimal tick) = ap (λ (f : List (List ℕ)). number_at f 0) e ∙ numbers.0 in
    let at_1 : number_at fields 1 ≡ number_of (digit ∷ []) = ap (λ (f : List (List ℕ)). number_at f 1) e ∙ numbers.1 in
    let first = or_parts (is_none (number_at fields 0)) (is_none (number_at fields 1) || (is_none (job_told fields) || is_none (ahead_told version fields))) row.numbers in
    let second = or_parts (is_none (number_at fields 1)) (is_none (job_told fields) || is_none (ahead_told version fields)) first.1 in
    let at_tick : row.row.tick ≡ tick = row.tick ∙ (value_at (number_at fields 0) (decimal tick) at_0 first.0 ∙ decimal_value tick fits) in
    let digit_is : digits_value (digit ∷ []) ≡ digit - 48 = omega arith in
    let at_core : row.row.core.0 ≡ core.0 = row.core ∙ (value_at (number_at fields 1) (digit ∷ []) at_1 second.0 ∙ (digit_is ∙ sym is)) in
    subst (BeginsAt tick core) (sym (told_more version plan n fields rest row.row f row.told)) (at_tick, same_core row.row.core core at_core)

-- what the records tell begins at the tick and the core that the first one begins with
pub begins_at : (version : TextVersion) (plan : PlanModel) (n tick digit : ℕ) (core : CoreId) (left : List (List (List ℕ))) (told : Told) → told ≡ told_after version plan n left → FirstBegins (decimal tick ∷ (digit ∷ []) ∷ []) left → tick < 2 ^ 64 → core.0 ≡ digit - 48
    → BeginsAt tick core told
begins_at version plan n tick digit core [] told t first fits is = absurd first
begins_at version plan n tick digit core (fields ∷ rest) told t first fits is =
    subst (BeginsAt tick core) (sym t) (first_row version plan n tick digit core fields rest first.0 first.1 fits is (row_fault version plan fields) refl)

-- the reader's digit stands for the core of the row that is next
pub begins_next : (version : TextVersion) (plan : PlanModel) (n tick digit : ℕ) (core : CoreId) (text : List ℕ) (old new : Option (List (List (List ℕ)))) (state : ReaderState) (told : Told)
    → state ≡ Rows → left_at state (option_map (told_after version plan n) old) ≡ Some told → KeepsRecords old new → text ≡ decimal tick → tick < 2 ^ 64 → core.0 ≡ digit - 48
    → (is_plain_field text ≡ true → (left : List (List (List ℕ))) → new ≡ Some left → FirstBegins (text ∷ (digit ∷ []) ∷ []) left)
    → BeginsAt tick core told
begins_next version plan n tick digit core text old new state told s h keeps is fits core_is first =
    let left = left_rows (told_after version plan n) state old told s h in
    let plain : is_plain_field text ≡ true = ap is_plain_field is ∙ decimal-field tick fits in
    let here = subst (λ (t : List ℕ). FirstBegins (t ∷ (digit ∷ []) ∷ []) left.0) is (first plain left.0 (keeps left.0 left.1)) in
    begins_at version plan n tick digit core left.0 told left.2 here fits core_is

-- the digit of a core
digit_core : (core digit : ℕ) → 48 + core ≡ digit → digit - 48 ≡ core
digit_core core digit e = omega (arith, e)

pub core_found : (found : Option ℕ) (digit : ℕ) (read core : CoreId) → read.0 ≡ digit - 48 → found ≡ Some (48 + core.0) → found ≡ Some digit → Some read ≡ Some core
core_found found digit read core is there e = ap (λ (c : CoreId). Some c) (same_core read core (is ∙ digit_core core.0 digit (same_Some (48 + core.0) digit (sym there ∙ e))))

pub digit_behind : (found : Option ℕ) (text : List ℕ) (tick core : ℕ) (bytes : List ℕ) → text ≡ decimal tick → ((digit : ℕ) → BeginsWithDigit text digit bytes → found ≡ Some digit) → BeginsWithDigit (decimal tick) (48 + core) bytes → found ≡ Some (48 + core)
digit_behind found text tick core bytes is finds begins = finds (48 + core) (subst (λ (t : List ℕ). BeginsWithDigit t (48 + core) bytes) (sym is) begins)
