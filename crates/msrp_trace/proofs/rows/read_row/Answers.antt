use Rattle.std.proofs.Common.{◌≡◌, ◌==◌, ◌∙◌}
use Rattle.msrp_plan.proofs.Common.{rules, true, false, List, ℕ, length, Option, Some, None, sym, ap, unwrap_or, has_shape, may_carry}
use Rattle.msrp_plan.specs.declared.rows.Kind.TheVariants.{Idle}
use Rattle.msrp_plan.specs.declared.rows.TextVersion.{TextVersion}
use Rattle.csv.specs.Records.{fields_of}
use Rattle.msrp_trace.specs.Rows.{field_count, job_told, kind_told, lacks_name, lacks_number, is_shaped, job_with, res_told, row_told, task_told}
use Rattle.msrp_trace.specs.RowParts.{names_told, numbers_told}
use Rattle.msrp_trace.specs.declared.rows.Names.{Names}
use Rattle.msrp_trace.specs.declared.rows.Numbers.{Numbers}
use Rattle.msrp_trace.proofs.Fields.{Counted, accepted, count_refused, has_told_shape, kind_refused, may_carry_told, none_where, number_refused, refused, shape_known, shape_refused, some_where, told_row}
use Rattle.msrp_trace.proofs.rows.read_row.Goals as goal

pub returns-then-len-field_count : goal.returns-then-len-field_count
returns-then-len-field_count c =
    let fields = fields_of c.args.fields.now in
    let h : (length fields == field_count c.args.version) ≡ false = search rules in
    refused _ (row_told c.args.version c.args.plan.now fields) _ (count_refused c.args.version c.args.plan.now fields h)

-- the numbers of a row whose fields are as many as they should be
counted : (version : TextVersion) (fields : List (List ℕ)) (o : Option Numbers) (n : Numbers) → (length fields == field_count version) ≡ true → o ≡ numbers_told version fields → o ≡ Some n
    → Counted version fields
counted version fields o n count told is = record { count = count; numbers = (some_where (lacks_number version fields) _ n (sym told ∙ is)).0 }

pub returns-in_default : goal.returns-in_default
returns-in_default c =
    let fields = fields_of c.args.fields.now in
    let h : (length fields == field_count c.args.version) ≡ true = search rules in
    let none : numbers_told c.args.version fields ≡ None = search rules in
    refused _ (row_told c.args.version c.args.plan.now fields) _ (number_refused c.args.version c.args.plan.now fields h (none_where (lacks_number c.args.version fields) _ none))

pub returns-in_default-kind_told : goal.returns-in_default-kind_told
returns-in_default-kind_told c =
    let fields = fields_of c.args.fields.now in
    let h : (length fields == field_count c.args.version) ≡ true = search rules in
    let none : kind_told fields ≡ None = search rules in
    let good = counted c.args.version fields _ c.in-Some.numbers h c.numbers_told.ensures c.in-Some.is in
    refused _ (row_told c.args.version c.args.plan.now fields) _ (kind_refused c.args.version c.args.plan.now fields good none)

pub returns-then-not-is_shaped : goal.returns-then-not-is_shaped
returns-then-not-is_shaped c =
    let fields = fields_of c.args.fields.now in
    let h : (length fields == field_count c.args.version) ≡ true = search rules in
    let good = counted c.args.version fields _ c.in-Some.numbers h c.numbers_told.ensures c.in-Some.is in
    let shape : is_shaped c.args.version fields c.in-Some-kind_told.kind ≡ false = search rules in
    refused _ (row_told c.args.version c.args.plan.now fields) _ (shape_refused c.args.version c.args.plan.now fields c.in-Some-kind_told.kind good (sym c.kind_told.ensures ∙ c.in-Some-kind_told.is) shape)

pub returns-in_default-names_told : goal.returns-in_default-names_told
returns-in_default-names_told c =
    let fields = fields_of c.args.fields.now in
    let h : (length fields == field_count c.args.version) ≡ true = search rules in
    let good = counted c.args.version fields _ c.in-Some.numbers h c.numbers_told.ensures c.in-Some.is in
    let shape : is_shaped c.args.version fields c.in-Some-kind_told.kind ≡ true = search rules in
    let none : names_told c.args.plan.now fields ≡ None = search rules in
    refused _ (row_told c.args.version c.args.plan.now fields) _
    (shape_known c.args.version c.args.plan.now fields c.in-Some-kind_told.kind true good (sym c.kind_told.ensures ∙ c.in-Some-kind_told.is) shape (none_where (lacks_name c.args.plan.now fields) _ none))

pub row_with-requires-clause-shape : goal.row_with-requires-clause-shape
row_with-requires-clause-shape c =
    let fields = fields_of c.args.fields.now in
    let shape : is_shaped c.args.version fields c.in-Some-kind_told.kind ≡ true = search rules in
    let numbers = some_where (lacks_number c.args.version fields) _ c.in-Some.numbers (sym c.numbers_told.ensures ∙ c.in-Some.is) in
    let names = some_where (lacks_name c.args.plan.now fields) _ c.in-Some-names_told.names (sym c.names_told.ensures ∙ c.in-Some-names_told.is) in
    ap (λ (n : Names). has_shape c.in-Some-kind_told.kind (job_with n.task c.in-Some.numbers.job) n.res) (sym names.1)
    ∙ (ap (λ (n : Numbers). has_shape c.in-Some-kind_told.kind (job_with (unwrap_or (task_told c.args.plan.now fields) None) n.job) (unwrap_or (res_told c.args.plan.now fields) None)) (sym numbers.1)
    ∙ has_told_shape c.args.version c.args.plan.now fields c.in-Some-kind_told.kind shape numbers.0 names.0)

pub row_with-requires-clause-carrier : goal.row_with-requires-clause-carrier
row_with-requires-clause-carrier c =
    let fields = fields_of c.args.fields.now in
    let shape : is_shaped c.args.version fields c.in-Some-kind_told.kind ≡ true = search rules in
    let numbers = some_where (lacks_number c.args.version fields) _ c.in-Some.numbers (sym c.numbers_told.ensures ∙ c.in-Some.is) in
    ap (λ (n : Numbers). may_carry c.in-Some-kind_told.kind n.ahead) (sym numbers.1) ∙ may_carry_told c.args.version c.args.plan.now fields c.in-Some-kind_told.kind shape numbers.0

pub returns : goal.returns
returns c =
    let fields = fields_of c.args.fields.now in
    let h : (length fields == field_count c.args.version) ≡ true = search rules in
    let shape : is_shaped c.args.version fields c.in-Some-kind_told.kind ≡ true = search rules in
    let good = counted c.args.version fields _ c.in-Some.numbers h c.numbers_told.ensures c.in-Some.is in
    let kind : kind_told fields ≡ Some c.in-Some-kind_told.kind = sym c.kind_told.ensures ∙ c.in-Some-kind_told.is in
    let numbers = (some_where (lacks_number c.args.version fields) _ c.in-Some.numbers (sym c.numbers_told.ensures ∙ c.in-Some.is)).1 in
    let names = some_where (lacks_name c.args.plan.now fields) _ c.in-Some-names_told.names (sym c.names_told.ensures ∙ c.in-Some-names_told.is) in
    accepted _ (row_told c.args.version c.args.plan.now fields) c.row_with.result
    (shape_known c.args.version c.args.plan.now fields c.in-Some-kind_told.kind false good kind shape names.0)
    (told_row c.args.version c.args.plan.now fields c.row_with.result (record {
      tick = ap (λ (n : Numbers). n.tick) numbers ∙ sym c.row_with.ensures.tick;
      core = ap (λ (n : Numbers). n.core) numbers ∙ sym c.row_with.ensures.core;
      kind = ap (λ o. unwrap_or o Idle) kind ∙ sym c.row_with.ensures.kind;
      job = ap (λ (n : Names). job_with n.task (unwrap_or (job_told fields) None)) names.1 ∙ (ap (λ (n : Numbers). job_with c.in-Some-names_told.names.task n.job) numbers ∙ sym c.row_with.ensures.job);
      res = ap (λ (n : Names). n.res) names.1 ∙ sym c.row_with.ensures.res;
      ahead = ap (λ (n : Numbers). n.ahead) numbers ∙ sym c.row_with.ensures.ahead;
    }))
