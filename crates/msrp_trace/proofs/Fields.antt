-- What each rule of a row's record makes of it, and the row that it tells.
use Rattle.std.proofs.Common.{◌≡◌, ◌||◌, ◌==◌, ◌∙◌}
use Rattle.msrp_plan.proofs.Common.{ℕ, Bool, true, false, cond, not, List, length, Option, Some, None, Ok, Err, is_none, is_some, unwrap_or, option_map, refl, sym, ap, option_and_then, and_parts, PlanModel, has_shape, may_carry}
use Rattle.msrp_plan.specs.declared.ids.JobId.{JobId}
use Rattle.msrp_plan.specs.declared.ids.ResId.{ResId}
use Rattle.msrp_plan.specs.declared.ids.TaskId.{TaskId}
use Rattle.msrp_plan.specs.declared.rows.Kind.{Kind}
use Rattle.msrp_plan.specs.declared.rows.Kind.TheVariants.{Idle, Run, Queue}
use Rattle.msrp_plan.specs.declared.rows.Row.{Row}
use Rattle.msrp_plan.specs.declared.rows.TextVersion.{TextVersion}
use Rattle.msrp_plan.specs.declared.rows.TextVersion.TheVariants.{V1, V2}
use mathlib.Core.Bool.{Bool-set, true≢false}
use Rattle.csv.specs.Records.{field_at}
use Rattle.msrp_text.specs.Fields.{number_at, number_of}
use Rattle.msrp_trace.specs.Rows.{ahead_told, fault_if, field_count, has_its_ahead, has_parts, is_dash, is_shaped, job_told, job_with, kind_fault, kind_told, lacks_name, lacks_number, res_named, res_told, row_fault, row_if, row_told, row_with, task_named, task_told, told_at}
use Rattle.msrp_trace.specs.RowParts.{Reads}
use Rattle.msrp_trace.specs.declared.faults.TraceFault.{TraceFault}
use Rattle.msrp_trace.specs.declared.faults.TraceFault.TheVariants.{FieldCount, Number, Kind as UnknownKind, Name, Shape}

-- ---- parts that are there or not
pub none_where : {A : Type 0} (lacks : Bool) (a : A) → cond lacks None (Some a) ≡ None → lacks ≡ true
none_where true a e = refl
none_where false a e = absurd (cc)

pub some_where : {A : Type 0} (lacks : Bool) (a b : A) → cond lacks None (Some a) ≡ Some b → (lacks ≡ false) × (a ≡ b)
some_where true a b e = absurd (cc)
some_where false a b e = (refl, cc)

-- ---- the rules in their order
-- the record breaks no rule before its kind is judged
pub record Counted (version : TextVersion) (fields : List (List ℕ)) : Type 0 where
  pub count : (length fields == field_count version) ≡ true
  pub numbers : lacks_number version fields ≡ false

pub count_refused : (version : TextVersion) (plan : PlanModel) (fields : List (List ℕ)) → (length fields == field_count version) ≡ false → row_fault version plan fields ≡ Some FieldCount
unfolding row_fault
count_refused version plan fields h = ap (λ b. fault_if (not b) FieldCount (fault_if (lacks_number version fields) Number (kind_fault version plan fields (kind_told fields)))) h

pub number_refused : (version : TextVersion) (plan : PlanModel) (fields : List (List ℕ)) → (length fields == field_count version) ≡ true → lacks_number version fields ≡ true → row_fault version plan fields ≡ Some Number
unfolding row_fault
number_refused version plan fields h k =
    ap (λ b. fault_if (not b) FieldCount (fault_if (lacks_number version fields) Number (kind_fault version plan fields (kind_told fields)))) h
    ∙ ap (λ b. fault_if b Number (kind_fault version plan fields (kind_told fields))) k

pub counted_fault : (version : TextVersion) (plan : PlanModel) (fields : List (List ℕ)) → Counted version fields → row_fault version plan fields ≡ kind_fault version plan fields (kind_told fields)
unfolding row_fault
counted_fault version plan fields h =
    ap (λ b. fault_if (not b) FieldCount (fault_if (lacks_number version fields) Number (kind_fault version plan fields (kind_told fields)))) h.count
    ∙ ap (λ b. fault_if b Number (kind_fault version plan fields (kind_told fields))) h.numbers

pub kind_refused : (version : TextVersion) (plan : PlanModel) (fields : List (List ℕ)) → Counted version fields → kind_told fields ≡ None → row_fault version plan fields ≡ Some UnknownKind
kind_refused version plan fields h e = counted_fault version plan fields h ∙ ap (kind_fault version plan fields) e

pub kind_known : (version : TextVersion) (plan : PlanModel) (fields : List (List ℕ)) (k : Kind) → Counted version fields → kind_told fields ≡ Some k
    → row_fault version plan fields ≡ fault_if (not (is_shaped version fields k)) Shape (fault_if (lacks_name plan fields) Name None)
kind_known version plan fields k h e = counted_fault version plan fields h ∙ ap (kind_fault version plan fields) e

pub shape_refused : (version : TextVersion) (plan : PlanModel) (fields : List (List ℕ)) (k : Kind) → Counted version fields → kind_told fields ≡ Some k → is_shaped version fields k ≡ false → row_fault version plan fields ≡ Some Shape
shape_refused version plan fields k h e s = kind_known version plan fields k h e ∙ ap (λ b. fault_if (not b) Shape (fault_if (lacks_name plan fields) Name None)) s

pub shape_known : (version : TextVersion) (plan : PlanModel) (fields : List (List ℕ)) (k : Kind) (lacks : Bool) → Counted version fields → kind_told fields ≡ Some k → is_shaped version fields k ≡ true → lacks_name plan fields ≡ lacks
    → row_fault version plan fields ≡ fault_if lacks Name None
shape_known version plan fields k lacks h e s n =
    kind_known version plan fields k h e ∙ (ap (λ b. fault_if (not b) Shape (fault_if (lacks_name plan fields) Name None)) s ∙ ap (λ b. fault_if b Name None) n)

-- what a refused record's reading answers
pub refused : (o : Option TraceFault) (told : Option Row) (fault : TraceFault) → o ≡ Some fault → Reads o told (Err fault)
refused o told fault e = rw e refl

pub accepted : (o : Option TraceFault) (told : Option Row) (r : Row) → o ≡ None → told ≡ Some r → Reads o told (Ok r)
accepted o told r e t = rw e t

-- ---- the row
-- a row is the one of its parts
row_from : (r : Row) (shaped carried : Bool) (s : has_shape r.kind r.job r.res ≡ shaped) (c : may_carry r.kind r.ahead ≡ carried) → row_if r.tick r.core.0 r.kind r.job r.res r.ahead shaped carried s c ≡ Some r
row_from r true true s c = ap (λ e. row_if r.tick r.core.0 r.kind r.job r.res r.ahead true true e c) (Bool-set _ _ s r.shape) ∙ ap (λ e. row_if r.tick r.core.0 r.kind r.job r.res r.ahead true true r.shape e) (Bool-set _ _ c r.carrier)
row_from r true false s c = absurd (true≢false (sym r.carrier ∙ c))
row_from r false true s c = absurd (true≢false (sym r.shape ∙ s))
row_from r false false s c = absurd (true≢false (sym r.shape ∙ s))

pub row_is : (r : Row) → row_with r.tick r.core.0 r.kind r.job r.res r.ahead ≡ Some r
row_is r = row_from r _ _ refl refl

-- a record whose parts are those of a row tells it
pub record Shows (version : TextVersion) (plan : PlanModel) (fields : List (List ℕ)) (r : Row) : Type 0 where
  pub tick : unwrap_or (number_at fields 0) 0 ≡ r.tick
  pub core : unwrap_or (number_at fields 1) 0 ≡ r.core.0
  pub kind : unwrap_or (kind_told fields) Idle ≡ r.kind
  pub job : job_with (unwrap_or (task_told plan fields) None) (unwrap_or (job_told fields) None) ≡ r.job
  pub res : unwrap_or (res_told plan fields) None ≡ r.res
  pub ahead : unwrap_or (ahead_told version fields) None ≡ r.ahead

same_parts : (a b : ℕ) (c d : ℕ) (k l : Kind) (i j : Option JobId) (g h : Option ResId) (m n : Option ℕ) → a ≡ b → c ≡ d → k ≡ l → i ≡ j → g ≡ h → m ≡ n → row_with a c k i g m ≡ row_with b d l j h n
same_parts a b c d k l i j g h m n e1 e2 e3 e4 e5 e6 =
    ap (λ x. row_with x c k i g m) e1 ∙ (ap (λ x. row_with b x k i g m) e2 ∙ (ap (λ x. row_with b d x i g m) e3 ∙ (ap (λ x. row_with b d l x g m) e4 ∙ (ap (λ x. row_with b d l j x m) e5 ∙ ap (λ x. row_with b d l j h x) e6))))

pub told_row : (version : TextVersion) (plan : PlanModel) (fields : List (List ℕ)) (r : Row) → Shows version plan fields r → row_told version plan fields ≡ Some r
unfolding row_told
told_row version plan fields r h = same_parts _ _ _ _ _ _ _ _ _ _ _ _ h.tick h.core h.kind h.job h.res h.ahead ∙ row_is r

-- ---- its shape
-- a part is there just where its field is no dash
there_by : {A : Type 0} (b : Bool) (o : Option A) → is_none (cond b (Some None) (option_map (λ a. Some a) o)) ≡ false → is_some (unwrap_or (cond b (Some None) (option_map (λ a. Some a) o)) None) ≡ not b
there_by true o h = refl
there_by false None h = absurd (cc)
there_by false (Some a) h = refl

pub there : {A : Type 0} (meaning : List ℕ → Option A) (fields : List (List ℕ)) (i : ℕ) → is_none (told_at meaning fields i) ≡ false → is_some (unwrap_or (told_at meaning fields i) None) ≡ not (is_dash fields i)
there meaning fields i h = there_by (is_dash fields i) (option_and_then meaning (field_at fields i)) h

-- the parts of a kind have its shape
shape_of_parts : (k : Kind) (task : Option TaskId) (job : Option ℕ) (res : Option ResId) → has_parts k (is_some task) (is_some job) (is_some res) ≡ true → has_shape k (job_with task job) res ≡ true
shape_of_parts Idle None None None h = refl
shape_of_parts Idle _ _ _ h = absurd (cc)
shape_of_parts Run (Some t) (Some k) None h = refl
shape_of_parts Run _ _ _ h = absurd (cc)
shape_of_parts _ (Some t) (Some k) (Some g) h = refl
shape_of_parts _ _ _ _ h = absurd (cc)

carry_of_ahead : (k : Kind) (ahead : Option ℕ) → has_its_ahead V2 k (is_some ahead) ≡ true → may_carry k ahead ≡ true
carry_of_ahead k None h = refl
carry_of_ahead Queue (Some n) h = refl
carry_of_ahead _ (Some n) h = absurd (cc)

-- the numbers and the names that a record must have are there
record AllThere (version : TextVersion) (plan : PlanModel) (fields : List (List ℕ)) : Type 0 where
  tick : is_none (number_at fields 0) ≡ false
  core : is_none (number_at fields 1) ≡ false
  job : is_none (job_told fields) ≡ false
  ahead : is_none (ahead_told version fields) ≡ false
  task : is_none (task_told plan fields) ≡ false
  res : is_none (res_told plan fields) ≡ false

neither : (a b : Bool) → (a || b) ≡ false → (a ≡ false) × (b ≡ false)
neither true b h = absurd (cc)
neither false b h = (refl, h)

all_there : (version : TextVersion) (plan : PlanModel) (fields : List (List ℕ)) → lacks_number version fields ≡ false → lacks_name plan fields ≡ false → AllThere version plan fields
all_there version plan fields h k =
    let a = neither (is_none (number_at fields 0)) (is_none (number_at fields 1) || (is_none (job_told fields) || is_none (ahead_told version fields))) h in
    let b = neither (is_none (number_at fields 1)) (is_none (job_told fields) || is_none (ahead_told version fields)) a.1 in
    let d = neither (is_none (job_told fields)) (is_none (ahead_told version fields)) b.1 in
    let n = neither (is_none (task_told plan fields)) (is_none (res_told plan fields)) k in
    record { tick = a.0; core = b.0; job = d.0; ahead = d.1; task = n.0; res = n.1 }

carried_at : (version : TextVersion) (fields : List (List ℕ)) (k : Kind) → is_none (ahead_told version fields) ≡ false → has_its_ahead version k (not (is_dash fields 6)) ≡ true → may_carry k (unwrap_or (ahead_told version fields) None) ≡ true
carried_at V1 fields k there_is h = refl
carried_at V2 fields k there_is h = carry_of_ahead k (unwrap_or (ahead_told V2 fields) None) (ap (has_its_ahead V2 k) (there number_of fields 6 there_is) ∙ h)

-- so what a record of the right shape tells has that shape
pub has_told_shape : (version : TextVersion) (plan : PlanModel) (fields : List (List ℕ)) (k : Kind) → is_shaped version fields k ≡ true → lacks_number version fields ≡ false → lacks_name plan fields ≡ false
    → has_shape k (job_with (unwrap_or (task_told plan fields) None) (unwrap_or (job_told fields) None)) (unwrap_or (res_told plan fields) None) ≡ true
has_told_shape version plan fields k s h n =
    let all = all_there version plan fields h n in
    let both = and_parts (has_parts k (not (is_dash fields 3)) (not (is_dash fields 4)) (not (is_dash fields 5))) (has_its_ahead version k (not (is_dash fields 6))) s in
    let t = there (task_named plan) fields 3 all.task in
    let j = there number_of fields 4 all.job in
    let g = there (res_named plan) fields 5 all.res in
    shape_of_parts k (unwrap_or (task_told plan fields) None) (unwrap_or (job_told fields) None) (unwrap_or (res_told plan fields) None)
    (ap (λ b. has_parts k b (is_some (unwrap_or (job_told fields) None)) (is_some (unwrap_or (res_told plan fields) None))) t
    ∙ (ap (λ b. has_parts k (not (is_dash fields 3)) b (is_some (unwrap_or (res_told plan fields) None))) j
    ∙ (ap (λ b. has_parts k (not (is_dash fields 3)) (not (is_dash fields 4)) b) g ∙ both.0)))

pub may_carry_told : (version : TextVersion) (plan : PlanModel) (fields : List (List ℕ)) (k : Kind) → is_shaped version fields k ≡ true → lacks_number version fields ≡ false → may_carry k (unwrap_or (ahead_told version fields) None) ≡ true
may_carry_told version plan fields k s h =
    let a = neither (is_none (number_at fields 0)) (is_none (number_at fields 1) || (is_none (job_told fields) || is_none (ahead_told version fields))) h in
    let b = neither (is_none (number_at fields 1)) (is_none (job_told fields) || is_none (ahead_told version fields)) a.1 in
    let d = neither (is_none (job_told fields)) (is_none (ahead_told version fields)) b.1 in
    let both = and_parts (has_parts k (not (is_dash fields 3)) (not (is_dash fields 4)) (not (is_dash fields 5))) (has_its_ahead version k (not (is_dash fields 6))) s in
    carried_at version fields k d.1 both.1
