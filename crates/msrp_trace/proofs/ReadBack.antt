-- What is written of rows reads back as those rows.
use Rattle.std.proofs.Common.{◌≡◌, ◌+◌, ◌<◌, ◌==◌, ◌&&◌, ◌||◌, ◌∷◌, ◌++◌, ◌∙◌}
use Rattle.msrp_plan.proofs.Common.{ℕ, not, true, false, cond, List, [], map, length, decimal, Option, Some, None, is_none, is_some, option_map, unwrap_or, refl, ap, sym, subst, arith, nat_lt, slice_index_or, AllByRecursion, flat_map, list_all, bytes_eq, and_parts, and_from, false_from_ne_true, nat_tests, get_or-map, length-map, slice_get-get_or, carries_ahead, carries_its_ahead, is_name, PlanModel, TaskModel, no_task, task_at, task_of, has_shape, is_queue, may_carry, IsRunStart, IsPlan}
use Rattle.msrp_plan.specs.declared.ids.JobId.{JobId}
use Rattle.msrp_plan.specs.declared.ids.ResId.{ResId}
use Rattle.msrp_plan.specs.declared.rows.Kind.{Kind}
use Rattle.msrp_plan.specs.declared.rows.Kind.TheVariants.{Idle, Run, Lock, Unlock, Take, Queue, Spin, Grant, Release}
use Rattle.msrp_plan.specs.declared.rows.Row.{Row}
use Rattle.msrp_plan.specs.declared.rows.TextVersion.{TextVersion}
use Rattle.msrp_plan.specs.declared.rows.TextVersion.TheVariants.{V1, V2}
use mathlib.Core.Bool.{true≢false}
use Rattle.csv.specs.Reading.{strip_bom}
use Rattle.csv.specs.Records.{field_at}
use Rattle.csv.specs.declared.parser.State.TheVariants as st
use Rattle.msrp_plan.specs.Aheads.{without_ahead}
use Rattle.msrp_plan.specs.Words.{kind_text}
use Rattle.msrp_text.specs.Fields.{number_at, number_of}
use Rattle.msrp_text.specs.Plain.{is_plain, split_commas}
use Rattle.msrp_text.specs.PlanText.{records_text, version_text}
use Rattle.msrp_text.specs.Records.{csv_records, records_at}
use Rattle.msrp_text.proofs.MetLines.{met-line}
use Rattle.msrp_text.proofs.Numerals.{number_again, plain_decimal}
use Rattle.msrp_text.proofs.Plain.{IsPlain, IsPlainRecord, plain_back, plain_name}
use Rattle.msrp_text.proofs.ReadBack.{all_made}
use Rattle.msrp_trace.specs.Laws.{as_read, has_short_ahead, has_short_job, has_short_numbers, has_told_ahead, is_short, is_told_whole}
use Rattle.msrp_trace.specs.Reading.{Told, rows_of, told_after}
use Rattle.msrp_trace.specs.Rows.{ahead_told, field_count, has_its_ahead, has_parts, is_dash, is_shaped, job_told, job_with, kind_named, kind_told, lacks_name, lacks_number, res_named, res_told, row_fault, row_told, task_named, task_told, version_told}
use Rattle.msrp_trace.specs.TraceText.{ahead_fields, ahead_text, dash, head_fields, head_text, is_named, is_res_of, is_task_of, job_text, res_text, row_fields, row_text, task_text, trace_text, trace_word}
use Rattle.msrp_trace.proofs.Fields.{shape_known, told_row}
use Rattle.msrp_trace.proofs.NamedRows.{run_named, run_short}
use Rattle.msrp_trace.proofs.Names.{same_bytes, task_found, res_found}
use Rattle.msrp_trace.proofs.Telling.{rows_first, told_end, told_more}

-- ---- records as text
same_rows : (version : TextVersion) (plan : PlanModel) (rows : List Row) → flat_map (row_text version plan) rows ≡ records_text (map (row_fields version plan) rows)
same_rows version plan [] = refl
same_rows version plan (r ∷ rows) = ap (λ text. row_text version plan r ++ text) (same_rows version plan rows)

-- the records of a trace
abbrev trace_records : TextVersion → PlanModel → List Row → List (List (List ℕ))
trace_records version plan rows = head_fields version plan ∷ map (row_fields version plan) rows

same_trace : (version : TextVersion) (plan : PlanModel) (rows : List Row) → trace_text version plan rows ≡ records_text (trace_records version plan rows)
same_trace version plan rows = ap (λ text. head_text version plan ++ text) (same_rows version plan rows)

-- ---- fields
self_eq : (n : ℕ) → (n == n) ≡ true
self_eq n = grind (arith, nat_tests)

dash_itself : bytes_eq dash dash ≡ true
unfolding dash
dash_itself = refl

-- a dash is neither a name nor a number
name_no_dash : (name : List ℕ) → is_name name ≡ true → bytes_eq name dash ≡ false
unfolding dash
name_no_dash name h = false_from_ne_true (bytes_eq name dash) (λ e. let same : name ≡ dash = same_bytes name dash e in true≢false (sym h ∙ ap is_name same))

number_no_dash : (text : List ℕ) (n : ℕ) → number_of text ≡ Some n → bytes_eq text dash ≡ false
unfolding dash
number_no_dash text n h = false_from_ne_true (bytes_eq text dash) (λ e. let same : text ≡ dash = same_bytes text dash e in let k : Some n ≡ None = sym h ∙ ap number_of same in cc)

-- what a field tells
abbrev told : {A : Type 0} → (List ℕ → Option A) → List ℕ → Option (Option A)
told meaning field = cond (bytes_eq field dash) (Some None) (option_map (λ a. Some a) (meaning field))

told_none : {A : Type 0} (meaning : List ℕ → Option A) → told meaning dash ≡ Some None
told_none meaning = ap (λ b. cond b (Some None) (option_map (λ a. Some a) (meaning dash))) dash_itself

told_some : {A : Type 0} (meaning : List ℕ → Option A) (field : List ℕ) (a : A) → bytes_eq field dash ≡ false → meaning field ≡ Some a → told meaning field ≡ Some (Some a)
told_some meaning field a h e = ap (λ b. cond b (Some None) (option_map (λ x. Some x) (meaning field))) h ∙ ap (option_map (λ x. Some x)) e

short_back : (n : ℕ) → is_short n ≡ true → number_of (decimal n) ≡ Some n
short_back n h = number_again n (grind (arith, nat_tests, h))

-- a field that may be a dash tells what was written, and is a dash where nothing was
record Tells {A : Type 0} (meaning : List ℕ → Option A) (field : List ℕ) (o : Option A) : Type 0 where
  tells : told meaning field ≡ Some o
  there : not (bytes_eq field dash) ≡ is_some o

tells_none : {A : Type 0} (meaning : List ℕ → Option A) → Tells meaning dash None
tells_none meaning = record { tells = told_none meaning; there = ap not dash_itself }

tells_some : {A : Type 0} (meaning : List ℕ → Option A) (field : List ℕ) (a : A) → bytes_eq field dash ≡ false → meaning field ≡ Some a → Tells meaning field (Some a)
tells_some meaning field a h e = record { tells = told_some meaning field a h e; there = ap not h }

tells_number : (n : ℕ) → is_short n ≡ true → Tells number_of (decimal n) (Some n)
tells_number n h = let again = short_back n h in tells_some number_of (decimal n) n (number_no_dash (decimal n) n again) again

-- ---- names
task_name_is : (plan : PlanModel) (t : ℕ) → IsPlan plan → t < length plan.tasks → is_name (task_at plan t).name ≡ true
task_name_is plan t ok past =
    let size = length-map plan.tasks (λ (u : TaskModel). u.name) in
    subst (λ name. is_name name ≡ true) (get_or-map (λ (u : TaskModel). u.name) plan.tasks t no_task [] past) (ok.draft.task_names.named t [] (omega (arith, size, past)))

known_at : (n m : ℕ) → nat_lt n m ≡ true → n < m
known_at n m h = grind (arith, nat_tests, h)

task_tells : (plan : PlanModel) (job : Option JobId) → IsPlan plan → is_task_of plan job ≡ true → Tells (task_named plan) (task_text plan job) (option_map (λ j. j.task) job)
task_tells plan None ok h = tells_none (task_named plan)
task_tells plan (Some j) ok h =
    let past = known_at j.task.0 (length plan.tasks) h in
    let name : List ℕ = (task_of plan j).name in
    tells_some (task_named plan) name j.task (name_no_dash name (task_name_is plan j.task.0 ok past)) (task_found plan j.task name ok past refl)

job_tells : (job : Option JobId) → has_short_job job ≡ true → Tells number_of (job_text job) (option_map (λ j. j.k) job)
job_tells None h = tells_none number_of
job_tells (Some j) h = tells_number j.k h

res_tells : (plan : PlanModel) (res : Option ResId) → IsPlan plan → is_res_of plan res ≡ true → Tells (res_named plan) (res_text plan res) res
res_tells plan None ok h = tells_none (res_named plan)
res_tells plan (Some g) ok h =
    let past = known_at g.0 (length plan.resources) h in
    let name : List ℕ = slice_index_or plan.resources g.0 [] in
    tells_some (res_named plan) name g (name_no_dash name (ok.draft.resource_names.named g.0 [] past)) (res_found plan g name ok (slice_get-get_or plan.resources g.0 [] past))

ahead_tells : (ahead : Option ℕ) → has_short_ahead ahead ≡ true → Tells number_of (ahead_text ahead) ahead
ahead_tells None h = tells_none number_of
ahead_tells (Some n) h = tells_number n h

kind_back : (k : Kind) → kind_named (kind_text k) ≡ Some k
unfolding kind_named kind_text
kind_back Idle = refl
kind_back Run = refl
kind_back Lock = refl
kind_back Unlock = refl
kind_back Take = refl
kind_back Queue = refl
kind_back Spin = refl
kind_back Grant = refl
kind_back Release = refl

-- ---- a row
-- what the fields of a row tell
record TellsRow (version : TextVersion) (plan : PlanModel) (fields : List (List ℕ)) (r : Row) : Type 0 where
  count : (length fields == field_count version) ≡ true
  tick : number_at fields 0 ≡ Some r.tick
  core : number_at fields 1 ≡ Some r.core.0
  kind : kind_told fields ≡ Some r.kind
  task : task_told plan fields ≡ Some (option_map (λ j. j.task) r.job)
  job : job_told fields ≡ Some (option_map (λ j. j.k) r.job)
  res : res_told plan fields ≡ Some r.res
  ahead : ahead_told version fields ≡ Some r.ahead
  has_task : not (is_dash fields 3) ≡ is_some r.job
  has_job : not (is_dash fields 4) ≡ is_some r.job
  has_res : not (is_dash fields 5) ≡ is_some r.res
  has_ahead : has_its_ahead version r.kind (not (is_dash fields 6)) ≡ true

job_again : (job : Option JobId) → job_with (option_map (λ j. j.task) job) (option_map (λ j. j.k) job) ≡ job
job_again None = refl
job_again (Some j) = refl

as_there : {A B : Type 0} (f : A → B) (o : Option A) → is_some (option_map f o) ≡ is_some o
as_there f None = refl
as_there f (Some a) = refl

parts_of_shape : (k : Kind) (job : Option JobId) (res : Option ResId) → has_shape k job res ≡ true → has_parts k (is_some job) (is_some job) (is_some res) ≡ true
parts_of_shape Idle None None h = refl
parts_of_shape Idle _ _ h = absurd (cc)
parts_of_shape Run (Some j) None h = refl
parts_of_shape Run _ _ h = absurd (cc)
parts_of_shape _ (Some j) (Some g) h = refl
parts_of_shape _ _ _ h = absurd (cc)

-- so they break no rule
row_kept : (version : TextVersion) (plan : PlanModel) (fields : List (List ℕ)) (r : Row) → TellsRow version plan fields r → row_fault version plan fields ≡ None
row_kept version plan fields r h =
    let numbers : lacks_number version fields ≡ false = rw (h.tick, h.core, h.job, h.ahead) refl in
    let parts : has_parts r.kind (not (is_dash fields 3)) (not (is_dash fields 4)) (not (is_dash fields 5)) ≡ true = rw (h.has_task, h.has_job, h.has_res) (parts_of_shape r.kind r.job r.res r.shape) in
    let shaped : is_shaped version fields r.kind ≡ true = and_from _ _ parts h.has_ahead in
    let names : lacks_name plan fields ≡ false = rw (h.task, h.res) refl in
    shape_known version plan fields r.kind false (record { count = h.count; numbers = numbers }) h.kind shaped names

-- and tell the row
row_again : (version : TextVersion) (plan : PlanModel) (fields : List (List ℕ)) (r : Row) → TellsRow version plan fields r → row_told version plan fields ≡ Some r
row_again version plan fields r h = told_row version plan fields r (record {
  tick = ap (λ o. unwrap_or o 0) h.tick;
  core = ap (λ o. unwrap_or o 0) h.core;
  kind = ap (λ o. unwrap_or o Idle) h.kind;
  job = ap (λ o. job_with (unwrap_or o None) (unwrap_or (job_told fields) None)) h.task ∙ (ap (λ o. job_with (option_map (λ j. j.task) r.job) (unwrap_or o None)) h.job ∙ job_again r.job);
  res = ap (λ o. unwrap_or o None) h.res;
  ahead = ap (λ o. unwrap_or o None) h.ahead;
})

-- ---- the fields of a row as they are written
-- version 1 has no ahead to tell, and version 2 tells that of each queue row
abbrev IsCarried : TextVersion → Row → Type 0
IsCarried V1 r = r.ahead ≡ None
IsCarried V2 r = (carries_its_ahead r ≡ true) × (has_short_ahead r.ahead ≡ true)

carried_its : (k : Kind) (ahead : Option ℕ) → may_carry k ahead ≡ true → (not (is_queue k) || is_some ahead) ≡ true → has_its_ahead V2 k (is_some ahead) ≡ true
carried_its Queue None may has = absurd (cc)
carried_its Queue (Some n) may has = refl
carried_its _ None may has = refl
carried_its _ (Some n) may has = absurd (cc)

count_back : (version : TextVersion) (a b c d e f : List ℕ) (ahead : Option ℕ) → (length (a ∷ b ∷ c ∷ d ∷ e ∷ f ∷ ahead_fields version ahead) == field_count version) ≡ true
count_back V1 a b c d e f ahead = refl
count_back V2 a b c d e f ahead = refl

ahead_back : (version : TextVersion) (a b c d e f : List ℕ) (r : Row) → IsCarried version r → ahead_told version (a ∷ b ∷ c ∷ d ∷ e ∷ f ∷ ahead_fields version r.ahead) ≡ Some r.ahead
unfolding field_at
ahead_back V1 a b c d e f r h = ap (λ o. Some o) (sym h)
ahead_back V2 a b c d e f r h = (ahead_tells r.ahead h.1).tells

its_back : (version : TextVersion) (a b c d e f : List ℕ) (r : Row) → IsCarried version r → has_its_ahead version r.kind (not (is_dash (a ∷ b ∷ c ∷ d ∷ e ∷ f ∷ ahead_fields version r.ahead) 6)) ≡ true
unfolding field_at
its_back V1 a b c d e f r h = refl
its_back V2 a b c d e f r h = ap (has_its_ahead V2 r.kind) (ahead_tells r.ahead h.1).there ∙ carried_its r.kind r.ahead r.carrier h.0

-- a row that can be written, but for what its version makes of the ahead
record IsShort (plan : PlanModel) (r : Row) : Type 0 where
  named : is_named plan r ≡ true
  tick : is_short r.tick ≡ true
  core : is_short r.core.0 ≡ true
  job : has_short_job r.job ≡ true

row_tells : (version : TextVersion) (plan : PlanModel) (r : Row) → IsPlan plan → IsShort plan r → IsCarried version r → TellsRow version plan (row_fields version plan r) r
unfolding field_at
row_tells version plan r ok h carried =
    let both = and_parts (is_task_of plan r.job) (is_res_of plan r.res) h.named in
    let task = task_tells plan r.job ok both.0 in
    let job = job_tells r.job h.job in
    let res = res_tells plan r.res ok both.1 in
    record {
      count = count_back version (decimal r.tick) (decimal r.core.0) (kind_text r.kind) (task_text plan r.job) (job_text r.job) (res_text plan r.res) r.ahead;
      tick = short_back r.tick h.tick;
      core = short_back r.core.0 h.core;
      kind = kind_back r.kind;
      task = task.tells;
      job = job.tells;
      res = res.tells;
      ahead = ahead_back version (decimal r.tick) (decimal r.core.0) (kind_text r.kind) (task_text plan r.job) (job_text r.job) (res_text plan r.res) r carried;
      has_task = task.there ∙ as_there (λ (j : JobId). j.task) r.job;
      has_job = job.there ∙ as_there (λ (j : JobId). j.k) r.job;
      has_res = res.there;
      has_ahead = its_back version (decimal r.tick) (decimal r.core.0) (kind_text r.kind) (task_text plan r.job) (job_text r.job) (res_text plan r.res) r carried;
    }

-- ---- all rows
-- a row as the law has it
record IsWritten (version : TextVersion) (plan : PlanModel) (r : Row) : Type 0 where
  named : is_named plan r ≡ true
  short : has_short_numbers r ≡ true
  carries : version ≡ V2 → carries_its_ahead r ≡ true

-- the fields of the row that is read are those of the row that was written
same_fields : (version : TextVersion) (plan : PlanModel) (r : Row) → row_fields version plan r ≡ row_fields version plan (as_read version r)
same_fields V1 plan r = refl
same_fields V2 plan r = refl

read_tells : (version : TextVersion) (plan : PlanModel) (r : Row) → IsPlan plan → IsWritten version plan r → TellsRow version plan (row_fields version plan (as_read version r)) (as_read version r)
read_tells version plan r ok h =
    let a = and_parts (is_short r.tick) (is_short r.core.0 && (has_short_job r.job && has_short_ahead r.ahead)) h.short in
    let b = and_parts (is_short r.core.0) (has_short_job r.job && has_short_ahead r.ahead) a.1 in
    let c = and_parts (has_short_job r.job) (has_short_ahead r.ahead) b.1 in
    by version h.carries a.0 b.0 c.0 c.1
  where
    by : (v : TextVersion) → (v ≡ V2 → carries_its_ahead r ≡ true) → is_short r.tick ≡ true → is_short r.core.0 ≡ true → has_short_job r.job ≡ true → has_short_ahead r.ahead ≡ true → TellsRow v plan (row_fields v plan (as_read v r)) (as_read v r)
    by V1 carries tick core job ahead = row_tells V1 plan (without_ahead r) ok (record { named = h.named; tick = tick; core = core; job = job }) refl
    by V2 carries tick core job ahead = row_tells V2 plan r ok (record { named = h.named; tick = tick; core = core; job = job }) (carries refl, ahead)

rows_again : (version : TextVersion) (plan : PlanModel) (n : ℕ) (rows : List Row) → IsPlan plan → AllByRecursion (IsWritten version plan) rows
    → told_after version plan n (map (row_fields version plan) rows) ≡ record { rows = map (as_read version) rows; refusal = None }
rows_again version plan n [] ok all = told_end version plan n
rows_again version plan n (r ∷ rows) ok all =
    let tells = read_tells version plan r ok all.0 in
    let s : Row = as_read version r in
    ap (λ fields. told_after version plan n (fields ∷ map (row_fields version plan) rows)) (same_fields version plan r)
    ∙ (told_more version plan n (row_fields version plan s) (map (row_fields version plan) rows) s (row_kept version plan _ s tells) (row_again version plan _ s tells)
    ∙ ap (λ (t : Told). record { rows = s ∷ t.rows; refusal = t.refusal }) (rows_again version plan (n + 1) rows ok all.1))

-- ---- the first record
head_again : (version : TextVersion) (plan : PlanModel) → IsPlan plan → version_told plan (head_fields version plan) ≡ Some version
unfolding field_at trace_word
head_again version plan ok =
    let few = ok.draft.cores.1 in
    let soon = ok.draft.ticks.1 in
    let cores : number_of (decimal plan.cores) ≡ Some plan.cores = number_again plan.cores (omega (arith, few)) in
    let ticks : number_of (decimal plan.ticks) ≡ Some plan.ticks = number_again plan.ticks (omega (arith, soon)) in
    by version cores ticks
  where
    by : (v : TextVersion) → number_of (decimal plan.cores) ≡ Some plan.cores → number_of (decimal plan.ticks) ≡ Some plan.ticks → version_told plan (head_fields v plan) ≡ Some v
    by V1 cores ticks = rw (cores, ticks, self_eq plan.cores, self_eq plan.ticks) refl
    by V2 cores ticks = rw (cores, ticks, self_eq plan.cores, self_eq plan.ticks) refl

records_again : (version : TextVersion) (plan : PlanModel) (rows : List Row) → IsPlan plan → AllByRecursion (IsWritten version plan) rows → rows_of plan (trace_records version plan rows) ≡ record { rows = map (as_read version) rows; refusal = None }
records_again version plan rows ok all =
    rows_first plan (head_fields version plan) (map (row_fields version plan) rows) version (head_again version plan ok) ∙ rows_again version plan 1 rows ok all

-- ---- each field of a row is a dash, the word of a kind, a number or a name
module _ (P : List ℕ → Type 0) (dashed : P dash) (worded : (k : Kind) → P (kind_text k)) (numbered : (n : ℕ) → is_short n ≡ true → P (decimal n)) (named : (name : List ℕ) → is_name name ≡ true → P name) where
  each_task : (plan : PlanModel) (job : Option JobId) → IsPlan plan → is_task_of plan job ≡ true → P (task_text plan job)
  each_task plan None ok h = dashed
  each_task plan (Some j) ok h = named (task_of plan j).name (task_name_is plan j.task.0 ok (known_at j.task.0 (length plan.tasks) h))

  each_job : (job : Option JobId) → has_short_job job ≡ true → P (job_text job)
  each_job None h = dashed
  each_job (Some j) h = numbered j.k h

  each_res : (plan : PlanModel) (res : Option ResId) → IsPlan plan → is_res_of plan res ≡ true → P (res_text plan res)
  each_res plan None ok h = dashed
  each_res plan (Some g) ok h = named (slice_index_or plan.resources g.0 []) (ok.draft.resource_names.named g.0 [] (known_at g.0 (length plan.resources) h))

  each_ahead : (version : TextVersion) (ahead : Option ℕ) → has_short_ahead ahead ≡ true → AllByRecursion P (ahead_fields version ahead)
  each_ahead V1 ahead h = tt
  each_ahead V2 None h = (dashed, tt)
  each_ahead V2 (Some n) h = (numbered n h, tt)

  each_field : (version : TextVersion) (plan : PlanModel) (r : Row) → IsPlan plan → is_named plan r ≡ true → has_short_numbers r ≡ true → AllByRecursion P (row_fields version plan r)
  each_field version plan r ok known short =
      let both = and_parts (is_task_of plan r.job) (is_res_of plan r.res) known in
      let a = and_parts (is_short r.tick) (is_short r.core.0 && (has_short_job r.job && has_short_ahead r.ahead)) short in
      let b = and_parts (is_short r.core.0) (has_short_job r.job && has_short_ahead r.ahead) a.1 in
      let c = and_parts (has_short_job r.job) (has_short_ahead r.ahead) b.1 in
      (numbered r.tick a.0, (numbered r.core.0 b.0, (worded r.kind, (each_task plan r.job ok both.0, (each_job r.job c.0, (each_res plan r.res ok both.1, each_ahead version r.ahead c.1))))))

-- ---- each record is plain
plain_dash : IsPlain dash
unfolding dash
plain_dash = refl

plain_short : (n : ℕ) → is_short n ≡ true → IsPlain (decimal n)
plain_short n h = let low : n < 1000000000 = grind (arith, nat_tests, h) in plain_decimal n (omega (arith, low))

plain_kind : (k : Kind) → IsPlain (kind_text k)
unfolding kind_text
plain_kind Idle = refl
plain_kind Run = refl
plain_kind Lock = refl
plain_kind Unlock = refl
plain_kind Take = refl
plain_kind Queue = refl
plain_kind Spin = refl
plain_kind Grant = refl
plain_kind Release = refl

plain_row : (version : TextVersion) (plan : PlanModel) (r : Row) → IsPlan plan → IsWritten version plan r → IsPlainRecord (row_fields version plan r)
plain_row version plan r ok h = (omega arith, each_field IsPlain plain_dash plain_kind plain_short plain_name version plan r ok h.named h.short)

-- ---- one row
-- a row that is told whole
whole_tells : (version : TextVersion) (plan : PlanModel) (r : Row) → IsPlan plan → is_told_whole version plan r ≡ true → TellsRow version plan (row_fields version plan r) r
whole_tells version plan r ok h =
    let parts = and_parts (is_named plan r) (has_short_numbers r && has_told_ahead version r) h in
    let more = and_parts (has_short_numbers r) (has_told_ahead version r) parts.1 in
    let a = and_parts (is_short r.tick) (is_short r.core.0 && (has_short_job r.job && has_short_ahead r.ahead)) more.0 in
    let b = and_parts (is_short r.core.0) (has_short_job r.job && has_short_ahead r.ahead) a.1 in
    let c = and_parts (has_short_job r.job) (has_short_ahead r.ahead) b.1 in
    row_tells version plan r ok (record { named = parts.0; tick = a.0; core = b.0; job = c.0 }) (by version more.1 c.1)
  where
    none_is : (o : Option ℕ) → is_none o ≡ true → o ≡ None
    none_is None e = refl
    none_is (Some n) e = absurd (cc)

    by : (v : TextVersion) → has_told_ahead v r ≡ true → has_short_ahead r.ahead ≡ true → IsCarried v r
    by V1 told short = none_is r.ahead told
    by V2 told short = (told, short)

-- its record is read as that row
pub whole_read : (version : TextVersion) (plan : PlanModel) (r : Row) → IsPlan plan → is_told_whole version plan r ≡ true → (row_fault version plan (row_fields version plan r) ≡ None) × (row_told version plan (row_fields version plan r) ≡ Some r)
whole_read version plan r ok h =
    let tells = whole_tells version plan r ok h in
    (row_kept version plan _ r tells, row_again version plan _ r tells)

-- and is a plain line
pub whole_line : (version : TextVersion) (plan : PlanModel) (r : Row) (line : List ℕ) → IsPlan plan → is_told_whole version plan r ≡ true → line ++ (10 ∷ []) ≡ row_text version plan r
    → (is_plain line ≡ true) × (split_commas line ≡ row_fields version plan r)
whole_line version plan r line ok h e =
    let parts = and_parts (is_named plan r) (has_short_numbers r && has_told_ahead version r) h in
    let more = and_parts (has_short_numbers r) (has_told_ahead version r) parts.1 in
    let short = and_parts (is_short r.tick) (is_short r.core.0 && (has_short_job r.job && has_short_ahead r.ahead)) more.0 in
    let low : r.tick < 1000000000 = let n = short.0 in grind (arith, nat_tests, n) in
    let plain = plain_row version plan r ok (record { named = parts.0; short = more.0; carries = by version more.1 }) in
    met-line r.tick _ line (omega (arith, low)) (omega (arith, plain.0)) plain.1.1 e
  where
    by : (v : TextVersion) → has_told_ahead v r ≡ true → v ≡ V2 → carries_its_ahead r ≡ true
    by V1 told e = absurd (cc)
    by V2 told e = told

-- ---- how long a row's text is

-- ---- the first record of a text
plain_head : (version : TextVersion) (plan : PlanModel) → IsPlan plan → IsPlainRecord (head_fields version plan)
unfolding trace_word
plain_head version plan ok =
    let few = ok.draft.cores.1 in
    let soon = ok.draft.ticks.1 in
    (omega arith, (refl, (by version, (plain_decimal plan.cores (omega (arith, few)), (plain_decimal plan.ticks (omega (arith, soon)), tt)))))
  where
    by : (v : TextVersion) → IsPlain (version_text v)
    by V1 = refl
    by V2 = refl

-- ---- the text
-- it doesn't begin with a byte order mark
no_mark : (version : TextVersion) (plan : PlanModel) (rows : List Row) → strip_bom (records_text (trace_records version plan rows)) ≡ records_text (trace_records version plan rows)
unfolding trace_word strip_bom
no_mark version plan rows = refl

text_records : (version : TextVersion) (plan : PlanModel) (rows : List Row) → IsPlan plan → AllByRecursion (IsWritten version plan) rows → csv_records (trace_text version plan rows) ≡ trace_records version plan rows
unfolding records_at
text_records version plan rows ok all =
    ap csv_records (same_trace version plan rows)
    ∙ (ap (records_at st.StartRecord) (no_mark version plan rows)
    ∙ plain_back (trace_records version plan rows) (plain_head version plan ok, all_made (IsWritten version plan) IsPlainRecord (row_fields version plan) (λ r h. plain_row version plan r ok h) rows all))

written_back : (version : TextVersion) (plan : PlanModel) (rows : List Row) → IsPlan plan → AllByRecursion (IsWritten version plan) rows
    → rows_of plan (csv_records (trace_text version plan rows)) ≡ record { rows = map (as_read version) rows; refusal = None }
written_back version plan rows ok all = ap (rows_of plan) (text_records version plan rows ok all) ∙ records_again version plan rows ok all

-- the rows, one by one
each_written : (version : TextVersion) (plan : PlanModel) (rows : List Row) → list_all (is_named plan) rows ≡ true → list_all has_short_numbers rows ≡ true → (version ≡ V2 → carries_ahead rows ≡ true) → AllByRecursion (IsWritten version plan) rows
each_written version plan [] named short carries = tt
each_written version plan (r ∷ rows) named short carries =
    let a = and_parts (is_named plan r) (list_all (is_named plan) rows) named in
    let b = and_parts (has_short_numbers r) (list_all has_short_numbers rows) short in (
      record { named = a.0; short = b.0; carries = λ e. (and_parts (carries_its_ahead r) (carries_ahead rows) (carries e)).0 },
      each_written version plan rows a.1 b.1 (λ e. (and_parts (carries_its_ahead r) (carries_ahead rows) (carries e)).1),
    )

pub reads_back : (version : TextVersion) (plan : PlanModel) (rows : List Row) → IsPlan plan → list_all (is_named plan) rows ≡ true → list_all has_short_numbers rows ≡ true → (version ≡ V2 → carries_ahead rows ≡ true)
    → rows_of plan (csv_records (trace_text version plan rows)) ≡ record { rows = map (as_read version) rows; refusal = None }
reads_back version plan rows ok named short carries = written_back version plan rows ok (each_written version plan rows named short carries)

pub run_reads_back : (version : TextVersion) (plan : PlanModel) (rows : List Row) → IsPlan plan → IsRunStart plan rows → (version ≡ V2 → carries_ahead rows ≡ true)
    → rows_of plan (csv_records (trace_text version plan rows)) ≡ record { rows = map (as_read version) rows; refusal = None }
run_reads_back version plan rows ok run carries = reads_back version plan rows ok (run_named plan rows ok run) (run_short plan rows ok run) carries
