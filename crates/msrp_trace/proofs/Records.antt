-- The records of a trace, field after field.
use Rattle.msrp_plan.proofs.Common.{ℕ, List, [], refl, sym, ap, append_assoc, append-nil, codes, decimal, Some, get_or, length, take, true, Option, None, IfSome, arith, subst, flat_map-append, take-append-add, length-take-le, take_all, take_more, flat_map, PlanModel}
use Rattle.msrp_plan.specs.declared.ids.JobId.{JobId}
use Rattle.msrp_plan.specs.declared.ids.ResId.{ResId}
use Rattle.msrp_plan.specs.declared.rows.Row.{Row}
use Rattle.msrp_plan.specs.declared.rows.TextVersion.{TextVersion}
use Rattle.msrp_plan.specs.declared.rows.TextVersion.TheVariants.{V1, V2}
use Rattle.std.proofs.Common.{◌≡◌, ◌∷◌, ◌++◌, ◌∙◌, ◌<◌, ◌≤◌, ◌+◌, ◌&&◌, lt-ltb}
use Rattle.std.proofs.Math.Seq.{take-take}
use Rattle.msrp_plan.specs.Words.{kind_text}
use Rattle.msrp_text.specs.PlanText.{version_text}
use Rattle.msrp_trace.specs.Gathering.{after_tick, next_field}
use Rattle.msrp_trace.specs.TraceText.{ahead_text, head_text, is_named, is_res_of, is_task_of, job_text, res_text, row_text, task_text, trace_text, trace_word}

pub comma_next : (s text : List ℕ) → (s ++ codes ",") ++ text ≡ s ++ next_field text
unfolding next_field
comma_next s text = append_assoc s (codes ",") text

-- a text that was laid down with what stands behind it
pub laid : (place most len : ℕ) (old new bytes text : List ℕ) → place ≤ length old → len ≤ most → most ≤ length bytes → take (place + most) new ≡ take place old ++ take most bytes → take len bytes ≡ text
    → take (place + length text) new ≡ take place old ++ text
laid place most len old new bytes text here short all front view =
    let size = length-take-le place old here in
    let same = length-take-le len bytes (omega (arith, short, all)) in
    subst (λ t. take (place + length t) new ≡ take place old ++ t) view
    (ap (λ k. take (place + k) new) same
    ∙ (sym (take-take (place + len) (place + most) new (omega (arith, short)))
    ∙ (ap (take (place + len)) front
    ∙ (ap (λ k. take (k + len) (take place old ++ take most bytes)) (sym size)
    ∙ (take-append-add (take place old) (take most bytes) len
    ∙ ap (λ t. take place old ++ t) (take-take len most bytes short))))))

-- a text that is made of five pieces
pub five_made : (a b c d e s t u v w x : List ℕ) → s ≡ [] → t ≡ s ++ a → u ≡ t ++ b → v ≡ u ++ c → w ≡ v ++ d → x ≡ w ++ e → x ≡ (((a ++ b) ++ c) ++ d) ++ e
five_made a b c d e s t u v w x p q r k l m = rw (m, l, k, r, q, p) refl

-- four, six and seven fields, s between them, and n at the end
four_joined : (s n a b c d : List ℕ) → (((a ++ (s ++ b)) ++ (s ++ c)) ++ (s ++ d)) ++ n ≡ a ++ (s ++ (b ++ (s ++ (c ++ (s ++ (d ++ n))))))
four_joined s n a b c d = simp (append_assoc, append-nil)

six_joined : (s n a b c d e f : List ℕ) → a ++ ((((((s ++ b) ++ (s ++ c)) ++ ((s ++ d) ++ (s ++ e))) ++ (s ++ f)) ++ []) ++ n) ≡ a ++ (s ++ (b ++ (s ++ (c ++ (s ++ (d ++ (s ++ (e ++ (s ++ (f ++ n))))))))))
six_joined s n a b c d e f = simp (append_assoc, append-nil)

seven_joined : (s n a b c d e f g : List ℕ) → a ++ ((((((s ++ b) ++ (s ++ c)) ++ ((s ++ d) ++ (s ++ e))) ++ (s ++ f)) ++ ((s ++ g) ++ [])) ++ n) ≡ a ++ (s ++ (b ++ (s ++ (c ++ (s ++ (d ++ (s ++ (e ++ (s ++ (f ++ (s ++ (g ++ n))))))))))))
seven_joined s n a b c d e f g = simp (append_assoc, append-nil)

-- the first record
pub head-is : (version : TextVersion) (plan : PlanModel) → (((codes "msrp-trace" ++ next_field (version_text version)) ++ next_field (decimal plan.cores)) ++ next_field (decimal plan.ticks)) ++ codes "\n" ≡ head_text version plan
unfolding next_field trace_word
head-is version plan = four_joined (codes ",") (codes "\n") (codes "msrp-trace") (version_text version) (decimal plan.cores) (decimal plan.ticks)

-- the record of a row
pub row-is : (version : TextVersion) (plan : PlanModel) (r : Row) → decimal r.tick ++ after_tick version plan r ≡ row_text version plan r
unfolding next_field
row-is V1 plan r = six_joined (codes ",") (codes "\n") (decimal r.tick) (decimal r.core.0) (kind_text r.kind) (task_text plan r.job) (job_text r.job) (res_text plan r.res)
row-is V2 plan r = seven_joined (codes ",") (codes "\n") (decimal r.tick) (decimal r.core.0) (kind_text r.kind) (task_text plan r.job) (job_text r.job) (res_text plan r.res) (ahead_text r.ahead)

-- a row that names what the plan has
job_from : (plan : PlanModel) (job : Option JobId) → IfSome job (λ j. j.task.0 < length plan.tasks) → is_task_of plan job ≡ true
job_from plan None h = refl
job_from plan (Some j) h = lt-ltb j.task.0 (length plan.tasks) h

res_from : (plan : PlanModel) (res : Option ResId) → IfSome res (λ g. g.0 < length plan.resources) → is_res_of plan res ≡ true
res_from plan None h = refl
res_from plan (Some g) h = lt-ltb g.0 (length plan.resources) h

pub named-from : (plan : PlanModel) (r : Row) → IfSome r.job (λ j. j.task.0 < length plan.tasks) → IfSome r.res (λ g. g.0 < length plan.resources) → is_named plan r ≡ true
named-from plan r h k = ap (λ b. b && is_res_of plan r.res) (job_from plan r.job h) ∙ res_from plan r.res k

-- the text of a block of rows more
pub trace-more : (version : TextVersion) (plan : PlanModel) (rows block : List Row) → trace_text version plan rows ++ flat_map (row_text version plan) block ≡ trace_text version plan (rows ++ block)
trace-more version plan rows block =
    append_assoc (head_text version plan) (flat_map (row_text version plan) rows) (flat_map (row_text version plan) block)
    ∙ ap (λ t. head_text version plan ++ t) (sym (flat_map-append (row_text version plan) rows block))

-- one row more
pub row-more : (version : TextVersion) (plan : PlanModel) (rows : List Row) (i : ℕ) (r : Row) → i < length rows → r ≡ get_or rows i r → trace_text version plan (take i rows) ++ row_text version plan r ≡ trace_text version plan (take (i + 1) rows)
row-more version plan rows i r h e =
    ap (λ t. trace_text version plan (take i rows) ++ t) (sym (append-nil (row_text version plan r)))
    ∙ (trace-more version plan (take i rows) (r ∷ [])
    ∙ ap (trace_text version plan) (ap (λ x. take i rows ++ x ∷ []) e ∙ sym (take_more rows i r h)))

-- all of them
pub rows-end : (version : TextVersion) (plan : PlanModel) (rows : List Row) (i : ℕ) → length rows ≤ i → trace_text version plan (take i rows) ≡ trace_text version plan rows
rows-end version plan rows i h = ap (trace_text version plan) (take_all i rows h)
