-- Rows as numbers that are judged one by one.
use Rattle.std.proofs.Common.{◌≡◌, ◌++◌, ◌∷◌, ◌+◌, ◌∙◌}
use Rattle.msrp_plan.proofs.Common.{[], ℕ, Bool, cond, length, map, take, List, None, Some, Result, Ok, Err, refl, ap, sym, arith, append-nil, take-append-add, length-map, map-append, filter_map-append, slice_get_past, filter_map, option_and_then, slice_get, PlanModel, fault_in, verdict, fault_stays}
use Rattle.msrp_plan.specs.declared.faults.Fault.{Fault}
use Rattle.msrp_plan.specs.declared.rows.Row.{Row}
use Rattle.std.specs.List.{prefix_len, take_while}
use Rattle.std.specs.Result.{is_ok, result_ok}
use Rattle.msrp_audit.specs.Audits.{answer_of}
use Rattle.msrp_engine.specs.Findings.{found_first}
use Rattle.msrp_faults.specs.Outcomes.{trace_fault_of}
use Rattle.msrp_text.proofs.Folding.{slice_get-seam}
use Rattle.msrp_trace.specs.Reading.{Told}
use Rattle.msrp_trace.specs.declared.faults.TraceError.{TraceError}
use Rattle.msrp_trace.specs.declared.faults.TraceError.TheVariants.{At}
use Rattle.msrp_trace.specs.declared.faults.TraceFault.{TraceFault}
use Rattle.msrp_c.specs.Turns.{finding_in, refusal_at, told_in}

-- ---- rows that are told before others
-- rows, each as what its numbers tell
abbrev pub readings : List Row → List (Result Row TraceFault)
readings rows = map (λ r. Ok r) rows

all-pass : (rows : List Row) (rest : List (Result Row TraceFault)) → prefix_len is_ok (readings rows ++ rest) ≡ length (readings rows) + prefix_len is_ok rest
all-pass [] rest = let e : prefix_len is_ok rest ≡ 0 + prefix_len is_ok rest = omega arith in e
all-pass (r ∷ rows) rest =
    let more : 1 + (length (readings rows) + prefix_len is_ok rest) ≡ length (readings (r ∷ rows)) + prefix_len is_ok rest = omega arith in
    ap (λ n. 1 + n) (all-pass rows rest) ∙ more

rows-of : (rows : List Row) → filter_map result_ok (readings rows) ≡ rows
rows-of [] = refl
rows-of (r ∷ rows) = ap (λ xs. r ∷ xs) (rows-of rows)

pub some-told : (rows : List Row) (rest : List (Result Row TraceFault)) → (told_in (readings rows ++ rest)).rows ≡ rows ++ (told_in rest).rows
unfolding told_in
some-told rows rest =
    let xs = readings rows in
    ap (λ n. filter_map result_ok (take n (xs ++ rest))) (all-pass rows rest)
    ∙ (ap (filter_map result_ok) (take-append-add xs rest (prefix_len is_ok rest))
    ∙ (filter_map-append result_ok xs (take_while is_ok rest) ∙ ap (λ ys. ys ++ filter_map result_ok (take_while is_ok rest)) (rows-of rows)))

none-more : (n : ℕ) → n + 0 ≡ n
none-more n = omega arith

-- numbers that tell no row end the rows
pub refused-told : (rows : List Row) (fault : TraceFault) (rest : List (Result Row TraceFault)) → told_in (readings rows ++ Err fault ∷ rest) ≡ record { rows = rows; refusal = Some (At fault (length rows + 1)) }
unfolding told_in
refused-told rows fault rest =
    let xs = readings rows in
    let all = xs ++ Err fault ∷ rest in
    let at : prefix_len is_ok all ≡ length xs = all-pass rows (Err fault ∷ rest) ∙ none-more (length xs) in
    ap (λ rs. record { rows = rs; refusal = option_and_then (refusal_at (prefix_len is_ok all + 1)) (slice_get all (prefix_len is_ok all)) }) (some-told rows (Err fault ∷ rest) ∙ append-nil rows)
    ∙ (ap (λ n. record { rows = rows; refusal = option_and_then (refusal_at (n + 1)) (slice_get all n) }) at
    ∙ (ap (λ o. record { rows = rows; refusal = option_and_then (refusal_at (length xs + 1)) o }) (slice_get-seam xs rest (Err fault))
    ∙ ap (λ n. record { rows = rows; refusal = Some (At fault (n + 1)) }) (length-map rows (λ r. Ok r))))

-- else all are told
pub all-told : (rows : List Row) → told_in (readings rows) ≡ record { rows = rows; refusal = None }
unfolding told_in
all-told rows =
    let xs = readings rows in
    let none : xs ++ [] ≡ xs = append-nil xs in
    let at : prefix_len is_ok xs ≡ length xs = ap (prefix_len is_ok) (sym none) ∙ (all-pass rows [] ∙ none-more (length xs)) in
    let told : (told_in xs).rows ≡ rows = ap (λ ys. (told_in ys).rows) (sym none) ∙ (some-told rows [] ∙ append-nil rows) in
    let past : slice_get xs (length xs) ≡ None = slice_get_past xs (length xs) (omega arith) in
    ap (λ rs. record { rows = rs; refusal = option_and_then (refusal_at (prefix_len is_ok xs + 1)) (slice_get xs (prefix_len is_ok xs)) }) told
    ∙ (ap (λ n. record { rows = rows; refusal = option_and_then (refusal_at (n + 1)) (slice_get xs n) }) at
    ∙ ap (λ o. record { rows = rows; refusal = option_and_then (refusal_at (length xs + 1)) o }) past)

-- ---- one turn more
-- a row more is a reading more
pub reading-more : (rows : List Row) (r : Row) → readings (rows ++ r ∷ []) ≡ readings rows ++ Ok r ∷ []
reading-more rows r = map-append (λ x. Ok x) rows (r ∷ [])

-- ---- what is found
pub fault-in-told : (so_far : Bool) (plan : PlanModel) (told : Told) (rows rest : List Row) (fault : Fault) → told.rows ≡ rows ++ rest → fault_in plan rows ≡ Some fault → finding_in so_far plan told ≡ Ok (Err fault)
fault-in-told so_far plan told rows rest fault is h =
    let whole : fault_in plan told.rows ≡ Some fault = ap (fault_in plan) is ∙ fault_stays plan rows rest fault h in
    ap (λ o. found_first o told.refusal (cond so_far None (verdict plan told.rows))) whole

pub refusal-in-told : (so_far : Bool) (plan : PlanModel) (told : Told) (rows : List Row) (error : TraceError) → told ≡ record { rows = rows; refusal = Some error } → fault_in plan rows ≡ None → finding_in so_far plan told ≡ Err (trace_fault_of error)
refusal-in-told so_far plan told rows error is good = ap (finding_in so_far plan) is ∙ ap (λ o. found_first o (Some error) (cond so_far None (verdict plan rows))) good

pub good-in-told : (so_far : Bool) (plan : PlanModel) (told : Told) (rows : List Row) → told ≡ record { rows = rows; refusal = None } → fault_in plan rows ≡ None → finding_in so_far plan told ≡ Ok (answer_of (cond so_far None (verdict plan rows)))
good-in-told so_far plan told rows is good = ap (finding_in so_far plan) is ∙ ap (λ o. found_first o None (cond so_far None (verdict plan rows))) good
