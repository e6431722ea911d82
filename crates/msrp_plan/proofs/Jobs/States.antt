-- A job's state after one row more: the row's own job moves on, and every other stays as it is.
use Rattle.msrp_plan.specs.Common.{ℕ, Bool, true, false, cond, not, List, [], Some, filter, is_row_of, is_waiting, is_started, is_queued, done, state_after}
use Rattle.msrp_plan.specs.declared.ids.JobId.{JobId}
use Rattle.msrp_plan.specs.declared.rows.Row.{Row}
use Rattle.std.proofs.Common.{◌≡◌, ◌+◌, ◌&&◌, ◌||◌, ◌∷◌, ◌++◌, ap, ◌∙◌, arith, append-nil}
use Rattle.std.specs.List.{fold}
use Rattle.std.proofs.Math.Bool.{or-false, or-true}
use Rattle.std.proofs.lemmas.List.Sums.{fold_push, sum_by_push}
use Rattle.std.proofs.lemmas.List.Elements.{filter-append}
use Rattle.msrp_plan.specs.States.{moved_by, state_with}
use Rattle.msrp_plan.proofs.Lists.AnyAll.{any_push}
use Rattle.msrp_plan.proofs.Jobs.JobTests.{row_of_job}

-- the last row of a job, where one row more may be the job's
last_waits : (rows : List Row) (b : Bool) (r : Row) → fold (λ _ w. is_waiting w.kind) false (rows ++ cond b (r ∷ []) []) ≡ cond b (is_waiting r.kind) (fold (λ _ w. is_waiting w.kind) false rows)
last_waits rows true r = fold_push (λ _ w. is_waiting w.kind) false rows r
last_waits rows false r = ap (fold (λ _ w. is_waiting w.kind) false) (append-nil rows)

-- whether a job is queued, after one row more
queued_push : (pre : List Row) (r : Row) (j : JobId) → is_queued (pre ++ r ∷ []) j ≡ cond (is_row_of j r) (is_waiting r.kind) (is_queued pre j)
queued_push pre r j = ap (fold (λ _ w. is_waiting w.kind) false) (filter-append (is_row_of j) pre (r ∷ [])) ∙ last_waits (filter (is_row_of j) pre) (is_row_of j r) r

-- by whether the row is the job's
push_cases : (pre : List Row) (r : Row) (j : JobId) (mine started queued : Bool) (n : ℕ) → started ≡ is_started pre j || mine → queued ≡ cond mine (is_waiting r.kind) (is_queued pre j)
    → n ≡ done j pre + cond (mine && not (is_waiting r.kind)) 1 0 → record { job = j; started = started; queued = queued; done = n } ≡ cond mine (moved_by r (state_after pre j)) (state_after pre j)
push_cases pre r j true started queued n a b e = let t : started ≡ true = a ∙ or-true (is_started pre j) in cc
push_cases pre r j false started queued n a b e = let t : started ≡ is_started pre j = a ∙ or-false (is_started pre j) in let m : n ≡ done j pre = omega (arith, e) in cc

-- any job's state after one row more
pub state_push : (pre : List Row) (r : Row) (j : JobId) → state_after (pre ++ r ∷ []) j ≡ state_with r (state_after pre j)
state_push pre r j = push_cases pre r j (is_row_of j r) _ _ _ (any_push (is_row_of j) pre r) (queued_push pre r j) (sum_by_push (λ w. cond (is_row_of j w && not (is_waiting w.kind)) 1 0) pre r)

-- a row of another job, or of none
pub state_kept : (pre : List Row) (r : Row) (j : JobId) → is_row_of j r ≡ false → state_after (pre ++ r ∷ []) j ≡ state_after pre j
state_kept pre r j e = state_push pre r j ∙ ap (λ b. cond b (moved_by r (state_after pre j)) (state_after pre j)) e

-- a row of its own
pub state_moved : (pre : List Row) (r : Row) (j : JobId) → r.job ≡ Some j → state_after (pre ++ r ∷ []) j ≡ moved_by r (state_after pre j)
state_moved pre r j e = state_push pre r j ∙ ap (λ b. cond b (moved_by r (state_after pre j)) (state_after pre j)) (row_of_job r j e)
