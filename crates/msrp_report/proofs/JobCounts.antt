-- What is counted of a job, row by row, is what the rows tell of it.
use Rattle.msrp_plan.proofs.Common.{ℕ, Bool, true, false, not, cond, eqb-true, List, [], Option, Some, None, refl, ap, sym, arith, length, count_by, fold, max, unwrap_or, append-nil, filter, list_any, false_from_ne_true, sum_by-cons, fold_push, count_by-le-length, filter-append, is_queue, is_row_of, is_started, is_waiting, done}
use Rattle.msrp_report.proofs.Common.{Grant, JobCount, JobId, Kind, Queue, Row, Spin, count_of, counted, is_grant, is_spin, is_spin_of, last_tick, longest_wait, spins, spins_to_grant, uncounted, wait_with}
use Rattle.std.proofs.Common.{◌≡◌, ◌≤◌, ◌+◌, ◌==◌, ◌&&◌, ◌||◌, ◌∷◌, ◌++◌, ◌∙◌, add_assoc, zero-add, add-zero}
use Rattle.std.proofs.lemmas.List.Folds.{fold_along}

-- ---- row by row
-- what the rows leave of a count
abbrev after : JobId → JobCount → List Row → JobCount
after j c rows = fold (λ c r. counted r c) c (filter (is_row_of j) rows)

-- one row more
push_by : (j : JobId) (rows : List Row) (r : Row) (b : Bool) → fold (λ c r. counted r c) uncounted (filter (is_row_of j) rows ++ cond b (r ∷ []) []) ≡ cond b (counted r (after j uncounted rows)) (after j uncounted rows)
push_by j rows r true = fold_push (λ c r. counted r c) uncounted (filter (is_row_of j) rows) r
push_by j rows r false = ap (fold (λ c r. counted r c) uncounted) (append-nil (filter (is_row_of j) rows))

pub count_push : (j : JobId) (rows : List Row) (r : Row) → count_of (rows ++ r ∷ []) j ≡ cond (is_row_of j r) (counted r (count_of rows j)) (count_of rows j)
unfolding count_of
count_push j rows r = ap (fold (λ c r. counted r c) uncounted) (filter-append (is_row_of j) rows (r ∷ [])) ∙ push_by j rows r (is_row_of j r)

-- ---- sums
-- a number that grows by one with each row of the job that passes a test
grows : (f : JobCount → ℕ) (q : Row → Bool) → ((r : Row) (c : JobCount) → f (counted r c) ≡ f c + cond (q r) 1 0) → (j : JobId) (p : Row → Bool) → ((r : Row) → p r ≡ (is_row_of j r && q r)) → (c : JobCount) (rows : List Row) → f (after j c rows) ≡ f c + count_by p rows
grows f q step j p both c [] = sym (add-zero (f c))
grows f q step j p both c (r ∷ rows) =
    by_test (λ d. grows f q step j p both d rows) (is_row_of j r) ∙ (ap (λ b. f c + (cond b 1 0 + count_by p rows)) (sym (both r)) ∙ ap (λ n. f c + n) (sym (sum_by-cons (λ x. cond (p x) 1 0) r rows)))
  where
    by_test : ((d : JobCount) → f (after j d rows) ≡ f d + count_by p rows) → (b : Bool) → f (fold (λ c r. counted r c) c (cond b (r ∷ filter (is_row_of j) rows) (filter (is_row_of j) rows))) ≡ f c + (cond (b && q r) 1 0 + count_by p rows)
    by_test ih true = ih (counted r c) ∙ (ap (λ n. n + count_by p rows) (step r c) ∙ add_assoc (f c) (cond (q r) 1 0) (count_by p rows))
    by_test ih false = ih c ∙ ap (λ n. f c + n) (sym (zero-add (count_by p rows)))

with_true : (b : Bool) → b ≡ (b && true)
with_true true = refl
with_true false = refl

pub rows_is : (rows : List Row) (j : JobId) → (count_of rows j).rows ≡ count_by (is_row_of j) rows
unfolding count_of
rows_is rows j = grows (λ c. c.rows) (λ _. true) (λ r c. refl) j (is_row_of j) (λ r. with_true (is_row_of j r)) uncounted rows ∙ zero-add (count_by (is_row_of j) rows)

pub done_is : (rows : List Row) (j : JobId) → (count_of rows j).done ≡ done j rows
unfolding count_of
done_is rows j = grows (λ c. c.done) (λ r. not (is_waiting r.kind)) (λ r c. refl) j (λ r. is_row_of j r && not (is_waiting r.kind)) (λ r. refl) uncounted rows ∙ zero-add (done j rows)

pub spins_is : (rows : List Row) (j : JobId) → (count_of rows j).spins ≡ spins rows j
unfolding count_of
spins_is rows j = grows (λ c. c.spins) (λ r. is_spin r.kind) (λ r c. refl) j (is_spin_of j) (λ r. refl) uncounted rows ∙ zero-add (spins rows j)

-- ---- the last tick
pub last_is : (rows : List Row) (j : JobId) → (count_of rows j).last_tick ≡ last_tick j rows
unfolding count_of
last_is rows j = fold_along (λ (c : JobCount) (r : Row). counted r c) (λ (_ : ℕ) (r : Row). r.tick) (λ c t. c.last_tick ≡ t) (λ c t r h. refl) uncounted 0 (filter (is_row_of j) rows) refl

-- ---- waits
-- the spins of a wait that is open, up to its grant
abbrev pending : Option ℕ → ℕ → ℕ
pending None n = 0
pending (Some k) n = k + n

-- one row of the job more, of whatever kind: n spins follow before its next grant, and m in the
-- longest wait behind
wait_step : (k : Kind) (w : Option ℕ) (best n m : ℕ) → unwrap_or w 0 ≤ best
    → max (max best (unwrap_or (wait_with k w) 0)) (max (pending (wait_with k w) n) m) ≡ max best (max (pending w (cond (is_grant k) 0 (cond (is_spin k) 1 0 + n))) (max (cond (is_queue k) n 0) m))
wait_step Queue None best n m h = omega arith
wait_step Queue (Some x) best n m h = omega (arith, h)
wait_step Spin None best n m h = omega arith
wait_step Spin (Some x) best n m h = omega (arith, h)
wait_step Grant None best n m h = omega arith
wait_step Grant (Some x) best n m h = omega (arith, h)
wait_step _ None best n m h = omega arith
wait_step _ (Some x) best n m h = omega (arith, h)

longest_from : (j : JobId) (c : JobCount) (rows : List Row) → unwrap_or c.wait 0 ≤ c.longest_wait → (after j c rows).longest_wait ≡ max c.longest_wait (max (pending c.wait (spins_to_grant j rows)) (longest_wait j rows))
longest_from j c [] h = none c.wait c.longest_wait h
  where
    none : (w : Option ℕ) (best : ℕ) → unwrap_or w 0 ≤ best → best ≡ max best (max (pending w 0) 0)
    none None best h = omega arith
    none (Some x) best h = omega (arith, h)
longest_from j c (r ∷ rows) h = by_test (λ d k. longest_from j d rows k) (is_row_of j r)
  where
    same : (w : Option ℕ) (best n m : ℕ) → max best (max (pending w n) m) ≡ max best (max (pending w (0 + n)) (max 0 m))
    same None best n m = omega arith
    same (Some x) best n m = omega arith

    by_test : ((d : JobCount) → unwrap_or d.wait 0 ≤ d.longest_wait → (after j d rows).longest_wait ≡ max d.longest_wait (max (pending d.wait (spins_to_grant j rows)) (longest_wait j rows))) → (b : Bool)
        → (fold (λ c r. counted r c) c (cond b (r ∷ filter (is_row_of j) rows) (filter (is_row_of j) rows))).longest_wait
        ≡ max c.longest_wait (max (pending c.wait (cond (b && is_grant r.kind) 0 (cond (b && is_spin r.kind) 1 0 + spins_to_grant j rows))) (max (cond (b && is_queue r.kind) (spins_to_grant j rows) 0) (longest_wait j rows)))
    by_test ih true = ih (counted r c) (omega arith) ∙ wait_step r.kind c.wait c.longest_wait (spins_to_grant j rows) (longest_wait j rows) h
    by_test ih false = ih c h ∙ same c.wait c.longest_wait (spins_to_grant j rows) (longest_wait j rows)

pub longest_is : (rows : List Row) (j : JobId) → (count_of rows j).longest_wait ≡ longest_wait j rows
unfolding count_of
longest_is rows j = let e = longest_from j uncounted rows (omega arith) in let l : (after j uncounted rows).longest_wait ≡ max 0 (max 0 (longest_wait j rows)) = e in omega (arith, l)

-- ---- bounds
-- no wait has more spins than the job
wait_few : (k : Kind) (w : Option ℕ) (s : ℕ) → unwrap_or w 0 ≤ s → unwrap_or (wait_with k w) 0 ≤ s + cond (is_spin k) 1 0
wait_few Queue None s h = omega arith
wait_few Queue (Some x) s h = omega (arith, h)
wait_few Spin None s h = omega arith
wait_few Spin (Some x) s h = omega (arith, h)
wait_few Grant w s h = omega arith
wait_few _ None s h = omega arith
wait_few _ (Some x) s h = omega (arith, h)

few_from : (j : JobId) (c : JobCount) (rows : List Row) → unwrap_or c.wait 0 ≤ c.spins → unwrap_or (after j c rows).wait 0 ≤ (after j c rows).spins
few_from j c [] h = h
few_from j c (r ∷ rows) h = by_test (λ d k. few_from j d rows k) (is_row_of j r)
  where
    by_test : ((d : JobCount) → unwrap_or d.wait 0 ≤ d.spins → unwrap_or (after j d rows).wait 0 ≤ (after j d rows).spins) → (b : Bool)
        → unwrap_or (fold (λ c r. counted r c) c (cond b (r ∷ filter (is_row_of j) rows) (filter (is_row_of j) rows))).wait 0 ≤ (fold (λ c r. counted r c) c (cond b (r ∷ filter (is_row_of j) rows) (filter (is_row_of j) rows))).spins
    by_test ih true = ih (counted r c) (wait_few r.kind c.wait c.spins h)
    by_test ih false = ih c h

-- no wait is longer than the longest
within_from : (j : JobId) (c : JobCount) (rows : List Row) → unwrap_or c.wait 0 ≤ c.longest_wait → unwrap_or (after j c rows).wait 0 ≤ (after j c rows).longest_wait
within_from j c [] h = h
within_from j c (r ∷ rows) h = by_test (λ d k. within_from j d rows k) (is_row_of j r)
  where
    by_test : ((d : JobCount) → unwrap_or d.wait 0 ≤ d.longest_wait → unwrap_or (after j d rows).wait 0 ≤ (after j d rows).longest_wait) → (b : Bool)
        → unwrap_or (fold (λ c r. counted r c) c (cond b (r ∷ filter (is_row_of j) rows) (filter (is_row_of j) rows))).wait 0 ≤ (fold (λ c r. counted r c) c (cond b (r ∷ filter (is_row_of j) rows) (filter (is_row_of j) rows))).longest_wait
    by_test ih true = ih (counted r c) (omega arith)
    by_test ih false = ih c h

pub wait_within : (rows : List Row) (j : JobId) → unwrap_or (count_of rows j).wait 0 ≤ (count_of rows j).longest_wait
unfolding count_of
wait_within rows j = within_from j uncounted rows (omega arith)

-- a job that has a row is started
any_count : (p : Row → Bool) (rows : List Row) → list_any p rows ≡ not (count_by p rows == 0)
any_count p [] = refl
any_count p (r ∷ rows) = by_test (p r) (any_count p rows) ∙ ap (λ n. not (n == 0)) (sym (sum_by-cons (λ x. cond (p x) 1 0) r rows))
  where
    by_test : (b : Bool) → list_any p rows ≡ not (count_by p rows == 0) → (b || list_any p rows) ≡ not ((cond b 1 0 + count_by p rows) == 0)
    by_test true rest = ap not (sym (false_from_ne_true ((1 + count_by p rows) == 0) (λ h. let e = eqb-true (1 + count_by p rows) 0 h in absurd (omega (arith, e)))))
    by_test false rest = rest ∙ ap (λ n. not (n == 0)) (sym (zero-add (count_by p rows)))

pub started_by_rows : (rows : List Row) (j : JobId) → is_started rows j ≡ not ((count_of rows j).rows == 0)
started_by_rows rows j = any_count (is_row_of j) rows ∙ ap (λ n. not (n == 0)) (sym (rows_is rows j))

-- no count is greater than the number of rows
pub record AreFew (n : ℕ) (c : JobCount) : Type 0 where
  pub rows : c.rows ≤ n
  pub done : c.done ≤ n
  pub spins : c.spins ≤ n
  pub wait : unwrap_or c.wait 0 ≤ n

pub counts_few : (rows : List Row) (j : JobId) → AreFew (length rows) (count_of rows j)
unfolding count_of
counts_few rows j =
    let s = grows (λ c. c.spins) (λ r. is_spin r.kind) (λ r c. refl) j (is_spin_of j) (λ r. refl) uncounted rows in
    let l = count_by-le-length (is_spin_of j) rows in
    let w = few_from j uncounted rows (omega arith) in
    record {
      rows = let e = rows_is rows j in let m = count_by-le-length (is_row_of j) rows in (let f : (after j uncounted rows).rows ≡ count_by (is_row_of j) rows = e in omega (arith, f, m));
      done = let e = done_is rows j in let m = count_by-le-length (λ r. is_row_of j r && not (is_waiting r.kind)) rows in (let f : (after j uncounted rows).done ≡ done j rows = e in omega (arith, f, m));
      spins = omega (arith, s, l);
      wait = omega (arith, s, l, w);
    }
