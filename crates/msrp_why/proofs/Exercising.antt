-- What a run exercised, one row more.
use Rattle.msrp_plan.proofs.Common.{All-contains, All-from_recursion, Contains, core_jobs_below, each_at, each_before, least_in, log_of, ℕ, suc, max, Bool, true, false, cond, not, nat_lt, List, [], Option, Some, None, refl, ap, sym, arith, length, length-append, append-nil, append_assoc, inl, inr, ForSome, mul-le-mul_left, and_parts, not-true, count_after, is_before, done, is_job, is_released, is_started, jobs_of, jobs_on, PlanModel, is_on, IsLegal, IsRunStart, IsPlan, is_job_is, same_self, IsTurn, legal_turn, turn_chosen, turn_core, least_passes, is_queue, units}
use Rattle.msrp_why.proofs.Common.{AreResourceCounts, IsCoreState, JobId, Row, is_entry, is_grant, is_in_tick, last_change, max-zero, most_after, nothing_done, option_map_or, own_is, queue_rows, queued_with}
use Rattle.std.proofs.Common.{◌≡◌, ◌+◌, ◌<◌, ◌≤◌, ◌&&◌, ◌∷◌, ◌++◌, ◌∙◌, lt-ltb, ◌==◌}
use Rattle.msrp_core.specs.declared.states.CoreState.{CoreState}
use Rattle.msrp_plan.proofs.Blocking.SectionRows.{count_after_push}
use Rattle.msrp_plan.proofs.Choosing.Turns.{has_turn}
use Rattle.msrp_plan.proofs.Runs.CoreRuns.{reached_tick}
use Rattle.msrp_why.specs.Noted.{is_job_of, units_done, one_if}
use Rattle.msrp_why.specs.declared.exercise.ResourceCounts.{ResourceCounts}

-- a row of a run is in its core's next tick
pub tick_is : (plan : PlanModel) (rows : List Row) (r : Row) → IsRunStart plan (rows ++ r ∷ []) → length (log_of r.core.0 rows) ≡ r.tick
tick_is plan rows r start = sym (reached_tick plan rows r (each_before (IsLegal plan) [] rows (r ∷ []) start.each) (each_at (IsLegal plan) [] rows r [] start.each))

-- the head is of a task of the plan
pub below : (plan : PlanModel) (c : ℕ) (j : JobId) → Contains (jobs_on plan c) j → j.task.0 < length plan.tasks
below plan c j on = All-contains (λ (i : JobId). i.task.0 < length plan.tasks) (jobs_on plan c) j (All-from_recursion (λ (i : JobId). i.task.0 < length plan.tasks) (jobs_on plan c) (core_jobs_below plan c)) on

pub head_known : (plan : PlanModel) (c t : ℕ) (rows : List Row) (s : CoreState) → IsCoreState plan c t rows s → ForSome s.head (λ h. h.task.0 < length plan.tasks)
head_known plan c t rows s is = λ h e. below plan c h (least_in (is_before plan) (λ j. is_released plan t j && not (is_started rows j)) (jobs_on plan c) h (sym is.head ∙ e))

-- what is asked of a number that is only there where something else holds
pub and_where : (b : Bool) (o : Option ℕ) (test : ℕ → Bool) → option_map_or test (cond b o None) false ≡ (b && option_map_or test o false)
and_where true o test = refl
and_where false o test = refl

-- the rows before another are few
pub few_before : (plan : PlanModel) (rows : List Row) (r : Row) → IsPlan plan → IsRunStart plan (rows ++ r ∷ []) → length rows < 160000
few_before plan rows r ok start =
    let size = length-append rows (r ∷ []) in
    let most = mul-le-mul_left plan.cores ok.draft.ticks.1 in
    omega (arith, size, start.size, most, ok.draft.cores.1)

-- no more are counted than there are rows
count_few : {X : Type 0} (p : List X → X → Bool) (pre xs : List X) → count_after p pre xs ≤ length xs
count_few p pre [] = omega arith
count_few p pre (x ∷ xs) = by_test (p pre x) (count_few p (pre ++ x ∷ []) xs)
  where
    by_test : (b : Bool) → count_after p (pre ++ x ∷ []) xs ≤ length xs → cond b 1 0 + count_after p (pre ++ x ∷ []) xs ≤ suc (length xs)
    by_test true h = omega (arith, h)
    by_test false h = omega (arith, h)

-- a count with one row more, and one that is stored
counted : (p : List Row → Row → Bool) (rows : List Row) (r : Row) (b : Bool) (n : ℕ) → p rows r ≡ b → n ≡ count_after p [] rows + cond b 1 0 → n ≡ count_after p [] (rows ++ r ∷ [])
counted p rows r b n is step = step ∙ sym (count_after_push p [] rows r ∙ ap (λ c. count_after p [] rows + cond c 1 0) is)

pub one_more_counted : (p : List Row → Row → Bool) (rows : List Row) (r : Row) (b : Bool) (old new : ℕ) → length rows < 160000 → p rows r ≡ b → new ≡ one_if old b → old ≡ count_after p [] rows → new ≡ count_after p [] (rows ++ r ∷ [])
one_more_counted p rows r b old new few is step was = counted p rows r b new is (step ∙ by_test b)
  where
    by_test : (b : Bool) → one_if old b ≡ count_after p [] rows + cond b 1 0
    by_test true = let n = count_few p [] rows in omega (arith, n, was, few)
    by_test false = let n = count_few p [] rows in omega (arith, n, was, few)

-- the greatest, with one row more
most_push : (f : List Row → Row → ℕ) (most : ℕ) (pre rows : List Row) (r : Row) → most_after f most pre (rows ++ r ∷ []) ≡ max (most_after f most pre rows) (f (pre ++ rows) r)
most_push f most pre [] r = ap (λ ys. max most (f ys r)) (sym (append-nil pre))
most_push f most pre (x ∷ rows) r = most_push f (max most (f pre x)) (pre ++ x ∷ []) rows r ∙ ap (λ ys. max (most_after f (max most (f pre x)) (pre ++ x ∷ []) rows) (f ys r)) (append_assoc pre (x ∷ []) rows)

pub most_with : (g : ℕ) (rows : List Row) (r : Row) (b : Bool) (old new : ℕ) → is_on g r.res ≡ b → new ≡ max old (cond b (length (queue_rows g (rows ++ r ∷ []))) 0) → old ≡ most_after (queued_with g) 0 [] rows → new ≡ most_after (queued_with g) 0 [] (rows ++ r ∷ [])
most_with g rows r b old new on step was =
    step ∙ (ap (λ m. max m (cond b (length (queue_rows g (rows ++ r ∷ []))) 0)) was
    ∙ (ap (λ c. max (most_after (queued_with g) 0 [] rows) (cond c (length (queue_rows g (rows ++ r ∷ []))) 0)) (sym on)
    ∙ sym (most_push (queued_with g) 0 [] rows r)))

-- ---- what the rows on a resource met
-- a row that isn't on it
pub counts_off : (g : ℕ) (rows : List Row) (r : Row) (n : ResourceCounts) → is_on g r.res ≡ false → AreResourceCounts rows g n → AreResourceCounts (rows ++ r ∷ []) g n
counts_off g rows r n off was = record {
  free = counted _ rows r false n.free (ap (λ b. b && is_entry r.kind) off) (omega (arith, was.free));
  joined = counted _ rows r false n.joined (ap (λ b. b && is_queue r.kind) off) (omega (arith, was.joined));
  at_once = counted _ rows r false n.at_once (ap (λ b. b && (is_grant r.kind && is_in_tick r.tick (last_change g rows))) off) (omega (arith, was.at_once));
  later = counted _ rows r false n.later (ap (λ b. b && (is_grant r.kind && not (is_in_tick r.tick (last_change g rows)))) off) (omega (arith, was.later));
  longest = most_with g rows r false n.longest n.longest off (sym (max-zero n.longest)) was.longest;
}

-- ---- what the turns met
module _ (plan : PlanModel) (rows : List Row) (r : Row) (s : CoreState) (ok : IsPlan plan) (legal : IsLegal plan rows r) (is : IsCoreState plan r.core.0 r.tick rows s) where
  turn : IsTurn plan rows r
  turn = legal_turn plan rows r legal

  -- the row's job is one of the plan
  pub job_below : ForSome r.job (λ j. j.task.0 < length plan.tasks)
  job_below = λ j job. below plan r.core.0 j (turn.known j job)

  pub job_known : ForSome r.job (λ j. is_job_of plan j ≡ true)
  job_known = λ j job.
      let low = below plan r.core.0 j (turn.known j job) in
      let k : nat_lt j.k (length (jobs_of plan j.task.0)) ≡ true = own_is plan r j ok job low (turn_core plan rows r j turn job) ∙ legal.own in
      ap (λ b. b && nat_lt j.k (length (jobs_of plan j.task.0))) (lt-ltb j.task.0 (length plan.tasks) low) ∙ k

  -- how many units the row's job has done
  new_so : (j : JobId) → done j rows ≡ 0 → (b : Bool) → is_job s.running j ≡ b → cond b s.done 0 ≡ done j rows
  new_so j none true runs = is.done j (is_job_is s.running j runs)
  new_so j none false runs = sym none

  done_so : (j : JobId) → r.job ≡ Some j → units_done s j ≡ done j rows
  done_so j job = elim (has_turn plan r.core.0 r.tick rows j (turn_chosen plan rows r j turn job)) [
    | inl new ↦ (let passes = and_parts (is_released plan r.tick j) (not (is_started rows j)) (least_passes (is_before plan) (λ i. is_released plan r.tick i && not (is_started rows i)) (jobs_on plan r.core.0) j new.first) in new_so j (nothing_done rows j (not-true (is_started rows j) passes.1)) (is_job s.running j) refl)
    | inr runs ↦ ap (λ o. cond (is_job o j) s.done 0) (is.running ∙ runs) ∙ (ap (λ b. cond b s.done 0) (same_self j) ∙ is.done j (is.running ∙ runs))
  ]

  pub finishes_by : (o : Option JobId) → r.job ≡ o → option_map_or (λ j. done j rows + 1 == length (units plan j)) o false ≡ option_map_or (λ j. units_done s j + 1 == length (units plan j)) o false
  finishes_by None job = refl
  finishes_by (Some j) job = ap (λ n. n + 1 == length (units plan j)) (sym (done_so j job))
