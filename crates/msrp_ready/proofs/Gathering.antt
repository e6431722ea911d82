-- What is made of the jobs of a core, gathered task by task and job by job.
use Rattle.std.proofs.Common.{◌≡◌, ◌+◌, ◌≤◌, ◌==◌, ◌∷◌, ◌++◌, ◌∙◌}
use Rattle.msrp_plan.proofs.Common.{ℕ, nat_lt, length, Bool, true, false, cond, List, [], map, refl, ap, sym, arith, append_assoc, append-nil, range_with_len, map-append, length-map, map-range_with_len_more, length-range_with_len, length-filter, count_by-le-length, PlanModel, task_at, release, jobs_of, jobs_among}
use Rattle.msrp_ready.proofs.Common.{JobId, job_at, jobs_among_more}

module _ {X : Type 0} (f : JobId → X) (plan : PlanModel) where
  -- the jobs of a task of the core stand behind those before it
  pub gather_on : (c t : ℕ) (xs ys : List X) → (task_at plan t).core == c ≡ true → xs ≡ map f (jobs_among plan c (range_with_len 0 t)) → ys ≡ xs ++ map f (jobs_of plan t) → ys ≡ map f (jobs_among plan c (range_with_len 0 (t + 1)))
  gather_on c t xs ys own before more =
      let on : jobs_among plan c (range_with_len 0 (t + 1)) ≡ jobs_among plan c (range_with_len 0 t) ++ jobs_of plan t = jobs_among_more plan c t ∙ ap (λ b. jobs_among plan c (range_with_len 0 t) ++ cond b (jobs_of plan t) []) own in
      more ∙ ap (λ zs. zs ++ map f (jobs_of plan t)) before ∙ sym (map-append f (jobs_among plan c (range_with_len 0 t)) (jobs_of plan t)) ∙ ap (map f) (sym on)

  -- a task of another core adds none
  pub gather_off : (c t : ℕ) (xs : List X) → (task_at plan t).core == c ≡ false → xs ≡ map f (jobs_among plan c (range_with_len 0 t)) → xs ≡ map f (jobs_among plan c (range_with_len 0 (t + 1)))
  gather_off c t xs own before =
      let off : jobs_among plan c (range_with_len 0 (t + 1)) ≡ jobs_among plan c (range_with_len 0 t) = jobs_among_more plan c t ∙ ap (λ b. jobs_among plan c (range_with_len 0 t) ++ cond b (jobs_of plan t) []) own ∙ append-nil (jobs_among plan c (range_with_len 0 t)) in
      before ∙ ap (map f) (sym off)

  -- one job more of a task
  pub gather_more : (t k : ℕ) (old xs ys : List X) (x : X) → xs ≡ old ++ map (λ n. f (job_at t n)) (range_with_len 0 k) → x ≡ f (job_at t k) → ys ≡ xs ++ x ∷ [] → ys ≡ old ++ map (λ n. f (job_at t n)) (range_with_len 0 (k + 1))
  gather_more t k old xs ys x before here more =
      more ∙ ap (λ zs. zs ++ x ∷ []) before ∙ append_assoc old (map (λ n. f (job_at t n)) (range_with_len 0 k)) (x ∷ [])
      ∙ ap (λ zs. old ++ zs) (ap (λ y. map (λ n. f (job_at t n)) (range_with_len 0 k) ++ y ∷ []) here ∙ sym (map-range_with_len_more (λ n. f (job_at t n)) 0 k k (omega arith)))

  by_number : (t : ℕ) (ks : List ℕ) → map (λ n. f (job_at t n)) ks ≡ map f (map (job_at t) ks)
  by_number t [] = refl
  by_number t (k ∷ ks) = ap (λ xs. f (job_at t k) ∷ xs) (by_number t ks)

  -- all jobs of the task
  pub gather_all : (t n : ℕ) → jobs_of plan t ≡ map (job_at t) (range_with_len 0 n) → map (λ k. f (job_at t k)) (range_with_len 0 n) ≡ map f (jobs_of plan t)
  gather_all t n numbered = by_number t (range_with_len 0 n) ∙ ap (map f) (sym numbered)

-- ---- a task has no more jobs than its plan has ticks
pub few_of_task : (plan : PlanModel) (t : ℕ) → length (jobs_of plan t) ≤ plan.ticks
few_of_task plan t =
    let all = map (job_at t) (range_with_len 0 plan.ticks) in
    let is_in_time : JobId → Bool = λ j. nat_lt (release plan j) plan.ticks in
    omega (arith, length-filter is_in_time all, count_by-le-length is_in_time all, length-map (range_with_len 0 plan.ticks) (job_at t), length-range_with_len 0 plan.ticks)
