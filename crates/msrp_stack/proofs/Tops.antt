-- The newest started job is the one that comes first.
use Rattle.std.proofs.Common.{◌≡◌, ◌&&◌, ◌||◌, ◌∷◌, ◌∙◌}
use Rattle.msrp_plan.proofs.Common.{ℕ, Bool, true, false, not, List, [], Option, Some, None, refl, ap, sym, subst, inl, inr, filter, AllByRecursion, Contains, true≢false, cases_Bool, true_from_ne_false, PlanModel, jobs_on, same_job, is_before, least, first_unfinished, before_order, tied, same_is, same_self, least_passes, least_some, least_of_those, irrefl}
use Rattle.msrp_stack.proofs.Common.{ComesFirst, IsFalling, JobId, StartedJob, is_among, newest}

-- who comes before one that comes before a third comes before the third
before_third : (plan : PlanModel) (i j k : JobId) → is_before plan i j ≡ true → is_before plan j k ≡ true → is_before plan i k ≡ true
before_third plan i j k a b =
    true_from_ne_false (is_before plan i k) (λ e. true≢false (sym a ∙ (before_order plan).chain i k j e ((before_order plan).one_way j k b)))

-- the newest comes before all that were started earlier
pub before_all : (plan : PlanModel) (j : JobId) (below : List StartedJob) → ComesFirst plan below j → IsFalling plan below → AllByRecursion (λ s. is_before plan j s.job ≡ true) below
before_all plan j [] first falling = tt
before_all plan j (s ∷ []) first falling = (first, tt)
before_all plan j (s ∷ (t ∷ below)) first falling = (first, before_all plan j (t ∷ below) (before_third plan j s.job t.job first falling.0) falling.1)

-- so whoever is among them doesn't come before it
not_before : (plan : PlanModel) (j x : JobId) (below : List StartedJob) → AllByRecursion (λ s. is_before plan j s.job ≡ true) below → is_among below x ≡ true → is_before plan x j ≡ false
not_before plan j x [] all h = absurd (cc)
not_before plan j x (s ∷ below) all h =
    elim (cases_Bool (same_job x s.job)) [
      | inl t ↦ subst (λ y. is_before plan y j ≡ false) (sym (same_is x s.job t)) ((before_order plan).one_way j s.job all.0)
      | inr f ↦ not_before plan j x below all.1 (sym (ap (λ b. b || is_among below x) f) ∙ h)
    ]

newest_least : (plan : PlanModel) (j x : JobId) (s : StartedJob) (below : List StartedJob) → s.job ≡ j → AllByRecursion (λ s. is_before plan j s.job ≡ true) below → is_among (s ∷ below) x ≡ true → is_before plan x j ≡ false
newest_least plan j x s below is all h =
    elim (cases_Bool (same_job x s.job)) [
      | inl t ↦ subst (λ y. is_before plan y j ≡ false) (sym (same_is x s.job t ∙ is)) (irrefl (is_before plan) (before_order plan) j)
      | inr f ↦ not_before plan j x below all (sym (ap (λ b. b || is_among below x) f) ∙ h)
    ]

-- ---- the least that passes a test, by being one that passes, with none before it
least_cases : (plan : PlanModel) (p : JobId → Bool) (xs : List JobId) (j : JobId) (o : Option JobId) → o ≡ least (is_before plan) (filter p xs) → Contains xs j → p j ≡ true → ((x : JobId) → p x ≡ true → is_before plan x j ≡ false) → Some j ≡ o
least_cases plan p xs j None e there passes f = absurd (least_some (is_before plan) p xs j (sym e) there passes)
least_cases plan p xs j (Some y) e there passes f =
    ap (λ k. Some k) (tied plan j y (least_of_those (is_before plan) (before_order plan) p xs y j (sym e) there passes) (f y (least_passes (is_before plan) p xs y (sym e))))

-- a test that none passes keeps none
none_kept : {X : Type 0} (xs : List X) → filter (λ x. false) xs ≡ []
none_kept [] = refl
none_kept (x ∷ xs) = none_kept xs

-- ---- so the newest is the first of the started jobs
pub newest_first : (plan : PlanModel) (c : ℕ) (started : List StartedJob) → AllByRecursion (λ s. Contains (jobs_on plan c) s.job) started → IsFalling plan started → newest started ≡ first_unfinished plan c (is_among started) (λ j. false)
newest_first plan c [] known falling = ap (least (is_before plan)) (sym (none_kept (jobs_on plan c)))
newest_first plan c (s ∷ below) known falling =
    least_cases plan (λ j. is_among (s ∷ below) j && not false) (jobs_on plan c) s.job (first_unfinished plan c (is_among (s ∷ below)) (λ j. false)) refl known.0
    (ap (λ b. (b || is_among below s.job) && true) (same_self s.job))
    (λ x h. newest_least plan s.job x s below refl (before_all plan s.job below falling.0 falling.1) (among x (is_among (s ∷ below) x) refl h))
  where
    among : (x : JobId) (b : Bool) → b ≡ is_among (s ∷ below) x → (b && true) ≡ true → is_among (s ∷ below) x ≡ true
    among x true e h = sym e
    among x false e h = absurd (cc)
