-- Whether a tick releases a job of the core, that was not released before.
use Rattle.msrp_plan.proofs.Common.{ℕ, nat_le, Bool, true, false, not, List, [], take, drop, length, get_or, Option, Some, None, ap, sym, subst, inl, inr, arith, AllByRecursion, Contains, list_any, ForSome, and-false, and-true, cases_Bool, cases_lt, leb-false, lt-leb, and_from, or_parts, take-append-drop, get_or-drop, get_or_default, get_or-map, All-contains, All-contains_itself, All-weaker, Contains-append_right, Contains-append_cases, PlanModel, release, key, jobs_on, is_released, is_before, least, first_ready, any_in, none_kept, filter_same}
use Rattle.msrp_ready.proofs.Common.{AreReady, Contains-get_or, Entry, HeapModel, IsComing, JobId, JobKey, ReadyModel, entry_key, entry_keys, has_come, has_release_by, head, is_among, job_of, length-drop}
use Rattle.std.proofs.Common.{◌≡◌, ◌<◌, ◌≤◌, ◌^◌, ◌&&◌, ◌∷◌, ◌∙◌, add-zero}
use Rattle.std.proofs.lemmas.List.Folds.{list_any_none}
use Rattle.msrp_ready.proofs.Entries.{keyed_length}
use Rattle.msrp_ready.proofs.Standing.{all_keyed, all_on_core, come_later, in_calendar, none_come}

module _ (plan : PlanModel) (c : ℕ) (tick : Option ℕ) (calendar : List JobKey) (next : ℕ) (heap : HeapModel) (ok : AreReady plan c tick calendar next heap) (t : ℕ) where
  abbrev comes : JobId → Bool
  comes j = has_come (Some t) (release plan j) && not (has_come tick (release plan j))

  -- one that isn't released yet, and is by this tick
  pub some_released : (k : JobKey) → Contains (drop next calendar) k → nat_le k.release t ≡ true → list_any comes (jobs_on plan c) ≡ true
  some_released k there come =
      let listed : Contains calendar k = subst (λ ks. Contains ks k) (take-append-drop next calendar) (Contains-append_right (take next calendar) (drop next calendar) k there) in
      let own : k ≡ key plan (job_of k) = All-contains (λ z. z ≡ key plan (job_of z)) calendar k (all_keyed plan c tick calendar next heap ok) listed in
      let waits = All-contains (λ z. has_come tick z.release ≡ false) (drop next calendar) k ok.to_come there in
      any_in comes (jobs_on plan c) (job_of k) (All-contains (λ z. Contains (jobs_on plan c) (job_of z)) calendar k (all_on_core plan c tick calendar next heap ok) listed)
      (and_from (has_come (Some t) (release plan (job_of k))) (not (has_come tick (release plan (job_of k)))) (ap (λ z. nat_le z.release t) (sym own) ∙ come) (ap (λ z. not (has_come tick z.release)) (sym own) ∙ ap not waits))

  -- nobody, where the first that isn't released yet comes later
  pub none_released : ((d : JobKey) → next < length calendar → t < (get_or calendar next d).release) → list_any comes (jobs_on plan c) ≡ false
  none_released later = list_any_none comes (jobs_on plan c) (All-weaker (Contains (jobs_on plan c)) (λ j. comes j ≡ false) each (jobs_on plan c) (All-contains_itself (jobs_on plan c)))
    where
      each : (j : JobId) → Contains (jobs_on plan c) j → comes j ≡ false
      each j there =
          let k = key plan j in
          elim (Contains-append_cases (take next calendar) (drop next calendar) k (subst (λ ks. Contains ks k) (sym (take-append-drop next calendar)) (in_calendar plan c tick calendar next heap ok j there))) [
            | inl before ↦ ap (λ b. has_come (Some t) (release plan j) && not b) (All-contains (λ z. has_come tick z.release ≡ true) (take next calendar) k ok.come before) ∙ and-false (has_come (Some t) (release plan j))
            | inr after ↦ ap (λ b. b && not (has_come tick (release plan j))) (All-contains (λ z. has_come (Some t) z.release ≡ false) (drop next calendar) k (none_come calendar next t ok.sorted later) after)
          ]

  -- so the first of them tells
  pub released_at : (k : JobKey) → next < length calendar → k ≡ get_or calendar next k → nat_le k.release t ≡ list_any comes (jobs_on plan c)
  released_at k within at = elim (cases_Bool (nat_le k.release t)) [
    | inl come ↦ come ∙ sym (some_released k first come)
    | inr late ↦ late ∙ sym (none_released (λ d l. let e = ap (λ z. z.release) (get_or_default calendar next d k within ∙ sym at) in omega (arith, leb-false k.release t late, e)))
  ]
    where
      first : Contains (drop next calendar) k
      first =
          let long = length-drop next calendar in
          let here : get_or (drop next calendar) 0 k ≡ k = get_or-drop next calendar 0 k ∙ (ap (λ n. get_or calendar n k) (add-zero next) ∙ sym at) in
          subst (Contains (drop next calendar)) here (Contains-get_or (drop next calendar) 0 k (omega (arith, long, within)))

-- the entry at the first place tells it too
pub entry_tells : (plan : PlanModel) (c : ℕ) (tick : Option ℕ) (calendar : List Entry) (next : ℕ) (heap : HeapModel) (ok : AreReady plan c tick (entry_keys plan calendar) next heap) (t : ℕ) (e : Entry) → next < length calendar → e ≡ get_or calendar next e → nat_le e.release t ≡ list_any (comes plan c tick (entry_keys plan calendar) next heap ok t) (jobs_on plan c)
entry_tells plan c tick calendar next heap ok t e within at =
    released_at plan c tick (entry_keys plan calendar) next heap ok t (entry_key plan e) (omega (arith, within, keyed_length plan calendar)) (ap (entry_key plan) at ∙ sym (get_or-map (entry_key plan) calendar next e (entry_key plan e) within))

-- no entry is left
pub none_left : (plan : PlanModel) (c : ℕ) (tick : Option ℕ) (calendar : List Entry) (next : ℕ) (heap : HeapModel) (ok : AreReady plan c tick (entry_keys plan calendar) next heap) (t : ℕ) → length calendar ≤ next → list_any (comes plan c tick (entry_keys plan calendar) next heap ok t) (jobs_on plan c) ≡ false
none_left plan c tick calendar next heap ok t none = none_released plan c tick (entry_keys plan calendar) next heap ok t (λ d l. absurd (omega (arith, l, none, keyed_length plan calendar)))

-- ---- where none is released
-- what hasn't come by either tick
same_come : (tick : Option ℕ) (t r : ℕ) → ForSome tick (λ before. before ≤ t) → (has_come (Some t) r && not (has_come tick r)) ≡ false → has_come (Some t) r ≡ has_come tick r
same_come tick t r no_earlier h = elim (cases_Bool (has_come tick r)) [
  | inl came ↦ come_later tick t r no_earlier came ∙ sym came
  | inr waits ↦ (sym (and-true (has_come (Some t) r)) ∙ (ap (λ b. has_come (Some t) r && not b) (sym waits) ∙ h)) ∙ sym waits
]

-- the head stays
pub head_stays : (ready : ReadyModel) (t : ℕ) → ForSome ready.tick (λ before. before ≤ t) → has_release_by ready t ≡ false → first_ready ready.plan ready.core t (is_among ready.taken) ≡ head ready
head_stays ready t no_earlier none = by_tick ready.tick no_earlier none
  where
    by_tick : (o : Option ℕ) → ForSome o (λ before. before ≤ t) → has_release_by (record ready { tick = o }) t ≡ false → first_ready ready.plan ready.core t (is_among ready.taken) ≡ head (record ready { tick = o })
    by_tick None l h = ap (least (is_before ready.plan)) (none_kept (λ j. has_come (Some t) (release ready.plan j) && not false) (λ j. is_released ready.plan t j && not (is_among ready.taken j)) (λ j e. ap (λ b. b && not (is_among ready.taken j)) (sym (and-true (has_come (Some t) (release ready.plan j))) ∙ e)) (jobs_on ready.plan ready.core) h)
    by_tick (Some n) l h = ap (least (is_before ready.plan)) (filter_same (λ j. is_released ready.plan t j && not (is_among ready.taken j)) (λ j. is_released ready.plan n j && not (is_among ready.taken j)) (jobs_on ready.plan ready.core)
        (each_same (jobs_on ready.plan ready.core) h))
      where
        each_same : (js : List JobId) → list_any (λ j. has_come (Some t) (release ready.plan j) && not (has_come (Some n) (release ready.plan j))) js ≡ false → AllByRecursion (λ j. (is_released ready.plan t j && not (is_among ready.taken j)) ≡ (is_released ready.plan n j && not (is_among ready.taken j))) js
        each_same [] e = tt
        each_same (j ∷ js) e =
            let parts = or_parts (has_come (Some t) (release ready.plan j) && not (has_come (Some n) (release ready.plan j))) (list_any (λ j. has_come (Some t) (release ready.plan j) && not (has_come (Some n) (release ready.plan j))) js) e in
            (ap (λ b. b && not (is_among ready.taken j)) (same_come (Some n) t (release ready.plan j) l parts.0), each_same js parts.1)

-- ---- the next release, as it is kept
module _ (plan : PlanModel) (c : ℕ) (tick : Option ℕ) (calendar : List Entry) (next : ℕ) (heap : HeapModel) (ok : AreReady plan c tick (entry_keys plan calendar) next heap) (coming : ℕ) (is : IsComing calendar next coming) where
  -- where one is left it tells
  told_by : next < length calendar → (t : ℕ) → nat_le coming t ≡ list_any (comes plan c tick (entry_keys plan calendar) next heap ok t) (jobs_on plan c)
  told_by within t =
      let d : Entry = record { release = 0; task = 0; k = 0 } in
      let e = get_or calendar next d in
      ap (λ n. nat_le n t) (is.release d within) ∙ entry_tells plan c tick calendar next heap ok t e within (get_or_default calendar next d e within)

  pub coming_tells : (t : ℕ) → coming < 2 ^ 32 → nat_le coming t ≡ list_any (comes plan c tick (entry_keys plan calendar) next heap ok t) (jobs_on plan c)
  coming_tells t short = elim (cases_lt next (length calendar)) [
    | inl within ↦ told_by within t
    | inr past ↦ let e = is.none past in absurd (omega (arith, e, short))
  ]

  pub never_tells : (t : ℕ) → 2 ^ 32 ≤ coming → list_any (comes plan c tick (entry_keys plan calendar) next heap ok t) (jobs_on plan c) ≡ false
  never_tells t long = elim (cases_lt next (length calendar)) [
    | inl within ↦ let s = is.short within in absurd (omega (arith, s, long))
    | inr past ↦ none_left plan c tick calendar next heap ok t past
  ]

-- whether a job is released by a tick
pub is_told : (plan : PlanModel) (c : ℕ) (tick : Option ℕ) (calendar : List Entry) (next : ℕ) (heap : HeapModel) (ok : AreReady plan c tick (entry_keys plan calendar) next heap) (coming : ℕ) → IsComing calendar next coming → (t : ℕ) → t < 2 ^ 32 → nat_le coming t ≡ list_any (comes plan c tick (entry_keys plan calendar) next heap ok t) (jobs_on plan c)
is_told plan c tick calendar next heap ok coming is t few = elim (cases_lt coming (2 ^ 32)) [
  | inl short ↦ coming_tells plan c tick calendar next heap ok coming is t short
  | inr long ↦ lt-leb coming t (omega (arith, long, few)) ∙ sym (never_tells plan c tick calendar next heap ok coming is t long)
]
