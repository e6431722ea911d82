-- The head as a release would leave it: the first of the heap's first job and of those that it
-- releases.
use Rattle.std.proofs.Common.{◌≡◌, ◌-◌, ◌<◌, ◌≤◌, ◌∷◌, ◌++◌, ◌∙◌}
use Rattle.msrp_plan.proofs.Common.{ℕ, false, cond, List, [], take, drop, length, get_or, Option, Some, None, refl, ap, sym, subst, inl, inr, arith, IfSome, IfNone, IsStrictWeakOrder, All, Contains, ForSome, option_to_list, is_lt, IsUpperBound, cases_Bool, All-from_recursion, All-push, recursion_from_All, Contains-append_left, Contains-append_right, Contains-append_cases, IsPermutation-refl, PlanModel, first_ready}
use Rattle.msrp_ready.proofs.Common.{AreReady, Contains-push, Contains-push_cases, Entry, HeapModel, JobKey, earlier_of, entry_keys, head, is_among, job_of, key_cmp, least_on_top, option_map, without}
use Rattle.std.proofs.lemmas.List.MinMax.{ranks_by}
use Rattle.msrp_ready.proofs.Between.{between_slice}
use Rattle.msrp_ready.proofs.Entries.{keyed_length, keyed_between, keyed_released, keyed_later}
use Rattle.msrp_ready.proofs.Order.{least_on_top_total}
use Rattle.msrp_ready.proofs.Moving.{released_on, without_more}
use Rattle.msrp_ready.proofs.Standing.{seen, head_none, head_some}

-- the first of these jobs, none where there are none
pub record IsFirstOf (o : Option JobKey) (jobs : List JobKey) : Type 0 where
  pub none : IfNone o (jobs ≡ [])
  pub one : IfSome o (Contains jobs)
  pub first : IfSome o (λ job. IsUpperBound least_on_top job jobs)

order : IsStrictWeakOrder (λ x y. is_lt (least_on_top x y))
order = ranks_by least_on_top_total (λ x. x)

not_before_itself : (j : JobKey) → is_lt (least_on_top j j) ≡ false
not_before_itself j = elim (cases_Bool (is_lt (least_on_top j j))) [
  | inl before ↦ order.one_way j j before
  | inr not_before ↦ not_before
]

-- what is not before one that no job comes before is before none
bound_on : (k f : JobKey) (jobs : List JobKey) → is_lt (least_on_top k f) ≡ false → IsUpperBound least_on_top f jobs → IsUpperBound least_on_top k jobs
bound_on k f [] e bound = tt
bound_on k f (y ∷ jobs) e bound = (order.chain k f y e bound.0, bound_on k f jobs e bound.1)

bound_push : (k j : JobKey) (jobs : List JobKey) → IsUpperBound least_on_top k jobs → is_lt (least_on_top k j) ≡ false → IsUpperBound least_on_top k (jobs ++ j ∷ [])
bound_push k j jobs bound e = recursion_from_All (λ y. is_lt (least_on_top k y) ≡ false) (jobs ++ j ∷ []) (All-push (λ y. is_lt (least_on_top k y) ≡ false) jobs j (All-from_recursion (λ y. is_lt (least_on_top k y) ≡ false) jobs bound) e)

bound_append : (k : JobKey) (one other : List JobKey) → IsUpperBound least_on_top k one → IsUpperBound least_on_top k other → IsUpperBound least_on_top k (one ++ other)
bound_append k [] other a b = b
bound_append k (x ∷ one) other a b = (a.0, bound_append k one other a.1 b)

-- ---- one job more
pub first_more : (o : Option JobKey) (jobs : List JobKey) (j : JobKey) → IsFirstOf o jobs → IsFirstOf (Some (earlier_of j o)) (jobs ++ j ∷ [])
first_more None jobs j is = record {
  none = tt;
  one = Contains-push jobs j;
  first = bound_push j j jobs (subst (IsUpperBound least_on_top j) (sym is.none) tt) (not_before_itself j);
}
first_more (Some f) jobs j is = elim (cases_Bool (is_lt (key_cmp j f))) [
  | inl before ↦ subst (λ b. IsFirstOf (Some (cond b j f)) (jobs ++ j ∷ [])) (sym before) (record {
    none = tt;
    one = Contains-push jobs j;
    first = bound_push j j jobs (bound_on j f jobs (order.one_way f j before) is.first) (not_before_itself j);
  })
  | inr not_before ↦ subst (λ b. IsFirstOf (Some (cond b j f)) (jobs ++ j ∷ [])) (sym not_before) (record { none = tt; one = Contains-append_left jobs (j ∷ []) f is.one; first = bound_push f j jobs is.first not_before })
]

-- of one job it is that one
pub first_alone : (o : Option JobKey) → IsFirstOf o (option_to_list o)
first_alone None = record { none = refl; one = tt; first = tt }
first_alone (Some f) = record { none = tt; one = Contains-push [] f; first = (not_before_itself f, tt) }

-- ---- the first of a list stands for the list
pub first_joined : (o r : Option JobKey) (jobs more : List JobKey) → IsFirstOf o jobs → IsFirstOf r (option_to_list o ++ more) → IsFirstOf r (jobs ++ more)
first_joined None r jobs more is joined = subst (λ js. IsFirstOf r (js ++ more)) (sym is.none) joined
first_joined (Some f) None jobs more is joined = absurd (let k = joined.none in cc)
first_joined (Some f) (Some k) jobs more is joined = record {
  none = tt;
  one = elim (Contains-append_cases (f ∷ []) more k joined.one) [
    | inl own ↦ elim (Contains-push_cases [] f k own) [
      | inl nobody ↦ absurd (omega (arith, nobody.1))
      | inr same ↦ Contains-append_left jobs more k (subst (Contains jobs) same is.one)
    ]
    | inr new ↦ Contains-append_right jobs more k new
  ];
  first = bound_append k jobs more (bound_on k f jobs joined.first.0 is.first) joined.first.1;
}

-- ---- the head as a release would leave it
module _ (plan : PlanModel) (c : ℕ) (tick : Option ℕ) (calendar : List JobKey) (next : ℕ) (heap : HeapModel) (ok : AreReady plan c tick calendar next heap) (t after : ℕ) (no_earlier : ForSome tick (λ before. before ≤ t)) (lower : next ≤ after) (within : after ≤ length calendar)
    (released : All (λ k. k.release ≤ t) (drop next (take after calendar))) (later : (d : JobKey) → after < length calendar → t < (get_or calendar after d).release) where
  -- the heap with them
  abbrev with_released : HeapModel
  with_released = record heap { jobs = heap.jobs ++ drop next (take after calendar) }

  ready_with : AreReady plan c (Some t) calendar after with_released
  ready_with = released_on plan c tick calendar next heap ok t after with_released no_earlier lower within (IsPermutation-refl with_released.jobs) released later refl (omega arith)

  same_taken : without with_released.jobs (take after calendar) ≡ without heap.jobs (take next calendar)
  same_taken = without_more plan c tick calendar next heap ok t after with_released no_earlier lower within (IsPermutation-refl with_released.jobs)

  same_head : head (seen plan c calendar after with_released (Some t)) ≡ head (seen plan c calendar next heap (Some t))
  same_head = ap (λ js. first_ready plan c t (is_among js)) same_taken

  by_first : (r : Option JobKey) → IsFirstOf r with_released.jobs → option_map job_of r ≡ head (seen plan c calendar next heap (Some t))
  by_first None is = sym (head_none plan c calendar after with_released (Some t) ready_with is.none) ∙ same_head
  by_first (Some k) is = sym (head_some plan c calendar after with_released (Some t) ready_with k is.one is.first) ∙ same_head

  -- the heap's first job, and then those that it releases
  pub ahead : (o r : Option JobKey) → IsFirstOf o heap.jobs → IsFirstOf r (option_to_list o ++ drop next (take after calendar)) → option_map job_of r ≡ head (seen plan c calendar next heap (Some t))
  ahead o r is joined = by_first r (first_joined o r heap.jobs (drop next (take after calendar)) is joined)

-- the calendar being seen as slices of entries
pub ahead_of : (plan : PlanModel) (c : ℕ) (tick : Option ℕ) (calendar slice other : List Entry) (next : ℕ) (heap : HeapModel) (t after : ℕ) (o r : Option JobKey) → slice ≡ calendar → other ≡ calendar → AreReady plan c tick (entry_keys plan calendar) next heap → ForSome tick (λ before. before ≤ t)
    → next ≤ after → after ≤ length slice → All (λ e. e.release ≤ t) (drop next (take after slice)) → ((d : Entry) → after < length slice → t < (get_or slice after d).release)
    → IsFirstOf o heap.jobs → IsFirstOf r (option_to_list o ++ entry_keys plan (take (after - next) (drop next other))) → option_map job_of r ≡ head (seen plan c (entry_keys plan calendar) next heap (Some t))
ahead_of plan c tick calendar slice other next heap t after o r value same ok no_earlier lower within released later is joined =
    let between : entry_keys plan (take (after - next) (drop next other)) ≡ drop next (take after (entry_keys plan slice)) = ap (λ l. entry_keys plan (take (after - next) (drop next l))) (same ∙ sym value) ∙ ap (entry_keys plan) (between_slice next after slice lower) ∙ keyed_between plan slice next after in
    subst (λ l. option_map job_of r ≡ head (seen plan c (entry_keys plan l) next heap (Some t))) value
    (ahead plan c tick (entry_keys plan slice) next heap (subst (λ l. AreReady plan c tick (entry_keys plan l) next heap) (sym value) ok) t after no_earlier lower (omega (arith, within, keyed_length plan slice))
    (keyed_released plan slice next after t released) (keyed_later plan slice after t later) o r is (subst (λ l. IsFirstOf r (option_to_list o ++ l)) between joined))
