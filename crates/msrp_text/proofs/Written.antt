-- Text that is written record by record, and units that are written one by one.
use Rattle.std.proofs.Common.{◌≡◌, ◌+◌, ◌<◌, ◌≤◌, ◌==◌, ◌∷◌, ◌++◌, ◌∙◌}
use Rattle.msrp_plan.proofs.Common.{ℕ, zero, suc, Bool, true, false, cond, List, [], map, take, drop, length, Option, Some, refl, ap, sym, subst, arith, append_assoc, append-nil, inl, inr, slice_get, slice_index_or, flat_map, drop-cons, cases_lt, nat_tests, flat_map-append, map-append, take_all, take_more, slice_get-get_or, get_or_from_slice_get, slice_get_within, Wrote, PlanModel, TaskModel, ReleaseTimes, Every, Listed, is_listed, listed_ticks, is_lock_of, is_unlock_of, locks, IsLocking, wrote-more}
use Rattle.msrp_plan.specs.declared.bytes.Sink.{Sink}
use Rattle.msrp_plan.specs.declared.ids.ResId.{ResId}
use Rattle.msrp_plan.specs.declared.units.Op.{Op}
use Rattle.msrp_plan.specs.declared.units.Step.{Step}
use Rattle.std.proofs.lemmas.Bool.{eqb-true, ne_eqb}
use Rattle.std.proofs.lemmas.List.Sums.{count_by_more_no, count_by_more_yes}
use Rattle.msrp_plan.specs.ReleaseTimes.{tick_of}
use Rattle.msrp_plan.specs.Times.{times_told}
use Rattle.msrp_plan.specs.declared.times.Times.TheVariants as told
use Rattle.msrp_plan.specs.declared.units.Op.TheVariants as unit
use Rattle.msrp_plan.specs.declared.units.Step.TheVariants.{Run, Lock, Unlock}
use Rattle.msrp_text.specs.PlanText.{declaration, joined, record_text, records_text, step_record, steps_of}
use Rattle.msrp_text.specs.Writing.{IsNamedUnit, run_after, run_steps, steps_before, steps_text}

-- ---- records of a list
-- one element more, which is told in some records
pub wrote-some : {W X : Type 0} (contents : W → Option (List ℕ)) (a b c : Sink W) (f : X → List (List (List ℕ))) (xs : List X) (k : ℕ) (d : X) → k < length xs
    → Wrote contents a b (records_text (flat_map f (take k xs))) → Wrote contents b c (records_text (f (slice_index_or xs k d))) → Wrote contents a c (records_text (flat_map f (take (k + 1) xs)))
wrote-some {W} {X} contents a b c f xs k d within before next =
    let x : X = slice_index_or xs k d in
    let e : records_text (flat_map f (take (k + 1) xs)) ≡ records_text (flat_map f (take k xs)) ++ records_text (f x) =
    ap (λ ys. records_text (flat_map f ys)) (take_more xs k d within)
    ∙ (ap records_text (flat_map-append f (take k xs) (x ∷ []))
    ∙ (flat_map-append record_text (flat_map f (take k xs)) (f x ++ []) ∙ ap (λ rs. records_text (flat_map f (take k xs)) ++ records_text rs) (append-nil (f x)))) in
    subst (Wrote contents a c) (sym e) (wrote-more contents a b c _ _ before next)

-- one element more, which is told in one record
pub wrote-one : {W X : Type 0} (contents : W → Option (List ℕ)) (a b c : Sink W) (f : X → List (List ℕ)) (xs : List X) (k : ℕ) (d : X) → k < length xs
    → Wrote contents a b (records_text (map f (take k xs))) → Wrote contents b c (record_text (f (slice_index_or xs k d))) → Wrote contents a c (records_text (map f (take (k + 1) xs)))
wrote-one {W} {X} contents a b c f xs k d within before next =
    let x : X = slice_index_or xs k d in
    let e : records_text (map f (take (k + 1) xs)) ≡ records_text (map f (take k xs)) ++ record_text (f x) =
    ap (λ ys. records_text (map f ys)) (take_more xs k d within)
    ∙ (ap records_text (map-append f (take k xs) (x ∷ []))
    ∙ (flat_map-append record_text (map f (take k xs)) (f x ∷ []) ∙ ap (λ t. records_text (map f (take k xs)) ++ t) (append-nil (record_text (f x))))) in
    subst (Wrote contents a c) (sym e) (wrote-more contents a b c _ _ before next)

-- the last element
pub wrote-as : {W : Type 0} (contents : W → Option (List ℕ)) (a b : Sink W) (x y : List ℕ) → x ≡ y → Wrote contents a b x → Wrote contents a b y
wrote-as contents a b x y e w = subst (Wrote contents a b) e w

pub wrote-all : {W X : Type 0} (contents : W → Option (List ℕ)) (a b : Sink W) (text : List X → List ℕ) (xs : List X) (k : ℕ) → length xs ≤ k → Wrote contents a b (text (take k xs)) → Wrote contents a b (text xs)
wrote-all contents a b text xs k past w = subst (λ ys. Wrote contents a b (text ys)) (take_all k xs past) w

-- ---- units
-- the steps of so many units of work and what follows them
pub after_run : ℕ → List Step → List Step
after_run zero steps = steps
after_run (suc n) steps = after_run n (joined steps)

run_joins : (n m : ℕ) (steps : List Step) → after_run n (Run m ∷ steps) ≡ Run (m + n) ∷ steps
unfolding after_run
run_joins zero m steps = ap (λ k. Run k ∷ steps) (omega arith)
run_joins (suc n) m steps = run_joins n (m + 1) steps ∙ ap (λ k. Run k ∷ steps) (omega arith)

some_steps : (n : ℕ) → run_steps (suc n) ≡ Run (1 + n) ∷ []
some_steps n = ap (λ b. cond b [] (Run (suc n) ∷ [])) (ne_eqb (suc n) 0 (λ e. absurd (omega (arith, e)))) ∙ ap (λ k. Run k ∷ []) (omega arith)

-- the end, and a lock or an unlock, end the run
pub run_ends : (n : ℕ) → after_run n [] ≡ run_steps n
unfolding after_run
run_ends zero = refl
run_ends (suc n) = run_joins n 1 [] ∙ sym (some_steps n)

run_locks : (n : ℕ) (g : ResId) (steps : List Step) → after_run n (Lock g ∷ steps) ≡ run_steps n ++ Lock g ∷ steps
unfolding after_run
run_locks zero g steps = refl
run_locks (suc n) g steps = run_joins n 1 (Lock g ∷ steps) ∙ ap (λ ss. ss ++ Lock g ∷ steps) (sym (some_steps n))

run_unlocks : (n : ℕ) (g : ResId) (steps : List Step) → after_run n (Unlock g ∷ steps) ≡ run_steps n ++ Unlock g ∷ steps
unfolding after_run
run_unlocks zero g steps = refl
run_unlocks (suc n) g steps = run_joins n 1 (Unlock g ∷ steps) ∙ ap (λ ss. ss ++ Unlock g ∷ steps) (sym (some_steps n))

-- one unit more
unit_more : (run : ℕ) (u : Op) (us : List Op) → after_run run (steps_of (u ∷ us)) ≡ steps_before run u ++ after_run (run_after run u) (steps_of us)
unfolding after_run
unit_more run unit.Run us = let e : suc run ≡ run + 1 = omega arith in ap (λ n. after_run n (steps_of us)) e
unit_more run (unit.Lock g) us = run_locks run g (steps_of us) ∙ sym (append_assoc (run_steps run) (Lock g ∷ []) (steps_of us))
unit_more run (unit.Unlock g) us = run_unlocks run g (steps_of us) ∙ sym (append_assoc (run_steps run) (Unlock g ∷ []) (steps_of us))

-- the text of steps that follow others
pub steps_join : (plan : PlanModel) (a b : List Step) → steps_text plan (a ++ b) ≡ steps_text plan a ++ steps_text plan b
steps_join plan a b = ap records_text (map-append (step_record plan) a b) ∙ flat_map-append record_text (map (step_record plan) a) (map (step_record plan) b)

-- some units are written, and so many units of work wait
pub record IsWritten (plan : PlanModel) (us : List Op) (place run : ℕ) (text : List ℕ) : Type 0 where
  pub whole : text ++ steps_text plan (after_run run (steps_of (drop place us))) ≡ steps_text plan (steps_of us)
  pub waiting : run ≤ place

pub written_none : (plan : PlanModel) (us : List Op) → IsWritten plan us 0 0 []
unfolding after_run
written_none plan us = record { whole = refl; waiting = omega arith }

after_le : (run place : ℕ) (u : Op) → run ≤ place → run_after run u ≤ place + 1
after_le run place unit.Run h = omega (arith, h)
after_le run place (unit.Lock g) h = omega arith
after_le run place (unit.Unlock g) h = omega arith

pub written_more : (plan : PlanModel) (us : List Op) (place run : ℕ) (text : List ℕ) (u : Op) → slice_get us place ≡ Some u → IsWritten plan us place run text
    → IsWritten plan us (place + 1) (run_after run u) (text ++ steps_text plan (steps_before run u))
written_more plan us place run text u at h =
    let rest : drop place us ≡ u ∷ drop (place + 1) us =
    drop-cons us place u (slice_get_within us place u at) ∙ (ap (λ (x : Op). x ∷ drop (suc place) us) (get_or_from_slice_get us place u u at) ∙ ap (λ (n : ℕ). u ∷ drop n us) {x = suc place} {y = place + 1} (omega arith)) in
    let next = ap (λ ys. after_run run (steps_of ys)) rest ∙ unit_more run u (drop (place + 1) us) in
    record {
      whole = append_assoc text (steps_text plan (steps_before run u)) _ ∙ (ap (λ t. text ++ t) (sym (ap (steps_text plan) next ∙ steps_join plan (steps_before run u) _)) ∙ h.whole);
      waiting = after_le run place u h.waiting;
    }

drop_past : {X : Type 0} (xs : List X) (k : ℕ) → length xs ≤ k → drop k xs ≡ []
drop_past [] zero past = refl
drop_past [] (suc k) past = refl
drop_past (x ∷ xs) zero past = absurd (omega (arith, past))
drop_past (x ∷ xs) (suc k) past = drop_past xs k (omega (arith, past))

pub written_all : (plan : PlanModel) (us : List Op) (place run : ℕ) (text : List ℕ) → length us ≤ place → IsWritten plan us place run text → text ++ steps_text plan (run_steps run) ≡ steps_text plan (steps_of us)
unfolding after_run
written_all plan us place run text past h =
    ap (λ ss. text ++ steps_text plan ss) (sym (ap (λ ys. after_run run (steps_of ys)) (drop_past us place past) ∙ run_ends run)) ∙ h.whole

-- ---- the resources that units name are the plan's
lock_is : (g : ℕ) (u : Op) → is_lock_of g u ≡ true → (r : ResId) × ((u ≡ unit.Lock r) × (r.0 ≡ g))
lock_is g unit.Run e = absurd (cc)
lock_is g (unit.Lock r) e = (r, (refl, eqb-true r.0 g e))
lock_is g (unit.Unlock r) e = absurd (cc)

-- one unit more: it locks the resource, or what is before it does
locked_more : (plan : PlanModel) (us : List Op) (g n : ℕ) (b : Bool) → IsLocking plan us → n < length us → is_lock_of g (slice_index_or us n unit.Run) ≡ b → 0 < locks g (take (n + 1) us)
    → (0 < locks g (take n us) → g < length plan.resources) → g < length plan.resources
locked_more plan us g n true h within is some before =
    let l = lock_is g (slice_index_or us n unit.Run) is in
    let at = slice_get-get_or us n unit.Run within ∙ ap (λ (u : Op). Some u) l.1.0 in
    let known = h.declared n l.0 at in
    omega (arith, known, l.1.1)
locked_more plan us g n false h within is some before =
    let same = count_by_more_no (is_lock_of g) us n unit.Run within is in
    before (omega (arith, some, same))

-- what was locked before is one of the plan's
locked_named : (plan : PlanModel) (us : List Op) (g n : ℕ) → IsLocking plan us → 0 < locks g (take n us) → g < length plan.resources
locked_named plan us g zero h some = absurd (omega (arith, some))
locked_named plan us g (suc n) h some = elim (cases_lt n (length us)) [
  | inl within ↦
      let e : suc n ≡ n + 1 = omega arith in
      locked_more plan us g n _ h within refl (subst (λ k. 0 < locks g (take k us)) e some) (locked_named plan us g n h)
  | inr past ↦
      let same : take (suc n) us ≡ take n us = take_all (suc n) us (omega (arith, past)) ∙ sym (take_all n us past) in
      locked_named plan us g n h (subst (λ ys. 0 < locks g ys) same some)
]

same_number : (n : ℕ) → (n == n) ≡ true
same_number n = grind (arith, nat_tests)

-- so is what is unlocked, since it was locked
pub named_unit : (plan : PlanModel) (us : List Op) (n : ℕ) (u : Op) → IsLocking plan us → slice_get us n ≡ Some u → IsNamedUnit plan u
named_unit plan us n unit.Run h at = tt
named_unit plan us n (unit.Lock g) h at = h.declared n g at
named_unit plan us n (unit.Unlock g) h at =
    let within = slice_get_within us n (unit.Unlock g) at in
    let is = get_or_from_slice_get us n (unit.Unlock g) unit.Run at in
    let more = count_by_more_yes (is_unlock_of g.0) us n unit.Run within (ap (is_unlock_of g.0) is ∙ same_number g.0) in
    let below = h.below (n + 1) g.0 in
    locked_named plan us g.0 (n + 1) h (omega (arith, more, below))

-- ---- release times
-- a periodic task has no list, a listed one has one
pub not_listed : (times : ReleaseTimes) (p o : ℕ) → times_told times ≡ told.Every p o → is_listed times ≡ false
not_listed (Every period offset) p o e = refl
not_listed (Listed ticks) p o e = cc

pub of_a_list : (task : TaskModel) (times : ReleaseTimes) (n : ℕ) → times_told times ≡ told.Listed n → declaration task (Listed []) ≡ declaration task times
of_a_list task (Every period offset) n e = cc
of_a_list task (Listed ticks) n e = refl

-- the ticks of a list
pub listed_tick : (times : ReleaseTimes) (k : ℕ) → k < length (listed_ticks times) → tick_of times k ≡ Some (slice_index_or (listed_ticks times) k 0)
listed_tick (Every period offset) k past = absurd (omega (arith, past))
listed_tick (Listed ticks) k past = slice_get-get_or ticks k 0 past
