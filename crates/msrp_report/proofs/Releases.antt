-- The next releases of all tasks in one list, the earliest first.
use Rattle.std.proofs.Common.{◌≡◌, ◌≢◌, ◌<◌, ◌≤◌, ◌+◌, ◌-◌, ◌==◌, ◌∷◌, ◌++◌, ◌∙◌, ◌⊎◌}
use Rattle.msrp_plan.proofs.Common.{ℕ, zero, suc, nat_le, true, false, cond, List, [], Some, refl, ap, sym, subst, arith, inl, inr, length, map, take, drop, slice_get, slice_set, get_or, count_by, eqb-true, eq-eqb, All, insert, range_with_len, IsNonDecreasingBy, IsPermutation, true≢false, cases_Bool, eqb-false, false_from_ne_true, leb-false, leb-true, lt-leb, get_or-map, length-map, All-weaker, length-range_with_len, All-permutation, Contains-permutation, IsPermutation-map, IsPermutation-trans, sum_by-cons, same_Some, PlanModel}
use Rattle.msrp_report.proofs.Common.{All-cons, AreReleases, IsDistinct, IsNextRelease, IsNonDecreasingBy-insert, IsPermutation-insert, JobId, NextRelease, TaskTally, ToldOf, copy_within, eqb, get_set_other, get_set_same, in_range, is_due, release_or_end, sum_by-IsPermutation}
use Rattle.std.proofs.lemmas.List.FromFn.{get_or-range_with_len}
use Rattle.std.proofs.lemmas.Map.Keys.{IsDistinct-IsPermutation, IsDistinct-from_apart, apart_from_distinct}
use Rattle.msrp_report.proofs.JobTallies.{task_read}

abbrev pub tick_of : NextRelease → ℕ
tick_of r = r.tick

abbrev pub task_of : NextRelease → ℕ
task_of r = r.task.0

-- ---- one put back in place of the first
-- those up to its place move one to the front
moved : (x y : NextRelease) (xs : List NextRelease) (n : ℕ) → n ≤ length xs → slice_set (take n xs ++ drop n (x ∷ xs)) n y ≡ insert xs n y
moved x y xs zero l = refl
moved x y [] (suc n) l = absurd (omega (arith, l))
moved x y (z ∷ xs) (suc n) l = ap (λ zs. z ∷ zs) (moved z y xs n (omega (arith, l)))

put_is : (x y : NextRelease) (xs : List NextRelease) (n : ℕ) → n ≤ length xs → slice_set (copy_within (x ∷ xs) 1 (n + 1) 0) n y ≡ insert xs n y
put_is x y xs n l = ap (λ m. slice_set (take m xs ++ drop (0 + m) (x ∷ xs)) n y) (let e : n + 1 - 1 ≡ n = omega arith in e) ∙ (ap (λ m. slice_set (take n xs ++ drop m (x ∷ xs)) n y) (let e : 0 + n ≡ n = omega arith in e) ∙ moved x y xs n l)

pub put_same : (xs : List NextRelease) (n : ℕ) (y : NextRelease) → n < length xs → IsPermutation (slice_set xs 0 y) (slice_set (copy_within xs 1 (n + 1) 0) n y)
put_same [] n y l = absurd (omega (arith, l))
put_same (x ∷ xs) n y l = subst (IsPermutation (y ∷ xs)) (sym (put_is x y xs n (omega (arith, l)))) (IsPermutation-insert xs n y)

pub put_rising : (xs : List NextRelease) (n : ℕ) (y : NextRelease) → n < length xs → IsNonDecreasingBy tick_of xs → ((d : NextRelease) → 0 < n → (get_or xs n d).tick ≤ y.tick) → ((k : ℕ) (d : NextRelease) → n < k → k < length xs → y.tick < (get_or xs k d).tick) → IsNonDecreasingBy tick_of (slice_set (copy_within xs 1 (n + 1) 0) n y)
put_rising [] n y l up before after = absurd (omega (arith, l))
put_rising (x ∷ xs) n y l up before after =
    subst (IsNonDecreasingBy tick_of) (sym (put_is x y xs n (omega (arith, l))))
    (IsNonDecreasingBy-insert tick_of xs n y (λ i j d le h. up (suc i) (suc j) d (omega (arith, le)) (omega (arith, h))) (omega (arith, l))
    (λ k d less. let a = up (suc k) n d (omega (arith, less)) l in let b = before d (omega (arith, less)) in omega (arith, a, b))
    (λ k d past h. let a = after (suc k) d (omega (arith, past)) (omega (arith, h)) in omega (arith, a)))

-- ---- the first
pub due_some : (begun : ℕ) (xs : List NextRelease) → is_due begun xs ≡ true → 0 < length xs
due_some begun [] due = absurd (true≢false (sym due))
due_some begun (x ∷ xs) due = omega arith

pub due_come : (begun : ℕ) (xs : List NextRelease) (x : NextRelease) → is_due begun xs ≡ true → x ≡ get_or xs 0 x → x.tick ≤ begun
due_come begun [] x due read = absurd (true≢false (sym due))
due_come begun (y ∷ ys) x due read = let come = leb-true y.tick begun due in let same = ap tick_of read in omega (arith, come, same)

-- one that isn't due in its place: there is one less
pub one_less : (begun : ℕ) (xs : List NextRelease) (y : NextRelease) (new : List NextRelease) → is_due begun xs ≡ true → begun < y.tick → IsPermutation (slice_set xs 0 y) new → count_by (λ r. nat_le r.tick begun) xs ≡ count_by (λ r. nat_le r.tick begun) new + 1
one_less begun [] y new due later same = absurd (true≢false (sym due))
one_less begun (x ∷ xs) y new due later same =
    let bit : NextRelease → ℕ = λ r. cond (nat_le r.tick begun) 1 0 in
    let was = sum_by-cons bit x xs in
    let now = sum_by-cons bit y xs in
    let one : bit x ≡ 1 = ap (λ b. cond b 1 0) due in
    let none : bit y ≡ 0 = ap (λ b. cond b 1 0) (lt-leb y.tick begun later) in
    let moves = sum_by-IsPermutation bit (y ∷ xs) new same in
    omega (arith, was, now, one, none, moves)

-- ---- each task once
range_apart : (n : ℕ) → IsDistinct eqb (range_with_len 0 n)
range_apart n = IsDistinct-from_apart eqb (range_with_len 0 n) (λ i j d less l. false_from_ne_true (eqb (get_or (range_with_len 0 n) i d) (get_or (range_with_len 0 n) j d)) (λ e.
    let size = length-range_with_len 0 n in
    let same = eqb-true (get_or (range_with_len 0 n) i d) (get_or (range_with_len 0 n) j d) e in
    let at_i = get_or-range_with_len 0 n i d (omega (arith, less, l, size)) in
    let at_j = get_or-range_with_len 0 n j d (omega (arith, l, size)) in
    omega (arith, same, at_i, at_j, less)))

-- the tasks of those behind the first are others
others : (plan : PlanModel) (tasks : List TaskTally) (x : NextRelease) (xs : List NextRelease) → AreReleases plan tasks (x ∷ xs) → All (λ r. r.task.0 ≢ x.task.0) xs
others plan tasks x xs are k d l same =
    let n = length plan.tasks in
    let distinct = IsDistinct-IsPermutation eqb (λ a b. grind arith) (range_with_len 0 n) (map task_of (x ∷ xs)) are.once (range_apart n) in
    let size = length-map (x ∷ xs) task_of in
    let apart : eqb x.task.0 (get_or (map task_of xs) k 0) ≡ false = apart_from_distinct eqb (map task_of (x ∷ xs)) 0 (suc k) 0 distinct (omega arith) (omega (arith, l, size)) in
    true≢false (sym (eq-eqb x.task.0 (get_or (map task_of xs) k 0) (sym (get_or-map task_of xs k d 0 l ∙ same))) ∙ apart)

pub task_known : (plan : PlanModel) (tasks : List TaskTally) (xs : List NextRelease) (x : NextRelease) → AreReleases plan tasks xs → 0 < length xs → x ≡ get_or xs 0 x → x.task.0 < length plan.tasks
task_known plan tasks xs x are some read =
    let n = length plan.tasks in
    let below : All (λ t. t < n) (range_with_len 0 n) = λ k d l. (let size = length-range_with_len 0 n in let at = get_or-range_with_len 0 n k d (omega (arith, l, size)) in omega (arith, at, l, size)) in
    let size = length-map xs task_of in
    let known : get_or (map task_of xs) 0 0 < n = All-permutation (λ t. t < n) (range_with_len 0 n) (map task_of xs) are.once below 0 0 (omega (arith, some, size)) in
    let at = get_or-map task_of xs 0 x 0 some in
    let same = ap task_of read in
    omega (arith, known, at, same)

-- where the first isn't due, no task has a release
pub none_due : (plan : PlanModel) (begun : ℕ) (tasks : List TaskTally) (xs : List NextRelease) → AreReleases plan tasks xs → is_due begun xs ≡ false → (t : ℕ) (x : TaskTally) → slice_get tasks t ≡ Some x → t < length plan.tasks → begun < release_or_end plan t x.released
none_due plan begun tasks [] are none t x has l = let c = Contains-permutation (range_with_len 0 (length plan.tasks)) [] t are.once (in_range t (length plan.tasks) l) in absurd (omega (arith, c.1))
none_due plan begun tasks (r ∷ rs) are none t x has l =
    let c = Contains-permutation (range_with_len 0 (length plan.tasks)) (map task_of (r ∷ rs)) t are.once (in_range t (length plan.tasks) l) in
    let size = length-map (r ∷ rs) task_of in
    let within : c.0 < length (r ∷ rs) = (let w = c.1 in omega (arith, w, size)) in
    let q = get_or (r ∷ rs) c.0 r in
    let at : q.task.0 ≡ t = sym (get_or-map task_of (r ∷ rs) c.0 r t within) ∙ c.2 in
    let own = are.own c.0 r within x (subst (λ u. slice_get tasks u ≡ Some x) (sym at) has) ∙ ap (λ u. release_or_end plan u x.released) at in
    let up = are.rising 0 c.0 r (omega arith) within in
    let ahead = leb-false r.tick begun none in
    omega (arith, own, up, ahead)

-- ---- the tasks change
-- what is kept of a task changes, and not how many of its jobs are released
pub releases_kept : (plan : PlanModel) (tasks : List TaskTally) (xs : List NextRelease) (j : JobId) (x y : TaskTally) → ToldOf tasks j → x ≡ get_or tasks j.task.0 x → y.released ≡ x.released → AreReleases plan tasks xs → AreReleases plan (slice_set tasks j.task.0 y) xs
releases_kept plan tasks xs j x y told read same are = record {
  own = All-weaker (IsNextRelease plan tasks) (IsNextRelease plan (slice_set tasks t y)) (λ r own z has. by_task r own z has (cases_Bool (r.task.0 == t))) xs are.own;
  once = are.once;
  rising = are.rising;
}
  where
    t : ℕ
    t = j.task.0

    was : slice_get tasks j.task.0 ≡ Some x
    was = task_read tasks j x told read

    by_task : (r : NextRelease) → IsNextRelease plan tasks r → (z : TaskTally) → slice_get (slice_set tasks t y) r.task.0 ≡ Some z → ((r.task.0 == t) ≡ true) ⊎ ((r.task.0 == t) ≡ false) → r.tick ≡ release_or_end plan r.task.0 z.released
    by_task r own z has (inl e) =
        let at = eqb-true r.task.0 t e in
        let here : y ≡ z = same_Some y z (sym (get_set_same tasks t x y was) ∙ (ap (slice_get (slice_set tasks t y)) (sym at) ∙ has)) in
        own x (ap (slice_get tasks) at ∙ was) ∙ ap (release_or_end plan r.task.0) (sym same ∙ ap (λ (w : TaskTally). w.released) here)
    by_task r own z has (inr e) = own z (sym (get_set_other tasks t r.task.0 y (eqb-false r.task.0 t e)) ∙ has)

-- the first task has another next release
pub releases_next : (plan : PlanModel) (tasks : List TaskTally) (xs : List NextRelease) (x : NextRelease) (was now : TaskTally) (tick : ℕ) (new : List NextRelease) → AreReleases plan tasks xs → 0 < length xs → x ≡ get_or xs 0 x → slice_get tasks x.task.0 ≡ Some was → tick ≡ release_or_end plan x.task.0 now.released
    → IsPermutation (slice_set xs 0 (record { tick = tick; task = x.task })) new → IsNonDecreasingBy tick_of new → AreReleases plan (slice_set tasks x.task.0 now) new
releases_next plan tasks [] x was now tick new are some read at next same up = absurd (omega (arith, some))
releases_next plan tasks (z ∷ zs) x was now tick new are some read at next same up = record {
  own = All-permutation (IsNextRelease plan after) (y ∷ zs) new same (All-cons (IsNextRelease plan after) y zs own rest);
  once = IsPermutation-trans (range_with_len 0 (length plan.tasks)) (map task_of (y ∷ zs)) (map task_of new) (subst (λ n. IsPermutation (range_with_len 0 (length plan.tasks)) (n ∷ map task_of zs)) (sym (ap task_of read)) are.once) (IsPermutation-map task_of (y ∷ zs) new same);
  rising = up;
}
  where
    after : List TaskTally
    after = slice_set tasks x.task.0 now

    y : NextRelease
    y = record { tick = tick; task = x.task }

    own : IsNextRelease plan after y
    own w has = next ∙ ap (λ (v : TaskTally). release_or_end plan x.task.0 v.released) (same_Some now w (sym (get_set_same tasks x.task.0 was now at) ∙ has))

    rest : All (IsNextRelease plan after) zs
    rest k d l w has =
        let q = get_or zs k d in
        let other : q.task.0 ≢ x.task.0 = λ e. others plan tasks z zs are k d l (e ∙ ap task_of read) in
        are.own (suc k) d (omega (arith, l)) w (sym (get_set_other tasks x.task.0 q.task.0 now other) ∙ has)
