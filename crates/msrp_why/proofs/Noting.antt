-- What is noted of the resources stays what the rows say, one row more.
use Rattle.std.proofs.Common.{◌≡◌, ◌≢◌, ◌+◌, ◌-◌, ◌^◌, ◌<◌, ◌≤◌, ◌&&◌, ◌∷◌, ◌++◌, ◌∙◌, ◌||◌}
use Rattle.msrp_plan.proofs.Common.{ℕ, zero, suc, min, Bool, true, false, cond, List, [], Option, Some, None, refl, ap, sym, subst, arith, length, length-append, drop, append-nil, is_some, map, slice_get, slice_set, Contains, cons_option, filter, true≢false, and_parts, drop-append-le, drop-drop, length-map, filter-append, fold_push, sum_by_push, PlanModel, has_shape, is_global, resources, done, holds, is_queued, is_global_unit, res_of_unit, fifo, is_first, is_on, is_release, is_release_of, is_request, IsRunStart, IsPlan, same_is, in_resources, DoesUnit, legal_turn, not_equal, units_lock, list_any, range_with_len, allows, start_last, start_before}
use Rattle.msrp_why.proofs.Common.{AreResourcesNoted, IsNoted, JobId, Kind, Lock, LockUnit, Numbered, Op, Queue, ResId, ResourceNotes, Row, Run, RunUnit, Take, Unlock, UnlockUnit, changes, eqb-true, is_change, is_inside, is_user, job_of, last_change, last_row, min-eq_left, numbered, option_map, option_map_or, queue_rows, requests}
use Rattle.std.specs.List.{fold}
use Rattle.std.proofs.lemmas.List.{drop-map}
use Rattle.msrp_plan.proofs.Holding.Holders.{orderly_at}
use Rattle.msrp_plan.proofs.Queues.Fifos.{IsFed, fifo_request, released, requested, requesting}
use Rattle.msrp_plan.proofs.Queues.QueueMembers.{queue_at, queue_short}
use Rattle.msrp_plan.proofs.TaskUnits.Stands.{holder_stands}
use Rattle.msrp_why.proofs.Exercising.{counts_off, few_before}

-- ---- the rows with their numbers, one more
abbrev pub entry : ℕ → Row → Numbered
entry n r = record { number = n; row = r }

numbered_push : (n : ℕ) (rows : List Row) (r : Row) → numbered n (rows ++ r ∷ []) ≡ numbered n rows ++ entry (n + length rows + 1) r ∷ []
numbered_push n [] r = ap (λ k. entry k r ∷ []) (omega arith)
numbered_push n (x ∷ rows) r = ap (λ es. entry (n + 1) x ∷ es) (numbered_push (n + 1) rows r ∙ ap (λ k. numbered (n + 1) rows ++ entry k r ∷ []) (omega arith))

numbered_more : (rows : List Row) (r : Row) → numbered 0 (rows ++ r ∷ []) ≡ numbered 0 rows ++ entry (length rows + 1) r ∷ []
numbered_more rows r = numbered_push 0 rows r ∙ ap (λ k. numbered 0 rows ++ entry k r ∷ []) (omega arith)

-- those that pass a test
passing_more : (p : Numbered → Bool) (rows : List Row) (r : Row) (b : Bool) → p (entry (length rows + 1) r) ≡ b → filter p (numbered 0 (rows ++ r ∷ [])) ≡ filter p (numbered 0 rows) ++ cond b (entry (length rows + 1) r ∷ []) []
passing_more p rows r b h =
    let e = entry (length rows + 1) r in
    ap (filter p) (numbered_more rows r) ∙ (filter-append p (numbered 0 rows) (e ∷ []) ∙ ap (λ c. filter p (numbered 0 rows) ++ cond c (e ∷ []) []) h)

-- an element of a list where one was replaced
pub set_each : {X : Type 0} (P : ℕ → X → Type 0) (xs : List X) (i : ℕ) (y : X) → ((k : ℕ) (x : X) → k ≢ i → slice_get xs k ≡ Some x → P k x) → P i y → (k : ℕ) (x : X) → slice_get (slice_set xs i y) k ≡ Some x → P k x
set_each P [] i y others here k x h = absurd (cc)
set_each P (z ∷ xs) zero y others here zero x h = let s : y ≡ x = cc in subst (P 0) s here
set_each P (z ∷ xs) zero y others here (suc k) x h = others (suc k) x (λ e. absurd (omega (arith, e))) h
set_each P (z ∷ xs) (suc i) y others here zero x h = others 0 x (λ e. absurd (omega (arith, e))) h
set_each P (z ∷ xs) (suc i) y others here (suc k) x h = set_each (λ n. P (suc n)) xs i y (λ n w ne is. others (suc n) w (λ e. ne (omega (arith, e))) is) here k x h

-- ---- the last row, and the last change
pub last_row_push : (rows : List Row) (r : Row) (n : ℕ) → n ≡ length rows + 1 → Some (entry n r) ≡ last_row (rows ++ r ∷ [])
last_row_push rows r n e = ap (λ k. Some (entry k r)) e ∙ (sym (fold_push (λ o e. Some e) None (numbered 0 rows) (entry (length rows + 1) r)) ∙ ap (fold (λ _ e. Some e) None) (sym (numbered_more rows r)))

last_push : (g : ℕ) (rows : List Row) (r : Row) (b : Bool) → changes g (entry (length rows + 1) r) ≡ b → last_change g (rows ++ r ∷ []) ≡ cond b (Some (entry (length rows + 1) r)) (last_change g rows)
last_push g rows r b h = ap (fold (λ _ e. Some e) None) (passing_more (changes g) rows r b h) ∙ by_test b
  where
    by_test : (c : Bool) → fold (λ _ e. Some e) None (filter (changes g) (numbered 0 rows) ++ cond c (entry (length rows + 1) r ∷ []) []) ≡ cond c (Some (entry (length rows + 1) r)) (last_change g rows)
    by_test true = fold_push (λ o e. Some e) None (filter (changes g) (numbered 0 rows)) (entry (length rows + 1) r)
    by_test false = ap (fold (λ _ e. Some e) None) (append-nil (filter (changes g) (numbered 0 rows)))

-- a row on the resource
pub last_on : (g : ℕ) (rows : List Row) (r : Row) (k : Kind) → is_on g r.res ≡ true → r.kind ≡ k → last_change g (rows ++ r ∷ []) ≡ cond (is_change k) (Some (entry (length rows + 1) r)) (last_change g rows)
last_on g rows r k on is = last_push g rows r (is_change k) (ap (λ b. b && is_change r.kind) on ∙ ap is_change is)

-- a row that isn't on it
pub last_off : (g : ℕ) (rows : List Row) (r : Row) → is_on g r.res ≡ false → last_change g rows ≡ last_change g (rows ++ r ∷ [])
last_off g rows r off = sym (last_push g rows r false (ap (λ b. b && is_change r.kind) off))

-- ---- the queue
-- a request tells who requests
has_job : (k : Kind) (j : Option JobId) (res : Option ResId) → has_shape k j res ≡ true → is_request k ≡ true → is_some j ≡ true
has_job Take (Some x) res s q = refl
has_job Queue (Some x) res s q = refl
has_job Take None res s q = absurd (cc)
has_job Queue None res s q = absurd (cc)
has_job _ j res s q = absurd (cc)

jobs_more : (b : Bool) (o : Option JobId) → (b ≡ true → is_some o ≡ true) → (e : Numbered) (es : List Numbered) (js : List JobId) → e.row.job ≡ o → map job_of es ≡ map (λ j. Some j) js → map job_of (cond b (e ∷ es) es) ≡ map (λ j. Some j) (cons_option (cond b o None) js)
jobs_more true (Some x) h e es js same all = ap (λ j. j ∷ map job_of es) same ∙ ap (λ (xs : List (Option JobId)). Some x ∷ xs) all
jobs_more true None h e es js same all = absurd (true≢false (sym (h refl)))
jobs_more false o h e es js same all = all

-- the jobs of the requests, with their numbers, are those that requested it
jobs_are : (g n : ℕ) (rows : List Row) → map job_of (filter (requests g) (numbered n rows)) ≡ map (λ j. Some j) (requested g rows)
jobs_are g n [] = refl
jobs_are g n (r ∷ rows) =
    jobs_more (is_on g r.res && is_request r.kind) r.job (λ b. has_job r.kind r.job r.res r.shape (and_parts (is_on g r.res) (is_request r.kind) b).1) (record { number = n + 1; row = r }) (filter (requests g) (numbered (n + 1) rows)) (requested g rows) refl (jobs_are g (n + 1) rows)

-- who stands in the queue by the rows is who stands in it
pub queue_jobs : (g : ℕ) (rows : List Row) → map job_of (queue_rows g rows) ≡ map (λ j. Some j) (fifo g rows)
queue_jobs g rows =
    sym (drop-map job_of (released g rows) (filter (requests g) (numbered 0 rows))) ∙ (ap (drop (released g rows)) (jobs_are g 0 rows) ∙ drop-map (λ j. Some j) (released g rows) (requested g rows))

first_by : (es : List Numbered) (f : List JobId) (j : JobId) → map job_of es ≡ map (λ i. Some i) f → is_first f (Some j) ≡ true → option_map job_of (slice_get es 0) ≡ Some (Some j)
first_by es [] j all first = absurd (cc)
first_by [] (i ∷ is) j all first = absurd (cc)
first_by (e ∷ es) (i ∷ is) j all first =
    ap (λ (xs : List (Option JobId)). slice_get xs 0) all ∙ ap (λ k. Some (Some k)) (sym (same_is j i first))

-- who holds a global resource requested it in the first of these rows
pub first_holds : (plan : PlanModel) (rows : List Row) (g : ℕ) (j : JobId) → IsPlan plan → is_global plan g ≡ true → IsRunStart plan rows → holds plan rows g j ≡ true → option_map job_of (slice_get (queue_rows g rows) 0) ≡ Some (Some j)
first_holds plan rows g j ok global start held = first_by (queue_rows g rows) (fifo g rows) j (queue_jobs g rows) ((orderly_at plan g rows ok global start.each).first j (holder_stands plan g rows j held))

-- as many stand in the queue
queue_size : (g : ℕ) (rows : List Row) → length (queue_rows g rows) ≡ length (fifo g rows)
queue_size g rows = sym (length-map (queue_rows g rows) job_of) ∙ (ap length (queue_jobs g rows) ∙ length-map (fifo g rows) (λ j. Some j))

-- no more releases than requests
fed_rows : (g : ℕ) (rows : List Row) → IsFed g rows → released g rows ≤ length (filter (requests g) (numbered 0 rows))
fed_rows g rows fed =
    let n = sym (length-map (filter (requests g) (numbered 0 rows)) job_of) ∙ (ap length (jobs_are g 0 rows) ∙ length-map (requested g rows) (λ j. Some j)) in
    omega (arith, n, fed)

-- a list without its first n, one element more at the end or one less at the front
shifted : (n : ℕ) (es : List Numbered) (e : Numbered) (b c : Bool) → (b ≡ true → (c ≡ false) × (n ≤ length es)) → drop (n + cond c 1 0) (es ++ cond b (e ∷ []) []) ≡ cond b (drop n es ++ e ∷ []) (cond c (drop 1 (drop n es)) (drop n es))
shifted n es e true true joins = absurd (true≢false (joins refl).0)
shifted n es e true false joins = ap (λ m. drop m (es ++ e ∷ [])) (omega arith) ∙ drop-append-le n es (e ∷ []) (joins refl).1
shifted n es e false true joins = ap (drop (n + 1)) (append-nil es) ∙ sym (drop-drop 1 n es)
shifted n es e false false joins = ap (drop (n + 0)) (append-nil es) ∙ ap (λ m. drop m es) (omega arith)

-- one row more, by whether it requests or releases the resource: a request joins the end, a release
-- takes the front away
queue_push : (g : ℕ) (rows : List Row) (r : Row) (b c : Bool) → requests g (entry (length rows + 1) r) ≡ b → is_release_of g r ≡ c → (b ≡ true → (c ≡ false) × IsFed g rows)
    → queue_rows g (rows ++ r ∷ []) ≡ cond b (queue_rows g rows ++ entry (length rows + 1) r ∷ []) (cond c (drop 1 (queue_rows g rows)) (queue_rows g rows))
queue_push g rows r b c request release fed =
    ap (λ m. drop m (filter (requests g) (numbered 0 (rows ++ r ∷ [])))) (sum_by_push (λ w. cond (is_release_of g w) 1 0) rows r ∙ ap (λ d. released g rows + cond d 1 0) release)
    ∙ (ap (drop (released g rows + cond c 1 0)) (passing_more (requests g) rows r b request) ∙ shifted (released g rows) (filter (requests g) (numbered 0 rows)) (entry (length rows + 1) r) b c (λ q. ((fed q).0, fed_rows g rows (fed q).1)))

-- ---- a row on it
-- a request is one of a global resource
request_of : (b q : Bool) (op : Op) (k : Kind) → is_request k ≡ true → allows b q op k ≡ true → (b ≡ true) × (h : ResId) × (op ≡ LockUnit h)
request_of true q (LockUnit h) Take request a = (refl, h, refl)
request_of true q (LockUnit h) Queue request a = (refl, h, refl)
request_of false q (LockUnit h) Lock request a = absurd (cc)
request_of b q RunUnit Run request a = absurd (cc)
request_of b q (UnlockUnit h) Unlock request a = absurd (cc)
request_of _ q _ _ request a = absurd (cc)

-- what is requested is a global resource of the plan
requested_is : (plan : PlanModel) (pre : List Row) (r : Row) (x : JobId) (g : ℕ) → IsPlan plan → DoesUnit plan pre x r → is_on g r.res ≡ true → is_request r.kind ≡ true → (is_global plan g ≡ true) × Contains (resources plan) g
requested_is plan pre r x g ok d on request =
    let u = request_of (is_global_unit plan d.op) (is_queued pre x) d.op r.kind request d.kind in
    let h = u.1 in
    let s : h.0 ≡ g = eqb-true h.0 g (sym (ap (is_on g) (d.res ∙ ap res_of_unit u.2)) ∙ on) in (
      subst (λ n. is_global plan n ≡ true) s (sym (ap (is_global_unit plan) u.2) ∙ u.0),
      subst (λ n. Contains (resources plan) n) s (in_resources plan h.0 ((units_lock plan ok x.task.0).declared (done x pre) h (d.unit ∙ ap (λ o. Some o) u.2))),
    )

no_release : (k : Kind) → is_request k ≡ true → is_release k ≡ false
no_release Take e = refl
no_release Queue e = refl
no_release _ e = absurd (cc)

module _ (plan : PlanModel) (rows : List Row) (r : Row) (g : ℕ) (ok : IsPlan plan) (start : IsRunStart plan (rows ++ r ∷ [])) (on : is_on g r.res ≡ true) where
  -- a request of it finds fewer than there are cores
  request_fits : is_request r.kind ≡ true → IsFed g rows × (length (queue_rows g rows) + 1 ≤ plan.cores)
  request_fits request = by_job r.job refl (has_job r.kind r.job r.res r.shape request)
    where
      by_job : (o : Option JobId) → r.job ≡ o → is_some o ≡ true → IsFed g rows × (length (queue_rows g rows) + 1 ≤ plan.cores)
      by_job None job some = absurd (true≢false (sym some))
      by_job (Some x) job some =
          let known = requested_is plan rows r x g ok ((legal_turn plan rows r (start_last plan rows r start)).does x job) on request in
          let fed = (queue_at plan g rows ok known.0 known.1 (start_before plan rows (r ∷ []) start).each).orderly.fed in
          let release : is_release_of g r ≡ false = ap (λ b. b && is_release r.kind) on ∙ no_release r.kind request in
          let joined = ap length (fifo_request g rows r x fed release (requesting g r x r.kind on refl request job)) ∙ length-append (fifo g rows) (x ∷ []) in
          let short = queue_short plan g (rows ++ r ∷ []) (queue_at plan g (rows ++ r ∷ []) ok known.0 known.1 start.each) in
          let size = queue_size g rows in
          (fed, omega (arith, joined, short, size))

  pub request_short : is_request r.kind ≡ true → length (queue_rows g rows) < 8
  request_short request = let f = (request_fits request).1 in let most = ok.draft.cores.1 in omega (arith, f, most)

  -- the queue with the row
  pub queue_on : queue_rows g (rows ++ r ∷ []) ≡ cond (is_request r.kind) (queue_rows g rows ++ entry (length rows + 1) r ∷ []) (cond (is_release r.kind) (drop 1 (queue_rows g rows)) (queue_rows g rows))
  queue_on = queue_push g rows r (is_request r.kind) (is_release r.kind) (ap (λ b. b && is_request r.kind) on) (ap (λ b. b && is_release r.kind) on) (λ request. (no_release r.kind request, (request_fits request).0))

-- ---- a row that isn't on the resource
pub noted_off : (rows : List Row) (r : Row) (g : ℕ) (n : ResourceNotes) → is_on g r.res ≡ false → IsNoted rows g n → IsNoted (rows ++ r ∷ []) g n
noted_off rows r g n off is = record {
  queue = is.queue ∙ sym (queue_push g rows r false false (ap (λ b. b && is_request r.kind) off) (ap (λ b. b && is_release r.kind) off) (λ e. absurd (true≢false (sym e))));
  last = is.last ∙ last_off g rows r off;
  counts = counts_off g rows r n.counts off is.counts;
}

-- a row that is on one resource is on no other
pub off_it : (r : Row) (res : ResId) (g : ℕ) → r.res ≡ Some res → g ≢ res.0 → is_on g r.res ≡ false
off_it r res g e ne = ap (is_on g) e ∙ not_equal res.0 g (λ same. ne (sym same))

-- ---- whether a job is inside a critical section
any_places : {X : Type 0} (p : X → Bool) (q : ℕ → Bool) (xs : List X) (k : ℕ) → ((i : ℕ) (x : X) → slice_get xs i ≡ Some x → p x ≡ q (k + i)) → list_any p xs ≡ list_any q (range_with_len k (length xs))
any_places p q [] k h = refl
any_places p q (x ∷ xs) k h =
    ap (λ b. b || list_any p xs) (h 0 x refl ∙ ap q (omega arith)) ∙ ap (λ b. q k || b) (any_places p q xs (k + 1) (λ i y e. h (suc i) y e ∙ ap q (omega arith)))

pub nests_noted : (plan : PlanModel) (rows : List Row) (o : Option JobId) (notes : List ResourceNotes) → AreResourcesNoted plan rows notes
    → option_map_or (λ j. list_any (λ n. is_user j n.last n.queue.items) notes) o false ≡ option_map_or (is_inside plan rows) o false
nests_noted plan rows None notes is = refl
nests_noted plan rows (Some j) notes is =
    let q : ℕ → Bool = λ g. is_user j (last_change g rows) (queue_rows g rows) in
    any_places (λ n. is_user j n.last n.queue.items) q notes 0 (λ g n has.
    let e = is.each g n has in
    ap (λ l. is_user j l n.queue.items) e.last ∙ (ap (is_user j (last_change g rows)) e.queue ∙ ap q (omega arith))) ∙ ap (λ m. list_any q (range_with_len 0 m)) is.size

-- ---- how many rows were noted
pub one_more : (plan : PlanModel) (rows : List Row) (r : Row) (k n : ℕ) → IsPlan plan → IsRunStart plan (rows ++ r ∷ []) → k ≡ length rows → n ≡ min (k + 1) (2 ^ 32 - 1) → n ≡ length rows + 1
one_more plan rows r k n ok start e is =
    let few = few_before plan rows r ok start in
    is ∙ (min-eq_left (omega (arith, e, few)) ∙ ap (λ m. m + 1) e)
