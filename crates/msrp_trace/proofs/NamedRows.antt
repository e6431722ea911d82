-- The rows of a legal run name what the plan has, and their numbers are short.
use Rattle.msrp_plan.proofs.Common.{ℕ, zero, suc, Bool, true, List, [], map, Option, Some, None, IfSome, length, refl, sym, subst, arith, slice_get, length-append, nat_lt, count_by, mul-le-mul_left, mul-le-mul_right, AllByRecursion, cons_option, filter_map, list_all, range_with_len, and_from, All-contains, All-from_recursion, PlanModel, release, task_at, units, job_at, jobs, jobs_of, jobs_on, res_of_unit, carries_its_ahead, fifo, is_release_of, requester, EachAfter, IsLegal, IsRunStart, has_shape, is_queue, may_carry, IsPlan, core_jobs_below, all_filtered, IsTurn, idle_res, legal_due, legal_turn}
use Rattle.msrp_plan.specs.declared.ids.JobId.{JobId}
use Rattle.msrp_plan.specs.declared.ids.ResId.{ResId}
use Rattle.msrp_plan.specs.declared.rows.Kind.{Kind}
use Rattle.msrp_plan.specs.declared.rows.Kind.TheVariants.{Queue}
use Rattle.msrp_plan.specs.declared.rows.Row.{Row}
use Rattle.msrp_plan.specs.declared.rows.TextVersion.{TextVersion}
use Rattle.msrp_plan.specs.declared.rows.TextVersion.TheVariants.{V1, V2}
use Rattle.msrp_plan.specs.declared.units.Op.{Op}
use Rattle.std.proofs.Common.{◌≡◌, ◌+◌, ◌*◌, ◌<◌, ◌≤◌, ◌&&◌, ◌∷◌, ◌++◌, lt-ltb}
use Rattle.std.proofs.Math.Nat.{div-le_self}
use Rattle.std.proofs.lemmas.List.{length-drop}
use Rattle.msrp_plan.specs.declared.units.Op.TheVariants.{Run, Lock, Unlock}
use Rattle.msrp_plan.proofs.Legality.Aheads.{ahead_is}
use Rattle.msrp_text.proofs.ReadBack.{all_gathered}
use Rattle.msrp_text.proofs.Written.{named_unit}
use Rattle.msrp_trace.specs.Laws.{as_read, has_short_ahead, has_short_job, has_short_numbers, is_short, is_told_whole}
use Rattle.msrp_trace.specs.TraceText.{is_named}
use Rattle.msrp_trace.proofs.Records.{named-from}

-- ---- names
known_task : (plan : PlanModel) (pre : List Row) (r : Row) (j : JobId) → IsTurn plan pre r → r.job ≡ Some j → j.task.0 < length plan.tasks
known_task plan pre r j turn e = All-contains (λ (i : JobId). i.task.0 < length plan.tasks) (jobs_on plan r.core.0) j (All-from_recursion (λ (i : JobId). i.task.0 < length plan.tasks) (jobs_on plan r.core.0) (core_jobs_below plan r.core.0)) (turn.known j e)

job_named : (plan : PlanModel) (pre : List Row) (r : Row) (o : Option JobId) → IsTurn plan pre r → r.job ≡ o → IfSome o (λ j. j.task.0 < length plan.tasks)
job_named plan pre r None turn e = tt
job_named plan pre r (Some j) turn e = known_task plan pre r j turn e

no_res : (o : Option ResId) (n : ℕ) → o ≡ None → IfSome o (λ g. g.0 < n)
no_res None n e = tt
no_res (Some g) n e = absurd (cc)

unit_res : (plan : PlanModel) (us : List Op) (n : ℕ) (op : Op) → IsPlan plan → (t : ℕ) → t < length plan.tasks → us ≡ (task_at plan t).units → slice_get us n ≡ Some op → IfSome (res_of_unit op) (λ g. g.0 < length plan.resources)
unit_res plan us n Run ok t l e at = tt
unit_res plan us n (Lock g) ok t l e at = named_unit plan (task_at plan t).units n (Lock g) (ok.draft.locking t l) (subst (λ xs. slice_get xs n ≡ Some (Lock g)) e at)
unit_res plan us n (Unlock g) ok t l e at = named_unit plan (task_at plan t).units n (Unlock g) (ok.draft.locking t l) (subst (λ xs. slice_get xs n ≡ Some (Unlock g)) e at)

res_named : (plan : PlanModel) (pre : List Row) (r : Row) (o : Option JobId) → IsPlan plan → IsTurn plan pre r → r.job ≡ o → IfSome r.res (λ g. g.0 < length plan.resources)
res_named plan pre r None ok turn e = no_res r.res (length plan.resources) (idle_res r (turn.idle e))
res_named plan pre r (Some j) ok turn e =
    let does = turn.does j e in
    subst (λ o. IfSome o (λ g. g.0 < length plan.resources)) (sym does.res) (unit_res plan (units plan j) _ does.op ok j.task.0 (known_task plan pre r j turn e) refl does.unit)

-- a row that is a turn of its core names what the plan has
pub turn_named : (plan : PlanModel) (pre : List Row) (r : Row) → IsPlan plan → IsTurn plan pre r → is_named plan r ≡ true
turn_named plan pre r ok turn = named-from plan r (job_named plan pre r r.job turn refl) (res_named plan pre r r.job ok turn refl)

-- ---- numbers
short_below : (n m : ℕ) → n ≤ m → m ≤ 160000 → is_short n ≡ true
short_below n m h k = lt-ltb n 1000000000 (omega (arith, h, k))

-- a job has a number below that of the ticks
numbers_below : (t a n m : ℕ) → a + n ≤ m → AllByRecursion (λ j. j.k < m) (map (job_at t) (range_with_len a n))
numbers_below t a zero m h = tt
numbers_below t a (suc n) m h = (omega (arith, h), numbers_below t (a + 1) n m (omega (arith, h)))

all_unit : (ts : List ℕ) → AllByRecursion (λ t. Unit {0}) ts
all_unit [] = tt
all_unit (t ∷ ts) = (tt, all_unit ts)

jobs_below : (plan : PlanModel) (c : ℕ) → AllByRecursion (λ j. j.k < plan.ticks) (jobs_on plan c)
jobs_below plan c =
    all_filtered (λ j. j.k < plan.ticks) _ (jobs plan)
    (all_gathered (λ t. Unit {0}) (λ j. j.k < plan.ticks) (jobs_of plan)
    (λ t any. all_filtered (λ j. j.k < plan.ticks) (λ j. nat_lt (release plan j) plan.ticks) (map (job_at t) (range_with_len 0 plan.ticks)) (numbers_below t 0 plan.ticks plan.ticks (omega arith)))
    (range_with_len 0 (length plan.tasks)) (all_unit (range_with_len 0 (length plan.tasks))))

job_short : (plan : PlanModel) (pre : List Row) (r : Row) (o : Option JobId) → IsPlan plan → IsTurn plan pre r → r.job ≡ o → has_short_job o ≡ true
job_short plan pre r None ok turn e = refl
job_short plan pre r (Some j) ok turn e =
    let below = All-contains (λ (i : JobId). i.k < plan.ticks) (jobs_on plan r.core.0) j (All-from_recursion (λ (i : JobId). i.k < plan.ticks) (jobs_on plan r.core.0) (jobs_below plan r.core.0)) (turn.known j e) in
    let most = ok.draft.ticks.1 in
    short_below j.k 20000 (omega (arith, below, most)) (omega arith)

-- a queue isn't longer than the rows
one_fewer : {X Y : Type 0} (o : Option Y) (f : X → Option Y) (xs : List X) (n : ℕ) → length (filter_map f xs) ≤ n → length (cons_option o (filter_map f xs)) ≤ n + 1
one_fewer None f xs n h = omega (arith, h)
one_fewer (Some y) f xs n h = omega (arith, h)

fewer : {X Y : Type 0} (f : X → Option Y) (xs : List X) → length (filter_map f xs) ≤ length xs
fewer f [] = omega arith
fewer f (x ∷ xs) = let one = one_fewer (f x) f xs (length xs) (fewer f xs) in omega (arith, one)

queue_fewer : (g : ℕ) (pre : List Row) → length (fifo g pre) ≤ length pre
queue_fewer g pre =
    let all = fewer (requester g) pre in
    let some = length-drop (count_by (is_release_of g) pre) (filter_map (requester g) pre) in
    omega (arith, all, some)

-- a queue row is on a resource
queue_res : (k : Kind) (job : Option JobId) → is_queue k ≡ true → has_shape k job None ≡ true → ⊥
queue_res Queue None q s = cc
queue_res Queue (Some j) q s = cc
queue_res _ job q s = cc

ahead_short : (plan : PlanModel) (pre : List Row) (r : Row) (o : Option ℕ) → IsLegal plan pre r → length pre ≤ 160000 → r.ahead ≡ o → has_short_ahead o ≡ true
ahead_short plan pre r None h few e = refl
ahead_short plan pre r (Some n) h few e = by r.res refl
  where
    by : (res : Option ResId) → r.res ≡ res → is_short n ≡ true
    by None bare =
        let queue : is_queue r.kind ≡ true = subst (λ a. may_carry r.kind a ≡ true) e r.carrier in
        absurd (queue_res r.kind r.job queue (subst (λ res. has_shape r.kind r.job res ≡ true) bare r.shape))
    by (Some g) on =
        let is = ahead_is plan pre r g n h on e in
        let short = queue_fewer g.0 pre in
        short_below n (length pre) (omega (arith, is, short)) few

-- each number of a turn is short, if its ahead is
turn_short : (plan : PlanModel) (pre : List Row) (r : Row) (ahead : Bool) → IsPlan plan → IsTurn plan pre r → r.core.0 < plan.cores → r.tick ≤ 160000 → ahead ≡ true → (is_short r.tick && (is_short r.core.0 && (has_short_job r.job && ahead))) ≡ true
turn_short plan pre r ahead ok turn low early is =
    let core : r.core.0 ≤ 8 = let most = ok.draft.cores.1 in omega (arith, low, most) in
    and_from _ _ (short_below r.tick 160000 early (omega arith)) (and_from _ _ (short_below r.core.0 8 core (omega arith)) (and_from _ _ (job_short plan pre r r.job ok turn refl) is))

few_short : (o : Option ℕ) → IfSome o (λ n. n ≤ 160000) → has_short_ahead o ≡ true
few_short None few = refl
few_short (Some n) few = short_below n 160000 few (omega arith)

-- a row that is a turn of its core, and carries its ahead, is told whole
pub turn_whole : (version : TextVersion) (plan : PlanModel) (pre : List Row) (r : Row) → IsPlan plan → IsTurn plan pre r → r.core.0 < plan.cores → r.tick ≤ 160000 → IfSome r.ahead (λ n. n ≤ 160000) → carries_its_ahead r ≡ true → is_told_whole version plan (as_read version r) ≡ true
turn_whole V1 plan pre r ok turn low early few carries = and_from _ _ (turn_named plan pre r ok turn) (and_from _ _ (turn_short plan pre r true ok turn low early refl) refl)
turn_whole V2 plan pre r ok turn low early few carries = and_from _ _ (turn_named plan pre r ok turn) (and_from _ _ (turn_short plan pre r (has_short_ahead r.ahead) ok turn low early (few_short r.ahead few)) carries)

legal_short : (plan : PlanModel) (pre : List Row) (r : Row) → IsPlan plan → IsLegal plan pre r → length pre ≤ 160000 → has_short_numbers r ≡ true
legal_short plan pre r ok h few =
    let due = legal_due plan pre r h in
    let tick : r.tick ≤ 160000 = let is = due.tick in let less = div-le_self (length pre) plan.cores in omega (arith, is, less, few) in
    turn_short plan pre r (has_short_ahead r.ahead) ok (legal_turn plan pre r h) due.core tick (ahead_short plan pre r r.ahead h few refl)

-- ---- the rows of a run
pub legal_named : (plan : PlanModel) (pre rows : List Row) → IsPlan plan → EachAfter (IsLegal plan) pre rows → list_all (is_named plan) rows ≡ true
legal_named plan pre [] ok all = refl
legal_named plan pre (r ∷ rows) ok all = and_from _ _ (turn_named plan pre r ok (legal_turn plan pre r all.0)) (legal_named plan (pre ++ r ∷ []) rows ok all.1)

rows_short : (plan : PlanModel) (pre rows : List Row) → IsPlan plan → length pre + length rows ≤ 160000 → EachAfter (IsLegal plan) pre rows → list_all has_short_numbers rows ≡ true
rows_short plan pre [] ok few all = refl
rows_short plan pre (r ∷ rows) ok few all =
    let more = length-append pre (r ∷ []) in
    and_from _ _ (legal_short plan pre r ok all.0 (omega (arith, few))) (rows_short plan (pre ++ r ∷ []) rows ok (omega (arith, few, more)) all.1)

pub run_named : (plan : PlanModel) (rows : List Row) → IsPlan plan → IsRunStart plan rows → list_all (is_named plan) rows ≡ true
run_named plan rows ok run = legal_named plan [] rows ok run.each

pub run_short : (plan : PlanModel) (rows : List Row) → IsPlan plan → IsRunStart plan rows → list_all has_short_numbers rows ≡ true
run_short plan rows ok run =
    let cores : plan.cores * plan.ticks ≤ 8 * plan.ticks = mul-le-mul_right plan.ticks ok.draft.cores.1 in
    let ticks : 8 * plan.ticks ≤ 8 * 20000 = mul-le-mul_left 8 ok.draft.ticks.1 in
    let size = run.size in
    rows_short plan [] rows ok (omega (arith, cores, ticks, size)) run.each
