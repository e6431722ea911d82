-- Short queues: whoever joins one finds there at most one request for each other core.
use Rattle.msrp_plan.specs.Common.{ℕ, true, List, [], Option, Some, None, length, PlanModel, fifo, is_on, IsLegal, IsRunStart, EachAfter, IsPlan}
use Rattle.msrp_plan.specs.declared.ids.JobId.{JobId}
use Rattle.msrp_plan.specs.declared.rows.Kind.TheVariants.{Idle, Queue}
use Rattle.msrp_plan.specs.declared.rows.Row.{Row}
use Rattle.std.proofs.Common.{◌≡◌, ◌+◌, ◌≤◌, ◌∷◌, ◌++◌, refl, ap, sym, ◌∙◌, arith, subst, length-append}
use Rattle.msrp_plan.specs.Laws.{FindsShort, ShortQueues}
use Rattle.msrp_plan.proofs.Lists.Prefixes.{each_before, each_from, each_at}
use Rattle.msrp_plan.proofs.Legality.LegalRows.{legal_turn}
use Rattle.msrp_plan.proofs.Queues.Effects.{effect}
use Rattle.msrp_plan.proofs.Queues.Overtaking.{queued_for}
use Rattle.msrp_plan.proofs.Queues.QueueMembers.{queue_at, queue_push, queue_short}
use Rattle.msrp_plan.proofs.Spinning.SpinBound.{joined_queue}

-- a job that joins finds the queue one shorter than it leaves it
finds_short : (plan : PlanModel) (pre : List Row) (r : Row) (j : JobId) (g : ℕ) → IsPlan plan → EachAfter (IsLegal plan) [] pre → IsLegal plan pre r → r.job ≡ Some j → r.kind ≡ Queue → is_on g r.res ≡ true → length (fifo g pre) + 1 ≤ plan.cores
finds_short plan pre r j g ok before legal job kind on =
    let known = queued_for plan pre r j g ok ((legal_turn plan pre r legal).does j job) on kind in
    let queue = queue_at plan g pre ok known.0 known.1 before in
    let short = queue_short plan g (pre ++ r ∷ []) (queue_push plan g ok known.0 known.1 pre r queue legal) in
    let joined = ap length (joined_queue plan g j pre r job on kind (effect plan g pre r ok known.0 queue.orderly.fed legal)) ∙ length-append (fifo g pre) (j ∷ []) in
    omega (arith, short, joined)

-- an idle row joins none
row_finds_short : (plan : PlanModel) (pre : List Row) (r : Row) (o : Option JobId) → r.job ≡ o → IsPlan plan → EachAfter (IsLegal plan) [] pre → IsLegal plan pre r → FindsShort plan pre r
row_finds_short plan pre r None job ok before legal = λ g kind on. absurd (let k : Idle ≡ Queue = sym ((legal_turn plan pre r legal).idle job) ∙ kind in cc)
row_finds_short plan pre r (Some j) job ok before legal = λ g kind on. let l = finds_short plan pre r j g ok before legal job kind on in omega (arith, l)

-- at each row of a start
pub short_queues : (plan : PlanModel) (rows : List Row) → IsPlan plan → IsRunStart plan rows → ShortQueues plan rows
short_queues plan rows ok run = each_from (FindsShort plan) [] rows (λ pre r post same.
    let all = subst (EachAfter (IsLegal plan) []) same run.each in
    row_finds_short plan pre r r.job refl ok (each_before (IsLegal plan) [] pre (r ∷ post) all) (each_at (IsLegal plan) [] pre r post all))
