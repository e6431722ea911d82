-- The jobs in the queue of a global resource: each holds it or waits for it, and they are of cores
-- that differ.
use Rattle.msrp_plan.specs.Common.{ℕ, Bool, true, false, List, [], Some, length, drop, AllByRecursion, Contains, range_with_len, PlanModel, core_of, jobs_on, is_row_of, is_global, resources, fifo, is_first, IsLegal, EachAfter, IsPlan}
use Rattle.msrp_plan.specs.declared.ids.JobId.{JobId}
use Rattle.msrp_plan.specs.declared.rows.Kind.{Kind}
use Rattle.msrp_plan.specs.declared.rows.Kind.TheVariants.{Take, Queue, Spin, Grant, Release}
use Rattle.msrp_plan.specs.declared.rows.Row.{Row}
use Rattle.std.proofs.Common.{◌≡◌, ◌≢◌, ◌<◌, ◌≤◌, ◌∷◌, ◌++◌, refl, ap, sym, ◌∙◌, subst, arith}
use Rattle.std.proofs.lemmas.List.FromFn.{length-range_with_len}
use Rattle.msrp_plan.proofs.Lists.AnyAll.{all_weaker, all_both, all_push}
use Rattle.msrp_plan.proofs.Jobs.JobTests.{same_is}
use Rattle.msrp_plan.proofs.Lists.Prefixes.{along}
use Rattle.msrp_plan.proofs.Lists.Apart.{ApartBy, apart_push, fits_length, has, has_range}
use Rattle.msrp_plan.proofs.Legality.LegalRows.{legal_turn, legal_due, turn_core}
use Rattle.msrp_plan.proofs.TaskUnits.Stands.{Stand, Out, Waits, Holds, stand, IsUp, waits_out, holds_out}
use Rattle.msrp_plan.proofs.Queues.Effects.{IsMove, Effect, Quiet, Took, Joined, Got, Spun, Left, mover_is, effect}
use Rattle.msrp_plan.proofs.Holding.Holders.{IsOrderly, orderly_by, orderly_none}
use Rattle.msrp_plan.proofs.Choosing.OwnTurns.{IsFirm, up_alone, firm_push, firm_none}

-- a job in the queue: it holds the resource or waits for it, and is a job of one of the cores
pub record IsMember (plan : PlanModel) (g : ℕ) (pre : List Row) (y : JobId) : Type 0 where
  pub up : IsUp plan g pre y
  pub known : Contains (jobs_on plan (core_of plan y)) y
  pub core : core_of plan y < plan.cores

-- the invariant
pub record IsQueueOf (plan : PlanModel) (g : ℕ) (pre : List Row) : Type 0 where
  pub orderly : IsOrderly plan g pre
  pub firm : (c : ℕ) → IsFirm plan g c pre
  pub each : AllByRecursion (IsMember plan g pre) (fifo g pre)
  pub apart : ApartBy (core_of plan) (fifo g pre)

-- ---- those who stay
up_moved : (plan : PlanModel) (g : ℕ) (pre : List Row) (r : Row) (x : JobId) (k : Kind) (a b : Stand) → IsMove plan g pre r x k a b → (b ≡ Out → ⊥) → (y : JobId) (c : Bool) → is_row_of y r ≡ c → IsUp plan g pre y → IsUp plan g (pre ++ r ∷ []) y
up_moved plan g pre r x k a b m nb y true e up = λ h. nb (sym m.after ∙ subst (λ z. stand plan g (pre ++ r ∷ []) z ≡ Out) (mover_is plan g pre r x y k a b m e) h)
up_moved plan g pre r x k a b m nb y false e up = λ h. up (sym (m.others y e) ∙ h)

-- who is still up is still a member
member_with : (plan : PlanModel) (g : ℕ) (pre : List Row) (r : Row) (y : JobId) → IsMember plan g pre y → IsUp plan g (pre ++ r ∷ []) y → IsMember plan g (pre ++ r ∷ []) y
member_with plan g pre r y old up = record { up = up; known = old.known; core = old.core }

-- and so is everybody
each_moved : (plan : PlanModel) (g : ℕ) (pre : List Row) (r : Row) (x : JobId) (k : Kind) (a b : Stand) (f : List JobId) → IsMove plan g pre r x k a b → (b ≡ Out → ⊥) → AllByRecursion (IsMember plan g pre) f → AllByRecursion (IsMember plan g (pre ++ r ∷ [])) f
each_moved plan g pre r x k a b f m nb all = all_weaker (IsMember plan g pre) (IsMember plan g (pre ++ r ∷ [])) (λ y old. member_with plan g pre r y old (up_moved plan g pre r x k a b m nb y (is_row_of y r) refl old.up)) f all

-- ---- who joins
new_member : (plan : PlanModel) (g : ℕ) (pre : List Row) (r : Row) (x : JobId) (k : Kind) (a b : Stand) → IsMove plan g pre r x k a b → (b ≡ Out → ⊥) → IsLegal plan pre r → IsMember plan g (pre ++ r ∷ []) x
new_member plan g pre r x k a b m nb h =
    let turn = legal_turn plan pre r h in
    let at = turn_core plan pre r x turn m.job in
    record { up = λ e. nb (sym m.after ∙ e); known = subst (λ n. Contains (jobs_on plan n) x) (sym at) (turn.known x m.job); core = subst (λ n. n < plan.cores) (sym at) (legal_due plan pre r h).core }

-- the turns of a member's core are the member's
pub members_turn : (plan : PlanModel) (g : ℕ) (pre : List Row) (r : Row) (x y : JobId) → IsPlan plan → is_global plan g ≡ true → Contains (resources plan) g → ((c : ℕ) → IsFirm plan g c pre) → IsLegal plan pre r → r.job ≡ Some x → IsMember plan g pre y → core_of plan y ≡ r.core.0 → x ≡ y
members_turn plan g pre r x y ok glob named firm h job mem e = up_alone plan g pre r x y ok glob named (firm r.core.0) (legal_turn plan pre r h) job (subst (λ n. Contains (jobs_on plan n) y) e mem.known) mem.up

-- so who was out is of another core than those in the queue
new_apart : (plan : PlanModel) (g : ℕ) (pre : List Row) (r : Row) (x : JobId) (k : Kind) (b : Stand) → IsPlan plan → is_global plan g ≡ true → Contains (resources plan) g → IsQueueOf plan g pre → IsLegal plan pre r → IsMove plan g pre r x k Out b → ApartBy (core_of plan) (fifo g pre ++ x ∷ [])
new_apart plan g pre r x k b ok glob named old h m =
    let at = turn_core plan pre r x (legal_turn plan pre r h) m.job in
    apart_push (core_of plan) (fifo g pre) x old.apart
    (all_weaker (IsMember plan g pre) (λ y. core_of plan y ≢ core_of plan x) (λ y mem e.
    mem.up (subst (λ z. stand plan g pre z ≡ Out) (members_turn plan g pre r x y ok glob named old.firm h m.job mem (e ∙ at)) m.before)) (fifo g pre) old.each)

-- ---- the first goes
rest_member : (plan : PlanModel) (g : ℕ) (pre : List Row) (r : Row) (x y z : JobId) (k : Kind) (a b : Stand) → IsMove plan g pre r x k a b → x ≡ y → IsMember plan g pre z → core_of plan y ≢ core_of plan z → (c : Bool) → is_row_of z r ≡ c → IsMember plan g (pre ++ r ∷ []) z
rest_member plan g pre r x y z k a b m s old ne true e = absurd (ne (ap (core_of plan) (sym s ∙ sym (mover_is plan g pre r x z k a b m e))))
rest_member plan g pre r x y z k a b m s old ne false e = member_with plan g pre r z old (λ h. old.up (sym (m.others z e) ∙ h))

-- so the rest of the queue stays
rest_each : (plan : PlanModel) (g : ℕ) (pre : List Row) (r : Row) (x : JobId) (k : Kind) (a b : Stand) (f : List JobId) → IsMove plan g pre r x k a b → is_first f (Some x) ≡ true → AllByRecursion (IsMember plan g pre) f → ApartBy (core_of plan) f → AllByRecursion (IsMember plan g (pre ++ r ∷ [])) (drop 1 f) × ApartBy (core_of plan) (drop 1 f)
rest_each plan g pre r x k a b [] m first all apart = absurd (cc)
rest_each plan g pre r x k a b (y ∷ f) m first all apart = (
  all_both (IsMember plan g pre) (λ z. core_of plan y ≢ core_of plan z) (IsMember plan g (pre ++ r ∷ []))
      (λ z old ne. rest_member plan g pre r x y z k a b m (same_is x y first) old ne (is_row_of z r) refl) f all.1 apart.0,
  apart.1,
)

-- ---- one row more
queue_by : (plan : PlanModel) (g : ℕ) (pre : List Row) (r : Row) → IsPlan plan → is_global plan g ≡ true → Contains (resources plan) g → IsQueueOf plan g pre → IsLegal plan pre r → Effect plan g pre r → AllByRecursion (IsMember plan g (pre ++ r ∷ [])) (fifo g (pre ++ r ∷ [])) × ApartBy (core_of plan) (fifo g (pre ++ r ∷ []))
queue_by plan g pre r ok glob named old h e =
    let Goal : List JobId → Type 0 = λ f. AllByRecursion (IsMember plan g (pre ++ r ∷ [])) f × ApartBy (core_of plan) f in
    let new = IsMember plan g (pre ++ r ∷ []) in
    elim e [
      | Quiet off fs st ↦ subst Goal (sym fs) (all_weaker (IsMember plan g pre) new (λ y mem. member_with plan g pre r y mem (λ k. mem.up (sym (st y) ∙ k))) (fifo g pre) old.each, old.apart)
      | Took x m empty fs ↦ subst Goal (sym fs) (all_push new (fifo g pre) x (each_moved plan g pre r x Take Out Holds (fifo g pre) m holds_out old.each) (new_member plan g pre r x Take Out Holds m holds_out h), new_apart plan g pre r x Take Holds ok glob named old h m)
      | Joined x m some fs ↦ subst Goal (sym fs) (all_push new (fifo g pre) x (each_moved plan g pre r x Queue Out Waits (fifo g pre) m waits_out old.each) (new_member plan g pre r x Queue Out Waits m waits_out h), new_apart plan g pre r x Queue Waits ok glob named old h m)
      | Got x m first fs ↦ subst Goal (sym fs) (each_moved plan g pre r x Grant Waits Holds (fifo g pre) m holds_out old.each, old.apart)
      | Spun x m back fs ↦ subst Goal (sym fs) (each_moved plan g pre r x Spin Waits Waits (fifo g pre) m waits_out old.each, old.apart)
      | Left x m fs ↦ subst Goal (sym fs) (rest_each plan g pre r x Release Holds Out (fifo g pre) m (old.orderly.first x m.before) old.each old.apart)
    ]

-- each legal row keeps the invariant
pub queue_push : (plan : PlanModel) (g : ℕ) → IsPlan plan → is_global plan g ≡ true → Contains (resources plan) g → (pre : List Row) (r : Row) → IsQueueOf plan g pre → IsLegal plan pre r → IsQueueOf plan g (pre ++ r ∷ [])
queue_push plan g ok glob named pre r old h =
    let e = effect plan g pre r ok glob old.orderly.fed h in
    let k = queue_by plan g pre r ok glob named old h e in
    record {
      orderly = orderly_by plan g pre r old.orderly e;
      firm = λ c. firm_push plan g c pre r ok glob named (old.firm c) (legal_turn plan pre r h);
      each = k.0;
      apart = k.1;
    }

-- it holds before the first row
pub queue_none : (plan : PlanModel) (g : ℕ) → IsQueueOf plan g []
queue_none plan g = record { orderly = orderly_none plan g; firm = firm_none plan g; each = tt; apart = tt }

-- so it holds at each place
pub queue_at : (plan : PlanModel) (g : ℕ) (pre : List Row) → IsPlan plan → is_global plan g ≡ true → Contains (resources plan) g → EachAfter (IsLegal plan) [] pre → IsQueueOf plan g pre
queue_at plan g pre ok glob named all = along (IsQueueOf plan g) (IsLegal plan) (queue_push plan g ok glob named) [] pre (queue_none plan g) all

-- no more jobs stand in the queue than there are cores
pub queue_short : (plan : PlanModel) (g : ℕ) (pre : List Row) → IsQueueOf plan g pre → length (fifo g pre) ≤ plan.cores
queue_short plan g pre q =
    let cores = range_with_len 0 plan.cores in
    let k = fits_length (core_of plan) (fifo g pre) cores q.apart (all_weaker (IsMember plan g pre) (λ y. has (core_of plan y) cores ≡ true) (λ y mem. has_range (core_of plan y) plan.cores mem.core) (fifo g pre) q.each) in
    let l = length-range_with_len 0 plan.cores in
    omega (arith, k, l)
