-- The queue of a global resource and the one-thread lock agree: at a turn of a core the queue
-- replies what the lock answers, and after the turn they agree again.
use Rattle.msrp_plan.specs.Common.{ℕ, zero, suc, Bool, true, false, cond, not, List, [], Option, Some, None, IfSome, length, map, drop, list_any, Contains, AllByRecursion, PlanModel, core_of, jobs_on, is_job, same_job, holds, is_row_of, is_global, resources, fifo, replies, counts, is_free, is_first, is_on, IsLegal, IsCoreTurn, EachAfter, is_fifo_reply, replies_on, log_of, FifoLock, Answers, lock_after, kind_of_call, ahead_of_call, IsPlan}
use Rattle.msrp_plan.specs.declared.ids.JobId.{JobId}
use Rattle.msrp_plan.specs.declared.rows.Kind.TheVariants.{Idle, Take, Queue, Spin, Grant, Release}
use Rattle.msrp_plan.specs.declared.rows.Row.{Row}
use Rattle.msrp_plan.specs.declared.units.Call.{Call}
use Rattle.msrp_plan.specs.declared.units.Call.TheVariants.{Ask, Poll, Leave}
use Rattle.std.proofs.Common.{◌≡◌, ◌≢◌, ◌||◌, ◌∷◌, ◌++◌, refl, ap, sym, ◌∙◌, subst, arith, inl, inr, eq-eqb}
use Rattle.std.proofs.Math.Bool.{true≢false, or-true}
use Rattle.std.proofs.lemmas.Bool.{cases_Bool, cases_lt, and_from, and_parts, false_from_ne_true}
use Rattle.std.proofs.lemmas.List.{map-append, length-map}
use Rattle.msrp_plan.specs.FifoLock.{IsAmong, IsFirst, without_first}
use Rattle.msrp_plan.specs.LockStates.{first_holds, lock_at, IsRowOfCall, Tells}
use Rattle.msrp_plan.proofs.Lists.AnyAll.{all_weaker, all_both}
use Rattle.msrp_plan.proofs.Jobs.JobTests.{same_is, same_self, some_is}
use Rattle.msrp_plan.proofs.Levels.Ceilings.{in_resources}
use Rattle.msrp_plan.proofs.Legality.Locality.{AreOwn, chosen_local, action_local}
use Rattle.msrp_plan.proofs.Levels.GlobalUse.{undeclared_local}
use Rattle.msrp_plan.proofs.Legality.LegalRows.{IsTurn, turn_of, legal_turn, legal_reply, turn_core, idle_res}
use Rattle.msrp_plan.proofs.Lists.Apart.{ApartBy}
use Rattle.msrp_plan.proofs.TaskUnits.Stands.{Stand, Out, Waits, Holds, stand, holder_stands}
use Rattle.msrp_plan.proofs.Queues.Effects.{IsMove, Effect, Quiet, Took, Joined, Got, Spun, Left, mover_is, effect, reply_on}
use Rattle.msrp_plan.proofs.Holding.Holders.{IsOrderly}
use Rattle.msrp_plan.proofs.Choosing.OwnTurns.{up_alone}
use Rattle.msrp_plan.proofs.Queues.QueueMembers.{IsMember, IsQueueOf, queue_at}
use Rattle.msrp_plan.proofs.Queues.Overtaking.{is_holds, moved_same}

-- ---- a queue in which a job stands alone for its core
-- whoever is of the job's core is the job
abbrev pub IsSole : PlanModel → JobId → List JobId → Type 0
IsSole plan x f = AllByRecursion (λ y. core_of plan y ≡ core_of plan x → x ≡ y) f

-- equal jobs pass the test
same_from : (x y : JobId) → x ≡ y → same_job x y ≡ true
same_from x y e = subst (λ z. same_job x z ≡ true) e (same_self x)

-- where its core is among those of the queue the job stands in it
any_from_among : (plan : PlanModel) (x : JobId) (f : List JobId) → IsSole plan x f → IsAmong (map (core_of plan) f) (core_of plan x) → list_any (is_job (Some x)) f ≡ true
any_from_among plan x [] sole h = absurd h
any_from_among plan x (y ∷ f) sole (inl e) = ap (λ b. b || list_any (is_job (Some x)) f) (same_from x y (sole.0 e))
any_from_among plan x (y ∷ f) sole (inr h) = ap (λ b. same_job x y || b) (any_from_among plan x f sole.1 h) ∙ or-true (same_job x y)

-- and the other way round
among_from_any : (plan : PlanModel) (x : JobId) (f : List JobId) → list_any (is_job (Some x)) f ≡ true → IsAmong (map (core_of plan) f) (core_of plan x)
among_from_any plan x [] h = absurd (true≢false (sym h))
among_from_any plan x (y ∷ f) h = elim (cases_Bool (same_job x y)) [
  | inl hit ↦ inl (ap (core_of plan) (sym (same_is x y hit)))
  | inr miss ↦ inr (among_from_any plan x f (sym (ap (λ b. b || list_any (is_job (Some x)) f) miss) ∙ h))
]

-- where its core is the first the job is
job_first : (plan : PlanModel) (x : JobId) (f : List JobId) → IsSole plan x f → IsFirst (map (core_of plan) f) (core_of plan x) → is_first f (Some x) ≡ true
job_first plan x [] sole h = absurd h
job_first plan x (y ∷ f) sole h = same_from x y (sole.0 h)

-- and the other way round
core_first : (plan : PlanModel) (x : JobId) (f : List JobId) → is_first f (Some x) ≡ true → IsFirst (map (core_of plan) f) (core_of plan x)
core_first plan x [] h = absurd (true≢false (sym h))
core_first plan x (y ∷ f) h = ap (core_of plan) (sym (same_is x y h))

-- a queue none of whose jobs is of the core
none_among : (plan : PlanModel) (c : ℕ) (f : List JobId) → AllByRecursion (λ y. core_of plan y ≢ c) f → IsAmong (map (core_of plan) f) c → ⊥
none_among plan c [] none h = h
none_among plan c (y ∷ f) none (inl e) = none.0 e
none_among plan c (y ∷ f) none (inr h) = none_among plan c f none.1 h

-- a queue is free where its length is 0
free_length : (f : List JobId) → zero ≡ length f → is_free f ≡ true
free_length [] h = refl
free_length (y ∷ f) h = absurd (omega (arith, h))

-- and else it isn't
taken_length : (f : List JobId) (n : ℕ) → suc n ≡ length f → is_free f ≡ false
taken_length [] n h = absurd (omega (arith, h))
taken_length (y ∷ f) n h = refl

-- ---- what the lock answers the queue replies
pub replies_from_answers : (plan : PlanModel) (x : JobId) (f : List JobId) (granted : Bool) (call : Call) → IsSole plan x f → Answers (record { queue = map (core_of plan) f; granted = granted }) (core_of plan x) call → replies f (Some x) (kind_of_call call) ≡ true
replies_from_answers plan x f granted (Ask zero) sole h = free_length f (h.1 ∙ length-map f (core_of plan))
replies_from_answers plan x f granted (Ask (suc n)) sole h = ap not (taken_length f n (h.1 ∙ length-map f (core_of plan)))
replies_from_answers plan x f granted (Poll true) sole h = job_first plan x f sole h.0
replies_from_answers plan x f granted (Poll false) sole h =
    and_from (list_any (is_job (Some x)) f) (not (is_first f (Some x))) (any_from_among plan x f sole h.0) (ap not (false_from_ne_true (is_first f (Some x)) (λ e. h.1 (core_first plan x f e))))
replies_from_answers plan x f granted Leave sole h = refl

-- what a lock's answer to a request tells is the length of the queue
pub tells_from_answers : (plan : PlanModel) (f : List JobId) (granted : Bool) (c : ℕ) (call : Call) → Answers (record { queue = map (core_of plan) f; granted = granted }) c call → Tells f call
tells_from_answers plan f granted c (Ask n) h = h.1 ∙ length-map f (core_of plan)
tells_from_answers plan f granted c (Poll true) h = tt
tells_from_answers plan f granted c (Poll false) h = tt
tells_from_answers plan f granted c Leave h = tt

-- and the queue counts the ahead that the call tells
counts_told : (f : List JobId) (call : Call) (o : Option ℕ) → Tells f call → IfSome o (λ n. ahead_of_call call ≡ Some n) → counts f o ≡ true
counts_told f call None t h = refl
counts_told f (Ask zero) (Some n) t h = absurd (cc)
counts_told f (Ask (suc k)) (Some n) t h = eq-eqb n (length f) (let e : suc k ≡ n = cc in sym e ∙ t)
counts_told f (Poll granted) (Some n) t h = absurd (cc)
counts_told f Leave (Some n) t h = absurd (cc)

-- a global resource is one of the plan's
pub global_named : (plan : PlanModel) (g : ℕ) → IsPlan plan → is_global plan g ≡ true → Contains (resources plan) g
global_named plan g ok glob = elim (cases_lt g (length plan.resources)) [
  | inl l ↦ in_resources plan g l
  | inr past ↦ absurd (true≢false (sym glob ∙ undeclared_local plan g ok.draft past))
]

-- in the queue of a resource the job that has its core's turn stands alone for its core
pub sole_in : (plan : PlanModel) (g : ℕ) (pre : List Row) (r : Row) (x : JobId) → IsPlan plan → is_global plan g ≡ true → IsQueueOf plan g pre → IsTurn plan pre r → r.job ≡ Some x → IsSole plan x (fifo g pre)
sole_in plan g pre r x ok glob queue turn job =
    let at = turn_core plan pre r x turn job in
    all_weaker (IsMember plan g pre) (λ y. core_of plan y ≡ core_of plan x → x ≡ y)
    (λ y mem e. up_alone plan g pre r x y ok glob (global_named plan g ok glob) (queue.firm r.core.0) turn job (subst (λ n. Contains (jobs_on plan n) y) (e ∙ at) mem.known) mem.up)
    (fifo g pre) queue.each

-- ---- so at a turn of a core
pub reply_by_lock : (plan : PlanModel) (g : ℕ) (pre : List Row) (r : Row) (x : JobId) (call : Call) → IsPlan plan → is_global plan g ≡ true → EachAfter (IsLegal plan) [] pre → IsTurn plan pre r → r.job ≡ Some x → IsRowOfCall g r.core.0 call r
    → Answers (lock_at plan g pre) r.core.0 call → is_fifo_reply pre r ≡ true
reply_by_lock plan g pre r x call ok glob all turn job row h =
    let queue = queue_at plan g pre ok glob (global_named plan g ok glob) all in
    let at = turn_core plan pre r x turn job in
    let answered : Answers (lock_at plan g pre) (core_of plan x) call = subst (λ c. Answers (lock_at plan g pre) c call) (sym at) h in
    let k = replies_from_answers plan x (fifo g pre) (first_holds plan pre g (fifo g pre)) call (sole_in plan g pre r x ok glob queue turn job) answered in
    let reply : replies (fifo g pre) r.job r.kind ≡ true = ap (λ o. replies (fifo g pre) o r.kind) job ∙ (ap (replies (fifo g pre) (Some x)) row.kind ∙ k) in
    let tells = tells_from_answers plan (fifo g pre) (first_holds plan pre g (fifo g pre)) (core_of plan x) call answered in
    ap (λ o. replies_on pre o r) row.resource ∙ and_from (replies (fifo g pre) r.job r.kind) (counts (fifo g pre) r.ahead) reply (counts_told (fifo g pre) call r.ahead tells row.ahead)

-- ---- a legal row, and the lock after it
-- who holds it is told by its stand
held_cases : (a b : Bool) → is_holds (cond a Holds (cond b Waits Out)) ≡ a
held_cases true b = refl
held_cases false true = refl
held_cases false false = refl

holding : (plan : PlanModel) (g : ℕ) (pre : List Row) (j : JobId) (s : Stand) → stand plan g pre j ≡ s → holds plan pre g j ≡ is_holds s
holding plan g pre j s e = sym (held_cases _ _) ∙ ap is_holds e

-- whose stand is as before holds it as before
holding_same : (plan : PlanModel) (g : ℕ) (pre after : List Row) (j : JobId) → is_holds (stand plan g after j) ≡ is_holds (stand plan g pre j) → holds plan after g j ≡ holds plan pre g j
holding_same plan g pre after j e = holding plan g after j _ refl ∙ (e ∙ sym (holding plan g pre j _ refl))

-- so does the first of a queue
first_same : (plan : PlanModel) (g : ℕ) (pre after : List Row) (f : List JobId) → ((j : JobId) → is_holds (stand plan g after j) ≡ is_holds (stand plan g pre j)) → first_holds plan after g f ≡ first_holds plan pre g f
first_same plan g pre after [] h = refl
first_same plan g pre after (y ∷ f) h = holding_same plan g pre after y (h y)

-- who joins an empty queue is its first
first_alone : (plan : PlanModel) (g : ℕ) (rows : List Row) (f : List JobId) (x : JobId) → is_free f ≡ true → first_holds plan rows g (f ++ x ∷ []) ≡ holds plan rows g x
first_alone plan g rows [] x e = refl
first_alone plan g rows (y ∷ f) x e = absurd (true≢false (sym e))

-- and who joins another is not
first_before : (plan : PlanModel) (g : ℕ) (rows : List Row) (f : List JobId) (x : JobId) → is_free f ≡ false → first_holds plan rows g (f ++ x ∷ []) ≡ first_holds plan rows g f
first_before plan g rows [] x e = absurd (true≢false e)
first_before plan g rows (y ∷ f) x e = refl

-- a job that is first
first_is : (plan : PlanModel) (g : ℕ) (rows : List Row) (f : List JobId) (x : JobId) → is_first f (Some x) ≡ true → first_holds plan rows g f ≡ holds plan rows g x
first_is plan g rows [] x e = absurd (true≢false (sym e))
first_is plan g rows (y ∷ f) x e = ap (holds plan rows g) (sym (same_is x y e))

-- behind the first nobody holds it
behind_free : (plan : PlanModel) (g : ℕ) (pre : List Row) (r : Row) (x y : JobId) (f : List JobId) → IsMove plan g pre r x Release Holds Out → x ≡ y → ((j : JobId) → stand plan g pre j ≡ Holds → j ≡ y) → AllByRecursion (λ z. core_of plan y ≢ core_of plan z) f
    → first_holds plan (pre ++ r ∷ []) g f ≡ false
behind_free plan g pre r x y [] m s only apart = refl
behind_free plan g pre r x y (z ∷ f) m s only apart =
    let other : is_row_of z r ≡ false = false_from_ne_true (is_row_of z r) (λ e. apart.0 (ap (core_of plan) (sym s ∙ sym (mover_is plan g pre r x z Release Holds Out m e)))) in
    false_from_ne_true (holds plan (pre ++ r ∷ []) g z) (λ e. apart.0 (ap (core_of plan) (sym (only z (sym (m.others z other) ∙ holder_stands plan g (pre ++ r ∷ []) z e)))))

-- once the first has left nobody holds it
left_free : (plan : PlanModel) (g : ℕ) (pre : List Row) (r : Row) (x : JobId) (f : List JobId) → IsMove plan g pre r x Release Holds Out → ((j : JobId) → stand plan g pre j ≡ Holds → is_first f (Some j) ≡ true) → ApartBy (core_of plan) f
    → first_holds plan (pre ++ r ∷ []) g (drop 1 f) ≡ false
left_free plan g pre r x [] m first apart = absurd (true≢false (sym (first x m.before)))
left_free plan g pre r x (y ∷ f) m first apart = behind_free plan g pre r x y f m (same_is x y (first x m.before)) (λ j h. same_is j y (first j h)) apart.0

-- the cores without the first
cores_left : (plan : PlanModel) (f : List JobId) → map (core_of plan) (drop 1 f) ≡ without_first (map (core_of plan) f)
cores_left plan [] = refl
cores_left plan (y ∷ f) = refl

-- the row's call is answered as the lock answers it, and after the row the lock is as after the
-- call
pub record AgreeAt (plan : PlanModel) (g : ℕ) (pre : List Row) (r : Row) (c : ℕ) (call : Call) : Type 0 where
  pub answers : Answers (lock_at plan g pre) c call
  pub next : lock_at plan g (pre ++ r ∷ []) ≡ lock_after (lock_at plan g pre) c call

-- locks with the same queue and the same holder
abbrev lock_of : List ℕ → Bool → FifoLock
lock_of q b = record { queue = q; granted = b }

same_lock : (q p : List ℕ) (b d : Bool) → q ≡ p → b ≡ d → lock_of q b ≡ lock_of p d
same_lock q p b d e h = ap (λ z. lock_of z b) e ∙ ap (lock_of p) h

-- who joins the queue
cores_more : (plan : PlanModel) (f h : List JobId) (x : JobId) → h ≡ f ++ x ∷ [] → map (core_of plan) h ≡ map (core_of plan) f ++ core_of plan x ∷ []
cores_more plan f h x e = ap (map (core_of plan)) e ∙ map-append (core_of plan) f (x ∷ [])

no_cores : (plan : PlanModel) (c : ℕ) (f : List JobId) → is_free f ≡ true → ¬ IsAmong (map (core_of plan) f) c × (zero ≡ length (map (core_of plan) f))
no_cores plan c [] e = (λ h. h, refl)
no_cores plan c (y ∷ f) e = absurd (true≢false (sym e))

took_agrees : (plan : PlanModel) (g : ℕ) (pre : List Row) (r : Row) (x : JobId) (call : Call) → kind_of_call call ≡ Take → IsMove plan g pre r x Take Out Holds → is_free (fifo g pre) ≡ true → fifo g (pre ++ r ∷ []) ≡ fifo g pre ++ x ∷ [] → AgreeAt plan g pre r (core_of plan x) call
took_agrees plan g pre r x (Ask zero) k m empty fs = record {
  answers = no_cores plan (core_of plan x) (fifo g pre) empty;
  next = same_lock _ _ _ _ (cores_more plan (fifo g pre) _ x fs) (ap (first_holds plan (pre ++ r ∷ []) g) fs ∙ (first_alone plan g (pre ++ r ∷ []) (fifo g pre) x empty ∙ holding plan g (pre ++ r ∷ []) x Holds m.after));
}
took_agrees plan g pre r x (Ask (suc n)) k m empty fs = absurd (cc)
took_agrees plan g pre r x (Poll true) k m empty fs = absurd (cc)
took_agrees plan g pre r x (Poll false) k m empty fs = absurd (cc)
took_agrees plan g pre r x Leave k m empty fs = absurd (cc)

joined_agrees : (plan : PlanModel) (g : ℕ) (pre : List Row) (r : Row) (x : JobId) (call : Call) → kind_of_call call ≡ Queue → Tells (fifo g pre) call → IsMove plan g pre r x Queue Out Waits → is_free (fifo g pre) ≡ false → fifo g (pre ++ r ∷ []) ≡ fifo g pre ++ x ∷ []
    → AllByRecursion (λ y. core_of plan y ≢ core_of plan x) (fifo g pre) → AgreeAt plan g pre r (core_of plan x) call
joined_agrees plan g pre r x (Ask (suc n)) k tells m some fs apart = record {
  answers = (none_among plan (core_of plan x) (fifo g pre) apart, tells ∙ sym (length-map (fifo g pre) (core_of plan)));
  next = same_lock _ _ _ _ (cores_more plan (fifo g pre) _ x fs)
      (ap (first_holds plan (pre ++ r ∷ []) g) fs ∙ (first_before plan g (pre ++ r ∷ []) (fifo g pre) x some ∙ first_same plan g pre (pre ++ r ∷ []) (fifo g pre) (λ j. moved_same plan g pre r x Queue Out Waits m refl j (is_row_of j r) refl)));
}
joined_agrees plan g pre r x (Ask zero) k tells m some fs apart = absurd (cc)
joined_agrees plan g pre r x (Poll true) k tells m some fs apart = absurd (cc)
joined_agrees plan g pre r x (Poll false) k tells m some fs apart = absurd (cc)
joined_agrees plan g pre r x Leave k tells m some fs apart = absurd (cc)

got_agrees : (plan : PlanModel) (g : ℕ) (pre : List Row) (r : Row) (x : JobId) (call : Call) → kind_of_call call ≡ Grant → IsMove plan g pre r x Grant Waits Holds → is_first (fifo g pre) (Some x) ≡ true → fifo g (pre ++ r ∷ []) ≡ fifo g pre → AgreeAt plan g pre r (core_of plan x) call
got_agrees plan g pre r x (Poll true) k m first fs = record {
  answers = (core_first plan x (fifo g pre) first, first_is plan g pre (fifo g pre) x first ∙ holding plan g pre x Waits m.before);
  next = same_lock _ _ _ _ (ap (map (core_of plan)) fs) (ap (first_holds plan (pre ++ r ∷ []) g) fs ∙ (first_is plan g (pre ++ r ∷ []) (fifo g pre) x first ∙ holding plan g (pre ++ r ∷ []) x Holds m.after));
}
got_agrees plan g pre r x (Ask zero) k m first fs = absurd (cc)
got_agrees plan g pre r x (Ask (suc n)) k m first fs = absurd (cc)
got_agrees plan g pre r x (Poll false) k m first fs = absurd (cc)
got_agrees plan g pre r x Leave k m first fs = absurd (cc)

spun_agrees : (plan : PlanModel) (g : ℕ) (pre : List Row) (r : Row) (x : JobId) (call : Call) → kind_of_call call ≡ Spin → IsMove plan g pre r x Spin Waits Waits → IsSole plan x (fifo g pre) → list_any (is_job (Some x)) (fifo g pre) ≡ true → is_first (fifo g pre) (Some x) ≡ false
    → fifo g (pre ++ r ∷ []) ≡ fifo g pre → AgreeAt plan g pre r (core_of plan x) call
spun_agrees plan g pre r x (Poll false) k m sole among back fs = record {
  answers = (among_from_any plan x (fifo g pre) among, λ h. true≢false (sym (job_first plan x (fifo g pre) sole h) ∙ back));
  next = same_lock _ _ _ _ (ap (map (core_of plan)) fs) (ap (first_holds plan (pre ++ r ∷ []) g) fs ∙ first_same plan g pre (pre ++ r ∷ []) (fifo g pre) (λ j. moved_same plan g pre r x Spin Waits Waits m refl j (is_row_of j r) refl));
}
spun_agrees plan g pre r x (Ask zero) k m sole among back fs = absurd (cc)
spun_agrees plan g pre r x (Ask (suc n)) k m sole among back fs = absurd (cc)
spun_agrees plan g pre r x (Poll true) k m sole among back fs = absurd (cc)
spun_agrees plan g pre r x Leave k m sole among back fs = absurd (cc)

left_agrees : (plan : PlanModel) (g : ℕ) (pre : List Row) (r : Row) (x : JobId) (call : Call) → kind_of_call call ≡ Release → IsMove plan g pre r x Release Holds Out → IsOrderly plan g pre → ApartBy (core_of plan) (fifo g pre) → fifo g (pre ++ r ∷ []) ≡ drop 1 (fifo g pre) → AgreeAt plan g pre r (core_of plan x) call
left_agrees plan g pre r x Leave k m orderly apart fs =
    let first = orderly.first x m.before in
    record {
      answers = (core_first plan x (fifo g pre) first, first_is plan g pre (fifo g pre) x first ∙ holding plan g pre x Holds m.before);
      next = same_lock _ _ _ _ (ap (map (core_of plan)) fs ∙ cores_left plan (fifo g pre)) (ap (first_holds plan (pre ++ r ∷ []) g) fs ∙ left_free plan g pre r x (fifo g pre) m orderly.first apart);
    }
left_agrees plan g pre r x (Ask zero) k m orderly apart fs = absurd (cc)
left_agrees plan g pre r x (Ask (suc n)) k m orderly apart fs = absurd (cc)
left_agrees plan g pre r x (Poll true) k m orderly apart fs = absurd (cc)
left_agrees plan g pre r x (Poll false) k m orderly apart fs = absurd (cc)

-- a legal row on the resource
agree_by : (plan : PlanModel) (g : ℕ) (pre : List Row) (r : Row) (x : JobId) (call : Call) → IsPlan plan → is_global plan g ≡ true → IsQueueOf plan g pre → IsLegal plan pre r → r.job ≡ Some x → IsRowOfCall g r.core.0 call r → Tells (fifo g pre) call → Effect plan g pre r → AgreeAt plan g pre r (core_of plan x) call
agree_by plan g pre r x call ok glob queue legal job row tells e =
    let on : is_on g r.res ≡ true = ap (is_on g) row.resource ∙ eq-eqb g g refl in
    let sole = sole_in plan g pre r x ok glob queue (legal_turn plan pre r legal) job in
    let P : JobId → Type 0 = λ z. AgreeAt plan g pre r (core_of plan z) call in
    elim e [
      | Quiet off fs st ↦ absurd (true≢false (sym on ∙ off))
      | Took z m empty fs ↦ subst P (some_is z x (sym m.job ∙ job)) (took_agrees plan g pre r z call (sym row.kind ∙ m.kind) m empty fs)
      | Joined z m some fs ↦
          let s : z ≡ x = some_is z x (sym m.job ∙ job) in
          let out : stand plan g pre x ≡ Out = subst (λ v. stand plan g pre v ≡ Out) s m.before in
          let apart = all_both (IsMember plan g pre) (λ y. core_of plan y ≡ core_of plan x → x ≡ y) (λ y. core_of plan y ≢ core_of plan x) (λ y mem one h. mem.up (subst (λ v. stand plan g pre v ≡ Out) (one h) out)) (fifo g pre) queue.each sole in
          subst P s (joined_agrees plan g pre r z call (sym row.kind ∙ m.kind) tells m some fs (subst (λ v. AllByRecursion (λ y. core_of plan y ≢ core_of plan v) (fifo g pre)) (sym s) apart))
      | Got z m first fs ↦ subst P (some_is z x (sym m.job ∙ job)) (got_agrees plan g pre r z call (sym row.kind ∙ m.kind) m first fs)
      | Spun z m back fs ↦
          let s : z ≡ x = some_is z x (sym m.job ∙ job) in
          let reply : replies (fifo g pre) (Some x) Spin ≡ true = reply_on g pre r x (record { 0 = g }) Spin refl job m.kind (legal_reply plan pre r (record { 0 = g }) legal row.resource) in
          let among = (and_parts (list_any (is_job (Some x)) (fifo g pre)) (not (is_first (fifo g pre) (Some x))) reply).0 in
          subst P s (spun_agrees plan g pre r z call (sym row.kind ∙ m.kind) m (subst (λ v. IsSole plan v (fifo g pre)) (sym s) sole) (subst (λ v. list_any (is_job (Some v)) (fifo g pre) ≡ true) (sym s) among) back fs)
      | Left z m fs ↦ subst P (some_is z x (sym m.job ∙ job)) (left_agrees plan g pre r z call (sym row.kind ∙ m.kind) m queue.orderly queue.apart fs)
    ]

-- so after the start of a legal run, a legal row on the resource makes a call that the lock answers
-- so
pub agree_at : (plan : PlanModel) (g : ℕ) (pre : List Row) (r : Row) (call : Call) → IsPlan plan → is_global plan g ≡ true → EachAfter (IsLegal plan) [] pre → IsLegal plan pre r → IsRowOfCall g r.core.0 call r → Tells (fifo g pre) call → AgreeAt plan g pre r r.core.0 call
agree_at plan g pre r call ok glob all legal row tells = by_job r.job refl
  where
    by_job : (o : Option JobId) → r.job ≡ o → AgreeAt plan g pre r r.core.0 call
    by_job None e = absurd (let k = sym (idle_res r ((legal_turn plan pre r legal).idle e)) ∙ row.resource in cc)
    by_job (Some x) e =
        let queue = queue_at plan g pre ok glob (global_named plan g ok glob) all in
        subst (λ c. AgreeAt plan g pre r c call) (turn_core plan pre r x (legal_turn plan pre r legal) e)
        (agree_by plan g pre r x call ok glob queue legal e row tells (effect plan g pre r ok glob queue.orderly.fed legal))

-- ---- a row that is not on it
pub lock_off : (plan : PlanModel) (g : ℕ) (pre : List Row) (r : Row) → IsPlan plan → is_global plan g ≡ true → EachAfter (IsLegal plan) [] pre → IsLegal plan pre r → is_on g r.res ≡ false → lock_at plan g (pre ++ r ∷ []) ≡ lock_at plan g pre
lock_off plan g pre r ok glob all legal off = elim (effect plan g pre r ok glob (queue_at plan g pre ok glob (global_named plan g ok glob) all).orderly.fed legal) [
  | Quiet _ fs st ↦ same_lock _ _ _ _ (ap (map (core_of plan)) fs) (ap (first_holds plan (pre ++ r ∷ []) g) fs ∙ first_same plan g pre (pre ++ r ∷ []) (fifo g pre) (λ j. ap is_holds (st j)))
  | Took z m empty fs ↦ absurd (true≢false (sym m.on ∙ off))
  | Joined z m some fs ↦ absurd (true≢false (sym m.on ∙ off))
  | Got z m first fs ↦ absurd (true≢false (sym m.on ∙ off))
  | Spun z m back fs ↦ absurd (true≢false (sym m.on ∙ off))
  | Left z m fs ↦ absurd (true≢false (sym m.on ∙ off))
]

-- ---- the start of a legal run
-- a turn of its core after all rows, from one after its log
pub turn_from_log : (plan : PlanModel) (pre : List Row) (r : Row) → AreOwn plan pre → IsCoreTurn plan r.core.0 (log_of r.core.0 pre) r → IsTurn plan pre r
turn_from_log plan pre r own turn = turn_of plan pre r turn.own (chosen_local plan r.core.0 pre r own turn) (action_local plan r.core.0 pre r own turn)

-- each job of the rows is of its core
pub own_from_legal : (plan : PlanModel) (pre rows : List Row) → EachAfter (IsLegal plan) pre rows → AreOwn plan rows
own_from_legal plan pre [] all = tt
own_from_legal plan pre (r ∷ rows) all = (all.0.own, own_from_legal plan (pre ++ r ∷ []) rows all.1)

-- a row of a call names a job
call_no_idle : (call : Call) → kind_of_call call ≡ Idle → ⊥
call_no_idle (Ask zero) e = cc
call_no_idle (Ask (suc n)) e = cc
call_no_idle (Poll true) e = cc
call_no_idle (Poll false) e = cc
call_no_idle Leave e = cc

-- the queue replies what the lock answers
pub reply_at : (plan : PlanModel) (g : ℕ) (pre : List Row) (r : Row) (call : Call) → IsPlan plan → is_global plan g ≡ true → EachAfter (IsLegal plan) [] pre → IsTurn plan pre r → IsRowOfCall g r.core.0 call r → Answers (lock_at plan g pre) r.core.0 call → is_fifo_reply pre r ≡ true
reply_at plan g pre r call ok glob all turn row h = by_job r.job refl
  where
    by_job : (o : Option JobId) → r.job ≡ o → is_fifo_reply pre r ≡ true
    by_job None e = absurd (call_no_idle call (sym row.kind ∙ turn.idle e))
    by_job (Some x) e = reply_by_lock plan g pre r x call ok glob all turn e row h
