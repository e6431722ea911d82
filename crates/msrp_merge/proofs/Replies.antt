-- Where the steps on a resource are, in order, those of a legal history, each replies as the queue
-- of the resource.
use Rattle.std.proofs.Common.{◌≡◌, ◌&&◌, ◌∷◌, ◌++◌, ◌∙◌, ◌⊎◌}
use Rattle.msrp_plan.proofs.Common.{ℕ, Bool, true, false, cond, List, [], Option, Some, None, refl, ap, sym, subst, append-nil, append_assoc, eq-eqb, inl, inr, filter, true≢false, and_from, map-append, filter-append, PlanModel, is_queued, is_global, is_global_unit, res_of_unit, is_on, fifo, replies, counts, is_reply_of, may_carry, is_queue, EachAfter, IsLegal, is_fifo_reply, replies_on, FifoLock, free_lock, Answers, lock_after, lock_at, lock_from, IsPlan, IsTurn, DoesUnit, legal_turn, idle_res, each_push, own_from_legal, quiet_reply, Runs, Locks, Unlocks, Takes, Grants, Spins, Releases, step_of}
use Rattle.msrp_merge.proofs.Common.{AreAnswered, AreInterleaved, AreServed, Call, Event, IsRowOfEvent, JobId, Paired, ResId, Row, calls, each_weaker, eqb-true, interleaved_legal, is_row_on, is_step}
use Rattle.msrp_plan.specs.declared.rows.Kind.{Kind}
use Rattle.msrp_plan.specs.declared.rows.Kind.TheVariants.{Lock, Unlock}
use Rattle.msrp_plan.specs.FifoLock.{LegalFrom}
use Rattle.msrp_plan.specs.LockStates.{IsRowOfCall}
use Rattle.msrp_plan.specs.declared.units.Op.TheVariants.{Lock as LockUnit}
use Rattle.msrp_plan.proofs.Queues.QueueLocks.{reply_at, agree_at, lock_off, tells_from_answers, turn_from_log}
use Rattle.msrp_plan.proofs.TaskUnits.UnitKinds.{Queues}

-- ---- which rows are steps
-- the resource of a unit that a row on g does
unit_on : (plan : PlanModel) (pre : List Row) (r : Row) (x : JobId) (d : DoesUnit plan pre x r) (g : ℕ) (h : ResId) → is_on g r.res ≡ true → res_of_unit d.op ≡ Some h → h.0 ≡ g
unit_on plan pre r x d g h on e = eqb-true h.0 g (sym (ap (is_on g) (d.res ∙ e)) ∙ on)

-- a row of work or of none is on no resource
unit_none : (plan : PlanModel) (pre : List Row) (r : Row) (x : JobId) (d : DoesUnit plan pre x r) (g : ℕ) → is_on g r.res ≡ true → res_of_unit d.op ≡ None → ⊥
unit_none plan pre r x d g on e = true≢false (sym on ∙ ap (is_on g) (d.res ∙ e))

-- a row that locks or unlocks a resource as a local one is on none that is global
not_local : (plan : PlanModel) (g k : ℕ) → is_global plan g ≡ true → k ≡ g → is_global plan k ≡ false → ⊥
not_local plan g k glob e local = true≢false (sym glob ∙ (ap (is_global plan) (sym e) ∙ local))

-- a turn on a global resource is a step
step_by : (plan : PlanModel) (g : ℕ) (pre : List Row) (r : Row) (x : JobId) → is_global plan g ≡ true → is_on g r.res ≡ true → DoesUnit plan pre x r → is_step r.kind ≡ true
step_by plan g pre r x glob on d = elim (step_of (is_global_unit plan d.op) (is_queued pre x) d.op r.kind d.kind) [
  | Runs eo ek ↦ absurd (unit_none plan pre r x d g on (ap res_of_unit eo))
  | Locks h eo ek eg ↦ absurd (not_local plan g h.0 glob (unit_on plan pre r x d g h on (ap res_of_unit eo)) (sym (ap (is_global_unit plan) eo) ∙ eg))
  | Unlocks h eo ek eg ↦ absurd (not_local plan g h.0 glob (unit_on plan pre r x d g h on (ap res_of_unit eo)) (sym (ap (is_global_unit plan) eo) ∙ eg))
  | Takes h eo ek eg eq ↦ ap is_step ek
  | Queues h eo ek eg eq ↦ ap is_step ek
  | Grants h eo ek eg eq ↦ ap is_step ek
  | Spins h eo ek eg eq ↦ ap is_step ek
  | Releases h eo ek eg ↦ ap is_step ek
]

turn_is_step : (plan : PlanModel) (g : ℕ) (pre : List Row) (r : Row) → is_global plan g ≡ true → IsTurn plan pre r → is_on g r.res ≡ true → is_step r.kind ≡ true
turn_is_step plan g pre r glob turn on = by_job r.job refl
  where
    by_job : (o : Option JobId) → r.job ≡ o → is_step r.kind ≡ true
    by_job None e = absurd (true≢false (sym on ∙ ap (is_on g) (idle_res r (turn.idle e))))
    by_job (Some x) e = step_by plan g pre r x glob on (turn.does x e)

-- ---- a turn on a local resource has no reply
-- it locks or unlocks
local_by : (plan : PlanModel) (g : ℕ) (pre : List Row) (r : Row) (x : JobId) → is_global plan g ≡ false → is_on g r.res ≡ true → DoesUnit plan pre x r → (r.kind ≡ Lock) ⊎ (r.kind ≡ Unlock)
local_by plan g pre r x local on d = elim (step_of (is_global_unit plan d.op) (is_queued pre x) d.op r.kind d.kind) [
  | Runs eo ek ↦ absurd (unit_none plan pre r x d g on (ap res_of_unit eo))
  | Locks h eo ek eg ↦ inl ek
  | Unlocks h eo ek eg ↦ inr ek
  | Takes h eo ek eg eq ↦ absurd (locked h eo eg)
  | Queues h eo ek eg eq ↦ absurd (locked h eo eg)
  | Grants h eo ek eg eq ↦ absurd (locked h eo eg)
  | Spins h eo ek eg eq ↦ absurd (locked h eo eg)
  | Releases h eo ek eg ↦ absurd (not_local plan h.0 g (sym (ap (is_global_unit plan) eo) ∙ eg) (sym (unit_on plan pre r x d g h on (ap res_of_unit eo))) local)
]
  where
    locked : (h : ResId) → d.op ≡ LockUnit h → is_global_unit plan d.op ≡ true → ⊥
    locked h eo eg = not_local plan h.0 g (sym (ap (is_global_unit plan) eo) ∙ eg) (sym (unit_on plan pre r x d g h on (ap res_of_unit eo))) local

-- such a row carries no ahead
bare_by : (queue : List JobId) (k : Kind) (o : Option ℕ) → may_carry k o ≡ true → is_queue k ≡ false → counts queue o ≡ true
bare_by queue k None h n = refl
bare_by queue k (Some a) h n = absurd (true≢false (sym h ∙ n))

local_is : (queue : List JobId) (r : Row) (k : Kind) → r.kind ≡ k → replies queue r.job k ≡ true → is_queue k ≡ false → is_reply_of queue r ≡ true
local_is queue r k e h n = and_from (replies queue r.job r.kind) (counts queue r.ahead) (ap (replies queue r.job) e ∙ h) (bare_by queue k r.ahead (subst (λ z. may_carry z r.ahead ≡ true) e r.carrier) n)

local_reply : (plan : PlanModel) (g : ℕ) (pre : List Row) (r : Row) (queue : List JobId) → is_global plan g ≡ false → IsTurn plan pre r → is_on g r.res ≡ true → is_reply_of queue r ≡ true
local_reply plan g pre r queue local turn on = by_job r.job refl
  where
    by_job : (o : Option JobId) → r.job ≡ o → is_reply_of queue r ≡ true
    by_job None e = absurd (true≢false (sym on ∙ ap (is_on g) (idle_res r (turn.idle e))))
    by_job (Some x) e = elim (local_by plan g pre r x local on (turn.does x e)) [ inl k ↦ local_is queue r Lock k refl refl | inr k ↦ local_is queue r Unlock k refl refl ]

-- ---- pairs
paired_split : {X Y : Type 0} (R : X → Y → Type 0) (xs : List X) (x : X) (ys : List X) (h : List Y) → Paired R (xs ++ x ∷ ys) h → (k : List Y) × (y : Y) × (l : List Y) × (h ≡ k ++ y ∷ l) × Paired R xs k × R x y
paired_split R [] x ys [] all = absurd all
paired_split R [] x ys (y ∷ l) all = ([], y, l, refl, tt, all.0)
paired_split R (z ∷ xs) x ys [] all = absurd all
paired_split R (z ∷ xs) x ys (w ∷ h) all = let s = paired_split R xs x ys h all.1 in (w ∷ s.0, s.1, s.2, ap (λ l. w ∷ l) s.3, (all.0, s.4), s.5)

legal_split : (lock : FifoLock) (h : List (ℕ × Call)) (s : ℕ × Call) (l : List (ℕ × Call)) → LegalFrom lock (h ++ s ∷ l) → LegalFrom lock h × Answers (lock_from lock h) s.0 s.1
legal_split lock [] s l legal = (tt, legal.0)
legal_split lock (t ∷ h) s l legal = let rest = legal_split (lock_after lock t.0 t.1) h s l legal.1 in ((legal.0, rest.0), rest.1)

-- ---- the lock after some rows is that after the history of their steps
row_of_call : (g : ℕ) (r : Row) (s : Event) → is_on g r.res ≡ true → IsRowOfEvent r s → IsRowOfCall g r.core.0 s.1.call r
row_of_call g r s on p = record {
  core = refl;
  resource = p.step.resource ∙ ap (λ n. Some (let id : ResId = record { 0 = n } in id)) (eqb-true s.1.res.0 g (sym (ap (is_on g) p.step.resource) ∙ on));
  kind = p.step.kind;
  ahead = p.step.ahead;
}

-- by whether the row is a step on g
kept_row : (g : ℕ) (r : Row) (rows : List Row) (b : Bool) → is_row_on g r ≡ b → filter (is_row_on g) (r ∷ rows) ≡ cond b (r ∷ filter (is_row_on g) rows) (filter (is_row_on g) rows)
kept_row g r rows b e = ap (λ c. cond c (r ∷ filter (is_row_on g) rows) (filter (is_row_on g) rows)) e

and_never : (b : Bool) → b && false ≡ false
and_never true = refl
and_never false = refl

-- of a turn it says whether the row is on g
row_on : (plan : PlanModel) (g : ℕ) (pre : List Row) (r : Row) → is_global plan g ≡ true → IsTurn plan pre r → (is_on g r.res) ≡ is_row_on g r
row_on plan g pre r glob turn = by (is_on g r.res) refl
  where
    by : (b : Bool) → is_on g r.res ≡ b → is_on g r.res ≡ (is_step r.kind && is_on g r.res)
    by true e = e ∙ sym (ap (λ b. b && is_on g r.res) (turn_is_step plan g pre r glob turn e) ∙ e)
    by false e = e ∙ sym (ap (λ b. is_step r.kind && b) e ∙ and_never (is_step r.kind))

-- one row more, where all goes on so from the lock after it
abbrev GoesOn : PlanModel → ℕ → List Row → List Row → FifoLock → List Event → Type 0
GoesOn plan g before rows lock h = lock_at plan g before ≡ lock → Paired IsRowOfEvent (filter (is_row_on g) rows) h → LegalFrom lock (calls h) → lock_at plan g (before ++ rows) ≡ lock_from lock (calls h)

lock_more : (plan : PlanModel) (g : ℕ) (before : List Row) (r : Row) (rows : List Row) (lock : FifoLock) (h : List Event) → IsPlan plan → is_global plan g ≡ true → EachAfter (IsLegal plan) [] before → IsLegal plan before r
    → ((lock : FifoLock) (h : List Event) → GoesOn plan g (before ++ r ∷ []) rows lock h) → GoesOn plan g before (r ∷ rows) lock h
lock_more plan g before r rows lock h ok glob all legal go at pairs answers = by_step (is_row_on g r) refl
  where
    on_as : is_on g r.res ≡ is_row_on g r
    on_as = row_on plan g before r glob (legal_turn plan before r legal)

    parts : lock_at plan g (before ++ r ∷ rows) ≡ lock_at plan g ((before ++ r ∷ []) ++ rows)
    parts = ap (lock_at plan g) (sym (append_assoc before (r ∷ []) rows))

    one_step : is_on g r.res ≡ true → (h : List Event) → Paired IsRowOfEvent (r ∷ filter (is_row_on g) rows) h → LegalFrom lock (calls h) → lock_at plan g ((before ++ r ∷ []) ++ rows) ≡ lock_from lock (calls h)
    one_step on [] pairs answers = absurd pairs
    one_step on (s ∷ h) pairs answers =
        let call = row_of_call g r s on pairs.0 in
        let said : Answers (lock_at plan g before) r.core.0 s.1.call = subst (λ c. Answers (lock_at plan g before) c s.1.call) (sym pairs.0.core) (subst (λ l. Answers l s.0 s.1.call) (sym at) answers.0) in
        let agree = agree_at plan g before r s.1.call ok glob all legal call (tells_from_answers plan _ _ r.core.0 s.1.call said) in
        let next : lock_at plan g (before ++ r ∷ []) ≡ lock_after lock s.0 s.1.call = agree.next ∙ (ap (λ l. lock_after l r.core.0 s.1.call) at ∙ ap (λ c. lock_after lock c s.1.call) pairs.0.core) in
        go (lock_after lock s.0 s.1.call) h next pairs.1 answers.1

    by_step : (b : Bool) → is_row_on g r ≡ b → lock_at plan g (before ++ r ∷ rows) ≡ lock_from lock (calls h)
    by_step true e = parts ∙ one_step (on_as ∙ e) h (subst (λ l. Paired IsRowOfEvent l h) (kept_row g r rows true e) pairs) answers
    by_step false e = parts ∙ go lock h (lock_off plan g before r ok glob all legal (on_as ∙ e) ∙ at) (subst (λ l. Paired IsRowOfEvent l h) (kept_row g r rows false e) pairs) answers

lock_along : (plan : PlanModel) (g : ℕ) (before rows : List Row) → IsPlan plan → is_global plan g ≡ true → EachAfter (IsLegal plan) [] before → EachAfter (IsLegal plan) before rows → (lock : FifoLock) (h : List Event) → GoesOn plan g before rows lock h
lock_along plan g before [] ok glob all legal lock [] at pairs answers = ap (lock_at plan g) (append-nil before) ∙ at
lock_along plan g before [] ok glob all legal lock (s ∷ h) at pairs answers = absurd pairs
lock_along plan g before (r ∷ rows) ok glob all legal lock h at pairs answers =
    lock_more plan g before r rows lock h ok glob all legal.0 (lock_along plan g (before ++ r ∷ []) rows ok glob (each_push (IsLegal plan) [] before r all legal.0) legal.1) at pairs answers

-- ---- so a step replies as the queue
global_reply : (plan : PlanModel) (rows pre : List Row) (r : Row) (post : List Row) (g : ResId) → IsPlan plan → is_global plan g.0 ≡ true → AreServed plan rows → rows ≡ pre ++ r ∷ post → EachAfter (IsLegal plan) [] pre → IsTurn plan pre r → r.res ≡ Some g → is_on g.0 r.res ≡ true → is_fifo_reply pre r ≡ true
global_reply plan rows pre r post g ok glob served e all turn res on =
    let s = served g.0 glob in
    let kept : filter (is_row_on g.0) rows ≡ filter (is_row_on g.0) pre ++ r ∷ filter (is_row_on g.0) post = ap (filter (is_row_on g.0)) e ∙ (filter-append (is_row_on g.0) pre (r ∷ post) ∙ ap (λ l. filter (is_row_on g.0) pre ++ l) (kept_row g.0 r post true (sym (row_on plan g.0 pre r glob turn) ∙ on))) in
    let p = paired_split IsRowOfEvent (filter (is_row_on g.0) pre) r (filter (is_row_on g.0) post) s.0 (subst (λ l. Paired IsRowOfEvent l s.0) kept s.1) in
    let two : calls s.0 ≡ calls p.0 ++ (p.1.0, p.1.1.call) ∷ calls p.2 = ap calls p.3 ∙ map-append (λ (t : Event). (t.0, t.1.call)) p.0 (p.1 ∷ p.2) in
    let q = legal_split free_lock (calls p.0) (p.1.0, p.1.1.call) (calls p.2) (subst (LegalFrom free_lock) two s.2) in
    let lock : lock_at plan g.0 pre ≡ lock_from free_lock (calls p.0) = lock_along plan g.0 [] pre ok glob tt all free_lock p.0 refl p.4 q.0 in
    reply_at plan g.0 pre r p.1.1.call ok glob all turn (row_of_call g.0 r p.1 on p.5)
    (subst (λ c. Answers (lock_at plan g.0 pre) c p.1.1.call) (sym p.5.core) (subst (λ l. Answers l p.1.0 p.1.1.call) (sym lock) q.1))

pub served_answered : (plan : PlanModel) (rows : List Row) → IsPlan plan → AreServed plan rows → AreAnswered plan rows
served_answered plan rows ok served = λ pre r post e all turn. by_res pre r post e all (turn_from_log plan pre r (own_from_legal plan [] pre all) turn) r.res refl
  where
    by_scope : (pre : List Row) (r : Row) (post : List Row) (g : ResId) → rows ≡ pre ++ r ∷ post → EachAfter (IsLegal plan) [] pre → IsTurn plan pre r → r.res ≡ Some g → is_on g.0 r.res ≡ true → (b : Bool) → is_global plan g.0 ≡ b → is_fifo_reply pre r ≡ true
    by_scope pre r post g e all turn res on true glob = global_reply plan rows pre r post g ok glob served e all turn res on
    by_scope pre r post g e all turn res on false local = ap (λ o. replies_on pre o r) res ∙ local_reply plan g.0 pre r (fifo g.0 pre) local turn on

    by_res : (pre : List Row) (r : Row) (post : List Row) → rows ≡ pre ++ r ∷ post → EachAfter (IsLegal plan) [] pre → IsTurn plan pre r → (o : Option ResId) → r.res ≡ o → is_fifo_reply pre r ≡ true
    by_res pre r post e all turn None res = quiet_reply pre r r.res res
    by_res pre r post e all turn (Some g) res = by_scope pre r post g e all turn res (ap (is_on g.0) res ∙ eq-eqb g.0 g.0 refl) (is_global plan g.0) refl

-- and so do all rows
pub replies_law : (plan : PlanModel) (rows : List Row) → IsPlan plan → AreInterleaved plan rows → AreServed plan rows → EachAfter (λ pre r. is_fifo_reply pre r ≡ true) [] rows
replies_law plan rows ok inter served = each_weaker (IsLegal plan) (λ pre r. is_fifo_reply pre r ≡ true) (λ pre r h. h.reply) [] rows (interleaved_legal plan rows inter (served_answered plan rows ok served))
