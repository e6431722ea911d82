-- What a legal row does to a global resource: six effects, each with the stands of its job before
-- and after, everyone else's unchanged, and the queue after it.
use Rattle.msrp_plan.specs.Common.{ℕ, Bool, true, false, cond, not, List, [], Option, Some, None, slice_get, drop, list_any, PlanModel, units, is_lock_of, is_unlock_of, is_row_of, is_waiting, is_queued, done, is_job, is_global, is_global_unit, res_of_unit, is_on, fifo, replies, is_free, is_first, IsLegal, JobState, IsLocking, IsPlan}
use Rattle.msrp_plan.specs.declared.ids.JobId.{JobId}
use Rattle.msrp_plan.specs.declared.ids.ResId.{ResId}
use Rattle.msrp_plan.specs.declared.units.Op.{Op}
use Rattle.msrp_plan.specs.declared.rows.Kind.{Kind}
use Rattle.msrp_plan.specs.declared.rows.Kind.TheVariants.{Idle, Take, Queue, Spin, Grant, Release}
use Rattle.msrp_plan.specs.declared.rows.Row.{Row}
use Rattle.std.proofs.Common.{◌≡◌, ◌+◌, ◌==◌, ◌∷◌, ◌++◌, refl, ap, sym, ◌∙◌, subst, arith}
use Rattle.std.proofs.lemmas.Bool.{eqb-true, and_parts, not-true, false_from_ne_true}
use Rattle.msrp_plan.specs.declared.units.Op.TheVariants.{Lock as LockUnit, Unlock as UnlockUnit}
use Rattle.msrp_plan.proofs.Jobs.JobTests.{one_job}
use Rattle.msrp_plan.proofs.Jobs.States.{state_moved}
use Rattle.msrp_plan.proofs.TaskUnits.PlanUnits.{units_lock}
use Rattle.msrp_plan.proofs.TaskUnits.UnitCounts.{held_in, held_lock, held_unlock, held_other}
use Rattle.msrp_plan.proofs.TaskUnits.Stands.{Stand, Out, Waits, Holds, stand_in, stand, stand_held, stand_free, stand_waits, stand_past, stand_kept}
use Rattle.msrp_plan.proofs.TaskUnits.UnitKinds.{Runs, Locks, Unlocks, Takes, Queues, Grants, Spins, Releases, step_of}
use Rattle.msrp_plan.proofs.Legality.LegalRows.{IsTurn, DoesUnit, legal_turn, legal_reply, idle_res}
use Rattle.msrp_plan.proofs.Queues.Fifos.{IsFed, not_releasing, releasing, requesting, not_requesting, fifo_same, fifo_off, fifo_request, fifo_release}

-- row r, of kind k on g, moves job x from one stand to another
pub record IsMove (plan : PlanModel) (g : ℕ) (pre : List Row) (r : Row) (x : JobId) (k : Kind) (a b : Stand) : Type 0 where
  pub job : r.job ≡ Some x
  pub on : is_on g r.res ≡ true
  pub kind : r.kind ≡ k
  pub before : stand plan g pre x ≡ a
  pub after : stand plan g (pre ++ r ∷ []) x ≡ b
  pub others : (j : JobId) → is_row_of j r ≡ false → stand plan g (pre ++ r ∷ []) j ≡ stand plan g pre j

-- a row of another resource; a take; a row that joins the queue; a grant; a spin; a release
pub data Effect (plan : PlanModel) (g : ℕ) (pre : List Row) (r : Row) : Type 0 where
  Quiet : is_on g r.res ≡ false → fifo g (pre ++ r ∷ []) ≡ fifo g pre → ((j : JobId) → stand plan g (pre ++ r ∷ []) j ≡ stand plan g pre j) → Effect plan g pre r
  Took : (x : JobId) → IsMove plan g pre r x Take Out Holds → is_free (fifo g pre) ≡ true → fifo g (pre ++ r ∷ []) ≡ fifo g pre ++ x ∷ [] → Effect plan g pre r
  Joined : (x : JobId) → IsMove plan g pre r x Queue Out Waits → is_free (fifo g pre) ≡ false → fifo g (pre ++ r ∷ []) ≡ fifo g pre ++ x ∷ [] → Effect plan g pre r
  Got : (x : JobId) → IsMove plan g pre r x Grant Waits Holds → is_first (fifo g pre) (Some x) ≡ true → fifo g (pre ++ r ∷ []) ≡ fifo g pre → Effect plan g pre r
  Spun : (x : JobId) → IsMove plan g pre r x Spin Waits Waits → is_first (fifo g pre) (Some x) ≡ false → fifo g (pre ++ r ∷ []) ≡ fifo g pre → Effect plan g pre r
  Left : (x : JobId) → IsMove plan g pre r x Release Holds Out → fifo g (pre ++ r ∷ []) ≡ drop 1 (fifo g pre) → Effect plan g pre r

-- the job of a move is the one whose row it is
pub mover_is : (plan : PlanModel) (g : ℕ) (pre : List Row) (r : Row) (x j : JobId) (k : Kind) (a b : Stand) → IsMove plan g pre r x k a b → is_row_of j r ≡ true → j ≡ x
mover_is plan g pre r x j k a b m e = one_job r x j m.job e

-- ---- the stand of the row's own job after it
stand_moved : (plan : PlanModel) (g : ℕ) (pre : List Row) (r : Row) (x : JobId) (k : Kind) → r.job ≡ Some x → r.kind ≡ k → stand plan g (pre ++ r ∷ []) x ≡ stand_in (units plan x) g (is_waiting k) (done x pre + cond (not (is_waiting k)) 1 0)
stand_moved plan g pre r x k e h =
    ap (λ (s : JobState). stand_in (units plan x) g s.queued s.done) (state_moved pre r x e) ∙ ap (λ w. stand_in (units plan x) g (is_waiting w) (done x pre + cond (not (is_waiting w)) 1 0)) h

-- ---- a row of another resource, or of none
all_same : (plan : PlanModel) (g : ℕ) (pre : List Row) (r : Row) (x : JobId) → r.job ≡ Some x → stand plan g (pre ++ r ∷ []) x ≡ stand plan g pre x → (j : JobId) (b : Bool) → is_row_of j r ≡ b → stand plan g (pre ++ r ∷ []) j ≡ stand plan g pre j
all_same plan g pre r x e h j true m = subst (λ z. stand plan g (pre ++ r ∷ []) z ≡ stand plan g pre z) (sym (one_job r x j e m)) h
all_same plan g pre r x e h j false m = stand_kept plan g pre r j m

-- a unit that neither locks nor unlocks it leaves the stand
stays : (us : List Op) (g n : ℕ) (op : Op) (q w : Bool) → slice_get us n ≡ Some op → is_lock_of g op ≡ false → is_unlock_of g op ≡ false → stand_in us g w (n + cond (not w) 1 0) ≡ stand_in us g q n
stays us g n op q true h l u =
    let z : n + 0 ≡ n = omega arith in
    ap (stand_in us g true) z ∙ (stand_past us g true n op h l ∙ sym (stand_past us g q n op h l))
stays us g n op q false h l u =
    let f : held_in us g (n + 1) ≡ held_in us g n = held_other us g n op h l u in
    ap (λ b. cond b Holds Out) f ∙ sym (stand_past us g q n op h l)

-- a row whose unit neither locks nor unlocks it does nothing to it
quiet : (plan : PlanModel) (g : ℕ) (pre : List Row) (r : Row) (x : JobId) (op : Op) → r.job ≡ Some x → slice_get (units plan x) (done x pre) ≡ Some op → is_lock_of g op ≡ false → is_unlock_of g op ≡ false → is_on g r.res ≡ false → Effect plan g pre r
quiet plan g pre r x op e h l u off =
    let s : stand plan g (pre ++ r ∷ []) x ≡ stand plan g pre x = stand_moved plan g pre r x r.kind e refl ∙ stays (units plan x) g (done x pre) op (is_queued pre x) (is_waiting r.kind) h l u in
    Quiet off (fifo_off g pre r off) (λ j. all_same plan g pre r x e s j (is_row_of j r) refl)

-- nor does an idle row
idle_row : (plan : PlanModel) (g : ℕ) (pre : List Row) (r : Row) → r.job ≡ None → r.kind ≡ Idle → Effect plan g pre r
idle_row plan g pre r e k =
    let off : is_on g r.res ≡ false = ap (is_on g) (idle_res r k) in
    Quiet off (fifo_off g pre r off) (λ j. stand_kept plan g pre r j (ap (λ o. is_job o j) e))

-- a local resource is another than a global one
local_off : (plan : PlanModel) (h g : ℕ) → is_global plan h ≡ false → is_global plan g ≡ true → (h == g) ≡ false
local_off plan h g l k = false_from_ne_true (h == g) (λ e. let s = eqb-true h g e in let c : false ≡ true = sym l ∙ (ap (is_global plan) s ∙ k) in cc)

-- ---- a row on g itself
-- row r, of kind k, does unit op of job x, which is a lock or an unlock of g
record At (plan : PlanModel) (g : ℕ) (pre : List Row) (r : Row) (x : JobId) (op : Op) (k : Kind) : Type 0 where
  locking : IsLocking plan (units plan x)
  fed : IsFed g pre
  unit : slice_get (units plan x) (done x pre) ≡ Some op
  job : r.job ≡ Some x
  kind : r.kind ≡ k
  on : is_on g r.res ≡ true
  reply : replies (fifo g pre) (Some x) k ≡ true

-- such a row moves its job
move_at : (plan : PlanModel) (g : ℕ) (pre : List Row) (r : Row) (x : JobId) (op : Op) (k : Kind) (a b : Stand) → At plan g pre r x op k → stand plan g pre x ≡ a → stand_in (units plan x) g (is_waiting k) (done x pre + cond (not (is_waiting k)) 1 0) ≡ b → IsMove plan g pre r x k a b
move_at plan g pre r x op k a b w s t = record { job = w.job; on = w.on; kind = w.kind; before = s; after = stand_moved plan g pre r x k w.job w.kind ∙ t; others = λ j m. stand_kept plan g pre r j m }

-- at a lock of it, by whether the job is queued
out_at : (plan : PlanModel) (g : ℕ) (pre : List Row) (x : JobId) (op : Op) → IsLocking plan (units plan x) → slice_get (units plan x) (done x pre) ≡ Some op → is_lock_of g op ≡ true → is_queued pre x ≡ false → stand plan g pre x ≡ Out
out_at plan g pre x op locking u l q = ap (λ b. stand_in (units plan x) g b (done x pre)) q ∙ stand_free (units plan x) g (done x pre) ((held_lock plan (units plan x) g (done x pre) op locking u l).0)

-- who is queued there waits
waits_at : (plan : PlanModel) (g : ℕ) (pre : List Row) (x : JobId) (op : Op) → IsLocking plan (units plan x) → slice_get (units plan x) (done x pre) ≡ Some op → is_lock_of g op ≡ true → is_queued pre x ≡ true → stand plan g pre x ≡ Waits
waits_at plan g pre x op locking u l q = ap (λ b. stand_in (units plan x) g b (done x pre)) q ∙ stand_waits (units plan x) g (done x pre) op ((held_lock plan (units plan x) g (done x pre) op locking u l).0) u l

-- and waits on where the unit is not done
still_waits : (plan : PlanModel) (us : List Op) (g n : ℕ) (op : Op) → IsLocking plan us → slice_get us n ≡ Some op → is_lock_of g op ≡ true → stand_in us g true (n + 0) ≡ Waits
still_waits plan us g n op locking u l = let z : n + 0 ≡ n = omega arith in ap (stand_in us g true) z ∙ stand_waits us g n op ((held_lock plan us g n op locking u l).0) u l

-- who has done the lock holds it
now_holds : (plan : PlanModel) (us : List Op) (g n : ℕ) (op : Op) → IsLocking plan us → slice_get us n ≡ Some op → is_lock_of g op ≡ true → stand_in us g false (n + 1) ≡ Holds
now_holds plan us g n op locking u l = stand_held us g false (n + 1) ((held_lock plan us g n op locking u l).1)

-- it was free
took : (plan : PlanModel) (g : ℕ) (pre : List Row) (r : Row) (x : JobId) (op : Op) → At plan g pre r x op Take → is_lock_of g op ≡ true → is_queued pre x ≡ false → Effect plan g pre r
took plan g pre r x op w l q =
    Took x (move_at plan g pre r x op Take Out Holds w (out_at plan g pre x op w.locking w.unit l q) (now_holds plan (units plan x) g (done x pre) op w.locking w.unit l))
    w.reply
    (fifo_request g pre r x w.fed (not_releasing g r Take w.kind refl) (requesting g r x Take w.on w.kind refl w.job))

-- it was not free
joined : (plan : PlanModel) (g : ℕ) (pre : List Row) (r : Row) (x : JobId) (op : Op) → At plan g pre r x op Queue → is_lock_of g op ≡ true → is_queued pre x ≡ false → Effect plan g pre r
joined plan g pre r x op w l q =
    Joined x (move_at plan g pre r x op Queue Out Waits w (out_at plan g pre x op w.locking w.unit l q) (still_waits plan (units plan x) g (done x pre) op w.locking w.unit l))
    (not-true (is_free (fifo g pre)) w.reply)
    (fifo_request g pre r x w.fed (not_releasing g r Queue w.kind refl) (requesting g r x Queue w.on w.kind refl w.job))

-- the job stood first
got : (plan : PlanModel) (g : ℕ) (pre : List Row) (r : Row) (x : JobId) (op : Op) → At plan g pre r x op Grant → is_lock_of g op ≡ true → is_queued pre x ≡ true → Effect plan g pre r
got plan g pre r x op w l q =
    Got x (move_at plan g pre r x op Grant Waits Holds w (waits_at plan g pre x op w.locking w.unit l q) (now_holds plan (units plan x) g (done x pre) op w.locking w.unit l))
    w.reply
    (fifo_same g pre r (not_releasing g r Grant w.kind refl) (not_requesting g r Grant w.on w.kind refl))

-- the job stood further back
spun : (plan : PlanModel) (g : ℕ) (pre : List Row) (r : Row) (x : JobId) (op : Op) → At plan g pre r x op Spin → is_lock_of g op ≡ true → is_queued pre x ≡ true → Effect plan g pre r
spun plan g pre r x op w l q =
    let behind = and_parts (list_any (is_job (Some x)) (fifo g pre)) (not (is_first (fifo g pre) (Some x))) w.reply in
    Spun x (move_at plan g pre r x op Spin Waits Waits w (waits_at plan g pre x op w.locking w.unit l q) (still_waits plan (units plan x) g (done x pre) op w.locking w.unit l))
    (not-true (is_first (fifo g pre) (Some x)) behind.1)
    (fifo_same g pre r (not_releasing g r Spin w.kind refl) (not_requesting g r Spin w.on w.kind refl))

-- the job held it
left : (plan : PlanModel) (g : ℕ) (pre : List Row) (r : Row) (x : JobId) (op : Op) → At plan g pre r x op Release → is_unlock_of g op ≡ true → Effect plan g pre r
left plan g pre r x op w l =
    let k = held_unlock plan (units plan x) g (done x pre) op w.locking w.unit l in
    Left x (move_at plan g pre r x op Release Holds Out w (stand_held (units plan x) g (is_queued pre x) (done x pre) k.0) (stand_free (units plan x) g (done x pre + 1) k.1))
    (fifo_release g pre r (releasing g r Release w.on w.kind refl) (not_requesting g r Release w.on w.kind refl))

-- ---- the row of a job, by its unit, and by whether what it names is g
pub reply_on : (g : ℕ) (pre : List Row) (r : Row) (x : JobId) (h : ResId) (k : Kind) → h.0 ≡ g → r.job ≡ Some x → r.kind ≡ k → replies (fifo h.0 pre) r.job r.kind ≡ true → replies (fifo g pre) (Some x) k ≡ true
reply_on g pre r x h k eh ej ek p = subst (λ w. replies (fifo g pre) (Some x) w ≡ true) ek (subst (λ o. replies (fifo g pre) o r.kind ≡ true) ej (subst (λ n. replies (fifo n pre) r.job r.kind ≡ true) eh p))

-- a row on it
on_it : (plan : PlanModel) (g : ℕ) (pre : List Row) (r : Row) (x : JobId) (h : ResId) (k : Kind) → IsPlan plan → IsFed g pre → IsLegal plan pre r → (d : DoesUnit plan pre x r) → r.job ≡ Some x → r.kind ≡ k → r.res ≡ Some h → (h.0 == g) ≡ true → At plan g pre r x d.op k
on_it plan g pre r x h k ok fed legal d j ek er e = record {
  locking = units_lock plan ok x.task.0;
  fed = fed;
  unit = d.unit;
  job = j;
  kind = ek;
  on = ap (is_on g) er ∙ e;
  reply = reply_on g pre r x h k (eqb-true h.0 g e) j ek (legal_reply plan pre r h legal er);
}

-- a lock of it or of another resource
at_lock : (plan : PlanModel) (g : ℕ) (pre : List Row) (r : Row) (x : JobId) (h : ResId) (k : Kind) → IsPlan plan → IsFed g pre → IsLegal plan pre r → (d : DoesUnit plan pre x r) → r.job ≡ Some x → r.kind ≡ k → d.op ≡ LockUnit h
    → (At plan g pre r x d.op k → is_lock_of g d.op ≡ true → Effect plan g pre r) → (b : Bool) → (h.0 == g) ≡ b → Effect plan g pre r
at_lock plan g pre r x h k ok fed legal d j ek eo f true e = f (on_it plan g pre r x h k ok fed legal d j ek (d.res ∙ ap res_of_unit eo) e) (ap (is_lock_of g) eo ∙ e)
at_lock plan g pre r x h k ok fed legal d j ek eo f false e = quiet plan g pre r x d.op j d.unit (ap (is_lock_of g) eo ∙ e) (ap (is_unlock_of g) eo) (ap (is_on g) (d.res ∙ ap res_of_unit eo) ∙ e)

-- an unlock of it or of another resource
at_unlock : (plan : PlanModel) (g : ℕ) (pre : List Row) (r : Row) (x : JobId) (h : ResId) (k : Kind) → IsPlan plan → IsFed g pre → IsLegal plan pre r → (d : DoesUnit plan pre x r) → r.job ≡ Some x → r.kind ≡ k → d.op ≡ UnlockUnit h
    → (At plan g pre r x d.op k → is_unlock_of g d.op ≡ true → Effect plan g pre r) → (b : Bool) → (h.0 == g) ≡ b → Effect plan g pre r
at_unlock plan g pre r x h k ok fed legal d j ek eo f true e = f (on_it plan g pre r x h k ok fed legal d j ek (d.res ∙ ap res_of_unit eo) e) (ap (is_unlock_of g) eo ∙ e)
at_unlock plan g pre r x h k ok fed legal d j ek eo f false e = quiet plan g pre r x d.op j d.unit (ap (is_lock_of g) eo) (ap (is_unlock_of g) eo ∙ e) (ap (is_on g) (d.res ∙ ap res_of_unit eo) ∙ e)

-- by the unit and the kind of the row
job_row : (plan : PlanModel) (g : ℕ) (pre : List Row) (r : Row) (x : JobId) → IsPlan plan → is_global plan g ≡ true → IsFed g pre → IsLegal plan pre r → r.job ≡ Some x → DoesUnit plan pre x r → Effect plan g pre r
job_row plan g pre r x ok glob fed legal j d =
    elim (step_of (is_global_unit plan d.op) (is_queued pre x) d.op r.kind d.kind) [
      | Runs eo ek ↦ quiet plan g pre r x d.op j d.unit (ap (is_lock_of g) eo) (ap (is_unlock_of g) eo) (ap (is_on g) (d.res ∙ ap res_of_unit eo))
      | Locks h eo ek eg ↦
          let off : (h.0 == g) ≡ false = local_off plan h.0 g (sym (ap (is_global_unit plan) eo) ∙ eg) glob in
          quiet plan g pre r x d.op j d.unit (ap (is_lock_of g) eo ∙ off) (ap (is_unlock_of g) eo) (ap (is_on g) (d.res ∙ ap res_of_unit eo) ∙ off)
      | Unlocks h eo ek eg ↦
          let off : (h.0 == g) ≡ false = local_off plan h.0 g (sym (ap (is_global_unit plan) eo) ∙ eg) glob in
          quiet plan g pre r x d.op j d.unit (ap (is_lock_of g) eo) (ap (is_unlock_of g) eo ∙ off) (ap (is_on g) (d.res ∙ ap res_of_unit eo) ∙ off)
      | Takes h eo ek eg eq ↦ at_lock plan g pre r x h Take ok fed legal d j ek eo (λ w l. took plan g pre r x d.op w l eq) (h.0 == g) refl
      | Queues h eo ek eg eq ↦ at_lock plan g pre r x h Queue ok fed legal d j ek eo (λ w l. joined plan g pre r x d.op w l eq) (h.0 == g) refl
      | Grants h eo ek eg eq ↦ at_lock plan g pre r x h Grant ok fed legal d j ek eo (λ w l. got plan g pre r x d.op w l eq) (h.0 == g) refl
      | Spins h eo ek eg eq ↦ at_lock plan g pre r x h Spin ok fed legal d j ek eo (λ w l. spun plan g pre r x d.op w l eq) (h.0 == g) refl
      | Releases h eo ek eg ↦ at_unlock plan g pre r x h Release ok fed legal d j ek eo (λ w l. left plan g pre r x d.op w l) (h.0 == g) refl
    ]

-- the effect of a legal row
pub effect : (plan : PlanModel) (g : ℕ) (pre : List Row) (r : Row) → IsPlan plan → is_global plan g ≡ true → IsFed g pre → IsLegal plan pre r → Effect plan g pre r
effect plan g pre r ok glob fed legal = by_job r.job refl
  where
    turn : IsTurn plan pre r
    turn = legal_turn plan pre r legal

    by_job : (o : Option JobId) → r.job ≡ o → Effect plan g pre r
    by_job None e = idle_row plan g pre r e (turn.idle e)
    by_job (Some x) e = job_row plan g pre r x ok glob fed legal e (turn.does x e)
