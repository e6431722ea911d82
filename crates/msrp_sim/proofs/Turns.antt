-- A turn of a core makes the next legal row, and leaves the cores as that row does.
use Rattle.std.proofs.Common.{◌≡◌, ◌≤◌, ◌/◌, ◌&&◌, ◌||◌, ◌⊎◌, ◌∙◌}
use Rattle.msrp_plan.proofs.Common.{ℕ, zero, suc, Bool, true, false, cond, not, List, [], Option, Some, None, IfSome, is_some, refl, ap, sym, subst, arith, length, nat_lt, inl, inr, true≢false, and-false, cases_Bool, lt-ltb, same_Some, PlanModel, has_shape, is_queue, may_carry, carries_its_ahead, is_queued, is_global, allows, res_of_unit, is_global_unit, fifo, replies, counts, IsCoreTurn, had_turn, is_in_turn, is_fifo_reply, replies_on, log_of, free_lock, Answers, lock_at, IsDueCall, kind_of_call, ahead_of_call, AreOwn, quiet_reply, turns_when_due, IsTurn, turn_of, idle_res, own_from_legal}
use Rattle.msrp_plan.specs.declared.ids.JobId.{JobId}
use Rattle.msrp_plan.specs.declared.ids.ResId.{ResId}
use Rattle.msrp_plan.specs.declared.rows.Kind.{Kind}
use Rattle.msrp_plan.specs.declared.rows.Kind.TheVariants.{Idle, Run, Lock, Unlock, Queue}
use Rattle.msrp_plan.specs.declared.rows.Row.{Row}
use Rattle.msrp_plan.specs.declared.units.Call.{Call}
use Rattle.msrp_plan.specs.declared.units.Call.TheVariants.{Ask, Poll, Leave}
use Rattle.msrp_plan.specs.declared.units.Op.{Op}
use Rattle.msrp_plan.specs.declared.units.Op.TheVariants.{Run as RunUnit, Lock as LockUnit, Unlock as UnlockUnit}
use Rattle.msrp_plan.proofs.Legality.Locality.{chosen_local, action_local}
use Rattle.msrp_plan.proofs.Runs.RoundRobin.{in_turn_of}
use Rattle.msrp_plan.proofs.Queues.QueueLocks.{reply_at}
use Rattle.msrp_core.specs.Machine.{StandsAfter}
use Rattle.msrp_sim.specs.Cores.{CoresModel, AreCores, IsMachineOf, StandFor, IsDueInRun, IsNextRow, MakesTurn, locks_at, phases_at}
use Rattle.msrp_sim.specs.Serving.{AreDrawn, IsTold}
use Rattle.msrp_sim.specs.TurnPorts.{MakesCallOf}
use Rattle.msrp_sim.specs.declared.tickets.Queues.{Queues}
use Rattle.msrp_sim.proofs.Serving.{told_answers}

-- ---- the row is legal
-- a row of a call carries its ahead
carries_call : (call : Call) → (not (is_queue (kind_of_call call)) || is_some (ahead_of_call call)) ≡ true
carries_call (Ask zero) = refl
carries_call (Ask (suc n)) = refl
carries_call (Poll true) = refl
carries_call (Poll false) = refl
carries_call Leave = refl

-- a row on no resource is no queue row
none_joins : (k : Kind) (job : Option JobId) → has_shape k job None ≡ true → is_queue k ≡ false
none_joins Queue job h = absurd (true≢false (sym h ∙ and-false (is_some job)))
none_joins Idle job h = refl
none_joins _ job h = refl

carries_plain : (r : Row) → is_queue r.kind ≡ false → carries_its_ahead r ≡ true
carries_plain r e = ap (λ b. not b || is_some r.ahead) e

-- nor is one on a local resource, and every queue lets it pass
local_passes : (q : List JobId) (j : Option JobId) (queued : Bool) (op : Op) (k : Kind) → allows false queued op k ≡ true → (replies q j k ≡ true) × (is_queue k ≡ false)
local_passes q j queued RunUnit Run h = (refl, refl)
local_passes q j queued (LockUnit g) Lock h = (refl, refl)
local_passes q j queued (UnlockUnit g) Unlock h = (refl, refl)
local_passes q j _ _ _ h = absurd (cc)

no_ahead : (r : Row) → is_queue r.kind ≡ false → r.ahead ≡ None
no_ahead r e = by_ahead r.ahead r.carrier
  where
    by_ahead : (o : Option ℕ) → may_carry r.kind o ≡ true → o ≡ None
    by_ahead None h = refl
    by_ahead (Some n) h = absurd (true≢false (sym h ∙ e))

pub counts_plain : (q : List JobId) (r : Row) → is_queue r.kind ≡ false → counts q r.ahead ≡ true
counts_plain q r e = ap (counts q) (no_ahead r e)

-- the unit of such a row is on a local resource
pub local_unit : (plan : PlanModel) (op : Op) (res : ResId) → Some res ≡ res_of_unit op → is_global plan res.0 ≡ false → is_global_unit plan op ≡ false
local_unit plan RunUnit res e l = refl
local_unit plan (LockUnit h) res e l = subst (λ (g : ResId). is_global plan g.0 ≡ false) (same_Some res h e) l
local_unit plan (UnlockUnit h) res e l = subst (λ (g : ResId). is_global plan g.0 ≡ false) (same_Some res h e) l

pub local_turn : (plan : PlanModel) (pre : List Row) (r : Row) (res : ResId) (o : Option JobId) → r.job ≡ o → IsTurn plan pre r → r.res ≡ Some res → is_global plan res.0 ≡ false → (q : List JobId) → (replies q r.job r.kind ≡ true) × (is_queue r.kind ≡ false)
local_turn plan pre r res None job turn e l q = let idle = idle_res r (turn.idle job) in absurd (cc)
local_turn plan pre r res (Some x) job turn e l q =
    let does = turn.does x job in
    local_passes q r.job (is_queued pre x) does.op r.kind (subst (λ b. allows b (is_queued pre x) does.op r.kind ≡ true) (local_unit plan does.op res (sym e ∙ does.res) l) does.kind)

-- ---- the lock of a global resource
pub lock_of_global : (plan : PlanModel) (rows : List Row) (g : ℕ) → is_global plan g ≡ true → locks_at plan rows g ≡ lock_at plan g rows
lock_of_global plan rows g glob = ap (λ b. cond b (lock_at plan g rows) free_lock) glob

-- ---- the row of a turn, whatever rows came before
-- no more are ahead than tickets were drawn
few_told : (q : Queues) (c g : ℕ) (call : Call) (n : ℕ) → AreDrawn q n → IsTold q c g call → IfSome (ahead_of_call call) (λ k. k ≤ n)
few_told q c g (Ask zero) n drawn told = tt
few_told q c g (Ask (suc k)) n drawn told = let most = (drawn g).0 in omega (arith, told, most)
few_told q c g (Poll granted) n drawn told = tt
few_told q c g Leave n drawn told = tt

module _ (old : CoresModel) (c : ℕ) (r : Row) (cores : AreCores old) (t : MakesTurn old c r) where
  its : IsMachineOf old.plan c t.before
  its = cores.each c t.before t.has

  pub turn_after : (log : List Row) → StandsAfter t.before log → IsCoreTurn old.plan c log r
  turn_after log stands = subst (λ p. IsCoreTurn p c log r) its.same_plan (subst (λ k. IsCoreTurn t.before.plan k log r) its.core (t.turned.row log stands))

  -- it is that of a call, or no queue row
  by_res : (o : Option ResId) → r.res ≡ o → MakesCallOf old.queues t.before t.after r t.call ⊎ (is_queue r.kind ≡ false)
  by_res None e = inr (none_joins r.kind r.job (subst (λ g. has_shape r.kind r.job g ≡ true) e r.shape))
  by_res (Some res) e = elim (cases_Bool (is_global old.plan res.0)) [
    | inl glob ↦ inl (t.turned.call res e (ap (λ p. is_global p res.0) its.same_plan ∙ glob))
    | inr loc ↦ let turn = turn_after its.log its.stands in inr (local_turn old.plan its.log r res r.job refl (turn_of old.plan its.log r turn.own turn.chosen turn.action) e loc []).1
  ]

  pub carries : carries_its_ahead r ≡ true
  carries = elim (by_res r.res refl) [
    | inl mc ↦ ap (λ k. not (is_queue k) || is_some r.ahead) mc.kind ∙ (ap (λ o. not (is_queue (kind_of_call mc.call)) || is_some o) mc.ahead ∙ carries_call mc.call)
    | inr plain ↦ carries_plain r plain
  ]

  pub few_ahead : (n : ℕ) → AreDrawn old.queues n → IfSome r.ahead (λ k. k ≤ n)
  few_ahead n drawn = elim (by_res r.res refl) [
    | inl mc ↦ subst (λ o. IfSome o (λ k. k ≤ n)) (sym mc.ahead) (few_told old.queues r.core.0 mc.res.0 mc.call n drawn mc.told)
    | inr plain ↦ subst (λ o. IfSome o (λ k. k ≤ n)) (sym (no_ahead r plain)) tt
  ]

-- ---- the row of a turn, by its resource
pub both_pass : (a b : Bool) → a ≡ true → b ≡ true → (a && b) ≡ true
both_pass a b h k = ap (λ c. c && b) h ∙ k

module _ (old : CoresModel) (c : ℕ) (r : Row) (rows : List Row) (cores : AreCores old) (stands : StandFor old rows) (due : IsDueInRun old.plan rows c) (t : MakesTurn old c r) where
  pub turn_row : IsCoreTurn old.plan c (log_of c rows) r
  turn_row = turn_after old c r cores t (log_of c rows) (stands.logs c t.before t.has)

  are_own : AreOwn old.plan rows
  are_own = own_from_legal old.plan [] rows stands.start.each

  is_turn : IsTurn old.plan rows r
  is_turn = turn_of old.plan rows r turn_row.own (chosen_local old.plan c rows r are_own turn_row) (action_local old.plan c rows r are_own turn_row)

  -- the call of the turn, if it makes one, is due, and answered as the lock answers it
  pub in_phase : (mc : MakesCallOf old.queues t.before t.after r t.call) → IsDueCall (phases_at rows r.core.0) mc.res mc.call
  in_phase mc = subst (λ p. IsDueCall p mc.res mc.call) ((stands.logs c t.before t.has).phase ∙ ap (phases_at rows) (sym turn_row.core)) mc.turn

  pub answers_at : (mc : MakesCallOf old.queues t.before t.after r t.call) → Answers (locks_at old.plan rows mc.res.0) r.core.0 mc.call
  answers_at mc = told_answers (locks_at old.plan rows) (phases_at rows) old.queues stands.serving r.core.0 mc.res mc.call (in_phase mc) mc.told

  same_plan : t.before.plan ≡ old.plan
  same_plan = (cores.each c t.before t.has).same_plan

  pub on_global : (mc : MakesCallOf old.queues t.before t.after r t.call) → is_global old.plan mc.res.0 ≡ true
  on_global mc = ap (λ p. is_global p mc.res.0) (sym same_plan) ∙ mc.global

  pub lock_answers : (mc : MakesCallOf old.queues t.before t.after r t.call) → Answers (lock_at old.plan mc.res.0 rows) r.core.0 mc.call
  lock_answers mc = subst (λ l. Answers l r.core.0 mc.call) (lock_of_global old.plan rows mc.res.0 (on_global mc)) (answers_at mc)

  call_passes : MakesCallOf old.queues t.before t.after r t.call → is_fifo_reply rows r ≡ true
  call_passes mc = reply_at old.plan mc.res.0 rows r mc.call cores.accepted (on_global mc) stands.start.each is_turn (record { core = refl; resource = mc.resource; kind = mc.kind; ahead = told r.ahead mc.ahead }) (lock_answers mc)
    where
      told : (o : Option ℕ) → o ≡ ahead_of_call mc.call → IfSome o (λ n. ahead_of_call mc.call ≡ Some n)
      told None e = tt
      told (Some n) e = sym e

  passes_by : (o : Option ResId) → r.res ≡ o → is_fifo_reply rows r ≡ true
  passes_by None e = quiet_reply rows r r.res e
  passes_by (Some res) e = elim (cases_Bool (is_global old.plan res.0)) [
    | inl glob ↦ call_passes (t.turned.call res e (ap (λ p. is_global p res.0) same_plan ∙ glob))
    | inr loc ↦
        let local = local_turn old.plan rows r res r.job refl is_turn e loc (fifo res.0 rows) in
        ap (λ o. replies_on rows o r) e ∙ both_pass (replies (fifo res.0 rows) r.job r.kind) (counts (fifo res.0 rows) r.ahead) local.0 (counts_plain (fifo res.0 rows) r local.1)
  ]

  in_turn : is_in_turn old.plan rows r ≡ true
  in_turn =
      let tick : r.tick ≡ length rows / old.plan.cores = turn_row.tick ∙ turns_when_due old.plan rows c cores.accepted stands.start.each due.turn in
      in_turn_of r.tick (length rows / old.plan.cores) (nat_lt r.core.0 old.plan.cores) (had_turn r.core.0 r.tick rows) tick
      (ap (λ n. nat_lt n old.plan.cores) turn_row.core ∙ lt-ltb c old.plan.cores due.turn.core)
      (ap (λ n. had_turn n r.tick rows) turn_row.core ∙ (ap (λ n. had_turn c n rows) tick ∙ due.turn.once))

  -- the row of a due core is the next legal one
  pub next_legal : IsNextRow old.plan rows c r
  next_legal = record {
    core = turn_row.core;
    legal = record { turn = in_turn; own = turn_row.own; chosen = chosen_local old.plan c rows r are_own turn_row; action = action_local old.plan c rows r are_own turn_row; reply = passes_by r.res refl };
    carries = carries old c r cores t;
  }
