-- A core followed by its own rows: the row against the turn of its machine, which answers as the
-- row says.
use Rattle.std.proofs.Common.{◌≡◌, ◌∷◌, ◌++◌, ◌∙◌}
use Rattle.msrp_plan.proofs.Common.{ℕ, zero, suc, Bool, true, false, cond, List, [], Option, Some, None, refl, ap, sym, subst, is_some, inl, inr, ForSome, true≢false, and-false, cases_Bool, and_parts, PlanModel, has_shape, is_queued, is_global, allows, same_res, log_of, kind_of_call, IsRunStart, IsCoreTurn, had_turn, is_in_turn, is_of_core, is_chosen, is_next_action, same_choice, IsPlan, IsTurn, due, turn_of, idle_res, same_res_is, same_choice_is, own_from_legal, log_own}
use Rattle.msrp_plan.specs.declared.faults.Rule.TheVariants.{A2, A3, A4}
use Rattle.msrp_plan.specs.declared.ids.JobId.{JobId}
use Rattle.msrp_plan.specs.declared.ids.ResId.{ResId}
use Rattle.msrp_plan.specs.declared.rows.Kind.{Kind}
use Rattle.msrp_plan.specs.declared.rows.Kind.TheVariants.{Idle, Run, Lock, Unlock, Take, Queue, Spin, Grant, Release}
use Rattle.msrp_plan.specs.declared.rows.Row.{Row}
use Rattle.msrp_plan.specs.declared.units.Call.{Call}
use Rattle.msrp_plan.specs.declared.units.Call.TheVariants.{Ask, Poll, Leave}
use Rattle.msrp_plan.specs.declared.units.Op.{Op}
use Rattle.msrp_plan.specs.declared.units.Op.TheVariants.{Run as RunUnit, Lock as LockUnit, Unlock as UnlockUnit}
use Rattle.msrp_plan.proofs.Queues.QueueLocks.{turn_from_log}
use Rattle.msrp_core.specs.Machine.{MachineModel, StandsAfter}
use Rattle.msrp_core.specs.Ports.{PortModel, MakesCall}
use Rattle.msrp_core.specs.declared.port.PortCall.{PortCall}
use Rattle.msrp_audit.specs.Foresight.{same_action, does_alike, unlike_turn}
use Rattle.msrp_audit.specs.Inside.Pieces.{broken_action}
use Rattle.msrp_sim.specs.TurnPorts.{as_calls}
use Rattle.msrp_audit.specs.Inside.Replies.{is_yes, is_answered}
use Rattle.msrp_audit.proofs.Foresight.{chosen_alike, action_alike}
use Rattle.msrp_audit.proofs.Judging.{reached}
use Rattle.msrp_sim.proofs.Standing.{stands_as}
use Rattle.msrp_sim.proofs.Turns.{local_unit}

-- ---- the same action has the same answer
-- a request or a poll
abbrev is_asking : Kind → Bool
is_asking Take = true
is_asking Queue = true
is_asking Grant = true
is_asking Spin = true
is_asking _ = false

plain_same : (k d : Kind) → is_asking d ≡ false → same_action k d ≡ true → k ≡ d
plain_same k Take p h = absurd (true≢false p)
plain_same k Queue p h = absurd (true≢false p)
plain_same k Grant p h = absurd (true≢false p)
plain_same k Spin p h = absurd (true≢false p)
plain_same Idle Idle p h = refl
plain_same Run Run p h = refl
plain_same Lock Lock p h = refl
plain_same Unlock Unlock p h = refl
plain_same Release Release p h = refl
plain_same _ _ p h = absurd (cc)

call_same : (k : Kind) (call : Call) → is_answered (is_yes k) call ≡ true → same_action k (kind_of_call call) ≡ true → k ≡ kind_of_call call
call_same Take (Ask zero) a h = refl
call_same Queue (Ask (suc n)) a h = refl
call_same Grant (Poll true) a h = refl
call_same Spin (Poll false) a h = refl
call_same Release Leave a h = refl
call_same _ (Ask zero) a h = absurd (cc)
call_same _ (Ask (suc n)) a h = absurd (cc)
call_same _ (Poll true) a h = absurd (cc)
call_same _ (Poll false) a h = absurd (cc)
call_same _ Leave a h = absurd (cc)

-- a row on no resource asks nothing, nor does one on a local resource
none_asks : (k : Kind) (job : Option JobId) → has_shape k job None ≡ true → is_asking k ≡ false
none_asks Take job h = absurd (true≢false (sym h ∙ and-false (is_some job)))
none_asks Queue job h = absurd (true≢false (sym h ∙ and-false (is_some job)))
none_asks Grant job h = absurd (true≢false (sym h ∙ and-false (is_some job)))
none_asks Spin job h = absurd (true≢false (sym h ∙ and-false (is_some job)))
none_asks _ job h = refl

local_asks : (queued : Bool) (op : Op) (k : Kind) → allows false queued op k ≡ true → is_asking k ≡ false
local_asks queued RunUnit Run h = refl
local_asks queued (LockUnit g) Lock h = refl
local_asks queued (UnlockUnit g) Unlock h = refl
local_asks _ _ _ h = absurd (cc)

local_turn_asks : (plan : PlanModel) (log : List Row) (s : Row) (res : ResId) (o : Option JobId) → s.job ≡ o → IsTurn plan log s → s.res ≡ Some res → is_global plan res.0 ≡ false → is_asking s.kind ≡ false
local_turn_asks plan log s res None job turn e loc = let idle = idle_res s (turn.idle job) in absurd (cc)
local_turn_asks plan log s res (Some x) job turn e loc =
    let does = turn.does x job in
    local_asks (is_queued log x) does.op s.kind (subst (λ b. allows b (is_queued log x) does.op s.kind ≡ true) (local_unit plan does.op res (sym e ∙ does.res) loc) does.kind)

-- the port has the call of the turn
only_call : (before : List PortCall) (call : Option PortCall) (e : PortCall) → before ++ as_calls call ≡ (before ++ []) ++ e ∷ [] → call ≡ Some e
only_call [] None e h = absurd (cc)
only_call [] (Some x) e h = cc
only_call (b ∷ before) call e h = only_call before call e (cc)

pub has_call : (before : List PortCall) (call : Option PortCall) (e : PortCall) (answer : Bool) → before ++ as_calls call ≡ (before ++ []) ++ e ∷ [] → ForSome call (λ x. is_answered answer x.call ≡ true) → is_answered answer e.call ≡ true
has_call before call e answer h all = subst (λ o. ForSome o (λ x. is_answered answer x.call ≡ true)) (only_call before call e h) all e refl

pub kinds_same : (plan : PlanModel) (c : ℕ) (log : List Row) (r s : Row) (old new : PortModel) → IsCoreTurn plan c log s
    → ((res : ResId) → s.res ≡ Some res → is_global plan res.0 ≡ true → MakesCall plan s old new)
    → ((mc : MakesCall plan s old new) → is_answered (is_yes r.kind) mc.call ≡ true)
    → same_action r.kind s.kind ≡ true → r.kind ≡ s.kind
kinds_same plan c log r s old new turn call answered same = by_res s.res refl
  where
    by_res : (o : Option ResId) → s.res ≡ o → r.kind ≡ s.kind
    by_res None e = plain_same r.kind s.kind (none_asks s.kind s.job (subst (λ g. has_shape s.kind s.job g ≡ true) e s.shape)) same
    by_res (Some res) e = elim (cases_Bool (is_global plan res.0)) [
      | inl glob ↦
          let mc = call res e glob in
          call_same r.kind mc.call (answered mc) (subst (λ k. same_action r.kind k ≡ true) mc.kind same) ∙ sym mc.kind
      | inr loc ↦ plain_same r.kind s.kind (local_turn_asks plan log s res s.job refl (turn_of plan log s turn.own turn.chosen turn.action) e loc) same
    ]

-- the row names the same job, and does the same
none_broken : (a b : Bool) → cond a (cond b None (Some A4)) (Some A3) ≡ None → (a ≡ true) × (b ≡ true)
none_broken true true h = (refl, refl)
none_broken true false h = absurd (cc)
none_broken false b h = absurd (cc)

-- ---- the row against the turn
module _ (plan : PlanModel) (rows : List Row) (r s : Row) (ok : IsPlan plan) (start : IsRunStart plan rows) (turn : is_in_turn plan rows r ≡ true) (made : IsCoreTurn plan r.core.0 (log_of r.core.0 rows) s) where
  is_turn : IsTurn plan rows s
  is_turn = turn_from_log plan rows s (own_from_legal plan [] rows start.each) (subst (λ c. IsCoreTurn plan c (log_of c rows) s) (sym made.core) made)

  tick : r.tick ≡ s.tick
  tick =
      let d = due plan rows r turn in
      d.tick ∙ (sym (reached plan rows r.core.0 ok start.each d.core (subst (λ t. had_turn r.core.0 t rows ≡ false) d.tick d.once)) ∙ sym made.tick)

  by_choice : (b : Bool) → same_choice r.job s.job ≡ b → cond b (cond (does_alike r s) None (Some A4)) (Some A3) ≡ cond b (cond (is_next_action plan rows r) None (Some A4)) (Some A3)
  by_choice false e = refl
  by_choice true e = ap (λ b. cond b None (Some A4)) (sym (action_alike plan rows r s is_turn (same_choice_is r.job s.job e)))

  pub follows : is_of_core plan r ≡ true → unlike_turn r s ≡ broken_action plan rows r
  follows own =
      by_choice (same_choice r.job s.job) refl
      ∙ (ap (λ b. cond b (cond (is_next_action plan rows r) None (Some A4)) (Some A3)) (sym (chosen_alike plan rows r s is_turn tick (sym made.core)))
      ∙ ap (λ b. cond b (cond (is_chosen plan rows r) (cond (is_next_action plan rows r) None (Some A4)) (Some A3)) (Some A2)) (sym own))

-- a row that breaks none of these rules leaves the machine as its turn did
pub stands_on : (x : MachineModel) (rows : List Row) (r s : Row) → unlike_turn r s ≡ None → (same_action r.kind s.kind ≡ true → r.kind ≡ s.kind) → StandsAfter x (log_of r.core.0 rows ++ s ∷ []) → StandsAfter x (log_of r.core.0 (rows ++ r ∷ []))
stands_on x rows r s none kinds stands =
    let both = none_broken (same_choice r.job s.job) (does_alike r s) none in
    let does = and_parts (same_res r.res s.res) (same_action r.kind s.kind) both.1 in
    subst (StandsAfter x) (sym (log_own rows r r.core.0 refl)) (stands_as x s r (log_of r.core.0 rows) (kinds does.1) (same_choice_is r.job s.job both.0) (same_res_is r.res s.res does.0) stands)
