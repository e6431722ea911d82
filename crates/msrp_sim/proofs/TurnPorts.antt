-- A port for one turn takes one call.
use Rattle.std.proofs.Common.{◌≡◌, ◌+◌, ◌<◌, ◌==◌, ◌&&◌, ◌∷◌, ◌++◌, ◌∙◌}
use Rattle.msrp_plan.proofs.Common.{ℕ, Bool, true, false, cond, List, [], Option, Some, None, IfSome, is_none, refl, ap, sym, subst, arith, append-nil, eqb-true, true≢false, same_Some, IsSomeAnd, IsDueCall, not_equal}
use Rattle.msrp_plan.specs.declared.ids.CoreId.{CoreId}
use Rattle.msrp_plan.specs.declared.ids.ResId.{ResId}
use Rattle.msrp_plan.specs.declared.rows.Kind.TheVariants.{Spin}
use Rattle.msrp_plan.specs.declared.rows.Row.{Row}
use Rattle.msrp_plan.specs.declared.units.Call.{Call}
use Rattle.msrp_plan.specs.declared.units.Call.TheVariants.{Poll}
use Rattle.msrp_plan.specs.declared.units.Phase.TheVariants.{Queued}
use Rattle.msrp_core.specs.Machine.{IsMachineTurn, IsRefused, MachineModel}
use Rattle.msrp_core.specs.Ports.{Adds, claim_in}
use Rattle.msrp_core.specs.declared.port.PortCall.{PortCall}
use Rattle.msrp_sim.specs.Serving.{IsTold, is_served}
use Rattle.msrp_sim.specs.TurnPorts.{as_calls, port_after, HasRepeated, IsCallAfter, IsTurnPort}
use Rattle.msrp_sim.specs.declared.tickets.Queues.{Queues}

-- whoever has room is the core of the port, and has made no call
one_room : (a b : Bool) → 0 < cond (a && b) 1 0 → (a ≡ true) × (b ≡ true)
one_room true true h = (refl, refl)
one_room true false h = absurd (omega (arith, h))
one_room false b h = absurd (omega (arith, h))

no_call : (call : Option PortCall) → is_none call ≡ true → call ≡ None
no_call None h = refl
no_call (Some e) h = absurd (true≢false (sym h))

-- a call of the turn
abbrev pub call_with : CoreId → ResId → Call → Option PortCall
call_with core res call = Some (record { core = core; res = res; call = call })

-- a call that is due, answered as the tickets stand, is the call of the turn
pub port_adds : (before : List PortCall) (first queues : Queues) (core k : CoreId) (resources : ℕ) (res : ResId) (made : Call) (call : Option PortCall) → IsTurnPort before first queues call → 0 < (port_after before core resources call).rooms k.0
    → IsDueCall (claim_in k.0 (before ++ as_calls call)) res made → IsTold queues k.0 res.0 made
    → Adds k res made (port_after before core resources call) (port_after before core resources (call_with k res made)) × IsTurnPort before first queues (call_with k res made)
port_adds before first queues core k resources res made call port room turn told =
    let e : PortCall = record { core = k; res = res; call = made } in
    let parts = one_room (k.0 == core.0) (is_none call) room in
    let none : call ≡ None = no_call call parts.1 in
    let first_turn : IsDueCall (claim_in k.0 before) res made = subst (λ l. IsDueCall (claim_in k.0 l) res made) (ap (λ o. before ++ as_calls o) none ∙ append-nil before) turn in (
      record {
        calls = sym (ap (λ o. (before ++ as_calls o) ++ e ∷ []) none ∙ ap (λ l. l ++ e ∷ []) (append-nil before));
        room = room_taken (k.0 == core.0) (is_none call) parts.0 parts.1;
        others = λ c ne. let other : (c == core.0) ≡ false = not_equal c core.0 (λ h. ne (h ∙ sym (eqb-true k.0 core.0 parts.0))) in ap (λ b. cond (b && false) 1 0) other ∙ sym (ap (λ b. cond (b && is_none call) 1 0) other);
        resources = refl;
      },
      record { same = port.same; made = λ x is. subst (IsCallAfter before first) (same_Some e x is) (record { turn = first_turn; told = subst (λ q. IsTold q k.0 res.0 made) port.same told }) },
    )
  where
    room_taken : (a b : Bool) → a ≡ true → b ≡ true → cond (a && false) 1 0 + 1 ≡ cond (a && b) 1 0
    room_taken true true h i = refl
    room_taken true false h i = absurd (true≢false (sym i))
    room_taken false b h i = absurd (true≢false (sym h))

-- ---- a poll that is known to come next, of this resource
module _ (q : Queues) (x : MachineModel) (g : ResId) where
  abbrev pub IsPollOf : Row → Type 0
  IsPollOf r = (r.kind ≡ Spin) × (r.res ≡ Some g)

  -- the row that polls in vain, and its call
  pub poll_made : (y : MachineModel) (o : Option Row) → IsSomeAnd o IsPollOf → false ≡ is_served q x.core g.0 → IfSome o (IsRefused x) → y.phase ≡ x.phase → IfSome o (IsMachineTurn x y) → IfSome o (HasRepeated q x y)
  poll_made y None is refused ref phase turn = tt
  poll_made y (Some r) is refused ref phase turn =
      let same : ref.res ≡ g = same_Some ref.res g (sym ref.resource ∙ is.1) in
      let told : false ≡ is_served q r.core.0 ref.res.0 = refused ∙ sym (ap (λ c. is_served q c ref.res.0) ref.core ∙ ap (λ (h : ResId). is_served q x.core h.0) same) in
      record {
        call = call_with r.core ref.res (Poll false);
        turned = record {
          plan = turn.plan;
          core = turn.core;
          tick = turn.tick;
          row = turn.row;
          stands = turn.stands;
          again = turn.again;
          call = λ res e global.
              let own : ref.res ≡ res = same_Some ref.res res (sym ref.resource ∙ e) in
              record {
                res = res;
                resource = e;
                global = global;
                call = Poll false;
                is = ap (λ h. call_with r.core h (Poll false)) own;
                kind = ref.kind;
                ahead = ref.ahead;
                turn = ref.awaits ∙ ap Queued own;
                told = subst (λ (h : ResId). false ≡ is_served q r.core.0 h.0) own told;
                claim = phase;
              };
          quiet = λ calm. absurd (true≢false (sym ref.global ∙ calm ref.res ref.resource));
        };
        vain = λ e h. ap (λ (k : PortCall). k.call) (sym (same_Some (record { core = r.core; res = ref.res; call = Poll false }) e h));
      }
