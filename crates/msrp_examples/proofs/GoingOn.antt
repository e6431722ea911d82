-- A turn over the lock leaves every machine so that it can go on.
use Rattle.std.proofs.Common.{◌≡◌, ◌≢◌, ◌+◌, ◌<◌, ◌≤◌, ◌∷◌, ◌++◌, ◌∙◌}
use Rattle.msrp_plan.proofs.Common.{ℕ, cond, true, false, Option, Some, None, [], refl, ap, sym, subst, arith, length, inl, inr, cases_Bool, lt-ltb, none-some, same_Some, PlanModel, is_global, not_equal}
use Rattle.msrp_plan.specs.declared.ids.ResId.{ResId}
use Rattle.msrp_plan.specs.declared.rows.Row.{Row}
use Rattle.msrp_plan.specs.declared.units.Phase.TheVariants.{Free}
use Rattle.msrp_core.specs.Machine.{MachineModel, StandsAfter}
use Rattle.msrp_core.specs.Ports.{PortModel, claim_in, IsQuiet, MakesCall}
use Rattle.msrp_sim.specs.Served.{FifoModel, IsFresh, as_port}
use Rattle.msrp_sim.proofs.Histories.{claim_other}
use Rattle.msrp_examples.specs.Lock.{CanGoOn}

-- a core took at most one of its room, and nothing changed for the others
pub record IsOneCall (k : ℕ) (before after : PortModel) : Type 0 where
  pub own : before.rooms k ≤ after.rooms k + 1
  pub rooms : (c : ℕ) → c ≢ k → after.rooms c ≡ before.rooms c
  pub claims : (c : ℕ) → c ≢ k → claim_in c after.calls ≡ claim_in c before.calls
  pub resources : after.resources ≡ before.resources

by_call : (plan : PlanModel) (r : Row) (before after : PortModel) → MakesCall plan r before after → IsOneCall r.core.0 before after
by_call plan r before after made = record {
  own = let a = made.adds.room in omega (arith, a);
  rooms = made.adds.others;
  claims = λ c ne. ap (claim_in c) made.adds.calls ∙ claim_other before.calls (record { core = r.core; res = made.res; call = made.call }) c (not_equal r.core.0 c (λ e. ne (sym e)));
  resources = made.adds.resources;
}

by_none : (k : ℕ) (port : PortModel) → IsOneCall k port port
by_none k port = record { own = omega arith; rooms = λ c ne. refl; claims = λ c ne. refl; resources = refl }

-- so it is with each turn
pub one_call : (plan : PlanModel) (r : Row) (before after : FifoModel) → ((res : ResId) → r.res ≡ Some res → is_global plan res.0 ≡ true → MakesCall plan r (as_port before) (as_port after)) → (IsQuiet plan r → after ≡ before) → IsOneCall r.core.0 (as_port before) (as_port after)
one_call plan r before after call quiet = by_res r.res refl
  where
    none : IsQuiet plan r → IsOneCall r.core.0 (as_port before) (as_port after)
    none q = subst (λ p. IsOneCall r.core.0 (as_port before) (as_port p)) (sym (quiet q)) (by_none r.core.0 (as_port before))

    by_res : (o : Option ResId) → r.res ≡ o → IsOneCall r.core.0 (as_port before) (as_port after)
    by_res None e = none (λ res h. absurd (none-some res (sym e ∙ h)))
    by_res (Some res) e = elim (cases_Bool (is_global plan res.0)) [
      | inl glob ↦ by_call plan r (as_port before) (as_port after) (call res e glob)
      | inr loc ↦ none (λ other h. subst (λ (g : ResId). is_global plan g.0 ≡ false) (same_Some res other (sym e ∙ h)) loc)
    ]

-- the core's own machine
pub own_goes_on : (m n : MachineModel) (r : Row) (before after : FifoModel) (can : CanGoOn m before) → n.plan ≡ m.plan → n.core ≡ m.core → n.tick ≡ m.tick + 1 → StandsAfter n (can.log ++ r ∷ []) → claim_in n.core after.calls ≡ n.phase → IsOneCall m.core (as_port before) (as_port after) → CanGoOn n after
own_goes_on m n r before after can plan core tick stands claim one = record {
  log = can.log ++ r ∷ [];
  stands = stands;
  claim = claim;
  room =
      let left = can.room in
      let own = one.own in
      let same : (as_port after).rooms n.core ≡ (as_port after).rooms m.core = ap (as_port after).rooms core in
      let ticks : n.plan.ticks ≡ m.plan.ticks = ap (λ (p : PlanModel). p.ticks) plan in
      omega (arith, left, own, same, ticks, tick);
  resources = one.resources ∙ (can.resources ∙ ap (λ (p : PlanModel). length p.resources) (sym plan));
}

-- and that of another
pub other_goes_on : (m : MachineModel) (k : ℕ) (before after : FifoModel) → m.core ≢ k → CanGoOn m before → IsOneCall k (as_port before) (as_port after) → CanGoOn m after
other_goes_on m k before after ne can one = record {
  log = can.log;
  stands = can.stands;
  claim = one.claims m.core ne ∙ can.claim;
  room = let left = can.room in let same = one.rooms m.core ne in omega (arith, left, same);
  resources = one.resources ∙ can.resources;
}

-- a machine before its first turn, over a lock of which nothing was asked yet
pub begins : (m : MachineModel) (plan : PlanModel) (port : FifoModel) → m.plan ≡ plan → m.core < plan.cores → m.phase ≡ Free → StandsAfter m [] → IsFresh plan port → CanGoOn m port
begins m plan port is within free stands fresh =
    let ticks : m.plan.ticks ≡ plan.ticks = ap (λ (p : PlanModel). p.ticks) is in
    let rooms : (as_port port).rooms m.core ≡ plan.ticks = fresh.rooms m.core ∙ ap (λ b. cond b plan.ticks 0) (lt-ltb m.core plan.cores within) in
    record {
      log = [];
      stands = stands;
      claim = ap (claim_in m.core) fresh.calls ∙ sym free;
      room = omega (arith, ticks, rooms);
      resources = fresh.resources ∙ ap (λ (p : PlanModel). length p.resources) (sym is);
    }
