-- The cores after a turn are cores of the plan again.
use Rattle.std.proofs.Common.{◌≡◌, ◌≢◌, ◌+◌, ◌*◌, ◌<◌, ◌≤◌, ◌==◌, ◌∷◌, ◌++◌, ◌∙◌}
use Rattle.msrp_plan.proofs.Common.{ℕ, suc, Bool, true, false, [], List, Option, Some, None, ap, sym, subst, arith, refl, length, eqb-true, slice_get, inl, inr, sum_by, true≢false, mul-le-mul_left, mul-le-mul_right, cases_Bool, cases_lt, eqb-false, sum_by-cons, sum_by-set, none-some, same_Some, slice_get_within, get_or_from_slice_get, PlanModel, is_global, IsPlan, undeclared_local}
use Rattle.msrp_plan.specs.declared.ids.ResId.{ResId}
use Rattle.msrp_plan.specs.declared.rows.Row.{Row}
use Rattle.std.proofs.Math.ListN.{length-set}
use Rattle.msrp_plan.specs.Limits.{most_cores, most_resources, most_rows}
use Rattle.msrp_core.specs.Ports.{IsQuiet}
use Rattle.msrp_core.specs.Machine.{MachineModel}
use Rattle.msrp_core.specs.declared.port.PortCall.{PortCall}
use Rattle.msrp_sim.specs.Cores.{CoresModel, IsMachineOf, AreCores, IsSomeTurn, TakesTurn}
use Rattle.msrp_sim.specs.Serving.{AreDrawn}
use Rattle.msrp_sim.specs.TurnPorts.{HasTurned, MakesCallOf}
use Rattle.msrp_sim.specs.declared.tickets.Queues.{Queues}
use Rattle.msrp_sim.proofs.Serving.{drawn_more}
use Rattle.msrp_sim.proofs.Standing.{get_set_same, get_set_other}
use Rattle.msrp_sim.proofs.Turns.{carries, few_ahead, turn_after}

abbrev pub ticks_of : List MachineModel → ℕ
ticks_of machines = sum_by (λ x. x.tick) machines

-- no more ticks were had than the plan has, and no more rows made
ticks_within : (plan : PlanModel) (machines : List MachineModel) → ((c : ℕ) (x : MachineModel) → slice_get machines c ≡ Some x → x.tick ≤ plan.ticks) → ticks_of machines ≤ length machines * plan.ticks
ticks_within plan [] each = omega arith
ticks_within plan (x ∷ machines) each =
    let one = each 0 x refl in
    let rest = ticks_within plan machines (λ c y h. each (suc c) y h) in
    let all = sum_by-cons (λ (y : MachineModel). y.tick) x machines in
    omega (arith, one, rest, all)

few : (all cores ticks : ℕ) → all ≤ cores * ticks → cores ≤ 8 → ticks ≤ 20000 → all ≤ 160000
few all cores ticks h a b = let x = mul-le-mul_right ticks a in let y = mul-le-mul_left 8 b in omega (arith, h, x, y)

pub few_drawn : (m : CoresModel) → AreCores m → AreDrawn m.queues most_rows
few_drawn m cores g =
    let p = cores.accepted.draft in
    let all : ticks_of m.machines ≤ m.plan.cores * m.plan.ticks = subst (λ n. ticks_of m.machines ≤ n * m.plan.ticks) cores.size (ticks_within m.plan m.machines (λ c x has. (cores.each c x has).left)) in
    let most = few (ticks_of m.machines) m.plan.cores m.plan.ticks all p.cores.1 p.ticks.1 in
    let d = cores.drawn g in
    (omega (arith, d.0, most), omega (arith, d.1, most))

-- ---- the call of a turn
called : (q : Queues) (x y : MachineModel) (r : Row) (made : Option PortCall) → HasTurned q x y r made → (e : PortCall) → made ≡ Some e → MakesCallOf q x y r made
called q x y r made turned e is = by_res r.res refl
  where
    quiet : IsQuiet x.plan r → MakesCallOf q x y r made
    quiet none = absurd (none-some e (sym (turned.quiet none).0 ∙ is))

    by_res : (o : Option ResId) → r.res ≡ o → MakesCallOf q x y r made
    by_res None at = quiet (λ res h. absurd (none-some res (sym at ∙ h)))
    by_res (Some res) at = elim (cases_Bool (is_global x.plan res.0)) [
      | inl glob ↦ turned.call res at glob
      | inr loc ↦ quiet (λ other h. subst (λ (k : ResId). is_global x.plan k.0 ≡ false) (same_Some res other (sym at ∙ h)) loc)
    ]

-- it is of the core, and of one of the plan's resources
pub call_core : (m : CoresModel) (c : ℕ) (x y : MachineModel) (r : Row) (made : Option PortCall) → AreCores m → slice_get m.machines c ≡ Some x → HasTurned m.queues x y r made → (e : PortCall) → made ≡ Some e → e.core.0 < most_cores
call_core m c x y r made cores has turned e is =
    let its = cores.each c x has in
    let mc = called m.queues x y r made turned e is in
    let a : e.core.0 ≡ r.core.0 = ap (λ (k : PortCall). k.core.0) (same_Some e _ (sym is ∙ mc.is)) in
    let b : r.core.0 ≡ c = (turned.row its.log its.stands).core ∙ its.core in
    let low = slice_get_within m.machines c x has in
    let size = cores.size in
    let most = cores.accepted.draft.cores.1 in
    omega (arith, a, b, low, size, most)

pub call_resource : (m : CoresModel) (c : ℕ) (x y : MachineModel) (r : Row) (made : Option PortCall) → AreCores m → slice_get m.machines c ≡ Some x → HasTurned m.queues x y r made → (e : PortCall) → made ≡ Some e → e.res.0 < most_resources
call_resource m c x y r made cores has turned e is =
    let mc = called m.queues x y r made turned e is in
    let a : e.res.0 ≡ mc.res.0 = ap (λ (k : PortCall). k.res.0) (same_Some e _ (sym is ∙ mc.is)) in
    let glob : is_global m.plan mc.res.0 ≡ true = ap (λ p. is_global p mc.res.0) (sym (cores.each c x has).same_plan) ∙ mc.global in
    let most = cores.accepted.draft.resources in
    elim (cases_lt mc.res.0 (length m.plan.resources)) [
      | inl low ↦ omega (arith, a, low, most)
      | inr past ↦ absurd (true≢false (sym glob ∙ undeclared_local m.plan mc.res.0 cores.accepted.draft past))
    ]

-- ---- all cores
module _ (old new : CoresModel) (c : ℕ) (r : Row) (cores : AreCores old) (t : TakesTurn old new c r) (left : t.made.before.tick < old.plan.ticks) where
  its : IsMachineOf old.plan c t.made.before
  its = cores.each c t.made.before t.made.has

  -- the machine that had the turn
  own_machine : IsMachineOf new.plan c t.made.after
  own_machine = record {
    same_plan = t.made.turned.plan ∙ (its.same_plan ∙ sym t.plan);
    core = t.made.turned.core ∙ its.core;
    log = its.log ++ r ∷ [];
    stands = t.made.turned.stands its.log its.stands;
    left = let d = t.made.turned.tick in let e : new.plan.ticks ≡ old.plan.ticks = ap (λ (p : PlanModel). p.ticks) t.plan in omega (arith, d, e, left);
  }

  -- and the row of the turn
  pub some_turn : IsSomeTurn old.plan c r
  some_turn =
      let turn = turn_after old c r cores t.made its.log its.stands in
      let a = turn.tick in
      let b = its.stands.tick in
      record { log = its.log; turn = turn; left = omega (arith, a, b, left); ahead = few_ahead old c r cores t.made most_rows (few_drawn old cores); carries = carries old c r cores t.made }

  -- another
  some_machine : (d : ℕ) (y : MachineModel) → slice_get new.machines d ≡ Some y → (b : Bool) → (d == c) ≡ b → IsMachineOf new.plan d y
  some_machine d y has true e =
      let at : d ≡ c = eqb-true d c e in
      let own : slice_get new.machines c ≡ Some t.made.after = ap (λ ms. slice_get ms c) t.machines ∙ get_set_same old.machines c t.made.before t.made.after t.made.has in
      let is : y ≡ t.made.after = same_Some y t.made.after (sym has ∙ (ap (slice_get new.machines) at ∙ own)) in
      subst (λ n. IsMachineOf new.plan n y) (sym at) (subst (IsMachineOf new.plan c) (sym is) own_machine)
  some_machine d y has false e =
      let ne : d ≢ c = eqb-false d c e in
      let other : slice_get new.machines d ≡ slice_get old.machines d = ap (λ ms. slice_get ms d) t.machines ∙ get_set_other old.machines c d t.made.after ne in
      subst (λ p. IsMachineOf p d y) (sym t.plan) (cores.each d y (sym other ∙ has))

  -- one tick more was had, and at most one ticket drawn
  one_tick : ticks_of new.machines ≡ ticks_of old.machines + 1
  one_tick =
      let within = slice_get_within old.machines c t.made.before t.made.has in
      let a = sum_by-set (λ (x : MachineModel). x.tick) old.machines c t.made.after t.made.before within in
      let b = ap (λ (x : MachineModel). x.tick) (get_or_from_slice_get old.machines c t.made.before t.made.before t.made.has) in
      let d = t.made.turned.tick in
      let e = ap ticks_of t.machines in
      omega (arith, a, b, d, e)

  drawn_by : (o : Option PortCall) → t.made.call ≡ o → AreDrawn new.queues (ticks_of old.machines + 1)
  drawn_by None e = subst (λ q. AreDrawn q (ticks_of old.machines + 1)) (sym (t.same e)) (drawn_more old.queues (ticks_of old.machines) cores.drawn)
  drawn_by (Some made) e = (t.noted made e).drawn (ticks_of old.machines) cores.drawn

  -- so are all of them
  pub cores_kept : AreCores new
  cores_kept = record {
    accepted = subst IsPlan (sym t.plan) cores.accepted;
    size = ap length t.machines ∙ (length-set old.machines c t.made.after ∙ (cores.size ∙ ap (λ (p : PlanModel). p.cores) (sym t.plan)));
    each = λ d y has. some_machine d y has (d == c) refl;
    drawn = subst (AreDrawn new.queues) (sym one_tick) (drawn_by t.made.call refl);
  }
