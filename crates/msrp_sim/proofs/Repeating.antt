-- A core's turn that is known from its last one, and what a turn leaves known.
use Rattle.std.proofs.Common.{◌≡◌, ◌<◌, ◌∙◌}
use Rattle.msrp_plan.proofs.Common.{ℕ, Bool, true, false, cond, Option, Some, None, IfSome, IfNone, set, slice_get, slice_set, refl, ap, sym, subst, set-get_or, get_or_from_slice_get, none-some, in_tick}
use Rattle.msrp_plan.specs.declared.rows.Row.{Row}
use Rattle.msrp_core.specs.Machine.{MachineModel, next_known}
use Rattle.msrp_sim.specs.Cores.{CoresModel, AreCores, MakesTurn, TakesTurn, Leaves, MakesNext, StandOn, again_of, known_row}
use Rattle.msrp_sim.specs.TurnPorts.{HasRepeated, is_granted, unless_granted}
use Rattle.msrp_sim.specs.declared.tickets.Queues.{Queues}
use Rattle.msrp_sim.proofs.Keeping.{cores_kept}
use Rattle.msrp_sim.proofs.Serving.{notes_poll}
use Rattle.msrp_sim.proofs.Standing.{get_set_same, get_set_other, stand_push}
use Rattle.msrp_sim.proofs.Turns.{next_legal}

-- ---- what a turn leaves known
in_own_tick : (o : Option Row) (t : ℕ) (r : Row) → IfSome o (λ next. next ≡ in_tick t r) → IfSome o (λ next. next ≡ in_tick next.tick r)
in_own_tick None t r h = tt
in_own_tick (Some next) t r h = let e : next.tick ≡ t = ap (λ (x : Row). x.tick) h in subst (λ k. next ≡ in_tick k r) (sym e) h

module _ (old new : CoresModel) (c : ℕ) (r : Row) (cores : AreCores old) (t : TakesTurn old new c r) where
  pub at_core : r.core.0 ≡ c
  at_core = let its = cores.each c t.made.before t.made.has in (t.made.turned.row its.log its.stands).core ∙ its.core

  own_next : known_row new c ≡ next_known t.made.after
  own_next = ap again_of (ap (λ ms. slice_get ms c) t.machines ∙ get_set_same old.machines c t.made.before t.made.after t.made.has)

  pub leaves : Leaves old new r
  leaves = record {
    own = subst (λ o. IfSome o (λ next. next ≡ in_tick next.tick r)) (sym (ap (known_row new) at_core ∙ own_next)) (in_own_tick (next_known t.made.after) t.made.after.tick r t.made.turned.again);
    others = λ d ne. ap again_of (ap (λ ms. slice_get ms d) t.machines ∙ get_set_other old.machines c d t.made.after (λ e. ne (e ∙ sym at_core)));
  }

-- what is made again is what is known
pub known_by : (q : Queues) (c : ℕ) (o : Option Row) (r : Row) → unless_granted q c o ≡ Some r → o ≡ Some r
known_by q c None r e = absurd (none-some r e)
known_by q c (Some s) r e = by_flag (is_granted q c s.res s.kind) e
  where
    by_flag : (b : Bool) → cond b None (Some s) ≡ Some r → Some s ≡ Some r
    by_flag true e = absurd (none-some r e)
    by_flag false e = e

pub known_if : (q : Queues) (c : ℕ) (o known : Option Row) → o ≡ unless_granted q c known → IfSome o (λ due. known ≡ Some due)
known_if q c None known e = tt
known_if q c (Some r) known e = known_by q c known r (sym e)

-- ---- a machine that makes its last row again, if it is known that it does
-- the cores then
abbrev pub with_machine : CoresModel → ℕ → MachineModel → CoresModel
with_machine m c y = record { plan = m.plan; machines = slice_set m.machines c y; queues = m.queues }

abbrev makes : (m : CoresModel) (c : ℕ) (x y : MachineModel) (r : Row) → slice_get m.machines c ≡ Some x → HasRepeated m.queues x y r → MakesTurn m c r
makes m c x y r has t = record { before = x; after = y; call = t.call; has = has; turned = t.turned }

abbrev takes : (m : CoresModel) (c : ℕ) (x y : MachineModel) (r : Row) → slice_get m.machines c ≡ Some x → HasRepeated m.queues x y r → TakesTurn m (with_machine m c y) c r
takes m c x y r has t = record { plan = refl; made = makes m c x y r has t; machines = refl; same = λ _. refl; noted = λ e h. notes_poll e false m.queues (t.vain e h) }

-- nothing changes where the machine doesn't
same_cores : (m : CoresModel) (c : ℕ) (x y : MachineModel) → slice_get m.machines c ≡ Some x → y ≡ x → with_machine m c y ≡ m
same_cores m c x y has e =
    let same : set m.machines c y ≡ m.machines = subst (λ z. set m.machines c z ≡ m.machines) (get_or_from_slice_get m.machines c x x has ∙ sym e) (set-get_or m.machines c x) in
    ap (λ ms. record { plan = m.plan; machines = ms; queues = m.queues }) same

pub none_if : (m : CoresModel) (c : ℕ) (x y : MachineModel) (o : Option Row) → slice_get m.machines c ≡ Some x → IfNone o (y ≡ x) → IfNone o (with_machine m c y ≡ m)
none_if m c x y None has t = same_cores m c x y has t
none_if m c x y (Some r) has t = tt

pub kept_if : (m : CoresModel) (c : ℕ) (x y : MachineModel) (o : Option Row) → AreCores m → slice_get m.machines c ≡ Some x → x.tick < m.plan.ticks → IfNone o (y ≡ x) → IfSome o (HasRepeated m.queues x y) → AreCores (with_machine m c y)
kept_if m c x y None cores has left none t = subst AreCores (sym (same_cores m c x y has none)) cores
kept_if m c x y (Some r) cores has left none t = cores_kept m (with_machine m c y) c r cores (takes m c x y r has t) left

pub core_if : (m : CoresModel) (c : ℕ) (x y : MachineModel) (o : Option Row) → AreCores m → slice_get m.machines c ≡ Some x → IfSome o (HasRepeated m.queues x y) → IfSome o (λ due. due.core.0 ≡ c)
core_if m c x y None cores has t = tt
core_if m c x y (Some r) cores has t = at_core m (with_machine m c y) c r cores (takes m c x y r has t)

pub leaves_if : (m : CoresModel) (c : ℕ) (x y : MachineModel) (o : Option Row) → AreCores m → slice_get m.machines c ≡ Some x → IfSome o (HasRepeated m.queues x y) → IfSome o (Leaves m (with_machine m c y))
leaves_if m c x y None cores has t = tt
leaves_if m c x y (Some r) cores has t = leaves m (with_machine m c y) c r cores (takes m c x y r has t)

pub next_if : (m : CoresModel) (c : ℕ) (x y : MachineModel) (o : Option Row) → AreCores m → slice_get m.machines c ≡ Some x → IfSome o (HasRepeated m.queues x y)
    → IfSome o (MakesNext m c)
next_if m c x y None cores has t = tt
next_if m c x y (Some r) cores has t = λ rows stands due. next_legal m c r rows cores stands due (makes m c x y r has t)

pub stand_if : (m : CoresModel) (c : ℕ) (x y : MachineModel) (o : Option Row) → AreCores m → slice_get m.machines c ≡ Some x → IfSome o (HasRepeated m.queues x y)
    → IfSome o (StandOn m (with_machine m c y) c)
stand_if m c x y None cores has t = tt
stand_if m c x y (Some r) cores has t = λ rows row stands due like legal. stand_push m (with_machine m c y) c r row rows cores stands due (takes m c x y r has t) like legal
