use Rattle.msrp_plan.specs.Common.{List, length, slice_get, take}
use Rattle.msrp_plan.specs.declared.units.Op.{Op}
use Rattle.std.proofs.Common.{◌≡◌, ◌+◌, ◌||◌, ◌&&◌, ◌==◌, ◌∙◌, ap, subst, sym, arith}
use Rattle.std.proofs.lemmas.List.{take_all}
use Rattle.std.proofs.lemmas.Option.{get_or_from_slice_get, slice_get_within}
use Rattle.msrp_plan.specs.Inside.Users.{EachIsOn}
use Rattle.msrp_plan.specs.declared.units.Op.TheVariants.{Run}
use Rattle.msrp_plan.proofs.Levels.CoreUsers.{each_same, lock_more, other_more, with_units}
use Rattle.msrp_plan.proofs.users.add_task.Goals as goal
use Rattle.msrp_plan.proofs.users.add_task.Goals.{in-Lock, in_default}

pub loop-place-preserved : goal.loop-place-preserved
loop-place-preserved c = λ on h.
    let us = c.args.task.now.units.items in
    let i = c.loop-place.place in
    let core = c.args.task.now.core.0 in
    let before = with_units on (take i us) core in
    let after = with_units on (take (i + 1) us) core in
    let read = ap (λ l. slice_get l i) (sym c.lent_units-units.ensures) ∙ c.unit.ensures in
    let low = slice_get_within us i c.unit.result read in
    let at = get_or_from_slice_get us i c.unit.result Run read in
    elim c.match-unit.branch [
      | in-Lock w ↦ subst (EachIsOn after) (sym w.users-is)
          (each_same (λ g k. before g k || ((w.in-Lock.res.0 == g) && (core == k))) after (lock_more on us i core Run w.in-Lock.res low (at ∙ w.in-Lock.is))
          w.add_user.new.users (w.add_user.ensures before (c.loop-place.invariant on h)))
      | in_default w ↦ subst (EachIsOn after) (sym w.users-is)
          (each_same before after (other_more on us i core Run low (λ r is. w.in_default.not-Lock r (sym at ∙ is))) c.loop-place.users (c.loop-place.invariant on h))
    ]

pub returns : goal.returns
returns c = λ on h.
    let us = c.args.task.now.units.items in
    let i = c.loop-place.place in
    let size = c.len-place-end.ensures in
    let same = ap length c.lent_units-units.ensures in
    let all : take i us ≡ us = take_all i us (omega (arith, c.loop-place-test.false, size, same)) in
    subst (λ (units : List Op). EachIsOn (with_units on units c.args.task.now.core.0) c.loop-place.users) all (c.loop-place.invariant on h)
