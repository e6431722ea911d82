use Rattle.std.proofs.Common.{◌+◌, ◌≡◌, ◌∷◌, ◌∙◌}
use Rattle.msrp_plan.proofs.Common.{None, refl, sym, subst, arith, common_steps, ℕ, List, [], Some, length, length-append, ap, places_push, slice_get}
use Rattle.msrp_why.proofs.Common.{AreResourceCounts, IsNoted, ResourceNotes}
use Rattle.msrp_why.proofs.notes.resources_of.Goals as goal

pub loop-res-preserved : goal.loop-res-preserved
loop-res-preserved c =
    let items = c.loop-res.resources.items in
    let was = c.loop-res.invariant.0 in
    let one : ResourceNotes = record { queue = c.new.result; last = None; counts = c.default.result } in
    let zero = c.default.ensures in
    let counts : AreResourceCounts [] (length items) c.default.result = record { free = zero.0; joined = zero.1.0; at_once = zero.1.1.0; later = zero.1.1.1.0; longest = zero.1.1.1.1 } in (
      subst (λ (xs : List ResourceNotes). (length xs ≡ c.loop-res._res + 1) × ((g : ℕ) (n : ResourceNotes) → slice_get xs g ≡ Some n → IsNoted [] g n)) (sym c.push_reserved.ensures.items)
          (length-append items (one ∷ []) ∙ ap (λ k. k + 1) was.0, places_push (IsNoted []) items one was.1 (record { queue = c.new.ensures; last = refl; counts = counts })),
      grind (arith, common_steps, c.loop-res.invariant.1, c.push_reserved.ensures.capacity),
    )

pub returns : goal.returns
returns c =
    let i = c.loop-res.invariant.0 in
    record { size = omega (arith, i.0, c.loop-res-test.false, c.loop-res.auto._res-end, c.resources-count.ensures.value); each = i.1 }
