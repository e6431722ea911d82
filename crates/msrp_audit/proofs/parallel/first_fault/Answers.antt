use Rattle.std.proofs.Common.{◌≡◌, ◌≤◌, ◌<◌, ◌*◌, ◌-◌, ◌∙◌}
use Rattle.msrp_plan.proofs.Common.{ℕ, length, map, ap, arith, subst, Option, List, Ok, IfOk, range_with_len}
use Rattle.msrp_plan.specs.declared.faults.Fault.{Fault}
use Rattle.std.specs.List.{AllZip}
use Rattle.rayon.specs.Numbers.{nat_range}
use Rattle.rayon.proofs.ToStd.{nat_range-All}
use Rattle.msrp_audit.specs.Inside.Pieces.{broken_in, earliest_of, piece_with, pieces_of, TellsFirst}
use Rattle.msrp_audit.proofs.Merging.{all_ok, first_is, matched, opened}
use Rattle.msrp_audit.proofs.parallel.first_fault.Goals as goal

pub collect-faults-requires-clause-ready : goal.collect-faults-requires-clause-ready
collect-faults-requires-clause-ready g c =
    let ends = c.into_par_iter.ensures in
    let size = c.pieces.ensures.number in
    let inside = nat_range-All (λ i. (i < pieces_of c.args.plan.now) × (c.args.levels.now ≡ c.args.plan.now) × (length c.args.rows.now ≤ c.args.plan.now.cores * c.args.plan.now.ticks)) 0 c.pieces.result (λ i low high. (omega (arith, high, size), c.requires.levels, c.requires.rows)) in
    rw (c.map.ensures.base, c.map.ensures.f, c.with_min_len.ensures.base, ends.0, ends.1) (λ κs h k d lt. (inside k d lt, λ y p. tt))

pub returns-in-Ok-Ok : goal.returns-in-Ok-Ok
returns-in-Ok-Ok g c =
    let plan = c.args.plan.now in
    let rows = c.args.rows.now in
    let ends = c.into_par_iter.ensures in
    let size = c.pieces.ensures.number in
    let whole : c.pieces.result - 0 ≡ pieces_of plan = omega (arith, size) in
    let got = opened _ c.collect-faults.result _ c.in-Ok-Ok.is c.collect-faults.ensures in
    let chain = got.1 in
    let numbers = chain.1 ∙ (ap (λ it. nat_range it.base.start it.base.end) c.map.ensures.base ∙ (ap (λ it. nat_range it.start it.end) c.with_min_len.ensures.base ∙ ((λ i. nat_range (ends.0 i) (ends.1 i)) ∙ ap (range_with_len 0) whole))) in
    let Tells = λ (n : ℕ) (o : Option Fault). TellsFirst plan (broken_in plan (piece_with plan n)) rows o in
    let told = subst (λ f. AllZip (λ (n : ℕ) r. IfOk r (TellsFirst f.1.now (broken_in f.1.now (piece_with f.1.now n)) f.3.now)) chain.0 got.0) c.map.ensures.f chain.2 in
    let items : (ys : List (Option Fault)) × (got.0 ≡ map Ok ys) × (c.in-Ok-Ok.found.items ≡ ys) = matched _ _ c.in-Ok-Ok.field-0 c.in-Ok-Ok.found c.in-Ok-Ok.field-0-is got.2 in
    let zipped = all_ok Tells (range_with_len 0 (pieces_of plan)) got.0 items.0 items.1 (subst (λ ns. AllZip (λ n r. IfOk r (Tells n)) ns got.0) numbers told) in
    c.earliest.ensures ∙ (ap earliest_of (c.deref.ensures.value ∙ items.2) ∙ first_is plan rows items.0 c.pieces.ensures.accepted c.requires.rows zipped)
