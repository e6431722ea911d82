use Rattle.std.proofs.Common.{◌≡◌, ◌*◌, ◌+◌, ◌<◌, ◌∙◌}
use Rattle.msrp_plan.proofs.Common.{min, length, take, refl, ap, sym, arith, length-set, length-take-le}
use Rattle.msrp_audit.specs.Inside.Pieces.{part_size}
use Rattle.msrp_audit.proofs.Parts.{part_begins, part_ends, turn_passes, turn_found}
use Rattle.msrp_audit.proofs.Turned.{next_at, next_more}
use Rattle.msrp_audit.proofs.turns.judge_turns.Goals as goal

pub loop-index-init : goal.loop-index-init
loop-index-init c =
    let plan = c.args.plan.now in
    let start : c.args.part * (c.cores.result * 1250) ≡ c.args.part * part_size plan = ap (λ n. c.args.part * (n * 1250)) c.cores.ensures.value in
    record {
      size = refl;
      next = next_at plan c.args.rows.now c.args.part c.cores.result _ c.cores.ensures.plan c.cores.ensures.value refl;
      passes = part_begins plan c.args.part c.args.rows.now _ start;
    }

pub loop-index-preserved : goal.loop-index-preserved
loop-index-preserved c =
    let plan = c.args.plan.now in
    let rows = c.args.rows.now in
    let i = c.loop-index.index in
    let x = c.row-row.result in
    let v = c.loop-index.invariant in
    let test = c.loop-index-test.true in
    let end = c.min-end.ensures in
    let all = c.len.ensures in
    let within : i < length rows = omega (arith, test, end, all) in
    record {
      size = length-set c.loop-index.next x.core.0 (x.tick + 1) ∙ v.size;
      next = λ low. next_more plan c.loop-index.next rows i x c.cores.ensures.plan v.size (c.is_in_turn.ensures.core c.if-not-is_in_turn.false) within (c.row-row.ensures c.row-row.result) (v.next (omega (arith, within)));
      passes = turn_passes plan c.args.part rows i x c.is_in_turn.result v.passes (c.row-row.ensures c.row-row.result) (λ start. c.is_in_turn.ensures.turn (take i rows) (sym (length-take-le i rows (omega (arith, within)))) start (v.next (omega (arith, within)) start)) c.if-not-is_in_turn.false;
    }

pub returns-then-not-is_in_turn : goal.returns-then-not-is_in_turn
returns-then-not-is_in_turn c =
    let plan = c.args.plan.now in
    let rows = c.args.rows.now in
    let i = c.loop-index.index in
    let v = c.loop-index.invariant in
    let start : c.args.part * (c.cores.result * 1250) ≡ c.args.part * part_size plan = ap (λ n. c.args.part * (n * 1250)) c.cores.ensures.value in
    let size : c.cores.result * 1250 ≡ part_size plan = ap (λ n. n * 1250) c.cores.ensures.value in
    let low = c.loop-index.auto.index in
    let test = c.loop-index-test.true in
    let end = c.min-end.ensures in
    let all = c.len.ensures in
    let within : i < length rows = omega (arith, test, end, all) in
    turn_found plan c.args.part rows i c.row-row.result c.is_in_turn.result within (omega (arith, low, start)) (omega (arith, test, end, start, size)) v.passes (c.row-row.ensures c.row-row.result)
    (λ before. c.is_in_turn.ensures.turn (take i rows) (sym (length-take-le i rows (omega (arith, within)))) before (v.next (omega (arith, within)) before)) c.if-not-is_in_turn.true

pub returns : goal.returns
returns c =
    let plan = c.args.plan.now in
    let past = c.loop-index-test.false in
    part_ends plan c.args.part c.args.rows.now c.loop-index.index c.min-end.result (c.min-end.ensures ∙ (ap (λ n. min n (c.args.part * (c.cores.result * 1250) + c.cores.result * 1250)) c.len.ensures ∙ ap (λ n. min (length c.args.rows.now) (c.args.part * (n * 1250) + n * 1250)) c.cores.ensures.value)) (omega (arith, past)) c.loop-index.invariant.passes
