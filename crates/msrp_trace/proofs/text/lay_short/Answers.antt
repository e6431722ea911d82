use Rattle.std.proofs.Common.{◌+◌, ◌++◌, ◌∙◌}
use Rattle.msrp_plan.proofs.Common.{append_assoc, ap, sym, arith, take}
use Rattle.std.proofs.Math.Seq.{take-add}
use Rattle.std.proofs.lemmas.Simd.{length-chunk, length-put_chunk, take_more_put_chunk}
use Rattle.std.specs.Simd.Lanes.{chunk, put_chunk}
use Rattle.msrp_trace.proofs.text.lay_short.Goals as goal

pub returns-clause-front : goal.returns-clause-front
returns-clause-front c =
    let bytes = c.args.bytes.now in
    let old = c.args.array.now in
    let place = c.args.place in
    let some = c.requires.some in
    let room = c.requires.room in
    let low = chunk 0 32 bytes in
    let high = chunk 32 16 bytes in
    let laid = put_chunk place old low in
    let size = length-put_chunk place old low in
    let few = length-chunk 0 32 bytes (omega (arith, some)) in
    let more = length-chunk 32 16 bytes (omega (arith, some)) in
    let first = take_more_put_chunk place old low (place + 32) (omega (arith, few)) (omega (arith, room)) in
    let second = take_more_put_chunk (place + 32) laid high (place + 48) (omega (arith, more)) (omega (arith, size, room)) in
    second ∙ (ap (λ l. l ++ high) first ∙ (append_assoc (take place old) low high ∙ ap (λ l. take place old ++ l) (sym (take-add 32 16 bytes))))
