use Rattle.std.proofs.Common.{◌≡◌, ◌∙◌, ◌++◌, ◌+◌, ◌-◌}
use Rattle.msrp_plan.proofs.Common.{append_assoc, arith, ap, drop, length, subst, sym, take, take-append-drop, take_all}
use Rattle.std.proofs.lemmas.List.{length-drop}
use Rattle.msrp_trace.proofs.Records.{laid}
use Rattle.msrp_trace.proofs.text.lay_text.Goals as goal

pub returns-then-text-gt-SHORT-clause-front : goal.returns-then-text-gt-SHORT-clause-front
returns-then-text-gt-SHORT-clause-front g c =
    let room = c.requires in
    let size = c.text.told in
    let fits = c.text.invariant in
    let long = c.if-this-gt-SHORT.true in
    let bytes = c.text.inside.bytes in
    let place = c.args.place in
    let old = c.args.array.now in
    let rest = length-drop 48 bytes in
    let all = take_all (length bytes - 48) (drop 48 bytes) (omega (arith, rest)) in
    let second = subst (λ t. take ((place + 48) + length t) c.lay.new.array ≡ take (place + 48) c.lay_short.new.array ++ t) all c.lay.ensures.front in
    let end : place + length bytes ≡ (place + 48) + length (drop 48 bytes) = omega (arith, rest, size, long) in
    let front = ap (λ k. take k c.lay.new.array) end ∙ (second ∙ (ap (λ t. t ++ drop 48 bytes) c.lay_short.ensures.front ∙ (append_assoc (take place old) (take 48 bytes) (drop 48 bytes) ∙ ap (λ t. take place old ++ t) (take-append-drop 48 bytes ∙ sym (take_all (length bytes) bytes (omega arith)))))) in
    laid place (length bytes) c.text.inside.len old c.lay.new.array bytes c.args.text.now (omega (arith, room)) (omega (arith, fits, size)) (omega arith) front c.text.view_is

pub returns-else-text-gt-SHORT-clause-front : goal.returns-else-text-gt-SHORT-clause-front
returns-else-text-gt-SHORT-clause-front g c =
    let room = c.requires in
    let size = c.text.told in
    let short = c.if-text-gt-SHORT.false in
    let long = c.if-this-gt-SHORT.true in
    laid c.args.place 48 c.text.inside.len c.args.array.now c.lay_short.new.array c.text.inside.bytes c.args.text.now (omega (arith, room)) (omega (arith, short)) (omega (arith, size, long)) c.lay_short.ensures.front c.text.view_is

pub returns-else-this-gt-SHORT-clause-front : goal.returns-else-this-gt-SHORT-clause-front
returns-else-this-gt-SHORT-clause-front g c =
    let room = c.requires in
    let size = c.text.told in
    let fits = c.text.invariant in
    let bytes = c.text.inside.bytes in
    let front = c.lay-else-this-gt-SHORT.ensures.front ∙ ap (λ t. take c.args.place c.args.array.now ++ t) (sym (take_all (length bytes) bytes (omega arith))) in
    laid c.args.place (length bytes) c.text.inside.len c.args.array.now c.lay-else-this-gt-SHORT.new.array bytes c.args.text.now (omega (arith, room)) (omega (arith, fits, size)) (omega arith) front c.text.view_is
