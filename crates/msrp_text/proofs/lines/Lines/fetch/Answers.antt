use Rattle.std.proofs.Common.{◌≡◌, ◌+◌, ◌-◌, ◌∙◌}
use Rattle.msrp_plan.proofs.Common.{[], take, refl, sym, ap, append-nil, arith, nat_tests}
use Rattle.msrp_text.specs.declared.lines.TheConstants.{ROOM}
use Rattle.msrp_text.proofs.AheadBytes.{before-kept, before-same, filled-behind, kept-behind, moved-ahead, read-ahead}
use Rattle.msrp_text.proofs.lines.Lines.fetch.Goals as goal

pub returns-in-Ok-clause-kept : goal.returns-in-Ok-clause-kept
returns-in-Ok-clause-kept g c =
    let old = c.args.self.now in
    let front = c.min-front.result in
    let start = old.at - front in
    let place : start + front ≡ old.at = omega (arith, c.min-front.ensures) in
    read-ahead _ _ _ _ _ c.in-Ok.ensures.bytes.0
    (filled-behind old.buffer c.copy_within.new.self c.read.new.buf old.at old.end front start (ROOM - (old.end - start)) c.in-Ok.more place old.order old.within c.copy_within.ensures.after c.in-Ok.ensures.bound.0)

pub returns-in-Ok-clause-before : goal.returns-in-Ok-clause-before
returns-in-Ok-clause-before g c =
    let old = c.args.self.now in
    let front = c.min-front.result in
    let start = old.at - front in
    let place : start + front ≡ old.at = omega (arith, c.min-front.ensures) in
    before-same old.begun _ _ (λ begun. before-kept old.buffer c.copy_within.new.self c.read.new.buf old.at old.end front start (ROOM - (old.end - start)) (omega (arith, c.min-front.ensures, old.front begun)) place old.order old.within c.copy_within.ensures.after)

pub returns-in-Ok-clause-grows : goal.returns-in-Ok-clause-grows
returns-in-Ok-clause-grows g c =
    let old = c.args.self.now in
    let front = c.min-front.result in
    let start = old.at - front in
    let place : start + front ≡ old.at = omega (arith, c.min-front.ensures) in (
      take c.in-Ok.more c.read.new.buf,
      filled-behind old.buffer c.copy_within.new.self c.read.new.buf old.at old.end front start (ROOM - (old.end - start)) c.in-Ok.more place old.order old.within c.copy_within.ensures.after c.in-Ok.ensures.bound.0,
      λ e. let none : c.in-Ok.more ≡ 0 = grind (arith, nat_tests, e) in ap (λ n. take n c.read.new.buf) none,
    )

pub returns-in-Err-clause-kept : goal.returns-in-Err-clause-kept
returns-in-Err-clause-kept g c =
    let old = c.args.self.now in
    let front = c.min-front.result in
    let start = old.at - front in
    let place : start + front ≡ old.at = omega (arith, c.min-front.ensures) in
    moved-ahead _ _ _ _ c.in-Err.ensures.bytes
    (kept-behind old.buffer c.copy_within.new.self c.read.new.buf old.at old.end front start (ROOM - (old.end - start)) place old.order old.within c.copy_within.ensures.after)

pub returns-in-Err-clause-before : goal.returns-in-Err-clause-before
returns-in-Err-clause-before g c =
    let old = c.args.self.now in
    let front = c.min-front.result in
    let start = old.at - front in
    let place : start + front ≡ old.at = omega (arith, c.min-front.ensures) in
    before-same old.begun _ _ (λ begun. before-kept old.buffer c.copy_within.new.self c.read.new.buf old.at old.end front start (ROOM - (old.end - start)) (omega (arith, c.min-front.ensures, old.front begun)) place old.order old.within c.copy_within.ensures.after)

pub returns-in-Err-clause-grows : goal.returns-in-Err-clause-grows
returns-in-Err-clause-grows g c =
    let old = c.args.self.now in
    let front = c.min-front.result in
    let start = old.at - front in
    let place : start + front ≡ old.at = omega (arith, c.min-front.ensures) in
    ([], kept-behind old.buffer c.copy_within.new.self c.read.new.buf old.at old.end front start (ROOM - (old.end - start)) place old.order old.within c.copy_within.ensures.after ∙ sym (append-nil _), λ e. refl)
