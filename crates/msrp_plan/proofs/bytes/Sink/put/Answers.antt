use Rattle.msrp_plan.specs.Common.{length}
use Rattle.std.proofs.Common.{◌≤◌, ◌+◌, ◌-◌, ◌∙◌, arith, rules}
use Rattle.std.proofs.KnownBytes.{Appends-nil}
use Rattle.msrp_plan.proofs.Writes.{appends-part, appends-next, appends-whole, rest-fits, take-rest}
use Rattle.msrp_plan.proofs.bytes.Sink.put.Goals as goal

pub loop-at-init : goal.loop-at-init
loop-at-init g c = (search rules, search rules, Appends-nil _)

pub loop-at-preserved : goal.loop-at-preserved
loop-at-preserved g c =
    let inv = c.loop-at.invariant in
    let e = c.put_some-count.ensures in
    let fits : c.put_some-count.result ≤ length c.args.text.now - c.loop-at.at = rest-fits _ _ _ e.bound in
    (omega arith, e.same ∙ inv.1, appends-next _ _ _ c.loop-at.at _ c.args.text.now inv.2 (rw (take-rest c.loop-at.at c.args.text.now) at e.bytes))

pub returns-then-count-eq0-clause-part : goal.returns-then-count-eq0-clause-part
returns-then-count-eq0-clause-part g c =
    let inv = c.loop-at.invariant in
    let e = c.put_some-count.ensures in
    appends-part _ _ (c.loop-at.at + c.put_some-count.result) _
    (appends-next _ _ _ c.loop-at.at _ c.args.text.now inv.2 (rw (take-rest c.loop-at.at c.args.text.now) at e.bytes))

pub returns-clause-whole : goal.returns-clause-whole
returns-clause-whole g c = appends-whole _ _ _ _ (omega arith) c.loop-at.invariant.2

pub returns-clause-good : goal.returns-clause-good
returns-clause-good g c = c.loop-at.invariant.1
