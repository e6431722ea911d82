use Rattle.std.proofs.Common.{◌≡◌, ◌+◌, ◌∙◌}
use Rattle.msrp_plan.proofs.Common.{ap, sym, rules, inr, true, false, Ok, Err}
use Rattle.msrp_event_text.specs.LogVerdicts.{confirmed_from, is_certain}
use Rattle.msrp_event_text.proofs.LeftRecords.{none-left, one-left, confirmed-certain, confirmed-end, confirmed-decided}
use Rattle.msrp_event_text.proofs.confirming.confirm.Goals as goal

pub returns-then-is_certain : goal.returns-then-is_certain
returns-then-is_certain g c = λ all known.
    let before = c.loop-at.invariant all known in
    inr (inr (sym (confirmed-certain c.args.system.now c.args.rule c.args.number c.loop-at.at c.loop-at.awaited.items before.0 (sym (ap is_certain c.deref.ensures.value) ∙ (sym c.is_certain.ensures ∙ c.if-is_certain.true))) ∙ before.2))

pub returns-then-not-branch : goal.returns-then-not-branch
returns-then-not-branch g c = λ all known.
    let before = c.loop-at.invariant all known in
    let none = none-left before.0 _ _ _ (c.in_ok-read.ensures.next before.0 before.1) c.if-not-branch.true in
    inr (inr (sym (confirmed-end c.args.system.now c.args.rule c.args.number c.loop-at.at c.loop-at.awaited.items before.0 (sym (ap is_certain c.deref.ensures.value) ∙ (sym c.is_certain.ensures ∙ c.if-is_certain.false)) none) ∙ before.2))

pub returns-in_err-record_loses : goal.returns-in_err-record_loses
returns-in_err-record_loses g c = λ all known.
    let before = c.loop-at.invariant all known in
    let one = one-left before.0 _ _ _ (c.in_ok-read.ensures.next before.0 before.1) c.if-not-branch.false in
    let e : c.from_residual-in_err-record_loses.result ≡ Err c.in_err-record_loses.field-0.0 = search rules in
    let shown = sym c.record_loses.ensures.loses ∙ c.in_err-record_loses.was in
    inr (inr (e ∙ (sym (confirmed-decided c.args.system.now c.args.rule c.args.number c.loop-at.at c.loop-at.awaited.items before.0 _ one.0 (sym (ap is_certain c.deref.ensures.value) ∙ (sym c.is_certain.ensures ∙ c.if-is_certain.false)) one.1 (Err c.in_err-record_loses.field-0.0) shown) ∙ before.2)))

pub returns-then-branch : goal.returns-then-branch
returns-then-branch g c = λ all known.
    let before = c.loop-at.invariant all known in
    let one = one-left before.0 _ _ _ (c.in_ok-read.ensures.next before.0 before.1) c.if-not-branch.false in
    let shown = sym c.record_loses.ensures.loses ∙ (c.in_ok-record_loses.was ∙ ap (λ b. Ok b) c.if-branch.true) in
    inr (inr (sym (confirmed-decided c.args.system.now c.args.rule c.args.number c.loop-at.at c.loop-at.awaited.items before.0 _ one.0 (sym (ap is_certain c.deref.ensures.value) ∙ (sym c.is_certain.ensures ∙ c.if-is_certain.false)) one.1 (Ok true) shown) ∙ before.2))

pub loop-at-preserved : goal.loop-at-preserved
loop-at-preserved g c = λ all known.
    let before = c.loop-at.invariant all known in
    let one = one-left before.0 _ _ _ (c.in_ok-read.ensures.next before.0 before.1) c.if-not-branch.false in
    let shown = sym c.record_loses.ensures.loses ∙ (c.in_ok-record_loses.was ∙ ap (λ b. Ok b) c.if-branch.false) in (
      one.0,
      one.2,
      ap (λ ns. confirmed_from c.args.system.now c.args.rule c.args.number (c.loop-at.at + 1) ns one.0) c.record_loses.ensures.told
          ∙ (sym (confirmed-decided c.args.system.now c.args.rule c.args.number c.loop-at.at c.loop-at.awaited.items before.0 _ one.0 (sym (ap is_certain c.deref.ensures.value) ∙ (sym c.is_certain.ensures ∙ c.if-is_certain.false)) one.1 (Ok false) shown) ∙ before.2),
    )
