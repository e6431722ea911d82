use Rattle.std.proofs.Common.{◌∙◌, ◌≡◌, ◌/◌}
use Rattle.msrp_plan.proofs.Common.{ap, sym, subst, IfSome, IsSomeAnd, in_tick, length}
use Rattle.msrp_trace.specs.Texts.{TextsModel}
use Rattle.msrp_engine.specs.Inside.Kept.{KeepsRows}
use Rattle.msrp_engine.proofs.KeptTexts.{shown_keeps, told_named, turn_told}
use Rattle.msrp_audit.specs.Audits.{Awaits}
use Rattle.msrp_engine.proofs.judged.JudgedRows.choose.Goals as goal

pub show-requires : goal.show-requires
show-requires g c =
    let j = c.args.self.now in
    let due = c.turn_anew-expected.result in
    let e = c.turn_anew-expected.ensures in
    told_named j.rows.version j.auditor.plan j.texts j.texts j.lasts c.keep_row.new.lasts c.args.core.0 due c.as_read.result c.keep_row.ensures.here c.keep_row.ensures.others j.version j.texts_plan c.as_read.ensures e.core (turn_told j.rows.version j.auditor.plan c.args.core.0 due c.requires.accepted c.requires.due.core e.turn)

pub invariant_of-self-clause-texts_plan : goal.invariant_of-self-clause-texts_plan
invariant_of-self-clause-texts_plan g c = ap (λ (t : TextsModel). t.plan) c.show.ensures.texts ∙ (c.args.self.now.texts_plan ∙ sym c.turn_anew-expected.ensures.plan)

pub invariant_of-self-clause-version : goal.invariant_of-self-clause-version
invariant_of-self-clause-version g c = ap (λ (t : TextsModel). t.version) c.show.ensures.texts ∙ c.args.self.now.version

pub invariant_of-self-clause-kept : goal.invariant_of-self-clause-kept
invariant_of-self-clause-kept g c =
    let j = c.args.self.now in
    let due = c.turn_anew-expected.result in
    let e = c.turn_anew-expected.ensures in
    subst (λ p. KeepsRows j.rows.version p c.turn_anew-expected.new.self.cores c.show.new.self c.keep_row.new.lasts) (sym e.plan)
    (shown_keeps j.rows.version j.auditor.plan j.texts c.show.new.self j.lasts c.keep_row.new.lasts c.args.core.0 due c.as_read.result c.keep_row.ensures.here c.keep_row.ensures.others j.version j.texts_plan c.as_read.ensures e.core (turn_told j.rows.version j.auditor.plan c.args.core.0 due c.requires.accepted c.requires.due.core e.turn)
    j.auditor.cores c.turn_anew-expected.new.self.cores c.requires.accepted.draft.cores.1 c.requires.due.core e.leaves c.show.ensures.texts c.show.ensures.here j.kept)

pub returns-clause-core : goal.returns-clause-core
returns-clause-core g c = subst (λ o. IsSomeAnd o (λ last. last.core.0 ≡ c.args.core.0)) (sym c.keep_row.ensures.here) c.turn_anew-expected.ensures.core

pub returns-clause-awaits : goal.returns-clause-awaits
returns-clause-awaits g c = λ rows fed.
    let a = c.turn_anew-expected.new.self in
    let due = c.turn_anew-expected.result in
    let awaits = c.turn_anew-expected.ensures.awaits rows fed in
    subst (λ o. IfSome o (λ last. Awaits a rows c.args.core.0 (in_tick (length rows / a.plan.cores) last))) (sym c.keep_row.ensures.here) (subst (Awaits a rows c.args.core.0) (ap (λ t. in_tick t due) awaits.tick) awaits)
