use Rattle.msrp_plan.proofs.Common.{refl, rules}
use Rattle.msrp_trace.specs.Texts.{text_of_core}
use Rattle.msrp_engine.specs.Inside.Kept.{row_of_core}
use Rattle.msrp_engine.proofs.KeptTexts.{cores_if, keeps_if, keeps_same, awaits_kept, core_kept, known_own}
use Rattle.msrp_engine.proofs.judged.JudgedRows.expect.Goals as goal

pub invariant_of-self-clause-kept : goal.invariant_of-self-clause-kept
invariant_of-self-clause-kept g c =
    let j = c.args.self.now in
    let e = c.repeat.ensures in
    keeps_same j.rows.version j.auditor.plan c.repeat.new.self.plan c.repeat.new.self.cores c.repeat.new.self.cores j.texts j.lasts e.plan refl
    (keeps_if j.rows.version j.auditor.plan j.auditor.cores c.repeat.new.self.cores j.texts j.lasts c.args.core.0 c.repeat.result c.requires.accepted.draft.cores.1 c.requires.due.core (cores_if c.repeat.result j.auditor c.repeat.new.self e.none) e.known e.core e.leaves j.kept)

pub returns-in-Some-clause-core : goal.returns-in-Some-clause-core
returns-in-Some-clause-core g c =
    let j = c.args.self.now in
    let k = c.args.core.0 in
    let e = c.in-Some.ensures in
    core_kept j.rows.version j.auditor.plan (text_of_core j.texts k) k c.in-Some._expected (row_of_core j.lasts k) (search rules) (known_own j.rows.version j.auditor.plan j.auditor.cores j.texts j.lasts k c.in-Some._expected c.requires.due.core e.known j.kept) e.core

pub returns-in-Some-clause-awaits : goal.returns-in-Some-clause-awaits
returns-in-Some-clause-awaits g c = λ rows fed.
    let j = c.args.self.now in
    let k = c.args.core.0 in
    let e = c.in-Some.ensures in
    awaits_kept j.rows.version j.auditor.plan (text_of_core j.texts k) c.repeat.new.self rows k c.in-Some._expected (row_of_core j.lasts k) (known_own j.rows.version j.auditor.plan j.auditor.cores j.texts j.lasts k c.in-Some._expected c.requires.due.core e.known j.kept) (e.awaits rows fed)
