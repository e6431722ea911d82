use Rattle.std.proofs.Common.{◌≡◌, ◌++◌, ◌∷◌, ◌/◌, ◌∙◌}
use Rattle.msrp_plan.proofs.Common.{[], true, Some, IfSome, length, PlanModel, in_tick, ap, arith, lt-ltb, refl, sym, subst}
use Rattle.msrp_audit.specs.Audits.{AuditorModel, HasFed, Awaits}
use Rattle.msrp_plan.specs.declared.rows.Row.{Row}
use Rattle.msrp_trace.specs.Laws.{as_read, is_short}
use Rattle.msrp_trace.specs.Readers.{BeginsAt, HasReadIn, IsTextOf, told_left}
use Rattle.msrp_trace.specs.Texts.{text_of_core}
use Rattle.msrp_engine.specs.Inside.Kept.{IsKept, KeepsRows, row_of_core}
use Rattle.msrp_engine.proofs.KeptTexts.{keeps_same, read_as, awaits_in, expected_awaits}
use Rattle.msrp_engine.specs.Judging.{IsJudged}
use Rattle.msrp_engine.proofs.judged.JudgedRows.next_by.Goals as goal

pub invariant_of-self-clause-kept : goal.invariant_of-self-clause-kept
invariant_of-self-clause-kept g c = let j = c.args.self.now in subst (λ v. KeepsRows v j.auditor.plan j.auditor.cores j.texts j.lasts) (sym c.core_ahead.ensures.trace.0) j.kept

pub invariant_of-self-then-not-comes_behind-clause-kept : goal.invariant_of-self-then-not-comes_behind-clause-kept
invariant_of-self-then-not-comes_behind-clause-kept g c = let j = c.expect.new.self in subst (λ v. KeepsRows v j.auditor.plan j.auditor.cores j.texts j.lasts) (sym c.comes_behind.ensures.trace.0) j.kept

pub invariant_of-self-2-clause-kept : goal.invariant_of-self-2-clause-kept
invariant_of-self-2-clause-kept g c =
    let j = c.expect.new.self in
    let same = c.accept.ensures.same in
    subst (λ v. KeepsRows v c.accept.new.self.plan c.accept.new.self.cores j.texts j.lasts) (sym c.comes_behind.ensures.trace.0)
    (keeps_same j.rows.version j.auditor.plan c.accept.new.self.plan j.auditor.cores c.accept.new.self.cores j.texts j.lasts (ap (λ (a : AuditorModel). a.plan) same) (ap (λ (a : AuditorModel). a.cores) same) j.kept)

pub returns-then-not-comes_behind-clause-judged : goal.returns-then-not-comes_behind-clause-judged
returns-then-not-comes_behind-clause-judged g c = λ rows fed none.
    let j = c.expect.new.self in
    let x = c.expect.ensures in
    let looked = c.look.ensures.auditor in
    let plan = x.plan ∙ ap (λ (a : AuditorModel). a.plan) looked in
    let tick : c.tick-tick.result ≡ length rows / j.auditor.plan.cores = c.tick-tick.ensures.tick rows fed none ∙ ap (λ (p : PlanModel). length rows / p.cores) (sym plan) in
    let awaits = x.awaits rows (subst (λ (a : AuditorModel). HasFed a rows) (sym looked) fed) in
    subst (λ p. IsJudged p rows c.keep_expected.new.self.judged c.keep_expected.new.self) plan (c.keep_expected.ensures.judged rows (awaits_in j.auditor rows c.in-Some.core.0 c.tick-tick.result (row_of_core j.lasts c.in-Some.core.0) tick awaits))

pub returns-then-not-comes_behind-clause-read : goal.returns-then-not-comes_behind-clause-read
returns-then-not-comes_behind-clause-read g c = λ told rows known fed none e.
    let begins = subst (λ o. IfSome o (λ core. BeginsAt c.tick-tick.result core told)) c.in-Some.is (c.core_ahead.ensures.next told known) in
    let left = subst (λ r. told_left g.T.Read.remaining r ≡ Some told) (sym (c.expect.ensures.rows ∙ c.look.ensures.rows)) (c.core_ahead.ensures.kept told known) in
    c.keep_expected.ensures.read told ((c.comes_behind.ensures.nothing (cc)).kept told left) begins e

pub returns-clause-judged : goal.returns-clause-judged
returns-clause-judged g c = λ rows fed none.
    let j = c.expect.new.self in
    let x = c.expect.ensures in
    let looked = c.look.ensures.auditor in
    let k = c.in-Some.core.0 in
    let t = c.tick-tick.result in
    let due = c.expected-expected.result in
    let e = c.expected-expected.ensures in
    let version = c.comes_behind.new.self.version in
    let plan = x.plan ∙ ap (λ (a : AuditorModel). a.plan) looked in
    let tick : t ≡ length rows / j.auditor.plan.cores = c.tick-tick.ensures.tick rows fed none ∙ ap (λ (p : PlanModel). length rows / p.cores) (sym plan) in
    let awaited = x.awaits rows (subst (λ (a : AuditorModel). HasFed a rows) (sym looked) fed) in
    let awaits : Awaits j.auditor rows k due = expected_awaits j.auditor rows k t due (row_of_core j.lasts k) x.core e.row (awaits_in j.auditor rows k t (row_of_core j.lasts k) tick awaited) in
    let made : c.in_tick.result ≡ in_tick t (as_read version due) = c.in_tick.ensures ∙ ap (in_tick t) c.as_read.ensures in (
      subst (λ (r : Row). HasFed c.accept.new.self (rows ++ r ∷ [])) (sym made) (c.accept.ensures.fed rows k due (in_tick t (as_read version due)) awaits (sym e.tick) (read_as version t due)),
      ap (λ (a : AuditorModel). a.fault) c.accept.ensures.same ∙ awaits.fault,
    )

pub returns-in_default-clause-lines : goal.returns-in_default-clause-lines
returns-in_default-clause-lines g c = λ text read. c.keep_read.ensures.lines text (c.core_ahead.ensures.lines text read)

pub returns-then-not-is_due-clause-lines : goal.returns-then-not-is_due-clause-lines
returns-then-not-is_due-clause-lines g c = λ text read. c.keep_read-then-not-is_due.ensures.lines text (c.core_ahead.ensures.lines text read)

pub returns-then-not-comes_behind-clause-lines : goal.returns-then-not-comes_behind-clause-lines
returns-then-not-comes_behind-clause-lines g c = λ text read.
    let at = subst (λ t. HasReadIn g.T.Read.remaining text t) (sym (c.expect.ensures.rows ∙ c.look.ensures.rows)) (c.core_ahead.ensures.lines text read) in
    c.keep_expected.ensures.lines text ((c.comes_behind.ensures.nothing (cc)).lines text at)

pub returns-clause-lines : goal.returns-clause-lines
returns-clause-lines g c = λ text read.
    let j = c.expect.new.self in
    let k = c.in-Some.core.0 in
    let t = c.tick-tick.result in
    let due = c.expected-expected.result in
    let version = j.rows.version in
    let plan : c.accept.new.self.plan ≡ j.rows.plan.now = ap (λ (a : AuditorModel). a.plan) c.accept.ensures.same ∙ sym j.plan in
    let kept = subst (λ p. IsKept version p (text_of_core j.texts k) due) plan (subst (λ v. IsKept v c.accept.new.self.plan (text_of_core j.texts k) due) c.comes_behind.ensures.trace.0 c.expected-expected.ensures.kept) in
    let most = c.tick-tick.ensures.most in
    let ticks = c.tick-tick.ensures.accepted.draft.ticks.1 in
    let short : is_short t ≡ true = lt-ltb t 1000000000 (omega (arith, most, ticks)) in
    let told : IsTextOf j.rows j.texts t k (in_tick t (as_read version due)) = record { tick = refl; whole = kept.whole t short; text = kept.is } in
    let at = subst (λ r. HasReadIn g.T.Read.remaining text r) (sym (c.expect.ensures.rows ∙ c.look.ensures.rows)) (c.core_ahead.ensures.lines text read) in
    c.comes_behind.ensures.lines (in_tick t (as_read version due)) text told at
