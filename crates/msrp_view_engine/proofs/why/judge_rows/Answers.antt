use Rattle.std.proofs.Common.{◌≡◌, ◌++◌, ◌∷◌, ◌∙◌}
use Rattle.msrp_plan.proofs.Common.{rules, [], None, Ok, Err, IfErr, ap, sym, subst, PlanModel, fault_in, verdict}
use Rattle.msrp_view_engine.proofs.Common.{AuditorModel, HasReadBehind, HasReadIn, IsBroken, Row, answer_of, came-good, fewer-turns, next-gives, none-came, read-row, row-came}
use Rattle.msrp_core.specs.CoreStates.{IsStateAfter}
use Rattle.msrp_engine.specs.Judging.{IfCame, IsJudged, row_told}
use Rattle.msrp_why.proofs.Causing.{good_start}
use Rattle.msrp_view_engine.proofs.Explaining.{cause-found, end-found, line-found, refusal-judged}
use Rattle.msrp_view_engine.proofs.why.judge_rows.Goals as goal

pub loop-notes-init : goal.loop-notes-init
loop-notes-init g c = ([], none-came g.T.Read.remaining c.args.rows.now c.requires.fed, c.requires.noted, λ bytes read. read)

-- ---- a row that violates a rule
pub returns-in-Broken-clause-found : goal.returns-in-Broken-clause-found
returns-in-Broken-clause-found g c = λ told known.
    let i = c.loop-notes.invariant in
    let e = c.next_with_state.ensures in
    let row = c.in-Broken.row in
    let broken = c.in-Broken.broken in
    let plan = i.1.plan ∙ c.requires.plan in
    let is = c.in_ok-row.was ∙ ap (λ x. Ok x) c.in-Broken.is in
    let good = subst (λ (p : PlanModel). fault_in p i.0 ≡ None) c.requires.plan (came-good g.T.Read.remaining c.args.rows.now c.loop-notes.rows i.0 i.1) in
    let judged = subst (λ r. IsJudged c.loop-notes.rows.auditor.plan i.0 r c.next_with_state.new.self) is (e.judged i.0 i.1.fed i.1.fault) in
    let at = subst (λ (p : PlanModel). IsBroken p i.0 row broken.fault broken.expected c.next_with_state.new.self.auditor) plan judged in
    let here = subst (λ (a : AuditorModel). IsBroken c.args.plan.now i.0 row broken.fault broken.expected a) (sym c.auditor-auditor.ensures) at in
    let more = read-row told i.0 _ _ (row_told c.next_with_state.result) row (i.1.read told known) e.gives (ap row_told is) in
    let seen = subst (λ r. IfCame (λ (x : Row). IsStateAfter c.loop-notes.rows.auditor.plan i.0 x.core.0 c.next_with_state.new.self.state) r) is (e.state i.0 i.1.fed i.1.fault) in
    let state = subst (IsStateAfter c.args.plan.now i.0 row.core.0) (sym c.state-state.ensures) (subst (λ (p : PlanModel). IsStateAfter p i.0 row.core.0 c.next_with_state.new.self.state) plan seen) in
    cause-found c.args.plan.now told i.0 row _ broken.fault c.cause_of-cause.result more at.fault (c.cause_of-cause.ensures.cause i.0 good here i.2 state)

pub returns-in-Broken-clause-line : goal.returns-in-Broken-clause-line
returns-in-Broken-clause-line g c = λ bytes read.
    let is = c.in_ok-row.was ∙ ap (λ x. Ok x) c.in-Broken.is in
    let behind = subst (λ r. HasReadBehind g.T.Read.remaining bytes r c.next_with_state.new.self.rows) (ap row_told is) (c.next_with_state.ensures.lines bytes (c.loop-notes.invariant.3 bytes read)) in
    line-found c.in-Broken.broken.fault c.cause_of-cause.result bytes _ c.cause_of-cause.ensures.kept.0 c.cause_of-cause.ensures.kept.1
    (c.line_of_row-line.ensures bytes (subst (λ t. HasReadIn g.T.Read.remaining bytes t) (sym c.reader.ensures) behind))

-- ---- the end, and an error of the reader
pub returns-in_err-row-clause-found : goal.returns-in_err-row-clause-found
returns-in_err-row-clause-found g c = λ told known.
    let i = c.loop-notes.invariant in
    let good = subst (λ (p : PlanModel). fault_in p i.0 ≡ None) c.requires.plan (came-good g.T.Read.remaining c.args.rows.now c.loop-notes.rows i.0 i.1) in
    let gives : c.from_residual.result ≡ Err c.in_err-row.field-0.0 = search rules in
    refusal-judged c.args.plan.now told i.0 _ _ (row_told c.next_with_state.result) c.in_err-row.field-0.0 _ (i.1.read told known) c.next_with_state.ensures.gives (ap row_told c.in_err-row.was) good gives

pub returns-in_err-row-clause-read : goal.returns-in_err-row-clause-read
returns-in_err-row-clause-read g c = λ bytes read.
    let i = c.loop-notes.invariant in
    let gives : c.from_residual.result ≡ Err c.in_err-row.field-0.0 = search rules in
    let behind = subst (λ r. HasReadBehind g.T.Read.remaining bytes r c.next_with_state.new.self.rows) (ap row_told c.in_err-row.was) (c.next_with_state.ensures.lines bytes (i.3 bytes read)) in
    subst (λ r. IfErr r (λ error. HasReadBehind g.T.Read.remaining bytes (Err error) c.next_with_state.new.self.rows)) (sym gives) behind

pub returns-in-End-clause-found : goal.returns-in-End-clause-found
returns-in-End-clause-found g c = λ told known.
    let i = c.loop-notes.invariant in
    let e = c.next_with_state.ensures in
    let plan = i.1.plan ∙ c.requires.plan in
    let is = c.in_ok-row.was ∙ ap (λ x. Ok x) c.in-End.is in
    let good = subst (λ (p : PlanModel). fault_in p i.0 ≡ None) c.requires.plan (came-good g.T.Read.remaining c.args.rows.now c.loop-notes.rows i.0 i.1) in
    let judged = subst (λ r. IsJudged c.loop-notes.rows.auditor.plan i.0 r c.next_with_state.new.self) is (e.judged i.0 i.1.fed i.1.fault) in
    let answer = rw c.auditor.ensures at c.end.ensures i.0 judged.0 in
    end-found c.args.plan.now told i.0 _ _ (row_told c.next_with_state.result) c.end.result c.loop-notes.notes (i.1.read told known) e.gives (ap row_told is) good
    (answer ∙ ap (λ (p : PlanModel). answer_of (verdict p i.0)) (e.plan ∙ plan)) i.2

-- ---- a legal row
pub loop-notes-smaller : goal.loop-notes-smaller
loop-notes-smaller g c =
    let i = c.loop-notes.invariant in
    let e = c.next_with_state.ensures in
    fewer-turns g.T.Read.remaining c.args.rows.now c.loop-notes.rows c.next_with_state.new.self i.0 c.next_with_state.result c.in-Legal.row i.1 (next-gives g.T.Read.remaining _ _ _ i.0 c.next_with_state.result i.1 e.plan e.gives e.judged) (c.in_ok-row.was ∙ ap (λ x. Ok x) c.in-Legal.is)

pub loop-notes-preserved : goal.loop-notes-preserved
loop-notes-preserved g c =
    let i = c.loop-notes.invariant in
    let e = c.next_with_state.ensures in
    let row = c.in-Legal.row in
    let plan = i.1.plan ∙ c.requires.plan in
    let is = c.in_ok-row.was ∙ ap (λ x. Ok x) c.in-Legal.is in
    let more = row-came g.T.Read.remaining c.args.rows.now c.loop-notes.rows c.next_with_state.new.self i.0 c.next_with_state.result row i.1 (next-gives g.T.Read.remaining _ _ _ i.0 c.next_with_state.result i.1 e.plan e.gives e.judged) is in
    let good = subst (λ (p : PlanModel). fault_in p (i.0 ++ row ∷ []) ≡ None) c.requires.plan (came-good g.T.Read.remaining c.args.rows.now c.next_with_state.new.self (i.0 ++ row ∷ []) more) in
    let seen = subst (λ r. IfCame (λ (x : Row). IsStateAfter c.loop-notes.rows.auditor.plan i.0 x.core.0 c.next_with_state.new.self.state) r) is (e.state i.0 i.1.fed i.1.fault) in
    let state = subst (IsStateAfter c.args.plan.now i.0 row.core.0) (sym c.state.ensures) (subst (λ (p : PlanModel). IsStateAfter p i.0 row.core.0 c.next_with_state.new.self.state) plan seen) in (
      i.0 ++ row ∷ [],
      more,
      c.note.ensures i.0 (good_start c.args.plan.now (i.0 ++ row ∷ []) good) state i.2,
      λ bytes read. subst (λ r. HasReadBehind g.T.Read.remaining bytes r c.next_with_state.new.self.rows) (ap row_told is) (e.lines bytes (i.3 bytes read)),
    )
