use Rattle.std.proofs.Common.{◌∙◌, ◌&&◌, ◌∷◌}
use Rattle.msrp_plan.proofs.Common.{[], ap, length, length-append, sym, subst, legal_due, start_last, IsSomeAnd, log_of}
use Rattle.msrp_why.proofs.Common.{IsCoreState, is_opening}
use Rattle.msrp_why.proofs.Exercising.{tick_is}
use Rattle.msrp_why.proofs.Noting.{last_row_push, nests_noted, one_more}
use Rattle.msrp_why.proofs.notes.Notes.note.Goals as goal

pub returns-in-Some : goal.returns-in-Some
returns-in-Some c = λ rows start known was.
    let plan = c.args.plan.now in
    let r = c.args.row in
    let k = r.core.0 in
    let ok = c.cores-accepted.ensures.plan in
    let state = subst (λ o. IsSomeAnd o (IsCoreState plan k (length (log_of k rows)) rows)) c.in-Some.is (known (legal_due plan rows r (start_last plan rows r start)).core) in
    let is = subst (λ t. IsCoreState plan k t rows c.in-Some.state) (tick_is plan rows r start) state in
    let nested = c.nests-nested.ensures ∙ ap (λ b. is_opening r.kind && b) (nests_noted plan rows r.job c.args.self.now.resources.items was.resources) in
    let number = one_more plan rows r c.args.self.now.rows c.saturating_add-number.result ok start was.count c.saturating_add-number.ensures in
    record {
      count = number ∙ sym (length-append rows (r ∷ []));
      last = last_row_push rows r c.saturating_add-number.result number;
      resources = c.note_row.ensures plan rows ok start number was.resources;
      turns = c.note.ensures rows start is nested was.turns;
    }

pub returns-in_default : goal.returns-in_default
returns-in_default c = λ rows start known was.
    let plan = c.args.plan.now in
    let k = c.args.row.core.0 in
    absurd (subst (λ o. IsSomeAnd o (IsCoreState plan k (length (log_of k rows)) rows)) c.in_default.is (known (legal_due plan rows c.args.row (start_last plan rows c.args.row start)).core))
