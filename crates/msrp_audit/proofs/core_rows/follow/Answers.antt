use Rattle.std.proofs.Common.{◌∙◌}
use Rattle.msrp_plan.proofs.Common.{sym, subst, IsCoreTurn, log_of}
use Rattle.msrp_audit.proofs.Following.{follows, stands_on}
use Rattle.msrp_audit.proofs.core_rows.follow.Goals as goal

pub returns-clause-rule : goal.returns-clause-rule
returns-clause-rule c = λ ok pre start stands turn.
    let plan = c.args.plan.now in
    let expected = c.turn_as-expected.result in
    let made = subst (λ p. IsCoreTurn p c.args.row.core.0 (log_of c.args.row.core.0 pre) expected) c.requires.plan (subst (λ n. IsCoreTurn c.args.machine.now.plan n (log_of c.args.row.core.0 pre) expected) (sym c.requires.core) (c.turn_as-expected.ensures.row (log_of c.args.row.core.0 pre) stands)) in
    c.unlike_turn.ensures ∙ follows plan pre c.args.row expected ok start turn made (sym c.is_own.ensures ∙ c.if-not-is_own.false)

pub returns-clause-stands : goal.returns-clause-stands
returns-clause-stands c = λ pre start stands turn none.
    let log = log_of c.args.row.core.0 pre in
    stands_on c.turn_as-expected.new.machine pre c.args.row c.turn_as-expected.result (sym c.unlike_turn.ensures ∙ none) (c.turn_as-expected.ensures.kind log stands) (c.turn_as-expected.ensures.stands log stands)
