use Rattle.msrp_plan.proofs.Common.{[], map, ap, subst, sym, inl, inr}
use Rattle.std.proofs.Common.{◌≡◌, ◌∙◌, string_bytes}
use Rattle.clap.specs.Words.{HasKind, app_of, fault_of, found_of, is_simple, is_simple_and_free, kind_of, matches_of, rows_of}
use Rattle.msrp_view.specs.CommandLine.{IsAnswered, answer_to, grammar, IsAsked}
use Rattle.msrp_view.proofs.Grammar.{answered_fault, grammar_free, grammar_simple}
use Rattle.msrp_view.proofs.cli.command_of.Goals as goal

pub returns-in-Ok-clause-answer : goal.returns-in-Ok-clause-answer
returns-in-Ok-clause-answer c =
    let told : app_of c.in_ok-grammar.field-0 ≡ grammar = c.in_ok-grammar.ensures in
    let words = map string_bytes c.args.words.now in
    let none = subst (λ a. fault_of a words ≡ []) told (c.in-Ok.ensures.kinds (ap is_simple_and_free told ∙ grammar_free)) in
    let found = subst (λ a. rows_of (found_of c.in-Ok.matches) ≡ matches_of a words) told (c.in-Ok.ensures.matches (ap is_simple told ∙ grammar_simple)).0 in
    inr (subst (λ kinds. IsAnswered kinds (matches_of grammar words) c.asked_for.result) (sym none) (subst (λ rows. IsAsked rows c.asked_for.result) found c.asked_for.ensures.asked))

pub returns-in-Err-clause-answer : goal.returns-in-Err-clause-answer
returns-in-Err-clause-answer c =
    let told : app_of c.in_ok-grammar.field-0 ≡ grammar = c.in_ok-grammar.ensures in
    let words = map string_bytes c.args.words.now in
    let has : HasKind (fault_of grammar words) c.in-Err.error = subst (λ a. HasKind (fault_of a words) c.in-Err.error) told (c.in-Err.ensures.kinds (ap is_simple_and_free told ∙ grammar_free)) in
    elim has [
      | inl memory ↦ inl (c.answer_to.ensures ∙ ap answer_to (c.kind.ensures ∙ memory))
      | inr among ↦ inr (answered_fault (fault_of grammar words) (matches_of grammar words) (kind_of c.in-Err.error) c.answer_to.result among (c.answer_to.ensures ∙ ap answer_to c.kind.ensures))
    ]
