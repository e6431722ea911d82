use Rattle.msrp_plan.proofs.Common.{[], map, ap, subst, sym, inl, inr}
use Rattle.std.proofs.Common.{◌≡◌, ◌∙◌, string_bytes}
use Rattle.clap.specs.Words.{HasKind, app_of, fault_of, is_simple, is_simple_and_free, kind_of, subcommand_of, subcommand_rows_of}
use Rattle.msrp_words.specs.CommandLine.{IsAnswered, IsChosen, answer_to, grammar}
use Rattle.msrp_words.proofs.Grammar.{answered_fault, grammar_free, grammar_simple}
use Rattle.msrp_words.proofs.cli.command_of.Goals as goal

pub returns-in-Ok : goal.returns-in-Ok
returns-in-Ok c =
    let told : app_of c.in_ok-grammar.field-0 ≡ grammar = c.in_ok-grammar.ensures in
    let words = map string_bytes c.args.words.now in
    let none = subst (λ a. fault_of a words ≡ []) told (c.in-Ok.ensures.kinds (ap is_simple_and_free told ∙ grammar_free)) in
    let given = subst (λ a. subcommand_rows_of c.in-Ok.matches ≡ subcommand_of a words) told (c.in-Ok.ensures.matches (ap is_simple told ∙ grammar_simple)).1 in
    inr (subst (λ kinds. IsAnswered kinds (subcommand_of grammar words) c.chosen.result) (sym none) (subst (λ q. IsChosen q c.chosen.result) given c.chosen.ensures))

pub returns-in-Err : goal.returns-in-Err
returns-in-Err c =
    let told : app_of c.in_ok-grammar.field-0 ≡ grammar = c.in_ok-grammar.ensures in
    let words = map string_bytes c.args.words.now in
    let has : HasKind (fault_of grammar words) c.in-Err.error = subst (λ a. HasKind (fault_of a words) c.in-Err.error) told (c.in-Err.ensures.kinds (ap is_simple_and_free told ∙ grammar_free)) in
    elim has [
      | inl memory ↦ inl (c.answer_to.ensures ∙ ap answer_to (c.kind.ensures ∙ memory))
      | inr among ↦ inr (answered_fault (fault_of grammar words) (subcommand_of grammar words) (kind_of c.in-Err.error) c.answer_to.result among (c.answer_to.ensures ∙ ap answer_to c.kind.ensures))
    ]
