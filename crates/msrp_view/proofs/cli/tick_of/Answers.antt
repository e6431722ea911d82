use Rattle.std.proofs.Common.{◌≡◌, ◌∙◌}
use Rattle.msrp_plan.proofs.Common.{rules, Some, Ok, Err, ap, option_map, sym, false, true, is_ascii_digit, list_all}
use Rattle.std.proofs.lemmas.Result.{MatchResult-at_err, MatchResult-at_ok}
use Rattle.msrp_view.specs.CommandLine.{tick_of}
use Rattle.msrp_view.proofs.Grammar.{no_tick, reads_tick}
use Rattle.msrp_view.proofs.cli.tick_of.Goals as goal

pub returns-then-not-are_digits-clause-value : goal.returns-then-not-are_digits-clause-value
returns-then-not-are_digits-clause-value c =
    let word : c.args.word ≡ Some c.in-Some.word = search rules in
    let other : list_all is_ascii_digit c.in-Some.word.now ≡ false = search rules in
    sym (ap (λ o. tick_of (option_map (λ w. w.now) o)) word ∙ no_tick c.in-Some.word.now other)

pub returns-in-Ok-clause-value : goal.returns-in-Ok-clause-value
returns-in-Ok-clause-value c =
    let word : c.args.word ≡ Some c.in-Some.word = search rules in
    let digits : list_all is_ascii_digit c.in-Some.word.now ≡ true = search rules in
    let parsed : c.parse.result ≡ Ok c.in-Ok.tick = search rules in
    sym (ap (λ o. tick_of (option_map (λ w. w.now) o)) word ∙ MatchResult-at_ok _ _ c.in-Ok.tick parsed (reads_tick c.in-Some.word.now c.parse.result digits c.parse.ensures.value.0))

pub returns-in-Err-clause-value : goal.returns-in-Err-clause-value
returns-in-Err-clause-value c =
    let word : c.args.word ≡ Some c.in-Some.word = search rules in
    let digits : list_all is_ascii_digit c.in-Some.word.now ≡ true = search rules in
    let parsed : c.parse.result ≡ Err c.in-Err.field-0 = search rules in
    sym (ap (λ o. tick_of (option_map (λ w. w.now) o)) word ∙ MatchResult-at_err _ _ c.in-Err.field-0 parsed (reads_tick c.in-Some.word.now c.parse.result digits c.parse.ensures.value.0))
