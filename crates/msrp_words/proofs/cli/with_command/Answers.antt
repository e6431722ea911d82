use Rattle.std.proofs.Common.{◌≡◌}
use Rattle.msrp_plan.proofs.Common.{rules, Ok, IfOk, subst, IfOk-weaker}
use Rattle.msrp_words.specs.CommandLine.{Takes}
use Rattle.msrp_words.proofs.Grammar.{adds_command}
use Rattle.msrp_words.proofs.cli.with_command.Goals as goal

pub returns : goal.returns
returns c = λ words more told is plain.
    let program : c.args.program ≡ Ok c.in_ok-program.field-0 = search rules in
    let made : c.args.made ≡ Ok c.in_ok-made.field-0 = search rules in
    let before = subst (λ made. IfOk made (Takes words)) program told in
    let below = subst (λ made. IfOk made (Takes more)) made is in
    IfOk-weaker c.subcommand.result _ _ (λ new h. adds_command c.in_ok-program.field-0 c.in_ok-made.field-0 new words more h before below plain) c.subcommand.ensures
