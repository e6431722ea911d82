use Rattle.msrp_plan.proofs.Common.{rules, Ok, IfOk, subst, IfOk-weaker}
use Rattle.std.proofs.Common.{◌≡◌, ◌∙◌, ap₂}
use Rattle.clap.specs.Words.{app_of, with_rule}
use Rattle.msrp_cli.proofs.arguments.with_arg.Goals as goal

pub returns : goal.returns
returns c = λ words rule told is own.
    let made : c.args.made ≡ Ok c.in_ok-made.field-0 = search rules in
    let before = subst (λ made. IfOk made (λ command. app_of command ≡ words)) made told in
    IfOk-weaker c.arg.result _ _ (λ new h. h.shape own ∙ ap₂ with_rule before is) c.arg.ensures
