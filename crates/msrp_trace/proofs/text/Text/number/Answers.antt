use Rattle.std.proofs.Common.{◌∙◌, ◌++◌}
use Rattle.msrp_plan.proofs.Common.{ap, arith, sym, decimal_digit}
use Rattle.msrp_trace.proofs.text.Text.number.Goals as goal

pub returns-then-number-lt10-clause-text : goal.returns-then-number-lt10-clause-text
returns-then-number-lt10-clause-text g c =
    let digit = c.if-number-lt10.true in
    c.add.ensures.text ∙ ap (λ t. c.args.self.now ++ t) (sym (decimal_digit c.args.number (omega (arith, digit))))
