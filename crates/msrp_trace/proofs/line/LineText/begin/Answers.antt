use Rattle.std.proofs.Common.{◌+◌, ◌++◌, ◌∷◌, ◌∙◌}
use Rattle.msrp_plan.proofs.Common.{[], decimal, ap, sym, decimal_digit}
use Rattle.msrp_trace.specs.Gathering.{next_field}
use Rattle.msrp_trace.proofs.line.LineText.begin.Goals as goal

pub returns-then-core-lt10-clause-text : goal.returns-then-core-lt10-clause-text
unfolding next_field
returns-then-core-lt10-clause-text c =
    let core = c.args.core.0 in
    let kind = c.kind_field.result in
    let first = c.add.ensures.text ∙ ap (λ t. t ++ 44 ∷ (48 + core) ∷ []) (c.self.view_is ∙ c.clear.ensures) in
    c.add_text.ensures.text ∙ (ap (λ t. t ++ kind) first ∙ (ap (λ d. next_field d ++ kind) (sym (decimal_digit core c.if-core-lt10.true)) ∙ ap (λ k. next_field (decimal core) ++ k) c.kind_field.ensures))
