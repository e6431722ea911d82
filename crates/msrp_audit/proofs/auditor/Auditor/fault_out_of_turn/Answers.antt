use Rattle.std.proofs.Common.{◌∙◌, ◌+◌}
use Rattle.msrp_plan.proofs.Common.{Some, sym, ap}
use Rattle.msrp_audit.proofs.Judging.{fault_next}
use Rattle.msrp_audit.proofs.auditor.Auditor.fault_out_of_turn.Goals as goal

pub returns : goal.returns
returns c = λ rows row h none out.
    let a = c.args.self.now in
    let rule = c.rule_out_of_turn.result in
    fault_next a.plan rows row (Some rule) a.fed (sym h.fault ∙ none) (h.count none) (c.rule_out_of_turn.ensures rows row h none out)
    ∙ ap (λ n. Some (record { row = n + 1; rule = rule })) (sym c.fed.ensures.fed)
