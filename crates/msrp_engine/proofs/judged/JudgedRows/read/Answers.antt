use Rattle.std.proofs.Common.{◌≡◌, ◌∙◌}
use Rattle.msrp_plan.proofs.Common.{None, Ok, false, ap, sym, subst, true≢false, PlanModel}
use Rattle.msrp_audit.specs.Audits.{AuditorModel, HasFed, IsBroken, IsOutOfTurn}
use Rattle.msrp_trace.specs.Readers.{HasReadBehind, HasReadIn}
use Rattle.msrp_engine.specs.Inside.Kept.{KeepsRows}
use Rattle.msrp_engine.proofs.judged.JudgedRows.read.Goals as goal

pub invariant_of-self-clause-kept : goal.invariant_of-self-clause-kept
invariant_of-self-clause-kept g c = let j = c.args.self.now in subst (λ v. KeepsRows v j.auditor.plan j.auditor.cores j.texts j.lasts) (sym c.next_row.ensures.trace.0) j.kept

pub returns-then-not-is_in_turn-clause-judged : goal.returns-then-not-is_in_turn-clause-judged
returns-then-not-is_in_turn-clause-judged g c = λ rows fed none.
    let looked = c.look.ensures.auditor in
    let here = subst (λ (a : AuditorModel). HasFed a rows) (sym looked) fed in
    let good = ap (λ (a : AuditorModel). a.fault) looked ∙ none in
    let not : c.is_in_turn.result ≡ false = cc in
    let out : IsOutOfTurn c.look.new.self.auditor.plan rows c.in-Some.row = λ left. sym (c.is_in_turn.ensures.turn rows here good left) ∙ not in
    subst (λ (p : PlanModel). IsBroken p rows c.in-Some.row c.fault_out_of_turn-fault.result None c.look.new.self.auditor) (ap (λ (a : AuditorModel). a.plan) looked) (record {
      fault = c.fault_out_of_turn-fault.ensures rows c.in-Some.row here good out;
      turn = λ left turn. absurd (true≢false (sym turn ∙ out left));
      out = λ _. (here, good);
    })

pub returns-then-not-is_in_turn-clause-lines : goal.returns-then-not-is_in_turn-clause-lines
returns-then-not-is_in_turn-clause-lines g c = λ text read.
    let behind = subst (λ r. HasReadBehind g.T.Read.remaining text r c.next_row.new.self) (c.in_ok-row.was ∙ ap (λ x. Ok x) c.in-Some.is) (c.next_row.ensures.lines text read) in
    subst (λ t. HasReadIn g.T.Read.remaining text t) (sym c.look.ensures.rows) behind
