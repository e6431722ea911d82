use Rattle.std.proofs.Common.{append_assoc, subst, sym}
use Rattle.msrp_plan.specs.Common.{Wrote, verdict_text}
use Rattle.msrp_plan.proofs.Writes.{wrote-more}
use Rattle.msrp_plan.proofs.bytes.Sink.verdict.Goals as goal

pub returns-in-Err : goal.returns-in-Err
returns-in-Err g c =
    let rule = rw c.code.ensures at c.field.ensures in
    subst (λ f. Wrote g.W.Write.contents c.args.self.now c.add-in-Err-2.new.self (verdict_text f)) (sym c.in-Err.is)
    (simp append_assoc (wrote-more _ _ _ _ _ _ c.add-in-Err.ensures (wrote-more _ _ _ _ _ _ (rw c.from.ensures at c.number.ensures) (wrote-more _ _ _ _ _ _ rule c.add-in-Err-2.ensures))))
