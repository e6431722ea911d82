use Rattle.msrp_engine.proofs.KeptTexts.{keeps_none}
use Rattle.msrp_engine.proofs.judged.JudgedRows.new.Goals as goal

pub invariant_of-result-clause-kept : goal.invariant_of-result-clause-kept
invariant_of-result-clause-kept g c = keeps_none c.args.rows.version c.args.auditor.plan c.args.auditor.cores c.new-texts.result
