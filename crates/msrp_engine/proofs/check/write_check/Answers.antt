use Rattle.msrp_plan.proofs.Common.{wrote-more}
use Rattle.msrp_engine.specs.CheckText.{check_text}
use Rattle.msrp_engine.proofs.check.write_check.Goals as goal

pub returns-clause-wrote : goal.returns-clause-wrote
unfolding check_text
returns-clause-wrote g c = wrote-more _ _ _ _ _ _ c.write_levels.ensures.wrote (wrote-more _ _ _ _ _ _ c.write_ceilings.ensures c.write_tops.ensures)
