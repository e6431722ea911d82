use Rattle.msrp_plan.proofs.Common.{rules}
use Rattle.std.proofs.Common.{◌∙◌}
use Rattle.msrp_c.proofs.Handing.{loaded-by}
use Rattle.msrp_c.proofs.loading.load.Goals as goal

pub returns : goal.returns
returns c = loaded-by c.in_ok-plan.plan _ _ (c.in_ok-plan.ensures.answer c.args.text.now (search rules)) (c.leak-plan.ensures.value ∙ c.in-Ok.ensures.ok)
