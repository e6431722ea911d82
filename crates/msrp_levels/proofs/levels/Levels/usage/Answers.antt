use Rattle.msrp_levels.proofs.Stored.{read_usage}
use Rattle.msrp_levels.proofs.levels.Levels.usage.Goals as goal

pub returns : goal.returns
returns c = read_usage c.self.inside.plan.now c.args.self.now c.self.inside.usages.items c.args.res.0 c.index.result.now c.self.view_is c.self.invariant.usages c.requires c.index.ensures
