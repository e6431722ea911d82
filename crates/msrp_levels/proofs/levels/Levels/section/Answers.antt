use Rattle.msrp_plan.proofs.Common.{arith}
use Rattle.msrp_levels.proofs.Stored.{cores_stored, read_section}
use Rattle.msrp_levels.proofs.levels.Levels.section.Goals as goal

pub index-requires : goal.index-requires
index-requires c =
    let size = cores_stored c.args.self.now c.args.res.0 c.usage.result.now c.usage.ensures in
    omega (arith, size, c.requires.core)

pub returns : goal.returns
returns c = read_section c.args.self.now c.args.res.0 c.args.core.0 c.usage.result.now c.index.result.now c.usage.ensures c.requires.core c.index.ensures
