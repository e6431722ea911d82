use Rattle.msrp_plan.proofs.Common.{refl}
use Rattle.msrp_merge.proofs.Keeping.{shown}
use Rattle.msrp_merge.proofs.kept.Kept.turn.Goals as goal

pub returns : goal.returns
returns c = shown c.args.core.0 c.args.tick c.args.self.now _ c.place-place.result refl refl refl c.job-job.ensures c.res-res.ensures c.ahead-ahead.ensures c.place-place.ensures
