use Rattle.msrp_event_audit.proofs.Accepted.{all_placed}
use Rattle.msrp_event_audit.proofs.jobs.place_of.Goals as goal

pub returns-clause-within : goal.returns-clause-within
returns-clause-within c = all_placed c.args.jobs.now c.args.job c.find.result c.find.ensures
