use Rattle.msrp_core.proofs.jobs.Jobs.act_chosen.Goals as goal

pub returns-clause-quiet : goal.returns-clause-quiet
returns-clause-quiet g c = c.action_of-action.ensures.quiet c.args.tick c.row_doing.result c.row_doing.ensures
