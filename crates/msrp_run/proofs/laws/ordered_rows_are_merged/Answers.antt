use Rattle.std.proofs.Common.{◌∙◌}
use Rattle.msrp_plan.proofs.Common.{ap}
use Rattle.msrp_run.proofs.Common.{rows_of, turns_of}
use Rattle.msrp_merge.proofs.OneMerge.{one_merge}
use Rattle.msrp_merge.proofs.Runs.{are_turns}
use Rattle.msrp_run.proofs.laws.ordered_rows_are_merged.Goals as goal

pub returns : goal.returns
returns c = λ plan books rows is.
    (is.logs, is.fit, is.rows_are ∙ ap rows_of (one_merge plan.cores plan.ticks (turns_of is.logs) is.turns (are_turns plan is.logs books is.fit) is.sorted))
