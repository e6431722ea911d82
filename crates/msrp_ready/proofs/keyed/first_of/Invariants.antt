use Rattle.std.proofs.Common.{◌++◌}
use Rattle.msrp_plan.proofs.Common.{take, option_to_list}
use Rattle.msrp_ready.proofs.Common.{entry_keys}
use Rattle.msrp_ready.proofs.Ahead.{IsFirstOf}
use Rattle.msrp_ready.proofs.keyed.first_of.Given as goal

abbrev pub invariant-loop-entry : goal.invariant-loop-entry
invariant-loop-entry l = IsFirstOf l.first (option_to_list l.fn.one ++ take l.entry-index (entry_keys l.plan l.entries))
