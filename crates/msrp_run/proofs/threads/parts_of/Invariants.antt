use Rattle.std.proofs.Common.{◌≡◌, ◌≤◌}
use Rattle.msrp_plan.proofs.Common.{vec_len, vec_items, vec_capacity}
use Rattle.msrp_run.proofs.Common.{AllAreNew}
use Rattle.msrp_run.proofs.threads.parts_of.Given as goal

abbrev pub invariant-loop-c : goal.invariant-loop-c
invariant-loop-c l = (vec_len l.all_parts ≡ l.c) × AllAreNew l.plan (vec_items l.all_parts) × (l.plan.cores ≤ vec_capacity l.all_parts)
