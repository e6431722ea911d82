-- The words that most definitions and contracts use, imported from one place. Declares nothing.
pub use Rattle.msrp_plan.specs.Actions.{allows, does_next, does_unit, does_unit_after, is_global_unit, res_of_unit, same_res}
pub use Rattle.msrp_plan.specs.Aheads.{carries_ahead, carries_its_ahead, without_ahead}
pub use Rattle.msrp_plan.specs.Blocking.{blocked, blocks, continues, count_after, first_later, is_amid, section_of}
pub use Rattle.msrp_plan.specs.Bounds.{blocked_bound, in_section, out, section, section_start, spin_bound}
pub use Rattle.msrp_plan.specs.Building.{empty_plan, finish_fault, is_within, nests_global, new_fault, new_task, op_fault, release_fault, resource_fault, takes_releases, task_fault, units_of, with_release, with_resource, with_task, with_units}
pub use Rattle.msrp_plan.specs.Bytes.{Wrote, sink_failed, source_failed, source_remaining, WroteSome}
pub use Rattle.msrp_plan.specs.Calls.{IsDueCall, ResCall, ahead_of_call, claim_after, claim_with, kind_of_call}
pub use Rattle.msrp_plan.specs.Ceiling.{ceiling, is_held_on, is_queued_on, resources}
pub use Rattle.msrp_plan.specs.Choice.{choice, chosen, comes_first, head, is_before, key_cmp, least, running}
pub use Rattle.msrp_plan.specs.Codes.{code_of}
pub use Rattle.msrp_plan.specs.FifoLock.{Answers, FifoLock, Legal, free_lock, lock_after}
pub use Rattle.msrp_plan.specs.Jobs.{done, holds, is_finished, is_job, is_queued, is_released, is_row_of, is_started, is_waiting, job_at, jobs, jobs_of, jobs_on, same_job}
pub use Rattle.msrp_plan.specs.Kinds.{same_kind}
pub use Rattle.msrp_plan.specs.Laws.{IsWait, MutualExclusion, is_grant, is_grant_of, is_spin, is_spin_of}
pub use Rattle.msrp_plan.specs.Levels.{greatest, is_global, level, level_of, local_ceiling, top, uses}
pub use Rattle.msrp_plan.specs.Limits.{most_cores, most_jobs, most_resources, most_rows, most_tasks}
pub use Rattle.msrp_plan.specs.Logs.{ascending, core_order, is_of, log_of, rows_on}
pub use Rattle.msrp_plan.specs.Names.{has_name, name_position}
pub use Rattle.msrp_plan.specs.Plan.{PlanModel, TaskModel, core_of, key, no_task, release, release_tick, task_at, task_of, units}
pub use Rattle.msrp_plan.specs.Queues.{counts, fifo, is_behind, is_first, is_free, is_on, is_release, is_release_of, is_reply_of, is_request, replies, requester}
pub use Rattle.msrp_plan.specs.ReleaseTimes.{AreTimes, Every, Listed, ReleaseTimes, listed_ticks}
pub use Rattle.msrp_plan.specs.Runs.{CoreRun, EachAfter, IsCoreTurn, IsLegal, IsRun, IsRunStart, had_turn, is_chosen, is_fifo_reply, is_in_turn, is_next_action, is_of_core, replies_on, same_choice}
pub use Rattle.msrp_plan.specs.Scheduling.{IsDueCore, IsOrder}
pub use Rattle.msrp_plan.specs.Shape.{ahead_of_kind, has_shape, is_queue, job_of_kind, may_carry, res_of_kind}
pub use Rattle.msrp_plan.specs.States.{JobState, state_after}
pub use Rattle.msrp_plan.specs.Stretches.{HasWork, in_tick}
pub use Rattle.msrp_plan.specs.Units.{held_after, held_with, holds_after, is_lock_of, is_unlock_of, locks, unlocks}
pub use Rattle.msrp_plan.specs.Verdict.{fault_in, verdict}
pub use Rattle.msrp_plan.specs.WellFormed.{IsLocking, IsNestedAt, IsPlan}
pub use Rattle.msrp_plan.specs.Words.{rule_text, verdict_text}
pub use Rattle.std.specs.Char.{is_ascii_digit}
pub use Rattle.std.specs.List.{All, AllByRecursion, Contains, cons_option, filter, filter_map, flat_map, list_all, list_any, prefix_len, range_with_len, sum_by}
pub use Rattle.std.specs.List.Sorted.{IsNonDecreasingBy, IsPermutation}
pub use Rattle.std.specs.Map.{values_of}
pub use Rattle.std.specs.Option.{ForSome, IsSomeAnd, option_and_then, option_or}
pub use Rattle.std.specs.Ordering.{is_lt, nat_cmp, ordering_then}
pub use Rattle.std.specs.Prelude.{Bool, Err, IfErr, IfNone, IfOk, IfSome, IsOkAnd, IsSome, IsTrue, List, None, Ok, OnErr, OnOk, Option, Some, [], codes, cond, count_by, decimal, drop, false, find, fold, get_or, is_none, is_some, length, map, max, min, nat_eq, nat_le, nat_lt, not, ok_or, option_map, replicate, reverse, set, slice_get, slice_index, slice_index_or, slice_range, slice_set, string_bytes, suc, take, true, unwrap_or, vec_capacity, vec_len, zero, ℕ, ⊤}
pub use Rattle.std.specs.Str.{bytes_eq}
pub use Rattle.std.specs.declared.alloc.Global.{Global}
pub use Rattle.std.specs.declared.result.Result.{Result}
pub use Rattle.std.specs.declared.string.String.{String}
