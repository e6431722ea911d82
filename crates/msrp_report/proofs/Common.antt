-- What most proofs of this crate cite, passed on from one place. Declares nothing.
pub use Rattle.msrp_levels.proofs.PlanJobs.{job_in}
pub use Rattle.msrp_plan.proofs.Blocking.Sound.{before_due, head_ready, sound_at, unstarted}
pub use Rattle.msrp_plan.proofs.Choosing.Live.{live, live_kept}
pub use Rattle.msrp_plan.proofs.Lists.AnyAll.{all_flat, in_range}
pub use Rattle.msrp_plan.specs.Blocking.{ComesAfter, ComesBefore, blocks, is_by}
pub use Rattle.msrp_plan.specs.Bounds.{blocked_bound, out}
pub use Rattle.msrp_plan.specs.Laws.{is_grant, is_grant_of, is_spin, is_spin_of}
pub use Rattle.msrp_plan.specs.declared.ids.JobId.{JobId}
pub use Rattle.msrp_plan.specs.declared.rows.Kind.{Kind}
pub use Rattle.msrp_plan.specs.declared.rows.Kind.TheVariants.{Grant, Queue, Spin}
pub use Rattle.msrp_plan.specs.declared.rows.Row.{Row}
pub use Rattle.msrp_report.specs.Inside.Counts.{CanCount, HasRoom, counted, counted_as, uncounted, wait_with}
unfoldable pub use Rattle.msrp_report.specs.Inside.Counts.{count_of}
pub use Rattle.msrp_report.specs.Inside.Numbers.{numbers_of}
pub use Rattle.msrp_report.specs.Inside.Tallies.{AreActive, AreActiveOf, AreReleases, AreTallies, Counts, HasReleased, HasTallied, HaveBegun, IsBlocking, IsFirstOf, IsJobTally, IsKnown, IsNextOf, IsNextRelease, IsOver, IsSinceRelease, IsTallyOf, IsTaskTally, NotBefore, ToldOf, WaitsFor, blocking_by, due_count, is_active, is_due, is_later_active, release_or_end, same_task}
pub use Rattle.msrp_report.specs.Inside.Totals.{line_with}
pub use Rattle.msrp_report.specs.Lines.{is_granted, is_late, is_queue_of, last_tick, line_of, line_over, lines_of, longest_wait, response, spins, spins_to_grant, task_spin_bound}
pub use Rattle.msrp_report.specs.ReportText.{line_record, lines_text, no_line}
unfoldable pub use Rattle.msrp_report.specs.ReportText.{report_text}
pub use Rattle.msrp_report.specs.Reports.{HasCounted}
pub use Rattle.msrp_report.specs.declared.counts.JobCount.{JobCount}
pub use Rattle.msrp_report.specs.declared.lines.Line.{Line}
pub use Rattle.msrp_report.specs.declared.tallies.Blocking.{Blocking}
pub use Rattle.msrp_report.specs.declared.tallies.Blocking.TheVariants.{By, Over}
pub use Rattle.msrp_report.specs.declared.tallies.JobTally.{JobTally}
pub use Rattle.msrp_report.specs.declared.tallies.NextRelease.{NextRelease}
pub use Rattle.msrp_report.specs.declared.tallies.Tallies.{Tallies}
pub use Rattle.msrp_report.specs.declared.tallies.TaskTally.{TaskTally}
pub use Rattle.msrp_report.specs.declared.tallies.active.CoreJobs.{CoreJobs}
pub use Rattle.msrp_sim.proofs.Standing.{get_set_other, get_set_same}
pub use Rattle.std.proofs.Math.Dec.{eqb}
pub use Rattle.std.proofs.lemmas.List.Elements.{All-cons, All-get_or, filter_passes}
pub use Rattle.std.proofs.lemmas.List.Sorted.{IsNonDecreasingBy-from_sort, IsNonDecreasingBy-insert, IsPermutation-insert, answers_always, sum_by-IsPermutation}
unfoldable pub use Rattle.std.specs.Fmt.{digits}
pub use Rattle.std.specs.List.{copy_within}
unfoldable pub use Rattle.std.specs.List.{IsDistinct}
