-- What most proofs of this crate cite, passed on from one place. Declares nothing.
pub use Rattle.msrp_engine.proofs.Answered.{from_plan, settled_from_plan}
pub use Rattle.msrp_engine.proofs.Judging.{IsFound, unopened-found}
pub use Rattle.msrp_engine.proofs.RowsJudged.{HaveCome, broken-found, came-good, end-found, error-found, fewer-turns, next-gives, none-came, row-came}
pub use Rattle.msrp_faults.specs.declared.faults.CliFault.TheVariants.{Memory, Memory as NoMemory, Read, Read as ReadFault}
pub use Rattle.msrp_trace.proofs.ReadThrough.{Answers, IsError, IsReadTo, none-read, opened, read-refused, read-row, read-whole, unopened}
pub use Rattle.msrp_view_engine.specs.Answers.{AreOnTrace, BeginsRow, BeginsWith, ExportAnswers, IsDrawingOf, IsExplainedOf, IsJudged, WhyAnswers, WritesDrawing, WritesWords, export_answer, is_record_fault, plan_found, rows_in, rows_read, verdict_on}
pub use Rattle.msrp_view_engine.specs.Common.{AreNoted, AuditorModel, BeginsIn, CliFault, Fault, HasReadBehind, HasReadIn, IsBroken, IsCauseAfter, Opens, OrUnread, Row, Sink, TextError, Told, TraceError, answer_of, answered, csv_records, fault_of, fields_of, finding, finding_of, found_in, plan_of, rows_of, told_left, trace_fault_of}
