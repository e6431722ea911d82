-- What this crate cites from others, passed on from one place. Declares nothing.
pub use Rattle.csv.specs.Records.{fields_of}
pub use Rattle.msrp_audit.specs.Audits.{AuditorModel, HasFed, IsBroken, answer_of}
pub use Rattle.msrp_engine.specs.Answered.{Answered, Ends, IsDone, IsVerdict, OfText, OfTexts, OrUnread, ReadsBoth}
pub use Rattle.msrp_engine.specs.AuditText.{verdict_status}
pub use Rattle.msrp_engine.specs.Findings.{finding, finding_of}
pub use Rattle.msrp_engine.specs.Judging.{rows_left}
pub use Rattle.msrp_engine.specs.MadeTexts.{found_in}
pub use Rattle.msrp_engine.specs.declared.made.Made.{Made}
pub use Rattle.msrp_faults.specs.Outcomes.{answered, fault_of, is_audit_fault, is_plan_code, is_plan_fault, is_sim_fault, is_trace_code, is_trace_fault, is_view_fault, trace_fault_of}
pub use Rattle.msrp_faults.specs.declared.faults.CliFault.{CliFault}
pub use Rattle.msrp_picture.specs.Rows.{window_of}
pub use Rattle.msrp_plan.specs.declared.bytes.Sink.{Sink}
pub use Rattle.msrp_plan.specs.declared.faults.Fault.{Fault}
pub use Rattle.msrp_plan.specs.Verdict.{missing}
pub use Rattle.msrp_plan.specs.declared.rows.Row.{Row}
pub use Rattle.msrp_text.specs.Lines.{BeginsIn}
pub use Rattle.msrp_text.specs.Reading.{csv_records, plan_of}
pub use Rattle.msrp_text.specs.declared.reading.TextError.{TextError}
pub use Rattle.msrp_trace.specs.Readers.{HasReadBehind, HasReadIn, Opens, told_left}
pub use Rattle.msrp_trace.specs.Reading.{Told, rows_of}
pub use Rattle.msrp_trace.specs.declared.faults.TraceError.{TraceError}
pub use Rattle.msrp_why.specs.Causes.{IsCauseAfter, IsCauseIn}
pub use Rattle.msrp_why.specs.Noted.{AreNoted}
