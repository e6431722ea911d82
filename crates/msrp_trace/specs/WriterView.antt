-- What a clause sees of a writer of trace text, and what its fields hold.
use Rattle.msrp_plan.specs.Common.{All}
use Rattle.msrp_trace.specs.Gathering.{WriterModel}
use Rattle.msrp_trace.specs.Lines.{AreResTexts, IsLine}
use Rattle.msrp_trace.specs.declared.writing.TraceWriter.TheInside.{Inside}

abbrev pub writer_view : Inside → WriterModel
writer_view w = record { plan = w.plan.now; version = w.version; text = w.page }

-- the stored text of each core's last row is that of the row, and those of the resources are theirs
pub record IsWriterView (w : Inside) : Type 0 where
  pub lines : All (IsLine w.version w.plan.now) w.lines
  pub res : AreResTexts w.plan.now w.res
