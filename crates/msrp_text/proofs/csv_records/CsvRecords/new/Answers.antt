use Rattle.msrp_text.proofs.Remaining.{left-new}
use Rattle.msrp_text.proofs.csv_records.CsvRecords.new.Goals as goal

pub returns-clause-left : goal.returns-clause-left
returns-clause-left g c = left-new _ _ _ c.from_reader-rows.ensures.state c.from_reader-rows.ensures.source
