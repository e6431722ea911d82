use Rattle.std.proofs.Common.{◌≡◌}
use Rattle.msrp_plan.proofs.Common.{rules, None}
use Rattle.msrp_text.proofs.Remaining.{read-gives, stops-only}
use Rattle.msrp_text.proofs.csv_records.CsvRecords.read.Goals as goal

pub stopped_by-why-requires : goal.stopped_by-why-requires
stopped_by-why-requires g c =
    let old = c.args.self.now in
    let goes : old.stopped ≡ None = search rules in
    rw c.kind.ensures (stops-only g.R.Read.remaining old.rows c.read_byte_record.new.self _ (old.flexible goes) (old.ready goes) c.in-Err.ensures.why)

pub returns-in-Ok-clause-next : goal.returns-in-Ok-clause-next
returns-in-Ok-clause-next g c =
    let old = c.args.self.now in
    let goes : old.stopped ≡ None = search rules in
    λ left e. read-gives g.R.Read.remaining old.rows c.read_byte_record.new.self _ _ left (old.trim goes) (old.config goes) (old.ready goes) c.in-Ok.ensures.reads e
