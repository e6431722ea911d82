use Rattle.std.proofs.Common.{◌∙◌}
use Rattle.msrp_plan.proofs.Common.{ap, codes, map, not_equal, sym}
use Rattle.csv.specs.Records.{fields_of}
use Rattle.msrp_text.specs.Reading.{record_at}
use Rattle.msrp_advice.specs.Records.{core_after, core_at, is_op_on}
use Rattle.msrp_advice.proofs.Places.{core-more, record-is}
use Rattle.msrp_advice.proofs.nested.is_shared.Goals as goal

pub loop-k-preserved : goal.loop-k-preserved
loop-k-preserved c =
    let row = c.index-records-k.result in
    c.core_after-core.ensures ∙ (ap (core_after (fields_of row)) c.loop-k.invariant ∙ core-more c.args.records.now c.loop-k.k row c.loop-k-test.true c.index-records-k.is)

pub returns-then-is_op_on : goal.returns-then-is_op_on
returns-then-is_op_on c = λ shared.
    let rows = c.args.records.now in
    let records = map fields_of rows in
    let lock = record-is rows c.args.lock c.index-records-lock.result c.requires c.index-records-lock.is in
    let row = record-is rows c.loop-k.k c.index-records-k.result c.loop-k-test.true c.index-records-k.is in
    record {
      place = c.loop-k.k;
      locks = sym (c.is_op_on.ensures ∙ (ap (λ fields. is_op_on (codes "lock") fields (fields_of c.index-records-k.result)) lock ∙ ap (is_op_on (codes "lock") (record_at records c.args.lock)) row)) ∙ c.if-is_op_on.true;
      elsewhere = not_equal (core_at rows c.loop-k.k) (core_at rows c.args.lock) (λ same. c.if-core-own.true (c.loop-k.invariant ∙ (same ∙ sym c.core_at-own.ensures)));
    }
