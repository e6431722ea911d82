use Rattle.std.proofs.Common.{◌∙◌}
use Rattle.msrp_plan.proofs.Common.{false, map, sym, true}
use Rattle.csv.specs.Records.{fields_of}
use Rattle.msrp_advice.specs.Records.{is_sought}
use Rattle.msrp_advice.proofs.records.earlier_record.Goals.{then-is_sought, else-is_sought}
use Rattle.msrp_advice.proofs.Places.{last-more, last-none}
use Rattle.msrp_advice.proofs.records.earlier_record.Goals as goal

pub loop-i-init : goal.loop-i-init
loop-i-init c = last-none (is_sought c.args.fault (map fields_of c.args.before.now) (fields_of c.args.row.now))

pub loop-i-preserved : goal.loop-i-preserved
loop-i-preserved c =
    let test = is_sought c.args.fault (map fields_of c.args.before.now) (fields_of c.args.row.now) in
    elim c.if-is_sought.branch [
      | then-is_sought w ↦ w.last-is ∙ last-more test c.loop-i.i true (sym c.is_sought.ensures ∙ w.if-is_sought.true)
      | else-is_sought w ↦ w.last-is ∙ (c.loop-i.invariant ∙ last-more test c.loop-i.i false (sym c.is_sought.ensures ∙ w.if-is_sought.false))
    ]
