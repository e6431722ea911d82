use Rattle.std.proofs.Common.{◌≡◌}
use Rattle.msrp_plan.proofs.Common.{map}
use Rattle.csv.specs.Records.{fields_of}
use Rattle.msrp_advice.specs.Records.{is_sought, last_place}
use Rattle.msrp_advice.proofs.records.earlier_record.Given as goal

abbrev pub invariant-loop-i : goal.invariant-loop-i
invariant-loop-i l = l.last ≡ last_place (is_sought l.fault (map fields_of l.before) (fields_of l.row)) l.i
