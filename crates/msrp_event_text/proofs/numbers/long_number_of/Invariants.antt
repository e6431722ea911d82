use Rattle.std.proofs.Common.{◌≡◌, ◌^◌, ◌<◌}
use Rattle.msrp_plan.proofs.Common.{drop}
use Rattle.msrp_text.proofs.Digits.{digits_from}
use Rattle.msrp_text.specs.Fields.{digits_value}
use Rattle.msrp_event_text.proofs.numbers.long_number_of.Given as goal

abbrev pub invariant-loop-digit : goal.invariant-loop-digit
invariant-loop-digit l = record {
  small : l.number < 10 ^ l.digit-index;
  value : digits_from l.number (drop l.digit-index l.text) ≡ digits_value l.text;
}
