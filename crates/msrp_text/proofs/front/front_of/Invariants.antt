use Rattle.std.proofs.Common.{◌≡◌, ◌≤◌, ◌<◌}
use Rattle.msrp_plan.proofs.Common.{[], true, take, drop}
use Rattle.csv.specs.Records.{fields_of, partial_of}
use Rattle.msrp_text.specs.Plain.{IsInLine, is_plain}
use Rattle.msrp_text.proofs.PlainLines.{IsSplit}
use Rattle.msrp_text.proofs.front.front_of.Given as goal

abbrev pub invariant-loop-at : goal.invariant-loop-at
invariant-loop-at l = record {
  start : l.start ≤ l.at;
  before : IsInLine l.at l.text;
  plain : 0 < l.at → is_plain (take l.at l.text) ≡ true;
  whole : partial_of l.row ≡ [];
  fields : IsSplit (fields_of l.row) (drop l.start (take l.at l.text)) (take l.at l.text);
}
