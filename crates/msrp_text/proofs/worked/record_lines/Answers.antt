use Rattle.msrp_plan.proofs.Common.{refl, codes}
use Rattle.csv.proofs.OnLiterals.{csv_on_literals}
use Rattle.msrp_text.specs.Lines.{ends_behind}
use Rattle.msrp_text.specs.Records.{records_at}
use Rattle.msrp_text.proofs.worked.record_lines.Goals as goal

pub returns : goal.returns
unfolding csv_on_literals records_at ends_behind
returns c = record {
  first = record { before = codes ""; rest = codes "a\nb\n"; text_is = refl; begins = refl; records = refl; line_is = refl };
  second = record { before = codes "a\n"; rest = codes "b\n"; text_is = refl; begins = refl; records = refl; line_is = refl };
  returns = record { before = codes "a\r\r"; rest = codes "b"; text_is = refl; begins = refl; records = refl; line_is = refl };
  both = record { before = codes "a\r\n\r\n"; rest = codes "b"; text_is = refl; begins = refl; records = refl; line_is = refl };
  front = record { before = codes "\n\n"; rest = codes "a"; text_is = refl; begins = refl; records = refl; line_is = refl };
  in_quotes = record { before = codes "\"a\n\"\n"; rest = codes "b"; text_is = refl; begins = refl; records = refl; line_is = refl };
}
