use Rattle.msrp_plan.proofs.Common.{refl}
use Rattle.std.specs.Str.{chars, is_utf8}
use lib.Utf8.{encode}
use Rattle.csv.proofs.OnLiterals.{csv_on_literals}
use Rattle.csv.specs.Records.{field_at}
use Rattle.msrp_text.specs.Reading.{fault_after, plan_of, plan_told}
use Rattle.msrp_text.proofs.worked.units.Goals as goal

pub returns : goal.returns
unfolding csv_on_literals field_at is_utf8 chars encode fault_after plan_of plan_told
returns c = record { no_task = refl; word_missing = refl; unknown_word = refl; run_of_none = refl; no_such_resource = refl }
