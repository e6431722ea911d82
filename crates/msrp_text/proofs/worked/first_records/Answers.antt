use Rattle.msrp_plan.proofs.Common.{refl}
use Rattle.std.specs.Str.{chars, is_utf8}
use lib.Utf8.{encode}
use Rattle.csv.proofs.OnLiterals.{csv_on_literals}
use Rattle.csv.specs.Records.{field_at}
use Rattle.msrp_text.specs.Reading.{fault_after, plan_of, plan_told}
use Rattle.msrp_text.proofs.worked.first_records.Goals as goal

pub returns : goal.returns
unfolding csv_on_literals field_at is_utf8 chars encode fault_after plan_of plan_told
returns c = record { nothing = refl; another_version = refl; both_versions = refl; second_version = refl; version_alone = refl; two_numbers = refl; leading_zero = refl; ten_digits = refl; nine_cores = refl; too_many_ticks = refl }
