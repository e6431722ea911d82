use Rattle.msrp_plan.proofs.Common.{refl}
use Rattle.std.specs.Str.{chars, is_utf8}
use lib.Utf8.{encode}
use Rattle.csv.proofs.OnLiterals.{csv_on_literals}
use Rattle.csv.specs.Records.{field_at}
use Rattle.msrp_text.specs.Reading.{fault_after, plan_of, plan_told}
use Rattle.msrp_text.proofs.worked.tasks.Goals as goal

pub returns : goal.returns
unfolding csv_on_literals field_at is_utf8 chars encode fault_after plan_of plan_told
returns c = record { three_numbers = refl; capital = refl; no_such_core = refl; no_period = refl; no_unit = refl; used_name = refl; record_first = refl }
