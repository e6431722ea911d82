use Rattle.msrp_plan.proofs.Common.{refl}
use Rattle.std.specs.Str.{chars, is_utf8}
use lib.Utf8.{encode}
use Rattle.csv.proofs.OnLiterals.{csv_on_literals}
use Rattle.csv.specs.Records.{field_at}
use Rattle.msrp_text.specs.Reading.{fault_after, plan_of, plan_told}
use Rattle.msrp_text.proofs.worked.release_lists.Goals as goal

pub returns : goal.returns
unfolding csv_on_literals field_at is_utf8 chars encode fault_after plan_of plan_told
returns c = record { listed = refl; of_version_one = refl; release_of_version_one = refl; falling = refl; twice = refl; too_late = refl; no_tick = refl; two_ticks = refl; bare = refl; bare_run_of_none = refl; bare_lock = refl; bare_number = refl; bare_word = refl; bare_then_misnamed = refl; after_units = refl; first = refl; no_deadline = refl; no_number = refl; unknown = refl; misspelt = refl }
