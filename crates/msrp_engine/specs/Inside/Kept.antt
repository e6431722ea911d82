-- The stored rows of the cores, and their texts, while rows are judged.
use Rattle.std.specs.Prelude.{◌≡◌, ◌<◌, ◌%◌}
use Rattle.msrp_plan.specs.Common.{ℕ, List, true, Some, PlanModel, in_tick, Option, None, slice_index_or}
use Rattle.msrp_plan.specs.declared.rows.Row.{Row}
use Rattle.msrp_plan.specs.declared.rows.TextVersion.{TextVersion}
use Rattle.msrp_sim.specs.Cores.{CoresModel, known_row}
use Rattle.msrp_trace.specs.Gathering.{after_tick}
use Rattle.msrp_trace.specs.Laws.{as_read, is_short, is_told_whole}
use Rattle.msrp_trace.specs.Texts.{TextsModel, text_of_core}

-- the text is the row's, without its tick, and in each tick it reads back as that row
pub record IsKept (version : TextVersion) (plan : PlanModel) (text : List ℕ) (r : Row) : Type 0 where
  pub is : text ≡ after_tick version plan (as_read version r)
  pub whole : (t : ℕ) → is_short t ≡ true → is_told_whole version plan (in_tick t (as_read version r)) ≡ true

-- the stored row of a core
abbrev pub row_of_core : List (Option Row) → ℕ → Option Row
row_of_core lasts core = slice_index_or lasts (core % 8) None

-- the text is that of the row, and if the core's next row is known, it is this one in another tick
pub record KeepsRow (version : TextVersion) (plan : PlanModel) (cores : CoresModel) (core : ℕ) (text : List ℕ) (last : Row) : Type 0 where
  pub kept : IsKept version plan text last
  pub known : (r : Row) → known_row cores core ≡ Some r → r ≡ in_tick r.tick last

-- each core's stored row is so
abbrev pub KeepsRows : TextVersion → PlanModel → CoresModel → TextsModel → List (Option Row) → Type 0
KeepsRows version plan cores texts lasts = (c : ℕ) → c < plan.cores → (last : Row) → row_of_core lasts c ≡ Some last → KeepsRow version plan cores c (text_of_core texts c) last
