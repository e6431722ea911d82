-- Text on its way to a sink: what is gathered, and what is written.
use Rattle.std.specs.Prelude.{◌≡◌, ◌++◌}
use Rattle.msrp_plan.specs.Common.{ℕ, List, codes, decimal, Option, flat_map, PlanModel, Wrote}
use Rattle.msrp_plan.specs.Words.{kind_text}
use Rattle.msrp_plan.specs.declared.rows.Row.{Row}
use Rattle.msrp_plan.specs.declared.rows.TextVersion.{TextVersion}
use Rattle.msrp_plan.specs.declared.bytes.Sink.{Sink}
use Rattle.msrp_trace.specs.TraceText.{ahead_fields, job_text, res_text, task_text}

-- a page and its sink took a text: what the page hasn't kept of both texts was written
pub record Gathers {W : Type 0} (contents : W → Option (List ℕ)) (before : List ℕ) (old : Sink W) (after : List ℕ) (new : Sink W) (text : List ℕ) : Type 0 where
  pub written : List ℕ
  pub wrote : Wrote contents old new written
  pub rest : before ++ text ≡ written ++ after

-- a writer of trace text: the plan and the version, and what is gathered and not written yet
pub record WriterModel : Type 0 where
  pub plan : PlanModel
  pub version : TextVersion
  pub text : List ℕ

-- a field of a record that isn't the first
unfoldable pub next_field : List ℕ → List ℕ
next_field text = codes "," ++ text

-- the record of a row after its tick
abbrev pub after_tick : TextVersion → PlanModel → Row → List ℕ
after_tick version plan r =
    ((((next_field (decimal r.core.0) ++ next_field (kind_text r.kind)) ++ (next_field (task_text plan r.job) ++ next_field (job_text r.job))) ++ next_field (res_text plan r.res)) ++ flat_map next_field (ahead_fields version r.ahead)) ++ codes "\n"
