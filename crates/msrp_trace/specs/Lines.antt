-- A core's last record, without its tick.
use Rattle.std.specs.Prelude.{◌≡◌, ◌≤◌, ◌++◌, ◌&&◌, ◌==◌}
use Rattle.msrp_plan.specs.Common.{length, ℕ, List, Option, Some, Bool, is_none, All, same_res, PlanModel, same_choice}
use Rattle.msrp_plan.specs.declared.rows.Row.{Row}
use Rattle.msrp_plan.specs.declared.rows.TextVersion.{TextVersion}
use Rattle.msrp_plan.specs.declared.ids.JobId.{JobId}
use Rattle.std.specs.Option.{IfSome}
use Rattle.msrp_trace.specs.Gathering.{after_tick, next_field}
use Rattle.msrp_trace.specs.TraceText.{job_text, res_text, task_text}
use Rattle.msrp_trace.specs.declared.job.JobText.{JobText}
use Rattle.msrp_trace.specs.declared.line.CoreText.{CoreText}
use Rattle.msrp_trace.specs.declared.line.RowLine.{RowLine}
use Rattle.msrp_trace.specs.declared.res.ResText.{ResText}
use Rattle.msrp_trace.specs.declared.res.ResTexts.{ResTexts}

-- two rows of the same core, job and resource, without aheads
abbrev pub is_same_place : Row → Row → Bool
is_same_place a b = a.core.0 == b.core.0 && (same_choice a.job b.job && (same_res a.res b.res && (is_none a.ahead && is_none b.ahead)))

-- the two fields of a job in the record of a row
abbrev pub job_fields : PlanModel → Option JobId → List ℕ
job_fields plan job = next_field (task_text plan job) ++ next_field (job_text job)

-- the text is that of the job
abbrev pub IsJobText : PlanModel → JobText → Type 0
IsJobText plan kept = IfSome kept.job (λ j. kept.text ≡ job_fields plan (Some j))

-- the text is that of the resource, a comma and a name
abbrev pub IsResText : PlanModel → ResText → Type 0
IsResText plan kept = IfSome kept.res (λ g. (kept.text ≡ next_field (res_text plan (Some g))) × (length kept.text ≤ 17))

-- the stored texts are those of the resources
abbrev pub AreResTexts : PlanModel → ResTexts → Type 0
AreResTexts plan texts = All (IsResText plan) texts.kept

-- the stored text is that of the job that the core ran last
pub record IsCoreText (plan : PlanModel) (kept : CoreText) : Type 0 where
  pub job : IsJobText plan kept.job

-- the text is that of the row
pub record IsLine (version : TextVersion) (plan : PlanModel) (kept : RowLine) : Type 0 where
  pub fits : IfSome kept.row (λ r. kept.text.line ≡ after_tick version plan r)
  pub text : IsCoreText plan kept.text
