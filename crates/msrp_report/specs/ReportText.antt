-- A report as text, in its version 2.
use Rattle.std.specs.Prelude.{◌∷◌, ◌++◌}
use Rattle.msrp_plan.specs.Common.{ℕ, List, [], codes, decimal, length, slice_index_or, flat_map, range_with_len, PlanModel, task_at}
use Rattle.msrp_text.specs.PlanText.{record_text}
use Rattle.msrp_report.specs.Common.{Line}

-- used in place of a line that a report lacks
abbrev pub no_line : Line
no_line = record { jobs = 0; finished = 0; late = 0; worst_response = 0; spin = 0; worst_spin = 0; blocked = 0; worst_blocked = 0; spin_bound = 0; blocked_bound = 0 }

-- a task by its number: its name, its core, and its line
abbrev pub line_record : PlanModel → ℕ → Line → List (List ℕ)
line_record plan t l =
    (task_at plan t).name ∷ decimal (task_at plan t).core ∷ decimal l.jobs ∷ decimal l.finished ∷ decimal l.late ∷ decimal l.worst_response ∷ decimal l.spin ∷ decimal l.worst_spin
    ∷ decimal l.blocked ∷ decimal l.worst_blocked ∷ decimal l.spin_bound ∷ decimal l.blocked_bound ∷ []

-- the first n lines of a report, as text
abbrev pub lines_text : PlanModel → List Line → ℕ → List ℕ
lines_text plan lines n = flat_map (λ t. record_text (line_record plan t (slice_index_or lines t no_line))) (range_with_len 0 n)

-- the version, then each task
unfoldable pub report_text : PlanModel → List Line → List ℕ
report_text plan lines = record_text (codes "msrp-report" ∷ codes "2" ∷ []) ++ lines_text plan lines (length plan.tasks)
