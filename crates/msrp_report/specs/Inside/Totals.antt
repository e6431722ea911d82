-- The line of a task, job by job.
use Rattle.std.specs.Prelude.{◌+◌, ◌^◌, ◌<◌, if◌then◌else◌}
use Rattle.msrp_plan.specs.Common.{max}
use Rattle.msrp_report.specs.Common.{JobNumbers, Line}

-- with one more job
abbrev pub line_with : JobNumbers → Line → Line
line_with n l = record l {
  finished = l.finished + (if n.finished then 1 else 0);
  late = l.late + (if n.late then 1 else 0);
  worst_response = max l.worst_response n.response;
  spin = l.spin + n.spins;
  worst_spin = max l.worst_spin n.longest_wait;
  blocked = l.blocked + n.blocked;
  worst_blocked = max l.worst_blocked n.blocked;
}

-- one more job can be counted
pub record HasSpace (n : JobNumbers) (l : Line) : Type 0 where
  pub finished : l.finished + 1 < 2 ^ 32
  pub late : l.late + 1 < 2 ^ 32
  pub spin : l.spin + n.spins < 2 ^ 32
  pub blocked : l.blocked + n.blocked < 2 ^ 32
