-- The numbers of one job.
use Rattle.msrp_plan.specs.Common.{List, PlanModel, is_finished, blocked}
use Rattle.msrp_report.specs.Common.{JobId, JobNumbers, Row}
use Rattle.msrp_report.specs.Lines.{is_late, response, spins, longest_wait}

-- the numbers of a job
abbrev pub numbers_of : PlanModel → List Row → JobId → JobNumbers
numbers_of plan rows j = record {
  finished = is_finished plan rows j;
  late = is_late plan rows j;
  response = response plan rows j;
  spins = spins rows j;
  longest_wait = longest_wait j rows;
  blocked = blocked plan rows j;
}
