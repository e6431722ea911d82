use Rattle.msrp_plan.proofs.Common.{[], None, get_or-replicate}
use Rattle.msrp_plan.specs.Limits.{most_cores, most_resources, most_tasks}
use Rattle.msrp_export.specs.Signals.{counts_of, use_of}
use Rattle.msrp_export.proofs.summary.Summary.new.Goals as goal

pub returns : goal.returns
returns c = record {
  last_rows = λ k low. get_or-replicate most_cores k None None low;
  tasks = λ t low. get_or-replicate most_tasks t (counts_of t []) (counts_of t []) low;
  uses = λ g low. get_or-replicate most_resources g (use_of g []) (use_of g []) low;
}
