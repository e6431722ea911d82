use Rattle.msrp_events.specs.Changes.{first_state}
use Rattle.msrp_events.proofs.WiderTolerances.{log_keeps}
use Rattle.msrp_events.proofs.laws.tolerance.Goals as goal

pub returns : goal.returns
returns c = record {
  log = λ system narrow wide events wider h. log_keeps system narrow wide wider (first_state system) events h;
  window = λ system narrow wide s events wider h. log_keeps system narrow wide wider s events h;
}
