use Rattle.std.proofs.Common.{◌≡◌}
use Rattle.msrp_plan.specs.Common.{true, is_of_core}
use Rattle.std.proofs.lemmas.List.Elements.{recursion_from_All}
use Rattle.msrp_plan.proofs.Legality.Locality.{choice_local, does_next_local}
use Rattle.msrp_plan.proofs.Legality.ReplyLocality.{fifo_local, reply_local}
use Rattle.msrp_plan.proofs.definitions.locality.Goals as goal

pub returns : goal.returns
returns c = record {
  choice = λ plan c t pre own. choice_local plan c t pre (recursion_from_All (λ r. is_of_core plan r ≡ true) pre own);
  action = λ plan pre r own mine. does_next_local plan r.core.0 pre r.job r (recursion_from_All (λ r. is_of_core plan r ≡ true) pre own) mine;
  queue = fifo_local;
  reply = reply_local;
}
