use Rattle.std.proofs.Common.{◌∙◌, ◌∷◌}
use Rattle.msrp_plan.proofs.Common.{length, ap, []}
use Rattle.msrp_merge.proofs.Common.{turns_of}
use Rattle.msrp_merge.proofs.Coming.{merged_length}
use Rattle.msrp_merge.proofs.tests.a_handover_is_merged.Goals as goal

pub gathered-requires : goal.gathered-requires
gathered-requires g c = ap length c.in-Ok.ensures ∙ merged_length (turns_of (c.log_of.result ∷ c.log_of-2.result ∷ [])) 2 6
