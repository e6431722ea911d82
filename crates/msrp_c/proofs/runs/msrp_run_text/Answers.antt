use Rattle.msrp_plan.proofs.Common.{Err, refl, subst, sym}
use Rattle.msrp_faults.specs.declared.faults.CliFault.TheVariants.{Usage}
use Rattle.msrp_c.specs.Contents.{settled_in}
use Rattle.msrp_c.specs.Hosting.{IsTold}
use Rattle.msrp_c.specs.Numbers.{version_named}
use Rattle.msrp_c.proofs.runs.msrp_run_text.Goals as goal

pub returns-in_default-clause-text : goal.returns-in_default-clause-text
returns-in_default-clause-text c = record {
  made = Err Usage;
  is = subst (λ x. IsTold (settled_in x) (version_named c.args.version) (Err Usage)) (sym c.take.ensures.none) refl;
  found = c.hand_over.new.found;
  hands = c.hand_over.ensures;
}
