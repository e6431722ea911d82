use Rattle.msrp_plan.proofs.Runs.Verdicts.{good_is_run, run_is_good, fault_is, fault_found, unbroken_is_legal, legal_is_unbroken, early_fault, early_found}
use Rattle.msrp_plan.proofs.definitions.verdicts.Goals as goal

pub returns : goal.returns
returns c = record {
  good = λ plan rows. (good_is_run plan rows, run_is_good plan rows);
  fault = λ plan rows f. (fault_is plan rows f, fault_found plan rows f);
  early = λ plan rows f. (early_fault plan rows f, early_found plan rows f);
  row = λ plan pre r. (unbroken_is_legal plan pre r, legal_is_unbroken plan pre r);
}
