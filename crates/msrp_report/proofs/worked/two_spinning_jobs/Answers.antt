use Rattle.msrp_plan.proofs.Common.{refl, good_is_run}
use Rattle.msrp_report.proofs.Common.{digits, report_text}
use Rattle.msrp_report.proofs.worked.two_spinning_jobs.Goals as goal

pub returns-clause-run : goal.returns-clause-run
returns-clause-run c = good_is_run _ _ refl

pub returns-clause-text : goal.returns-clause-text
unfolding report_text digits
returns-clause-text c = refl
