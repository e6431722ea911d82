use Rattle.std.proofs.Common.{◌∙◌}
use Rattle.msrp_plan.proofs.Common.{None, ap, not}
use Rattle.msrp_plan.specs.Runs.{same_choice}
use Rattle.msrp_events.specs.Choices.{choice}
use Rattle.msrp_events.specs.Findings.{fault_if}
use Rattle.msrp_events.specs.declared.findings.LogRule.TheVariants.{E8}
use Rattle.msrp_event_audit.proofs.findings.choice_finding.Goals as goal

pub returns : goal.returns
returns c = c.fault_if.ensures ∙ ap (λ b. fault_if (not b) E8 None) (c.is_same_choice.ensures ∙ ap (same_choice c.args.job) (c.choice-expected.ensures ∙ ap (λ js. choice c.args.system.now js c.args.core.0) c.deref.ensures.value))
