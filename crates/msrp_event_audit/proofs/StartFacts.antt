-- An auditor that is given a fact of its start state.
use Rattle.std.proofs.Common.{◌≡◌, ◌≤◌, ◌∙◌}
use Rattle.msrp_plan.proofs.Common.{ℕ, Option, ap, arith, PlanModel}
use Rattle.msrp_events.specs.Changes.{LogState}
use Rattle.msrp_events.specs.declared.findings.Finding.{Finding}
use Rattle.msrp_events.specs.declared.states.Tolerances.{Tolerances}
use Rattle.msrp_event_audit.specs.Auditors.{AuditorModel}
use Rattle.msrp_event_audit.specs.StartStates.{CanStore, with_fact}
use Rattle.msrp_event_audit.specs.declared.facts.Fact.{Fact}
use Rattle.msrp_event_audit.specs.declared.facts.Fact.TheVariants.{Next, Job, Core, Free, Stopped}
use Rattle.msrp_event_audit.proofs.Feeding.{auditor_of}

-- more room does too
pub can_more : (fact : Fact) (s : LogState) (m n : ℕ) → m ≤ n → CanStore fact s m → CanStore fact s n
can_more (Next t number) s m n l can = can
can_more (Job j r) s m n l can = omega (arith, l, can)
can_more (Core c log) s m n l can = can
can_more (Free r time) s m n l can = can
can_more Stopped s m n l can = can

-- the state of an auditor after a fact
pub fact_view : (system : PlanModel) (tolerances : Tolerances) (s t : LogState) (finding : Option Finding) (a : AuditorModel) (fact : Fact) → auditor_of system tolerances s finding ≡ a → t ≡ with_fact s fact
    → auditor_of system tolerances t finding ≡ record a { state = with_fact a.state fact }
fact_view system tolerances s t finding a fact is told =
    ap (λ x. auditor_of system tolerances x finding) told ∙ ap (λ (b : AuditorModel). record b { state = with_fact b.state fact }) is
