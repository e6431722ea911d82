-- What the events show, where more events follow.
use Rattle.std.proofs.Common.{◌≡◌, List, [], ◌∷◌, ◌++◌, Option, Some, None, refl, ap, ◌∙◌}
use Rattle.std.specs.Option.{option_or}
use Rattle.msrp_plan.specs.Plan.{PlanModel}
use Rattle.msrp_events.specs.Changes.{LogState, state_with, state_from}
use Rattle.msrp_events.specs.Findings.{finding_of, finding_from}
use Rattle.msrp_events.specs.declared.events.Event.{Event}
use Rattle.msrp_events.specs.declared.findings.Finding.{Finding}
use Rattle.msrp_events.specs.declared.states.Tolerances.{Tolerances}

or_assoc : {X : Type 0} (a b c : Option X) → option_or a (option_or b c) ≡ option_or (option_or a b) c
or_assoc None b c = refl
or_assoc (Some x) b c = refl

-- the first thing that a list shows is that of its first part, else that of the rest from the state
-- between
pub finding-append : (system : PlanModel) (tolerances : Tolerances) (s : LogState) (start rest : List Event)
    → finding_from system tolerances s (start ++ rest) ≡ option_or (finding_from system tolerances s start) (finding_from system tolerances (state_from system s start) rest)
finding-append system tolerances s [] rest = refl
finding-append system tolerances s (e ∷ start) rest =
    ap (option_or (finding_of system tolerances s e)) (finding-append system tolerances (state_with system s e) start rest)
    ∙ or_assoc (finding_of system tolerances s e) _ _

pub rest_shows : (system : PlanModel) (tolerances : Tolerances) (s : LogState) (start rest : List Event) → finding_from system tolerances s start ≡ None
    → finding_from system tolerances s (start ++ rest) ≡ finding_from system tolerances (state_from system s start) rest
rest_shows system tolerances s start rest h = finding-append system tolerances s start rest ∙ ap (λ x. option_or x (finding_from system tolerances (state_from system s start) rest)) h

pub start_shows : (system : PlanModel) (tolerances : Tolerances) (s : LogState) (start rest : List Event) (found : Finding) → finding_from system tolerances s start ≡ Some found
    → finding_from system tolerances s (start ++ rest) ≡ Some found
start_shows system tolerances s start rest found h = finding-append system tolerances s start rest ∙ ap (λ x. option_or x (finding_from system tolerances (state_from system s start) rest)) h
