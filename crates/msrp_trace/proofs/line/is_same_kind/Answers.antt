use Rattle.std.proofs.Common.{◌∙◌}
use Rattle.msrp_plan.proofs.Common.{rules, sym}
use denote.Enum.Bare.{same_true}
use Rattle.msrp_plan.specs.contracts.rows.Kind.{the_type}
use Rattle.msrp_trace.proofs.line.is_same_kind.Goals as goal

pub returns : goal.returns
returns c is = same_true the_type (search rules) _ _ (sym c.eq.ensures ∙ is)
