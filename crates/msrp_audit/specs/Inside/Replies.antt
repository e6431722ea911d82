-- A port for one turn, which answers yes to all, or no.
use Rattle.std.specs.Prelude.{if◌then◌else◌}
use Rattle.msrp_plan.specs.Common.{zero, suc, Bool, true, false, not}
use Rattle.msrp_plan.specs.declared.rows.Kind.{Kind}
use Rattle.msrp_plan.specs.declared.rows.Kind.TheVariants.{Take, Grant}
use Rattle.msrp_plan.specs.declared.units.Call.{Call}
use Rattle.msrp_plan.specs.declared.units.Call.TheVariants.{Ask, Poll, Leave}

-- the row says that its job holds the resource from now on
abbrev pub is_yes : Kind → Bool
is_yes Take = true
is_yes Grant = true
is_yes _ = false

-- the call is answered so; a release has no answer
abbrev pub is_answered : Bool → Call → Bool
is_answered answer (Ask zero) = answer
is_answered answer (Ask (suc n)) = not answer
is_answered answer (Poll granted) = if granted then answer else not answer
is_answered answer Leave = true
