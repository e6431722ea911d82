use Rattle.std.proofs.Common.{◌∙◌}
use Rattle.msrp_plan.proofs.Common.{sym, subst}
use Rattle.msrp_c.proofs.Lengths.{long-numbered, short-numbered}
use Rattle.msrp_c.specs.Names.{TellsNumber}
use Rattle.msrp_c.proofs.names.msrp_resource_number.Goals as goal

pub returns-then-is_long : goal.returns-then-is_long
returns-then-is_long c = long-numbered _ _ _ _ _ _ (sym c.is_long.ensures ∙ c.if-is_long.true) c.tell_number.ensures

pub returns : goal.returns
returns c = short-numbered _ _ c.res_of-what.result _ _ _ _ (sym c.is_long.ensures ∙ c.if-is_long.false) c.res_of-what.ensures (subst (λ what. TellsNumber what c.args.number.now c.tell_number-2.new.number c.tell_number-2.new.found c.tell_number-2.result) c.unfailed.ensures c.tell_number-2.ensures)
