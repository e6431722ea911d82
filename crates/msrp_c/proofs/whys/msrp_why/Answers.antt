use Rattle.std.proofs.Common.{◌∙◌}
use Rattle.msrp_plan.proofs.Common.{sym, subst}
use Rattle.msrp_c.proofs.Lengths.{long-answered, short-answered}
use Rattle.msrp_c.specs.Answers.{Hands}
use Rattle.msrp_c.proofs.whys.msrp_why.Goals as goal

pub returns-then-are_long : goal.returns-then-are_long
returns-then-are_long c = long-answered _ _ _ _ _ _ _ (sym c.are_long.ensures ∙ c.if-are_long.true) c.hand_over.ensures

pub returns : goal.returns
returns c = short-answered _ _ c.explained-made.result _ _ _ _ _ (sym c.are_long.ensures ∙ c.if-are_long.false) c.explained-made.ensures (subst (λ made. Hands made c.args.text.now c.hand_over-2.new.text c.hand_over-2.new.needed c.hand_over-2.new.found c.hand_over-2.result) c.unfailed.ensures c.hand_over-2.ensures)
