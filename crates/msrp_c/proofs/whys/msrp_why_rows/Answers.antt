use Rattle.std.proofs.Common.{◌∙◌}
use Rattle.msrp_plan.proofs.Common.{sym, subst}
use Rattle.msrp_c.proofs.Lengths.{long-words, short-given}
use Rattle.msrp_c.proofs.Reasons.{reasons-unfailed}
use Rattle.msrp_c.specs.Whys.{HandsWords, refusal_in, words_in}
use Rattle.msrp_c.proofs.whys.msrp_why_rows.Goals as goal

pub returns-then-is_long : goal.returns-then-is_long
returns-then-is_long c = long-words _ _ _ _ _ _ _ (sym c.is_long.ensures ∙ c.if-is_long.true) c.hand_words.ensures

pub returns : goal.returns
returns c = short-given refusal_in words_in _ _ c.explained_rows-words.result _ _ _ _ _ (reasons-unfailed _ c.args.rows.now _ c.explained_rows-words.ensures) (sym c.is_long.ensures ∙ c.if-is_long.false) c.explained_rows-words.ensures (subst (λ words. HandsWords words c.args.text.now c.hand_words-2.new.text c.hand_words-2.new.needed c.hand_words-2.new.found c.hand_words-2.result) c.unfailed.ensures c.hand_words-2.ensures)
