use Rattle.std.proofs.Common.{◌-◌, ◌∷◌}
use Rattle.msrp_plan.proofs.Common.{[], length, take, Decides-eqb}
use Rattle.std.proofs.lemmas.Slice.Eq.{ends_is}
use Rattle.msrp_text.proofs.front.ends_line.Goals as goal

pub returns-clause-ended : goal.returns-clause-ended
returns-clause-ended c = λ yes. (take (length c.args.text.now - 1) c.args.text.now, (ends_is Decides-eqb c.args.text.now (10 ∷ []) _ c.ends_with.ensures.value).0 yes)

pub returns-clause-finds : goal.returns-clause-finds
returns-clause-finds c = λ rest is. (ends_is Decides-eqb c.args.text.now (10 ∷ []) _ c.ends_with.ensures.value).1 rest is
