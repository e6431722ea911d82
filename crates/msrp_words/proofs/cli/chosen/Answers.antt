use Rattle.msrp_words.proofs.Grammar.{chosen_named}
use Rattle.msrp_words.proofs.cli.chosen.Goals as goal

pub returns-in-Some : goal.returns-in-Some
returns-in-Some c = chosen_named c.args.matches.now c.in-Some.word.now c.in-Some.words.now c.command_named.result c.in-Some.ensures.name c.in-Some.ensures.rows c.command_named.ensures
