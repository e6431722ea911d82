use Rattle.std.proofs.lemmas.List.Elements.{All-set}
use Rattle.msrp_trace.specs.Lines.{IsLine}
use Rattle.msrp_trace.proofs.writing.show_line.Goals as goal

pub returns-clause-after : goal.returns-clause-after
returns-clause-after c = All-set (IsLine c.args.version c.args.plan.now) c.args.lines.now c.args.core c.show.new.self c.show.ensures.after c.requires.before
