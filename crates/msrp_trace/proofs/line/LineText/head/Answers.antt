use Rattle.std.proofs.Common.{◌∙◌}
use Rattle.msrp_trace.proofs.Records.{five_made, head-is}
use Rattle.msrp_trace.proofs.line.LineText.head.Goals as goal

pub returns : goal.returns
returns c =
    let two = rw c.version_word.ensures.word at c.next.ensures.text in
    let three = rw c.cores.ensures.value at c.next_number.ensures.text in
    let four = rw c.ticks.ensures.value at c.next_number-2.ensures.text in
    five_made _ _ _ _ _ _ _ _ _ _ _ (c.self.view_is ∙ c.requires) c.add.ensures.text two three four c.add-2.ensures.text ∙ head-is c.args.version c.args.plan.now
