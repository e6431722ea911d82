use Rattle.std.proofs.Common.{◌++◌}
use Rattle.msrp_plan.proofs.Common.{List, ℕ, subst, take}
use Rattle.msrp_text.specs.Plain.{EndsLine}
use Rattle.msrp_text.specs.Records.{bytes_ahead}
use Rattle.msrp_text.proofs.Fronts.{begins-taken, line-unfed}
use Rattle.msrp_text.proofs.records.RecordReader.meets_apart.Goals as goal

pub returns-in-Some-clause-begins : goal.returns-in-Some-clause-begins
returns-in-Some-clause-begins g c = λ yes rest is.
    let met = rw c.ahead-2.ensures at c.in-Some.ensures.line in
    let ended = subst (λ (t : List ℕ). EndsLine (c.args.front.now ++ t) (take c.in-Some.taken (bytes_ahead c.args.self.now))) (line-unfed c.args.line.now rest is) met.2 in
    begins-taken (c.args.front.now ++ rest) (bytes_ahead c.args.self.now) c.in-Some.taken ended

pub returns-in-Some-clause-line : goal.returns-in-Some-clause-line
returns-in-Some-clause-line g c = λ yes rest is plain bytes number read.
    let met = rw c.ahead-2.ensures at c.in-Some.ensures.line in
    let ended = subst (λ (t : List ℕ). EndsLine (c.args.front.now ++ t) (take c.in-Some.taken (bytes_ahead c.args.self.now))) (line-unfed c.args.line.now rest is) met.2 in
    c.take_line.ensures.line (c.args.front.now ++ rest) bytes number ended plain read.taken
