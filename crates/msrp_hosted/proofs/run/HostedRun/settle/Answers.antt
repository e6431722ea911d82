use Rattle.msrp_plan.proofs.Common.{rules, arith, sym, subst, ap, length, vec_len}
use Rattle.std.proofs.Common.{◌≡◌, ◌∙◌}
use Rattle.msrp_board.specs.Seats.{BoardModel}
use Rattle.msrp_run.proofs.Headline.{has_run}
use Rattle.msrp_hosted.specs.Inside.{IsOpened}
use Rattle.msrp_hosted.proofs.Hosting.{all_held, was_opened}
use Rattle.msrp_hosted.proofs.run.HostedRun.settle.Goals as goal

pub settle-settled-requires-clause-all : goal.settle-settled-requires-clause-all
settle-settled-requires-clause-all c =
    let i = c.self.invariant in
    let logs = c.self.inside.logs.items in
    let plan = c.self.inside.plan.now in
    let held = sym c.in-Some.is ∙ i.has in
    let rest_is : i.rest ≡ c.in-Some.rest = cc in
    let cores = c.cores-cores.ensures.value in
    let out = c.if-self-cores.false in
    let all : c.self.inside.handed ≡ plan.cores = omega (arith, out, cores) in
    let len : vec_len c.self.inside.logs ≡ length logs = grind rules in
    let count = c.len.ensures in
    let many_is = c.if-len-cores.false in
    let many : length logs ≡ plan.cores = omega (arith, len, count, many_is, cores) in
    all_held c.self.inside.board.value plan c.in-Some.rest logs (subst (λ s. IsOpened c.self.inside.board.value plan s logs) rest_is (i.opened all)) i.size many

pub invariant_of-result-2 : goal.invariant_of-result-2
invariant_of-result-2 c =
    let i = c.self.invariant in
    let e = c.settle-settled.ensures in
    let logs = c.self.inside.logs.items in
    let plan = c.self.inside.plan.now in
    let held = sym c.in-Some.is ∙ i.has in
    let rest_is : i.rest ≡ c.in-Some.rest = cc in
    let cores = c.cores-cores.ensures.value in
    let out = c.if-self-cores.false in
    let all : c.self.inside.handed ≡ plan.cores = omega (arith, out, cores) in
    let len : vec_len c.self.inside.logs ≡ length logs = grind rules in
    let count = c.len.ensures in
    let many_is = c.if-len-cores.false in
    let many : length logs ≡ plan.cores = omega (arith, len, count, many_is, cores) in
    let opened_is = subst (λ s. IsOpened c.self.inside.board.value plan s logs) rest_is (i.opened all) in
    let size = e.size ∙ ap (λ (b : BoardModel). b.size) c.in-Ok.ensures.ok ∙ i.size in
    let did = was_opened c.self.inside.board.value plan c.in-Some.rest logs c.settle-settled.result.conductor opened_is e.conductor in
    record {
      accepted = c.tasks-accepted.ensures.plan;
      run = has_run plan logs c.in-Some.rest c.settle-settled.result many opened_is.worked e.books e.running did size e.tied;
      size = size;
      tied = e.tied;
    }
