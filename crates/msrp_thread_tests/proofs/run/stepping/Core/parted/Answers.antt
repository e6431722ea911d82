use Rattle.std.proofs.Common.{◌<◌, ◌∙◌}
use Rattle.msrp_plan.proofs.Common.{[], refl, arith, ap}
use Rattle.msrp_board.specs.declared.books.BoardSize.{BoardSize}
use Rattle.msrp_merge.specs.Turns.{LogModel}
use Rattle.msrp_run.proofs.Threading.{next_seat, others_less}
use Rattle.msrp_thread_tests.proofs.Stepping.{at_first}
use Rattle.msrp_thread_tests.proofs.run.stepping.Core.parted.Goals as goal

pub returns-clause-ready : goal.returns-clause-ready
returns-clause-ready c =
    let board = c.args.board.now in
    let plan = c.args.plan.now in
    let core = c.args.core.0 in
    let machine = c.in_ok-machine.machine in
    let many = ap (λ (z : BoardSize). z.cores) c.requires.size in
    let known = c.requires.core in
    let low : core < board.size.cores = omega (arith, many, known) in
    let own = next_seat board core core c.args.others c.split-seat.result.0 c.requires.others refl low c.split-seat.ensures.core in
    let log_is = c.in_ok-log.ensures ∙ ap (λ n. let l : LogModel = record { core = core; ticks = n; turns = [] } in l) c.ticks.ensures.value in
    let some = c.ticks.ensures.plan.draft.ticks.0 in
    at_first board plan core machine c.in_ok-log.log c.split-seat.result.0 c.in_ok-machine.ensures.plan c.in_ok-machine.ensures.core c.in_ok-machine.ensures.stands log_is c.requires.size (omega (arith, some)) own.0 own.1

pub returns-clause-rest : goal.returns-clause-rest
returns-clause-rest c = others_less c.args.board.now c.args.core.0 c.args.core.0 c.args.others c.split-seat.result.1 c.requires.others refl c.split-seat.ensures.rest
