use Rattle.std.proofs.Common.{◌+◌}
use Rattle.msrp_plan.proofs.Common.{IfOk, IfErr, subst, sym, Ok, Err}
use Rattle.std.specs.declared.result.Result.{Result}
use Rattle.msrp_run.proofs.Common.{Aborted, HasOthers, HasRest, IsPromise}
use Rattle.msrp_run.proofs.Threading.{has_next, next_seat, others_less, parts_are_new}
use Rattle.msrp_run.proofs.threads.start_next.Goals as goal

pub split-seat-requires-clause-book : goal.split-seat-requires-clause-book
split-seat-requires-clause-book g c = has_next c.args.board.now c.args.parts.machine.core c.core-core.result.0 c.args.others c.requires.others c.core-core.ensures c.requires.core

pub start-requires-clause-new : goal.start-requires-clause-new
start-requires-clause-new g c =
    let n = c.args.parts.machine.core in
    let own = next_seat c.args.board.now n c.core-core.result.0 c.args.others c.split-seat.result.0 c.requires.others c.core-core.ensures c.requires.core c.split-seat.ensures.core in
    λ κs outlive. parts_are_new c.args.board.now c.args.plan.now n c.args.parts c.split-seat.result.0 c.requires.parts c.requires.size own.1 own.0

pub start-requires-clause-others : goal.start-requires-clause-others
start-requires-clause-others g c =
    let less = others_less c.args.board.now c.args.parts.machine.core c.core-core.result.0 c.args.others c.split-seat.result.1 c.requires.others c.core-core.ensures c.split-seat.ensures.rest in
    λ κs outlive. subst (λ n. HasOthers c.args.board.now (n + 1) c.split-seat.result.1) (sym c.core-core.ensures) less

-- what a good answer says, said in other words
in_words : {T E : Type 0} (r : Result T E) (P Q : T → Type 0) → IfOk r P → ((v : T) → P v → Q v) → IfOk r Q
in_words (Ok v) P Q h f = f v h
in_words (Err e) P Q h f = tt

pub returns-clause-started : goal.returns-clause-started
returns-clause-started g c =
    let board = c.args.board.now in
    let n = c.args.parts.machine.core in
    let less = others_less board n c.core-core.result.0 c.args.others c.split-seat.result.1 c.requires.others c.core-core.ensures c.split-seat.ensures.rest in
    in_words c.start.result _ _ c.start.ensures.started (λ r h. (subst (λ k. IsPromise board c.args.plan.now k r.0.promise) c.core-core.ensures h.0, subst (HasOthers board (n + 1)) (sym h.1) less))

pub returns-clause-refused : goal.returns-clause-refused
returns-clause-refused g c = subst (λ n. IfErr c.start.result (λ seat. HasRest c.args.board.now n Aborted seat)) c.core-core.ensures c.start.ensures.refused
