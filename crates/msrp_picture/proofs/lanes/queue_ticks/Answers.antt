-- Rows that are taken tick by tick.
use Rattle.std.proofs.Common.{◌≡◌, ◌+◌, ◌-◌, ◌*◌, ◌≤◌, ◌++◌, ◌∙◌, take-append-drop}
use Rattle.msrp_plan.proofs.Common.{ℕ, PlanModel, List, [], ap, sym, arith, take, drop, subst, drop-take, take-take, fifo}
use Rattle.msrp_picture.proofs.Common.{HasTaken, Row, first_of, rows_in, slice_range}
use Rattle.msrp_picture.proofs.Growing.{grows-each}
use Rattle.msrp_picture.proofs.lanes.queue_ticks.Goals as goal

split-rows : (rows : List Row) (m n : ℕ) → m ≤ n → take m rows ++ slice_range rows m n ≡ take n rows
split-rows rows m n l =
    let rest : m + (n - m) ≡ n = omega (arith, l) in
    ap (λ xs. xs ++ slice_range rows m n) (sym (take-take m n rows l))
    ∙ (ap (λ xs. take m (take n rows) ++ xs) (sym (ap (λ k. drop m (take k rows)) (sym rest) ∙ drop-take m (n - m) rows)) ∙ take-append-drop m (take n rows))

-- the rows of one tick more
next-rows : (plan : PlanModel) (rows : List Row) (t : ℕ) → take (t * plan.cores) rows ++ rows_in plan rows t ≡ take ((t + 1) * plan.cores) rows
next-rows plan rows t = let more : t * plan.cores ≤ (t + 1) * plan.cores = grind arith in split-rows rows (t * plan.cores) ((t + 1) * plan.cores) more

pub loop-tick-preserved : goal.loop-tick-preserved
loop-tick-preserved c =
    let plan = c.args.scene.now.plan.now in
    let rows = c.args.scene.now.rows.now in
    let t = c.loop-tick.tick in
    let g = c.args.res in
    let f = λ (u : ℕ). first_of g u (fifo g.0 (take ((u + 1) * plan.cores) rows)) in
    let taken = subst (λ (xs : List Row). HasTaken c.take_all.new.requests g.0 xs) (ap (λ xs. take (t * plan.cores) rows ++ xs) c.rows_in.ensures ∙ next-rows plan rows t) (c.in_ok-take_all.ensures _ _ c.loop-tick.invariant.taken) in
    record {
      taken = taken;
      ticks = grows-each f t [] _ _ c.loop-tick.invariant.ticks (c.in_ok-push_first.ensures ∙ ap (λ queue. c.loop-tick.ticks.items ++ first_of g t queue) (c.queue.ensures g.0 _ taken));
    }
