use Rattle.msrp_plan.proofs.Common.{rules, ℕ, List, [], ap, arith, map, range_with_len, sym, job_at}
use Rattle.std.proofs.Common.{◌≡◌, ◌∷◌, ◌++◌, ◌∙◌}
use Rattle.msrp_picture.proofs.Common.{JobId, life_of}
use Rattle.msrp_picture.proofs.Growing.{grows-map2}
use Rattle.msrp_picture.proofs.lives.push_lives.Goals as goal

pub loop-k-preserved : goal.loop-k-preserved
loop-k-preserved c =
    let each = life_of c.args.scene.now.plan.now c.args.scene.now.rows.now in
    let pushed : c.push.new.self.items ≡ c.loop-k.lives.items ++ c.life_of.result ∷ [] = search rules in
    grows-map2 each (job_at c.args.task.0) c.loop-k.k c.args.lives.now.items _ _ c.loop-k.invariant (pushed ∙ ap (λ x. c.loop-k.lives.items ++ x ∷ []) c.life_of.ensures)

pub returns : goal.returns
returns c =
    let last : c.loop-k.k ≡ c.jobs-k-end.result = omega arith in
    let jobs = ap (λ (n : ℕ). map (job_at c.args.task.0) (range_with_len 0 n)) last ∙ sym c.jobs-k-end.ensures.numbered in
    c.loop-k.invariant ∙ ap (λ (js : List JobId). c.args.lives.now.items ++ map (life_of c.args.scene.now.plan.now c.args.scene.now.rows.now) js) jobs
