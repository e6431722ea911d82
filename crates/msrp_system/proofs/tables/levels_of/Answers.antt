use Rattle.std.proofs.Common.{◌+◌, ◌++◌, ◌∷◌, ◌∙◌}
use Rattle.msrp_plan.proofs.Common.{[], nat_lt, count_by, List, ℕ, map, take, sym, ap, arith, task_at, no_task, level_of}
use Rattle.std.proofs.lemmas.List.{map_more}
use Rattle.msrp_system.proofs.tables.levels_of.Goals as goal

pub loop-t-preserved : goal.loop-t-preserved
loop-t-preserved c =
    let plan = c.args.parts.now in
    let level =
    c.level_among.ensures
    ∙ (ap (λ (ds : List ℕ). count_by (nat_lt c.deadline.result) ds + 1) c.deref.ensures.value
    ∙ (ap (λ d. count_by (nat_lt d) c.in_ok-deadlines.deadlines.items + 1) c.deadline.ensures ∙ c.in_ok-deadlines.ensures.levels (task_at plan c.loop-t.t))) in
    record {
      levels = c.push_reserved.ensures.items ∙ (ap (λ (ls : List ℕ). ls ++ c.level_among.result ∷ []) c.loop-t.invariant.levels ∙ (ap (λ n. map (level_of plan) (take c.loop-t.t plan.tasks) ++ n ∷ []) level ∙ sym (map_more (level_of plan) plan.tasks c.loop-t.t no_task (omega arith))));
      room = c.push_reserved.ensures.capacity ∙ c.loop-t.invariant.room;
    }
