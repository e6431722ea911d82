use Rattle.std.proofs.Common.{◌≡◌, ◌+◌, ◌<◌, ◌∷◌, ◌∙◌}
use Rattle.msrp_plan.proofs.Common.{rules, ℕ, suc, List, arith, subst, sym, ap, get_or, length, vec_len, vec_items, into_iter_items, into_iter_len, PlanModel}
use Rattle.msrp_run.proofs.Common.{Aborted, AreNewParts, ArePromised, BoardSize, CoreParts, HasOthers, HasRest, IsPromise}
use Rattle.msrp_run.proofs.Threading.{promised_more}
use Rattle.msrp_run.proofs.threads.start_all.Goals as goal

-- the first of the parts that are left are those of the next core
next_parts : (plan : PlanModel) (done left : ℕ) (items rest : List CoreParts) (parts : CoreParts) → ((k : ℕ) (d : CoreParts) → k < left → AreNewParts plan (done + k) (get_or items k d)) → items ≡ parts ∷ rest → 0 < left → AreNewParts plan done parts
next_parts plan done left items rest parts each is some = subst (λ n. AreNewParts plan n parts) (omega arith) (subst (AreNewParts plan (done + 0)) (ap (λ xs. get_or xs 0 parts) is) (each 0 parts some))

-- and each behind it is that of its core
later_parts : (plan : PlanModel) (done now left k : ℕ) (items rest : List CoreParts) (parts d : CoreParts) → ((k : ℕ) (d : CoreParts) → k < left → AreNewParts plan (done + k) (get_or items k d)) → items ≡ parts ∷ rest → suc k < left → now ≡ done + 1 → AreNewParts plan (now + k) (get_or rest k d)
later_parts plan done now left k items rest parts d each is low next = subst (λ n. AreNewParts plan n (get_or rest k d)) (omega (arith, next)) (subst (λ xs. AreNewParts plan (done + suc k) (get_or xs (suc k) d)) is (each (suc k) d low))

pub start_next-requires-clause-parts : goal.start_next-requires-clause-parts
start_next-requires-clause-parts g c =
    let was = c.loop-parts.invariant in
    let step = c.in-Some.ensures.steps in
    let is = next_parts c.args.plan.now (vec_len c.loop-parts.handles) _ (into_iter_items c.loop-parts.parts-iterator) _ c.in-Some.parts was.1 step.0 (omega (arith, step.1)) in
    λ κs outlive. subst (λ n. AreNewParts c.args.plan.now n c.in-Some.parts) (sym is.core) is

pub start_next-requires-clause-core : goal.start_next-requires-clause-core
start_next-requires-clause-core g c =
    let was = c.loop-parts.invariant in
    let step = c.in-Some.ensures.steps in
    let some : 0 < into_iter_len c.loop-parts.parts-iterator = omega (arith, step.1) in
    let is = next_parts c.args.plan.now (vec_len c.loop-parts.handles) _ (into_iter_items c.loop-parts.parts-iterator) _ c.in-Some.parts was.1 step.0 some in
    let few = c.requires.count in
    let size = ap (λ (z : BoardSize). z.cores) c.requires.size in
    let left = was.0 in
    λ κs outlive. omega (arith, is.core, few, size, left, some)

pub start_next-requires-clause-others : goal.start_next-requires-clause-others
start_next-requires-clause-others g c =
    let was = c.loop-parts.invariant in
    let step = c.in-Some.ensures.steps in
    let is = next_parts c.args.plan.now (vec_len c.loop-parts.handles) _ (into_iter_items c.loop-parts.parts-iterator) _ c.in-Some.parts was.1 step.0 (omega (arith, step.1)) in
    λ κs outlive. subst (λ n. HasOthers c.args.board.now n c.loop-parts.others) (sym is.core) was.4

pub loop-parts-preserved : goal.loop-parts-preserved
loop-parts-preserved g c =
    let was = c.loop-parts.invariant in
    let step = c.in-Some.ensures.steps in
    let board = c.args.board.now in
    let plan = c.args.plan.now in
    let done = vec_len c.loop-parts.handles in
    let is = next_parts plan done _ (into_iter_items c.loop-parts.parts-iterator) _ c.in-Some.parts was.1 step.0 (omega (arith, step.1)) in
    let here : done ≡ length (vec_items c.loop-parts.handles) = grind rules in
    let promise : IsPromise board plan (length (vec_items c.loop-parts.handles)) c.in-Ok.handle.promise = subst (λ n. IsPromise board plan n c.in-Ok.handle.promise) (is.core ∙ here) c.in-Ok.ensures.started.0 in
    let count : vec_len c.push_reserved.new.self ≡ done + 1 = search rules in (
      search rules,
      (λ k d low. later_parts plan done _ _ k (into_iter_items c.loop-parts.parts-iterator) _ c.in-Some.parts d was.1 step.0 (omega (arith, step.1, low)) count),
      subst (λ hs. ArePromised board plan hs) (sym c.push_reserved.ensures.items) (promised_more board plan (vec_items c.loop-parts.handles) c.in-Ok.handle was.2 promise),
      search rules,
      subst (λ n. HasOthers board n c.in-Ok.rest) (sym count) (subst (λ n. HasOthers board (n + 1) c.in-Ok.rest) is.core c.in-Ok.ensures.started.1),
    )

pub returns-in-Err-clause-rest : goal.returns-in-Err-clause-rest
returns-in-Err-clause-rest g c =
    let was = c.loop-parts.invariant in
    let step = c.in-Some.ensures.steps in
    let is = next_parts c.args.plan.now (vec_len c.loop-parts.handles) _ (into_iter_items c.loop-parts.parts-iterator) _ c.in-Some.parts was.1 step.0 (omega (arith, step.1)) in
    subst (λ n. HasRest c.args.board.now n Aborted c.in-Err.rest) is.core c.in-Err.ensures.refused
