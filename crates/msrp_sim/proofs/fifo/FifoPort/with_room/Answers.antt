use Rattle.std.proofs.Common.{◌≡◌, ◌≤◌, ◌*◌, ◌∙◌}
use Rattle.msrp_plan.proofs.Common.{ℕ, [], length, ap, sym, arith, rules, vec_capacity, mul-le-mul_left, mul-le-mul_right}
use Rattle.msrp_sim.proofs.fifo.FifoPort.with_room.Goals as goal

-- the greatest number of calls
most : (cores ticks : ℕ) → cores ≤ 8 → ticks ≤ 20000 → cores * ticks ≤ 160000
most cores ticks a b = let x = mul-le-mul_right ticks a in let y = mul-le-mul_left 8 b in omega (arith, x, y)

pub invariant_of-result : goal.invariant_of-result
invariant_of-result c =
    let empty : c.in_ok-with_capacity.field-0.items ≡ [] = search rules in
    let exact : vec_capacity c.in_ok-with_capacity.field-0 ≡ c.cores.result * c.ticks.result = search rules in
    let plan = c.cores.ensures.plan in
    let cores = c.cores.ensures.value in
    let ticks = c.ticks.ensures.value in
    let few = most c.cores.result c.ticks.result (let n = plan.draft.cores in omega (arith, n, cores)) (let n = plan.draft.ticks in omega (arith, n, ticks)) in
    record {
      fifo = rw empty (λ g. tt);
      serving = rw empty c.new.ensures.serving;
      drawn = rw empty c.new.ensures.drawn;
      resources = let n = plan.draft.resources in let r = c.resources.ensures.value in omega (arith, n, r);
      known = rw empty (search rules);
      room =
          let l = ap length empty in
          let all = c.rooms_of.ensures.all in
          let again = c.cores-2.ensures.value in
          let ends = c.ticks-2.ensures.value in
          let same : c.cores-2.result * c.ticks-2.result ≡ c.cores.result * c.ticks.result = ap (λ n. n * c.ticks-2.result) (again ∙ sym cores) ∙ ap (λ n. c.cores.result * n) (ends ∙ sym ticks) in
          omega (arith, l, all, same, exact);
      size = omega (arith, exact, few);
    }
