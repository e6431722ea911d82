use Rattle.std.proofs.Common.{◌≡◌, ◌≤◌, ◌+◌, ◌∙◌}
use Rattle.msrp_plan.proofs.Common.{cond, Some, length, get_or, vec_len, rules, ap, sym, arith, spin_bound, wait_bound}
use Rattle.msrp_levels.specs.declared.usage.Usage.{Usage}
use Rattle.msrp_levels.proofs.Longest.{spin_bound-le}
use Rattle.msrp_levels.proofs.Stored.{read_spin, spins_stored}
use Rattle.msrp_levels.proofs.outermost.wait_of.Goals as goal

pub index-requires : goal.index-requires
index-requires c =
    let g = c.in-Lock.res.0 in
    let usage : Usage = get_or c.args.usages.now g c.index-usages-res.result in
    let many : vec_len usage.spins ≡ length usage.spins.items = search rules in
    let size = spins_stored c.args.plan.now g usage (c.requires.usages.each g c.index-usages-res.result (rw c.in-Lock.is at c.requires.known)) in
    omega (arith, many, size, c.requires.core)

-- what is read is the bound
spin : (c : goal.After-row_known-1) → c.index.result.now ≡ spin_bound c.args.plan.now c.in-Lock.res.0 c.args.core.0
spin c =
    let g = c.in-Lock.res.0 in
    read_spin c.args.plan.now g c.args.core.0 _ c.index.result.now (c.requires.usages.each g c.index-usages-res.result (rw c.in-Lock.is at c.requires.known)) c.requires.core c.index.ensures

small : (c : goal.After-row_known-1) → 1 + c.index.result.now ≤ 32777
small c = let most = spin_bound-le c.args.plan.now c.requires.plan c.in-Lock.res.0 c.args.core.0 in omega (arith, most, spin c)

pub overflow_add-result : goal.overflow_add-result
overflow_add-result c = let most = small c in omega (arith, most)

pub returns-then-is_global-clause-value : goal.returns-then-is_global-clause-value
returns-then-is_global-clause-value c =
    let bound = spin_bound c.args.plan.now c.in-Lock.res.0 c.args.core.0 in
    ap (λ n. 1 + n) (spin c)
    ∙ (ap (λ b. cond b (1 + bound) 0) (sym c.if-is_global.true ∙ c.is_global.ensures) ∙ ap (λ u. wait_bound c.args.plan.now c.args.core.0 (Some u)) (sym c.in-Lock.is))

pub returns-then-is_global-clause-small : goal.returns-then-is_global-clause-small
returns-then-is_global-clause-small c = small c
