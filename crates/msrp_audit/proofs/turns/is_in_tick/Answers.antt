use Rattle.std.proofs.Common.{◌≡◌, ◌*◌, ◌+◌, ◌-◌, ◌/◌, ◌∙◌}
use Rattle.msrp_plan.proofs.Common.{sym, ap, arith, inl, inr, eq-eqb, cases_lt, lt-ltb, le-ltb, div-add-mod', mod_below, not_equal}
use Rattle.msrp_audit.proofs.Judging.{tick_now}
use Rattle.msrp_audit.proofs.turns.is_in_tick.Goals as goal

pub returns-then-first-index : goal.returns-then-first-index
returns-then-first-index c = λ some.
    let cores = c.args.cores in
    let i = c.args.index in
    let first = c.args.tick * cores in
    let low = c.if-first-index.true in
    elim (cases_lt i (first + cores)) [
      | inl lt ↦ lt-ltb i (first + cores) lt ∙ sym (eq-eqb c.args.tick (i / cores) (tick_now c.args.tick cores (i - first) i (omega (arith, lt, low, some)) (omega (arith, low))))
      | inr ge ↦
          let whole = div-add-mod' i cores in
          let rest = mod_below i cores some in
          le-ltb i (first + cores) ge
          ∙ sym (not_equal c.args.tick (i / cores) (λ e. let same : first ≡ i / cores * cores = ap (λ n. n * cores) e in absurd (omega (arith, whole, rest, same, ge))))
    ]
