use Rattle.std.proofs.Common.{◌≤◌, ◌∙◌}
use Rattle.msrp_plan.proofs.Common.{arith, eq-eqb, not_equal}
use Rattle.msrp_levels.specs.Usage.{core_use_at}
use Rattle.msrp_levels.proofs.Spins.{spin_on, spin_own, spin_unused}
use Rattle.msrp_levels.proofs.usage.spin_among.Goals as goal
use Rattle.msrp_levels.proofs.usage.spin_among.Goals.{then-d-core+then-other, else-d-core, else-d-core-via-then-d-core+else-other, else-d-core-via-else-d-core}

pub loop-d-preserved : goal.loop-d-preserved
loop-d-preserved c = elim c.if-d-core.branch [
  | then-d-core+then-other w ↦ let short : (core_use_at c.args.cores.now c.loop-d.d).section ≤ 4096 = c.requires.short c.loop-d.d _ c.loop-d-test.true in record {
    spin = w.spin-is ∙ spin_on c.args.cores.now c.args.core.0 c.loop-d.d c.loop-d.spin (not_equal c.loop-d.d c.args.core.0 w.if-d-core.true) w.if-other.true c.loop-d.invariant.spin;
    bound = omega (arith, short, w.spin-is, c.loop-d.invariant.bound);
  }
  | else-d-core w ↦ record {
    spin = w.spin-is ∙ elim w.else-d-core.branch [
      | else-d-core-via-then-d-core+else-other v ↦ spin_unused c.args.cores.now c.args.core.0 c.loop-d.d c.loop-d.spin (not_equal c.loop-d.d c.args.core.0 v.if-d-core.true) v.if-other.false c.loop-d.invariant.spin
      | else-d-core-via-else-d-core v ↦ spin_own c.args.cores.now c.args.core.0 c.loop-d.d c.loop-d.spin (eq-eqb c.loop-d.d c.args.core.0 v.if-d-core.false) c.loop-d.invariant.spin
    ];
    bound = omega (arith, w.spin-is, c.loop-d.invariant.bound);
  }
]
