use Rattle.msrp_plan.proofs.Common.{ℕ, List, sym, ap, arith, cond, nat_lt, get_or, set, length, inl, inr, cases_eq, cases_lt, lt-ltb, le-ltb, length-set, sum_by-set}
use Rattle.std.proofs.Common.{◌≡◌, ◌+◌, ◌<◌, ◌∙◌, get_or-set_same, get_or-set_other}
use Rattle.msrp_sim.proofs.fifo.rooms_of.Goals as goal

-- one number more is set
more : (rooms : List ℕ) (i ticks : ℕ) → i < length rooms → ((c : ℕ) → get_or rooms c 0 ≡ cond (nat_lt c i) ticks 0) → (c : ℕ) → get_or (set rooms i ticks) c 0 ≡ cond (nat_lt c (i + 1)) ticks 0
more rooms i ticks within old c = elim (cases_eq c i) [
  | inl here ↦ ap (λ k. get_or (set rooms i ticks) k 0) here ∙ (get_or-set_same rooms i ticks 0 within ∙ sym (ap (λ b. cond b ticks 0) (lt-ltb c (i + 1) (omega (arith, here)))))
  | inr other ↦ get_or-set_other rooms i c ticks 0 other ∙ (old c ∙ ap (λ b. cond b ticks 0) (elim (cases_lt c i) [
    | inl l ↦ lt-ltb c i l ∙ sym (lt-ltb c (i + 1) (omega (arith, l)))
    | inr g ↦ le-ltb c i g ∙ sym (le-ltb c (i + 1) (omega (arith, g, other)))
  ]))
]

pub loop-core-preserved : goal.loop-core-preserved
loop-core-preserved c = let size = c.loop-core.invariant.size in record {
  size = length-set c.loop-core.rooms c.loop-core.core c.args.ticks ∙ size;
  rooms = more c.loop-core.rooms c.loop-core.core c.args.ticks (omega (arith, size)) c.loop-core.invariant.rooms;
  all =
      let a = sum_by-set (λ n. n) c.loop-core.rooms c.loop-core.core c.args.ticks 0 (omega (arith, size)) in
      let before = c.loop-core.invariant.rooms c.loop-core.core ∙ ap (λ b. cond b c.args.ticks 0) (le-ltb c.loop-core.core c.loop-core.core (omega arith)) in
      let old = c.loop-core.invariant.all in
      grind (arith, a, before, old);
}
