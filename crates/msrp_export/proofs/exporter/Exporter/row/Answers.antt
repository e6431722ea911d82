use Rattle.std.proofs.Common.{◌≡◌, ◌+◌, ◌++◌, ◌∷◌, ◌∙◌}
use Rattle.msrp_plan.proofs.Common.{[], sym, subst, arith}
use Rattle.msrp_export.proofs.Exporting.{ended, went, all_told}
use Rattle.msrp_export.specs.Signals.{HasTaken}
use Rattle.msrp_export.specs.declared.exporter.Exporter.{Exporter}
use Rattle.msrp_export.proofs.exporter.Exporter.row.Goals as goal

pub returns-then-self-cores-clause-taken : goal.returns-then-self-cores-clause-taken
returns-then-self-cores-clause-taken g c = λ rows h few.
    let e = c.args.self.now in
    let next : c.next-self.result ≡ e.turns + 1 = c.next-self.ensures (omega arith) in
    went e c.take.new.self c.next-self.result rows c.args.row h (c.take.ensures rows (all_told e rows h) few) next (λ same. c.if-self-cores.true (same ∙ sym c.cores.ensures.value))

pub returns-clause-taken : goal.returns-clause-taken
returns-clause-taken g c = λ rows h few.
    let e = c.args.self.now in
    let next : c.next-self.result ≡ e.turns + 1 = c.next-self.ensures (omega arith) in
    let last : e.turns + 1 ≡ e.signals.plan.now.cores = sym next ∙ (c.if-self-cores.false ∙ c.cores.ensures.value) in
    subst (λ (x : Exporter). HasTaken x (rows ++ c.args.row ∷ [])) (sym c.put.ensures.kept)
    (ended e c.take.new.self c.end_tick.new.self rows c.args.row c.put.new.self h few (c.take.ensures rows (all_told e rows h) few) last c.end_tick.ensures.next)
