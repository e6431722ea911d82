use Rattle.msrp_plan.specs.Common.{true, false, [], IsCoreTurn, CoreRun}
use Rattle.std.proofs.Common.{◌≡◌, ◌∷◌, ◌++◌, refl, sym}
use Rattle.std.proofs.Math.Bool.{true≢false}
use Rattle.msrp_plan.specs.Examples.Notation.{run}
use Rattle.msrp_plan.specs.Examples.StretchEnds.{plan, lo, queued_at_work, to_the_end}
use Rattle.msrp_plan.proofs.laws.stretches.stretch_ends.Goals as goal

whole : CoreRun plan 0 to_the_end
whole = (record { tick = refl; core = refl; own = refl; chosen = refl; action = refl }, (record { tick = refl; core = refl; own = refl; chosen = refl; action = refl }, (record { tick = refl; core = refl; own = refl; chosen = refl; action = refl }, (record { tick = refl; core = refl; own = refl; chosen = refl; action = refl }, tt))))

release : ¬ IsCoreTurn plan 0 (run 0 0 lo ∷ []) (run 1 0 lo)
release h = let e : false ≡ true = h.chosen in true≢false (sym e)

work : ¬ IsCoreTurn plan 0 to_the_end (run 4 0 lo)
work h = let e : false ≡ true = h.chosen in true≢false (sym e)

queued : IsCoreTurn plan 0 queued_at_work (run 1 0 lo)
queued = record { tick = refl; core = refl; own = refl; chosen = refl; action = refl }

unqueued : ¬ IsCoreTurn plan 0 (queued_at_work ++ run 1 0 lo ∷ []) (run 2 0 lo)
unqueued h = let e : false ≡ true = h.chosen in true≢false (sym e)

pub returns : goal.returns
returns c = record { run = whole; release = release; work = work; queued = queued; unqueued = unqueued }
