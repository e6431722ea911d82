use Rattle.std.proofs.Common.{◌≡◌, ◌∷◌}
use Rattle.msrp_plan.proofs.Common.{ℕ, List, [], arith, refl}
use Rattle.msrp_run.proofs.Common.{Admitted, AreDone, Done, Event, IsRowOfEvent, IsServed, Paired, entries_at}
use Rattle.msrp_board.specs.Words.{ticket_word}
use Rattle.msrp_run.specs.BrokenRuns.{one_request}
use Rattle.msrp_run.proofs.laws.broken_runs.Goals as goal

unserved : (h : List Event) → IsServed (ticket_word 1 0) 0 (entries_at one_request.books) h → Paired IsRowOfEvent [] h → ⊥
unserved [] served rows = let e : ◌≡◌ {A = ℕ} 0 1 = served.requests in omega (arith, e)
unserved (s ∷ h) served rows = rows

admitted : Admitted ≡ Done → ⊥
admitted e = cc

unended : ¬ AreDone 6 one_request.books
unended done = admitted (done 0 _ refl)

pub returns : goal.returns
returns c = record { request_without_row = λ served. unserved served.0 served.1 served.2; in_last_tick = unended }
