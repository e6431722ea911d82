-- The worked handover: its logs fit its books, and its history was served.
use Rattle.std.proofs.Common.{◌≡◌, ◌<◌}
use Rattle.msrp_plan.proofs.Common.{ℕ, zero, suc, true, false, length, refl, arith, inl, inr, ⊎_elim, AllByRecursion, filter, Legal, CoreRun, IsRun, IsRunStart, good_is_run}
use Rattle.msrp_plan.specs.Examples.HandoverATickLater as handover
use Rattle.msrp_plan.specs.Examples.HandoverWithinATick as within_a_tick
use Rattle.msrp_plan.proofs.Runs.CoreRuns.{core_run}
use Rattle.msrp_board.proofs.BrokenBoards.{no_others}
use Rattle.msrp_merge.proofs.Common.{AreLogs, Event, Fits, IsChain, IsNotLater, IsRowOfEvent, IsServed, Paired, PollsInOrder, by_core, calls, entries_at, is_row_on, log_at, on_resource, rows_of, turns_of}
use Rattle.msrp_board.specs.Words.{ticket_word}
use Rattle.msrp_merge.specs.Handover.{logs, books, history}

-- ---- the logs
run : IsRun handover.plan handover.rows
run = good_is_run handover.plan handover.rows refl

start : IsRunStart handover.plan handover.rows
start = record { size = omega arith; each = run.each }

-- by the number of the core, of which there are two
of_core : (P : ℕ → Type 0) → P 0 → P 1 → (c : ℕ) → c < 2 → P c
of_core P p q zero low = p
of_core P p q (suc zero) low = q
of_core P p q (suc (suc c)) low = absurd (omega (arith, low))

fits_zero : Fits (turns_of logs 0) (entries_at books 0)
fits_zero = record {
  places = (refl, (refl, (refl, (refl, (refl, (refl, tt))))));
  steps = (record { row = record { tick = refl; resource = refl; kind = refl; ahead = tt }; place = refl }, (record { row = record { tick = refl; resource = refl; kind = refl; ahead = tt }; place = refl }, tt));
}

fits_one : Fits (turns_of logs 1) (entries_at books 1)
fits_one = record {
  places = (refl, (refl, (refl, (refl, (refl, (refl, tt))))));
  steps = (record { row = record { tick = refl; resource = refl; kind = refl; ahead = tt }; place = refl }, (record { row = record { tick = refl; resource = refl; kind = refl; ahead = tt }; place = refl }, (record { row = record { tick = refl; resource = refl; kind = refl; ahead = tt }; place = refl }, (record { row = record { tick = refl; resource = refl; kind = refl; ahead = tt }; place = refl }, (record { row = record { tick = refl; resource = refl; kind = refl; ahead = tt }; place = refl }, tt)))));
}

pub logs_fit : AreLogs handover.plan logs (entries_at books)
logs_fit = record {
  many = refl;
  core = of_core (λ c. (log_at logs c).core ≡ c) refl refl;
  runs = of_core (λ c. CoreRun handover.plan c (rows_of (turns_of logs c))) (core_run handover.plan handover.rows 0 start (omega arith)) (core_run handover.plan handover.rows 1 start (omega arith));
  whole = of_core (λ c. length (turns_of logs c) ≡ 6) refl refl;
  fits = of_core (λ c. Fits (turns_of logs c) (entries_at books c)) fits_zero fits_one;
}

-- ---- the history
two_cores : AllByRecursion (λ (s : Event). s.0 < 2) history
two_cores = (omega arith, (omega arith, (omega arith, (omega arith, (omega arith, (omega arith, (omega arith, tt)))))))

entries_are : (c : ℕ) → by_core c history ≡ on_resource 0 (entries_at books c)
entries_are zero = refl
entries_are (suc zero) = refl
entries_are (suc (suc c)) = no_others history (suc (suc c)) two_cores (omega arith)

no_poll : {A : Type 0} → false ≡ true → A
no_poll e = absurd (cc)

polls_stand : IsChain PollsInOrder history
polls_stand = (λ p q. no_poll p, (λ p q. no_poll p, (λ p q. inl (omega arith), (λ p q. no_poll q, (λ p q. no_poll p, (λ p q. no_poll q, (tt, tt)))))))

apart : ◌≡◌ {A = ℕ} 0 1 → ⊥
apart e = cc

legal : Legal (calls history)
legal = ((λ h. h, refl), ((λ h. ⊎_elim apart (λ n. n) h, refl), ((inr (inl refl), apart), ((inr (inl refl), apart), ((refl, refl), ((refl, refl), ((refl, refl), tt)))))))

rises : IsChain IsNotLater history
rises = (omega arith, (omega arith, (omega arith, (omega arith, (omega arith, (omega arith, (tt, tt)))))))

pub served : IsServed (ticket_word 2 2) 0 (entries_at books) history
served = record {
  history = record { entries = entries_are; placed = (refl, (refl, (refl, (refl, (refl, (refl, (refl, tt))))))); polls = polls_stand };
  requests = refl;
  releases = refl;
  legal = legal;
  rising = rises;
}

-- ---- its rows, and those of a handover a tick earlier: there core 0 releases where the history
-- has a poll of core 1
pub paired : Paired IsRowOfEvent (filter (is_row_on 0) handover.rows) history
paired =
    (record { core = refl; step = record { tick = refl; resource = refl; kind = refl; ahead = tt } }, (record { core = refl; step = record { tick = refl; resource = refl; kind = refl; ahead = tt } }, (record { core = refl; step = record { tick = refl; resource = refl; kind = refl; ahead = tt } }, (record { core = refl; step = record { tick = refl; resource = refl; kind = refl; ahead = tt } }, (record { core = refl; step = record { tick = refl; resource = refl; kind = refl; ahead = tt } }, (record { core = refl; step = record { tick = refl; resource = refl; kind = refl; ahead = tt } }, (record { core = refl; step = record { tick = refl; resource = refl; kind = refl; ahead = tt } }, tt)))))))

pub not_paired : ¬ Paired IsRowOfEvent (filter (is_row_on 0) within_a_tick.rows) history
not_paired pairs = apart pairs.1.1.1.0.core
