-- Histories of the one-thread lock: one call more at the end.
use Rattle.std.proofs.Common.{◌∷◌, ◌++◌}
use Rattle.msrp_plan.specs.Common.{ℕ, List, [], FifoLock, Answers, lock_after}
use Rattle.msrp_plan.specs.declared.units.Call.{Call}
use Rattle.msrp_plan.specs.FifoLock.{LegalFrom}
use Rattle.msrp_plan.specs.LockStates.{lock_from}

-- a legal history goes on with a call that the lock answers
pub legal_push : (lock : FifoLock) (h : List (ℕ × Call)) (s : ℕ × Call) → LegalFrom lock h → Answers (lock_from lock h) s.0 s.1 → LegalFrom lock (h ++ s ∷ [])
legal_push lock [] s legal answers = (answers, tt)
legal_push lock (x ∷ h) s legal answers = (legal.0, legal_push (lock_after lock x.0 x.1) h s legal.1 answers)
