-- A machine whose jobs stand in other memory.
use Rattle.std.proofs.Common.{◌≡◌, ◌≤◌, ◌∷◌, ◌++◌, ◌∙◌}
use Rattle.msrp_plan.proofs.Common.{[], ℕ, List, Option, Some, None, reverse, map, length, ap, sym, subst, arith, vec_capacity, ForSome, jobs_on, units}
use Rattle.msrp_core.proofs.Common.{AreActive, AreJobs, CanRepeat, Inside, IsMachineView, IsRunning, JobId, Jobs, Kind, MachineModel, Poll, Polls, Repeats, Row, Spins, StandsAfter, active_in, active_of, machine_view, newest, state_in}

-- the same jobs, where what is below the newest and the units of that are listed elsewhere
pub record AreSame (old new : Jobs) : Type 0 where
  pub is : new ≡ record old { below = new.below; units = new.units }
  pub below : new.below.items ≡ old.below.items
  pub room : vec_capacity old.below ≤ vec_capacity new.below
  pub units : ForSome (newest old.stack.started) (λ job. new.units ≡ units old.plan.now job)

abbrev pub moved : Jobs → Jobs → Jobs
moved old new = record old { below = new.below; units = new.units }

module _ (old new : Jobs) (same : AreSame old new) where
  same_active : active_in (moved old new) ≡ active_in old
  same_active = ap (λ xs. active_of old.stack.started (old.progress ∷ reverse xs)) same.below

  moved_fit : AreJobs old → AreJobs (moved old new)
  moved_fit h = record {
    accepted = h.accepted;
    levels = h.levels;
    ready_plan = h.ready_plan;
    ready_core = h.ready_core;
    stack_plan = h.stack_plan;
    stack_core = h.stack_core;
    size = h.size ∙ ap length (sym same.below);
    room = let r = h.room in let s = same.room in omega (arith, r, s);
    are = subst (AreActive old.plan.now old.core.0 old.ready.taken old.phase) (sym same_active) h.are;
    current = record { rising = h.current.rising; units = same.units };
  }

  abbrev moved_running : (job : JobId) → IsRunning old job → IsRunning (moved old new) job
  moved_running job h = record { newest = h.newest; below = h.below; active = same_active ∙ h.active; same = h.same }

  moved_repeat : (kind : Kind) (job : Option JobId) (k : ℕ) → CanRepeat old kind job k → CanRepeat (moved old new) kind job k
  moved_repeat kind None k h = h
  moved_repeat kind (Some job) k h = (h.0, record { running = moved_running job h.1.running; work = h.1.work; more = h.1.more })

  moved_polls : (r : Row) (poll : Poll) → Polls old r poll → Polls (moved old new) r poll
  moved_polls r poll h = record { kind = h.kind; job = h.job; res = h.res; running = moved_running poll.job h.running }

-- the machine with other jobs
abbrev pub with_jobs : Inside → Jobs → Inside
with_jobs m jobs = record m { jobs = jobs }

module _ (m : Inside) (new : Jobs) (same : AreSame m.jobs new) where
  abbrev to : Inside
  to = with_jobs m (moved m.jobs new)

  same_view : machine_view to ≡ machine_view m
  same_view = ap (λ active. record (machine_view m) { states = map (state_in m.jobs.plan.now m.jobs.ready.taken m.jobs.phase active) (jobs_on m.jobs.plan.now m.jobs.core.0) }) (same_active m.jobs new same)

  to_stands : (log : List Row) → StandsAfter (machine_view m) log → StandsAfter (machine_view to) log
  to_stands log = subst (λ (x : MachineModel). StandsAfter x log) (sym same_view)

  to_repeats : Repeats m → Repeats to
  to_repeats h = record {
    pre = h.pre;
    row = h.row;
    stands = to_stands (h.pre ++ h.row ∷ []) h.stands;
    turn = h.turn;
    job = h.job;
    can = moved_repeat m.jobs new same h.row.kind m.job m.again h.can;
    ready = h.ready;
    left = h.left;
    since = h.since;
    released = h.released;
    before = h.before;
    quiet = h.quiet;
  }

  to_spins : (poll : Poll) → Spins m poll → Spins to poll
  to_spins poll h = record { pre = h.pre; row = h.row; stands = to_stands (h.pre ++ h.row ∷ []) h.stands; turn = h.turn; polls = moved_polls m.jobs new same h.row poll h.polls; awaits = h.awaits }

  to_view : IsMachineView m → IsMachineView to
  to_view h = record {
    jobs_fit = moved_fit m.jobs new same h.jobs_fit;
    released = h.released;
    log = h.log;
    stands = to_stands h.log h.stands;
    repeats = λ some. to_repeats (h.repeats some);
    spins = λ poll is. to_spins poll (h.spins poll is);
    apart = h.apart;
  }

  pub copied_view : IsMachineView m → IsMachineView (with_jobs m new)
  copied_view h = subst (λ jobs. IsMachineView (with_jobs m jobs)) (sym same.is) (to_view h)

  pub copied_same : machine_view (with_jobs m new) ≡ machine_view m
  copied_same = ap (λ jobs. machine_view (with_jobs m jobs)) same.is ∙ same_view
