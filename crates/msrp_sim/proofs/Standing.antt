-- The cores after a turn stand after the rows so far and one more, which may leave out the ahead of
-- the row that was made.
use Rattle.std.proofs.Common.{◌≡◌, ◌≢◌, ◌+◌, ◌==◌, ◌∷◌, ◌++◌, ◌∙◌}
use Rattle.msrp_plan.proofs.Common.{ℕ, zero, suc, Bool, true, false, cond, not, List, [], Option, Some, None, IfSome, refl, ap, sym, subst, length-append, map, inl, inr, eqb-true, slice_get, slice_set, true≢false, cases_Bool, eqb-false, same_Some, fold_push, jobs_on, is_job, is_waiting, is_global, is_on, fifo, IsLegal, log_of, phase_with, phase_after, JobState, state_after, Answers, free_lock, lock_after, lock_at, ahead_of_call, claim_with, log_own, log_other}
use Rattle.msrp_plan.specs.declared.ids.JobId.{JobId}
use Rattle.msrp_plan.specs.declared.ids.ResId.{ResId}
use Rattle.msrp_plan.specs.declared.rows.Kind.{Kind}
use Rattle.msrp_plan.specs.declared.rows.Row.{Row}
use Rattle.msrp_plan.specs.declared.units.Phase.{Phase}
use Rattle.msrp_plan.specs.declared.units.Phase.TheVariants.{Free}
use Rattle.msrp_plan.specs.LockStates.{first_holds, IsRowOfCall}
use Rattle.msrp_plan.proofs.Jobs.States.{state_push}
use Rattle.msrp_plan.proofs.Queues.QueueLocks.{agree_at, lock_off, tells_from_answers}
use Rattle.msrp_plan.proofs.Runs.Verdicts.{start_push}
use Rattle.msrp_core.specs.Ports.{IsQuiet}
use Rattle.msrp_core.specs.Machine.{MachineModel, StandsAfter}
use Rattle.msrp_core.specs.declared.port.PortCall.{PortCall}
use Rattle.msrp_sim.specs.Cores.{CoresModel, AreCores, StandFor, IsDueInRun, IsAs, TakesTurn, locks_at, phases_at}
use Rattle.msrp_sim.specs.Serving.{IsServing}
use Rattle.msrp_sim.specs.TurnPorts.{MakesCallOf}
use Rattle.msrp_sim.proofs.Serving.{serving_as}
use Rattle.msrp_sim.proofs.Turns.{answers_at, in_phase, lock_answers, lock_of_global, on_global, turn_row}

-- ---- a list with one element changed
pub get_set_same : {X : Type 0} (xs : List X) (i : ℕ) (x y : X) → slice_get xs i ≡ Some x → slice_get (slice_set xs i y) i ≡ Some y
get_set_same [] i x y h = absurd (cc)
get_set_same (z ∷ xs) zero x y h = refl
get_set_same (z ∷ xs) (suc i) x y h = get_set_same xs i x y h

pub get_set_other : {X : Type 0} (xs : List X) (i j : ℕ) (y : X) → j ≢ i → slice_get (slice_set xs i y) j ≡ slice_get xs j
get_set_other [] i j y ne = refl
get_set_other (z ∷ xs) zero zero y ne = absurd (ne refl)
get_set_other (z ∷ xs) zero (suc j) y ne = refl
get_set_other (z ∷ xs) (suc i) zero y ne = refl
get_set_other (z ∷ xs) (suc i) (suc j) y ne = get_set_other xs i j y (λ e. ne (ap suc e))

-- ---- a machine doesn't see aheads
-- the state of a job after a row of this job and kind
abbrev state_by : Option JobId → Kind → JobState → JobState
state_by job kind s = cond (is_job job s.job) (record { job = s.job; started = true; queued = is_waiting kind; done = s.done + cond (not (is_waiting kind)) 1 0 }) s

state_as : (due r : Row) → r.kind ≡ due.kind → r.job ≡ due.job → (log : List Row) (j : JobId) → state_after (log ++ due ∷ []) j ≡ state_after (log ++ r ∷ []) j
state_as due r kind job log j =
    state_push log due j
    ∙ (ap (λ k. state_by due.job k (state_after log j)) (sym kind)
    ∙ (ap (λ o. state_by o r.kind (state_after log j)) (sym job) ∙ sym (state_push log r j)))

map_as : {X Y : Type 0} (f g : X → Y) → ((x : X) → f x ≡ g x) → (xs : List X) → map f xs ≡ map g xs
map_as f g h [] = refl
map_as f g h (x ∷ xs) = ap (λ y. y ∷ map f xs) (h x) ∙ ap (λ ys. g x ∷ ys) (map_as f g h xs)

phase_push : (log : List Row) (r : Row) → phase_after (log ++ r ∷ []) ≡ phase_with (phase_after log) r.kind r.res
phase_push log r = fold_push (λ (phase : Phase) (s : Row). phase_with phase s.kind s.res) Free log r

pub stands_as : (x : MachineModel) (due r : Row) (log : List Row) → r.kind ≡ due.kind → r.job ≡ due.job → r.res ≡ due.res → StandsAfter x (log ++ due ∷ []) → StandsAfter x (log ++ r ∷ [])
stands_as x due r log kind job res h = record {
  tick = h.tick ∙ (length-append log (due ∷ []) ∙ sym (length-append log (r ∷ [])));
  phase = h.phase ∙ (phase_push log due ∙ (ap (λ k. phase_with (phase_after log) k due.res) (sym kind) ∙ (ap (λ o. phase_with (phase_after log) r.kind o) (sym res) ∙ sym (phase_push log r))));
  states = h.states ∙ map_as (state_after (log ++ due ∷ [])) (state_after (log ++ r ∷ [])) (state_as due r kind job log) (jobs_on x.plan x.core);
}

-- ---- one turn more
-- the row is on another resource
off_by : (o : Option ResId) (res : ResId) (g : ℕ) → o ≡ Some res → (res.0 == g) ≡ false → is_on g o ≡ false
off_by o res g e h = ap (is_on g) e ∙ h

module _ (old new : CoresModel) (c : ℕ) (made r : Row) (rows : List Row) (cores : AreCores old) (stands : StandFor old rows) (due : IsDueInRun old.plan rows c) (t : TakesTurn old new c made) (like : IsAs made r) (legal : IsLegal old.plan rows r) where
  at_core : r.core.0 ≡ c
  at_core = like.core ∙ (turn_row old c made rows cores stands due t.made).core

  -- each machine
  own_log : (y : MachineModel) → y ≡ t.made.after → StandsAfter y (log_of c (rows ++ r ∷ []))
  own_log y e = subst (λ z. StandsAfter z (log_of c (rows ++ r ∷ []))) (sym e)
      (subst (StandsAfter t.made.after) (sym (log_own rows r c at_core)) (stands_as t.made.after made r (log_of c rows) like.kind like.job like.res (t.made.turned.stands (log_of c rows) (stands.logs c t.made.before t.made.has))))

  some_log : (d : ℕ) (y : MachineModel) → slice_get new.machines d ≡ Some y → (b : Bool) → (d == c) ≡ b → StandsAfter y (log_of d (rows ++ r ∷ []))
  some_log d y has true e =
      let at : d ≡ c = eqb-true d c e in
      let own : slice_get new.machines c ≡ Some t.made.after = ap (λ ms. slice_get ms c) t.machines ∙ get_set_same old.machines c t.made.before t.made.after t.made.has in
      subst (λ n. StandsAfter y (log_of n (rows ++ r ∷ []))) (sym at) (own_log y (same_Some y t.made.after (sym has ∙ (ap (slice_get new.machines) at ∙ own))))
  some_log d y has false e =
      let ne : d ≢ c = eqb-false d c e in
      let other : slice_get new.machines d ≡ slice_get old.machines d = ap (λ ms. slice_get ms d) t.machines ∙ get_set_other old.machines c d t.made.after ne in
      subst (StandsAfter y) (sym (log_other rows r d (λ k. ne (sym (sym at_core ∙ k))))) (stands.logs d y (sym other ∙ has))

  -- ---- the queues
  -- the machine goes from the one phase to the other
  phase_before : phases_at rows made.core.0 ≡ t.made.before.phase
  phase_before = ap (phases_at rows) (turn_row old c made rows cores stands due t.made).core ∙ sym (stands.logs c t.made.before t.made.has).phase

  phase_now : phases_at (rows ++ r ∷ []) c ≡ t.made.after.phase
  phase_now = sym (own_log t.made.after refl).phase

  other_phase : (d : ℕ) → (r.core.0 == d) ≡ false → phases_at (rows ++ r ∷ []) d ≡ phases_at rows d
  other_phase d off = ap phase_after (log_other rows r d (eqb-false r.core.0 d off))

  -- a resource that the row isn't on
  off_lock : (g : ℕ) → (is_global old.plan g ≡ true → is_on g r.res ≡ false) → locks_at old.plan (rows ++ r ∷ []) g ≡ locks_at old.plan rows g
  off_lock g off = elim (cases_Bool (is_global old.plan g)) [
    | inl glob ↦ lock_of_global old.plan (rows ++ r ∷ []) g glob ∙ (lock_off old.plan g rows r cores.accepted glob stands.start.each legal (off glob) ∙ sym (lock_of_global old.plan rows g glob))
    | inr loc ↦ ap (λ b. cond b (lock_at old.plan g (rows ++ r ∷ [])) free_lock) loc ∙ sym (ap (λ b. cond b (lock_at old.plan g rows) free_lock) loc)
  ]

  -- where the turn makes a call
  call_serving : MakesCallOf old.queues t.made.before t.made.after made t.made.call → IsServing (locks_at old.plan (rows ++ r ∷ [])) (phases_at (rows ++ r ∷ [])) new.queues
  call_serving mc =
      (t.noted e mc.is).serving (locks_at old.plan rows) (locks_at old.plan (rows ++ r ∷ [])) (phases_at rows) (phases_at (rows ++ r ∷ [])) stands.serving
      (record {
        lock = own_lock;
        other_locks = λ g off. off_lock g (λ glob. off_by r.res mc.res g (like.res ∙ mc.resource) off);
        claim = ap (phases_at (rows ++ r ∷ [])) at_made ∙ (phase_now ∙ (mc.claim ∙ ap (λ p. claim_with p mc.res mc.call) (sym phase_before)));
        other_claims = λ d off. other_phase d (ap (λ n. n == d) like.core ∙ off);
      })
      (answers_at old c made rows cores stands due t.made mc) (in_phase old c made rows cores stands due t.made mc)
    where
      e : PortCall
      e = record { core = made.core; res = mc.res; call = mc.call }

      at_made : made.core.0 ≡ c
      at_made = (turn_row old c made rows cores stands due t.made).core

      glob : is_global old.plan mc.res.0 ≡ true
      glob = on_global old c made rows cores stands due t.made mc

      told : (o : Option ℕ) → IfSome o (λ n. made.ahead ≡ Some n) → IfSome o (λ n. ahead_of_call mc.call ≡ Some n)
      told None h = tt
      told (Some n) h = sym mc.ahead ∙ h

      own_lock : locks_at old.plan (rows ++ r ∷ []) mc.res.0 ≡ lock_after (locks_at old.plan rows mc.res.0) made.core.0 mc.call
      own_lock =
          let answers : Answers (lock_at old.plan mc.res.0 rows) made.core.0 mc.call = lock_answers old c made rows cores stands due t.made mc in
          let row : IsRowOfCall mc.res.0 r.core.0 mc.call r = record { core = refl; resource = like.res ∙ mc.resource; kind = like.kind ∙ mc.kind; ahead = told r.ahead like.ahead } in
          let agrees = agree_at old.plan mc.res.0 rows r mc.call cores.accepted glob stands.start.each legal row (tells_from_answers old.plan (fifo mc.res.0 rows) (first_holds old.plan rows mc.res.0 (fifo mc.res.0 rows)) made.core.0 mc.call answers) in
          lock_of_global old.plan (rows ++ r ∷ []) mc.res.0 glob
          ∙ (agrees.next
          ∙ (ap (λ n. lock_after (lock_at old.plan mc.res.0 rows) n mc.call) like.core
          ∙ ap (λ l. lock_after l made.core.0 mc.call) (sym (lock_of_global old.plan rows mc.res.0 glob))))

  -- and where it makes none
  quiet_serving : IsQuiet old.plan made → IsServing (locks_at old.plan (rows ++ r ∷ [])) (phases_at (rows ++ r ∷ [])) new.queues
  quiet_serving quiet =
      let x = cores.each c t.made.before t.made.has in
      let none = t.made.turned.quiet (subst (λ p. IsQuiet p made) (sym x.same_plan) quiet) in
      let own : phases_at (rows ++ r ∷ []) c ≡ phases_at rows c = phase_now ∙ (none.1 ∙ (stands.logs c t.made.before t.made.has).phase) in
      subst (IsServing (locks_at old.plan (rows ++ r ∷ [])) (phases_at (rows ++ r ∷ []))) (sym (t.same none.0))
      (serving_as (locks_at old.plan rows) (locks_at old.plan (rows ++ r ∷ [])) (phases_at rows) (phases_at (rows ++ r ∷ [])) old.queues
      (λ g. off_lock g (λ glob. quiet_off quiet g glob r.res refl)) (λ d. same_phase own d (r.core.0 == d) refl) stands.serving)
    where
      quiet_off : IsQuiet old.plan made → (g : ℕ) → is_global old.plan g ≡ true → (o : Option ResId) → r.res ≡ o → is_on g o ≡ false
      quiet_off quiet g glob None e = refl
      quiet_off quiet g glob (Some l) e = elim (cases_Bool (l.0 == g)) [
        | inl on ↦ absurd (true≢false (sym (ap (is_global old.plan) (eqb-true l.0 g on) ∙ glob) ∙ quiet l (sym like.res ∙ e)))
        | inr off ↦ off
      ]

      same_phase : phases_at (rows ++ r ∷ []) c ≡ phases_at rows c → (d : ℕ) (b : Bool) → (r.core.0 == d) ≡ b → phases_at (rows ++ r ∷ []) d ≡ phases_at rows d
      same_phase own d true on = subst (λ k. phases_at (rows ++ r ∷ []) k ≡ phases_at rows k) (sym at_core ∙ eqb-true r.core.0 d on) own
      same_phase own d false off = other_phase d off

  serving_by : (o : Option ResId) → made.res ≡ o → IsServing (locks_at old.plan (rows ++ r ∷ [])) (phases_at (rows ++ r ∷ [])) new.queues
  serving_by None e = quiet_serving (λ res h. let no : None ≡ Some res = sym e ∙ h in absurd (cc))
  serving_by (Some res) e = elim (cases_Bool (is_global old.plan res.0)) [
    | inl own ↦ call_serving (t.made.turned.call res e (ap (λ p. is_global p res.0) (cores.each c t.made.before t.made.has).same_plan ∙ own))
    | inr loc ↦ quiet_serving (λ res' h. subst (λ (k : ResId). is_global old.plan k.0 ≡ false) (same_Some res res' (sym e ∙ h)) loc)
  ]

  -- the cores stand after that row
  pub stand_push : StandFor new (rows ++ r ∷ [])
  stand_push = subst (λ p. StandFor (record { plan = p; machines = new.machines; queues = new.queues }) (rows ++ r ∷ [])) (sym t.plan)
      (record {
        start = start_push old.plan rows r stands.start due.left legal;
        logs = λ d y has. some_log d y has (d == c) refl;
        serving = serving_by made.res refl;
      })
