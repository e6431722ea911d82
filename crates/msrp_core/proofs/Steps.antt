-- The active jobs of a core after one action of the newest.
use Rattle.std.proofs.Common.{◌≡◌, ◌+◌, ◌<◌, ◌==◌, ◌⊎◌, ◌&&◌, ◌||◌, ◌∷◌, ◌∙◌}
use Rattle.msrp_plan.proofs.Common.{ℕ, Bool, true, false, cond, not, nat_eq, List, [], Option, Some, refl, ap, sym, subst, arith, length, take, slice_get, inl, inr, list_any, true≢false, or-true, and-false, cases_Bool, eqb-false, le-ltb, false_from_ne_true, PlanModel, units, task_of, held_after, holds_after, jobs_on, same_job, is_job, is_waiting, is_global, state_with, IsPlan, same_is, same_self, core_jobs_below, units_lock, held_unlock}
use Rattle.msrp_core.proofs.Common.{ActiveJob, AreActive, AreLocal, Free, HoldSo, Holding, HoldsSo, JobId, Op, Phase, Queued, ResId, Row, advanced, done_in, eq-eqb, eqb-true, is_among, is_newest, is_waiting_phase, moved_by, state_in, units_flat}
use Rattle.msrp_plan.specs.declared.units.Op.TheVariants.{Run, Lock, Unlock}
use Rattle.msrp_core.proofs.HeldUnits.{held_test, next_held, locked, unlocked, whole_free}
use Rattle.msrp_core.proofs.Choices.{at_in, others_done}

-- an action of the newest that is one unit, after which it holds these, and the core holds or
-- awaits that
pub record IsStep (plan : PlanModel) (s : ActiveJob) (below : List ActiveJob) (after : Phase) (held : List ℕ) : Type 0 where
  pub now : held_after (take (s.done + 1) (units plan s.job)) ≡ Some held
  pub calm : is_waiting_phase after ≡ false
  pub holds : HoldSo plan after (record s { held = held; done = s.done + 1 } ∷ below)

-- ---- what stands in a list
in_front : (g : ℕ) (held : List ℕ) → list_any (nat_eq g) (g ∷ held) ≡ true
in_front g held = ap (λ b. b || list_any (nat_eq g) held) (eq-eqb g g refl)

in_rest : (g h : ℕ) (held : List ℕ) → list_any (nat_eq g) held ≡ true → list_any (nat_eq g) (h ∷ held) ≡ true
in_rest g h held e = ap (λ b. nat_eq g h || b) e ∙ or-true (nat_eq g h)

in_cases : (g h : ℕ) (held : List ℕ) → list_any (nat_eq g) (h ∷ held) ≡ true → (g ≡ h) ⊎ (list_any (nat_eq g) held ≡ true)
in_cases g h held e = elim (cases_Bool (nat_eq g h)) [
  | inl hit ↦ inl (eqb-true g h hit)
  | inr miss ↦ inr (sym (ap (λ b. b || list_any (nat_eq g) held) miss) ∙ e)
]

-- a resource is named by its number
res_is : (a b : ResId) → a.0 ≡ b.0 → a ≡ b
res_is a b e = let mk : ℕ → ResId = λ n. record { 0 = n } in ap mk e

lock_is : (a b : ResId) (o : Option Op) → o ≡ Some (Lock a) → o ≡ Some (Lock b) → a ≡ b
lock_is a b o e h = let k : Some (Lock a) ≡ Some (Lock b) = sym e ∙ h in cc

no_lock_of_unlock : (a b : ResId) (o : Option Op) → o ≡ Some (Lock a) → o ≡ Some (Unlock b) → ⊥
no_lock_of_unlock a b o e h = let k : Some (Lock a) ≡ Some (Unlock b) = sym e ∙ h in cc

no_lock_of_run : (a : ResId) (o : Option Op) → o ≡ Some (Lock a) → o ≡ Some Run → ⊥
no_lock_of_run a o e h = let k : Some (Lock a) ≡ Some Run = sym e ∙ h in cc

-- a resource that is global isn't local
pub clash : {P : Type 0} (b : Bool) → b ≡ true → b ≡ false → P
clash b t f = absurd (true≢false (sym t ∙ f))

module _ (plan : PlanModel) (ok : IsPlan plan) (s : ActiveJob) (below : List ActiveJob) where
  -- ---- a unit of work
  pub work_step : (p : Phase) → HoldSo plan p (s ∷ below) → slice_get (units plan s.job) s.done ≡ Some Run → IsStep plan s below p s.held
  work_step Free h at =
      let n = next_held plan (units plan s.job) s.done Run s.held (units_lock plan ok s.job.task.0) h.0.now at in
      let now : held_after (take (s.done + 1) (units plan s.job)) ≡ Some s.held = n.now ∙ sym n.step in
      record { now = now; calm = refl; holds = (record { now = now; locals = h.0.locals }, h.1) }
  work_step (Queued g) h at = absurd (no_lock_of_run g (slice_get (units plan s.job) s.done) h.0.unit at)
  work_step (Holding g) h at =
      let n = next_held plan (units plan s.job) s.done Run s.held (units_lock plan ok s.job.task.0) h.0.now at in
      let now : held_after (take (s.done + 1) (units plan s.job)) ≡ Some s.held = n.now ∙ sym n.step in
      record { now = now; calm = refl; holds = (record { now = now; global = h.0.global; has = h.0.has; one = h.0.one }, h.1) }

  -- ---- a lock
  -- the resource isn't held, and there is room for it
  pub record CanLock (r : ResId) : Type 0 where
    pub fresh : list_any (nat_eq r.0) s.held ≡ false
    pub few : length s.held < 8
    pub now : held_after (take (s.done + 1) (units plan s.job)) ≡ Some (r.0 ∷ s.held)
    pub declared : r.0 < length plan.resources

  can_lock : (r : ResId) → HoldsSo plan s → slice_get (units plan s.job) s.done ≡ Some (Lock r) → CanLock r
  can_lock r now at =
      let n = next_held plan (units plan s.job) s.done (Lock r) s.held (units_lock plan ok s.job.task.0) now at in
      let l = locked r s.held n.next n.step in
      record { fresh = l.0; few = let e = ap length l.1 in let f = n.few in omega (arith, e, f); now = n.now ∙ ap (λ hs. Some hs) l.1; declared = (units_lock plan ok s.job.task.0).declared s.done r at }

  -- of a local resource
  pub lock_room : (p : Phase) (r : ResId) → HoldSo plan p (s ∷ below) → slice_get (units plan s.job) s.done ≡ Some (Lock r) → is_global plan r.0 ≡ false → CanLock r
  lock_room Free r h at l = can_lock r h.0.now at
  lock_room (Queued g) r h at l = clash (is_global plan r.0) (ap (λ (q : ResId). is_global plan q.0) (sym (lock_is g r (slice_get (units plan s.job) s.done) h.0.unit at)) ∙ h.0.global) l
  lock_room (Holding g) r h at l = can_lock r h.0.now at

  pub lock_step : (p : Phase) (r : ResId) → HoldSo plan p (s ∷ below) → slice_get (units plan s.job) s.done ≡ Some (Lock r) → is_global plan r.0 ≡ false → IsStep plan s below p (r.0 ∷ s.held)
  lock_step Free r h at l =
      let can = can_lock r h.0.now at in
      record {
        now = can.now;
        calm = refl;
        holds = (record { now = can.now; locals = λ g e. elim (in_cases g r.0 s.held e) [ inl here ↦ ap (is_global plan) here ∙ l | inr there ↦ h.0.locals g there ] }, h.1);
      }
  lock_step (Queued g) r h at l = clash (is_global plan r.0) (ap (λ (q : ResId). is_global plan q.0) (sym (lock_is g r (slice_get (units plan s.job) s.done) h.0.unit at)) ∙ h.0.global) l
  lock_step (Holding g) r h at l =
      let can = can_lock r h.0.now at in
      record {
        now = can.now;
        calm = refl;
        holds = (
          record {
            now = can.now;
            global = h.0.global;
            has = in_rest g.0 r.0 s.held h.0.has;
            one = λ k e glob. elim (in_cases k r.0 s.held e) [ inl here ↦ clash (is_global plan k) glob (ap (is_global plan) here ∙ l) | inr there ↦ h.0.one k there glob ];
          },
          h.1,
        );
      }

  -- ---- an unlock
  pub record CanUnlock (r : ResId) : Type 0 where
    pub rest : List ℕ
    pub held : s.held ≡ r.0 ∷ rest
    pub now : held_after (take (s.done + 1) (units plan s.job)) ≡ Some rest

  can_unlock : (r : ResId) → HoldsSo plan s → slice_get (units plan s.job) s.done ≡ Some (Unlock r) → CanUnlock r
  can_unlock r now at =
      let n = next_held plan (units plan s.job) s.done (Unlock r) s.held (units_lock plan ok s.job.task.0) now at in
      record { rest = n.next; held = unlocked r s.held n.next n.step; now = n.now }

  pub unlock_room : (p : Phase) (r : ResId) → HoldSo plan p (s ∷ below) → slice_get (units plan s.job) s.done ≡ Some (Unlock r) → CanUnlock r
  unlock_room Free r h at = can_unlock r h.0.now at
  unlock_room (Queued g) r h at = absurd (no_lock_of_unlock g r (slice_get (units plan s.job) s.done) h.0.unit at)
  unlock_room (Holding g) r h at = can_unlock r h.0.now at

  -- who holds less holds no global resource if it held none
  fewer_local : (r : ℕ) (rest : List ℕ) → s.held ≡ r ∷ rest → AreLocal plan s.held → AreLocal plan rest
  fewer_local r rest e locals g h = locals g (ap (list_any (nat_eq g)) e ∙ in_rest g r rest h)

  pub unlock_step : (p : Phase) (r : ResId) (can : CanUnlock r) → HoldSo plan p (s ∷ below) → slice_get (units plan s.job) s.done ≡ Some (Unlock r) → is_global plan r.0 ≡ false → IsStep plan s below p can.rest
  unlock_step Free r can h at l = record { now = can.now; calm = refl; holds = (record { now = can.now; locals = fewer_local r.0 can.rest can.held h.0.locals }, h.1) }
  unlock_step (Queued g) r can h at l = absurd (no_lock_of_unlock g r (slice_get (units plan s.job) s.done) h.0.unit at)
  unlock_step (Holding g) r can h at l = record {
    now = can.now;
    calm = refl;
    holds = (
      record {
        now = can.now;
        global = h.0.global;
        has = elim (in_cases g.0 r.0 can.rest (ap (list_any (nat_eq g.0)) (sym can.held) ∙ h.0.has)) [ inl here ↦ clash (is_global plan g.0) h.0.global (ap (is_global plan) here ∙ l) | inr there ↦ there ];
        one = λ k e glob. h.0.one k (ap (list_any (nat_eq k)) can.held ∙ in_rest k r.0 can.rest e) glob;
      },
      h.1,
    );
  }

  -- ---- a release of a global resource: it is the one that the core holds
  pub release_phase : (p : Phase) (r : ResId) → HoldSo plan p (s ∷ below) → slice_get (units plan s.job) s.done ≡ Some (Unlock r) → is_global plan r.0 ≡ true → p ≡ Holding r
  release_phase Free r h at glob = let can = can_unlock r h.0.now at in clash (is_global plan r.0) glob (h.0.locals r.0 (ap (list_any (nat_eq r.0)) can.held ∙ in_front r.0 can.rest))
  release_phase (Queued g) r h at glob = absurd (no_lock_of_unlock g r (slice_get (units plan s.job) s.done) h.0.unit at)
  release_phase (Holding g) r h at glob =
      let can = can_unlock r h.0.now at in
      ap (λ q. Holding q) (sym (res_is r g (h.0.one r.0 (ap (list_any (nat_eq r.0)) can.held ∙ in_front r.0 can.rest) glob)))

  pub release_step : (p : Phase) (r : ResId) (can : CanUnlock r) → HoldSo plan p (s ∷ below) → slice_get (units plan s.job) s.done ≡ Some (Unlock r) → is_global plan r.0 ≡ true → IsStep plan s below Free can.rest
  release_step Free r can h at glob = clash (is_global plan r.0) glob (h.0.locals r.0 (ap (list_any (nat_eq r.0)) can.held ∙ in_front r.0 can.rest))
  release_step (Queued g) r can h at glob = absurd (no_lock_of_unlock g r (slice_get (units plan s.job) s.done) h.0.unit at)
  release_step (Holding g) r can h at glob =
      let gone : list_any (nat_eq r.0) can.rest ≡ false = sym (held_test r.0 (take (s.done + 1) (units plan s.job)) can.rest can.now) ∙ (held_unlock plan (units plan s.job) r.0 s.done (Unlock r) (units_lock plan ok s.job.task.0) at (eq-eqb r.0 r.0 refl)).1 in
      let mine : r.0 ≡ g.0 = h.0.one r.0 (ap (list_any (nat_eq r.0)) can.held ∙ in_front r.0 can.rest) glob in
      record {
        now = can.now;
        calm = refl;
        holds = (
          record {
            now = can.now;
            locals = λ k e. false_from_ne_true (is_global plan k) (λ t. clash (list_any (nat_eq k) can.rest) e (ap (λ n. list_any (nat_eq n) can.rest) (h.0.one k (ap (list_any (nat_eq k)) can.held ∙ in_rest k r.0 can.rest e) t ∙ sym mine) ∙ gone));
          },
          h.1,
        );
      }

  -- ---- a request of a global resource: by a core that isn't waiting for one it comes where it
  -- holds none
  pub request_phase : (p : Phase) (r : ResId) → HoldSo plan p (s ∷ below) → slice_get (units plan s.job) s.done ≡ Some (Lock r) → is_global plan r.0 ≡ true → is_waiting_phase p ≡ false → p ≡ Free
  request_phase Free r h at glob calm = refl
  request_phase (Queued g) r h at glob calm = absurd (true≢false calm)
  request_phase (Holding g) r h at glob calm =
      let free = (units_flat plan ok s.job.task.0).alone s.done g.0 r at glob h.0.global in
      clash (holds_after (take s.done (units plan s.job)) g.0) (held_test g.0 (take s.done (units plan s.job)) s.held h.0.now ∙ h.0.has) (le-ltb _ _ free)

  pub request_room : (r : ResId) → HoldSo plan Free (s ∷ below) → slice_get (units plan s.job) s.done ≡ Some (Lock r) → CanLock r
  request_room r h at = can_lock r h.0.now at

  -- granted at once
  pub take_step : (r : ResId) → HoldSo plan Free (s ∷ below) → slice_get (units plan s.job) s.done ≡ Some (Lock r) → is_global plan r.0 ≡ true → IsStep plan s below (Holding r) (r.0 ∷ s.held)
  take_step r h at glob =
      let can = can_lock r h.0.now at in
      record {
        now = can.now;
        calm = refl;
        holds = (
          record {
            now = can.now;
            global = glob;
            has = in_front r.0 s.held;
            one = λ k e t. elim (in_cases k r.0 s.held e) [ inl here ↦ here | inr there ↦ clash (is_global plan k) t (h.0.locals k there) ];
          },
          h.1,
        );
      }

  -- ---- a poll: it is of the resource that the core awaits

  pub grant_step : (r : ResId) → HoldSo plan (Queued r) (s ∷ below) → IsStep plan s below (Holding r) s.held
  grant_step r h =
      let n = next_held plan (units plan s.job) s.done (Lock r) h.0.rest (units_lock plan ok s.job.task.0) h.0.now h.0.unit in
      let now : held_after (take (s.done + 1) (units plan s.job)) ≡ Some s.held = n.now ∙ ap (λ hs. Some hs) ((locked r h.0.rest n.next n.step).1 ∙ sym h.0.held) in
      record {
        now = now;
        calm = refl;
        holds = (
          record {
            now = now;
            global = h.0.global;
            has = ap (list_any (nat_eq r.0)) h.0.held ∙ in_front r.0 h.0.rest;
            one = λ k e t. elim (in_cases k r.0 h.0.rest (ap (list_any (nat_eq k)) (sym h.0.held) ∙ e)) [ inl here ↦ here | inr there ↦ clash (is_global plan k) t (h.0.locals k there) ];
          },
          h.1,
        );
      }

-- ---- the active jobs after a unit
module _ (plan : PlanModel) (ok : IsPlan plan) (c : ℕ) (taken : List JobId) (s : ActiveJob) (below : List ActiveJob) (p : Phase) (are : AreActive plan c taken p (s ∷ below)) where
  -- who has done its last unit holds nothing
  pub last_free : (q : Phase) (held : List ℕ) → IsStep plan s below q held → s.done + 1 ≡ length (units plan s.job) → held ≡ []
  last_free q held step last =
      let inside = at_in (λ j. j.task.0 < length plan.tasks) (jobs_on plan c) s.job (core_jobs_below plan c) are.each.0.known in
      whole_free (task_of plan s.job) held (ok.whole s.job.task.0 inside) (ap (λ n. held_after (take n (units plan s.job))) (sym last) ∙ step.now)

  holds_after_last : (q : Phase) (held : List ℕ) → held ≡ [] → is_waiting_phase q ≡ false → HoldSo plan q (record s { held = held; done = s.done + 1 } ∷ below) → HoldSo plan q below
  holds_after_last Free held none calm h = h.1
  holds_after_last (Queued g) held none calm h = absurd (true≢false calm)
  holds_after_last (Holding g) held none calm h = absurd (true≢false (sym h.0.has ∙ ap (list_any (nat_eq g.0)) none))

  advance_cases : (q : Phase) (held : List ℕ) (b : Bool) → (s.done + 1 == length (units plan s.job)) ≡ b → IsStep plan s below q held → AreActive plan c taken q (cond b below (record s { held = held; done = s.done + 1 } ∷ below))
  advance_cases q held true last step = record {
    each = are.each.1;
    apart = are.apart.1;
    holds = holds_after_last q held (last_free q held step (eqb-true _ _ last)) step.calm step.holds;
  }
  advance_cases q held false more step = record {
    each = (record { known = are.each.0.known; started = are.each.0.started; left = let l = are.each.0.left in let n = eqb-false _ _ more in omega (arith, l, n) }, are.each.1);
    apart = are.apart;
    holds = step.holds;
  }

  pub advance_active : (q : Phase) (held : List ℕ) → IsStep plan s below q held → AreActive plan c taken q (advanced plan (record s { held = held } ∷ below))
  advance_active q held step = advance_cases q held (s.done + 1 == length (units plan s.job)) refl step

  -- ---- how far the jobs are then
  same_swap : (i j : JobId) → same_job i j ≡ same_job j i
  same_swap i j = grind arith

  -- the newest, and any other
  done_newest : (held : List ℕ) (b : Bool) → (s.done + 1 == length (units plan s.job)) ≡ b → done_in plan (cond b below (record s { held = held; done = s.done + 1 } ∷ below)) s.job ≡ s.done + 1
  done_newest held true last = others_done plan below s.job are.apart.0 ∙ sym (eqb-true _ _ last)
  done_newest held false more = ap (λ b. cond b (s.done + 1) (done_in plan below s.job)) (same_self s.job)

  done_other : (held : List ℕ) (n : ℕ) (b : Bool) (j : JobId) → same_job j s.job ≡ false → done_in plan (cond b below (record s { held = held; done = n } ∷ below)) j ≡ done_in plan below j
  done_other held n true j off = refl
  done_other held n false j off = ap (λ b. cond b n (done_in plan below j)) off

  -- the test of the row's job
  row_test : (r : Row) (j : JobId) → r.job ≡ Some s.job → is_job r.job j ≡ same_job j s.job
  row_test r j e = ap (λ o. is_job o j) e ∙ same_swap s.job j

  taken_newest : is_among taken s.job ≡ true
  taken_newest = are.each.0.started

  pub advance_states : (q : Phase) (held : List ℕ) (r : Row) → r.job ≡ Some s.job → is_waiting r.kind ≡ false → is_waiting_phase q ≡ false → (j : JobId) → state_in plan taken q (advanced plan (record s { held = held } ∷ below)) j ≡ state_with r (state_in plan taken p (s ∷ below) j)
  advance_states q held r job acts calm j = elim (cases_Bool (same_job j s.job)) [
    | inl hit ↦
        subst (λ k. state_in plan taken q (advanced plan (record s { held = held } ∷ below)) k ≡ state_with r (state_in plan taken p (s ∷ below) k)) (sym (same_is j s.job hit))
        (let test : is_job r.job s.job ≡ true = row_test r s.job job ∙ same_self s.job in
        let d : cond (is_among taken s.job) (done_in plan (advanced plan (record s { held = held } ∷ below)) s.job) 0 ≡ s.done + 1 = ap (λ b. cond b (done_in plan (advanced plan (record s { held = held } ∷ below)) s.job) 0) taken_newest ∙ done_newest held (s.done + 1 == length (units plan s.job)) refl in
        let e : cond (is_among taken s.job) (done_in plan (s ∷ below) s.job) 0 + cond {A = ℕ} (not (is_waiting r.kind)) 1 0 ≡ s.done + 1 = ap (λ b. cond b (done_in plan (s ∷ below) s.job) 0 + cond {A = ℕ} (not (is_waiting r.kind)) 1 0) taken_newest ∙ (ap (λ b. cond b s.done (done_in plan below s.job) + cond {A = ℕ} (not (is_waiting r.kind)) 1 0) (same_self s.job) ∙ ap (λ b. s.done + cond {A = ℕ} (not b) 1 0) acts) in
        let w : (is_waiting_phase q && is_newest (advanced plan (record s { held = held } ∷ below)) s.job) ≡ is_waiting r.kind = ap (λ b. b && is_newest (advanced plan (record s { held = held } ∷ below)) s.job) calm ∙ sym acts in
        let m : moved_by r (state_in plan taken p (s ∷ below) s.job) ≡ state_in plan taken q (advanced plan (record s { held = held } ∷ below)) s.job = let t = taken_newest in cc in
        sym m ∙ sym (ap (λ b. cond b (moved_by r (state_in plan taken p (s ∷ below) s.job)) (state_in plan taken p (s ∷ below) s.job)) test))
    | inr miss ↦
        let test : is_job r.job j ≡ false = row_test r j job ∙ miss in
        let d : done_in plan (advanced plan (record s { held = held } ∷ below)) j ≡ done_in plan (s ∷ below) j = done_other held (s.done + 1) (s.done + 1 == length (units plan s.job)) j miss ∙ sym (ap (λ b. cond b s.done (done_in plan below j)) miss) in
        let w : (is_waiting_phase q && is_newest (advanced plan (record s { held = held } ∷ below)) j) ≡ (is_waiting_phase p && is_newest (s ∷ below) j) = ap (λ b. b && is_newest (advanced plan (record s { held = held } ∷ below)) j) calm ∙ sym (ap (λ b. is_waiting_phase p && b) miss ∙ and-false (is_waiting_phase p)) in
        let m : state_in plan taken q (advanced plan (record s { held = held } ∷ below)) j ≡ state_in plan taken p (s ∷ below) j = cc in
        m ∙ sym (ap (λ b. cond b (moved_by r (state_in plan taken p (s ∷ below) j)) (state_in plan taken p (s ∷ below) j)) test)
  ]
