-- In a legal log no two live jobs have one name: each release is of its task's next job.
use Rattle.std.proofs.Common.{◌≡◌, ◌+◌, ◌<◌, ◌≤◌, ◌==◌, ◌∷◌, ◌++◌, ◌∙◌}
use Rattle.std.specs.Prelude.{remove}
use Rattle.msrp_plan.proofs.Common.{ℕ, zero, suc, Bool, true, false, List, [], Some, None, refl, ap, sym, subst, arith, length, set, slice_get, nat_lt, nat_le, nat_tests, count_by, list_any, All, All-push, All-contains, All-from_recursion, AllByRecursion, recursion_from_All, Contains, length-set, length-replicate, get_or-set_same, get_or-set_other, eqb-true, eqb-false, same_job, same_is, same_self, slice_get-get_or, slice_get_within, get_or_from_slice_get, any_from, PlanModel}
use Rattle.std.proofs.lemmas.List.Elements.{All-set, All-weaker, All-get_or}
use Rattle.msrp_plan.specs.declared.ids.JobId.{JobId}
use Rattle.msrp_events.specs.LiveJobs.{place_of}
use Rattle.msrp_events.specs.Changes.{LogState, no_job, next_at, changed_at, last_at, without_at, released, as_started, as_waiting, as_stepped, jobs_with, next_with, first_state, moved}
use Rattle.msrp_events.specs.Findings.{release_finding, action_finding, finding_of}
use Rattle.msrp_events.specs.declared.events.Action.{Action}
use Rattle.msrp_events.specs.declared.events.Action.TheVariants.{Boot, Release, Switch, Step, End, Stop, Lost}
use Rattle.msrp_events.specs.declared.events.Event.{Event}
use Rattle.msrp_events.specs.declared.events.LockAction.TheVariants.{Lock, Unlock, Request, Acquire, Poll, Freed}
use Rattle.msrp_events.specs.declared.findings.LogRule.TheVariants.{E3, E7}
use Rattle.msrp_events.specs.declared.findings.Missing.TheVariants as missing
use Rattle.msrp_events.specs.declared.states.LiveJob.{LiveJob}
use Rattle.msrp_events.specs.declared.states.Tolerances.{Tolerances}
use Rattle.msrp_events.proofs.LegalEvents.{IsOwn, legal_step, legal_switch, legal_end, changed_own, last_own, without_own, accepted, fault_parts, lacks_parts, below}
use Rattle.msrp_events.proofs.OneHolder.{count_cons, count_push, count_none, count_set, count_remove, count_moved, one, one_most}

-- a job was released before its task's next one, and no other live job has its name
abbrev pub IsPast : PlanModel → List ℕ → LiveJob → Type 0
IsPast system next x = (x.job.task.0 < length system.tasks) × (x.job.k < next_at next x.job.task.0)

abbrev named : JobId → LiveJob → Bool
named j x = same_job x.job j

pub record AreNamed (system : PlanModel) (s : LogState) : Type 0 where
  pub next : length s.next ≡ length system.tasks
  pub past : All (IsPast system s.next) s.jobs
  pub once : (j : JobId) → count_by (named j) s.jobs ≤ 1

-- ---- two live jobs of one name are one
count_in : {X : Type 0} (p : X → Bool) (xs : List X) (k : ℕ) (y : X) → slice_get xs k ≡ Some y → p y ≡ true → 0 < count_by p xs
count_in p [] k y at passes = absurd (cc)
count_in p (z ∷ xs) zero y at passes =
    let e : z ≡ y = cc in
    let n = count_cons p z xs in
    let f : one (p z) ≡ 1 = ap one (ap p e ∙ passes) in
    omega (arith, n, f)
count_in p (z ∷ xs) (suc k) y at passes = let n = count_cons p z xs in let rest = count_in p xs k y at passes in omega (arith, n, rest)

one_of : {X : Type 0} (p : X → Bool) (xs : List X) → count_by p xs ≤ 1 → (i k : ℕ) (x y : X) → slice_get xs i ≡ Some x → slice_get xs k ≡ Some y → p x ≡ true → p y ≡ true → x ≡ y
one_of p [] few i k x y a b px py = absurd (cc)
one_of p (z ∷ xs) few zero zero x y a b px py = cc
one_of p (z ∷ xs) few zero (suc k) x y a b px py = let e : z ≡ x = cc in let n = count_cons p z xs in let f : one (p z) ≡ 1 = ap one (ap p e ∙ px) in let m = count_in p xs k y b py in absurd (omega (arith, n, f, m, few))
one_of p (z ∷ xs) few (suc i) zero x y a b px py = let e : z ≡ y = cc in let n = count_cons p z xs in let f : one (p z) ≡ 1 = ap one (ap p e ∙ py) in let m = count_in p xs i x a px in absurd (omega (arith, n, f, m, few))
one_of p (z ∷ xs) few (suc i) (suc k) x y a b px py = let n = count_cons p z xs in one_of p xs (omega (arith, n, few)) i k x y a b px py

-- a job that the events name is the live job of that name
pub same_live : (system : PlanModel) (s : LogState) (c : ℕ) (j : JobId) (own : IsOwn system s c j) → AreNamed system s → (x : LiveJob) → Contains s.jobs x → x.job ≡ j → own.x ≡ x
same_live system s c j own names x there name =
    let at : slice_get s.jobs there.0 ≡ Some x = slice_get-get_or s.jobs there.0 x there.1 ∙ ap (λ y. Some y) there.2 in
    one_of (named j) s.jobs (names.once j) own.i there.0 own.x x own.at at (is_named own.x j own.name) (is_named x j name)
  where
    is_named : (y : LiveJob) (j : JobId) → y.job ≡ j → named j y ≡ true
    is_named y j e = ap (λ i. same_job i j) e ∙ same_self j

-- ---- an event
pub All-remove : {X : Type 0} (P : X → Type 0) (xs : List X) (i : ℕ) → All P xs → All P (remove xs i)
All-remove P xs i all = All-from_recursion P (remove xs i) (removed P xs i (recursion_from_All P xs all)) where
  removed : {X : Type 0} (P : X → Type 0) (xs : List X) (i : ℕ) → AllByRecursion P xs → AllByRecursion P (remove xs i)
  removed P [] zero all = all
  removed P [] (suc i) all = all
  removed P (x ∷ xs) zero all = all.1
  removed P (x ∷ xs) (suc i) all = (all.0, removed P xs i all.1)

module _ (system : PlanModel) (s : LogState) (c : ℕ) (j : JobId) (own : IsOwn system s c j) (names : AreNamed system s) where
  abbrev Keeps : List LiveJob → Type 0
  Keeps jobs = All (IsPast system s.next) jobs × ((j : JobId) → count_by (named j) jobs ≤ 1)

  is_past : IsPast system s.next own.x
  is_past = subst (IsPast system s.next) (get_or_from_slice_get s.jobs own.i own.x no_job own.at) (All-get_or (IsPast system s.next) s.jobs own.i no_job (slice_get_within s.jobs own.i own.x own.at) names.past)

  set_named : (change : LiveJob → LiveJob) → (change own.x).job ≡ own.x.job → Keeps (changed_at (place_of s.jobs j) change s.jobs)
  set_named change same = subst Keeps (sym (changed_own system s c j own change)) (
    All-set (IsPast system s.next) s.jobs own.i (change own.x) (subst (λ n. (n.task.0 < length system.tasks) × (n.k < next_at s.next n.task.0)) (sym same) is_past) names.past,
    λ n. let le = count_set (named n) s.jobs own.i own.x (change own.x) own.at (λ e. ap (λ i. same_job i n) (sym same) ∙ e) in let most = names.once n in omega (arith, le, most),
  )

  last_named : Keeps (last_at (place_of s.jobs j) as_waiting s.jobs)
  last_named = subst Keeps (sym (last_own system s c j own as_waiting)) (
    All-push (IsPast system s.next) (remove s.jobs own.i) (as_waiting own.x) (All-remove (IsPast system s.next) s.jobs own.i names.past) is_past,
    λ n. let le = count_moved (named n) s.jobs own.i own.x (as_waiting own.x) own.at (λ e. e) in let most = names.once n in omega (arith, le, most),
  )

  without_named : Keeps (without_at (place_of s.jobs j) s.jobs)
  without_named = subst Keeps (sym (without_own system s c j own)) (All-remove (IsPast system s.next) s.jobs own.i names.past, λ n. let le = count_remove (named n) s.jobs own.i in let most = names.once n in omega (arith, le, most))

released_named : (system : PlanModel) (tolerances : Tolerances) (s : LogState) (j : JobId) (deadline : ℕ) → release_finding system tolerances s j ≡ None → (next : List ℕ) (jobs : List LiveJob) → next ≡ set s.next j.task.0 (j.k + 1) → jobs ≡ s.jobs ++ released j deadline ∷ [] → AreNamed system s
    → (length next ≡ length system.tasks) × All (IsPast system next) jobs × ((n : JobId) → count_by (named n) jobs ≤ 1)
released_named system tolerances s j deadline h next jobs is are names =
    let known = fault_parts (nat_le (length system.tasks) j.task.0) E3 _ h in
    let fresh = fault_parts (nat_lt j.k (next_at s.next j.task.0)) E7 _ known.1 in
    let gap = lacks_parts (nat_lt (next_at s.next j.task.0) j.k) missing.Release _ fresh.1 in
    let task = below (length system.tasks) j.task.0 known.0 in
    let k : j.k ≡ next_at s.next j.task.0 = same_number j.k (next_at s.next j.task.0) fresh.0 gap.0 in
    subst (λ n. (length n ≡ length system.tasks) × All (IsPast system n) jobs × ((n : JobId) → count_by (named n) jobs ≤ 1)) (sym is) (
      length-set s.next j.task.0 (j.k + 1) ∙ names.next,
      subst (All (IsPast system (set s.next j.task.0 (j.k + 1)))) (sym are) (All-push (IsPast system (set s.next j.task.0 (j.k + 1))) s.jobs (released j deadline) (All-weaker (IsPast system s.next) (IsPast system (set s.next j.task.0 (j.k + 1))) (λ x p. (p.0, later x.job p.1 k task)) s.jobs names.past) (task, last task)),
      subst (λ js. (n : JobId) → count_by (named n) js ≤ 1) (sym are) (λ n. pushed n (same_job j n) refl k),
    )
  where
    same_number : (a b : ℕ) → nat_lt a b ≡ false → nat_lt b a ≡ false → a ≡ b
    same_number a b h g = grind (arith, nat_tests)

    last : j.task.0 < length system.tasks → j.k < next_at (set s.next j.task.0 (j.k + 1)) j.task.0
    last task = let n = names.next in let e = get_or-set_same s.next j.task.0 (j.k + 1) 0 (omega (arith, n, task)) in omega (arith, e)

    later : (i : JobId) → i.k < next_at s.next i.task.0 → j.k ≡ next_at s.next j.task.0 → j.task.0 < length system.tasks → i.k < next_at (set s.next j.task.0 (j.k + 1)) i.task.0
    later i p k task = by_task (i.task.0 == j.task.0) refl where
      by_task : (b : Bool) → (i.task.0 == j.task.0) ≡ b → i.k < next_at (set s.next j.task.0 (j.k + 1)) i.task.0
      by_task true same =
          let e = eqb-true i.task.0 j.task.0 same in
          let before : i.k < next_at s.next j.task.0 = subst (λ t. i.k < next_at s.next t) e p in
          let now = last task in
          subst (λ t. i.k < next_at (set s.next j.task.0 (j.k + 1)) t) (sym e) (omega (arith, before, now, k))
      by_task false other = let e = get_or-set_other s.next j.task.0 i.task.0 (j.k + 1) 0 (eqb-false i.task.0 j.task.0 other) in omega (arith, e, p)

    pushed : (n : JobId) (b : Bool) → same_job j n ≡ b → j.k ≡ next_at s.next j.task.0 → count_by (named n) (s.jobs ++ released j deadline ∷ []) ≤ 1
    pushed n false other k =
        let a = count_push (named n) s.jobs (released j deadline) in
        let z : one (same_job j n) ≡ 0 = ap one other in
        let most = names.once n in
        omega (arith, a, z, most)
    pushed n true same k =
        let a = count_push (named n) s.jobs (released j deadline) in
        let z = one_most (same_job j n) in
        let none = count_none (named n) s.jobs (no_other (list_any (named n) s.jobs) refl) in
        omega (arith, a, z, none)
      where
        no_other : (b : Bool) → list_any (named n) s.jobs ≡ b → list_any (named n) s.jobs ≡ false
        no_other false h = h
        no_other true h =
            let found = any_from (named n) s.jobs h in
            let past = All-contains (IsPast system s.next) s.jobs found.0 names.past found.1 in
            let e : found.0.job ≡ j = same_is found.0.job n found.2 ∙ sym (same_is j n same) in
            let low : j.k < next_at s.next j.task.0 = subst (λ (i : JobId). i.k < next_at s.next i.task.0) e past.1 in
            absurd (omega (arith, low, k))

pub moved_named : (system : PlanModel) (tolerances : Tolerances) (s : LogState) (e : Event) → s.stopped ≡ false → finding_of system tolerances s e ≡ None → AreNamed system s → AreNamed system (moved system s e)
moved_named system tolerances s e runs h names =
    let it = by_action e.action (accepted system tolerances s e runs h).action in
    record { next = it.0; past = it.1; once = it.2 }
  where
    stepped : (j : JobId) (c : ℕ) (own : IsOwn system s c j) → (length s.next ≡ length system.tasks) × All (IsPast system s.next) (changed_at (place_of s.jobs j) as_stepped s.jobs) × ((n : JobId) → count_by (named n) (changed_at (place_of s.jobs j) as_stepped s.jobs) ≤ 1)
    stepped j c own = let it = set_named system s c j own names as_stepped refl in (names.next, it.0, it.1)

    by_action : (a : Action) → action_finding system tolerances s e a ≡ None → (length (next_with a s.next) ≡ length system.tasks) × All (IsPast system (next_with a s.next)) (jobs_with a s.jobs) × ((n : JobId) → count_by (named n) (jobs_with a s.jobs) ≤ 1)
    by_action (Release j deadline) h = released_named system tolerances s j deadline h _ _ refl refl names
    by_action (Switch None) h = (names.next, names.past, names.once)
    by_action (Switch (Some j)) h = let it = set_named system s e.core.0 j (legal_switch system s e.core.0 j h).0 names as_started refl in (names.next, it.0, it.1)
    by_action (Step Lock j r) h = stepped j e.core.0 (legal_step system tolerances s e Lock j r.0 h).own
    by_action (Step Unlock j r) h = stepped j e.core.0 (legal_step system tolerances s e Unlock j r.0 h).own
    by_action (Step Request j r) h = let it = last_named system s e.core.0 j (legal_step system tolerances s e Request j r.0 h).own names in (names.next, it.0, it.1)
    by_action (Step Acquire j r) h = stepped j e.core.0 (legal_step system tolerances s e Acquire j r.0 h).own
    by_action (Step Poll j r) h = (names.next, names.past, names.once)
    by_action (Step Freed j r) h = stepped j e.core.0 (legal_step system tolerances s e Freed j r.0 h).own
    by_action (End j) h = let it = without_named system s e.core.0 j (legal_end system s e.core.0 j h).0 names in (names.next, it.0, it.1)
    by_action Boot h = (names.next, names.past, names.once)
    by_action Stop h = (names.next, names.past, names.once)
    by_action Lost h = (names.next, names.past, names.once)

pub first_named : (system : PlanModel) → AreNamed system (first_state system)
first_named system = record { next = length-replicate (length system.tasks) 0; past = All-from_recursion (IsPast system (first_state system).next) [] tt; once = λ n. omega arith }
