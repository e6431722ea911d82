-- The merged list is a legal run, and its steps on each resource are the resource's history.
use Rattle.std.proofs.Common.{◌≡◌, ◌+◌, ◌/◌, ◌<◌, ◌≤◌, ◌&&◌, ◌∷◌, ◌++◌, ◌∙◌}
use Rattle.msrp_plan.proofs.Common.{ℕ, zero, suc, Bool, true, false, cond, List, [], length, refl, ap, sym, subst, arith, inl, inr, eq-eqb, ne_eqb, length-append, AllByRecursion, filter, true≢false, cases_lt, and_parts, and_from, length-map, map-append, PlanModel, carries_its_ahead, carries_ahead, is_on, EachAfter, IsCoreTurn, CoreRun, IsRun, is_of, log_of, Legal, IsPlan, all_of, undeclared_local}
use Rattle.msrp_merge.proofs.Common.{AreInterleaved, AreLogs, AreServed, AreTurns, Entry, Event, IsChain, IsHistory, IsMerged, IsNotLater, IsRowOfEvent, IsTurnOf, IsTurnOfEvent, LogModel, Paired, Row, Turn, calls, has_place, interleaved_run, is_by, is_row_on, is_step, is_step_on, rows_of, turn_at, turns_of}
use Rattle.msrp_plan.proofs.Lists.Filters.{filter_map_same}
use Rattle.msrp_merge.proofs.Histories.{turns_are_history}
use Rattle.msrp_merge.proofs.Pairing.{paired_weaker}
use Rattle.msrp_merge.proofs.Replies.{served_answered}

-- ---- the logs have a turn for each tick
turn_from : (plan : PlanModel) (c : ℕ) (pre : List Row) (turns : List Turn) → EachAfter (IsCoreTurn plan c) pre (rows_of turns) → (t : ℕ) → t < length turns → ((turn_at turns t).row.core.0 ≡ c) × ((turn_at turns t).row.tick ≡ length pre + t)
turn_from plan c pre [] all t l = absurd (omega (arith, l))
turn_from plan c pre (x ∷ turns) all zero l = let k = all.0.tick in (all.0.core, k ∙ omega arith)
turn_from plan c pre (x ∷ turns) all (suc t) l =
    let rest = turn_from plan c (pre ++ x.row ∷ []) turns all.1 t (omega (arith, l)) in
    let k = length-append pre (x.row ∷ []) in
    (rest.0, rest.1 ∙ omega (arith, k))

pub are_turns : (plan : PlanModel) (logs : List LogModel) (books : ℕ → List Entry) → AreLogs plan logs books → AreTurns plan.cores plan.ticks (turns_of logs)
are_turns plan logs books h = record {
  many = h.whole;
  core = λ c t low early. (turn_from plan c [] (turns_of logs c) (h.runs c low) t (let k = h.whole c low in omega (arith, early, k))).0;
  tick = λ c t low early. (turn_from plan c [] (turns_of logs c) (h.runs c low) t (let k = h.whole c low in omega (arith, early, k))).1 ∙ omega arith;
}

-- ---- what holds of the turns of each core holds of all
by_rest : (P : Turn → Type 0) (x : Turn) (b : Bool) (l : List Turn) → AllByRecursion P (cond b (x ∷ l) l) → AllByRecursion P l
by_rest P x true l all = all.1
by_rest P x false l all = all

all_cores : (cores : ℕ) (P : Turn → Type 0) (turns : List Turn) → AllByRecursion (λ x. x.row.core.0 < cores) turns → ((c : ℕ) → c < cores → AllByRecursion P (filter (is_by c) turns)) → AllByRecursion P turns
all_cores cores P [] known each = tt
all_cores cores P (x ∷ turns) known each = (
  (subst (λ b. AllByRecursion P (cond b (x ∷ filter (is_by x.row.core.0) turns) (filter (is_by x.row.core.0) turns))) (eq-eqb x.row.core.0 x.row.core.0 refl) (each x.row.core.0 known.0)).0,
  all_cores cores P turns known.1 (λ c low. by_rest P x (is_by c x) (filter (is_by c) turns) (each c low)),
)

-- no other core has turns
none_by : (cores c : ℕ) (turns : List Turn) → cores ≤ c → AllByRecursion (λ x. x.row.core.0 < cores) turns → filter (is_by c) turns ≡ []
none_by cores c [] past known = refl
none_by cores c (x ∷ turns) past known =
    let l = known.0 in
    ap (λ b. cond b (x ∷ filter (is_by c) turns) (filter (is_by c) turns)) (ne_eqb x.row.core.0 c (λ e. absurd (omega (arith, e, l, past)))) ∙ none_by cores c turns past known.1

-- ---- turns and their rows
rows_all : (P : Row → Type 0) (turns : List Turn) → AllByRecursion (λ x. P x.row) turns → AllByRecursion P (rows_of turns)
rows_all P [] all = tt
rows_all P (x ∷ turns) all = (all.0, rows_all P turns all.1)

rows_due : (cores : ℕ) (pre turns : List Turn) → EachAfter (λ pre x. x.row.tick ≡ length pre / cores) pre turns → EachAfter (λ pre r. r.tick ≡ length pre / cores) (rows_of pre) (rows_of turns)
rows_due cores pre [] all = tt
rows_due cores pre (x ∷ turns) all = (
  all.0 ∙ ap (λ n. n / cores) (sym (length-map pre (λ x. x.row))),
  subst (λ l. EachAfter (λ pre r. r.tick ≡ length pre / cores) l (rows_of turns)) (map-append (λ x. x.row) pre (x ∷ [])) (rows_due cores (pre ++ x ∷ []) turns all.1),
)

rows_by : (c : ℕ) (turns : List Turn) → log_of c (rows_of turns) ≡ rows_of (filter (is_by c) turns)
rows_by c turns = filter_map_same (λ x. x.row) (is_by c) (is_of c) (λ x. Unit {0}) (λ x h. refl) turns (all_of (λ x. Unit {0}) (λ x. tt) turns)

rows_on : (g : ℕ) (turns : List Turn) → AllByRecursion (λ x. has_place x ≡ is_step x.row.kind) turns → filter (is_row_on g) (rows_of turns) ≡ rows_of (filter (is_step_on g) turns)
rows_on g turns all = filter_map_same (λ x. x.row) (is_step_on g) (is_row_on g) (λ x. has_place x ≡ is_step x.row.kind) (λ x h. ap (λ b. b && is_on g x.row.res) (sym h)) turns all

rows_paired : (R : Row → Event → Type 0) (turns : List Turn) (h : List Event) → Paired (λ x s. R x.row s) turns h → Paired R (rows_of turns) h
rows_paired R [] [] all = tt
rows_paired R [] (s ∷ h) all = absurd all
rows_paired R (x ∷ turns) [] all = absurd all
rows_paired R (x ∷ turns) (s ∷ h) all = (all.0, rows_paired R turns h all.1)

-- ---- what rows carry
carried_each : (turns : List Turn) → carries_ahead (rows_of turns) ≡ true → AllByRecursion (λ x. carries_its_ahead x.row ≡ true) turns
carried_each [] h = tt
carried_each (x ∷ turns) h = let k = and_parts (carries_its_ahead x.row) (carries_ahead (rows_of turns)) h in (k.0, carried_each turns k.1)

carried_all : (turns : List Turn) → AllByRecursion (λ x. carries_its_ahead x.row ≡ true) turns → carries_ahead (rows_of turns) ≡ true
carried_all [] all = refl
carried_all (x ∷ turns) all = and_from (carries_its_ahead x.row) (carries_ahead (rows_of turns)) all.0 (carried_all turns all.1)

-- ---- the merged list of logs that fit their books
module _ (plan : PlanModel) (logs : List LogModel) (books : ℕ → List Entry) (turns : List Turn) (are : AreLogs plan logs books) (m : IsMerged plan.cores plan.ticks (turns_of logs) turns) (past : (c : ℕ) → plan.cores ≤ c → books c ≡ []) where
  -- the log of each core is as it was
  pub logs_kept : (c : ℕ) → c < plan.cores → log_of c (rows_of turns) ≡ rows_of (turns_of logs c)
  logs_kept c low = rows_by c turns ∙ ap rows_of (m.own c low)

  -- where the logs carry all aheads the whole does
  pub aheads_kept : ((c : ℕ) → c < plan.cores → carries_ahead (rows_of (turns_of logs c)) ≡ true) → carries_ahead (rows_of turns) ≡ true
  aheads_kept each = carried_all turns (all_cores plan.cores (λ x. carries_its_ahead x.row ≡ true) turns m.known (λ c low. subst (AllByRecursion (λ x. carries_its_ahead x.row ≡ true)) (sym (m.own c low)) (carried_each (turns_of logs c) (each c low))))

  -- each core's steps are the entries of its book
  fits_merged : (c : ℕ) → Paired IsTurnOf (filter has_place (filter (is_by c) turns)) (books c)
  fits_merged c = elim (cases_lt c plan.cores) [
    | inl low ↦ subst (λ l. Paired IsTurnOf (filter has_place l) (books c)) (sym (m.own c low)) (are.fits c low).steps
    | inr high ↦ subst (λ l. Paired IsTurnOf (filter has_place l) (books c)) (sym (none_by plan.cores c turns high m.known)) (subst (Paired IsTurnOf []) (sym (past c high)) tt)
  ]

  -- and all have a place
  places_merged : AllByRecursion (λ x. has_place x ≡ is_step x.row.kind) turns
  places_merged = all_cores plan.cores (λ x. has_place x ≡ is_step x.row.kind) turns m.known (λ c low. subst (AllByRecursion (λ x. has_place x ≡ is_step x.row.kind)) (sym (m.own c low)) (are.fits c low).places)

  -- the steps on a resource are its history
  pub rows_are_history : (g : ℕ) (h : List Event) → IsHistory g books h → IsChain IsNotLater h → Paired IsRowOfEvent (filter (is_row_on g) (rows_of turns)) h
  rows_are_history g h hist rising =
      subst (λ l. Paired IsRowOfEvent l h) (sym (rows_on g turns places_merged))
      (rows_paired IsRowOfEvent (filter (is_step_on g) turns) h (paired_weaker IsTurnOfEvent (λ x s. IsRowOfEvent x.row s) (λ x s k. record { core = k.core; step = k.step.row }) (filter (is_step_on g) turns) h
      (turns_are_history g books h turns hist rising m.sorted fits_merged)))

  interleaved : AreInterleaved plan (rows_of turns)
  interleaved = record {
    runs = λ c low. subst (CoreRun plan c) (sym (logs_kept c low)) (are.runs c low);
    cores = rows_all (λ r. r.core.0 < plan.cores) turns m.known;
    ticks = rows_due plan.cores [] turns m.due;
  }

  -- where each resource has a legal history whose ticks never fall, the whole is a run
  pub rows_are_run : IsPlan plan → ((g : ℕ) → g < length plan.resources → (h : List Event) × IsHistory g books h × Legal (calls h) × IsChain IsNotLater h) → IsRun plan (rows_of turns)
  rows_are_run ok served = interleaved_run plan (rows_of turns) interleaved (served_answered plan (rows_of turns) ok each_served) (length-map turns (λ x. x.row) ∙ m.size)
    where
      each_served : AreServed plan (rows_of turns)
      each_served g glob = elim (cases_lt g (length plan.resources)) [
        | inl low ↦ let s = served g low in (s.0, rows_are_history g s.0 s.1 s.3, s.2)
        | inr high ↦ absurd (true≢false (sym glob ∙ undeclared_local plan g ok.draft high))
      ]
