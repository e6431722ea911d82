-- The first refusal of a list of records.
use Rattle.std.proofs.Common.{◌≡◌, ◌+◌, ◌-◌, ◌<◌, ◌≤◌}
use Rattle.msrp_plan.proofs.Common.{ℕ, List, Option, Some, None, Ok, Err, length, take, refl, ap, arith, suc, zero, option_map, cons_option, filter_map, range_with_len, PlanModel}
use Rattle.msrp_plan.specs.declared.faults.PlanFault.{PlanFault}
use Rattle.std.specs.List.{slice_get}
use Rattle.msrp_text.specs.Laws.{IsAccepted, IsFirstRefused, fault_of_record}
use Rattle.msrp_text.specs.Reading.{fault_after, first_or, plan_of, plan_told, refusal_at}
use Rattle.msrp_text.specs.declared.reading.TextError.{TextError}
use Rattle.msrp_text.specs.declared.reading.TextError.TheVariants.{At}

-- the first of n places from a on that is refused
abbrev IsFirstPlace : (ℕ → Option TextError) → ℕ → ℕ → TextError → Type 0
IsFirstPlace refusal a n e = (i : ℕ) × (i < n) × (refusal (a + i) ≡ Some e) × ((j : ℕ) → j < i → refusal (a + j) ≡ None)

refused-here : (refusal : ℕ → Option TextError) (a i : ℕ) (o : Option TextError) → i ≡ a → refusal a ≡ o → refusal i ≡ o
refused-here refusal a i o e h = rw e h

later-none : (refusal : ℕ → Option TextError) (a i : ℕ) → refusal a ≡ None → ((j : ℕ) → j < i → refusal (a + 1 + j) ≡ None) → (j : ℕ) → j < suc i → refusal (a + j) ≡ None
later-none refusal a i here later zero h = refused-here refusal a (a + 0) None (omega arith) here
later-none refusal a i here later (suc j) h = refused-here refusal (a + 1 + j) (a + suc j) None (omega arith) (later j (omega arith))

-- a place that is refused is the first; one that isn't leaves the first to those after it
place-here : (refusal : ℕ → Option TextError) (plan : PlanModel) (e : TextError) (n a : ℕ) (o : Option TextError) (later : List TextError)
    → refusal a ≡ o → first_or (cons_option o later) plan ≡ Err e → (first_or later plan ≡ Err e → IsFirstPlace refusal (a + 1) n e) → IsFirstPlace refusal a (suc n) e
place-here refusal plan e n a (Some r) later here h go =
    let same : r ≡ e = cc in
    (0, omega arith, refused-here refusal a (a + 0) (Some e) (omega arith) (rw (← same) here), λ j k. absurd (omega arith))
place-here refusal plan e n a None later here h go =
    let next = go h in
    (suc next.0, omega (arith, next.1), refused-here refusal (a + 1 + next.0) (a + suc next.0) (Some e) (omega arith) next.2, later-none refusal a next.0 here next.3)

first-place : (refusal : ℕ → Option TextError) (plan : PlanModel) (e : TextError) (n a : ℕ) → first_or (filter_map refusal (range_with_len a n)) plan ≡ Err e → IsFirstPlace refusal a n e
first-place refusal plan e zero a h = cc
first-place refusal plan e (suc n) a h = place-here refusal plan e n a (refusal a) _ refl h (first-place refusal plan e n (a + 1))

-- where the answer is a plan, no place is refused
abbrev AreUnrefused : (ℕ → Option TextError) → ℕ → ℕ → Type 0
AreUnrefused refusal a n = (i : ℕ) → i < n → refusal (a + i) ≡ None

none-here : (refusal : ℕ → Option TextError) (plan due : PlanModel) (n a : ℕ) (o : Option TextError) (later : List TextError)
    → refusal a ≡ o → first_or (cons_option o later) plan ≡ Ok due → (first_or later plan ≡ Ok due → AreUnrefused refusal (a + 1) n × (due ≡ plan)) → AreUnrefused refusal a (suc n) × (due ≡ plan)
none-here refusal plan due n a (Some r) later here h go = cc
none-here refusal plan due n a None later here h go = let next = go h in (later-none refusal a n here next.0, next.1)

no-place : (refusal : ℕ → Option TextError) (plan due : PlanModel) (n a : ℕ) → first_or (filter_map refusal (range_with_len a n)) plan ≡ Ok due → AreUnrefused refusal a n × (due ≡ plan)
no-place refusal plan due zero a h = let same : due ≡ plan = cc in (λ i k. absurd (omega arith), same)
no-place refusal plan due (suc n) a h = none-here refusal plan due n a (refusal a) _ refl h (no-place refusal plan due n (a + 1))

-- the rule behind a refusal, and none behind none
rule-of : (o : Option PlanFault) (fault : PlanFault) (n number : ℕ) → option_map (λ f. At f (n + 1)) o ≡ Some (At fault number) → (o ≡ Some fault) × (n + 1 ≡ number)
rule-of None fault n number h = cc
rule-of (Some f) fault n number h =
    let same : f ≡ fault = cc in
    let counted : n + 1 ≡ number = cc in
    (ap (λ (x : PlanFault). Some x) same, counted)

no-rule : (o : Option PlanFault) (n : ℕ) → option_map (λ f. At f (n + 1)) o ≡ None → o ≡ None
no-rule None n h = refl
no-rule (Some f) n h = cc

-- the rule that the record of a number breaks, by its place
at-place : (records : List (List (List ℕ))) (i number : ℕ) (o : Option PlanFault) → number - 1 ≡ i → fault_after (take i records) (slice_get records i) ≡ o → fault_of_record records number ≡ o
at-place records i number o e h = rw e h

none-before : (records : List (List (List ℕ))) (i number : ℕ) → ((j : ℕ) → j < i → refusal_at records (0 + j) ≡ None) → i + 1 ≡ number
    → (earlier : ℕ) → 1 ≤ earlier → earlier < number → fault_of_record records earlier ≡ None
none-before records i number none e earlier low high =
    no-rule _ (earlier - 1) (refused-here (refusal_at records) (0 + (earlier - 1)) (earlier - 1) None (omega arith) (none (earlier - 1) (omega arith)))

pub first-refused : (records : List (List (List ℕ))) (fault : PlanFault) (number : ℕ) → plan_of records ≡ Err (At fault number) → IsFirstRefused records fault number
unfolding plan_of
first-refused records fault number h =
    let first = first-place (refusal_at records) (plan_told records) (At fault number) (length records + 1) 0 h in
    let rule = rule-of (fault_after (take (0 + first.0) records) (slice_get records (0 + first.0))) fault (0 + first.0) number first.2 in
    let place : first.0 + 1 ≡ number = omega (arith, rule.1) in
    record {
      counted = (omega (arith, place), omega (arith, place, first.1));
      refused = at-place records (0 + first.0) number (Some fault) (omega (arith, place)) rule.0;
      before = none-before records first.0 number first.3 place;
    }

pub accepted : (records : List (List (List ℕ))) (plan : PlanModel) → plan_of records ≡ Ok plan → IsAccepted records plan
unfolding plan_of
accepted records plan h =
    let none = no-place (refusal_at records) (plan_told records) plan (length records + 1) 0 h in
    record {
      kept = λ number low high. none-before records (length records + 1) (length records + 2) none.0 (omega arith) number low (omega arith);
      told = none.1;
    }
