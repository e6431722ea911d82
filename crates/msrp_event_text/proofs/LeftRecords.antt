-- The verdict on the records that are left, one record after another.
use Rattle.std.proofs.Common.{◌≡◌, ◌<◌, ◌+◌, ◌++◌, ◌∷◌, ◌∙◌, if◌then◌else◌}
use Rattle.msrp_plan.proofs.Common.{ℕ, Bool, true, false, List, [], Option, Some, None, Result, Ok, Err, refl, ap, sym, subst, inl, inr, get_or, length, map, replicate, take, zero, suc, PlanModel}
use Rattle.std.proofs.lemmas.List.{map_more}
use Rattle.msrp_text.specs.Records.{GivesNext}
use Rattle.msrp_events.specs.Changes.{LogState, first_state, idle_core}
use Rattle.msrp_events.specs.Findings.{finding_in}
use Rattle.msrp_events.specs.declared.events.Event.{Event}
use Rattle.msrp_events.specs.declared.findings.Finding.{Finding}
use Rattle.msrp_events.specs.declared.findings.LogRule.{LogRule}
use Rattle.msrp_events.specs.declared.findings.Missing.TheVariants as missing
use Rattle.msrp_events.specs.declared.states.CoreLog.{CoreLog}
use Rattle.msrp_events.specs.declared.states.Tolerances.{Tolerances}
use Rattle.msrp_event_text.specs.LogEvents.{event_of}
use Rattle.msrp_event_text.specs.LogVerdicts.{Answers, awaited_in, awaited_of, record_shows, events_with, numbers_by, decided_or, settled, verdict_from, is_certain, record_loses, told_by, after_record, confirmed_from, is_head, no_numbers, verdict_after}
use Rattle.msrp_event_text.specs.declared.confirming.Awaited.{Awaited}
use Rattle.msrp_event_text.specs.declared.verdicts.LogVerdict.{LogVerdict}
use Rattle.msrp_event_text.specs.declared.verdicts.LogVerdict.TheVariants.{Fault, Unconfirmed, Incomplete}
use Rattle.msrp_event_text.specs.declared.verdicts.LogError.{LogError}
use Rattle.msrp_event_text.specs.declared.verdicts.LogError.TheVariants.{Head}

-- an answer is one by an equal verdict too, and so is an equal answer
pub answer-is : (a b verdict : Result LogVerdict LogError) → a ≡ b → Answers a verdict → Answers b verdict
answer-is a b verdict e h = subst (λ r. Answers r verdict) e h

pub answers-same : (answer v w : Result LogVerdict LogError) → v ≡ w → Answers answer v → Answers answer w
answers-same answer v w e (inl h) = inl h
answers-same answer v w e (inr (inl h)) = inr (inl h)
answers-same answer v w e (inr (inr h)) = inr (inr (h ∙ e))

-- where no record was given, none was left
pub none-left : (left : List (List (List ℕ))) (found : Bool) (fields : List (List ℕ)) (after : Option (List (List (List ℕ)))) → GivesNext left found fields after → found ≡ false → left ≡ []
none-left [] found fields after gives none = refl
none-left (r ∷ rest) found fields after gives none = let some = gives.0 in absurd (cc)

-- where one was given, it was the first of those that were left
pub one-left : (left : List (List (List ℕ))) (found : Bool) (fields : List (List ℕ)) (after : Option (List (List (List ℕ)))) → GivesNext left found fields after → found ≡ true
    → (rest : List (List (List ℕ))) × (left ≡ fields ∷ rest) × (after ≡ Some rest)
one-left [] found fields after gives some = absurd (cc)
one-left (r ∷ rest) found fields after gives some = (rest, ap (λ f. f ∷ rest) (sym gives.1), gives.2)

-- ---- findings
abbrev decided : PlanModel → Tolerances → ℕ → List Event → List Awaited → List (List ℕ) → List (List (List ℕ)) → Result (Option Finding) LogError → Result LogVerdict LogError
decided system u number events numbers fields rest shows =
    decided_or shows (settled system number (told_by numbers (event_of system fields)) rest)
    (verdict_from system u (number + 1) (events_with events (event_of system fields)) (numbers_by numbers (event_of system fields)) rest)

-- what the first record shows decides, if it shows something
pub verdict-decided : (system : PlanModel) (t u : Tolerances) → t ≡ u → (number : ℕ) (events : List Event) (numbers : List Awaited) (left : List (List (List ℕ))) (fields : List (List ℕ)) (rest : List (List (List ℕ))) → left ≡ fields ∷ rest
    → (shows : Result (Option Finding) LogError) (verdict : Result LogVerdict LogError) → record_shows system t number events fields (event_of system fields) ≡ shows
    → decided system u number events numbers fields rest shows ≡ verdict → verdict_from system u number events numbers left ≡ verdict
verdict-decided system t u same number events numbers left fields rest at shows verdict h decides =
    ap (verdict_from system u number events numbers) at
    ∙ (ap (λ v. decided system u number events numbers fields rest (record_shows system v number events fields (event_of system fields))) (sym same)
    ∙ (ap (decided system u number events numbers fields rest) h
    ∙ decides))

-- and else the rest does, after one event more
pub verdict-goes : (system : PlanModel) (t u : Tolerances) → t ≡ u → (number : ℕ) (events : List Event) (numbers : List Awaited) (left : List (List (List ℕ))) (fields : List (List ℕ)) (rest : List (List (List ℕ))) → left ≡ fields ∷ rest
    → (e : Event) (ns : List Awaited) → record_shows system t number events fields (event_of system fields) ≡ Ok None → events_with events (event_of system fields) ≡ events ++ e ∷ [] → ns ≡ numbers_by numbers (event_of system fields)
    → verdict_from system u (number + 1) (events ++ e ∷ []) ns rest ≡ verdict_from system u number events numbers left
verdict-goes system t u same number events numbers left fields rest at e ns h one two =
    sym (verdict-decided system t u same number events numbers left fields rest at (Ok None) _ h
    (ap (λ es. verdict_from system u (number + 1) es (numbers_by numbers (event_of system fields)) rest) one ∙ ap (λ it. verdict_from system u (number + 1) (events ++ e ∷ []) it rest) (sym two)))

-- a record that shows something, or shows nothing, has an event
abbrev found_or : Result (Option Finding) LogError → Option Finding
found_or (Ok found) = found
found_or (Err error) = None

pub has-event : (system : PlanModel) (tolerances : Tolerances) (number : ℕ) (events : List Event) (fields : List (List ℕ)) (o : Option Event) (found : Option Finding) → record_shows system tolerances number events fields o ≡ Ok found
    → (e : Event) × (o ≡ Some e) × (events_with events o ≡ events ++ e ∷ []) × (finding_in system tolerances (events ++ e ∷ []) ≡ found)
has-event system tolerances number events fields None found h = absurd (cc)
has-event system tolerances number events fields (Some e) found h = (e, refl, refl, ap found_or h)

-- ---- whether a fault is certain
pub confirmed-certain : (system : PlanModel) (rule : LogRule) (number at : ℕ) (awaited : List Awaited) (left : List (List (List ℕ))) → is_certain awaited ≡ true → confirmed_from system rule number at awaited left ≡ Ok (Fault rule number)
confirmed-certain system rule number at awaited [] h = ap (λ b. if b then Ok (Fault rule number) else Ok (Unconfirmed rule number)) h
confirmed-certain system rule number at awaited (fields ∷ rest) h =
    ap (λ b. if b then Ok (Fault rule number) else after_record (record_loses awaited at fields (event_of system fields)) (Ok (Incomplete missing.Records at)) (confirmed_from system rule number (at + 1) (told_by awaited (event_of system fields)) rest)) h

pub confirmed-end : (system : PlanModel) (rule : LogRule) (number at : ℕ) (awaited : List Awaited) (left : List (List (List ℕ))) → is_certain awaited ≡ false → left ≡ [] → confirmed_from system rule number at awaited left ≡ Ok (Unconfirmed rule number)
confirmed-end system rule number at awaited left h none =
    ap (confirmed_from system rule number at awaited) none ∙ ap (λ b. if b then Ok (Fault rule number) else Ok (Unconfirmed rule number)) h

pub confirmed-decided : (system : PlanModel) (rule : LogRule) (number at : ℕ) (awaited : List Awaited) (left : List (List (List ℕ))) (fields : List (List ℕ)) (rest : List (List (List ℕ))) → is_certain awaited ≡ false → left ≡ fields ∷ rest
    → (loses : Result Bool LogError) → record_loses awaited at fields (event_of system fields) ≡ loses
    → confirmed_from system rule number at awaited left ≡ after_record loses (Ok (Incomplete missing.Records at)) (confirmed_from system rule number (at + 1) (told_by awaited (event_of system fields)) rest)
confirmed-decided system rule number at awaited left fields rest h one loses shows =
    ap (confirmed_from system rule number at awaited) one
    ∙ (ap (λ b. if b then Ok (Fault rule number) else after_record (record_loses awaited at fields (event_of system fields)) (Ok (Incomplete missing.Records at)) (confirmed_from system rule number (at + 1) (told_by awaited (event_of system fields)) rest)) h
    ∙ ap (λ it. after_record it (Ok (Incomplete missing.Records at)) (confirmed_from system rule number (at + 1) (told_by awaited (event_of system fields)) rest)) shows)

-- ---- the first record
pub head-wrong : (system : PlanModel) (tolerances : Tolerances) (start : List Event) (cores : List Awaited) (head : List (List ℕ)) (rest : List (List (List ℕ))) → is_head system head ≡ false → verdict_after system tolerances start cores (head ∷ rest) ≡ Err Head
head-wrong system tolerances start cores head rest h = ap (λ b. if b then verdict_from system tolerances 2 start cores rest else Err Head) h

pub head-right : (system : PlanModel) (tolerances : Tolerances) (start : List Event) (cores : List Awaited) (head : List (List ℕ)) (rest : List (List (List ℕ))) → is_head system head ≡ true → verdict_after system tolerances start cores (head ∷ rest) ≡ verdict_from system tolerances 2 start cores rest
head-right system tolerances start cores head rest h = ap (λ b. if b then verdict_from system tolerances 2 start cores rest else Err Head) h

pub awaited-more : (cores : List CoreLog) (i : ℕ) (done : List Awaited) (a : Awaited) → i < length cores → done ≡ map awaited_of (take i cores) → a ≡ awaited_of (get_or cores i idle_core) → done ++ a ∷ [] ≡ map awaited_of (take (i + 1) cores)
awaited-more cores i done a l so next = ap (λ all. all ++ a ∷ []) so ∙ (ap (λ b. map awaited_of (take i cores) ++ b ∷ []) next ∙ sym (map_more awaited_of cores i idle_core l))

-- before the first record the boot of each core is awaited
map_replicate : {X Y : Type 0} (f : X → Y) (n : ℕ) (x : X) → map f (replicate n x) ≡ replicate n (f x)
map_replicate f zero x = refl
map_replicate f (suc n) x = ap (λ ys. f x ∷ ys) (map_replicate f n x)

pub first_awaited : (system : PlanModel) (s : LogState) → s ≡ first_state system → awaited_in s ≡ no_numbers system
first_awaited system s first = ap awaited_in first ∙ map_replicate awaited_of system.cores idle_core
