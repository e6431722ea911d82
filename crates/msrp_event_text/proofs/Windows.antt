-- The verdict on a log is that on its rest, judged from the state after its first records.
use Rattle.std.proofs.Common.{◌≡◌, ◌+◌, ◌++◌, ◌∷◌, ◌∙◌, if◌then◌else◌}
use Rattle.msrp_plan.proofs.Common.{ℕ, Bool, true, false, not, List, [], Option, Some, None, Result, Ok, refl, ap, sym, arith, length, map, set, set-get_or, append-nil, append_assoc, fold-append, PlanModel}
use Rattle.std.proofs.lemmas.List.{map-set}
use Rattle.msrp_events.specs.Changes.{LogState, first_state, idle_core, core_at, acts, core_with, cores_acted, since_with, core_touched, jobs_with, state_with}
use Rattle.msrp_events.specs.Findings.{record_finding, finding_of, finding_in}
use Rattle.msrp_events.specs.Laws.{state_after}
use Rattle.msrp_events.specs.declared.events.Action.{Action}
use Rattle.msrp_events.specs.declared.events.Action.TheVariants.{Boot, Release, Switch, Step, End, Stop, Lost}
use Rattle.msrp_events.specs.declared.events.Event.{Event}
use Rattle.msrp_events.specs.declared.findings.Finding.{Finding}
use Rattle.msrp_events.specs.declared.findings.Finding.TheVariants as finding
use Rattle.msrp_events.specs.declared.findings.LogRule.{LogRule}
use Rattle.msrp_events.specs.declared.findings.Missing.TheVariants as missing
use Rattle.msrp_events.specs.declared.states.CoreLog.{CoreLog}
use Rattle.msrp_events.specs.declared.states.Tolerances.{Tolerances}
use Rattle.msrp_events.proofs.FirstFindings.{finding-append}
use Rattle.msrp_events.proofs.LegalEvents.{accepted, lacks_parts, not_false, or_parts, ran_before, running_with}
use Rattle.msrp_event_audit.proofs.Following.{next_state, shows_next}
use Rattle.msrp_event_text.specs.LogEvents.{event_of}
use Rattle.msrp_event_text.specs.LogVerdicts.{awaited_in, awaited_of, next_of, no_numbers, numbers_with, numbers_by, is_certain, is_lost, told_by, after_record, record_loses, confirmed_from, settled, record_shows, events_with, decided_or, verdict_after, verdict_from, verdict_of, is_head}
use Rattle.msrp_event_text.specs.Windows.{later}
use Rattle.msrp_event_text.specs.declared.confirming.Awaited.{Awaited}
use Rattle.msrp_event_text.specs.declared.confirming.Awaited.TheVariants as awaited
use Rattle.msrp_event_text.specs.declared.verdicts.LogVerdict.{LogVerdict}
use Rattle.msrp_event_text.specs.declared.verdicts.LogVerdict.TheVariants.{Fault, Unconfirmed, Incomplete}
use Rattle.msrp_event_text.specs.declared.verdicts.LogError.{LogError}
use Rattle.msrp_event_text.proofs.LeftRecords.{first_awaited, head-right, verdict-goes}

-- ---- the numbers of records
lost_later : (at d : ℕ) (b : Bool) (r s : Result LogVerdict LogError) → r ≡ later d s → after_record (Ok b) (Ok (Incomplete missing.Records (at + d))) r ≡ later d (after_record (Ok b) (Ok (Incomplete missing.Records at)) s)
lost_later at d true r s h = refl
lost_later at d false r s h = h

confirmed_step : (rule : LogRule) (n at d : ℕ) (cores : List Awaited) (fields : List (List ℕ)) (b : Bool) (o : Option Event) (r s : Result LogVerdict LogError) → r ≡ later d s
    → (if b then Ok (Fault rule (n + d)) else after_record (record_loses cores (at + d) fields o) (Ok (Incomplete missing.Records (at + d))) r)
    ≡ later d (if b then Ok (Fault rule n) else after_record (record_loses cores at fields o) (Ok (Incomplete missing.Records at)) s)
confirmed_step rule n at d cores fields true o r s h = refl
confirmed_step rule n at d cores fields false None r s h = refl
confirmed_step rule n at d cores fields false (Some e) r s h = lost_later at d (is_lost cores e) r s h

confirmed_later : (system : PlanModel) (rule : LogRule) (n at d : ℕ) (cores : List Awaited) (rs : List (List (List ℕ))) → confirmed_from system rule (n + d) (at + d) cores rs ≡ later d (confirmed_from system rule n at cores rs)
confirmed_later system rule n at d cores [] = by_certain (is_certain cores) where
  by_certain : (b : Bool) → (if b then Ok (Fault rule (n + d)) else Ok (Unconfirmed rule (n + d))) ≡ later d (if b then Ok (Fault rule n) else Ok (Unconfirmed rule n))
  by_certain true = refl
  by_certain false = refl
confirmed_later system rule n at d cores (fields ∷ rs) =
    let o = event_of system fields in
    let next : (at + d) + 1 ≡ (at + 1) + d = omega arith in
    let rest = ap (λ i. confirmed_from system rule (n + d) i (told_by cores o) rs) next ∙ confirmed_later system rule n (at + 1) d (told_by cores o) rs in
    confirmed_step rule n at d cores fields (is_certain cores) o _ _ rest

settled_later : (system : PlanModel) (n d : ℕ) (cores : List Awaited) (rs : List (List (List ℕ))) (found : Finding) → settled system (n + d) cores rs found ≡ later d (settled system n cores rs found)
settled_later system n d cores rs (finding.Incomplete what) = refl
settled_later system n d cores rs (finding.Fault rule) =
    let next : (n + d) + 1 ≡ (n + 1) + d = omega arith in
    ap (λ i. confirmed_from system rule (n + d) i cores rs) next ∙ confirmed_later system rule n (n + 1) d cores rs

found_later : (system : PlanModel) (n d : ℕ) (cores : List Awaited) (rs : List (List (List ℕ))) (found : Option Finding) (r s : Result LogVerdict LogError) → r ≡ later d s
    → decided_or (Ok found) (settled system (n + d) cores rs) r ≡ later d (decided_or (Ok found) (settled system n cores rs) s)
found_later system n d cores rs None r s h = h
found_later system n d cores rs (Some found) r s h = settled_later system n d cores rs found

shown_later : (system : PlanModel) (t : Tolerances) (n d : ℕ) (events : List Event) (cores : List Awaited) (fields : List (List ℕ)) (rs : List (List (List ℕ))) (o : Option Event) (r s : Result LogVerdict LogError) → r ≡ later d s
    → decided_or (record_shows system t (n + d) events fields o) (settled system (n + d) (told_by cores o) rs) r ≡ later d (decided_or (record_shows system t n events fields o) (settled system n (told_by cores o) rs) s)
shown_later system t n d events cores fields rs None r s h = refl
shown_later system t n d events cores fields rs (Some e) r s h = found_later system n d (told_by cores (Some e)) rs (finding_in system t (events ++ e ∷ [])) r s h

verdict_later : (system : PlanModel) (t : Tolerances) (n d : ℕ) (events : List Event) (cores : List Awaited) (rs : List (List (List ℕ))) → verdict_from system t (n + d) events cores rs ≡ later d (verdict_from system t n events cores rs)
verdict_later system t n d events cores [] = refl
verdict_later system t n d events cores (fields ∷ rs) =
    let o = event_of system fields in
    let next : (n + d) + 1 ≡ (n + 1) + d = omega arith in
    let rest = ap (λ i. verdict_from system t i (events_with events o) (numbers_by cores o) rs) next ∙ verdict_later system t (n + 1) d (events_with events o) (numbers_by cores o) rs in
    shown_later system t n d events cores fields rs o _ _ rest

-- ---- what is awaited of each core
recorded : (x : CoreLog) (e : Event) (a : Action) → record_finding x e a ≡ None → awaited_of (acts a e.time (record x { time = e.time; number = e.number })) ≡ next_of e.number
recorded x e Boot h = refl
recorded x e Lost h = absurd (cc)
recorded x e (Release j d) h = ap (λ b. if b then next_of e.number else awaited.Boot) (not_false _ (lacks_parts (not x.booted) missing.Start _ h).0)
recorded x e (Switch j) h = ap (λ b. if b then next_of e.number else awaited.Boot) (not_false _ (lacks_parts (not x.booted) missing.Start _ h).0)
recorded x e (Step kind j r) h = ap (λ b. if b then next_of e.number else awaited.Boot) (not_false _ (lacks_parts (not x.booted) missing.Start _ h).0)
recorded x e (End j) h = ap (λ b. if b then next_of e.number else awaited.Boot) (not_false _ (lacks_parts (not x.booted) missing.Start _ h).0)
recorded x e Stop h = ap (λ b. if b then next_of e.number else awaited.Boot) (not_false _ (lacks_parts (not x.booted) missing.Start _ h).0)

-- a clock of a core changes nothing of it
untimed : (cores : List CoreLog) (c : ℕ) (y : CoreLog) → awaited_of y ≡ awaited_of (core_at cores c) → map awaited_of (set cores c y) ≡ map awaited_of cores
untimed cores c y same =
    map-set awaited_of cores c y ∙ (ap (set (map awaited_of cores) c) same ∙ (sym (map-set awaited_of cores c (core_at cores c)) ∙ ap (map awaited_of) (set-get_or cores c idle_core)))

awaited_next : (system : PlanModel) (t : Tolerances) (s : LogState) (e : Event) → s.stopped ≡ false → finding_of system t s e ≡ None → awaited_in (state_with system s e) ≡ numbers_with (awaited_in s) e
awaited_next system t s e runs none =
    let k = e.core.0 in
    let acted = cores_acted e s.cores in
    let c = core_touched system e in
    ap awaited_in (running_with system s e runs)
    ∙ (untimed acted c (since_with system (jobs_with e.action s.jobs) c e.time (core_at acted c)) refl
    ∙ (map-set awaited_of s.cores k (core_with e (core_at s.cores k))
    ∙ ap (set (map awaited_of s.cores) k) (recorded (core_at s.cores k) e e.action (accepted system t s e runs none).record_of)))

-- ---- the first records
abbrev first_of : List (Option Event) → Option Event
first_of [] = None
first_of (o ∷ os) = o

abbrev others_of : List (Option Event) → List (Option Event)
others_of [] = []
others_of (o ∷ os) = os

verdict_same : (system : PlanModel) (t : Tolerances) (n m : ℕ) (xs ys : List Event) (rs : List (List (List ℕ))) → n ≡ m → xs ≡ ys
    → verdict_from system t n xs (awaited_in (state_after system xs)) rs ≡ verdict_from system t m ys (awaited_in (state_after system ys)) rs
verdict_same system t n m xs ys rs number events =
    ap (λ i. verdict_from system t i xs (awaited_in (state_after system xs)) rs) number ∙ ap (λ es. verdict_from system t m es (awaited_in (state_after system es)) rs) events

verdict_rest : (system : PlanModel) (t : Tolerances) (n : ℕ) (done : List Event) (cores : List Awaited) (start : List (List (List ℕ))) (es : List Event) (rest : List (List (List ℕ)))
    → map (event_of system) start ≡ map (λ e. Some e) es → finding_in system t (done ++ es) ≡ None → (state_after system (done ++ es)).stopped ≡ false → cores ≡ awaited_in (state_after system done)
    → verdict_from system t n done cores (start ++ rest) ≡ verdict_from system t (n + length start) (done ++ es) (awaited_in (state_after system (done ++ es))) rest
verdict_rest system t n done cores [] [] rest same none runs are =
    ap (λ c. verdict_from system t n done c rest) are ∙ verdict_same system t n (n + 0) done (done ++ []) rest (omega arith) (sym (append-nil done))
verdict_rest system t n done cores [] (e ∷ es) rest same none runs are = absurd (cc)
verdict_rest system t n done cores (fields ∷ start) [] rest same none runs are = absurd (cc)
verdict_rest system t n done cores (fields ∷ start) (e ∷ es) rest same none runs are =
    let is : event_of system fields ≡ Some e = ap first_of same in
    let split : (done ++ e ∷ []) ++ es ≡ done ++ e ∷ es = append_assoc done (e ∷ []) es in
    let nothing = ap (finding_in system t) split ∙ none in
    let still = ap (λ xs. (state_after system xs).stopped) split ∙ runs in
    let shows = (or_parts _ _ (sym (finding-append system t (first_state system) (done ++ e ∷ []) es) ∙ nothing)).0 in
    let before = (or_parts _ _ (sym (finding-append system t (first_state system) done (e ∷ [])) ∙ shows)).0 in
    let s = state_after system done in
    let moves = next_state system done e s refl in
    let ran = ran_before system s (e ∷ es) (ap (λ (x : LogState). x.stopped) (sym (fold-append (state_with system) (first_state system) done (e ∷ es))) ∙ runs) in
    let next = ap (λ c. numbers_with c e) are ∙ (sym (awaited_next system t s e ran (sym (shows_next system t done e s before refl) ∙ shows)) ∙ ap awaited_in moves) in
    sym (verdict-goes system t t refl n done cores (fields ∷ (start ++ rest)) fields (start ++ rest) refl e (numbers_with cores e) (ap (record_shows system t n done fields) is ∙ ap (λ f. Ok f) shows) (ap (events_with done) is) (sym (ap (numbers_by cores) is)))
    ∙ (verdict_rest system t (n + 1) (done ++ e ∷ []) (numbers_with cores e) start es rest (ap others_of same) nothing still next
    ∙ verdict_same system t ((n + 1) + length start) (n + length (fields ∷ start)) ((done ++ e ∷ []) ++ es) (done ++ e ∷ es) rest (omega arith) split)

-- ---- a log
pub window : (system : PlanModel) (t : Tolerances) (head : List (List ℕ)) (start rest : List (List (List ℕ))) (es : List Event)
    → is_head system head ≡ true → map (event_of system) start ≡ map (λ e. Some e) es → finding_in system t es ≡ None → (state_after system es).stopped ≡ false
    → verdict_of system t (head ∷ (start ++ rest)) ≡ later (length start) (verdict_after system t es (awaited_in (state_after system es)) (head ∷ rest))
window system t head start rest es begins are none runs =
    let cores = awaited_in (state_after system es) in
    head-right system t [] (no_numbers system) head (start ++ rest) begins
    ∙ (verdict_rest system t 2 [] (no_numbers system) start es rest are none runs (sym (first_awaited system (first_state system) refl))
    ∙ (verdict_later system t 2 (length start) es cores rest
    ∙ ap (later (length start)) (sym (head-right system t es cores head rest begins))))
