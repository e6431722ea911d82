-- A fault is certain only if no record was left out before it: each core's next record would show
-- a gap, and before the first record that was left out the log is legal.
use Rattle.std.proofs.Common.{◌≡◌, ◌+◌, ◌<◌, ◌≤◌, ◌&&◌, ◌==◌, ◌⊎◌, ◌∷◌, ◌++◌, ◌∙◌, if◌then◌else◌}
use Rattle.msrp_plan.proofs.Common.{ℕ, zero, suc, Bool, true, false, cond, not, List, [], Option, Some, None, Result, Ok, Err, refl, ap, sym, subst, arith, inl, inr, length, nat_le, count_by, cons_option, option_or, get_or, get_or-set_same, get_or-set_other, get_or-replicate, length-set, length-replicate, append-nil, append_assoc, eqb-true, eqb-false, eq-eqb, or_parts, PlanModel, EachAfter}
use Rattle.msrp_events.specs.Changes.{LogState, first_state, idle_core, core_at, acts, core_with, cores_acted, since_with, core_touched, jobs_with, moved, state_with, state_from}
use Rattle.msrp_events.specs.Findings.{lacks_if, is_gap, record_finding, continuity, time_finding, action_finding, finding_of, finding_in}
use Rattle.msrp_events.specs.declared.events.Action.{Action}
use Rattle.msrp_events.specs.declared.events.Action.TheVariants.{Boot, Release, Switch, Step, End, Stop, Lost}
use Rattle.msrp_events.specs.declared.events.Event.{Event}
use Rattle.msrp_events.specs.declared.findings.Finding.{Finding}
use Rattle.msrp_events.specs.declared.findings.Finding.TheVariants as finding
use Rattle.msrp_events.specs.declared.findings.LogRule.{LogRule}
use Rattle.msrp_events.specs.declared.findings.Missing.TheVariants as missing
use Rattle.msrp_events.specs.declared.states.CoreLog.{CoreLog}
use Rattle.msrp_events.specs.declared.states.Tolerances.{Tolerances}
use Rattle.msrp_events.proofs.FirstFindings.{finding-append}
use Rattle.msrp_events.proofs.LegalEvents.{accepted, lacks_parts, not_false}
use Rattle.msrp_events.proofs.OneHolder.{one, count_push}
use Rattle.msrp_events.proofs.OwnCore.{same_part}
use Rattle.msrp_event_audit.proofs.Following.{shows_next, next_state}
use Rattle.msrp_event_text.specs.LogEvents.{event_of}
use Rattle.msrp_event_text.specs.LogVerdicts.{no_numbers, next_of, numbers_with, numbers_by, is_boot, is_loss, is_lost_since, is_lost, told, told_by, is_told, is_certain, after_record, record_loses, confirmed_from, settled, record_shows, events_with, decided_or, verdict_from, verdict_of, is_head}
use Rattle.msrp_event_text.specs.Losses.{AreSome, IsNumbered, events_of, is_from}
use Rattle.msrp_event_text.specs.declared.confirming.Awaited.{Awaited}
use Rattle.msrp_event_text.specs.declared.confirming.Awaited.TheVariants as awaited
use Rattle.msrp_event_text.specs.declared.verdicts.LogVerdict.{LogVerdict}
use Rattle.msrp_event_text.specs.declared.verdicts.LogVerdict.TheVariants.{Good, Fault, Unconfirmed, Incomplete}
use Rattle.msrp_event_text.specs.declared.verdicts.LogError.{LogError}
use Rattle.msrp_event_text.specs.declared.verdicts.LogError.TheVariants.{Head}

-- ---- records and their events
abbrev ok : LogVerdict → Result LogVerdict LogError
ok verdict = Ok verdict

abbrev Reads : PlanModel → List (List (List ℕ)) → List Event → Type 0
Reads system [] es = es ≡ []
Reads system (r ∷ rs) [] = ⊥
Reads system (r ∷ rs) (e ∷ es) = (event_of system r ≡ Some e) × Reads system rs es

events_read : (system : PlanModel) (rs : List (List (List ℕ))) (es : List Event) → Reads system rs es → events_of system rs ≡ es
events_read system [] es h = sym h
events_read system (r ∷ rs) [] h = absurd h
events_read system (r ∷ rs) (e ∷ es) h = ap (λ o. cons_option o (events_of system rs)) h.0 ∙ ap (λ xs. e ∷ xs) (events_read system rs es h.1)

-- the verdict by the first record's event
abbrev verdict_by : PlanModel → Tolerances → ℕ → List Event → List Awaited → List (List ℕ) → List (List (List ℕ)) → Option Event → Result LogVerdict LogError
verdict_by system t n events cores r rs o = decided_or (record_shows system t n events r o) (settled system n (told_by cores o) rs) (verdict_from system t (n + 1) (events_with events o) (numbers_by cores o) rs)

abbrev confirmed_by : PlanModel → LogRule → ℕ → ℕ → List Awaited → List (List ℕ) → List (List (List ℕ)) → Bool → Option Event → Result LogVerdict LogError
confirmed_by system rule n at cores r rs certain o = if certain then Ok (Fault rule n) else after_record (record_loses cores at r o) (Ok (Incomplete missing.Records at)) (confirmed_from system rule n (at + 1) (told_by cores o) rs)

-- a fault never becomes good
never_good : (system : PlanModel) (rule : LogRule) (n at : ℕ) (cores : List Awaited) (rs : List (List (List ℕ))) → confirmed_from system rule n at cores rs ≡ Ok Good → ⊥
never_good system rule n at cores [] h = by_certain (is_certain cores) h where
  by_certain : (b : Bool) → (if b then ok (Fault rule n) else Ok (Unconfirmed rule n)) ≡ Ok Good → ⊥
  by_certain true h = absurd (cc)
  by_certain false h = absurd (cc)
never_good system rule n at cores (r ∷ rs) h = by_event (is_certain cores) (event_of system r) h (λ c. never_good system rule n (at + 1) c rs) where
  by_event : (b : Bool) (o : Option Event) → confirmed_by system rule n at cores r rs b o ≡ Ok Good → ((c : List Awaited) → confirmed_from system rule n (at + 1) c rs ≡ Ok Good → ⊥) → ⊥
  by_event true o h rest = absurd (cc)
  by_event false None h rest = absurd (cc)
  by_event false (Some e) h rest = by_loss (is_lost cores e) h rest where
    by_loss : (b : Bool) → after_record (Ok b) (Ok (Incomplete missing.Records at)) (confirmed_from system rule n (at + 1) (told cores e) rs) ≡ Ok Good → ((c : List Awaited) → confirmed_from system rule n (at + 1) c rs ≡ Ok Good → ⊥) → ⊥
    by_loss true h rest = absurd (cc)
    by_loss false h rest = rest (told cores e) h

-- the records of a good log are events, which show nothing
read_all : (system : PlanModel) (t : Tolerances) (n : ℕ) (events : List Event) (cores : List Awaited) (rs : List (List (List ℕ))) → verdict_from system t n events cores rs ≡ Ok Good → finding_in system t events ≡ None → (es : List Event) × Reads system rs es × (finding_in system t (events ++ es) ≡ None)
read_all system t n events cores [] h none = ([], refl, ap (finding_in system t) (append-nil events) ∙ none)
read_all system t n events cores (r ∷ rs) h none = by_event (event_of system r) refl h (λ events cores. read_all system t (n + 1) events cores rs) where
  by_event : (o : Option Event) → event_of system r ≡ o → verdict_by system t n events cores r rs o ≡ Ok Good
      → ((events : List Event) (cores : List Awaited) → verdict_from system t (n + 1) events cores rs ≡ Ok Good → finding_in system t events ≡ None → (es : List Event) × Reads system rs es × (finding_in system t (events ++ es) ≡ None))
      → (es : List Event) × Reads system (r ∷ rs) es × (finding_in system t (events ++ es) ≡ None)
  by_event None is h rest = absurd (cc)
  by_event (Some e) is h rest = by_finding (finding_in system t (events ++ e ∷ [])) refl h (rest (events ++ e ∷ []) (numbers_with cores e)) where
    by_finding : (f : Option Finding) → finding_in system t (events ++ e ∷ []) ≡ f → decided_or (Ok f) (settled system n (told cores e) rs) (verdict_from system t (n + 1) (events ++ e ∷ []) (numbers_with cores e) rs) ≡ Ok Good
        → (verdict_from system t (n + 1) (events ++ e ∷ []) (numbers_with cores e) rs ≡ Ok Good → finding_in system t (events ++ e ∷ []) ≡ None → (es : List Event) × Reads system rs es × (finding_in system t ((events ++ e ∷ []) ++ es) ≡ None))
        → (es : List Event) × Reads system (r ∷ rs) es × (finding_in system t (events ++ es) ≡ None)
    by_finding None shows h rest = let it = rest h shows in (e ∷ it.0, (is, it.1), ap (finding_in system t) (sym (append_assoc events (e ∷ []) it.0)) ∙ it.2)
    by_finding (Some (finding.Incomplete what)) shows h rest = absurd (cc)
    by_finding (Some (finding.Fault rule)) shows h rest = absurd (never_good system rule n (n + 1) (told cores e) rs h)

-- ---- what is awaited of a core after some of its records
abbrev status : ℕ → ℕ → Awaited
status f zero = awaited.Boot
status f (suc k) = awaited.After (f + k)

abbrev count : ℕ → List Event → ℕ
count c events = count_by (is_from c) events

status_next : (f k n : ℕ) → n ≡ k + 1 → awaited.After (f + k) ≡ status f n
status_next f k zero h = absurd (omega arith)
status_next f k (suc m) h = ap (λ i. awaited.After (f + i)) (omega arith)

-- while something is awaited of a core no fault is certain
not_certain : (cores : List Awaited) (c f k : ℕ) → get_or cores c awaited.Nothing ≡ status f k → is_certain cores ≡ false
not_certain [] c f zero h = absurd (cc)
not_certain [] c f (suc k) h = absurd (cc)
not_certain (x ∷ cores) zero f zero h = ap (λ a. is_told a && is_certain cores) h
not_certain (x ∷ cores) zero f (suc k) h = ap (λ a. is_told a && is_certain cores) h
not_certain (x ∷ cores) (suc c) f k h = ap (λ b. is_told x && b) (not_certain cores c f k h) ∙ none (is_told x) where
  none : (b : Bool) → (b && false) ≡ false
  none true = refl
  none false = refl

next_number : (last f m : ℕ) (number : Option ℕ) → number ≡ Some (f + m) → is_gap (Some last) number ≡ false → f + m ≡ last + 1
next_number last f m number is h = eqb-true (f + m) (last + 1) (not_false _ (sym (ap (is_gap (Some last)) is) ∙ h))

-- a record that shows no loss is the next one of its core
none_lost : (f k m : ℕ) (e : Event) → e.number ≡ Some (f + m) → (is_boot e.action ≡ true → m ≡ 0) → is_lost_since (status f k) e ≡ false → m ≤ k
none_lost f zero m e number boot h = let z = boot (not_false _ h) in omega (arith, z)
none_lost f (suc k) m e number boot h = let n = next_number (f + k) f m e.number number (or_parts (is_loss e.action) _ h).1 in omega (arith, n)

-- nor is one that the auditor finds no gap before
abbrev awaits_of : CoreLog → Awaited
awaits_of x = cond x.booted (next_of x.number) awaited.Boot

follows_status : (booted : Bool) (last number : Option ℕ) (time : Option Finding) (f k m : ℕ) → number ≡ Some (f + m) → cond booted (next_of last) awaited.Boot ≡ status f k → lacks_if (not booted) missing.Start (lacks_if (is_gap last number) missing.Records time) ≡ None → (m ≡ k) × (booted ≡ true)
follows_status false last number time f k m is at h = absurd (cc)
follows_status true None number time f zero m is at h = absurd (cc)
follows_status true None number time f (suc k) m is at h = absurd (cc)
follows_status true (Some last) number time f zero m is at h = absurd (cc)
follows_status true (Some last) number time f (suc k) m is at h =
    let same : last ≡ f + k = ap after at in
    let n = next_number last f m number is (lacks_parts (is_gap (Some last) number) missing.Records time h).0 in
    (omega (arith, n, same), refl)
  where
    after : Awaited → ℕ
    after awaited.Nothing = 0
    after awaited.Boot = 0
    after (awaited.After n) = n

boots_status : (booted : Bool) (last : Option ℕ) (f k m : ℕ) → m ≡ 0 → cond booted (next_of last) awaited.Boot ≡ status f k → lacks_if booted missing.Restart None ≡ None → m ≡ k
boots_status true last f k m is at h = absurd (cc)
boots_status false last f zero m is at h = is
boots_status false last f (suc k) m is at h = absurd (cc)

-- the state of the core after the record, and the count before it
recorded : (x : CoreLog) (e : Event) (a : Action) (f k m : ℕ) → e.number ≡ Some (f + m) → (is_boot a ≡ true → m ≡ 0) → awaits_of x ≡ status f k → record_finding x e a ≡ None → (m ≡ k) × (awaits_of (acts a e.time (record x { time = e.time; number = e.number })) ≡ next_of e.number)
recorded x e Boot f k m number boot at h = (boots_status x.booted x.number f k m (boot refl) at h, refl)
recorded x e Lost f k m number boot at h = absurd (cc)
recorded x e (Release j d) f k m number boot at h = let it = follows_status x.booted x.number e.number _ f k m number at h in (it.0, ap (λ b. cond b (next_of e.number) awaited.Boot) it.1)
recorded x e (Switch j) f k m number boot at h = let it = follows_status x.booted x.number e.number _ f k m number at h in (it.0, ap (λ b. cond b (next_of e.number) awaited.Boot) it.1)
recorded x e (Step kind j r) f k m number boot at h = let it = follows_status x.booted x.number e.number _ f k m number at h in (it.0, ap (λ b. cond b (next_of e.number) awaited.Boot) it.1)
recorded x e (End j) f k m number boot at h = let it = follows_status x.booted x.number e.number _ f k m number at h in (it.0, ap (λ b. cond b (next_of e.number) awaited.Boot) it.1)
recorded x e Stop f k m number boot at h = let it = follows_status x.booted x.number e.number _ f k m number at h in (it.0, ap (λ b. cond b (next_of e.number) awaited.Boot) it.1)

-- ---- counts with one event more
more : (c : ℕ) (events : List Event) (e : Event) → count c events ≤ count c (events ++ e ∷ [])
more c events e = let n = count_push (is_from c) events e in omega (arith, n)

counted : (c : ℕ) (events : List Event) (e : Event) → (e.core.0 == c) ≡ true → count c (events ++ e ∷ []) ≡ count c events + 1
counted c events e h = let n = count_push (is_from c) events e in let z : one (is_from c e) ≡ 1 = ap one h in omega (arith, n, z)

uncounted : (c : ℕ) (events : List Event) (e : Event) → (e.core.0 == c) ≡ false → count c (events ++ e ∷ []) ≡ count c events
uncounted c events e h = let n = count_push (is_from c) events e in let z : one (is_from c e) ≡ 0 = ap one h in omega (arith, n, z)

-- ---- a certain fault: of each core that a record is awaited of, none was left out
module _ (system : PlanModel) (first : ℕ → ℕ) where
  confirmed : (c k : ℕ) (rule : LogRule) (n : ℕ) (verdict : LogRule) (number : ℕ) (all : List (List (List ℕ))) (es : List Event) → Reads system all es → (some : List (List (List ℕ))) → AreSome some all → (M : List Event) → EachAfter (IsNumbered system first) M es
      → (at : ℕ) (cores : List Awaited) → get_or cores c awaited.Nothing ≡ status (first c) k → confirmed_from system rule n at cores some ≡ Ok (Fault verdict number) → count c M ≤ k
  confirmed c k rule n verdict number [] es reads some are M each at cores awaits h =
      let certain : (if is_certain cores then ok (Fault rule n) else Ok (Unconfirmed rule n)) ≡ Ok (Fault verdict number) = sym (ap (confirmed_from system rule n at cores) are) ∙ h in
      let f : ok (Unconfirmed rule n) ≡ Ok (Fault verdict number) = sym (ap (λ b. if b then ok (Fault rule n) else Ok (Unconfirmed rule n)) (not_certain cores c (first c) k awaits)) ∙ certain in
      absurd (cc)
  confirmed c k rule n verdict number (r ∷ rs) [] reads some are M each at cores awaits h = absurd reads
  confirmed c k rule n verdict number (r ∷ rs) (e ∷ es) reads some (inl left) M each at cores awaits h =
      let rest = confirmed c k rule n verdict number rs es reads.1 some left (M ++ e ∷ []) each.1 at cores awaits h in
      let le = more c M e in
      omega (arith, rest, le)
  confirmed c k rule n verdict number (r ∷ rs) (e ∷ es) reads some (inr kept) M each at cores awaits h =
      let shown : confirmed_by system rule n at cores r kept.0 false (Some e) ≡ Ok (Fault verdict number) =
      sym (ap (confirmed_from system rule n at cores) kept.1 ∙ (ap (λ b. confirmed_by system rule n at cores r kept.0 b (event_of system r)) (not_certain cores c (first c) k awaits) ∙ ap (confirmed_by system rule n at cores r kept.0 false) reads.0)) ∙ h in
      by_loss (is_lost cores e) refl shown (λ other went. confirmed c k rule n verdict number rs es reads.1 kept.0 kept.2 (M ++ e ∷ []) each.1 (at + 1) (told cores e) (get_or-set_other cores e.core.0 c awaited.Nothing awaited.Nothing other ∙ awaits) went)
    where
      by_core : (b : Bool) → (e.core.0 == c) ≡ b → is_lost cores e ≡ false → ((c ≡ e.core.0 → ⊥) → count c (M ++ e ∷ []) ≤ k) → count c M ≤ k
      by_core true same shows rest =
          let is = eqb-true e.core.0 c same in
          let lost : is_lost_since (status (first c) k) e ≡ false = sym (ap (λ i. is_lost_since (get_or cores i awaited.Nothing) e) is ∙ ap (λ a. is_lost_since a e) awaits) ∙ shows in
          let number : e.number ≡ Some (first c + count c M) = subst (λ i. e.number ≡ Some (first i + count i M)) is each.0.number in
          none_lost (first c) k (count c M) e number (λ b. ap (λ i. count i M) (sym is) ∙ each.0.boot b) lost
      by_core false other shows rest = let le = more c M e in let most = rest (λ is. eqb-false e.core.0 c other (sym is)) in omega (arith, le, most)

      by_loss : (b : Bool) → is_lost cores e ≡ b → after_record (Ok b) (Ok (Incomplete missing.Records at)) (confirmed_from system rule n (at + 1) (told cores e) kept.0) ≡ Ok (Fault verdict number) → ((c ≡ e.core.0 → ⊥) → confirmed_from system rule n (at + 1) (told cores e) kept.0 ≡ Ok (Fault verdict number) → count c (M ++ e ∷ []) ≤ k) → count c M ≤ k
      by_loss true shows h rest = absurd (cc)
      by_loss false shows h rest = by_core (e.core.0 == c) refl shows (λ other. rest other h)

-- ---- the events before a fault
-- what is awaited of each core, and what the state knows of it, is what its count of records says
record Tracks (system : PlanModel) (first : ℕ → ℕ) (s : LogState) (pre : List Event) (cores : List Awaited) : Type 0 where
  pub states : length s.cores ≡ system.cores
  pub awaits : length cores ≡ system.cores
  pub awaited : (c : ℕ) → c < system.cores → get_or cores c awaited.Nothing ≡ status (first c) (count c pre)
  pub known : (c : ℕ) → c < system.cores → awaits_of (core_at s.cores c) ≡ status (first c) (count c pre)

-- the events lack a record of some core
abbrev Lacks : PlanModel → List Event → List Event → Type 0
Lacks system pre M = (c : ℕ) × (c < system.cores) × (count c pre < count c M)

first_tracks : (system : PlanModel) (first : ℕ → ℕ) → Tracks system first (first_state system) [] (no_numbers system)
first_tracks system first = record {
  states = length-replicate system.cores idle_core;
  awaits = length-replicate system.cores awaited.Boot;
  awaited = λ c within. get_or-replicate system.cores c awaited.Boot awaited.Nothing within;
  known = λ c within. ap awaits_of (get_or-replicate system.cores c idle_core idle_core within);
}

tracks_next : (system : PlanModel) (first : ℕ → ℕ) (s : LogState) (pre M : List Event) (cores : List Awaited) (e : Event) → IsNumbered system first M e → record_finding (core_at s.cores e.core.0) e e.action ≡ None → Tracks system first s pre cores
    → (count e.core.0 M ≡ count e.core.0 pre) × Tracks system first (moved system s e) (pre ++ e ∷ []) (numbers_with cores e)
tracks_next system first s pre M cores e numbered none tracks =
    let k = e.core.0 in
    let f = first k in
    let it = recorded (core_at s.cores k) e e.action f (count k pre) (count k M) numbered.number numbered.boot (tracks.known k numbered.core) none in
    let next : next_of e.number ≡ awaited.After (f + count k pre) = ap next_of numbered.number ∙ ap (λ n. awaited.After (f + n)) it.0 in
    let acted = cores_acted e s.cores in
    let y = core_with e (core_at s.cores k) in
    let t = core_touched system e in
    let size : length acted ≡ system.cores = length-set s.cores k y ∙ tracks.states in (
      it.0,
      record {
        states = length-set acted t (since_with system (jobs_with e.action s.jobs) t e.time (core_at acted t)) ∙ size;
        awaits = length-set cores k (next_of e.number) ∙ tracks.awaits;
        awaited = λ c within. by_core (λ i. get_or (numbers_with cores e) i awaited.Nothing) c (k == c) refl within
            (λ same. get_or-set_same cores k (next_of e.number) awaited.Nothing (let n = tracks.awaits in let l = numbered.core in omega arith) ∙ next)
            (λ other. get_or-set_other cores k c (next_of e.number) awaited.Nothing other ∙ tracks.awaited c within);
        known = λ c within. same_part awaits_of acted t c (since_with system (jobs_with e.action s.jobs) t e.time (core_at acted t)) refl ∙ by_core (λ i. awaits_of (core_at acted i)) c (k == c) refl within
            (λ same. ap awaits_of (get_or-set_same s.cores k y idle_core (let n = tracks.states in let l = numbered.core in omega arith)) ∙ (it.1 ∙ next))
            (λ other. ap awaits_of (get_or-set_other s.cores k c y idle_core other) ∙ tracks.known c within);
      },
    )
  where
    by_core : (at : ℕ → Awaited) (c : ℕ) (b : Bool) → (e.core.0 == c) ≡ b → c < system.cores → (c ≡ e.core.0 → at e.core.0 ≡ awaited.After (first e.core.0 + count e.core.0 pre)) → ((c ≡ e.core.0 → ⊥) → at c ≡ status (first c) (count c pre)) → at c ≡ status (first c) (count c (pre ++ e ∷ []))
    by_core at c true same within here there =
        let is = eqb-true e.core.0 c same in
        subst (λ i. at i ≡ status (first i) (count i (pre ++ e ∷ []))) is (here (sym is) ∙ status_next (first e.core.0) (count e.core.0 pre) (count e.core.0 (pre ++ e ∷ [])) (counted e.core.0 pre e (ap (λ i. e.core.0 == i) is ∙ same)))
    by_core at c false other within here there = there (λ is. eqb-false e.core.0 c other (sym is)) ∙ ap (status (first c)) (sym (uncounted c pre e other))

-- what shows that records are missing is no fault
gap_lacks : (a b c : Bool) (rule : LogRule) → lacks_if a missing.Start (lacks_if b missing.Records (lacks_if c missing.Clock None)) ≡ Some (finding.Fault rule) → ⊥
gap_lacks true b c rule h = absurd (cc)
gap_lacks false true c rule h = absurd (cc)
gap_lacks false false true rule h = absurd (cc)
gap_lacks false false false rule h = absurd (cc)

start_lacks : (a : Bool) (rule : LogRule) → lacks_if a missing.Restart None ≡ Some (finding.Fault rule) → ⊥
start_lacks true rule h = absurd (cc)
start_lacks false rule h = absurd (cc)

record_lacks : (x : CoreLog) (e : Event) (a : Action) (rule : LogRule) → record_finding x e a ≡ Some (finding.Fault rule) → ⊥
record_lacks x e Boot rule h = start_lacks x.booted rule h
record_lacks x e Lost rule h = absurd (cc)
record_lacks x e (Release j d) rule h = gap_lacks _ _ _ rule h
record_lacks x e (Switch j) rule h = gap_lacks _ _ _ rule h
record_lacks x e (Step kind j r) rule h = gap_lacks _ _ _ rule h
record_lacks x e (End j) rule h = gap_lacks _ _ _ rule h
record_lacks x e Stop rule h = gap_lacks _ _ _ rule h

continuity_lacks : (s : LogState) (e : Event) (rule : LogRule) → continuity s e ≡ Some (finding.Fault rule) → ⊥
continuity_lacks s e rule h = by_core (nat_le (length s.cores) e.core.0) h where
  by_core : (b : Bool) → lacks_if b missing.Core (record_finding (core_at s.cores e.core.0) e e.action) ≡ Some (finding.Fault rule) → ⊥
  by_core true h = absurd (cc)
  by_core false h = record_lacks (core_at s.cores e.core.0) e e.action rule h

-- an event that shows a fault shows none of what the log lacks
fault_record : (system : PlanModel) (t : Tolerances) (s : LogState) (e : Event) (rule : LogRule) → finding_of system t s e ≡ Some (finding.Fault rule) → (s.stopped ≡ false) × (record_finding (core_at s.cores e.core.0) e e.action ≡ None)
fault_record system t s e rule h = by_stop s.stopped refl h where
  by_continuity : (o : Option Finding) → continuity s e ≡ o → option_or o (option_or (time_finding t s e) (action_finding system t s e e.action)) ≡ Some (finding.Fault rule) → record_finding (core_at s.cores e.core.0) e e.action ≡ None
  by_continuity None is h = (lacks_parts _ missing.Core _ is).1
  by_continuity (Some f) is h = absurd (continuity_lacks s e rule (is ∙ h))

  by_stop : (b : Bool) → s.stopped ≡ b → cond b None (option_or (continuity s e) (option_or (time_finding t s e) (action_finding system t s e e.action))) ≡ Some (finding.Fault rule) → (s.stopped ≡ false) × (record_finding (core_at s.cores e.core.0) e e.action ≡ None)
  by_stop true is h = absurd (cc)
  by_stop false is h = (is, by_continuity (continuity s e) refl h)

-- ---- the log
abbrev Follows : PlanModel → (ℕ → ℕ) → LogState → List Event → List Awaited → Type 0
Follows system first s pre cores = (s.stopped ≡ true) ⊎ Tracks system first s pre cores

follows_next : (system : PlanModel) (t : Tolerances) (first : ℕ → ℕ) (s : LogState) (pre M : List Event) (cores : List Awaited) (e : Event) → IsNumbered system first M e → finding_of system t s e ≡ None → Follows system first s pre cores → Follows system first (state_with system s e) (pre ++ e ∷ []) (numbers_with cores e)
follows_next system t first s pre M cores e numbered none (inl stopped) = inl (ap (λ b. (cond b s (moved system s e)).stopped) stopped ∙ stopped)
follows_next system t first s pre M cores e numbered none (inr tracks) = by_stop s.stopped refl where
  by_stop : (b : Bool) → s.stopped ≡ b → Follows system first (cond b s (moved system s e)) (pre ++ e ∷ []) (numbers_with cores e)
  by_stop true is = inl is
  by_stop false is = inr (tracks_next system first s pre M cores e numbered (accepted system t s e is none).record_of tracks).1

lacks_next : (system : PlanModel) (pre M : List Event) (e : Event) → e.core.0 < system.cores → (pre ≡ M) ⊎ Lacks system pre M → Lacks system pre (M ++ e ∷ [])
lacks_next system pre M e within (inl same) = (e.core.0, within, let n = counted e.core.0 M e (eq-eqb e.core.0 e.core.0 refl) in let s = ap (count e.core.0) same in omega (arith, n, s))
lacks_next system pre M e within (inr lacks) = (lacks.0, lacks.1, let n = more lacks.0 M e in let l = lacks.2 in omega (arith, n, l))

lacks_both : (system : PlanModel) (pre M : List Event) (e : Event) → (pre ≡ M) ⊎ Lacks system pre M → (pre ++ e ∷ [] ≡ M ++ e ∷ []) ⊎ Lacks system (pre ++ e ∷ []) (M ++ e ∷ [])
lacks_both system pre M e (inl same) = inl (ap (λ xs. xs ++ e ∷ []) same)
lacks_both system pre M e (inr lacks) = inr (lacks.0, lacks.1, let a = count_push (is_from lacks.0) pre e in let b = count_push (is_from lacks.0) M e in let l = lacks.2 in omega (arith, a, b, l))

-- a certain fault after all records so far is one of the whole log; after fewer, some core shows it
no_certain : (system : PlanModel) (t : Tolerances) (first : ℕ → ℕ) (s : LogState) (pre M : List Event) (e : Event) (es : List Event) (cores : List Awaited) (n at : ℕ) (rule verdict : LogRule) (number : ℕ) (rs some : List (List (List ℕ)))
    → Reads system rs es → AreSome some rs → IsNumbered system first M e → EachAfter (IsNumbered system first) (M ++ e ∷ []) es → finding_in system t (M ++ e ∷ es) ≡ None → finding_in system t (pre ++ e ∷ []) ≡ Some (finding.Fault rule) → finding_of system t s e ≡ Some (finding.Fault rule)
    → Follows system first s pre cores → (pre ≡ M) ⊎ Lacks system pre M → confirmed_from system rule n at (told cores e) some ≡ Ok (Fault verdict number) → ⊥
no_certain system t first s pre M e es cores n at rule verdict number rs some reads are numbered each legal shows fault follows (inl same) h =
    let start = (or_none _ _ (sym (finding-append system t (first_state system) (M ++ e ∷ []) es) ∙ (ap (finding_in system t) (append_assoc M (e ∷ []) es) ∙ legal))) in
    let f : Some (finding.Fault rule) ≡ None = sym shows ∙ (ap (λ xs. finding_in system t (xs ++ e ∷ [])) same ∙ start) in
    absurd (cc)
  where
    or_none : (a b : Option Finding) → option_or a b ≡ None → a ≡ None
    or_none None b h = refl
    or_none (Some x) b h = absurd (cc)
no_certain system t first s pre M e es cores n at rule verdict number rs some reads are numbered each legal shows fault (inl stopped) (inr lacks) h = let f : true ≡ false = sym stopped ∙ (fault_record system t s e rule fault).0 in absurd (cc)
no_certain system t first s pre M e es cores n at rule verdict number rs some reads are numbered each legal shows fault (inr tracks) (inr lacks) h =
    by_core (e.core.0 == lacks.0) refl (tracks_next system first s pre M cores e numbered (fault_record system t s e rule fault).1 tracks).0
  where
    by_core : (b : Bool) → (e.core.0 == lacks.0) ≡ b → count e.core.0 M ≡ count e.core.0 pre → ⊥
    by_core true same own = let l = lacks.2 in let m = subst (λ i. count i M ≡ count i pre) (eqb-true e.core.0 lacks.0 same) own in omega (arith, l, m)
    by_core false other own =
        let c = lacks.0 in
        let awaits = get_or-set_other cores e.core.0 c awaited.Nothing awaited.Nothing (λ is. eqb-false e.core.0 c other (sym is)) ∙ tracks.awaited c lacks.1 in
        let most = confirmed system first c (count c pre) rule n verdict number rs es reads some are (M ++ e ∷ []) each at (told cores e) awaits h in
        let le = more c M e in
        let l = lacks.2 in
        omega (arith, most, le, l)

no_fault : (system : PlanModel) (t : Tolerances) (first : ℕ → ℕ) (verdict : LogRule) (number : ℕ) (all : List (List (List ℕ))) (es : List Event) → Reads system all es → (some : List (List (List ℕ))) → AreSome some all → (M pre : List Event) → EachAfter (IsNumbered system first) M es → finding_in system t (M ++ es) ≡ None
    → finding_in system t pre ≡ None → (s : LogState) → s ≡ state_from system (first_state system) pre → (cores : List Awaited) → Follows system first s pre cores → (pre ≡ M) ⊎ Lacks system pre M → (n : ℕ) → verdict_from system t n pre cores some ≡ Ok (Fault verdict number) → ⊥
no_fault system t first verdict number [] es reads some are M pre each legal none s is cores follows part n h =
    let good : ok Good ≡ Ok (Fault verdict number) = sym (ap (verdict_from system t n pre cores) are) ∙ h in absurd (cc)
no_fault system t first verdict number (r ∷ rs) [] reads some are M pre each legal none s is cores follows part n h = absurd reads
no_fault system t first verdict number (r ∷ rs) (e ∷ es) reads some (inl left) M pre each legal none s is cores follows part n h =
    no_fault system t first verdict number rs es reads.1 some left (M ++ e ∷ []) pre each.1 (ap (finding_in system t) (append_assoc M (e ∷ []) es) ∙ legal) none s is cores follows (inr (lacks_next system pre M e each.0.core part)) n h
no_fault system t first verdict number (r ∷ rs) (e ∷ es) reads some (inr kept) M pre each legal none s is cores follows part n h =
    let shown : verdict_by system t n pre cores r kept.0 (Some e) ≡ Ok (Fault verdict number) = sym (ap (verdict_from system t n pre cores) kept.1 ∙ ap (verdict_by system t n pre cores r kept.0) reads.0) ∙ h in
    by_finding (finding_of system t s e) refl (shows_next system t pre e s none is) shown
    (λ quiet nothing. no_fault system t first verdict number rs es reads.1 kept.0 kept.2 (M ++ e ∷ []) (pre ++ e ∷ []) each.1 (ap (finding_in system t) (append_assoc M (e ∷ []) es) ∙ legal) quiet (state_with system s e) (next_state system pre e s is) (numbers_with cores e)
    (follows_next system t first s pre M cores e each.0 nothing follows) (lacks_both system pre M e part) (n + 1))
  where
    by_finding : (f : Option Finding) → finding_of system t s e ≡ f → finding_in system t (pre ++ e ∷ []) ≡ finding_of system t s e → verdict_by system t n pre cores r kept.0 (Some e) ≡ Ok (Fault verdict number)
        → (finding_in system t (pre ++ e ∷ []) ≡ None → finding_of system t s e ≡ None → verdict_from system t (n + 1) (pre ++ e ∷ []) (numbers_with cores e) kept.0 ≡ Ok (Fault verdict number) → ⊥) → ⊥
    by_finding None f same shown rest = rest (same ∙ f) f (sym (ap (λ o. decided_or (Ok o) (settled system n (told cores e) kept.0) (verdict_from system t (n + 1) (pre ++ e ∷ []) (numbers_with cores e) kept.0)) (same ∙ f)) ∙ shown)
    by_finding (Some (finding.Incomplete what)) f same shown rest =
        let g : ok (Incomplete what n) ≡ Ok (Fault verdict number) = sym (ap (λ o. decided_or (Ok o) (settled system n (told cores e) kept.0) (verdict_from system t (n + 1) (pre ++ e ∷ []) (numbers_with cores e) kept.0)) (same ∙ f)) ∙ shown in
        absurd (cc)
    by_finding (Some (finding.Fault rule)) f same shown rest =
        no_certain system t first s pre M e es cores n (n + 1) rule verdict number rs kept.0 reads.1 kept.2 each.0 each.1 legal (same ∙ f) f follows part
        (sym (ap (λ o. decided_or (Ok o) (settled system n (told cores e) kept.0) (verdict_from system t (n + 1) (pre ++ e ∷ []) (numbers_with cores e) kept.0)) (same ∙ f)) ∙ shown)

pub no_loss : (system : PlanModel) (t : Tolerances) (first : ℕ → ℕ) (head : List (List ℕ)) (all some : List (List (List ℕ))) → verdict_of system t (head ∷ all) ≡ Ok Good → EachAfter (IsNumbered system first) [] (events_of system all) → AreSome some all
    → (rule : LogRule) (number : ℕ) → verdict_of system t (head ∷ some) ≡ Ok (Fault rule number) → ⊥
no_loss system t first head all some good each are rule number h = by_head (is_head system head) good h where
  by_head : (b : Bool) → (if b then verdict_from system t 2 [] (no_numbers system) all else Err Head) ≡ Ok Good → (if b then verdict_from system t 2 [] (no_numbers system) some else Err Head) ≡ Ok (Fault rule number) → ⊥
  by_head false good h = absurd (cc)
  by_head true good h =
      let it = read_all system t 2 [] (no_numbers system) all good refl in
      no_fault system t first rule number all it.0 it.1 some are [] [] (subst (EachAfter (IsNumbered system first) []) (events_read system all it.0 it.1) each) it.2 refl (first_state system) refl (no_numbers system) (inr (first_tracks system first)) (inl refl) 2 h
