-- The rows that are kept of the cores, and their texts, as rows are judged.
use Rattle.std.proofs.Common.{◌≡◌, ◌≢◌, ◌<◌, ◌≤◌, ◌%◌, ◌==◌, ◌∙◌, ◌/◌}
use Rattle.msrp_plan.proofs.Common.{ℕ, Bool, true, false, List, Option, Some, None, IfSome, IfNone, ap, sym, subst, arith, eqb-true, slice_set, refl, mod-eq_of_lt, and_from, and_parts, eqb-false, PlanModel, in_tick, IsPlan, turn_of, IsSomeAnd, length, is_none, same_Some, get_or-replicate, mod_below, none-some, replicate}
use Rattle.msrp_plan.specs.declared.rows.Row.{Row}
use Rattle.msrp_plan.specs.declared.rows.TextVersion.{TextVersion}
use Rattle.msrp_plan.specs.declared.rows.TextVersion.TheVariants.{V1, V2}
use Rattle.msrp_audit.specs.Audits.{AuditorModel, Awaits}
use Rattle.msrp_sim.specs.Cores.{CoresModel, IsAs, IsSomeTurn, Leaves, known_row}
use Rattle.msrp_trace.specs.Gathering.{after_tick}
use Rattle.msrp_trace.specs.Laws.{as_read, has_told_ahead, is_short, is_told_whole}
use Rattle.msrp_trace.specs.Texts.{TextsModel, text_of_core}
use Rattle.msrp_trace.specs.TraceText.{is_named}
use Rattle.msrp_trace.proofs.NamedRows.{turn_whole}
use Rattle.msrp_engine.specs.Inside.Kept.{IsKept, KeepsRow, KeepsRows, row_of_core}
use Rattle.msrp_engine.proofs.KnownTexts.{other_text}
use Rattle.std.proofs.lemmas.Bool.{false≢true}

-- ---- a text and its row
told_in_tick : (version : TextVersion) (t : ℕ) (r : Row) → has_told_ahead version r ≡ true → has_told_ahead version (in_tick t r) ≡ true
told_in_tick V1 t r h = h
told_in_tick V2 t r h = h

whole_in_tick : (version : TextVersion) (plan : PlanModel) (r : Row) → is_told_whole version plan r ≡ true → (t : ℕ) → is_short t ≡ true → is_told_whole version plan (in_tick t r) ≡ true
whole_in_tick version plan r h t short =
    let parts = and_parts _ _ h in
    let told = and_parts _ _ parts.1 in
    and_from _ _ parts.0 (and_from _ _ (and_from _ _ short (and_parts _ _ told.0).1) (told_in_tick version t r told.1))

-- a text that was made
pub made_kept : (version : TextVersion) (plan : PlanModel) (text : List ℕ) (r : Row) → is_told_whole version plan (as_read version r) ≡ true → text ≡ after_tick version plan (as_read version r) → IsKept version plan text r
made_kept version plan text r whole is = record { is = is; whole = whole_in_tick version plan (as_read version r) whole }

-- the text is that of the row in another tick too
pub kept_again : (version : TextVersion) (plan : PlanModel) (text : List ℕ) (r : Row) (t : ℕ) → IsKept version plan text r → IsKept version plan text (in_tick t r)
kept_again V1 plan text r t kept = record { is = kept.is; whole = kept.whole }
kept_again V2 plan text r t kept = record { is = kept.is; whole = kept.whole }

-- before the first row none is kept
pub keeps_none : (version : TextVersion) (plan : PlanModel) (cores : CoresModel) (texts : TextsModel) → KeepsRows version plan cores texts (replicate 8 None)
keeps_none version plan cores texts c l last is = absurd (none-some last (sym (get_or-replicate 8 (c % 8) None None (mod_below c 8 (omega arith))) ∙ is))

-- ---- one row more
module _ (version : TextVersion) (plan : PlanModel) (old new : CoresModel) (before after : TextsModel) (was now : List (Option Row)) (r : Row) (k : ℕ) (few : plan.cores ≤ 8) (low : k < plan.cores) (at : r.core.0 ≡ k) (leaves : Leaves old new r)
    (own : (last : Row) → row_of_core now k ≡ Some last → IsKept version plan (text_of_core after k) last × (r ≡ in_tick r.tick last)) (others : (c : ℕ) → c % 8 ≢ k % 8 → (text_of_core after c ≡ text_of_core before c) × (row_of_core now c ≡ row_of_core was c))
    (keeps : KeepsRows version plan old before was) where
  own_kept : (last : Row) → row_of_core now k ≡ Some last → KeepsRow version plan new k (text_of_core after k) last
  own_kept last is = record {
    kept = (own last is).0;
    known = λ s e.
        let next : IfSome (known_row new k) (λ next. next ≡ in_tick next.tick r) = subst (λ n. IfSome (known_row new n) (λ next. next ≡ in_tick next.tick r)) at leaves.own in
        let same : s ≡ in_tick s.tick r = subst (λ o. IfSome o (λ next. next ≡ in_tick next.tick r)) e next in
        same ∙ ap (in_tick s.tick) (own last is).1;
  }

  by_core : (c : ℕ) → c < plan.cores → (b : Bool) → (c == k) ≡ b → (last : Row) → row_of_core now c ≡ Some last → KeepsRow version plan new c (text_of_core after c) last
  by_core c l true e last is =
      let here : c ≡ k = eqb-true c k e in
      subst (λ n. KeepsRow version plan new n (text_of_core after n) last) (sym here) (own_kept last (subst (λ n. row_of_core now n ≡ Some last) here is))
  by_core c l false e last is =
      let ne : c ≢ k = eqb-false c k e in
      let apart : c % 8 ≢ k % 8 = λ h. ne (sym (mod-eq_of_lt (omega (arith, l, few))) ∙ (h ∙ mod-eq_of_lt (omega (arith, low, few)))) in
      let same = others c apart in
      let keep = keeps c l last (sym same.1 ∙ is) in
      subst (λ t. KeepsRow version plan new c t last) (sym same.0) (record { kept = keep.kept; known = λ s known. keep.known s (sym (leaves.others c (λ h. ne (h ∙ at))) ∙ known) })

  pub keeps_on : KeepsRows version plan new after now
  keeps_on c l last is = by_core c l (c == k) refl last is

-- what is known of the cores is what was
pub keeps_same : (version : TextVersion) (plan other : PlanModel) (old new : CoresModel) (texts : TextsModel) (lasts : List (Option Row)) → other ≡ plan → new ≡ old → KeepsRows version plan old texts lasts → KeepsRows version other new texts lasts
keeps_same version plan other old new texts lasts p e keeps = subst (λ q. KeepsRows version q new texts lasts) (sym p) (subst (λ m. KeepsRows version plan m texts lasts) (sym e) keeps)

-- the row that is kept, where the core's next row is known
pub known_own : (version : TextVersion) (plan : PlanModel) (cores : CoresModel) (texts : TextsModel) (lasts : List (Option Row)) (k : ℕ) (due : Row) → k < plan.cores → known_row cores k ≡ Some due → KeepsRows version plan cores texts lasts
    → (last : Row) → row_of_core lasts k ≡ Some last → IsKept version plan (text_of_core texts k) last × (due ≡ in_tick due.tick last)
known_own version plan cores texts lasts k due low known keeps last is = let keep = keeps k low last is in (keep.kept, keep.known due known)

-- a row that is known, if it is
pub keeps_if : (version : TextVersion) (plan : PlanModel) (old new : CoresModel) (texts : TextsModel) (lasts : List (Option Row)) (k : ℕ) (o : Option Row) → plan.cores ≤ 8 → k < plan.cores → IfNone o (new ≡ old) → IfSome o (λ due. known_row old k ≡ Some due)
    → IfSome o (λ due. due.core.0 ≡ k) → IfSome o (Leaves old new) → KeepsRows version plan old texts lasts → KeepsRows version plan new texts lasts
keeps_if version plan old new texts lasts k None few low none known at leaves keeps = keeps_same version plan plan old new texts lasts refl none keeps
keeps_if version plan old new texts lasts k (Some due) few low none known at leaves keeps =
    keeps_on version plan old new texts texts lasts lasts due k few low at leaves (known_own version plan old texts lasts k due low known keeps) (λ c ne. (refl, refl)) keeps

-- the row that is awaited is the kept one in the tick that is due
pub awaits_kept : (version : TextVersion) (plan : PlanModel) (text : List ℕ) (a : AuditorModel) (rows : List Row) (k : ℕ) (due : Row) (o : Option Row) → ((last : Row) → o ≡ Some last → IsKept version plan text last × (due ≡ in_tick due.tick last)) → Awaits a rows k due → IfSome o (λ last. Awaits a rows k (in_tick (length rows / a.plan.cores) last))
awaits_kept version plan text a rows k due None own awaits = tt
awaits_kept version plan text a rows k due (Some last) own awaits = subst (Awaits a rows k) ((own last refl).1 ∙ ap (λ t. in_tick t last) awaits.tick) awaits

-- it is one of the core
pub core_kept : (version : TextVersion) (plan : PlanModel) (text : List ℕ) (k : ℕ) (due : Row) (o : Option Row) → is_none o ≡ false → ((last : Row) → o ≡ Some last → IsKept version plan text last × (due ≡ in_tick due.tick last)) → due.core.0 ≡ k → IsSomeAnd o (λ last. last.core.0 ≡ k)
core_kept version plan text k due None some own at = absurd (false≢true (sym some))
core_kept version plan text k due (Some last) some own at = sym (ap (λ (r : Row). r.core.0) (own last refl).1) ∙ at

-- ---- the row that is expected in a tick, of the one that is kept
pub expected_kept : (version : TextVersion) (plan : PlanModel) (cores : CoresModel) (text : List ℕ) (k t : ℕ) (r : Row) (o : Option Row) → IsSomeAnd o (λ last. last.core.0 ≡ k) → IfSome o (λ last. r ≡ in_tick t last) → ((last : Row) → o ≡ Some last → KeepsRow version plan cores k text last) → IsKept version plan text r
expected_kept version plan cores text k t r None none is keep = absurd none
expected_kept version plan cores text k t r (Some last) at is keep = subst (IsKept version plan text) (sym is) (kept_again version plan text last t (keep last refl).kept)

pub expected_awaits : (a : AuditorModel) (rows : List Row) (k t : ℕ) (r : Row) (o : Option Row) → IsSomeAnd o (λ last. last.core.0 ≡ k) → IfSome o (λ last. r ≡ in_tick t last) → IfSome o (λ last. Awaits a rows k (in_tick t last)) → Awaits a rows k r
expected_awaits a rows k t r None none is awaits = absurd none
expected_awaits a rows k t r (Some last) at is awaits = subst (Awaits a rows k) (sym is) awaits

-- it is awaited in the tick that is due
pub awaits_in : (a : AuditorModel) (rows : List Row) (k t : ℕ) (o : Option Row) → t ≡ length rows / a.plan.cores → IfSome o (λ last. Awaits a rows k (in_tick (length rows / a.plan.cores) last)) → IfSome o (λ last. Awaits a rows k (in_tick t last))
awaits_in a rows k t o now awaits = subst (λ n. IfSome o (λ last. Awaits a rows k (in_tick n last))) (sym now) awaits

-- without a row no core is changed
pub cores_if : (o : Option Row) (old : AuditorModel) (new : AuditorModel) → IfNone o (new ≡ old) → IfNone o (new.cores ≡ old.cores)
cores_if None old new e = ap (λ (a : AuditorModel). a.cores) e
cores_if (Some due) old new e = tt

-- the expected row, as it is read in its tick, is as it is expected
pub read_as : (version : TextVersion) (t : ℕ) (due : Row) → IsAs due (in_tick t (as_read version due))
read_as V1 t due = record { core = refl; kind = refl; job = refl; res = refl; ahead = tt }
read_as V2 t due = record { core = refl; kind = refl; job = refl; res = refl; ahead = some_is due.ahead }
  where
    some_is : (o : Option ℕ) → IfSome o (λ n. o ≡ Some n)
    some_is None = tt
    some_is (Some n) = refl

-- ---- a row that is chosen, whose text is made
-- the text has the whole row
pub turn_told : (version : TextVersion) (plan : PlanModel) (c : ℕ) (r : Row) → IsPlan plan → c < plan.cores → IsSomeTurn plan c r → is_told_whole version plan (as_read version r) ≡ true
turn_told version plan c r ok low some =
    let core = some.turn.core in
    let left = some.left in
    let most = ok.draft.ticks.1 in
    turn_whole version plan some.log r ok (turn_of plan some.log r some.turn.own some.turn.chosen some.turn.action) (omega (arith, core, low)) (omega (arith, left, most)) some.ahead some.carries

core_read : (version : TextVersion) (r : Row) → (as_read version r).core.0 ≡ r.core.0
core_read V1 r = refl
core_read V2 r = refl

module _ (version : TextVersion) (plan : PlanModel) (before after : TextsModel) (was now : List (Option Row)) (k : ℕ) (due told : Row) (row : row_of_core now k ≡ Some due) (rows : (c : ℕ) → c % 8 ≢ k % 8 → row_of_core now c ≡ row_of_core was c)
    (v : before.version ≡ version) (p : before.plan ≡ plan) (read : told ≡ as_read version due) (at : due.core.0 ≡ k) (whole : is_told_whole version plan (as_read version due) ≡ true) where
  pub told_named : is_named before.plan told ≡ true
  told_named = subst (λ q. is_named q told ≡ true) (sym p) (subst (λ r. is_named plan r ≡ true) (sym read) (and_parts _ _ whole).0)

  at_told : told.core.0 ≡ k
  at_told = ap (λ (r : Row). r.core.0) read ∙ (core_read version due ∙ at)

  shown_own : text_of_core after told.core.0 ≡ after_tick before.version before.plan told → IsKept version plan (text_of_core after k) due
  shown_own here =
      made_kept version plan (text_of_core after k) due whole
      (subst (λ r. text_of_core after k ≡ after_tick version plan r) read (subst (λ q. text_of_core after k ≡ after_tick version q told) p (subst (λ w. text_of_core after k ≡ after_tick w before.plan told) v (subst (λ n. text_of_core after n ≡ after_tick before.version before.plan told) at_told here))))

  shown_last : text_of_core after told.core.0 ≡ after_tick before.version before.plan told → (last : Row) → due ≡ last → IsKept version plan (text_of_core after k) last × (due ≡ in_tick due.tick last)
  shown_last here last same = subst (λ d. IsKept version plan (text_of_core after k) d × (due ≡ in_tick due.tick d)) same (shown_own here, refl)

  shown_others : after ≡ record before { texts = slice_set before.texts (told.core.0 % 8) (after_tick before.version before.plan told) } → (c : ℕ) → c % 8 ≢ k % 8 → (text_of_core after c ≡ text_of_core before c) × (row_of_core now c ≡ row_of_core was c)
  shown_others made c ne = (
    ap (λ (t : TextsModel). text_of_core t c) made ∙ other_text before _ told.core.0 (after_tick before.version before.plan told) refl c (λ h. ne (h ∙ ap (λ n. n % 8) at_told)),
    rows c ne,
  )

  pub shown_keeps : (old new : CoresModel) → plan.cores ≤ 8 → k < plan.cores → Leaves old new due → after ≡ record before { texts = slice_set before.texts (told.core.0 % 8) (after_tick before.version before.plan told) } → text_of_core after told.core.0 ≡ after_tick before.version before.plan told
      → KeepsRows version plan old before was → KeepsRows version plan new after now
  shown_keeps old new few low leaves made here keeps =
      keeps_on version plan old new before after was now due k few low at leaves (λ last is. shown_last here last (same_Some due last (sym row ∙ is))) (shown_others made) keeps
