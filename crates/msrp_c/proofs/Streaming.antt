-- Rows that come one by one.
use Rattle.std.proofs.Common.{◌≡◌, ◌++◌, ◌∷◌, ◌+◌, ◌*◌, ◌<◌, ◌≤◌, ◌∙◌}
use Rattle.msrp_plan.proofs.Common.{[], ℕ, Bool, List, Option, None, Some, IsSomeAnd, Result, Ok, Err, true, false, cond, option_or, inl, inr, cases_lt, le-ltb, map, length, refl, ap, sym, subst, append-nil, append_assoc, length-append, arith, mul-le-mul_left, length-map, map-append, PlanModel, fault_in, verdict, IsPlan}
use Rattle.msrp_audit.specs.Audits.{AuditorModel, HasFed, IsBroken, answer_of, has_turn}
use Rattle.msrp_engine.proofs.Judging.{turn-left}
use Rattle.msrp_faults.specs.Outcomes.{trace_fault_of}
use Rattle.msrp_faults.specs.declared.faults.CliFault.{CliFault}
use Rattle.msrp_plan.specs.Verdict.{missing}
use Rattle.msrp_plan.specs.declared.faults.Fault.{Fault}
use Rattle.msrp_plan.specs.declared.faults.Rule.TheVariants.{A6}
use Rattle.msrp_engine.specs.declared.judged.Broken.{Broken}
use mathlib.Core.Bool.{true≢false}
use Rattle.msrp_plan.specs.declared.rows.Row.{Row}
use Rattle.msrp_trace.specs.Reading.{Told}
use Rattle.msrp_trace.specs.declared.faults.TraceFault.{TraceFault}
use Rattle.msrp_trace.specs.declared.faults.TraceError.TheVariants.{At}
use Rattle.msrp_c.specs.Feeding.{AreGood, Breaks, Finding, HasDue, IsBrokenAfter, IsBrokenIn, IsFed, IsFound, Steps, found_so_far, found_whole, is_good}
use Rattle.msrp_c.specs.Turns.{row_of, told_in}
use Rattle.msrp_c.specs.declared.held.FedAuditor.{FedAuditor}
use Rattle.msrp_c.specs.declared.turns.MsrpRow.{MsrpRow}
use Rattle.msrp_c.proofs.TurnByTurn.{all-told, fault-in-told, good-in-told, readings, reading-more, refusal-in-told, refused-told, some-told}

-- ---- turns and what they read as
reads-more : (plan : PlanModel) (turns : List MsrpRow) (t : MsrpRow) (rows : List Row) (x : Result Row TraceFault) → map (row_of plan) turns ≡ readings rows → x ≡ row_of plan t → map (row_of plan) (turns ++ t ∷ []) ≡ readings rows ++ x ∷ []
reads-more plan turns t rows x was is = map-append (row_of plan) turns (t ∷ []) ∙ (ap (λ ys. ys ++ row_of plan t ∷ []) was ∙ ap (λ y. readings rows ++ y ∷ []) (sym is))

row-read : (plan : PlanModel) (turns : List MsrpRow) (t : MsrpRow) (rows : List Row) (r : Row) → map (row_of plan) turns ≡ readings rows → Ok r ≡ row_of plan t → map (row_of plan) (turns ++ t ∷ []) ≡ readings (rows ++ r ∷ [])
row-read plan turns t rows r was is = reads-more plan turns t rows (Ok r) was is ∙ sym (reading-more rows r)

same-length : (plan : PlanModel) (turns : List MsrpRow) (rows : List Row) → map (row_of plan) turns ≡ readings rows → length rows ≡ length turns
same-length plan turns rows was = sym (length-map rows (λ r. Ok r)) ∙ (ap length was' ∙ length-map turns (row_of plan))
  where
    was' : readings rows ≡ map (row_of plan) turns
    was' = sym was

not-good : (x : Finding) (fault : CliFault) → x ≡ Err fault → x ≡ Ok (Ok tt) → ⊥
not-good x fault e f = absurd (cc)

not-faultless : (x : Finding) (fault : Fault) → x ≡ Ok (Err fault) → x ≡ Ok (Ok tt) → ⊥
not-faultless x fault e f = absurd (cc)

pub good-is : (x : Finding) → is_good x ≡ true → x ≡ Ok (Ok tt)
good-is (Ok (Ok good)) e = refl
good-is (Ok (Err fault)) e = absurd (cc)
good-is (Err fault) e = absurd (cc)

pub bad-is : (x : Finding) → is_good x ≡ false → x ≡ Ok (Ok tt) → ⊥
bad-is (Ok (Ok good)) e f = absurd (cc)
bad-is (Ok (Err fault)) e f = absurd (cc)
bad-is (Err fault) e f = absurd (cc)

abbrev same_as : Finding → Finding → Type 0
same_as x y = x ≡ y

-- ---- a turn more
-- it is no row
pub refused-found : (plan : PlanModel) (turns : List MsrpRow) (old new : AuditorModel) (t : MsrpRow) (fault : TraceFault) (number : ℕ) (refused : CliFault) → AreGood plan turns old → number ≡ length turns + 1 → Err fault ≡ row_of plan t → refused ≡ trace_fault_of (At fault number)
    → IsFound plan (turns ++ t ∷ []) new (Err refused)
refused-found plan turns old new t fault number refused g count is told = record {
  so_far = e ∙ sym (refusal-in-told true plan _ g.rows (At fault number) alone g.good);
  stays = λ bad more. (e ∙ sym (refusal-in-told true plan _ g.rows (At fault number) (whole more) g.good), e ∙ sym (refusal-in-told false plan _ g.rows (At fault number) (whole more) g.good));
  goes_on = λ good. absurd (not-good (Err refused) refused refl good);
}
  where
    e : same_as (Err refused) (Err (trace_fault_of (At fault number)))
    e = ap (λ x. Err x) told

    at : length g.rows + 1 ≡ number
    at = ap (λ n. n + 1) (same-length plan turns g.rows g.read) ∙ sym count

    alone : told_in (map (row_of plan) (turns ++ t ∷ [])) ≡ record { rows = g.rows; refusal = Some (At fault number) }
    alone = ap told_in (reads-more plan turns t g.rows (Err fault) g.read is) ∙ (refused-told g.rows fault [] ∙ ap (λ n. record { rows = g.rows; refusal = Some (At fault n) }) at)

    whole : (more : List MsrpRow) → told_in (map (row_of plan) ((turns ++ t ∷ []) ++ more)) ≡ record { rows = g.rows; refusal = Some (At fault number) }
    whole more =
        let f = row_of plan in
        ap told_in (map-append f (turns ++ t ∷ []) more ∙ (ap (λ ys. ys ++ map f more) (reads-more plan turns t g.rows (Err fault) g.read is) ∙ append_assoc (readings g.rows) (Err fault ∷ []) (map f more)))
        ∙ (refused-told g.rows fault (map f more) ∙ ap (λ n. record { rows = g.rows; refusal = Some (At fault n) }) at)

-- it is a row that breaks a rule
pub broken-found : (plan : PlanModel) (turns : List MsrpRow) (old new : AuditorModel) (t : MsrpRow) (r : Row) (fault : Fault) (g : AreGood plan turns old) → Ok r ≡ row_of plan t → fault_in plan (g.rows ++ r ∷ []) ≡ Some fault → IsFound plan (turns ++ t ∷ []) new (Ok (Err fault))
broken-found plan turns old new t r fault g is h = record {
  so_far = sym (fault-in-told true plan _ (g.rows ++ r ∷ []) [] fault alone h);
  stays = λ bad more. (sym (fault-in-told true plan _ (g.rows ++ r ∷ []) _ fault (whole more) h), sym (fault-in-told false plan _ (g.rows ++ r ∷ []) _ fault (whole more) h));
  goes_on = λ good. absurd (not-faultless (Ok (Err fault)) fault refl good);
}
  where
    read : map (row_of plan) (turns ++ t ∷ []) ≡ readings (g.rows ++ r ∷ [])
    read = row-read plan turns t g.rows r g.read is

    alone : (told_in (map (row_of plan) (turns ++ t ∷ []))).rows ≡ (g.rows ++ r ∷ []) ++ []
    alone = ap (λ xs. (told_in xs).rows) read ∙ (ap (λ (x : Told). x.rows) (all-told (g.rows ++ r ∷ [])) ∙ sym (append-nil (g.rows ++ r ∷ [])))

    whole : (more : List MsrpRow) → (told_in (map (row_of plan) ((turns ++ t ∷ []) ++ more))).rows ≡ (g.rows ++ r ∷ []) ++ (told_in (map (row_of plan) more)).rows
    whole more = ap (λ xs. (told_in xs).rows) (map-append (row_of plan) (turns ++ t ∷ []) more ∙ ap (λ ys. ys ++ map (row_of plan) more) read) ∙ some-told (g.rows ++ r ∷ []) (map (row_of plan) more)

one-more : (m n k : ℕ) → m ≡ n + 1 → n < k → m ≤ k
one-more m n k e l = omega arith

-- it is the start of a legal run with those before
pub good-found : (plan : PlanModel) (turns : List MsrpRow) (old new : AuditorModel) (t : MsrpRow) (r : Row) (g : AreGood plan turns old) → Ok r ≡ row_of plan t → HasFed new (g.rows ++ r ∷ []) → fault_in plan (g.rows ++ r ∷ []) ≡ None → IsFound plan (turns ++ t ∷ []) new (Ok (Ok tt))
good-found plan turns old new t r g is fed h = record {
  so_far = sym (good-in-told true plan _ (g.rows ++ r ∷ []) (ap told_in read ∙ all-told (g.rows ++ r ∷ [])) h);
  stays = λ bad more. absurd (bad refl);
  goes_on = λ _. record { rows = g.rows ++ r ∷ []; read = read; fed = fed; good = h; few = one-more _ _ _ (length-append g.rows (r ∷ [])) (turn-left plan g.rows r g.good h) };
}
  where
    read : map (row_of plan) (turns ++ t ∷ []) ≡ readings (g.rows ++ r ∷ [])
    read = row-read plan turns t g.rows r g.read is

-- ---- an auditor that takes it
some-and : {A : Type 0} (o : Option A) (P Q : A → Type 0) → ((x : A) → P x → Q x) → IsSomeAnd o P → IsSomeAnd o Q
some-and None P Q f h = h
some-and (Some x) P Q f h = f x h

-- once something was found it stays
pub fed-stays : (plan : PlanModel) (turns : List MsrpRow) (t : MsrpRow) (a : FedAuditor) → (a.verdict ≡ Ok (Ok tt) → ⊥) → IsFed plan turns a → IsFed plan (turns ++ t ∷ []) a
fed-stays plan turns t a bad h = record {
  plan_is = h.plan_is;
  is = record {
    so_far = (h.is.stays bad (t ∷ [])).0;
    stays = λ again more.
        let s = h.is.stays bad (t ∷ more) in
        let same : turns ++ t ∷ more ≡ (turns ++ t ∷ []) ++ more = sym (append_assoc turns (t ∷ []) more) in
        (s.0 ∙ ap (found_so_far plan) same, s.1 ∙ ap (found_whole plan) same);
    goes_on = λ good. absurd (bad good);
  };
  count = λ good. absurd (bad good);
  broken = λ fault is. some-and a.broken (IsBrokenIn plan turns fault) (IsBrokenIn plan (turns ++ t ∷ []) fault)
      (λ b at. record { before = at.before; turn = at.turn; behind = at.behind ++ t ∷ []; place = ap (λ xs. xs ++ t ∷ []) at.place ∙ append_assoc at.before (at.turn ∷ at.behind) (t ∷ []); is = at.is })
      (h.broken fault is);
}

few : (n cores ticks : ℕ) → n ≤ cores * ticks → cores ≤ 8 → ticks ≤ 20000 → n < 4294967295
few n cores ticks h c t = let a = mul-le-mul_left cores t in omega (arith, a)

-- there are few turns before a fault
pub few-taken : (plan : PlanModel) (turns : List MsrpRow) (a : FedAuditor) → IsPlan plan → a.verdict ≡ Ok (Ok tt) → IsFed plan turns a → a.judged < 4294967295
few-taken plan turns a accepted good h =
    let g = h.is.goes_on good in
    let p = accepted.draft in
    subst (λ n. n < 4294967295) (same-length plan turns g.rows g.read ∙ sym (h.count good)) (few (length g.rows) plan.cores plan.ticks g.few p.cores.1 p.ticks.1)

len-more : (turns : List MsrpRow) (t : MsrpRow) (m n : ℕ) → m ≡ length turns → n ≡ m + 1 → n ≡ length (turns ++ t ∷ [])
len-more turns t m n e f = f ∙ (ap (λ k. k + 1) e ∙ sym (length-append turns (t ∷ [])))

pub fed-more : (plan : PlanModel) (turns : List MsrpRow) (t : MsrpRow) (old new : FedAuditor) (number : ℕ) → IsPlan plan → old.verdict ≡ Ok (Ok tt) → IsFed plan turns old → (old.judged < 4294967295 → number ≡ old.judged + 1) → Steps plan old.auditor t number new.auditor new.verdict → Breaks plan old.auditor t new.verdict new.broken → new.auditor.plan ≡ old.auditor.plan → new.judged ≡ number
    → IsFed plan (turns ++ t ∷ []) new
fed-more plan turns t old new number accepted good h next steps breaks same count =
    let is = next (few-taken plan turns old accepted good h) in
    record {
      plan_is = same ∙ h.plan_is;
      is = steps turns h.plan_is (h.is.goes_on good) (is ∙ ap (λ k. k + 1) (h.count good));
      count = λ _. count ∙ len-more turns t old.judged number (h.count good) is;
      broken = λ fault bad. some-and new.broken (IsBrokenAfter plan turns t fault) (IsBrokenIn plan (turns ++ t ∷ []) fault)
          (λ b at. record { before = turns; turn = t; behind = []; place = refl; is = at })
          (breaks turns h.plan_is (h.is.goes_on good) fault bad);
    }

-- ---- the first and the last
pub none-fed : (plan : PlanModel) (a : FedAuditor) → a.auditor.plan ≡ plan → HasFed a.auditor [] → a.verdict ≡ Ok (Ok tt) → a.judged ≡ 0 → IsFed plan [] a
none-fed plan a is fed good none = record {
  plan_is = is;
  is = record {
    so_far = good ∙ sym (good-in-told true plan _ [] (all-told []) refl);
    stays = λ bad more. absurd (bad good);
    goes_on = λ _. record { rows = []; read = refl; fed = fed; good = refl; few = omega arith };
  };
  count = λ _. none;
  broken = λ fault bad. absurd (not-faultless a.verdict fault bad good);
}

-- ---- the row with a fault, and the row that is due
pub no-fault : (plan : PlanModel) (turns : List MsrpRow) (a : AuditorModel) → a.plan ≡ plan → (g : AreGood plan turns a) → a.fault ≡ None
no-fault plan turns a same g = g.fed.fault ∙ (ap (λ p. fault_in p g.rows) same ∙ g.good)

pub same-fault : (found fault : Fault) → same_as (Ok (Err found)) (Ok (Err fault)) → found ≡ fault
same-fault found fault e = cc

-- the row with the fault, and the row that was due in its place
pub breaks-so : (plan : PlanModel) (turns : List MsrpRow) (old new : AuditorModel) (t : MsrpRow) (r : Row) (fault : Fault) (b : Broken) (g : AreGood plan turns old) → Ok r ≡ row_of plan t → b.fault ≡ fault
    → IsBroken plan g.rows r b.fault b.expected new → IsBrokenAfter plan turns t fault (record { row = r; broken = b })
breaks-so plan turns old new t r fault b g is told h = record { rows = g.rows; read = g.read; row = is; breaks = h.fault ∙ ap (λ f. Some f) told; told = told; due = h.turn }

-- rows of which the whole is no legal run have rows left
rows-left : (plan : PlanModel) (rows : List Row) → fault_in plan rows ≡ None → (verdict plan rows ≡ None → ⊥) → length rows < plan.cores * plan.ticks
rows-left plan rows good missed = elim (cases_lt (length rows) (plan.cores * plan.ticks)) [
  | inl left ↦ left
  | inr full ↦ absurd (missed (ap (λ o. option_or o (missing plan rows)) good ∙ ap (λ b. cond b (Some (record { row = length rows + 1; rule = A6 })) None) (le-ltb (length rows) (plan.cores * plan.ticks) full)))
]

module _ (plan : PlanModel) (turns : List MsrpRow) (a : FedAuditor) (h : IsFed plan turns a) (good : a.verdict ≡ Ok (Ok tt)) where
  fed-rows : AreGood plan turns a.auditor
  fed-rows = h.is.goes_on good

  whole-is : found_whole plan turns ≡ Ok (answer_of (verdict plan fed-rows.rows))
  whole-is = good-in-told false plan _ fed-rows.rows (ap told_in fed-rows.read ∙ all-told fed-rows.rows) fed-rows.good

  pub none-due : (core : ℕ) (b : Bool) → b ≡ false → ((rows : List Row) → HasFed a.auditor rows → a.auditor.fault ≡ None → length rows < a.auditor.plan.cores * a.auditor.plan.ticks → b ≡ has_turn a.auditor.plan rows core) → HasDue plan turns core → ⊥
  none-due core b not answer has =
      let rows = fed-rows.rows in
      let left = rows-left plan rows fed-rows.good (λ none. has.more (whole-is ∙ ap (λ o. Ok (answer_of o)) none)) in
      let none = no-fault plan turns a.auditor h.plan_is fed-rows in
      let is : b ≡ has_turn plan rows core = subst (λ (p : PlanModel). length rows < p.cores * p.ticks → b ≡ has_turn p rows core) h.plan_is (answer rows fed-rows.fed none) left in
      let told : (told_in (map (row_of plan) turns)).rows ≡ rows = ap (λ xs. (told_in xs).rows) fed-rows.read ∙ ap (λ (x : Told). x.rows) (all-told rows) in
      true≢false (sym has.turn ∙ (ap (λ rs. has_turn plan rs core) told ∙ (sym is ∙ not)))
