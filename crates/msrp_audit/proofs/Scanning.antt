-- A piece of the audit goes over the rows from the first on, and tests each: what its answer tells.
use Rattle.std.proofs.Common.{◌≡◌, ◌+◌, ◌<◌, ◌≤◌, ◌∷◌, ◌++◌, ◌∙◌}
use Rattle.msrp_plan.proofs.Common.{ℕ, zero, suc, cond, List, [], Option, Some, None, ap, sym, subst, arith, length, length-append, take, drop, get_or, refl, inl, inr, eq-eqb, cases_lt, take_at, take_more, take-append-le, take-append-drop, get_or_at, PlanModel, IsLegal, IsRunStart, not_equal, start_before, start_last}
use Rattle.msrp_plan.specs.declared.faults.Rule.{Rule}
use Rattle.msrp_plan.specs.declared.rows.Row.{Row}
use Rattle.msrp_audit.specs.Inside.Pieces.{TellsFirst}

-- ---- the rows up to a place
-- a list that is longer by what follows a place
pub split_length : {X : Type 0} (xs pre post : List X) (x : X) → xs ≡ pre ++ x ∷ post → length xs ≡ length pre + suc (length post)
split_length xs pre post x is = ap length is ∙ length-append pre (x ∷ post)

-- the rows up to a place, and the one that stands there
pub one_more : (rows : List Row) (i : ℕ) (x : Row) → i < length rows → x ≡ get_or rows i x → take (i + 1) rows ≡ take i rows ++ x ∷ []
one_more rows i x within at = take_more rows i x within ∙ ap (λ y. take i rows ++ y ∷ []) (sym at)

-- a row stands at a place
pub row_at : (rows : List Row) (i : ℕ) → i < length rows → (x : Row) × (x ≡ get_or rows i x)
row_at [] i low = absurd (let no : ⊥ = omega (arith, low) in no)
row_at (x ∷ rows) zero low = (x, refl)
row_at (x ∷ rows) (suc i) low = let more = row_at rows i (omega (arith, low)) in (more.0, more.1)

-- rows before a place that are the start of a legal run are so up to each place before it
pub start_at : (plan : PlanModel) (rows pre post : List Row) (r x : Row) (i : ℕ) → rows ≡ pre ++ r ∷ post → IsRunStart plan pre → i < length pre → x ≡ get_or rows i x → IsRunStart plan (take i rows ++ x ∷ [])
start_at plan rows pre post r x i is start low at =
    let size = split_length rows pre post r is in
    let same : take (i + 1) rows ≡ take (i + 1) pre = ap (take (i + 1)) is ∙ take-append-le (i + 1) pre (r ∷ post) (omega (arith, low)) in
    let more = one_more rows i x (omega (arith, low, size)) at in
    let part : IsRunStart plan (take (i + 1) pre) = start_before plan (take (i + 1) pre) (drop (i + 1) pre) (subst (IsRunStart plan) (sym (take-append-drop (i + 1) pre)) start) in
    subst (IsRunStart plan) (sym same ∙ more) part

-- ---- what a piece finds
-- it finds nothing in so many rows, while those before are the start of a legal run
pub record PassesTo (plan : PlanModel) (test : List Row → Row → Option Rule) (rows : List Row) (i : ℕ) : Type 0 where
  pub none : (pre : List Row) (r : Row) (post : List Row) → rows ≡ pre ++ r ∷ post → IsRunStart plan pre → length pre < i → test pre r ≡ None

-- a row in which it finds something is not legal
abbrev pub IsSound : PlanModel → (List Row → Row → Option Rule) → Type 0
IsSound plan test = (pre : List Row) (r : Row) → IsLegal plan pre r → test pre r ≡ None

-- what it finds at a place
abbrev pub FindsAt : PlanModel → (List Row → Row → Option Rule) → List Row → ℕ → Row → Option Rule → Type 0
FindsAt plan test rows i x o = IsRunStart plan (take i rows) → test (take i rows) x ≡ o

module _ (plan : PlanModel) (test : List Row → Row → Option Rule) (rows : List Row) where
  -- it is what the test says of the row there
  here : (pre post : List Row) (r x : Row) (i : ℕ) (o : Option Rule) → rows ≡ pre ++ r ∷ post → length pre ≡ i → IsRunStart plan pre → x ≡ get_or rows i x → FindsAt plan test rows i x o → test pre r ≡ o
  here pre post r x i o is size start at finds =
      let before : take i rows ≡ pre = ap (take i) is ∙ take_at pre (r ∷ post) i size in
      let same : x ≡ r = at ∙ (ap (λ l. get_or l i x) is ∙ get_or_at pre r post x i size) in
      subst (λ y. test pre y ≡ o) same (subst (λ l. test l x ≡ o) before (finds (subst (IsRunStart plan) (sym before) start)))

  pub passes_more : (i : ℕ) (x : Row) → PassesTo plan test rows i → x ≡ get_or rows i x → FindsAt plan test rows i x None → PassesTo plan test rows (i + 1)
  passes_more i x passes at finds = record {
    none = λ pre r post is start low. elim (cases_lt (length pre) i) [
      | inl before ↦ passes.none pre r post is start before
      | inr past ↦ here pre post r x i None is (omega (arith, low, past)) start at finds
    ];
  }

  -- an answer without a fault
  pub tells_none : ((pre : List Row) (r : Row) (post : List Row) → rows ≡ pre ++ r ∷ post → IsRunStart plan pre → test pre r ≡ None) → TellsFirst plan test rows None
  tells_none none = record { told = λ pre r post is start. sym (none pre r post is start); row = tt }

  pub passes_all : (i : ℕ) → length rows ≤ i → PassesTo plan test rows i → TellsFirst plan test rows None
  passes_all i all passes = tells_none (λ pre r post is start. let size = split_length rows pre post r is in passes.none pre r post is start (omega (arith, size, all)))

  -- it ends at a row that is not legal, in which it finds nothing
  pub ends_at : (i : ℕ) (x : Row) → PassesTo plan test rows i → x ≡ get_or rows i x → FindsAt plan test rows i x None → (IsRunStart plan (take i rows) → IsLegal plan (take i rows) x → ⊥) → TellsFirst plan test rows None
  ends_at i x passes at finds bad = tells_none (λ pre r post is start. elim (cases_lt (length pre) (i + 1)) [
    | inl low ↦ (passes_more i x passes at finds).none pre r post is start low
    | inr past ↦
        let whole = start_at plan rows pre post r x i is start (omega (arith, past)) at in
        absurd (bad (start_before plan (take i rows) (x ∷ []) whole) (start_last plan (take i rows) x whole))
  ])

  -- it finds a rule broken there
  pub finds_at : (i : ℕ) (x : Row) (rule : Rule) → IsSound plan test → i < length rows → PassesTo plan test rows i → x ≡ get_or rows i x → FindsAt plan test rows i x (Some rule) → TellsFirst plan test rows (Some (record { row = i + 1; rule = rule }))
  finds_at i x rule sound within passes at finds = record {
    told = λ pre r post is start. elim (cases_lt (length pre) i) [
      | inl low ↦ ap (λ b. cond b (Some rule) None) (not_equal (i + 1) (length pre + 1) (λ e. absurd (omega (arith, e, low)))) ∙ sym (passes.none pre r post is start low)
      | inr high ↦ elim (cases_lt i (length pre)) [
        | inl past ↦
            let whole = start_at plan rows pre post r x i is start past at in
            let before = start_before plan (take i rows) (x ∷ []) whole in
            let no : None ≡ Some rule = sym (sound (take i rows) x (start_last plan (take i rows) x whole)) ∙ finds before in
            absurd (cc)
        | inr low ↦
            let size : length pre ≡ i = omega (arith, high, low) in
            ap (λ b. cond b (Some rule) None) (eq-eqb (i + 1) (length pre + 1) (ap (λ n. n + 1) (sym size))) ∙ sym (here pre post r x i (Some rule) is size start at finds)
      ]
    ];
    row = (omega arith, omega (arith, within));
  }
