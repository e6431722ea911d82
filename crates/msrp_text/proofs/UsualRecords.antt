-- Records of usual lines, taken at a position.
use Rattle.std.proofs.Common.{◌≡◌, ◌∙◌}
use Rattle.msrp_plan.proofs.Common.{ℕ, Bool, true, false, List, Option, Some, None, Result, Ok, Err, ap, subst, inl, inr, OnOk, IsJudged, PlanModel}
use Rattle.msrp_plan.specs.declared.faults.PlanFault.{PlanFault}
use Rattle.msrp_plan.specs.declared.rows.TextVersion.{TextVersion}
use Rattle.std.proofs.lemmas.Bool.{false≢true}
use Rattle.msrp_plan.specs.declared.faults.PlanFault.TheVariants as want
use Rattle.msrp_text.specs.Positions.{IsTakenAt, position_fault, position_with, refusal}
use Rattle.msrp_text.specs.Reading.{body_fault, with_record}
use Rattle.msrp_text.specs.Records.{GivesLine}
use Rattle.msrp_text.specs.Usual.{MayTake}
use Rattle.msrp_text.specs.declared.positions.Position.{Position}
use Rattle.msrp_text.specs.declared.positions.Position.TheVariants.{Body}
use Rattle.msrp_text.specs.declared.reading.TextError.{TextError}

-- what a builder has judged, at a position
judged-at : {A U : Type 0} (f : Option PlanFault) (number : ℕ) (due new : A) (r : Result U PlanFault) (u : U) → IsJudged f r → r ≡ Ok u → new ≡ due → IsTakenAt f number due (Ok new)
judged-at (Some fault) number due new r u h k e = absurd (cc)
judged-at None number due new r u h k e = inr (ap (λ p. Ok p) e)

refused-at : {A U : Type 0} (f : Option PlanFault) (number : ℕ) (due : A) (r : Result U PlanFault) (fault : PlanFault) → IsJudged f r → r ≡ Err fault → IsTakenAt f number due (Err (refusal fault number))
refused-at (Some other) number due r fault h k = let e : fault ≡ other = cc in ap (λ f. Err (refusal f number)) e
refused-at None number due r fault (inl ok) k = absurd (false≢true (rw k at ok))
refused-at None number due r fault (inr memory) k = let e : fault ≡ want.Memory = cc in inl (ap (λ f. Err (refusal f number)) e)

pub body-taken : {U : Type 0} (position : Position) (version : TextVersion) (plan new : PlanModel) (fields : List (List ℕ)) (number : ℕ) (r : Result U PlanFault) (u : U) → position ≡ Body version plan
    → IsJudged (body_fault version plan (Some fields)) r → OnOk r (new ≡ with_record plan fields) → r ≡ Ok u → IsTakenAt (position_fault position (Some fields)) number (position_with position fields) (Ok (Body version new))
unfolding position_fault position_with
body-taken position version plan new fields number r u is judged added k =
    let same : new ≡ with_record plan fields = rw k at added in
    rw is (judged-at (body_fault version plan (Some fields)) number (Body version (with_record plan fields)) (Body version new) r u judged k (ap (λ (p : PlanModel). Body version p) same))

pub body-refused : {U : Type 0} (position : Position) (version : TextVersion) (plan : PlanModel) (fields : List (List ℕ)) (number : ℕ) (r : Result U PlanFault) (fault : PlanFault) → position ≡ Body version plan
    → IsJudged (body_fault version plan (Some fields)) r → r ≡ Err fault → IsTakenAt (position_fault position (Some fields)) number (position_with position fields) (Err (refusal fault number))
unfolding position_fault position_with
body-refused position version plan fields number r fault is judged k = rw is (refused-at (body_fault version plan (Some fields)) number (Body version (with_record plan fields)) r fault judged k)

-- ---- what was taken, if a record was
pub none-taken : (old new : Option (List (List (List ℕ)))) (position next : Position) (number : ℕ) (r : Result Bool TextError) (b : Bool) → MayTake old position number r next new → r ≡ Ok b → b ≡ false → (next ≡ position) × (new ≡ old)
none-taken old new position next number r b h k e = subst (λ x. MayTake old position number x next new) (k ∙ ap (λ v. Ok v) e) h

pub one-taken : (old new : Option (List (List (List ℕ)))) (position next : Position) (number : ℕ) (r : Result Bool TextError) (b : Bool) → MayTake old position number r next new → r ≡ Ok b → b ≡ true
    → (fields : List (List ℕ)) × GivesLine old fields new × IsTakenAt (position_fault position (Some fields)) number (position_with position fields) (Ok next)
one-taken old new position next number r b h k e = subst (λ x. MayTake old position number x next new) (k ∙ ap (λ v. Ok v) e) h

pub one-refused : (old new : Option (List (List (List ℕ)))) (position next : Position) (number : ℕ) (r : Result Bool TextError) (error : TextError) → MayTake old position number r next new → r ≡ Err error
    → (fields : List (List ℕ)) × GivesLine old fields new × IsTakenAt {A = Position} (position_fault position (Some fields)) number (position_with position fields) (Err error)
one-refused old new position next number r error h k = subst (λ x. MayTake old position number x next new) k h
