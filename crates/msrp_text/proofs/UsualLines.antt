-- Lines of known words and one more field.
use Rattle.std.proofs.Common.{◌≡◌, ◌==◌, ◌++◌, ◌∷◌, ◌∙◌, ◌<◌, ◌+◌}
use Rattle.msrp_plan.proofs.Common.{ℕ, [], true, false, List, Some, Option, Result, inl, inr, length, length-append, subst, take, slice_index, refl, sym, ap, arith, append_assoc, append-nil, OnOk, codes, list_any, take-append-add, or_from, or_parts, take_more, nat_tests, IsJudged, PlanModel}
use Rattle.msrp_plan.specs.declared.rows.TextVersion.{TextVersion}
use Rattle.msrp_plan.specs.declared.rows.TextVersion.TheVariants.{V2}
use Rattle.msrp_plan.specs.declared.faults.PlanFault.{PlanFault}
use Rattle.msrp_plan.specs.declared.units.Step.{Step}
use Rattle.csv.specs.Records.{field_at}
use Rattle.msrp_plan.specs.Building.{op_fault, release_fault, takes_releases, units_of, with_release, with_units}
use Rattle.msrp_plan.specs.declared.units.Step.TheVariants.{Run, Lock, Unlock}
use Rattle.msrp_text.specs.Fields.{number_of, text_of}
use Rattle.msrp_text.specs.Plain.{EndsLine, is_mark, is_plain, split_commas, split_from}
use Rattle.msrp_text.specs.Reading.{body_fault, resource_told, with_record}
use Rattle.msrp_text.specs.Usual.{IsAdded, IsLast, StandsBehind, TellsStep, is_low}
use Rattle.msrp_text.specs.declared.front.PlainLine.{PlainLine}

high-mark : (b : ℕ) → is_low b ≡ false → is_mark b ≡ false
high-mark b h = grind (arith, nat_tests, h)

high-comma : (b : ℕ) → is_low b ≡ false → (b == 44) ≡ false
high-comma b h = grind (arith, nat_tests, h)

-- a field of such bytes has no quote and no end of a line
pub inside-plain : (field : List ℕ) → list_any is_low field ≡ false → list_any is_mark field ≡ false
inside-plain [] h = refl
inside-plain (b ∷ rest) h = let parts = or_parts (is_low b) (list_any is_low rest) h in or_from (is_mark b) (list_any is_mark rest) (high-mark b parts.0) (inside-plain rest parts.1)

-- and is one field
pub inside-split : (begun field : List ℕ) → list_any is_low field ≡ false → split_from begun field ≡ (begun ++ field) ∷ []
unfolding split_from
inside-split begun [] h = rw (append-nil begun) refl
inside-split begun (b ∷ rest) h =
    let parts = or_parts (is_low b) (list_any is_low rest) h in
    rw (high-comma b parts.0) (inside-split (begun ++ (b ∷ [])) rest parts.1 ∙ ap (λ (f : List ℕ). f ∷ []) (append_assoc begun (b ∷ []) rest))

-- ---- what such a line tells
pub run-plain : (field : List ℕ) → list_any is_low field ≡ false → is_plain (codes "op,run," ++ field) ≡ true
run-plain field h = rw (inside-plain field h) refl

pub run-split : (field : List ℕ) → list_any is_low field ≡ false → split_commas (codes "op,run," ++ field) ≡ codes "op" ∷ codes "run" ∷ field ∷ []
unfolding split_from
run-split field h = ap (λ (fs : List (List ℕ)). codes "op" ∷ codes "run" ∷ fs) (inside-split [] field h)

pub run-fault : (version : TextVersion) (plan : PlanModel) (field : List ℕ) (n : ℕ) → (length plan.tasks == 0) ≡ false → number_of field ≡ Some n
    → body_fault version plan (Some (codes "op" ∷ codes "run" ∷ field ∷ [])) ≡ op_fault plan (Run n)
unfolding field_at
run-fault version plan field n some number = rw (some, number) refl

pub run-added : (plan : PlanModel) (field : List ℕ) (n : ℕ) → number_of field ≡ Some n → with_record plan (codes "op" ∷ codes "run" ∷ field ∷ []) ≡ with_units plan (units_of (Run n))
unfolding field_at
run-added plan field n number = rw number refl

pub lock-plain : (field : List ℕ) → list_any is_low field ≡ false → is_plain (codes "op,lock," ++ field) ≡ true
lock-plain field h = rw (inside-plain field h) refl

pub lock-split : (field : List ℕ) → list_any is_low field ≡ false → split_commas (codes "op,lock," ++ field) ≡ codes "op" ∷ codes "lock" ∷ field ∷ []
unfolding split_from
lock-split field h = ap (λ (fs : List (List ℕ)). codes "op" ∷ codes "lock" ∷ fs) (inside-split [] field h)

pub lock-fault : (version : TextVersion) (plan : PlanModel) (field : List ℕ) → (length plan.tasks == 0) ≡ false
    → body_fault version plan (Some (codes "op" ∷ codes "lock" ∷ field ∷ [])) ≡ op_fault plan (Lock (resource_told plan (text_of field)))
unfolding field_at
lock-fault version plan field some = rw some refl

pub lock-added : (plan : PlanModel) (field : List ℕ) → with_record plan (codes "op" ∷ codes "lock" ∷ field ∷ []) ≡ with_units plan (units_of (Lock (resource_told plan (text_of field))))
unfolding field_at
lock-added plan field = refl

pub unlock-plain : (field : List ℕ) → list_any is_low field ≡ false → is_plain (codes "op,unlock," ++ field) ≡ true
unlock-plain field h = rw (inside-plain field h) refl

pub unlock-split : (field : List ℕ) → list_any is_low field ≡ false → split_commas (codes "op,unlock," ++ field) ≡ codes "op" ∷ codes "unlock" ∷ field ∷ []
unfolding split_from
unlock-split field h = ap (λ (fs : List (List ℕ)). codes "op" ∷ codes "unlock" ∷ fs) (inside-split [] field h)

pub unlock-fault : (version : TextVersion) (plan : PlanModel) (field : List ℕ) → (length plan.tasks == 0) ≡ false
    → body_fault version plan (Some (codes "op" ∷ codes "unlock" ∷ field ∷ [])) ≡ op_fault plan (Unlock (resource_told plan (text_of field)))
unfolding field_at
unlock-fault version plan field some = rw some refl

pub unlock-added : (plan : PlanModel) (field : List ℕ) → with_record plan (codes "op" ∷ codes "unlock" ∷ field ∷ []) ≡ with_units plan (units_of (Unlock (resource_told plan (text_of field))))
unfolding field_at
unlock-added plan field = refl

pub release-plain : (field : List ℕ) → list_any is_low field ≡ false → is_plain (codes "release," ++ field) ≡ true
release-plain field h = rw (inside-plain field h) refl

pub release-split : (field : List ℕ) → list_any is_low field ≡ false → split_commas (codes "release," ++ field) ≡ codes "release" ∷ field ∷ []
unfolding split_from
release-split field h = ap (λ (fs : List (List ℕ)). codes "release" ∷ fs) (inside-split [] field h)

pub release-fault : (plan : PlanModel) (field : List ℕ) (n : ℕ) → takes_releases plan ≡ true → number_of field ≡ Some n
    → body_fault V2 plan (Some (codes "release" ∷ field ∷ [])) ≡ release_fault plan n
unfolding field_at
release-fault plan field n takes number = rw (takes, number) refl

pub release-added : (plan : PlanModel) (field : List ℕ) (n : ℕ) → number_of field ≡ Some n → with_record plan (codes "release" ∷ field ∷ []) ≡ with_release plan n
unfolding field_at
release-added plan field n number = rw number refl

-- a line of known words and a field that stands behind them
ends-behind : (front line text all : List ℕ) → all ≡ front ++ text → EndsLine line text → EndsLine (front ++ line) all
ends-behind front line text all e (inl h) = inl (e ∙ ap (λ (t : List ℕ). front ++ t) h ∙ sym (append_assoc front line (10 ∷ [])))
ends-behind front line text all e (inr (inl h)) = inr (inl (e ∙ ap (λ (t : List ℕ). front ++ t) h ∙ sym (append_assoc front line (13 ∷ []))))
ends-behind front line text all e (inr (inr h)) = inr (inr (e ∙ ap (λ (t : List ℕ). front ++ t) h ∙ sym (append_assoc front line (13 ∷ 10 ∷ []))))

pub behind : (text front rest : List ℕ) (field : PlainLine) → text ≡ front ++ rest → IsLast rest field → StandsBehind text front (take field.length rest) (length front + field.taken)
behind text front rest field e last =
    let size : length text ≡ length front + length rest = ap length e ∙ length-append front rest in
    let longer = last.longer in
    let within = last.within in
    let whole : take (length front + field.taken) text ≡ front ++ take field.taken rest = ap (take (length front + field.taken)) e ∙ take-append-add front rest field.taken in
    record {
      some = omega (arith, longer);
      within = omega (arith, size, within);
      ended = ends-behind front (take field.length rest) (take field.taken rest) _ whole last.ended;
      inside = last.inside;
    }

-- ---- such a line is added
added-line : (version : TextVersion) (plan new after : PlanModel) (text front field : List ℕ) (fields : List (List ℕ)) (fault : Option PlanFault) (r : Result (Unit {0}) PlanFault) (taken : ℕ)
    → StandsBehind text front field taken → is_plain (front ++ field) ≡ true → split_commas (front ++ field) ≡ fields → body_fault version plan (Some fields) ≡ fault → with_record plan fields ≡ after
    → IsJudged fault r → OnOk r (new ≡ after) → IsAdded version plan new text r taken
added-line version plan new after text front field fields fault r taken stands plain split faulted with judged added =
    let due : body_fault version plan (Some (split_commas (front ++ field))) ≡ fault = ap (λ (fs : List (List ℕ)). body_fault version plan (Some fs)) split ∙ faulted in
    let then : with_record plan (split_commas (front ++ field)) ≡ after = ap (with_record plan) split ∙ with in
    record {
      line = front ++ field;
      some = stands.some;
      within = stands.within;
      ended = stands.ended;
      plain = plain;
      is_judged = subst (λ f. IsJudged f r) (sym due) judged;
      added = subst (λ (p : PlanModel). OnOk r (new ≡ p)) (sym then) added;
    }

pub step-added : (version : TextVersion) (plan new : PlanModel) (text : List ℕ) (step : Step) (r : Result (Unit {0}) PlanFault) (taken : ℕ)
    → (length plan.tasks == 0) ≡ false → TellsStep plan text step taken → IsJudged (op_fault plan step) r → OnOk r (new ≡ with_units plan (units_of step)) → IsAdded version plan new text r taken
step-added version plan new text (Run n) r taken some tells judged added =
    let stands = tells.1 in
    added-line version plan new _ text (codes "op,run,") (tells.0) _ _ r taken stands (run-plain (tells.0) stands.inside) (run-split (tells.0) stands.inside) (run-fault version plan (tells.0) n some tells.2) (run-added plan (tells.0) n tells.2) judged added
step-added version plan new text (Lock res) r taken some tells judged added =
    let stands = tells.1 in
    added-line version plan new _ text (codes "op,lock,") (tells.0) _ _ r taken stands (lock-plain (tells.0) stands.inside) (lock-split (tells.0) stands.inside) (lock-fault version plan (tells.0) some ∙ ap (λ g. op_fault plan (Lock g)) (sym tells.2)) (lock-added plan (tells.0) ∙ ap (λ g. with_units plan (units_of (Lock g))) (sym tells.2)) judged added
step-added version plan new text (Unlock res) r taken some tells judged added =
    let stands = tells.1 in
    added-line version plan new _ text (codes "op,unlock,") (tells.0) _ _ r taken stands (unlock-plain (tells.0) stands.inside) (unlock-split (tells.0) stands.inside) (unlock-fault version plan (tells.0) some ∙ ap (λ g. op_fault plan (Unlock g)) (sym tells.2)) (unlock-added plan (tells.0) ∙ ap (λ g. with_units plan (units_of (Unlock g))) (sym tells.2)) judged added

pub release-line : (plan new : PlanModel) (text : List ℕ) (n : ℕ) (r : Result (Unit {0}) PlanFault) (taken : ℕ)
    → takes_releases plan ≡ true → ((field : List ℕ) × StandsBehind text (codes "release,") field taken × (number_of field ≡ Some n)) → IsJudged (release_fault plan n) r → OnOk r (new ≡ with_release plan n) → IsAdded V2 plan new text r taken
release-line plan new text n r taken takes tells judged added =
    let stands = tells.1 in
    added-line V2 plan new _ text (codes "release,") (tells.0) _ _ r taken stands (release-plain (tells.0) stands.inside) (release-split (tells.0) stands.inside) (release-fault plan (tells.0) n takes tells.2) (release-added plan (tells.0) n tells.2) judged added

-- ---- the end of a line
pub feed-ends : (text : List ℕ) (at end : ℕ) → at < length text → slice_index text at ≡ end → take (at + 1) text ≡ take at text ++ (end ∷ [])
feed-ends text at end within e = take_more text at 0 within ∙ ap (λ (b : ℕ). take at text ++ (b ∷ [])) e
