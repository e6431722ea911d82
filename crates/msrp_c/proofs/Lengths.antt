-- Texts that are too long, and status 5.
use Rattle.std.proofs.Common.{◌≡◌, ◌≤◌, ◌∙◌}
use Rattle.msrp_plan.proofs.Common.{ℕ, Bool, true, false, List, [], length, IfOk, refl, ap, sym, subst, inl, inr, arith, cases_lt, ⊤}
use Rattle.msrp_plan.specs.declared.faults.Fault.{Fault}
use mathlib.Core.Bool.{true≢false}
use Rattle.std.specs.declared.result.Result.{Result}
use Rattle.std.specs.declared.result.Result.TheVariants.{Ok, Err}
use Rattle.msrp_engine.specs.MadeTexts.{found_in}
use Rattle.msrp_faults.specs.declared.faults.CliFault.{CliFault}
use Rattle.msrp_faults.specs.declared.faults.CliFault.TheVariants.{Plan, Trace, Usage, Memory, Threads, Read, Write}
use Rattle.msrp_engine.specs.declared.made.Made.{Made}
use Rattle.msrp_engine.specs.Answered.{OrUnread}
use Rattle.msrp_c.specs.Answers.{Answers, Gives, Hands, HandsOver, Judges, Tells, status_told, text_in, unfailed}
use Rattle.msrp_c.specs.Names.{AnswersNumber, TellsNumber, found_with}
use Rattle.msrp_c.specs.Whys.{AnswersWords, HandsWords, refusal_in, words_in}
use Rattle.msrp_view_engine.specs.Answers.{IsOnPlan}
use Rattle.msrp_view_engine.specs.declared.words.Words.{Words}
use Rattle.msrp_c.specs.declared.answers.MsrpFound.{MsrpFound}

-- ---- status 5
pub not-five : (what : Result (Result ⊤ Fault) CliFault) → status_told (unfailed what) ≡ 5 → ⊥
not-five (Ok (Ok good)) e = absurd (cc)
not-five (Ok (Err fault)) e = absurd (cc)
not-five (Err (Plan c n)) e = absurd (cc)
not-five (Err (Trace c n)) e = absurd (cc)
not-five (Err Usage) e = absurd (cc)
not-five (Err Memory) e = absurd (cc)
not-five (Err Threads) e = absurd (cc)
not-five (Err Read) e = absurd (cc)
not-five (Err Write) e = absurd (cc)

found-unfailed : (made : Result Made CliFault) → found_in (unfailed made) ≡ unfailed (found_in made)
found-unfailed (Ok made) = refl
found-unfailed (Err fault) = refl

six : (status : ℕ) → status ≡ 6 → status ≡ 5 → ⊥
six status h e = absurd (cc)

-- what is found in a plan is no read or write that failed
on-plan-unfailed : (found : Result (Result ⊤ Fault) CliFault) → IsOnPlan found → found ≡ unfailed found
on-plan-unfailed (Ok verdict) is = refl
on-plan-unfailed (Err (Plan c n)) is = refl
on-plan-unfailed (Err (Trace c n)) is = refl
on-plan-unfailed (Err Usage) is = refl
on-plan-unfailed (Err Memory) is = refl
on-plan-unfailed (Err Threads) is = refl
on-plan-unfailed (Err Read) is = absurd is
on-plan-unfailed (Err Write) is = absurd is

words-unfailed : (words : Result Words CliFault) → IfOk words (λ made. IsOnPlan made.found) → refusal_in (unfailed words) ≡ unfailed (refusal_in words)
words-unfailed (Ok words) is = on-plan-unfailed words.found is
words-unfailed (Err fault) is = refl

hands-five : (what : Result (Result ⊤ Fault) CliFault) (text old new : List ℕ) (needed : ℕ) (found : MsrpFound) (status : ℕ) → HandsOver (unfailed what) text old new needed found status → status ≡ 5 → ⊥
hands-five what text old new needed found status h e = elim (cases_lt (length old) (length text)) [
  | inl short ↦ six status (h.short short).0 e
  | inr fits ↦ not-five what (sym (h.fits fits).0 ∙ e)
]

-- ---- what calls answer
pub long-judged : (long : Bool) (expected : Result (Result ⊤ Fault) CliFault) (found : MsrpFound) (status : ℕ) → long ≡ true → Tells (Err Read) found status → Judges long expected found status
long-judged long expected found status is h = record {
  what = Err Read;
  is = λ no. absurd (true≢false (sym is ∙ no));
  tells = rw is h;
  too_long = ((λ _. is), (λ _. h.status_is));
}

pub short-judged : (long : Bool) (expected what : Result (Result ⊤ Fault) CliFault) (found : MsrpFound) (status : ℕ) → long ≡ false → OrUnread what (what ≡ expected) → Tells (unfailed what) found status → Judges long expected found status
short-judged long expected what found status is good h = record {
  what = what;
  is = λ _. good;
  tells = rw is h;
  too_long = ((λ e. absurd (not-five what (sym h.status_is ∙ e))), (λ t. absurd (true≢false (sym t ∙ is))));
}

pub long-given : {A : Type 0} (what_in : Result A CliFault → Result (Result ⊤ Fault) CliFault) (text_in : Result A CliFault → List ℕ) (long : Bool) (IsMade : Result A CliFault → Type 0) (old new : List ℕ) (needed : ℕ) (found : MsrpFound) (status : ℕ)
    → what_in (Err Read) ≡ Err Read → text_in (Err Read) ≡ [] → long ≡ true → HandsOver (what_in (Err Read)) (text_in (Err Read)) old new needed found status → Gives what_in text_in long IsMade old new needed found status
long-given what_in text_in long IsMade old new needed found status read none is h = record {
  made = Err Read;
  is = λ no. absurd (true≢false (sym is ∙ no));
  hands = rw is h;
  too_long = ((λ _. is), (λ _. (h.fits (subst (λ text. length text ≤ length old) (sym none) (omega arith))).0 ∙ ap status_told read));
}

pub short-given : {A : Type 0} (what_in : Result A CliFault → Result (Result ⊤ Fault) CliFault) (text_in : Result A CliFault → List ℕ) (long : Bool) (IsMade : Result A CliFault → Type 0) (made : Result A CliFault) (old new : List ℕ) (needed : ℕ) (found : MsrpFound) (status : ℕ)
    → what_in (unfailed made) ≡ unfailed (what_in made) → long ≡ false → IsMade made → HandsOver (what_in (unfailed made)) (text_in (unfailed made)) old new needed found status → Gives what_in text_in long IsMade old new needed found status
short-given what_in text_in long IsMade made old new needed found status same is good h = record {
  made = made;
  is = λ _. good;
  hands = rw is h;
  too_long = (
    (λ e. absurd (hands-five (what_in made) (text_in (unfailed made)) old new needed found status (subst (λ what. HandsOver what (text_in (unfailed made)) old new needed found status) same h) e)),
    (λ t. absurd (true≢false (sym t ∙ is))),
  );
}

pub long-answered : (long : Bool) (IsMade : Result Made CliFault → Type 0) (old new : List ℕ) (needed : ℕ) (found : MsrpFound) (status : ℕ) → long ≡ true → Hands (Err Read) old new needed found status → Answers long IsMade old new needed found status
long-answered long IsMade old new needed found status is h = long-given found_in text_in long IsMade old new needed found status refl refl is h

pub short-answered : (long : Bool) (IsMade : Result Made CliFault → Type 0) (made : Result Made CliFault) (old new : List ℕ) (needed : ℕ) (found : MsrpFound) (status : ℕ)
    → long ≡ false → IsMade made → Hands (unfailed made) old new needed found status → Answers long IsMade old new needed found status
short-answered long IsMade made old new needed found status is good h = short-given found_in text_in long IsMade made old new needed found status (found-unfailed made) is good h

pub long-words : (long : Bool) (AreMade : Result Words CliFault → Type 0) (old new : List ℕ) (needed : ℕ) (found : MsrpFound) (status : ℕ) → long ≡ true → HandsWords (Err Read) old new needed found status → AnswersWords long AreMade old new needed found status
long-words long AreMade old new needed found status is h = long-given refusal_in words_in long AreMade old new needed found status refl refl is h

pub short-words : (long : Bool) (AreMade : Result Words CliFault → Type 0) (words : Result Words CliFault) (old new : List ℕ) (needed : ℕ) (found : MsrpFound) (status : ℕ)
    → long ≡ false → IfOk words (λ made. IsOnPlan made.found) → AreMade words → HandsWords (unfailed words) old new needed found status → AnswersWords long AreMade old new needed found status
short-words long AreMade words old new needed found status is plan good h = short-given refusal_in words_in long AreMade words old new needed found status (words-unfailed words plan) is good h

-- ---- numbers of names
with-unfailed : (what : Result ℕ CliFault) → found_with (unfailed what) ≡ unfailed (found_with what)
with-unfailed (Ok number) = refl
with-unfailed (Err fault) = refl

pub long-numbered : (long : Bool) (expected : Result ℕ CliFault) (old new : ℕ) (found : MsrpFound) (status : ℕ) → long ≡ true → TellsNumber (Err Read) old new found status → AnswersNumber long expected old new found status
long-numbered long expected old new found status is h = record {
  what = Err Read;
  is = λ no. absurd (true≢false (sym is ∙ no));
  tells = rw is h;
  too_long = ((λ _. is), (λ _. h.tells.status_is));
}

pub short-numbered : (long : Bool) (expected what : Result ℕ CliFault) (old new : ℕ) (found : MsrpFound) (status : ℕ) → long ≡ false → OrUnread what (what ≡ expected) → TellsNumber (unfailed what) old new found status → AnswersNumber long expected old new found status
short-numbered long expected what old new found status is good h = record {
  what = what;
  is = λ _. good;
  tells = rw is h;
  too_long = ((λ e. absurd (not-five (found_with what) (sym (h.tells.status_is ∙ ap status_told (with-unfailed what)) ∙ e))), (λ t. absurd (true≢false (sym t ∙ is))));
}
