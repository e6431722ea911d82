-- What a core repeats: the text of a row that differs from the last one in the tick alone.
use Rattle.msrp_plan.proofs.Common.{ℕ, List, refl, true, Option, Some, None, is_none, and_parts, same_res, PlanModel, same_choice, same_choice_is, same_res_is}
use Rattle.msrp_plan.specs.declared.rows.Row.{Row}
use Rattle.msrp_plan.specs.declared.rows.TextVersion.{TextVersion}
use Rattle.std.proofs.Common.{◌≡◌, ◌∙◌, ◌==◌, ◌&&◌, IsSomeAnd}
use Rattle.std.specs.Option.{IfSome}
use Rattle.std.proofs.lemmas.Bool.{eqb-true}
use Rattle.msrp_trace.specs.Gathering.{after_tick}
use Rattle.msrp_trace.specs.Lines.{is_same_place}

both_none : (a b : Option ℕ) → (is_none a && is_none b) ≡ true → a ≡ b
both_none None None h = refl
both_none None (Some m) h = absurd (cc)
both_none (Some n) b h = absurd (cc)

same_after_tick : (version : TextVersion) (plan : PlanModel) (a b : Row) → a.kind ≡ b.kind → is_same_place a b ≡ true → after_tick version plan a ≡ after_tick version plan b
same_after_tick version plan a b kind h =
    let whole = and_parts (a.core.0 == b.core.0) (same_choice a.job b.job && (same_res a.res b.res && (is_none a.ahead && is_none b.ahead))) h in
    let rest = and_parts (same_choice a.job b.job) (same_res a.res b.res && (is_none a.ahead && is_none b.ahead)) whole.1 in
    let last = and_parts (same_res a.res b.res) (is_none a.ahead && is_none b.ahead) rest.1 in
    let core = eqb-true a.core.0 b.core.0 whole.0 in
    let job = same_choice_is a.job b.job rest.0 in
    let res = same_res_is a.res b.res last.0 in
    let ahead = both_none a.ahead b.ahead last.1 in
    cc

-- what is kept of a row is the text of the next one too
pub same_line : (version : TextVersion) (plan : PlanModel) (kept : Option Row) (text : List ℕ) (r : Row) → IfSome kept (λ last. text ≡ after_tick version plan last)
    → IsSomeAnd kept (λ last. last.kind ≡ r.kind) → IsSomeAnd kept (λ last. is_same_place last r ≡ true) → text ≡ after_tick version plan r
same_line version plan None text r fits kind place = absurd kind
same_line version plan (Some last) text r fits kind place = fits ∙ same_after_tick version plan last r kind place
