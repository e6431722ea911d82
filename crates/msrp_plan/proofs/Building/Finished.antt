-- A draft that may end is a plan.
use Rattle.msrp_plan.specs.Common.{ℕ, nat_lt, Bool, true, false, cond, List, [], length, take, None, list_any, range_with_len, PlanModel, TaskModel, task_at, no_task, held_after, jobs, is_global, IsNestedAt, IsPlan, finish_fault, nests_global}
use Rattle.msrp_plan.specs.declared.units.Op.{Op}
use Rattle.std.proofs.Common.{◌≡◌, ◌+◌, ◌==◌, ◌&&◌, ◌∷◌, refl, ap, sym, ◌∙◌, arith, eqb-true}
use Rattle.std.specs.List.{slice_get}
use Rattle.std.proofs.lemmas.Bool.{and_from, or_parts, true≢false, false_from_ne_true, ltb-false}
use Rattle.std.proofs.lemmas.Option.{slice_get_within}
use Rattle.std.proofs.lemmas.List.Folds.{list_any_at}
use Rattle.std.proofs.lemmas.List.Sums.{sum_by-cons}
use Rattle.msrp_plan.specs.WellFormed.{IsFlat}
use Rattle.msrp_plan.specs.Building.{end_fault, holds_global, is_global_lock}
use Rattle.msrp_plan.specs.Inside.Views.{IsGrowing}
use Rattle.msrp_plan.specs.declared.faults.PlanFault.TheVariants.{NestedGlobal, Jobs}
use Rattle.msrp_plan.specs.declared.units.Op.TheVariants.{Lock}
use Rattle.msrp_plan.proofs.Lists.AnyAll.{any_in, in_range}
use Rattle.msrp_plan.proofs.Building.Faultless.{fails, neither}
use Rattle.msrp_plan.proofs.TaskUnits.Nesting.{even_after, held_times}
use Rattle.msrp_plan.proofs.Building.Drafts.{all_whole}

-- where nothing that is held passes, what passes isn't held
not_held : (p : ℕ → Bool) (g : ℕ) (held : List ℕ) → p g ≡ true → list_any p held ≡ false → held_times g held ≡ 0
not_held p g [] is e = refl
not_held p g (h ∷ held) is e =
    let parts = or_parts (p h) (list_any p held) e in
    let rest = not_held p g held is parts.1 in
    let first : held_times g (h ∷ held) ≡ cond (h == g) 1 0 + held_times g held = sum_by-cons (λ k. cond (k == g) 1 0) h held in
    let other : (h == g) ≡ false = false_from_ne_true (h == g) (λ same. true≢false (sym is ∙ ap p (sym (eqb-true h g same)) ∙ parts.0)) in
    let none : cond {A = ℕ} (h == g) 1 0 ≡ 0 = ap (λ b. cond b 1 0) other in
    omega (arith, first, rest, none)

-- units that nest no global resource are flat
flat : (plan : PlanModel) (us : List Op) → ((n : ℕ) → IsNestedAt us n) → nests_global plan us ≡ false → IsFlat plan us
flat plan us nested e = record {
  alone = λ n g h at first second.
      let test : ℕ → Bool = λ k. is_global_lock plan (slice_get us k) && holds_global plan (held_after (take k us)) in
      let before = nested n in
      let lock : is_global_lock plan (slice_get us n) ≡ true = ap (is_global_lock plan) at ∙ first in
      let none : holds_global plan (held_after (take n us)) ≡ false = false_from_ne_true _ (λ some.
      true≢false (sym (any_in test (range_with_len 0 (length us)) n (in_range n (length us) (slice_get_within us n (Lock h) at)) (and_from _ _ lock some)) ∙ e)) in
      let free : list_any (is_global plan) before.0 ≡ false = sym (ap (holds_global plan) before.1) ∙ none in
      let even = even_after g (take n us) before.0 before.1 in
      omega (arith, even.even, not_held (is_global plan) g before.0 second free);
}

pub plan_from : (plan : PlanModel) (held : List ℕ) → IsGrowing plan held → finish_fault plan ≡ None → IsPlan plan
plan_from plan held h e =
    let a = neither (end_fault plan) _ e in
    let b = fails (list_any (λ task. nests_global plan task.units) plan.tasks) NestedGlobal _ a.1 in
    let c = fails (nat_lt 8192 (length (jobs plan))) Jobs None b.1 in
    record {
      draft = h.draft;
      whole = all_whole plan held h a.0;
      flat = λ t past. flat plan (task_at plan t).units (h.draft.locking t past).nested
          (false_from_ne_true _ (λ nests. true≢false (sym (list_any_at (λ (task : TaskModel). nests_global plan task.units) plan.tasks t no_task past nests) ∙ b.0)));
      jobs = ltb-false 8192 (length (jobs plan)) c.0;
    }
