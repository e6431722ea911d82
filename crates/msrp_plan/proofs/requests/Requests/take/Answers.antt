use Rattle.msrp_plan.specs.Common.{ℕ, [], List, Err, Ok, OnErr, Result, cond, min, cons_option, is_release_of, requester}
use Rattle.msrp_plan.specs.declared.rows.Row.{Row}
use Rattle.std.proofs.Common.{◌≡◌, ◌+◌, ◌-◌, ◌^◌, ◌++◌, ◌∷◌, ap, arith, sym, ◌∙◌}
use Rattle.std.proofs.lemmas.List.Elements.{filter_map-append}
use Rattle.std.proofs.lemmas.List.Sums.{sum_by_push}
use Rattle.msrp_plan.specs.Requests.{HasTaken}
use Rattle.msrp_plan.specs.declared.requests.Requests.{Requests}
use Rattle.msrp_plan.proofs.requests.Requests.take.Goals as goal

capped : (n k most : ℕ) → min (min n most + k) most ≡ min (n + k) most
capped n k most = omega arith

-- one row more
taken : (g : ℕ) (r : Row) (old new : Requests) (rows : List Row) → new.res ≡ old.res → new.jobs.items ≡ old.jobs.items ++ cons_option (requester old.res.0 r) [] → new.releases ≡ min (old.releases + cond (is_release_of old.res.0 r) 1 0) (2 ^ 64 - 1)
    → HasTaken old g rows → HasTaken new g (rows ++ r ∷ [])
taken g r old new rows same jobs releases has = record {
  resource = ap (λ x. x.0) same ∙ has.resource;
  jobs = jobs ∙ (ap (λ n. old.jobs.items ++ cons_option (requester n r) []) has.resource ∙ (ap (λ xs. xs ++ cons_option (requester g r) []) has.jobs ∙ sym (filter_map-append (requester g) rows (r ∷ []))));
  releases = releases ∙ (ap (λ n. min (old.releases + cond (is_release_of n r) 1 0) (2 ^ 64 - 1)) has.resource ∙ (ap (λ n. min (n + cond (is_release_of g r) 1 0) (2 ^ 64 - 1)) has.releases
      ∙ (capped _ _ (2 ^ 64 - 1) ∙ ap (λ n. min n (2 ^ 64 - 1)) (sym (sum_by_push (λ w. cond (is_release_of g w) 1 0) rows r)))));
}

on_err : {A E : Type 0} {P : Type 0} (r : Result A E) → P → OnErr r P
on_err (Ok a) h = tt
on_err (Err e) h = h

-- no row more
untaken : (g : ℕ) (old new : Requests) (rows : List Row) → new.res ≡ old.res → new.jobs.items ≡ old.jobs.items → new.releases ≡ old.releases → HasTaken old g rows → HasTaken new g rows
untaken g old new rows same jobs releases has = record { resource = ap (λ x. x.0) same ∙ has.resource; jobs = jobs ∙ has.jobs; releases = releases ∙ has.releases }

pub returns-in_err-request-clause-kept : goal.returns-in_err-request-clause-kept
returns-in_err-request-clause-kept c = λ g rows has.
    let request = c.request.ensures in
    on_err c.from_residual.result (untaken g c.args.self.now c.request.new.self rows request.res c.in_err-request.ensures.kept request.releases has)

pub returns-clause-taken : goal.returns-clause-taken
returns-clause-taken c = λ g rows has.
    let jobs = rw c.requester.ensures at c.in_ok-request.ensures.jobs in
    let releases = rw (c.is_release_of.ensures, c.in_ok-request.ensures.res, c.in_ok-request.ensures.releases) at c.release.ensures.releases in
    taken g c.args.row.now c.args.self.now c.release.new.self rows (c.release.ensures.res ∙ c.in_ok-request.ensures.res) (rw c.release.ensures.jobs jobs) releases has
