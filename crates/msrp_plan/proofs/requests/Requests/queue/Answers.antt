use Rattle.msrp_plan.specs.Common.{ℕ, List, drop, length, min, take, is_release_of}
use Rattle.msrp_plan.specs.declared.ids.JobId.{JobId}
use Rattle.std.proofs.Common.{◌≡◌, ◌-◌, ◌^◌, ◌<◌, ap, arith, length-drop, sym, ◌∙◌}
use Rattle.std.specs.List.{count_by}
use Rattle.std.proofs.lemmas.List.{drop_min, take_all}
use Rattle.msrp_plan.proofs.requests.Requests.queue.Goals as goal

-- no list is longer than the greatest number of releases
rest : (jobs : List JobId) (from releases n : ℕ) → from ≡ min releases (length jobs) → length jobs < 2 ^ 64 → releases ≡ min n (2 ^ 64 - 1) → take (length jobs - from) (drop from jobs) ≡ drop n jobs
rest jobs from releases n is short kept =
    let same : from ≡ min n (length jobs) = omega (arith, is, short, kept) in
    take_all (length jobs - from) (drop from jobs) (omega (arith, length-drop from jobs)) ∙ (ap (λ k. drop k jobs) same ∙ drop_min n jobs)

pub returns : goal.returns
returns c = λ g rows has.
    let size : length c.deref.result.now ≡ c.len.result = c.deref.ensures.len ∙ sym c.len.ensures in
    let from = c.min.ensures ∙ ap (λ n. min c.args.self.now.releases n) (sym size) in
    rest c.deref.result.now c.min.result c.args.self.now.releases _ from (omega (arith, size, c.len.type_inv)) has.releases ∙ ap (λ jobs. drop (count_by (is_release_of g) rows) jobs) (c.deref.ensures.value ∙ has.jobs)
