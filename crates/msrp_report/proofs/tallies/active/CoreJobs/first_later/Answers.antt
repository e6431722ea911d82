use Rattle.std.proofs.Common.{◌+◌, ◌≤◌, ◌&&◌}
use Rattle.msrp_plan.proofs.Common.{cond, Some, take, get_or, length, sym, subst, AllByRecursion, take_all, All-from_recursion, list_any_more, comes_first, is_before, same_job}
use Rattle.msrp_report.proofs.Common.{All-get_or, IsFirstOf, IsKnown, JobId}
use Rattle.msrp_report.proofs.Active.{first_is, first_none, first_step}
use Rattle.msrp_report.proofs.tallies.active.CoreJobs.first_later.Goals as goal

-- what is read past the end
no_job : JobId
no_job = record { task = record { 0 = 0 }; k = 0 }

pub loop-other-init : goal.loop-other-init
loop-other-init c = record { known = tt; first = first_none c.args.plan.now c.args.job }

pub first_with-first-requires-clause-other : goal.first_with-first-requires-clause-other
unfolding no_job
first_with-first-requires-clause-other c =
    let plan = c.args.plan.now in
    let xs = c.deref-other-items.result.now in
    All-get_or (IsKnown plan) xs c.loop-other.other-index no_job c.loop-other-test.true (All-from_recursion (IsKnown plan) xs (subst (AllByRecursion (IsKnown plan)) (sym c.deref-other-items.ensures.value) c.requires.known))

pub loop-other-preserved : goal.loop-other-preserved
unfolding no_job
loop-other-preserved c =
    let plan = c.args.plan.now in
    let j = c.args.job in
    let xs = c.deref-other-items.result.now in
    let n = c.loop-other.other-index in
    let x = get_or xs n no_job in
    let i = c.loop-other.invariant in
    let same = c.deref-other-items.ensures.value in
    let old = subst (λ l. IsFirstOf plan j (take n l) c.loop-other.first) (sym same) i.first in
    let new = first_step plan j x (take n xs) (take (n + 1) xs) c.loop-other.first (λ k. list_any_more (same_job k) xs n no_job c.loop-other-test.true) old in
    record {
      known = c.first_with-first.ensures.known;
      first = subst (λ o. IsFirstOf plan j (take (n + 1) c.args.self.now.jobs.items) o) (sym c.first_with-first.ensures.first) (subst (λ l. IsFirstOf plan j (take (n + 1) l) (cond (is_before plan j x && comes_first plan x c.loop-other.first) (Some x) c.loop-other.first)) same new);
    }

pub returns : goal.returns
returns c = λ rows active.
    let plan = c.args.plan.now in
    let items = c.args.self.now.jobs.items in
    let past = c.loop-other-test.false in
    let same = c.deref-other-items.ensures.value in
    first_is plan rows c.args.job c.args.self.now c.loop-other.first active (subst (λ l. IsFirstOf plan c.args.job l c.loop-other.first) (take_all c.loop-other.other-index items (subst (λ l. length l ≤ c.loop-other.other-index) same past)) c.loop-other.invariant.first)
