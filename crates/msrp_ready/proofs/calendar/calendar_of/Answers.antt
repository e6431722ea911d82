use Rattle.msrp_plan.proofs.Common.{rules}
use Rattle.msrp_ready.proofs.Common.{Entry, IsNonDecreasingBy-from_sort, answers_always}
use Rattle.msrp_ready.proofs.calendar.calendar_of.Goals as goal

pub returns-clause-sorted : goal.returns-clause-sorted
returns-clause-sorted c =
    IsNonDecreasingBy-from_sort (λ (entry : Entry). entry.release) _ (c.sort_unstable_by_key.ensures.sorted (λ entry. entry.release) (answers_always _ _ _ (λ f a r g h. search rules)))
