use Rattle.std.proofs.Common.{◌-◌, ◌≤◌}
use Rattle.msrp_plan.proofs.Common.{length, take, drop, All}
use Rattle.msrp_ready.proofs.calendar.released_to.Given as goal

abbrev pub invariant-loop-next : goal.invariant-loop-next
invariant-loop-next l = record {
  lower : l.from ≤ l.next;
  within : l.next ≤ length l.calendar;
  released : All (λ entry. entry.release ≤ l.tick) (drop l.from (take l.next l.calendar));
}

abbrev pub decreases-loop-next : goal.decreases-loop-next
decreases-loop-next l = length l.calendar - l.next
