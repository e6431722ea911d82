-- A row compared with the one expected of its core: the first rule that it violates.
use Rattle.std.specs.Prelude.{◌==◌, ◌&&◌, if◌then◌else◌}
use Rattle.msrp_plan.specs.Common.{ℕ, Bool, true, false, Option, Some, None, option_or, same_res, same_kind, same_choice}
use Rattle.msrp_plan.specs.declared.faults.Rule.{Rule}
use Rattle.msrp_plan.specs.declared.faults.Rule.TheVariants.{A3, A4, A5}
use Rattle.msrp_plan.specs.declared.rows.Kind.{Kind}
use Rattle.msrp_plan.specs.declared.rows.Kind.TheVariants.{Take, Queue, Spin, Grant}
use Rattle.msrp_plan.specs.declared.rows.Row.{Row}

-- the kinds are equal up to the answer: a request taken or queued, a poll granted or not
abbrev pub same_action : Kind → Kind → Bool
same_action Take Queue = true
same_action Queue Take = true
same_action Grant Spin = true
same_action Spin Grant = true
same_action a b = same_kind a b

-- an ahead, if there is one, is this one
abbrev pub same_ahead : Option ℕ → Option ℕ → Bool
same_ahead None o = true
same_ahead (Some n) None = false
same_ahead (Some n) (Some m) = n == m

-- the row does what the other does, on the same resource, whatever the answers
abbrev pub does_alike : Row → Row → Bool
does_alike r due = same_res r.res due.res && same_action r.kind due.kind

-- the row has the other's answer, and if it carries an ahead, the other's
abbrev pub replied_alike : Row → Row → Bool
replied_alike r due = same_kind r.kind due.kind && same_ahead r.ahead due.ahead

-- the lower of the rules on job and action that the row violates, given the expected row
abbrev pub unlike_turn : Row → Row → Option Rule
unlike_turn r due = if same_choice r.job due.job then (if does_alike r due then None else Some A4) else Some A3

-- the lowest of the rules on job, action and reply that the row violates, given the expected row
abbrev pub unlike : Row → Row → Option Rule
unlike r due = option_or (unlike_turn r due) (if replied_alike r due then None else Some A5)
