-- What a command line asks for.
use Rattle.msrp_plan.specs.Common.{true, false, List, Option, Some, None, codes, unwrap_or, Ok, Err, bytes_eq}
use Rattle.msrp_plan.specs.declared.rows.TextVersion.{TextVersion}
use Rattle.msrp_plan.specs.declared.rows.TextVersion.TheVariants.{V1, V2}
use Rattle.std.specs.Prelude.{◌≡◌, if◌then◌else◌, Result}
use Rattle.clap.specs.Words.{Row, Text, first_of}
use Rattle.msrp_words.specs.declared.cli.Cmd.{Cmd}
use Rattle.msrp_words.specs.declared.cli.Cmd.TheVariants.{Sim, Run, Audit, Report, Check, CheckText, Help}
use Rattle.msrp_sim.specs.declared.orders.Order.{Order}
use Rattle.msrp_sim.specs.declared.orders.Order.TheVariants.{Asc, Desc, Rot}
use Rattle.msrp_cli.specs.Arguments.{is_given, paths_of}
use Rattle.msrp_faults.specs.declared.faults.CliFault.{CliFault}
use Rattle.msrp_faults.specs.declared.faults.CliFault.TheVariants.{Usage}

-- ---- arguments, by what the parser found
-- the path of the plan; standard input if none is given
abbrev pub plan_path : List Row → Text
plan_path rows = unwrap_or (first_of (codes "PLAN") rows) (codes "-")

-- the order that a word names; rising if there is none
abbrev pub order_of : Option Text → Option Order
order_of None = Some Asc
order_of (Some word) = if bytes_eq word (codes "asc") then Some Asc else if bytes_eq word (codes "desc") then Some Desc else if bytes_eq word (codes "rot") then Some Rot else None

-- the version of a trace: the second carries aheads
abbrev pub version_of : List Row → TextVersion
version_of rows = if is_given (codes "ahead") rows then V2 else V1

-- ---- commands
-- the word of a command
abbrev pub word_of : Cmd → Text
word_of (Sim order version plan) = codes "sim"
word_of (Run version plan) = codes "run"
word_of (Audit parallel plan trace) = codes "audit"
word_of (Report plan trace) = codes "report"
word_of (Check plan) = codes "check"
word_of (CheckText plan) = codes "check"
word_of Help = codes "help"

-- the command with these arguments, its word aside; the help is found as a parser's error
abbrev pub IsTold : List Row → Cmd → Type 0
IsTold rows (Sim order version plan) = (order_of (first_of (codes "order") rows) ≡ Some order) × (version ≡ version_of rows) × (plan.now ≡ plan_path rows)
IsTold rows (Run version plan) = (version ≡ version_of rows) × (plan.now ≡ plan_path rows)
IsTold rows (Audit parallel plan trace) = (parallel ≡ is_given (codes "parallel") rows) × (paths_of rows ≡ Some (plan.now, trace.now))
IsTold rows (Report plan trace) = paths_of rows ≡ Some (plan.now, trace.now)
IsTold rows (Check plan) = (is_given (codes "text") rows ≡ false) × (plan.now ≡ plan_path rows)
IsTold rows (CheckText plan) = (is_given (codes "text") rows ≡ true) × (plan.now ≡ plan_path rows)
IsTold rows Help = ⊥

-- the command of that word with these arguments
abbrev pub IsCommand : Text → List Row → Cmd → Type 0
IsCommand word rows command = (word_of command ≡ word) × IsTold rows command

-- the requested command; usage exactly if there is none
abbrev pub IsAsked : Text → List Row → Result Cmd CliFault → Type 0
IsAsked word rows (Ok command) = IsCommand word rows command
IsAsked word rows (Err fault) = (fault ≡ Usage) × ((command : Cmd) → IsCommand word rows command → ⊥)
