-- The program's arguments as they are declared to the parser, and the answers to them.
use Rattle.std.specs.Prelude.{◌≡◌, ◌∷◌}
use Rattle.msrp_plan.specs.Common.{false, List, [], Option, Some, None, codes, IsOkAnd, Result}
use Rattle.clap.specs.Words.{App, IsAmong, Kinds, Row, Rule, Text, app_of, new_app, new_rule, rule_of, with_rule, with_subcommand}
use Rattle.clap.specs.declared.builder.arg.Arg.{Arg}
use Rattle.clap.specs.declared.builder.command.Command.{Command}
use Rattle.clap.specs.declared.error.kind.ErrorKind.{ErrorKind}
use Rattle.msrp_words.specs.Words.{IsAsked, IsCommand}
use Rattle.msrp_words.specs.declared.cli.Cmd.{Cmd}
use Rattle.msrp_words.specs.declared.cli.Cmd.TheVariants.{Help}
use Rattle.msrp_cli.specs.Arguments.{fault_of_words, flag, help_unless, valued, wanted}
use Rattle.msrp_faults.specs.declared.faults.CliFault.{CliFault}

-- ---- arguments
-- the path of a plan, which is optional
abbrev pub plan : Rule
plan = new_rule (codes "PLAN")

-- the order of the cores, and whether rows carry aheads
abbrev pub order : Rule
order = valued (codes "order")

abbrev pub ahead : Rule
ahead = flag (codes "ahead")

-- ---- commands
abbrev pub sim : App
sim = with_rule (with_rule (with_rule (new_app (codes "sim")) order) ahead) plan

abbrev pub run : App
run = with_rule (with_rule (new_app (codes "run")) ahead) plan

abbrev pub check : App
check = with_rule (with_rule (new_app (codes "check")) (flag (codes "text"))) plan

-- a command that judges a trace of a plan
abbrev pub judge : Text → App
judge name = with_rule (with_rule (new_app name) (wanted (codes "PLAN"))) (wanted (codes "TRACE"))

abbrev pub audit : App
audit = with_rule (judge (codes "audit")) (flag (codes "parallel"))

-- those that make traces, and those that judge them
abbrev pub with_runs : App → App
with_runs words = with_subcommand (with_subcommand words sim.top) run.top

-- with the commands that judge traces
abbrev pub with_judges : App → App
with_judges words = with_subcommand (with_subcommand words audit.top) (judge (codes "report")).top

-- all of them
unfoldable pub grammar : App
grammar = with_subcommand (with_judges (with_runs (new_app (codes "msrp")))) check.top

-- the parser has this grammar
abbrev pub Takes : App → Command → Type 0
Takes words command = app_of command ≡ words

-- the parser has this argument, which only its command takes
abbrev pub Declares : Rule → Arg → Type 0
Declares rule arg = (rule_of arg ≡ rule) × (arg.global ≡ false)

-- ---- answers
-- the answer to a parser's error; a request for help isn't a fault
abbrev pub answer_to : ErrorKind → Result Cmd CliFault
answer_to kind = help_unless Help (fault_of_words kind)

-- without a command the arguments ask for `sim` with nothing after it, the simulation of standard
-- input; otherwise for their command, or for something that it doesn't take
abbrev pub IsChosen : Option (Text × List Row) → Result Cmd CliFault → Type 0
IsChosen None result = IsOkAnd result (IsCommand (codes "sim") [])
IsChosen (Some given) result = IsAsked given.0 given.1 result

-- the answer if the parser has these kinds of fault; otherwise this command with its arguments
abbrev pub IsAnswered : Kinds → Option (Text × List Row) → Result Cmd CliFault → Type 0
IsAnswered [] given result = IsChosen given result
IsAnswered (k ∷ kinds) given result = (j : ErrorKind) × IsAmong j (k ∷ kinds) × (result ≡ answer_to j)
