-- The arguments of a command line, and what the parser found for them.
use Rattle.msrp_plan.specs.Common.{Bool, true, false, List, Option, Some, None, codes, find, Ok, Err, bytes_eq}
use Rattle.std.specs.Prelude.{◌&&◌, if◌then◌else◌, option_and_then, Result}
use Rattle.clap.specs.Words.{Row, Rule, Text, first_of, new_rule}
use Rattle.clap.specs.declared.builder.action.ArgAction.TheVariants.{SetTrue}
use Rattle.clap.specs.declared.error.kind.ErrorKind.{ErrorKind}
use Rattle.clap.specs.declared.error.kind.ErrorKind.TheVariants.{DisplayHelp, OutOfMemory}
use Rattle.clap.specs.declared.parser.matches.ValueSource.{ValueSource}
use Rattle.clap.specs.declared.parser.matches.ValueSource.TheVariants.{CommandLine}
use Rattle.msrp_faults.specs.declared.faults.CliFault.{CliFault}
use Rattle.msrp_faults.specs.declared.faults.CliFault.TheVariants.{Memory, Usage}

-- ---- as they are declared to the parser
-- a flag
abbrev pub flag : Text → Rule
flag name = record (new_rule name) { long = Some name; action = Some SetTrue }

-- one with a value, which the help names
abbrev pub valued : Text → Rule
valued name = record (new_rule name) { long = Some name; value_names = 1 }

-- a required path
abbrev pub wanted : Text → Rule
wanted name = record (new_rule name) { required = true }

-- ---- by what the parser found
-- where an argument's value comes from: the command line, or a default
abbrev pub source_of : Text → List Row → Option ValueSource
source_of id rows = option_and_then (λ row. row.source) (find (λ row. bytes_eq row.id id) rows)

-- the value was given on the command line
abbrev pub is_from_words : Option ValueSource → Bool
is_from_words (Some CommandLine) = true
is_from_words _ = false

-- an argument is given
abbrev pub is_given : Text → List Row → Bool
is_given id rows = is_from_words (source_of id rows)

-- the paths of a plan and a trace, unless both are standard input
abbrev pub both_of : Option Text → Option Text → Option (Text × Text)
both_of (Some plan) (Some trace) = if bytes_eq plan (codes "-") && bytes_eq trace (codes "-") then None else Some (plan, trace)
both_of _ _ = None

-- the paths of the plan and the trace that were found
abbrev pub paths_of : List Row → Option (Text × Text)
paths_of rows = both_of (first_of (codes "PLAN") rows) (first_of (codes "TRACE") rows)

-- ---- faults of the arguments
-- memory for lack of memory, otherwise usage; the help is no fault
abbrev pub fault_of_words : ErrorKind → Option CliFault
fault_of_words DisplayHelp = None
fault_of_words OutOfMemory = Some Memory
fault_of_words _ = Some Usage

-- the answer to arguments that are no command: the help, unless they have a fault
abbrev pub help_unless : {C : Type 0} → C → Option CliFault → Result C CliFault
help_unless help None = Ok help
help_unless help (Some fault) = Err fault
