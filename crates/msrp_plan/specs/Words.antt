-- The words for kinds of rows, rules and verdicts in texts.
use Rattle.std.specs.Prelude.{ℕ, List, ◌++◌, Ok, Err, codes, decimal, ⊤}
use Rattle.std.specs.declared.result.Result.{Result}
use Rattle.msrp_plan.specs.declared.faults.Fault.{Fault}
use Rattle.msrp_plan.specs.declared.faults.Rule.{Rule}
use Rattle.msrp_plan.specs.declared.faults.Rule.TheVariants.{A1, A2, A3, A4, A5, A6, A7}
use Rattle.msrp_plan.specs.declared.rows.Kind.{Kind}
use Rattle.msrp_plan.specs.declared.rows.Kind.TheVariants.{Idle, Run, Lock, Unlock, Take, Queue, Spin, Grant, Release}

-- the word for a kind of row
unfoldable pub kind_text : Kind → List ℕ
kind_text Idle = codes "idle"
kind_text Run = codes "run"
kind_text Lock = codes "lock"
kind_text Unlock = codes "unlock"
kind_text Take = codes "take"
kind_text Queue = codes "queue"
kind_text Spin = codes "spin"
kind_text Grant = codes "grant"
kind_text Release = codes "release"

-- the code of a rule
unfoldable pub rule_text : Rule → List ℕ
rule_text A1 = codes "A1"
rule_text A2 = codes "A2"
rule_text A3 = codes "A3"
rule_text A4 = codes "A4"
rule_text A5 = codes "A5"
rule_text A6 = codes "A6"
rule_text A7 = codes "A7"

-- the line of a verdict: of a good trace, or of the first row that violates a rule
abbrev pub verdict_text : Result ⊤ Fault → List ℕ
verdict_text (Ok good) = codes "good\n"
verdict_text (Err fault) = codes "fault," ++ decimal fault.row ++ codes "," ++ rule_text fault.rule ++ codes "\n"
