-- A run on the caller's threads: what its calls hand out, join and report.
use Rattle.std.specs.Prelude.{◌≡◌, ◌⊎◌, ◌<◌, ◌+◌, ◌++◌, ◌∷◌}
use Rattle.msrp_plan.specs.Common.{ℕ, List, [], Option, Some, None, length, IfSome, IsSomeAnd, log_of, IsRun, PlanModel, Result, Ok, Err}
use Rattle.msrp_engine.specs.declared.made.Made.{Made}
use Rattle.msrp_faults.specs.declared.faults.CliFault.{CliFault}
use Rattle.msrp_faults.specs.declared.faults.CliFault.TheVariants.{Memory, Usage}
use Rattle.msrp_plan.specs.Laws.{KeepsLaws}
use Rattle.msrp_plan.specs.declared.rows.Row.{Row}
use Rattle.msrp_plan.specs.declared.rows.TextVersion.{TextVersion}
use Rattle.msrp_hosted.specs.Hosted.{CanJoin, HostedCoreModel, HostedRunModel, IsOfRun, SettledRunModel, turns_at}
use Rattle.msrp_hosted.specs.declared.steps.CoreStep.TheVariants.{Waiting, InTurn}
use Rattle.msrp_merge.specs.Turns.{rows_of}
use Rattle.msrp_merge.specs.declared.logs.Turn.{Turn}
use Rattle.msrp_trace.specs.TraceText.{trace_text}
use Rattle.msrp_c.specs.Answers.{Hands}
use Rattle.msrp_c.specs.Contents.{core_in, open_in, settled_in}
use Rattle.msrp_c.specs.RowNumbers.{numbers_of_row, place_number}
use Rattle.msrp_c.specs.declared.answers.MsrpFound.{MsrpFound}
use Rattle.msrp_c.specs.declared.content.Content.{Content}
use Rattle.msrp_c.specs.declared.turns.MsrpRow.{MsrpRow}

-- it holds a run of the plan, of which no core was handed out
pub record IsNewRun (plan : PlanModel) (run : HostedRunModel) : Type 0 where
  pub plan_is : run.plan ≡ plan
  pub handed : run.handed ≡ 0
  pub joined : run.joined ≡ []

-- the handle holds a new run of the plan
abbrev pub HoldsNewRun : PlanModel → Option Content → Type 0
HoldsNewRun plan held = IsSomeAnd (open_in held) (IsNewRun plan)

-- one more core was handed out
abbrev pub one_more_out : HostedRunModel → HostedRunModel
one_more_out run = record run { handed = run.handed + 1 }

-- a core was joined: its turns are added after the other cores'
abbrev pub with_joined : HostedRunModel → HostedCoreModel → HostedRunModel
with_joined run core = record run { joined = run.joined ++ core.turns ∷ [] }

-- a core that waited is in this turn, and the numbers are the turn's
pub record TakesTurn (old : HostedCoreModel) (new : Option HostedCoreModel) (row : MsrpRow) (place : ℕ) : Type 0 where
  pub waited : old.step ≡ Waiting
  pub turn : Turn
  pub new_is : new ≡ Some (record old { turns = old.turns ++ turn ∷ []; step = InTurn })
  pub row_is : row ≡ numbers_of_row turn.row
  pub place_is : place ≡ place_number turn.place

-- ---- joining
-- where both handles hold what their names say, the core is one of the run's
abbrev pub AreOfOneRun : Option Content → Option Content → Type 0
AreOfOneRun run core = IfSome (open_in run) (λ r. IfSome (core_in core) (IsOfRun r))

-- the core is the next to be joined, and has ended
abbrev pub MayJoin : Option Content → Option Content → Type 0
MayJoin run core = IsSomeAnd (open_in run) (λ r. IsSomeAnd (core_in core) (CanJoin r))

-- the core was the next to be joined, and is joined
abbrev pub Joins : Option Content → Option Content → Option Content → Type 0
Joins old core new = IsSomeAnd (open_in old) (λ r. IsSomeAnd (core_in core) (λ c. CanJoin r c × (open_in new ≡ Some (with_joined r c))))

-- ---- the text
-- the run is settled with the turns of its cores, one list for each core of the plan
pub record IsSettledBy (run : HostedRunModel) (settled : SettledRunModel) : Type 0 where
  pub all_out : run.handed ≡ run.plan.cores
  pub all_joined : length run.joined ≡ run.plan.cores
  pub settled_is : settled ≡ record { plan = run.plan; turns = run.joined }

-- an open run is settled, or still open; anything else is as before
abbrev pub Settles : Option Content → Option Content → Type 0
Settles old new = IfSome (open_in old) (λ r. IsSomeAnd (settled_in new) (IsSettledBy r) ⊎ (open_in new ≡ Some r)) × (open_in old ≡ None → new ≡ old)

-- the text of a trace of the plan's run, in which the rows of each core are those of its turns
pub record TellsRun (version : TextVersion) (run : SettledRunModel) (text : List ℕ) : Type 0 where
  pub rows : List Row
  pub text_is : text ≡ trace_text version run.plan rows
  pub legal : IsRun run.plan rows
  pub laws : KeepsLaws run.plan rows
  pub of_cores : (c : ℕ) → c < run.plan.cores → log_of c rows ≡ rows_of (turns_at run.turns c)

-- the text of a settled run in a version that is named, if memory isn't refused; else wrong use
abbrev pub IsTold : Option SettledRunModel → Option TextVersion → Result Made CliFault → Type 0
IsTold None version made = made ≡ Err Usage
IsTold (Some run) None made = made ≡ Err Usage
IsTold (Some run) (Some version) (Ok made) = TellsRun version run made.text.items × (made.found ≡ Ok tt)
IsTold (Some run) (Some version) (Err fault) = fault ≡ Memory

-- such a text is handed over, or there is none
pub record TellsText (run : Option SettledRunModel) (version : Option TextVersion) (old new : List ℕ) (needed status : ℕ) : Type 0 where
  pub made : Result Made CliFault
  pub is : IsTold run version made
  pub found : MsrpFound
  pub hands : Hands made old new needed found status
