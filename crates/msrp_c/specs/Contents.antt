-- What a handle holds: an auditor of rows or of a log, a run that is open or settled, or a core of
-- a run.
use Rattle.msrp_plan.specs.Common.{Option, Some, None}
use Rattle.msrp_event_audit.specs.Auditors.{AuditorModel}
use Rattle.msrp_hosted.specs.Hosted.{HostedCoreModel, HostedRunModel, SettledRunModel}
use Rattle.msrp_c.specs.declared.content.Content.{Content}
use Rattle.msrp_c.specs.declared.content.Content.TheVariants.{Auditor, Log, Open', Settled, Core}
use Rattle.msrp_c.specs.declared.held.FedAuditor.{FedAuditor}

-- an auditor of rows
abbrev pub auditor_in : Option Content → Option FedAuditor
auditor_in (Some (Auditor a)) = Some a
auditor_in _ = None

-- an auditor of a kernel's log
abbrev pub log_in : Option Content → Option AuditorModel
log_in (Some (Log a)) = Some a
log_in _ = None

-- a run that hands out its cores and joins them
abbrev pub open_in : Option Content → Option HostedRunModel
open_in (Some (Open' r spare cores)) = Some r
open_in _ = None

-- a run whose cores were all joined
abbrev pub settled_in : Option Content → Option SettledRunModel
settled_in (Some (Settled s)) = Some s
settled_in _ = None

-- a core of a run
abbrev pub core_in : Option Content → Option HostedCoreModel
core_in (Some (Core c)) = Some c
core_in _ = None
