-- The verdict on a window of a log, with the numbers that its records have in the whole log.
use Rattle.std.specs.Prelude.{◌+◌}
use Rattle.msrp_plan.specs.Common.{ℕ, Result, Ok, Err}
use Rattle.msrp_event_text.specs.declared.verdicts.LogVerdict.{LogVerdict}
use Rattle.msrp_event_text.specs.declared.verdicts.LogVerdict.TheVariants.{Good, Fault, Unconfirmed, Incomplete}
use Rattle.msrp_event_text.specs.declared.verdicts.LogError.{LogError}
use Rattle.msrp_event_text.specs.declared.verdicts.LogError.TheVariants.{Record}

-- the verdict names a record that has so many more before it
abbrev pub later_verdict : ℕ → LogVerdict → LogVerdict
later_verdict more Good = Good
later_verdict more (Fault rule number) = Fault rule (number + more)
later_verdict more (Unconfirmed rule number) = Unconfirmed rule (number + more)
later_verdict more (Incomplete missing number) = Incomplete missing (number + more)

abbrev pub later_error : ℕ → LogError → LogError
later_error more (Record refusal number) = Record refusal (number + more)
later_error more error = error

abbrev pub later : ℕ → Result LogVerdict LogError → Result LogVerdict LogError
later more (Ok verdict) = Ok (later_verdict more verdict)
later more (Err error) = Err (later_error more error)
