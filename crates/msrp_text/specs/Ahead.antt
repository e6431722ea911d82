-- The unread bytes of a text, some of which were read ahead.
use Rattle.std.specs.Prelude.{◌-◌}
use Rattle.msrp_plan.specs.Common.{ℕ, Bool, List, Option, drop, take}
use Rattle.std.specs.Option.{is_some}
use Rattle.std.specs.Io.KnownBytes.{prepend_known}
use Rattle.msrp_text.specs.declared.lines.Lines.{Lines}

-- the bytes read ahead
abbrev pub lines_ahead : {R : Type 0} → Lines R → List ℕ
lines_ahead lines = drop lines.at (take lines.end lines.buffer)

-- the unread bytes: those read ahead, then the rest of the reader underneath, if that is known
abbrev pub unread : {R : Type 0} → (R → Option (List ℕ)) → Lines R → Option (List ℕ)
unread remaining lines = prepend_known (lines_ahead lines) (remaining lines.source)

-- the number of bytes read ahead
abbrev pub buffered : {R : Type 0} → Lines R → ℕ
buffered lines = lines.end - lines.at

-- a read ahead has failed
abbrev pub has_failed : {R : Type 0} → Lines R → Bool
has_failed lines = is_some lines.failed
