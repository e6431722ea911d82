-- What a clause says of a source and of a sink, and which text a sink has left in its writer.
use Rattle.std.specs.Prelude.{◌≡◌, ℕ, Bool, true, false, ◌||◌, not, nat_le, List, [], ◌++◌, Option, Some, Result, IsErr, OnErr, OnOk}
use Rattle.std.specs.Io.KnownBytes.{Appends}
use Rattle.msrp_plan.specs.Limits.{most_bytes, most_calls}
use Rattle.msrp_plan.specs.declared.bytes.Source.{Source}
use Rattle.msrp_plan.specs.declared.bytes.SourceState.{SourceState}
use Rattle.msrp_plan.specs.declared.bytes.SourceState.TheVariants.{Ended, Failed}
use Rattle.msrp_plan.specs.declared.bytes.Sink.{Sink}

-- the state of a source that has failed
abbrev pub is_failed : SourceState → Bool
is_failed Failed = true
is_failed _ = false

-- the state of a source that has met the end
abbrev pub is_ended : SourceState → Bool
is_ended Ended = true
is_ended _ = false

-- nothing is left after the end; before it, what the reader has left, if that is known
abbrev pub left_at : SourceState → Option (List ℕ) → Option (List ℕ)
left_at Ended known = Some []
left_at _ known = known

-- the reader under a source
abbrev pub source_inner : {R : Type 0} → Source R → R
source_inner s = s.inner

-- a read of the source failed, as each later one does
abbrev pub source_failed : {R : Type 0} → Source R → Bool
source_failed s = is_failed s.state

-- a read of the source met the end, as each later one does
abbrev pub source_ended : {R : Type 0} → Source R → Bool
source_ended s = is_ended s.state

-- no read of the source failed or met the end
abbrev pub is_open : {R : Type 0} → Source R → Bool
is_open s = not (source_failed s || source_ended s)

-- a read fails exactly if the source has failed after it, and then each later read does, unchanged
pub record FailsForGood {R E : Type 0} (old new : Source R) (result : Result ℕ E) : Type 0 where
  pub fault : OnErr result (source_failed new ≡ true)
  pub good : OnOk result (source_failed new ≡ false)
  pub failed : source_failed old ≡ true → IsErr result × (new ≡ old)

-- how many bytes the source has given
abbrev pub source_given : {R : Type 0} → Source R → ℕ
source_given s = s.given

-- how often it asked its reader
abbrev pub source_calls : {R : Type 0} → Source R → ℕ
source_calls s = s.calls

-- the source has given as many bytes as it may, or asked as often
abbrev pub is_spent : {R : Type 0} → Source R → Bool
is_spent s = nat_le most_bytes s.given || nat_le most_calls s.calls

-- the bytes that a source has left, if what its reader has left is known
abbrev pub source_remaining : {R : Type 0} → (R → Option (List ℕ)) → Source R → Option (List ℕ)
source_remaining remaining s = left_at s.state (remaining s.inner)

-- the writer under a sink
abbrev pub sink_inner : {W : Type 0} → Sink W → W
sink_inner s = s.inner

-- a write to the sink failed, as each later one does
abbrev pub sink_failed : {W : Type 0} → Sink W → Bool
sink_failed s = s.failed

-- known bytes grow by the first part of a text
abbrev pub AppendsPrefix : Option (List ℕ) → Option (List ℕ) → List ℕ → Type 0
AppendsPrefix old new text = (part : List ℕ) × (rest : List ℕ) × (text ≡ part ++ rest) × Appends old new part

-- a sink took a text whole, or failed and took its first part; one that had failed took nothing
pub record Wrote {W : Type 0} (contents : W → Option (List ℕ)) (old new : Sink W) (text : List ℕ) : Type 0 where
  pub stays : sink_failed old ≡ true → new ≡ old
  pub whole : sink_failed new ≡ false → (sink_failed old ≡ false) × Appends (contents (sink_inner old)) (contents (sink_inner new)) text
  pub part : sink_failed old ≡ false → sink_failed new ≡ true → AppendsPrefix (contents (sink_inner old)) (contents (sink_inner new)) text

-- a sink took some text whole, or failed and took its first part; one that had failed took nothing
abbrev pub WroteSome : {W : Type 0} → (W → Option (List ℕ)) → Sink W → Sink W → Type 0
WroteSome {W} contents old new = (text : List ℕ) × Wrote contents old new text
