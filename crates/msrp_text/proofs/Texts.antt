-- Texts in UTF-8.
use Rattle.std.proofs.Common.{◌≡◌}
use Rattle.msrp_plan.proofs.Common.{ℕ, Bool, true, false, List, [], refl}
use Rattle.std.specs.Str.{is_utf8}
use Rattle.std.specs.Str.{IsUtf8}
use Rattle.std.proofs.lemmas.Str.{IsUtf8-from_is_utf8, is_utf8-from_IsUtf8}
use Rattle.msrp_text.specs.Fields.{text_of}

pub text-kept : (bytes : List ℕ) → IsUtf8 bytes → text_of bytes ≡ bytes
text-kept bytes u = rw (is_utf8-from_IsUtf8 bytes u) refl

empty-unless : (bytes : List ℕ) (test : Bool) → is_utf8 bytes ≡ test → ¬ (IsUtf8 bytes) → text_of bytes ≡ []
empty-unless bytes true e u = absurd (u (IsUtf8-from_is_utf8 bytes e))
empty-unless bytes false e u = rw e refl

pub text-empty : (bytes : List ℕ) → ¬ (IsUtf8 bytes) → text_of bytes ≡ []
text-empty bytes u = empty-unless bytes (is_utf8 bytes) refl u
