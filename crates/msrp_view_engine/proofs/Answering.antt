-- What holds of what was made holds of what is answered to it.
use Rattle.std.proofs.Common.{◌≡◌}
use Rattle.msrp_plan.proofs.Common.{Result, Ok, Err, inl, inr, some-nothing, wrote-some}
use Rattle.msrp_view_engine.proofs.Common.{CliFault, Memory, OrUnread, Read}

-- where a read failed or memory was refused, that is the answer
pub or-unread : {A B : Type 0} (made : Result A CliFault) (answer : Result B CliFault) (P Q : Type 0) → OrUnread made P → ((fault : CliFault) → made ≡ Err fault → answer ≡ Err fault) → (P → Q) → OrUnread answer Q
or-unread made answer P Q h same f = elim h [
  | inl e ↦ inl (same Read e)
  | inr k ↦ elim k [ inl e ↦ inr (inl (same Memory e)) | inr p ↦ inr (inr (f p)) ]
]

-- an error that was passed on is the answer
pub err-unread : {A B : Type 0} (fault : CliFault) (answer : Result B CliFault) (P Q : Type 0) → OrUnread {A = A} (Err fault) P → answer ≡ Err fault → (P → Q) → OrUnread answer Q
err-unread fault answer P Q h gives f = or-unread (Err fault) answer P Q h (λ other e. let same : fault ≡ other = cc in rw (← same) gives) f

-- what was made is no error
pub ok-unread : {A B : Type 0} (made : A) (answer : Result B CliFault) (P Q : Type 0) → OrUnread (Ok made) P → (P → Q) → OrUnread answer Q
ok-unread made answer P Q h f = or-unread (Ok made) answer P Q h (λ fault e. absurd (cc)) f

-- what was written
pub ruleset writes = (some-nothing, wrote-some)
