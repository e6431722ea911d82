-- The calls that a core makes of global resources: what it holds or awaits after them, in which
-- order it may make them, and the rows that they make. The oldest call is first.
use Rattle.std.specs.Prelude.{ℕ, zero, suc, List, [], ◌∷◌, true, false, Option, Some, None, fold, ◌≡◌, ⊤}
use Rattle.msrp_plan.specs.declared.ids.ResId.{ResId}
use Rattle.msrp_plan.specs.declared.units.Call.{Call}
use Rattle.msrp_plan.specs.declared.units.Call.TheVariants.{Ask, Poll, Leave}
use Rattle.msrp_plan.specs.declared.units.Phase.{Phase}
use Rattle.msrp_plan.specs.declared.units.Phase.TheVariants.{Free, Queued, Holding}
use Rattle.msrp_plan.specs.declared.rows.Kind.{Kind}
use Rattle.msrp_plan.specs.declared.rows.Kind.TheVariants.{Take, Queue, Grant, Spin, Release}

-- a call with its answer, and the resource that it is of
abbrev pub ResCall : Type 0
ResCall = ResId × Call

-- what a core holds or awaits after one more call: a request with none ahead is granted at once,
-- any other waits; a poll answered yes is granted; a release frees
abbrev pub claim_with : Phase → ResId → Call → Phase
claim_with claim g (Ask zero) = Holding g
claim_with claim g (Ask (suc n)) = Queued g
claim_with claim g (Poll true) = Holding g
claim_with claim g (Poll false) = claim
claim_with claim g Leave = Free

-- what a core holds or awaits after these calls: at most one resource
abbrev pub claim_after : List ResCall → Phase
claim_after calls = fold (λ claim s. claim_with claim s.0 s.1) Free calls

-- the call is allowed: a free core requests, a waiting one polls, a holder releases
abbrev pub IsDueCall : Phase → ResId → Call → Type 0
IsDueCall claim g (Ask n) = claim ≡ Free
IsDueCall claim g (Poll granted) = claim ≡ Queued g
IsDueCall claim g Leave = claim ≡ Holding g

-- each call was allowed when it was made
abbrev pub IsRegularFrom : Phase → List ResCall → Type 0
IsRegularFrom claim [] = ⊤
IsRegularFrom claim (s ∷ calls) = IsDueCall claim s.0 s.1 × IsRegularFrom (claim_with claim s.0 s.1) calls

-- each call was allowed, from a core that holds and awaits nothing
abbrev pub IsRegular : List ResCall → Type 0
IsRegular calls = IsRegularFrom Free calls

-- the kind of the row that a call makes
abbrev pub kind_of_call : Call → Kind
kind_of_call (Ask zero) = Take
kind_of_call (Ask (suc n)) = Queue
kind_of_call (Poll true) = Grant
kind_of_call (Poll false) = Spin
kind_of_call Leave = Release

-- the ahead of a call's queue row: how many were ahead of the request
abbrev pub ahead_of_call : Call → Option ℕ
ahead_of_call (Ask zero) = None
ahead_of_call (Ask (suc n)) = Some (suc n)
ahead_of_call (Poll granted) = None
ahead_of_call Leave = None
