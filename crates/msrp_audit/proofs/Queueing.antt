-- What the rows on one resource tell of its queue, and whether they have its reply.
use Rattle.std.proofs.Common.{◌≡◌, ◌+◌, ◌<◌, ◌&&◌, ◌∷◌, ◌++◌, ◌∙◌}
use Rattle.msrp_plan.proofs.Common.{ℕ, eqb-true, Bool, true, false, cond, List, [], Option, Some, None, refl, ap, sym, arith, length, take, append-nil, get_or, filter_map, cons_option, and-false, sum_by_push, filter_map-append, PlanModel, is_global, is_on, is_request, is_release, requester, is_release_of, fifo, is_reply_of, IsRunStart, is_fifo_reply, replies_on, IsPlan}
use Rattle.std.specs.List.{count_by}
use Rattle.msrp_plan.specs.Requests.{HasTaken}
use Rattle.msrp_plan.specs.declared.faults.Rule.TheVariants.{A5}
use Rattle.msrp_plan.specs.declared.ids.JobId.{JobId}
use Rattle.msrp_plan.specs.declared.ids.ResId.{ResId}
use Rattle.msrp_plan.specs.declared.requests.Requests.{Requests}
use Rattle.msrp_plan.specs.declared.rows.Row.{Row}
use Rattle.msrp_plan.proofs.Queues.QueueLocks.{global_named}
use Rattle.msrp_plan.proofs.Queues.QueueMembers.{queue_at, queue_short}
use Rattle.msrp_audit.specs.Inside.Pieces.{broken_reply, TellsFirst}
use Rattle.msrp_audit.specs.declared.pieces.Piece.TheVariants.{Resource}
use Rattle.msrp_audit.proofs.Scanning.{PassesTo, passes_more, ends_at, finds_at}
use Rattle.msrp_audit.proofs.Merging.{sound}

-- a row that is not on the resource neither requests nor releases it
pub off_taken : (kept : Requests) (g : ℕ) (rows : List Row) (r : Row) → is_on g r.res ≡ false → HasTaken kept g rows → HasTaken kept g (rows ++ r ∷ [])
off_taken kept g rows r off has =
    let asked = filter_map-append (requester g) rows (r ∷ []) ∙ (ap (λ c. filter_map (requester g) rows ++ cons_option (cond (c && is_request r.kind) r.job None) []) off ∙ append-nil (filter_map (requester g) rows)) in
    let left : count_by (is_release_of g) (rows ++ r ∷ []) ≡ count_by (is_release_of g) rows + 0 = sum_by_push (λ w. cond (is_release_of g w) 1 0) rows r ∙ ap (λ c. count_by (is_release_of g) rows + cond (c && is_release r.kind) 1 0) off in
    let kept_releases = has.releases in
    record { resource = has.resource; jobs = has.jobs ∙ sym asked; releases = omega (arith, left, kept_releases) }

module _ (plan : PlanModel) (res : ResId) (rows : List Row) (i : ℕ) (x : Row) (at : x ≡ get_or rows i x) (passes : PassesTo plan (broken_reply plan res.0) rows i) where
  -- a row that is not on it
  pub off_passes : is_on res.0 x.res ≡ false → PassesTo plan (broken_reply plan res.0) rows (i + 1)
  off_passes off = passes_more plan (broken_reply plan res.0) rows i x passes at
      (λ start. ap (λ b. cond (is_global plan res.0 && b) (cond (is_fifo_reply (take i rows) x) None (Some A5)) None) off ∙ ap (λ b. cond b (cond (is_fifo_reply (take i rows) x) None (Some A5)) None) (and-false (is_global plan res.0)))

  -- one that is
  on_some : (o : Option ResId) → is_on res.0 o ≡ true → o ≡ Some res
  on_some None h = absurd (cc)
  on_some (Some own) h = let mk : ℕ → Option ResId = λ n. Some (record { 0 = n }) in ap mk (eqb-true own.0 res.0 h)

  module _ (queue : List JobId) (glob : is_global plan res.0 ≡ true) (is : queue ≡ fifo res.0 (take i rows)) where
    -- it breaks the rule where it has not the reply of the queue
    test_is : (b : Bool) → is_on res.0 x.res ≡ true → b ≡ is_reply_of queue x → broken_reply plan res.0 (take i rows) x ≡ cond b None (Some A5)
    test_is b on reply =
        let same : is_fifo_reply (take i rows) x ≡ b = ap (λ o. replies_on (take i rows) o x) (on_some x.res on) ∙ sym (reply ∙ ap (λ q. is_reply_of q x) is) in
        rw (glob, on, same) refl

    pub reply_passes : (b : Bool) → is_on res.0 x.res ≡ true → b ≡ is_reply_of queue x → b ≡ true → PassesTo plan (broken_reply plan res.0) rows (i + 1)
    reply_passes b on reply right = passes_more plan (broken_reply plan res.0) rows i x passes at (λ start. test_is b on reply ∙ ap (λ c. cond c None (Some A5)) right)

    pub reply_found : (b : Bool) → i < length rows → is_on res.0 x.res ≡ true → b ≡ is_reply_of queue x → b ≡ false → TellsFirst plan (broken_reply plan res.0) rows (Some (record { row = i + 1; rule = A5 }))
    reply_found b within on reply wrong = finds_at plan (broken_reply plan res.0) rows i x A5 (sound plan (Resource res)) within passes at (λ start. test_is b on reply ∙ ap (λ c. cond c None (Some A5)) wrong)

    -- a queue of more jobs than cores
    pub too_long : IsPlan plan → plan.cores < length queue → TellsFirst plan (broken_reply plan res.0) rows None
    too_long ok long =
        let bad : IsRunStart plan (take i rows) → ⊥ = λ start.
        let short = queue_short plan res.0 (take i rows) (queue_at plan res.0 (take i rows) ok glob (global_named plan res.0 ok glob) start.each) in
        let size = ap length is in
        omega (arith, short, size, long) in
        ends_at plan (broken_reply plan res.0) rows i x passes at (λ start. absurd (bad start)) (λ start legal. bad start)
