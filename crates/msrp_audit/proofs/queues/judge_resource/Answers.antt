use Rattle.std.proofs.Common.{◌≡◌, ◌+◌, ◌<◌, ◌∙◌}
use Rattle.msrp_plan.proofs.Common.{true, length, take, ap, sym, subst, arith, is_global, is_on}
use Rattle.msrp_plan.specs.Requests.{HasTaken}
use Rattle.msrp_plan.specs.declared.rows.Row.{Row}
use Rattle.msrp_audit.specs.Inside.Pieces.{broken_reply}
use Rattle.msrp_audit.proofs.Queueing.{off_taken, off_passes, reply_passes, reply_found, too_long}
use Rattle.msrp_audit.proofs.Scanning.{one_more, passes_all, row_at}
use Rattle.msrp_audit.proofs.queues.judge_resource.Goals as goal
use Rattle.msrp_audit.proofs.queues.judge_resource.Goals.{then-names+else-queue-cores+else-not-is_reply+in_ok-take, else-names}

pub loop-index-init : goal.loop-index-init
loop-index-init c = record {
  has = c.of-requests.ensures;
  passes = record { none = λ pre r post at start low. absurd (omega (arith, low)) };
}

pub returns-then-queue-cores : goal.returns-then-queue-cores
returns-then-queue-cores c =
    let v = c.loop-index.invariant in
    let glob : is_global c.args.plan.now c.args.res.0 ≡ true = ap (λ p. is_global p c.args.res.0) (sym c.requires.levels) ∙ (sym c.is_global.ensures ∙ c.if-not-is_global.false) in
    let long = c.if-queue-cores.true in
    let cores = c.cores.ensures.value in
    too_long c.args.plan.now c.args.res c.args.rows.now c.loop-index.index c.row-row.result (c.row-row.ensures c.row-row.result) v.passes c.queue-queue.result.now glob (c.queue-queue.ensures c.args.res.0 _ v.has) c.cores.ensures.plan (omega (arith, long, cores))

pub returns-then-not-is_reply : goal.returns-then-not-is_reply
returns-then-not-is_reply c =
    let v = c.loop-index.invariant in
    let glob : is_global c.args.plan.now c.args.res.0 ≡ true = ap (λ p. is_global p c.args.res.0) (sym c.requires.levels) ∙ (sym c.is_global.ensures ∙ c.if-not-is_global.false) in
    let test = c.loop-index-test.true in
    let size = c.len-index-end.ensures in
    reply_found c.args.plan.now c.args.res c.args.rows.now c.loop-index.index c.row-row.result (c.row-row.ensures c.row-row.result) v.passes c.queue-queue.result.now glob (c.queue-queue.ensures c.args.res.0 _ v.has) c.is_reply.result
    (omega (arith, test, size)) (ap (λ (r : Row). is_on c.args.res.0 r.res) (c.row-row.ensures c.row-row.result) ∙ (sym (c.names.ensures c.row-row.result) ∙ c.if-names.true)) c.is_reply.ensures c.if-not-is_reply.true

pub loop-index-preserved : goal.loop-index-preserved
loop-index-preserved c =
    let plan = c.args.plan.now in
    let res = c.args.res in
    let rows = c.args.rows.now in
    let i = c.loop-index.index in
    let v = c.loop-index.invariant in
    let glob : is_global plan res.0 ≡ true = ap (λ p. is_global p res.0) (sym c.requires.levels) ∙ (sym c.is_global.ensures ∙ c.if-not-is_global.false) in
    let test = c.loop-index-test.true in
    let size = c.len-index-end.ensures in
    let within : i < length rows = omega (arith, test, size) in
    elim c.if-names.branch [
      | then-names+else-queue-cores+else-not-is_reply+in_ok-take w ↦
          let x = w.row-row.result in
          let at = w.row-row.ensures x in
          let more = one_more rows i x within at in
          record {
            has = subst (λ q. HasTaken q res.0 (take (i + 1) rows)) (sym w.requests-is) (subst (HasTaken w.take.new.self res.0) (sym more) (w.in_ok-take.ensures.taken res.0 (take i rows) v.has));
            passes = reply_passes plan res rows i x at v.passes w.queue-queue.result.now glob (w.queue-queue.ensures res.0 _ v.has) w.is_reply.result (ap (λ (r : Row). is_on res.0 r.res) at ∙ (sym (c.names.ensures x) ∙ w.if-names.true)) w.is_reply.ensures w.if-not-is_reply.false;
          }
      | else-names w ↦
          let some = row_at rows i within in
          let x = some.0 in
          let at = some.1 in
          let more = one_more rows i x within at in
          let off = ap (λ (r : Row). is_on res.0 r.res) at ∙ (sym (c.names.ensures x) ∙ w.if-names.false) in
          record {
            has = subst (λ q. HasTaken q res.0 (take (i + 1) rows)) (sym w.requests-is) (subst (HasTaken c.loop-index.requests res.0) (sym more) (off_taken c.loop-index.requests res.0 (take i rows) x off v.has));
            passes = off_passes plan res rows i x at v.passes off;
          }
    ]

pub returns : goal.returns
returns c =
    let past = c.loop-index-test.false in
    let size = c.len-index-end.ensures in
    passes_all c.args.plan.now (broken_reply c.args.plan.now c.args.res.0) c.args.rows.now c.loop-index.index (omega (arith, past, size)) c.loop-index.invariant.passes
