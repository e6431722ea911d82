use Rattle.std.proofs.Common.{◌≡◌, ◌∙◌}
use Rattle.msrp_plan.proofs.Common.{ℕ, Option, Some, option_map, true, ap, sym, has_shape, may_carry}
use Rattle.msrp_plan.specs.declared.ids.JobId.{JobId}
use Rattle.msrp_plan.specs.declared.ids.ResId.{ResId}
use Rattle.msrp_plan.specs.declared.rows.Kind.{Kind}
use Rattle.msrp_trace.specs.Rows.{row_with}
use Rattle.msrp_trace.proofs.Fields.{row_is}
use Rattle.msrp_c.specs.Turns.{job_numbered, numbered, shaped_row}
use Rattle.msrp_c.specs.declared.turns.MsrpRow.{MsrpRow}
use Rattle.msrp_c.proofs.turns.shaped_row.Goals as goal

shown : (turn : MsrpRow) (kind : Kind) (job : Option JobId) (told : Option (Option JobId)) (res : Option ResId) (ahead : Option ℕ) (s : has_shape kind job res ≡ true) (c : may_carry kind ahead ≡ true)
    → told ≡ Some job → res ≡ option_map (λ g. record { 0 = g }) (numbered turn.resource) → ahead ≡ numbered turn.ahead
    → Some (record { tick = turn.tick; core = record { 0 = turn.core }; kind = kind; job = job; res = res; ahead = ahead; shape = s; carrier = c }) ≡ shaped_row turn kind told
shown turn kind job told res ahead s c j g a =
    sym (row_is (record { tick = turn.tick; core = record { 0 = turn.core }; kind = kind; job = job; res = res; ahead = ahead; shape = s; carrier = c }))
    ∙ (ap (λ x. row_with turn.tick turn.core kind job x ahead) g ∙ (ap (λ x. row_with turn.tick turn.core kind job (option_map (λ n. record { 0 = n }) (numbered turn.resource)) x) a ∙ ap (shaped_row turn kind) (sym j)))

pub returns : goal.returns
returns c =
    let turn = c.args.turn.now in
    let job : job_numbered (numbered turn.task) (numbered turn.job) ≡ Some c.in-Some.job =
    ap (λ x. job_numbered x (numbered turn.job)) (sym c.numbered.ensures) ∙ (ap (λ x. job_numbered c.numbered.result x) (sym c.numbered-2.ensures) ∙ (sym c.job_numbered.ensures ∙ c.in-Some.is)) in
    shown turn c.args.kind c.in-Some.job _ c.res_numbered-res.result c.numbered-ahead.result _ _ job (c.res_numbered-res.ensures ∙ ap (option_map (λ g. record { 0 = g })) c.numbered-3.ensures) c.numbered-ahead.ensures
