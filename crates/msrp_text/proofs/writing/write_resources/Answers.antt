use Rattle.msrp_plan.proofs.Common.{[], map, sym, arith, get_or_from_slice_get, wrote-nothing}
use Rattle.msrp_text.specs.PlanText.{records_text, resource_record}
use Rattle.msrp_text.proofs.Written.{wrote-all, wrote-one}
use Rattle.msrp_text.proofs.writing.write_resources.Goals as goal

pub loop-res-init : goal.loop-res-init
loop-res-init g c = wrote-nothing _ _

pub loop-res-preserved : goal.loop-res-preserved
loop-res-preserved g c =
    let named = sym (get_or_from_slice_get c.args.plan.now.resources c.loop-res.res c.res_name.result.now [] c.res_name.ensures) in
    wrote-one _ _ _ _ resource_record c.args.plan.now.resources c.loop-res.res [] (omega (arith, c.resources-res-end.ensures.value)) c.loop-res.invariant (rw named at c.write_name.ensures)

pub returns : goal.returns
returns g c = wrote-all _ _ _ (λ names. records_text (map resource_record names)) c.args.plan.now.resources c.loop-res.res (omega (arith, c.resources-res-end.ensures.value)) c.loop-res.invariant
