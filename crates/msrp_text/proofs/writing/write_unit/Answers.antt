use Rattle.std.proofs.Common.{◌∷◌}
use Rattle.msrp_plan.proofs.Common.{[], sym, append-nil, get_or_from_slice_get, wrote-more}
use Rattle.msrp_plan.specs.declared.units.Step.TheVariants.{Lock, Unlock}
use Rattle.msrp_text.specs.Writing.{run_steps}
use Rattle.msrp_text.proofs.Written.{steps_join, wrote-as}
use Rattle.msrp_text.proofs.writing.write_unit.Goals as goal

pub returns-in-Lock-clause-text : goal.returns-in-Lock-clause-text
returns-in-Lock-clause-text g c =
    let plan = c.args.plan.now in
    let res = c.in-Lock.res in
    let named = sym (get_or_from_slice_get plan.resources res.0 c.res_name.result.now [] c.res_name.ensures) in
    rw c.in-Lock.is (wrote-as _ _ _ _ _ (sym (steps_join plan (run_steps c.args.run) (Lock res ∷ []))) (wrote-more _ _ _ _ _ _ c.write_run.ensures (wrote-as _ _ _ _ _ (sym (append-nil _)) (rw named at c.write_name.ensures))))

pub returns-in-Unlock-clause-text : goal.returns-in-Unlock-clause-text
returns-in-Unlock-clause-text g c =
    let plan = c.args.plan.now in
    let res = c.in-Unlock.res in
    let named = sym (get_or_from_slice_get plan.resources res.0 c.res_name-in-Unlock.result.now [] c.res_name-in-Unlock.ensures) in
    rw c.in-Unlock.is (wrote-as _ _ _ _ _ (sym (steps_join plan (run_steps c.args.run) (Unlock res ∷ []))) (wrote-more _ _ _ _ _ _ c.write_run-in-Unlock.ensures (wrote-as _ _ _ _ _ (sym (append-nil _)) (rw named at c.write_name-in-Unlock.ensures))))
