use Rattle.msrp_why.proofs.Causing.{good_start}
use Rattle.msrp_plan.proofs.Common.{IsSomeAnd, refl, subst, turns_when_due}
use Rattle.msrp_why.proofs.Common.{IsCoreState, due_after}
use Rattle.msrp_why.proofs.causes.cause_of.Goals as goal

pub returns-clause-cause : goal.returns-clause-cause
returns-clause-cause c = λ rows good broken noted state.
    let plan = c.args.plan.now in
    let r = c.args.row in
    record {
      good = good;
      fault = broken.fault;
      row = refl;
      expected = λ t. broken.turn t.0 t.1;
      state = λ t.
          let core = (due_after plan rows r t.0 t.1).turn in
          subst (λ n. IsSomeAnd c.args.state (IsCoreState plan r.core.0 n rows)) (turns_when_due plan rows r.core.0 c.cores_with_turn-turns.ensures.accepted (good_start plan rows good).each core) (state core.core);
      turns = λ few other. let out = broken.out (λ _. other) in c.cores_with_turn-turns.ensures.turns rows out.0 out.1 few;
      notes = noted;
    }
