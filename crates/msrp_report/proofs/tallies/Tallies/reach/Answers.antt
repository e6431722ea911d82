use Rattle.std.proofs.Common.{◌≡◌, ◌<◌, ◌*◌, ◌++◌, ◌∷◌, ◌∙◌}
use Rattle.msrp_plan.proofs.Common.{[], List, length, length-append, sym, arith, legal_due, all_weaker, start_last, mul_comm, div_below, PlanModel, IsPlan, IsRunStart}
use Rattle.msrp_plan.specs.declared.rows.Row.{Row as TraceRow}
use Rattle.msrp_report.proofs.RowSteps.{tick_begun}
use Rattle.msrp_report.proofs.TallySteps.{none_begun}
use Rattle.msrp_report.proofs.tallies.Tallies.reach.Goals as goal

-- the next row stands in a tick of the plan
tick_left : (plan : PlanModel) (rows : List TraceRow) (r : TraceRow) → IsPlan plan → IsRunStart plan (rows ++ r ∷ []) → r.tick < plan.ticks
tick_left plan rows r ok start =
    let tick = (legal_due plan rows r (start_last plan rows r start)).tick in
    let more = length-append rows (r ∷ []) in
    let size = start.size in
    let comm : plan.cores * plan.ticks ≡ plan.ticks * plan.cores = mul_comm plan.cores plan.ticks in
    let low = ok.draft.cores in
    let few = div_below (length rows) plan.cores plan.ticks (omega (arith, low)) (omega (arith, more, size, comm)) in
    omega (arith, tick, few)

pub returns-then-tick-self-clause-begun : goal.returns-then-tick-self-clause-begun
returns-then-tick-self-clause-begun c =
    let t = c.requires.told in
    let ne = c.if-tick-self.true in
    let same = t.2 in
    let next = tick_begun c.args.plan.now t.1.0 t.0 c.args.self.now.begun t.1.1.begun t.1.2 (λ e. ne (sym same ∙ e)) in
    omega (arith, next, same)

pub begin-requires-clause-told : goal.begin-requires-clause-told
begin-requires-clause-told c = let t = c.requires.told.1 in (t.0, none_begun c.args.plan.now t.0 c.args.self.now t.1)

pub begin-requires-clause-left : goal.begin-requires-clause-left
begin-requires-clause-left c =
    let t = c.requires.told in
    let left = tick_left c.args.plan.now t.1.0 t.0 c.requires.plan t.1.2 in
    let same = c.if-tick-self.false in
    let at = t.2 in
    omega (arith, left, same, at)

pub returns-clause-told : goal.returns-clause-told
returns-clause-told c = λ rows row told start at.
    let next = c.begin.ensures.begun in
    let same = c.if-tick-self.false in
    let before = c.args.self.now.begun in
    let due = (legal_due c.args.plan.now rows row (start_last c.args.plan.now rows row start)).tick in
    let none = none_begun c.args.plan.now rows c.args.self.now told in
    record {
      begun = record {
        early = all_weaker (λ (x : TraceRow). x.tick < before) (λ x. x.tick < c.begin.new.self.begun) (λ x h. omega (arith, h, next)) rows told.begun.early;
        least = omega (arith, next, same, at, due);
        most = omega (arith, next, same, at, due);
      };
      tallies = c.begin.ensures.told rows none;
      releases = c.begin.ensures.releases;
      active = c.begin.ensures.active rows none;
    }
