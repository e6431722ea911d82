use Rattle.std.proofs.Common.{◌++◌, ◌∷◌}
use Rattle.msrp_plan.proofs.Common.{[], sym, subst, arith}
use Rattle.msrp_report.proofs.Common.{AreTallies, HaveBegun, IsNextOf}
use Rattle.msrp_report.proofs.ActiveRows.{cores_idle}
use Rattle.msrp_report.proofs.RowSteps.{begun_push, tallies_idle}
use Rattle.msrp_report.proofs.tallies.Tallies.feed.Goals as goal

pub count-requires-clause-told : goal.count-requires-clause-told
count-requires-clause-told c = let t = c.requires.told in (t.0, t.1.tallies, record { start = t.2; tick = c.requires.begun }, t.1.active)

pub returns-in_default-clause-told : goal.returns-in_default-clause-told
returns-in_default-clause-told c = λ rows told start.
    let plan = c.args.plan.now in
    let n = c.args.self.now.begun in
    let next : IsNextOf plan rows c.args.row n = record { start = start; tick = c.requires.begun } in
    record {
      begun = begun_push plan rows c.args.row n n c.requires.plan told.begun.early (omega arith) next;
      tallies = tallies_idle plan rows c.args.row n c.args.self.now.tasks.items c.requires.plan c.in_default.is next told.tallies;
      releases = told.releases;
      active = cores_idle plan rows c.args.row c.args.self.now.active.items c.in_default.is told.active;
    }

pub returns-clause-told : goal.returns-clause-told
returns-clause-told c = λ rows told start.
    let plan = c.args.plan.now in
    let n = c.args.self.now.begun in
    let next : IsNextOf plan rows c.args.row n = record { start = start; tick = c.requires.begun } in
    let same = c.count.ensures.begun in
    record {
      begun = subst (HaveBegun plan (rows ++ c.args.row ∷ [])) (sym same) (begun_push plan rows c.args.row n n c.requires.plan told.begun.early (omega arith) next);
      tallies = subst (λ b. AreTallies plan (rows ++ c.args.row ∷ []) (λ _. b) c.count.new.self.tasks.items) (sym same) (c.count.ensures.told rows told.tallies next);
      releases = c.count.ensures.releases told.releases;
      active = c.count.ensures.active rows told.tallies told.active next;
    }
