use Rattle.msrp_plan.proofs.Common.{refl}
use Rattle.msrp_report.proofs.Reporting.{goes_on}
use Rattle.msrp_report.proofs.counter.Counter.count.Goals as goal

pub reach-requires-clause-told : goal.reach-requires-clause-told
reach-requires-clause-told c = let t = c.requires in (c.args.row, (t.0, t.1.told, goes_on c.args.self.now.plan.now t.0 c.args.row t.1.told.tallies.start t.2), refl)

pub feed-requires-clause-told : goal.feed-requires-clause-told
feed-requires-clause-told c =
    let t = c.requires in
    let start = goes_on c.args.self.now.plan.now t.0 c.args.row t.1.told.tallies.start t.2 in
    (t.0, c.reach.ensures.told t.0 c.args.row t.1.told start refl, start)

pub returns-clause-counted : goal.returns-clause-counted
returns-clause-counted c = λ rows is good. let start = goes_on c.args.self.now.plan.now rows c.args.row is.told.tallies.start good in record {
  accepted = is.accepted;
  levels = is.levels;
  told = c.feed.ensures.told rows (c.reach.ensures.told rows c.args.row is.told start refl) start;
  lines = is.lines;
  room = is.room;
}
