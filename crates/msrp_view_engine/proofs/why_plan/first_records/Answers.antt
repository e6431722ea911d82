use Rattle.std.proofs.Common.{◌≡◌, ◌∙◌, ◌∷◌, ◌++◌}
use Rattle.msrp_plan.proofs.Common.{rules, [], Some, true, false, ap, arith, map, take, map-append}
use Rattle.msrp_view_engine.proofs.Common.{csv_records, fields_of}
use Rattle.msrp_text.proofs.Remaining.{gave-none, gave-one}
use Rattle.msrp_view_engine.proofs.ReadThrough.{all-taken, one-more}
use Rattle.msrp_view_engine.proofs.why_plan.first_records.Goals as goal

pub loop-record-init : goal.loop-record-init
loop-record-init c = record {
  within = omega arith;
  left = c.new-reader.ensures.left;
  read = search rules;
}

pub loop-record-preserved : goal.loop-record-preserved
loop-record-preserved c =
    let i = c.loop-record.invariant in
    let records = csv_records c.args.bytes.now in
    let found : c.in-Ok.found ≡ true = search rules in
    let next = gave-one _ _ _ _ (c.in-Ok.ensures.next _ i.left) found in
    let more = one-more records c.loop-record._record _ _ next.1 in
    record {
      within = omega (arith, c.loop-record-test.true);
      left = next.2 ∙ ap (λ left. Some left) more.0;
      read = ap (map fields_of) c.in_ok-push.ensures.items ∙ (map-append fields_of c.loop-record.records.items (c.read.new.row ∷ []) ∙ (ap (λ rows. rows ++ fields_of c.read.new.row ∷ []) i.read ∙ more.1));
    }

pub returns-then-not-found-clause-records : goal.returns-then-not-found-clause-records
returns-then-not-found-clause-records c =
    let i = c.loop-record.invariant in
    let found : c.in-Ok.found ≡ false = search rules in
    let none = gave-none _ _ _ _ (c.in-Ok.ensures.next _ i.left) found in
    i.read ∙ all-taken (csv_records c.args.bytes.now) c.loop-record._record c.args.most none i.within

pub returns-clause-records : goal.returns-clause-records
returns-clause-records c =
    let i = c.loop-record.invariant in
    let all : c.loop-record._record ≡ c.args.most = omega (arith, c.loop-record-test.false, i.within) in
    i.read ∙ ap (λ n. take n (csv_records c.args.bytes.now)) all
