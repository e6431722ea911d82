use Rattle.msrp_plan.proofs.Common.{rules}
use Rattle.msrp_audit.proofs.SmallRows.{row_again}
use Rattle.msrp_audit.proofs.small_row.SmallRow.of.Goals as goal

pub returns : goal.returns
returns c = row_again c.args.row _ _ c.unwrap_or-job.result c.unwrap_or-res.result _ c.unwrap_or-job.ensures c.unwrap_or-res.ensures (record {
  tick = search rules;
  core = search rules;
  kind = c.code_of-code.ensures.kind;
  task = search rules;
  k = search rules;
  res = search rules;
  ahead = c.code_of-code.ensures.ahead;
})
