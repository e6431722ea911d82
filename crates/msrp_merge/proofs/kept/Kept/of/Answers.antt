use Rattle.msrp_plan.proofs.Common.{refl}
use Rattle.msrp_merge.proofs.Keeping.{told}
use Rattle.msrp_merge.proofs.kept.Kept.of.Goals as goal

pub returns : goal.returns
returns c = told c.args.row c.args.place _ (record {
  kind = refl;
  d_job = _;
  job = c.unwrap_or-job.ensures;
  d_res = _;
  res = c.unwrap_or-res.ensures;
  carries = c.is_some-carries.ensures;
  d_ahead = _;
  ahead = c.unwrap_or-ahead.ensures;
  at = c.touch_of-touch.ensures;
})
